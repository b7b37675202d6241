use Rattle.std.proofs.Common.{refl, arith}
use Rattle.gcd_sets.proofs.OneWord.{lowest_none, lowest_some}
use Rattle.gcd_sets.proofs.word.lowest_from.Goals as goal

pub returns-then-rest-eq0 : goal.returns-then-rest-eq0
returns-then-rest-eq0 c = lowest_none c.args.word c.args.from _ c.requires refl c.if-rest-eq0.true

pub returns : goal.returns
returns c = lowest_some c.args.word c.args.from _ c.requires (omega (arith, c.ranges.word)) refl (omega (arith, c.if-rest-eq0.false))

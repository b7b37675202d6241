use Rattle.std.proofs.Common.{◌<◌, ◌≤◌, sym, ◌∙◌, arith}
use Rattle.gcd_script.proofs.Numbers.{number_in, number_low, number_high}
use Rattle.gcd_script.proofs.words.within.Goals as goal

pub returns-then-n-from-clause-value : goal.returns-then-n-from-clause-value
returns-then-n-from-clause-value c =
    let under : c.in-Some.n < c.args.low = omega arith in
    sym (number_low c.args.low c.args.high c.args.word.now c.in-Some.n (sym c.as_bytes.ensures.value ∙ c.in-Some.ensures.written) c.in-Some.ensures.low under)

pub returns-then-from-n-clause-value : goal.returns-then-from-n-clause-value
returns-then-from-n-clause-value c =
    let over : c.args.high < c.in-Some.n = omega arith in
    sym (number_high c.args.low c.args.high c.args.word.now c.in-Some.n (sym c.as_bytes.ensures.value ∙ c.in-Some.ensures.written) c.in-Some.ensures.low over)

pub returns-else-from-n-clause-value : goal.returns-else-from-n-clause-value
returns-else-from-n-clause-value c =
    let above : c.args.low ≤ c.in-Some.n = omega arith in
    let below : c.in-Some.n ≤ c.args.high = omega arith in
    sym (number_in c.args.low c.args.high c.args.word.now c.in-Some.n (sym c.as_bytes.ensures.value ∙ c.in-Some.ensures.written) c.in-Some.ensures.low above below)

use Rattle.std.proofs.Common.{◌∙◌}
use Rattle.gcd_source.proofs.Merges.{zero_changes_nothing}
use Rattle.gcd_source.proofs.sources.Sources.merge.Goals as goal

pub returns-clause-nothing : goal.returns-clause-nothing
returns-clause-nothing c keeps none = c.fold_in.ensures ∙ zero_changes_nothing c.args.self.now c.args.s.0 c.args.v c.requires.source keeps none

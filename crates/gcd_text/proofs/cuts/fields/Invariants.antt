use Rattle.std.proofs.Common.{◌≡◌, ◌++◌, length, map}
use Rattle.gcd_text.specs.Fields.{fields_of}
use Rattle.gcd_text.proofs.cuts.fields.Given as goal

abbrev pub invariant-loop-field : goal.invariant-loop-field
invariant-loop-field l = map (λ field. field.now) l.fields.items ++ fields_of l.rest ≡ fields_of l.line

abbrev pub decreases-loop-field : goal.decreases-loop-field
decreases-loop-field l = length l.rest

-- What a source's handler has taken before the delivery that is open.
use Rattle.std.specs.Prelude.{ℕ, List, [], ◌∷◌, reverse, if◌then◌else◌}
use Rattle.gcd_plan.specs.PlanView.{PlanView}
use Rattle.gcd_event.specs.declared.event.Event.{Event}
use Rattle.gcd_history.specs.Sources.{delivers, fold_at, handed}

-- what the Delivers of source s before its last one handed over, in order; the newest event comes first
abbrev pub handed_earlier : PlanView → List Event → ℕ → List ℕ
handed_earlier plan [] s = []
handed_earlier plan (e ∷ past) s = if delivers s e then handed plan past s else handed_earlier plan past s

-- all that they handed over, in one, as the source's kind folds values (`folded` of gcd_plan): bit by bit at an or source, the
-- newest at a replace source, and else by addition
unfoldable pub received_earlier : PlanView → List Event → ℕ → ℕ
received_earlier plan h s = fold_at plan s (handed_earlier plan (reverse h) s)

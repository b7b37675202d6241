-- What an array of a plan's kinds tells is what the plan says.
use Rattle.std.proofs.Common.{◌≡◌, ℕ, Bool, false, map, sym, ◌∙◌}
use Rattle.std.specs.List.{slice_get, slice_index_or}
use Rattle.gcd_plan.specs.PlanView.{PlanView, ObjView}
use Rattle.gcd_plan.specs.Kinds.{has_kind}
use Rattle.gcd_plan.specs.declared.kind.Kind.{Kind}
use Rattle.gcd_plan.proofs.Mapped.{get_or-mapped}
use Rattle.gcd_plan.proofs.Options.{option_map_or-map}

pub kind_told : (test : Kind → Bool) (plan : PlanView) (o : ℕ) → slice_index_or (map (λ (x : ObjView). test x.kind) plan.objects) o false ≡ has_kind test plan o
kind_told test plan o = get_or-mapped (λ (x : ObjView). test x.kind) plan.objects o false ∙ sym (option_map_or-map (λ (x : ObjView). x.kind) test (slice_get plan.objects o) false)

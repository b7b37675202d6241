use Rattle.std.proofs.Common.{ℕ, Option, ap, sym, ◌∙◌}
use Rattle.std.specs.Option.{option_map}
use Rattle.gcd_plan.specs.HeldParts.{parts_of}
use Rattle.gcd_plan.specs.declared.numbers.Obj.{Obj}
use Rattle.gcd_plan.specs.declared.parts.Parts.{Parts}
use Rattle.gcd_plan.proofs.Named.{object_found}
use Rattle.gcd_plan.proofs.plan.Plan.object_named.Goals as goal

abbrev numbered : ℕ → Obj
numbered n = record { 0 = n }

pub returns-in_err-place : goal.returns-in_err-place
returns-in_err-place c =
    c.from_residual.ensures ∙ ap (λ (place : Option ℕ). option_map (λ (n : ℕ). numbered n) place) (sym c.in_err-place.was)
    ∙ object_found (parts_of c.self.inside.held) _ c.args.self.now c.args.name.now _ c.place_of_object.ensures (c.deref.ensures.value ∙ ap (λ (p : Parts). p.objects.items) c.parts.ensures) c.self.view_is

pub returns : goal.returns
returns c =
    ap (λ (place : Option ℕ). option_map (λ (n : ℕ). numbered n) place) (sym c.in_ok-place.was)
    ∙ object_found (parts_of c.self.inside.held) _ c.args.self.now c.args.name.now _ c.place_of_object.ensures (c.deref.ensures.value ∙ ap (λ (p : Parts). p.objects.items) c.parts.ensures) c.self.view_is

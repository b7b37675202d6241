-- The strips of a plan: as the code has them, and among its blocks.
use Rattle.std.proofs.Common.{◌≡◌, ℕ, zero, suc, ◌+◌, ◌<◌, ◌≤◌, leb, List, [], ◌∷◌, length, map, get_or, Some, sym, ap, arith, ◌++◌, true, ◌∙◌}
use Rattle.std.specs.List.{slice_get, list_all}
use Rattle.std.specs.Option.{option_map}
use Rattle.std.proofs.lemmas.Bool.{and_parts, leb-true}
use Rattle.std.proofs.lemmas.List.Folds.{list_all-append}
use Rattle.std.proofs.lemmas.Option.{slice_get-map}
use Rattle.gcd_plan.specs.PlanView.{PlanView, StripView, strip_view}
use Rattle.gcd_plan.specs.declared.parts.StripPart.{StripPart}
use Rattle.gcd_plan.specs.Validity.{IsPlan}
use Rattle.gcd_plan.specs.Names.{is_name}
use Rattle.gcd_plan.proofs.Quantifiers.{list_all_get}

-- a strip of the code, as the plan has it
pub strip_there : (strips : List StripPart) (a : ℕ) (s : StripPart) → a < length strips → s ≡ get_or strips a s → slice_get (map strip_view strips) a ≡ Some (strip_view s)
strip_there [] a s low is = absurd (omega (arith, low))
strip_there (x ∷ xs) zero s low is = ap (λ y. Some (strip_view y)) (sym is)
strip_there (x ∷ xs) (suc a) s low is = strip_there xs a s (omega (arith, low)) is

-- the blocks of a strip are the plan's
pub strip_low : (plan : PlanView) (a : ℕ) (s : StripView) → IsPlan plan → slice_get plan.strips a ≡ Some s → s.first + s.count ≤ length plan.blocks
strip_low plan a s valid at =
    let strip = valid.strips a s at in
    leb-true (s.first + s.count) (length plan.blocks) (and_parts (leb 1 s.first) (leb (s.first + s.count) (length plan.blocks)) strip.among).1

-- and it has a name
pub strip_named : (plan : PlanView) → IsPlan plan → (a : ℕ) (s : StripView) → slice_get plan.strips a ≡ Some s → is_name s.name ≡ true
strip_named plan valid a s at =
    let files = map (λ f. f.name) plan.files in
    let objects = map (λ o. o.name) plan.objects in
    let strips = map (λ s. s.name) plan.strips in
    let all = and_parts (list_all is_name files) (list_all is_name (objects ++ strips)) (sym (list_all-append is_name files (objects ++ strips)) ∙ valid.names) in
    let most = and_parts (list_all is_name objects) (list_all is_name strips) (sym (list_all-append is_name objects strips) ∙ all.1) in
    list_all_get is_name strips a s.name most.1 (slice_get-map (λ s. s.name) plan.strips a ∙ ap (option_map (λ s. s.name)) at)

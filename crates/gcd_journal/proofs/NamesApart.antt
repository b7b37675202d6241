-- The names of a valid plan's blocks and sources are apart.
use Rattle.std.proofs.Common.{◌≡◌, ℕ, ◌+◌, ◌<◌, true, List, [], ◌++◌, length, map, Some, refl, ap, sym, ◌∙◌, arith}
use Rattle.std.specs.List.{slice_get}
use Rattle.std.specs.Option.{option_map, option_map_or}
use Rattle.std.specs.Str.{bytes_eq}
use Rattle.std.proofs.lemmas.Bool.{ltb-true}
use Rattle.std.proofs.lemmas.Option.{slice_get-map}
use Rattle.std.proofs.lemmas.List.{length-map, length-append}
use Rattle.std.proofs.lemmas.Slice.Eq.{bytes_eq-Decides}
use Rattle.gcd_plan.specs.PlanView.{PlanView}
use Rattle.gcd_plan.specs.Kinds.{is_source_kind}
use Rattle.gcd_plan.specs.Validity.{IsPlan, declared_names, names_of}
use Rattle.gcd_plan.proofs.Numbered.{same_blk, same_obj}
use Rattle.gcd_plan.specs.declared.numbers.Run.{Run}
use Rattle.gcd_plan.specs.declared.numbers.Run.TheVariants.{Block, Source}
use Rattle.gcd_plan.proofs.Places.{slice_get-append_left, slice_get_some}
use Rattle.gcd_plan.proofs.Within.{has_object}
use Rattle.gcd_plan.proofs.Sums.{one_place}
use Rattle.gcd_history.specs.Permitted.{is_run_of}
use Rattle.gcd_history.specs.Report.{name_of_run}
use Rattle.gcd_journal.proofs.Cuts.{get_second}

-- the place of a run's name among the names of the plan
place_of : PlanView → Run → ℕ
place_of plan (Block b) = (length plan.files + (length plan.objects + length plan.strips)) + b.0
place_of plan (Source s) = length plan.files + s.0

named : {A : Type 0} (name : A → List ℕ) (xs : List A) (i : ℕ) → i < length xs → slice_get (map name xs) i ≡ Some (option_map_or name (slice_get xs i) [])
named name xs i within =
    let found = slice_get_some xs i within in
    slice_get-map name xs i ∙ ap (option_map name) found.1 ∙ ap (λ o. Some (option_map_or name o [])) (sym found.1)

count_declared : (plan : PlanView) → length (declared_names plan) ≡ length plan.files + (length plan.objects + length plan.strips)
count_declared plan =
    let files = length-map plan.files (λ f. f.name) in
    let objects = length-map plan.objects (λ o. o.name) in
    let strips = length-map plan.strips (λ s. s.name) in
    let inner = length-append (map (λ o. o.name) plan.objects) (map (λ s. s.name) plan.strips) in
    let outer = length-append (map (λ f. f.name) plan.files) (map (λ o. o.name) plan.objects ++ map (λ s. s.name) plan.strips) in
    omega (arith, files, objects, strips, inner, outer)

at_place : (plan : PlanView) (run : Run) → is_run_of plan run ≡ true → slice_get (names_of plan) (place_of plan run) ≡ Some (name_of_run plan run)
unfolding place_of
at_place plan (Block b) h =
    let declared = declared_names plan in
    let blocks = map (λ b. b.name) plan.blocks in
    let within : b.0 < length plan.blocks = ltb-true b.0 (length plan.blocks) h in
    let count = count_declared plan in
    get_second declared blocks b.0 ((length plan.files + (length plan.objects + length plan.strips)) + b.0) (omega (arith, count))
    ∙ named (λ b. b.name) plan.blocks b.0 within
at_place plan (Source s) h =
    let files = map (λ f. f.name) plan.files in
    let objects = map (λ o. o.name) plan.objects in
    let strips = map (λ s. s.name) plan.strips in
    let blocks = map (λ b. b.name) plan.blocks in
    let within : s.0 < length plan.objects = has_object is_source_kind plan s.0 h in
    let few = length-map plan.files (λ f. f.name) in
    let some = length-map plan.objects (λ o. o.name) in
    let count = count_declared plan in
    slice_get-append_left (declared_names plan) blocks (length plan.files + s.0) (omega (arith, count, within))
    ∙ get_second files (objects ++ strips) s.0 (length plan.files + s.0) (omega (arith, few))
    ∙ slice_get-append_left objects strips s.0 (omega (arith, some, within))
    ∙ named (λ o. o.name) plan.objects s.0 within

-- runs at one place are one run
same_place : (plan : PlanView) (r q : Run) → is_run_of plan r ≡ true → is_run_of plan q ≡ true → place_of plan r ≡ place_of plan q → r ≡ q
unfolding place_of
same_place plan (Block b) (Block c) h k at = ap Block (same_blk b c (omega arith))
same_place plan (Block b) (Source s) h k at = let within = has_object is_source_kind plan s.0 k in absurd (omega arith)
same_place plan (Source s) (Block b) h k at = let within = has_object is_source_kind plan s.0 h in absurd (omega arith)
same_place plan (Source s) (Source t) h k at = ap Source (same_obj s t (omega arith))

-- runs of one name are one run
pub runs_apart : (plan : PlanView) (r q : Run) → IsPlan plan → is_run_of plan r ≡ true → is_run_of plan q ≡ true → name_of_run plan r ≡ name_of_run plan q → r ≡ q
runs_apart plan r q valid h k same =
    let name = name_of_run plan r in
    let own : bytes_eq name name ≡ true = (bytes_eq-Decides name name).1 refl in
    let other : bytes_eq name (name_of_run plan q) ≡ true = (bytes_eq-Decides name (name_of_run plan q)).1 same in
    same_place plan r q h k
    (one_place (bytes_eq name) (names_of plan) (place_of plan r) (place_of plan q) name (name_of_run plan q) (at_place plan r h) (at_place plan q k) own other (valid.names_apart name))

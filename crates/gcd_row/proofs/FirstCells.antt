-- The cells of a new board are those of blocks and objects.
use Rattle.std.proofs.Common.{◌≡◌, ℕ, zero, suc, ◌+◌, ◌<◌, Bool, true, false, cond, List, [], ◌∷◌, ◌++◌, length, map, filter, drop, sym, refl, ap, ◌∙◌, subst, arith, Some, None, Option, length-append, append_assoc, add-one}
use Rattle.std.specs.Prelude.{slice_get, option_map, All}
use Rattle.std.specs.Option.{option_map_or}
use mathlib.Core.Option.{some}
use lib.ListN.{get_elem?}
use Rattle.std.proofs.lemmas.Option.{same_Some}
use Rattle.gcd_plan.specs.PlanView.{PlanView, ObjView, IsRun, kind_of}
use Rattle.gcd_plan.specs.Kinds.{is_source_kind}
use Rattle.gcd_plan.specs.declared.kind.Kind.{Kind}
use Rattle.gcd_plan.specs.declared.numbers.Run.{Run}
use Rattle.gcd_plan.specs.declared.numbers.Run.TheVariants.{Block, Source}
use Rattle.gcd_row.specs.Shapes.{Shape, body, handler, away, shape_of}
use Rattle.gcd_row.specs.Lying.{slot_of, source_shape}
use Rattle.gcd_row.specs.Opening.{AreHandlersOf, next_cell, object_cells, first_cells, first_shape, AreFirst}
use Rattle.gcd_row.specs.declared.cell.Cell.{Cell}
use Rattle.gcd_row.specs.declared.cell.Cell.TheVariants.{Body, Handler, Away}
use Rattle.gcd_history.specs.History.{delivery_count_of, received_of}
use Rattle.gcd_history.specs.Sources.{fold_of}

module _ {J H : Type 0} where
  -- the cells of the objects from n on, one object on
  object_step : (objects : List ObjView) (n : ℕ) (hs : List H) (kind : Kind) (b : Bool) → option_map (λ o. o.kind) (slice_get objects n) ≡ Some kind → is_source_kind kind ≡ b
      → object_cells {J = J} (drop n objects) hs ≡ cond b (next_cell hs ∷ object_cells (drop (suc n) objects) (drop 1 hs)) (Away ∷ object_cells (drop (suc n) objects) hs)
  object_step [] n hs kind b at is = absurd (cc)
  object_step (o ∷ objects) zero hs kind b at is = let same : o.kind ≡ kind = same_Some o.kind kind at in
      ap (λ (x : Bool). cond x (next_cell hs ∷ object_cells objects (drop 1 hs)) (Away ∷ object_cells objects hs)) (ap is_source_kind same ∙ is)
  object_step (o ∷ objects) (suc n) hs kind b at is = object_step objects n hs kind b at is

  pub objects_on : (cells whole : List (Cell J H)) (objects : List ObjView) (n : ℕ) (hs later : List H) (cell : Cell J H) (kind : Kind) (b : Bool) → option_map (λ o. o.kind) (slice_get objects n) ≡ Some kind → b ≡ is_source_kind kind
      → cell ≡ cond b (next_cell hs) Away → later ≡ cond b (drop 1 hs) hs → cells ++ object_cells (drop n objects) hs ≡ whole → (cells ++ cell ∷ []) ++ object_cells (drop (n + 1) objects) later ≡ whole
  objects_on cells whole objects n hs later cell kind b at is cell_is later_is old = rw add-one (
      append_assoc cells (cell ∷ []) (object_cells (drop (suc n) objects) later)
      ∙ ap (λ (l : List (Cell J H)). cells ++ l) (go b cell_is later_is ∙ sym (object_step objects n hs kind b at (sym is)))
      ∙ old)
    where
      go : (b : Bool) → cell ≡ cond b (next_cell hs) Away → later ≡ cond b (drop 1 hs) hs → cell ∷ object_cells {J = J} (drop (suc n) objects) later ≡ cond b (next_cell hs ∷ object_cells (drop (suc n) objects) (drop 1 hs)) (Away ∷ object_cells (drop (suc n) objects) hs)
      go true x y = λ i. x i ∷ object_cells (drop (suc n) objects) (y i)
      go false x y = λ i. x i ∷ object_cells (drop (suc n) objects) (y i)

abbrev bodies : (J H : Type 0) → List J → List (Cell J H)
bodies J H jobs = map (λ job. Body job) jobs

length-bodies : (J H : Type 0) (jobs : List J) → length (bodies J H jobs) ≡ length jobs
length-bodies J H [] = refl
length-bodies J H (x ∷ xs) = ap suc (length-bodies J H xs)

length-objects : (J H : Type 0) (objects : List ObjView) (hs : List H) → length (object_cells {J = J} objects hs) ≡ length objects
length-objects J H [] hs = refl
length-objects J H (o ∷ objects) hs =
    elim (is_source_kind o.kind) as (λ b. length (cond b (next_cell {J = J} hs ∷ object_cells objects (drop 1 hs)) (Away ∷ object_cells objects hs)) ≡ suc (length objects)) [
      | true ↦ ap suc (length-objects J H objects (drop 1 hs))
      | false ↦ ap suc (length-objects J H objects hs)
    ]

-- before the first event nothing was delivered
pub first_source_shape : (plan : PlanView) (s : ℕ) → source_shape plan [] s ≡ option_map_or (λ kind. cond (is_source_kind kind) (handler kind 0 0) away) (kind_of plan s) away
unfolding source_shape delivery_count_of received_of
first_source_shape plan s = go (kind_of plan s)
  where
    go : (o : Option Kind) → option_map_or (λ kind. cond (is_source_kind kind) (handler kind 0 (option_map_or (λ k. fold_of k []) o 0)) away) o away ≡ option_map_or (λ kind. cond (is_source_kind kind) (handler kind 0 0) away) o away
    go None = refl
    go (Some kind) = refl

-- a handler that has not been called yet
abbrev Fresh : {H : Type 0} → (times total : H → ℕ) → H → Type 0
Fresh times total h = (times h ≡ 0) × (total h ≡ 0)

abbrev wanted : Option Kind → Shape
wanted o = option_map_or (λ k. cond (is_source_kind k) (handler k 0 0) away) o away

abbrev kinds_of : List ObjView → List Kind
kinds_of objects = map (λ o. o.kind) objects

abbrev both_kinds : ObjView → List ObjView → Bool → List Kind
both_kinds o objects x = cond x (o.kind ∷ filter is_source_kind (kinds_of objects)) (filter is_source_kind (kinds_of objects))

module _ (J H : Type 0) (kind : H → Kind) (times total : H → ℕ) where
  abbrev Lying : List (Cell J H) → ℕ → Option Kind → Type 0
  Lying cells s o = (c : Cell J H) × (get_elem? cells s ≡ some c) × (shape_of kind times total c ≡ wanted o)

  block_at : (jobs : List J) (more : List (Cell J H)) (b : ℕ) → b < length jobs → (c : Cell J H) × (get_elem? (bodies J H jobs ++ more) b ≡ some c) × (shape_of kind times total c ≡ body)
  block_at [] more b below = absurd (omega arith)
  block_at (j ∷ jobs) more zero below = (Body j, refl, refl)
  block_at (j ∷ jobs) more (suc b) below = block_at jobs more b (omega arith)

  -- one of the cells behind the bodies
  get_behind : (jobs : List J) (more : List (Cell J H)) (s : ℕ) → get_elem? (bodies J H jobs ++ more) (length jobs + s) ≡ get_elem? more s
  get_behind [] more s = ap (get_elem? more) (omega arith)
  get_behind (j ∷ jobs) more s = let next : suc (length jobs) + s ≡ suc (length jobs + s) = omega arith in
      ap (get_elem? (Body j ∷ (bodies J H jobs ++ more))) next ∙ get_behind jobs more s

  -- what is to be shown of the objects that follow
  abbrev Again : List ObjView → Type 0
  Again objects = (l : List H) (k : ℕ) → map kind l ≡ filter is_source_kind (kinds_of objects) → All (Fresh times total) l → k < length objects → Lying (object_cells objects l) k (option_map (λ x. x.kind) (slice_get objects k))

  abbrev Both : ObjView → List ObjView → List H → ℕ → Bool → Type 0
  Both o objects l k x = Lying (cond x (next_cell l ∷ object_cells objects (drop 1 l)) (Away ∷ object_cells objects l)) k (option_map (λ y. y.kind) (slice_get (o ∷ objects) k))

  object_at : (objects : List ObjView) (hs : List H) (s : ℕ) → map kind hs ≡ filter is_source_kind (kinds_of objects) → All (Fresh times total) hs → s < length objects → Lying (object_cells objects hs) s (option_map (λ o. o.kind) (slice_get objects s))
  object_at [] hs s kinds fresh below = absurd (omega arith)
  object_at (o ∷ objects) hs s kinds fresh below = by_kind (λ l k e f b. object_at objects l k e f b) (is_source_kind o.kind) refl hs s kinds fresh below
    where
      rest : (h : H) (l : List H) → All (Fresh times total) (h ∷ l) → All (Fresh times total) l
      rest h l all k d lt = all (suc k) d (omega arith)

      source : Again objects → is_source_kind o.kind ≡ true → (l : List H) (k : ℕ) → map kind l ≡ o.kind ∷ filter is_source_kind (kinds_of objects) → All (Fresh times total) l → k < suc (length objects) → Lying (next_cell l ∷ object_cells objects (drop 1 l)) k (option_map (λ x. x.kind) (slice_get (o ∷ objects) k))
      source again is [] k e f b = absurd (cc)
      source again is (h ∷ l) zero e f b =
          let same : kind h ≡ o.kind = cc in
          let none = f 0 h (omega arith) in
          (Handler h, refl, (λ i. handler (same i) (none.0 i) (none.1 i)) ∙ sym (ap (λ (x : Bool). cond x (handler o.kind 0 0) away) is))
      source again is (h ∷ l) (suc k) e f b = let later : map kind l ≡ filter is_source_kind (kinds_of objects) = cc in again l k later (rest h l f) (omega arith)

      other : Again objects → is_source_kind o.kind ≡ false → (l : List H) (k : ℕ) → map kind l ≡ filter is_source_kind (kinds_of objects) → All (Fresh times total) l → k < suc (length objects) → Lying (Away ∷ object_cells objects l) k (option_map (λ x. x.kind) (slice_get (o ∷ objects) k))
      other again is l zero e f b = (Away, refl, sym (ap (λ (x : Bool). cond x (handler o.kind 0 0) away) is))
      other again is l (suc k) e f b = again l k e f (omega arith)

      by_kind : Again objects → (x : Bool) → is_source_kind o.kind ≡ x → (l : List H) (k : ℕ) → map kind l ≡ both_kinds o objects (is_source_kind o.kind) → All (Fresh times total) l → k < suc (length objects) → Both o objects l k (is_source_kind o.kind)
      by_kind again true is l k e f b = subst (Both o objects l k) (sym is) (source again is l k (e ∙ ap (both_kinds o objects) is) f b)
      by_kind again false is l k e f b = subst (Both o objects l k) (sym is) (other again is l k (e ∙ ap (both_kinds o objects) is) f b)

  pub are_first : (plan : PlanView) (jobs : List J) (hs : List H) → length jobs ≡ length plan.blocks → AreHandlersOf kind times total plan hs → AreFirst (shape_of kind times total) plan (first_cells plan jobs hs)
  are_first plan jobs hs count handlers = record {
    width = omega (arith, length-append (bodies J H jobs) (object_cells plan.objects hs), length-bodies J H jobs, count, length-objects J H plan.objects hs);
    first = at;
  }
    where
      at : (r : Run) → IsRun plan r → (c : Cell J H) × (get_elem? (first_cells plan jobs hs) (slot_of plan r) ≡ some c) × (shape_of kind times total c ≡ first_shape plan r)
      at (Block b) known = block_at jobs (object_cells plan.objects hs) b.0 (omega (arith, known, count))
      at (Source s) known =
          let it = object_at plan.objects hs s.0 handlers.kinds handlers.fresh known in
          (it.0, ap (λ (n : ℕ). get_elem? (first_cells plan jobs hs) (n + s.0)) (sym count) ∙ get_behind jobs (object_cells plan.objects hs) s.0 ∙ it.1, it.2 ∙ sym (first_source_shape plan s.0))

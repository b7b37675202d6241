-- Which blocks are submitted, and what one submission more changes.
use Rattle.std.proofs.Common.{ℕ, ◌≡◌, ◌<◌, ◌≤◌, ◌+◌, ◌==◌, Bool, true, false, ◌||◌, cond, ltb, List, [], ◌∷◌, length, set, Option, Some, None, option_to_list, get_or, count_by, refl, sym, ap, ◌∙◌, subst, ⊎_elim, zero-add, arith}
use Rattle.std.specs.List.{list_any}
use Rattle.std.specs.Option.{option_map_or}
use Rattle.std.proofs.lemmas.Bool.{and_parts, cases_Bool, eqb-true, eqb-false, lt-ltb, not-true}
use Rattle.std.proofs.lemmas.List.{get_or-set_same, get_or-set_other}
use Rattle.gcd_plan.specs.PlanView.{PlanView}
use Rattle.gcd_plan.specs.Validity.{IsPlan, block_of, strip_of, blocks_by, is_act, submitted_blocks}
use Rattle.gcd_plan.specs.Checked.{submits}
use Rattle.gcd_plan.specs.Made.{is_of_strip, strip_blocks}
use Rattle.gcd_plan.specs.declared.act.Act.{Act}
use Rattle.gcd_plan.specs.declared.numbers.Blk.{Blk}
use Rattle.gcd_plan.proofs.Submits.{act_counted, blocks_counted}
use Rattle.gcd_plan.proofs.Sums.{count_by-append, count_by-cons, count_by_none}
use Rattle.gcd_builder.specs.Taken.{is_free, is_unapplied, is_untaken_by}
use Rattle.gcd_builder.proofs.Applied.{unapplied_free}

-- something passes where it is counted
pub any_counts : {X : Type 0} (p : X → Bool) (xs : List X) → list_any p xs ≡ ltb 0 (count_by p xs)
any_counts p [] = refl
any_counts p (x ∷ xs) =
    let rest = any_counts p xs in
    let cons = count_by-cons p x xs in
    elim (p x) as (λ v. count_by p (x ∷ xs) ≡ cond v 1 0 + count_by p xs → v || list_any p xs ≡ ltb 0 (count_by p (x ∷ xs))) [
      | true ↦ λ e. sym (lt-ltb 0 (count_by p (x ∷ xs)) (omega arith))
      | false ↦ λ e. rest ∙ ap (ltb 0) (omega arith)
    ] cons

-- how often block q is the one
pub one_count : (c : Blk) (q : ℕ) → count_by (λ (d : Blk). d.0 == q) (option_to_list (Some c)) ≡ cond (c.0 == q) 1 0
one_count c q = zero-add (cond (c.0 == q) 1 0)

-- a block that no line submits is counted nowhere
pub free_count : (plan : PlanView) (c : Blk) → is_free plan c ≡ true → count_by (λ (d : Blk). d.0 == c.0) (submitted_blocks plan) ≡ 0
free_count plan c free =
    count_by_none (λ (d : Blk). d.0 == c.0) (submitted_blocks plan) (not-true (list_any (λ (d : Blk). d.0 == c.0) (submitted_blocks plan)) free)

-- one free block more, or none, leaves each submitted once
pub once_more : (plan : PlanView) → IsPlan plan → (o : Option Blk) → option_map_or (is_free plan) o true ≡ true → (q : ℕ) → count_by (λ (d : Blk). d.0 == q) (submitted_blocks plan) + count_by (λ (d : Blk). d.0 == q) (option_to_list o) ≤ 1
once_more plan valid None free q = let few = valid.once q in omega arith
once_more plan valid (Some c) free q =
    let few = valid.once q in
    let one = one_count c q in
    elim (c.0 == q) as (λ v. c.0 == q ≡ v → count_by (λ (d : Blk). d.0 == q) (option_to_list (Some c)) ≡ cond v 1 0 → count_by (λ (d : Blk). d.0 == q) (submitted_blocks plan) + count_by (λ (d : Blk). d.0 == q) (option_to_list (Some c)) ≤ 1) [
      | true ↦ λ e one.
          let none : count_by (λ (d : Blk). d.0 == q) (submitted_blocks plan) ≡ 0 = subst (λ n. count_by (λ (d : Blk). d.0 == n) (submitted_blocks plan) ≡ 0) (eqb-true c.0 q e) (free_count plan c free) in
          omega arith
      | false ↦ λ e one. omega arith
    ] refl one

-- the blocks of an act that is not taken, each once
pub act_once : (plan : PlanView) → IsPlan plan → (act : Act) → is_act plan act ≡ true → is_untaken_by plan act ≡ true → (q : ℕ) → count_by (λ (d : Blk). d.0 == q) (submitted_blocks plan) + count_by (λ (d : Blk). d.0 == q) (blocks_by plan act) ≤ 1
act_once plan valid act fits untaken q =
    let free = and_parts (option_map_or (is_free plan) (block_of act) true) (option_map_or (is_unapplied plan) (strip_of act) true) untaken in
    let few = once_more plan valid (block_of act) free.0 q in
    let counted = act_counted plan q act in
    let split = count_by-append (λ (d : Blk). d.0 == q) (option_to_list (block_of act)) (option_map_or (strip_blocks plan) (strip_of act) []) in
    ⊎_elim
    (λ (in_strip : option_map_or (λ a. is_of_strip plan a q) (strip_of act) false ≡ true).
    let none = strip_none plan valid (strip_of act) free.1 q in_strip in
    let one = cond_le (submits plan q act) in
    omega (arith, counted, none, one))
    (λ (out : option_map_or (λ a. is_of_strip plan a q) (strip_of act) false ≡ false).
    let none = strip_out plan (strip_of act) q out in
    omega (arith, few, split, none))
    (cases_Bool (option_map_or (λ a. is_of_strip plan a q) (strip_of act) false))
  where
    cond_le : (v : Bool) → cond v 1 0 ≤ 1
    cond_le true = omega arith
    cond_le false = omega arith

    strip_none : (plan : PlanView) → IsPlan plan → (o : Option ℕ) → option_map_or (is_unapplied plan) o true ≡ true → (q : ℕ) → option_map_or (λ a. is_of_strip plan a q) o false ≡ true → count_by (λ (d : Blk). d.0 == q) (submitted_blocks plan) ≡ 0
    strip_none plan valid None free q found = cc
    strip_none plan valid (Some a) free q found = unapplied_free plan valid a q found free

    strip_out : (plan : PlanView) (o : Option ℕ) (q : ℕ) → option_map_or (λ a. is_of_strip plan a q) o false ≡ false → count_by (λ (d : Blk). d.0 == q) (option_map_or (strip_blocks plan) o []) ≡ 0
    strip_out plan None q out = refl
    strip_out plan (Some a) q out = blocks_counted plan a q ∙ ap (λ v. cond v 1 0) out

-- flags of submitted blocks after one submission more
pub flag_after : (flags : List Bool) (old new : List Blk) (c : Blk) → ((b : ℕ) → get_or flags b false ≡ list_any (λ (d : Blk). d.0 == b) old) → c.0 < length flags → ((q : ℕ) → count_by (λ (d : Blk). d.0 == q) new ≡ count_by (λ (d : Blk). d.0 == q) old + count_by (λ (d : Blk). d.0 == q) (option_to_list (Some c))) → (q : ℕ) → get_or (set flags c.0 true) q false ≡ list_any (λ (d : Blk). d.0 == q) new
flag_after flags old new c agrees within more q =
    let counted = more q in
    let one = one_count c q in
    elim (c.0 == q) as (λ v. c.0 == q ≡ v → count_by (λ (d : Blk). d.0 == q) (option_to_list (Some c)) ≡ cond v 1 0 → get_or (set flags c.0 true) q false ≡ list_any (λ (d : Blk). d.0 == q) new) [
      | true ↦ λ e own.
          ap (λ n. get_or (set flags c.0 true) n false) (sym (eqb-true c.0 q e))
          ∙ get_or-set_same flags c.0 true false within
          ∙ sym (any_counts (λ (d : Blk). d.0 == q) new ∙ lt-ltb 0 (count_by (λ (d : Blk). d.0 == q) new) (omega arith))
      | false ↦ λ e own.
          get_or-set_other flags c.0 q true false (λ same. eqb-false c.0 q e (sym same))
          ∙ agrees q
          ∙ any_counts (λ (d : Blk). d.0 == q) old
          ∙ ap (ltb 0) (omega arith)
          ∙ sym (any_counts (λ (d : Blk). d.0 == q) new)
    ] refl one

-- and where nothing more is submitted
pub flag_same : (flags : List Bool) (old new : List Blk) → ((b : ℕ) → get_or flags b false ≡ list_any (λ (d : Blk). d.0 == b) old) → ((q : ℕ) → count_by (λ (d : Blk). d.0 == q) new ≡ count_by (λ (d : Blk). d.0 == q) old) → (q : ℕ) → get_or flags q false ≡ list_any (λ (d : Blk). d.0 == q) new
flag_same flags old new agrees same q =
    agrees q ∙ any_counts (λ (d : Blk). d.0 == q) old ∙ ap (ltb 0) (sym (same q)) ∙ sym (any_counts (λ (d : Blk). d.0 == q) new)

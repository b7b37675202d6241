-- What stands beside the plan before the first line.
use Rattle.std.proofs.Common.{ℕ, zero, suc, count_by, ◌≡◌, ◌<◌, ◌≤◌, ◌+◌, true, false, not, ◌&&◌, cond, List, [], ◌∷◌, Option, Some, None, option_map, codes, get_or, refl, sym, ap, ◌∙◌, subst, lit≤, arith}
use Rattle.std.specs.Option.{option_or}
use Rattle.std.specs.Str.{bytes_eq}
use Rattle.gcd_plan.specs.Names.{is_name}
use Rattle.gcd_plan.specs.Validity.{IsPlan, has_name, reaches_root}
use Rattle.gcd_builder.specs.declared.meaning.Meaning.{Meaning}
use Rattle.gcd_builder.specs.declared.meaning.Meaning.TheVariants.{Object, Block}
use Rattle.std.specs.HashMap.{HashMap}
use Rattle.std.specs.Borrow.{Bor}
use Rattle.gcd_builder.specs.Agreement.{AgreeWithPlan, Declares, look_up}
use Rattle.gcd_builder.specs.Changes.{empty_plan}
use Rattle.gcd_builder.specs.Names.{meaning_of}
use Rattle.gcd_builder.proofs.Places.{same_bytes, bytes_same}

-- `root` alone has a meaning
only_root : (q : List ℕ) → meaning_of empty_plan q ≡ cond (bytes_eq (codes "root") q) (Some (Object (record { 0 = 0 }))) None
unfolding meaning_of
only_root q =
    elim (bytes_eq (codes "root") q) as (λ v. bytes_eq (codes "root") q ≡ v → meaning_of empty_plan q ≡ cond v (Some (Object (record { 0 = 0 }))) None) [
      | true ↦ λ e. ap (meaning_of empty_plan) (sym (same_bytes (codes "root") q e))
      | false ↦ λ e.
          elim (bytes_eq q (codes "root")) as (λ w. bytes_eq q (codes "root") ≡ w → cond (is_name q && not (bytes_eq q (codes "main"))) (option_or (option_map (λ o. Object (record { 0 = o })) (cond w (Some 0) None)) (option_map (λ b. Block (record { 0 = b })) (cond (bytes_eq q (codes "main")) (Some 0) None))) None ≡ None) [
            | true ↦ λ r. let same = same_bytes q (codes "root") r in let no : true ≡ false = sym (bytes_same (codes "root")) ∙ ap (bytes_eq (codes "root")) (sym same) ∙ e in cc
            | false ↦ λ r.
                elim (bytes_eq q (codes "main")) as (λ m. cond (is_name q && not m) (option_map (λ b. Block (record { 0 = b })) (cond m (Some 0) None)) None ≡ None) [
                  | true ↦ elim (is_name q) as (λ n. ◌≡◌ {A = Option Meaning} (cond (n && false) (Some (Block (record { 0 = 0 }))) None) None) [ true ↦ refl | false ↦ refl ]
                  | false ↦ elim (is_name q) as (λ n. ◌≡◌ {A = Option Meaning} (cond {A = Option Meaning} (n && true) None None) None) [ true ↦ refl | false ↦ refl ]
                ]
          ] refl
    ] refl

-- a map that is empty finds nothing
pub finds_nothing : {S : Type 0} (meanings : HashMap (Bor (List ℕ)) Meaning S) → meanings.entries ≡ [] → (name : List ℕ) → look_up meanings name ≡ None
finds_nothing meanings none name = rw none refl

one_flag : (b : ℕ) → get_or (false ∷ []) b false ≡ false
one_flag zero = refl
one_flag (suc b) = refl

pub empty_agrees : (old new : List ℕ → Option Meaning) → ((q : List ℕ) → old q ≡ None) → Declares old new (codes "root") (Object (record { 0 = 0 })) → AgreeWithPlan new (false ∷ []) [] 0 empty_plan
empty_agrees old new none adds = record {
  means = λ q. adds q ∙ ap (cond (bytes_eq (codes "root") q) (Some (Object (record { 0 = 0 })))) (none q) ∙ sym (only_root q);
  flags = refl;
  blocks = one_flag;
  marks = refl;
  strips = λ a. refl;
  count = refl;
}

-- its names are apart, and root reaches root
apart_names : (q : List ℕ) → count_by (bytes_eq q) (codes "root" ∷ codes "main" ∷ []) ≤ 1
apart_names q =
    elim (bytes_eq q (codes "root")) as (λ v. bytes_eq q (codes "root") ≡ v → 0 + cond v 1 0 + cond (bytes_eq q (codes "main")) 1 0 ≤ 1) [
      | true ↦ λ e. subst (λ n. 0 + 1 + cond (bytes_eq n (codes "main")) 1 0 ≤ 1) (sym (same_bytes q (codes "root") e)) (lit≤ tt)
      | false ↦ λ e. elim (bytes_eq q (codes "main")) as (λ w. 0 + 0 + cond w 1 0 ≤ 1) [ true ↦ lit≤ tt | false ↦ lit≤ tt ]
    ] refl

root_reaches : (o : ℕ) → o < 1 → reaches_root empty_plan o ≡ true
root_reaches zero h = refl
root_reaches (suc o) h = absurd (omega arith)

main_named : (b : ℕ) → b < 1 → has_name empty_plan b ≡ true
main_named zero h = refl
main_named (suc b) h = absurd (omega arith)

-- and it is valid
pub empty_valid : IsPlan empty_plan
empty_valid = record {
  root = refl;
  main = refl;
  main_idle = refl;
  few_objects = lit≤ tt;
  few_blocks = lit≤ tt;
  few_files = lit≤ tt;
  few_strips = lit≤ tt;
  few_acts = lit≤ tt;
  until_low = lit≤ tt;
  until_high = lit≤ tt;
  names = refl;
  block_names = main_named;
  names_apart = apart_names;
  intake = tt;
  strips = λ a s at. cc;
  apart = λ b. lit≤ tt;
  objects = refl;
  blocks = refl;
  files = refl;
  once = λ b. lit≤ tt;
  targets = root_reaches;
}

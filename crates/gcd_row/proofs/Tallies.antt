-- Tallies for the sources of a plan, object by object.
use Rattle.std.proofs.Common.{◌≡◌, ℕ, zero, suc, ◌+◌, Bool, true, false, cond, List, [], ◌∷◌, ◌++◌, map, filter, take, sym, refl, ap, ◌∙◌, arith, Some, None, add-one, eqb}
use Rattle.std.specs.Prelude.{slice_get, option_map, All}
use Rattle.std.proofs.lemmas.Option.{same_Some}
use Rattle.std.proofs.lemmas.List.Elements.{filter-append, All-cons, All-append}
use Rattle.std.proofs.lemmas.List.{map-append}
use Rattle.gcd_plan.specs.PlanView.{ObjView}
use Rattle.gcd_plan.specs.Kinds.{is_source_kind}
use Rattle.gcd_plan.specs.declared.kind.Kind.{Kind}
use Rattle.gcd_jobs.specs.declared.tally.Tally.{Tally}
use Rattle.gcd_row.specs.Opening.{tallies_for}
use Rattle.gcd_row.specs.Views.{standing_of}
use Rattle.gcd_row.specs.declared.view.Standing.TheVariants.{Out, Back}

abbrev kinds_of : List ObjView → List Kind
kinds_of objects = map (λ o. o.kind) objects

take_kind : (objects : List ObjView) (n : ℕ) (kind : Kind) → option_map (λ o. o.kind) (slice_get objects n) ≡ Some kind → take (suc n) (kinds_of objects) ≡ take n (kinds_of objects) ++ kind ∷ []
take_kind [] n kind at = absurd (cc)
take_kind (o ∷ objects) zero kind at = ap (λ (k : Kind). k ∷ []) (same_Some o.kind kind at)
take_kind (o ∷ objects) (suc n) kind at = ap (λ (l : List Kind). o.kind ∷ l) (take_kind objects n kind at)

abbrev Fresh : Tally → Type 0
Fresh t = (t.times ≡ 0) × (t.total ≡ 0)

pub tallies_on : (ts : List Tally) (objects : List ObjView) (n : ℕ) (kind : Kind) → option_map (λ o. o.kind) (slice_get objects n) ≡ Some kind → map (λ t. t.kind) ts ≡ filter is_source_kind (take n (kinds_of objects))
    → map (λ t. t.kind) (ts ++ tallies_for kind) ≡ filter is_source_kind (take (n + 1) (kinds_of objects))
tallies_on ts objects n kind at old = rw add-one (
    map-append (λ t. t.kind) ts (tallies_for kind)
    ∙ (λ i. old i ++ one (is_source_kind kind) i)
    ∙ sym (ap (filter is_source_kind) (take_kind objects n kind at) ∙ filter-append is_source_kind (take n (kinds_of objects)) (kind ∷ [])))
  where
    one : (b : Bool) → map (λ t. t.kind) (cond {A = List Tally} b (record { kind = kind; times = 0; total = 0 } ∷ []) []) ≡ cond b (kind ∷ []) []
    one true = refl
    one false = refl

pub fresh_on : (ts : List Tally) (kind : Kind) → All Fresh ts → All Fresh (ts ++ tallies_for kind)
fresh_on ts kind old = All-append Fresh ts (tallies_for kind) old (one (is_source_kind kind))
  where
    one : (b : Bool) → All Fresh (cond {A = List Tally} b (record { kind = kind; times = 0; total = 0 } ∷ []) [])
    one true = All-cons Fresh (record { kind = kind; times = 0; total = 0 }) [] (refl, refl) (λ k d lt. absurd (omega arith))
    one false = λ k d lt. absurd (omega arith)

-- a number that was given out and came back is not out, nor is any other
pub never_out : (w : ℕ) → standing_of ((1, Back) ∷ (1, Out) ∷ []) w ≡ Some Out → ⊥
never_out w is = go (eqb 1 w) is
  where
    go : (b : Bool) → cond b (Some Back) (cond b (Some Out) None) ≡ Some Out → ⊥
    go true x = cc
    go false x = cc

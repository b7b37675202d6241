-- What was taken of the senders of mouths that were shut.
use Rattle.std.proofs.Common.{◌≡◌, ◌<◌, ◌+◌, ◌∙◌, ◌++◌, ℕ, zero, suc, List, [], ◌∷◌, Some, ap, append_assoc, arith, get_or, length, map, subst, sym, take}
use Rattle.std.proofs.Math.Seq.{take-suc}
use Rattle.std.proofs.lemmas.List.{map-append}
use Rattle.std.specs.Prelude.{slice_get, slice_index_or}
use mathlib.Core.Option.{some, some-ne-none}
use lib.ListN.{get_elem?}
use Rattle.std.proofs.lemmas.Option.{same_Some, slice_get-get_or, slice_get_within}
use Rattle.gcd_front.specs.declared.ledger.Account.{Account}
use Rattle.gcd_front.specs.Fronts.{IsSettled, KnowsOnly}
use Rattle.gcd_front.specs.Queue.{jobs_of}
use Rattle.gcd_front.specs.Views.{IntakeView, LeftView, with_account, with_accounts}

-- what stands in a list stands in one that goes on
there_still : {A : Type 0} (xs ys : List A) (i : ℕ) (x : A) → get_elem? xs i ≡ some x → get_elem? (xs ++ ys) i ≡ some x
there_still [] ys i x at = absurd (some-ne-none x (sym at))
there_still (y ∷ xs) ys zero x at = at
there_still (y ∷ xs) ys (suc i) x at = there_still xs ys i x at

-- what lies at a place
pub at_place : {A : Type 0} (xs : List A) (i : ℕ) (x : A) → slice_get xs i ≡ Some x → (d : A) → slice_index_or xs i d ≡ x
at_place xs i x at d = same_Some (get_or xs i d) x (sym (slice_get-get_or xs i d (slice_get_within xs i x at)) ∙ at)

module _ {S : Type 0} where
  -- the account of what is left of a mouth
  abbrev account : LeftView S → Account S
  account l = record { sender = l.sender; sent = l.sent }

  -- an intake that knows these accounts
  abbrev knowing : IntakeView S → List (Account S) → IntakeView S
  knowing v known = record { front = v.front; taken = v.taken; known = known; heard = v.heard; opens = v.opens }

  -- the account of one mouth more
  pub with_next : (v w : IntakeView S) (lefts : List (LeftView S)) (p : ℕ) (d l : LeftView S) → w ≡ with_accounts v (take p lefts) → p < length lefts
      → l ≡ get_or lefts p d → with_account w l ≡ with_accounts v (take (p + 1) lefts)
  with_next v w lefts p d l was low here =
      let e : p + 1 ≡ suc p = omega arith in
      ap (λ (x : IntakeView S). with_account x l) was
      ∙ ap (knowing v) (append_assoc v.known (map account (take p lefts)) (account l ∷ [])
      ∙ ap (λ (known : List (Account S)). v.known ++ known)
      (ap (λ (x : LeftView S). map account (take p lefts) ++ account x ∷ []) here ∙ sym (map-append account (take p lefts) (get_or lefts p d ∷ []))
      ∙ ap (map account) (sym (take-suc lefts p d low)) ∙ ap (λ (n : ℕ). map account (take n lefts)) (sym e)))

  -- what is left of a mouth was held against an intake that had learnt of accounts since
  pub settled : (i j : IntakeView S) (l : LeftView S) (more : List (LeftView S)) → j ≡ with_accounts i more
      → ((rest : List S) × (l.sent ≡ jobs_of l.sender j.taken ++ rest)) → KnowsOnly l j → IsSettled i l
  settled i j l more is begins only = record {
    rest = begins.0;
    begins = begins.1 ∙ ap (λ (v : IntakeView S). jobs_of l.sender v.taken ++ begins.0) is;
    all = λ took (k, a, at, same).
        sym (only k a (subst (λ (v : IntakeView S). get_elem? v.known k ≡ some a) (sym is) (there_still i.known (map account more) k a at)) same)
        ∙ took k a at ∙ ap (λ (s : ℕ). jobs_of s i.taken) same;
  }

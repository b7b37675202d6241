-- A front without senders.
use Rattle.std.proofs.Common.{◌≡◌, ℕ, List, [], ap, sym, subst, arith, append-nil, inr}
use Rattle.std.specs.List.{AllZip}
use mathlib.Core.Option.{some, some-ne-none}
use lib.ListN.{get_elem?}
use Rattle.gcd_plan.specs.declared.numbers.Blk.{Blk}
use Rattle.gcd_history.specs.Intake.{AcceptsNone, blocks_of_sender}
use Rattle.gcd_front.specs.Queue.{jobs_of}
use Rattle.gcd_front.specs.Views.{FrontView, IntakeView}
use Rattle.gcd_front.specs.declared.ledger.Account.{Account}
use Rattle.gcd_row.specs.declared.view.View.{View}
use Rattle.gcd_pool.specs.Admitted.{Admitted, IsTakenFor}
use Rattle.gcd_workers.proofs.Intake.{blocks_of_none}

module _ {S X : Type 0} (gives : S → ℕ → Type 0) (sent : X → ℕ → Type 0) (f : FrontView) where
  -- if nothing was accepted and nothing taken, it has admitted what there is
  pub nobody_admitted : (v : View S) (i : IntakeView X) → f.senders ≡ 0 → AcceptsNone v.seen → i.taken ≡ [] → i.known ≡ [] → Admitted gives sent f v i
  nobody_admitted v i nobody accepts untaken unknown =
      let none : (s : ℕ) → blocks_of_sender v.seen s ≡ [] = λ s. blocks_of_none v.seen s accepts in
      let all : (s : ℕ) → AllZip (IsTakenFor gives sent v) (jobs_of s i.taken) (blocks_of_sender v.seen s) = λ s.
      subst (λ (l : List X). AllZip (IsTakenFor gives sent v) l (blocks_of_sender v.seen s)) (sym (ap (jobs_of s) untaken))
      (subst (λ (l : List Blk). AllZip (IsTakenFor gives sent v) [] l) (sym (none s)) tt) in
      record {
        first = λ s. record { front = jobs_of s i.taken; rest = []; split = sym (append-nil (jobs_of s i.taken)); taken = all s };
        all = λ under s. all s;
        senders = λ s high. none s;
        shut = λ stands s. all s;
        why_shut = λ stands. inr (
          (λ s low. absurd (omega (arith, nobody, low))),
          λ k a at. absurd (some-ne-none a (sym (subst (λ (l : List (Account X)). get_elem? l k ≡ some a) unknown at))),
        );
      }

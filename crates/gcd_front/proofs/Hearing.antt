-- What an intake knows of shut mouths, as it learns of more.
use Rattle.std.proofs.Common.{◌≡◌, ℕ, ◌+◌, ◌<◌, ⊎_elim, List, [], ◌∷◌, ◌++◌, length, sym, refl, ap, ◌∙◌, subst, arith, append_assoc}
use Rattle.std.specs.List.{All}
use Rattle.std.proofs.lemmas.List.FromFn.{length-map-range_with_len, get_or-map-range_with_len}
use Rattle.std.proofs.lemmas.List.{append-nil}
use mathlib.Core.Logic.{dite}
use mathlib.Core.Option.{some}
use native.Mathlib.Decide.{ℕ_discrete}
use lib.ListN.{get_elem?}
use Rattle.atomic_table.proofs.Lists.{at_longer, at_last}
use Rattle.atomic_table.specs.Seated.{TableId}
use Rattle.crossbeam_queue.specs.Passes.{view}
use Rattle.gcd_facts.proofs.Elements.{only_at}
use Rattle.gcd_front.specs.declared.front.Front.TheInside as front
use Rattle.gcd_front.specs.declared.intake.Intake.TheInside as intake
use Rattle.gcd_front.specs.declared.ledger.Account.{Account}
use Rattle.gcd_front.specs.declared.ledger.Ledger.{Ledger}
use Rattle.gcd_front.specs.declared.ledger.Parcel.{Parcel}
use Rattle.gcd_front.specs.Notes.{hearing_next, Note, IsNote}
use Rattle.gcd_front.specs.Queue.{ledger, taking, hearing, jobs_of, HasAccount, TakenFirst, AllTaken, Learns, OnlyTakes}
use Rattle.gcd_front.specs.Shapes.{front_view, intake_view, IsFront, IsIntake}
use Rattle.gcd_front.specs.Fronts.{LearnsMore, first_mouths}
use Rattle.gcd_front.specs.Views.{FrontId, FrontView, MouthView, IntakeView, mouth_of}
use Rattle.gcd_front.proofs.Queueing.{in_either}

module _ {S : Type 0} where
  -- new mouths are of their front
  pub mouths_of : (id : FrontId) (senders : ℕ) (mouths : List (MouthView S)) → mouths ≡ first_mouths id senders → All (λ m. m.front ≡ id) mouths
  mouths_of id n mouths are = subst (λ (l : List (MouthView S)). All (λ m. m.front ≡ id) l) (sym are)
      (λ k d below. ap (λ (m : MouthView S). m.front) (get_or-map-range_with_len (λ s. mouth_of id s []) 0 n k k d (omega (arith, below, length-map-range_with_len (λ s. mouth_of {S = S} id s []) 0 n)) (omega arith)))

  abbrev account : ℕ → List S → Account S
  account s sent = record { sender = s; sent = sent }

  -- ---- the pass of the intake

  -- what it knows, by its own parts
  itself : (w : Ledger S) (taken : List (Parcel S)) (made : ℕ) (shut : List (Account S)) → w ≡ taking taken made shut → w ≡ taking w.taken made w.shut
  itself w taken made shut e = e ∙ λ i. taking ((sym e i).taken) made ((sym e i).shut)

  pub takes_still : (v w : Ledger S) (made : ℕ) → v ≡ taking v.taken made v.shut → OnlyTakes v w → w ≡ taking w.taken made w.shut
  takes_still v w made was kept = itself w w.taken made v.shut (kept ∙ ap (λ (u : Ledger S). ledger u.takes w.taken u.made u.sends u.sent v.shut) was)

  pub hears_still : (v note w : Ledger S) (made : ℕ) → v ≡ taking v.taken made v.shut → w ≡ hearing v note → w ≡ taking w.taken made w.shut
  hears_still v note w made was heard = itself w v.taken made (v.shut ++ note.shut) (heard ∙ ap (λ (u : Ledger S). ledger u.takes v.taken u.made u.sends u.sent (v.shut ++ note.shut)) was)

  pub none_taken : (v w : Ledger S) → w ≡ v → OnlyTakes v w
  none_taken v w e = e ∙ λ i. ledger v.takes ((sym e i).taken) v.made v.sends v.sent v.shut

  pub one_taken : (v w : Ledger S) (taken : List (Parcel S)) → w ≡ ledger v.takes taken v.made v.sends v.sent v.shut → OnlyTakes v w
  one_taken v w taken e = e ∙ λ i. ledger v.takes ((sym e i).taken) v.made v.sends v.sent v.shut

  -- ---- accounts

  -- an account that is known stays known
  pub known_still : (s : ℕ) (old more all : List (Account S)) → all ≡ old ++ more → HasAccount s old → HasAccount s all
  known_still s old more all are k = (k.0, k.1, subst (λ (x : List (Account S)). get_elem? x k.0 ≡ some k.1) (sym are) (at_longer old more k.0 k.1 k.2), k.3)

  -- the last account is known
  known_last : (old all : List (Account S)) (a : Account S) → all ≡ old ++ a ∷ [] → get_elem? all (length old) ≡ some a
  known_last old all a are = subst (λ (x : List (Account S)). get_elem? x (length old) ≡ some a) (sym are) (at_last old a (length old) refl)

  -- those before the next, and the next
  pub one_more : (old more all : List (Account S)) (n : ℕ) → all ≡ old ++ more → ((s : ℕ) → s < n → HasAccount s old) → HasAccount n all → (s : ℕ) → s < n + 1 → HasAccount s all
  one_more old more all n are was new s below = dite (ℕ_discrete s n) (λ same. subst (λ (x : ℕ). HasAccount x all) (sym same) new) (λ ne. known_still s old more all are (was s (omega (arith, below, ne))))

  pub no_more : (v : IntakeView S) → LearnsMore v v
  no_more v = record { front = refl; taken = refl; more = []; known = sym (append-nil v.known) }

  -- two times more is more
  pub more_again : (u v w : IntakeView S) → LearnsMore u v → LearnsMore v w → LearnsMore u w
  more_again u v w a b = record { front = b.front ∙ a.front; taken = b.taken ∙ a.taken; more = a.more ++ b.more; known = b.known ∙ ap (λ (l : List (Account S)). l ++ b.more) a.known ∙ append_assoc u.known a.more b.more }

  -- ---- an account is told, and held against what was taken

  module _ (v w : Ledger S) (a : Account S) (shut : w.shut ≡ v.shut ++ a ∷ []) (taken : w.taken ≡ v.taken) where
    -- what was taken is how it begins
    pub begins_so : TakenFirst w.taken w.shut → (rest : List S) × (a.sent ≡ jobs_of a.sender v.taken ++ rest)
    begins_so first = let x = first (length v.shut) a (known_last v.shut w.shut a shut) in (x.0, x.1 ∙ ap (λ (l : List (Parcel S)). jobs_of a.sender l ++ x.0) taken)

    -- an account of the sender that was known before is this one
    pub only_it : (items : List (Parcel S)) → Learns w items → (i : ℕ) (b : Account S) → get_elem? v.shut i ≡ some b → b.sender ≡ a.sender → b.sent ≡ a.sent
    only_it items l i b at same = let there = subst (λ (x : List (Account S)). get_elem? x i ≡ some b) (sym shut) (at_longer v.shut (a ∷ []) i b at) in
        l.1 i b there ∙ ap (λ (x : ℕ). jobs_of x (w.taken ++ items)) same ∙ sym (l.1 (length v.shut) a (known_last v.shut w.shut a shut))

    -- all of it was taken, where all was taken of a sender with an account that was known before
    pub all_of_it : (items : List (Parcel S)) → Learns w items → AllTaken v.taken v.shut → HasAccount a.sender v.shut → a.sent ≡ jobs_of a.sender v.taken
    all_of_it items l all k = let there = subst (λ (x : List (Account S)). get_elem? x k.0 ≡ some k.1) (sym shut) (at_longer v.shut (a ∷ []) k.0 k.1 k.2) in
        l.1 (length v.shut) a (known_last v.shut w.shut a shut) ∙ ap (λ (x : ℕ). jobs_of x (w.taken ++ items)) (sym k.3) ∙ sym (l.1 k.0 k.1 there) ∙ all k.0 k.1 k.2 ∙ ap (λ (x : ℕ). jobs_of x v.taken) k.3

    -- so of all that are known then
    pub all_still : (items : List (Parcel S)) → Learns w items → AllTaken v.taken v.shut → HasAccount a.sender v.shut → AllTaken w.taken w.shut
    all_still items l all k i b e = ⊎_elim
        (λ (t : get_elem? v.shut i ≡ some b). all i b t ∙ ap (jobs_of b.sender) (sym taken))
        (λ (t : (j : ℕ) × (get_elem? (a ∷ []) j ≡ some b)). subst (λ (x : Account S). x.sent ≡ jobs_of x.sender w.taken) (only_at a b t.0 t.1).1 (all_of_it items l all k ∙ ap (jobs_of a.sender) (sym taken)))
        (in_either v.shut (a ∷ []) i b (subst (λ (x : List (Account S)). get_elem? x i ≡ some b) shut e))

  -- ---- the intake

  -- the tables of an intake of the front are those of the front
  pub same_tables : (i : intake.Inside S) (f : front.Inside S) (v : IntakeView S) (w : FrontView) → intake_view i ≡ v → front_view f ≡ w → v.front ≡ w.id
      → (i.pass.table_id ≡ f.queue.table.shared.table_id) × (i.seat.table_id ≡ f.notes.shared.table_id)
  same_tables i f v w vi wf is = let e = ap (λ (x : IntakeView S). x.front) vi ∙ is ∙ sym (ap (λ (x : FrontView). x.id) wf) in (ap (λ x. x.queue) e, ap (λ x. x.notes) e)

  -- a sender that was not heard of has a slot
  pub has_slot : (i : intake.Inside S) (f : front.Inside S) (v : IntakeView S) (w : FrontView) → intake_view i ≡ v → front_view f ≡ w → v.front ≡ w.id → IsFront f → v.heard < w.senders → i.heard < i.seat.table_id.slots
  has_slot i f v w vi wf is front next = let a = ap (λ (x : IntakeView S). x.heard) vi in let b = ap (λ (x : FrontView). x.senders) wf in let c = front.slots in let d = ap (λ (t : TableId). t.slots) (same_tables i f v w vi wf is).1 in omega (arith, next, a, b, c, d)

  -- an intake takes the note of the next sender
  module _ (i j : intake.Inside S) (note : Note S) (queue : TableId) (was : IsIntake i) (near : i.heard < i.seat.table_id.slots)
      (seat : j.seat.table_id ≡ i.seat.table_id) (looked : j.seat.me.0 ≡ hearing_next i.seat.me.0)
      (pass : j.pass.table_id ≡ i.pass.table_id) (idle : j.pass.me.1 ≡ []) (heard : view j.pass ≡ hearing (view i.pass) (view note))
      (count : j.heard ≡ i.heard + 1) (is : IsNote queue i.heard note) where
    shut_then : (view j.pass).shut ≡ (view i.pass).shut ++ account i.heard is.sent ∷ []
    shut_then = ap (λ (u : Ledger S). u.shut) heard ∙ ap (λ (u : Ledger S). (view i.pass).shut ++ u.shut) is.told_of

    pub knows_next : HasAccount i.heard (view j.pass).shut
    knows_next = (length (view i.pass).shut, account i.heard is.sent, known_last (view i.pass).shut (view j.pass).shut (account i.heard is.sent) shut_then, refl)

    pub learns_next : LearnsMore (intake_view i) (intake_view j)
    learns_next = record { front = λ k. record { queue = pass k; notes = seat k }; taken = ap (λ (u : Ledger S). u.taken) heard; more = account i.heard is.sent ∷ []; known = shut_then }

    pub is_intake_next : IsIntake j
    is_intake_next = record {
      idle = idle;
      takes = subst (λ (n : ℕ). view j.pass ≡ taking (view j.pass).taken n (view j.pass).shut) (ap (λ (t : TableId). t.slots) (sym seat)) (hears_still (view i.pass) (view note) (view j.pass) i.seat.table_id.slots was.takes heard);
      listens = ap (λ u. u.listens) looked ∙ was.listens;
      notes = ap (λ u. u.queue.table_id) looked ∙ was.notes ∙ sym pass;
      made = ap (λ u. u.next) looked ∙ was.made ∙ ap (λ (t : TableId). t.slots) (sym seat);
      heard = ap (λ u. u.heard) looked ∙ ap (λ (n : ℕ). n + 1) was.heard ∙ sym count;
      few = let e = ap (λ (t : TableId). t.slots) seat in omega (arith, near, count, e);
      accounts = λ s below. one_more (view i.pass).shut (account i.heard is.sent ∷ []) (view j.pass).shut i.heard shut_then was.accounts knows_next s (omega (arith, below, count));
    }

  -- an intake takes, or not
  pub is_intake_taking : (i j : intake.Inside S) → IsIntake i → j.seat ≡ i.seat → j.heard ≡ i.heard → j.pass.table_id ≡ i.pass.table_id → j.pass.me.1 ≡ [] → OnlyTakes (view i.pass) (view j.pass) → IsIntake j
  is_intake_taking i j was seat count pass idle kept = record {
    idle = idle;
    takes = subst (λ (n : ℕ). view j.pass ≡ taking (view j.pass).taken n (view j.pass).shut) (ap (λ s. s.table_id.slots) (sym seat)) (takes_still (view i.pass) (view j.pass) i.seat.table_id.slots was.takes kept);
    listens = ap (λ s. s.me.0.listens) seat ∙ was.listens;
    notes = ap (λ s. s.me.0.queue.table_id) seat ∙ was.notes ∙ sym pass;
    made = ap (λ s. s.me.0.next) seat ∙ was.made ∙ ap (λ s. s.table_id.slots) (sym seat);
    heard = ap (λ s. s.me.0.heard) seat ∙ was.heard ∙ sym count;
    few = let e = ap (λ s. s.table_id.slots) seat in let f = was.few in omega (arith, f, count, e);
    accounts = λ s below. subst (HasAccount s) (ap (λ (u : Ledger S). u.shut) (sym kept)) (was.accounts s (omega (arith, below, count)));
  }

  -- an intake is told
  pub is_intake_told : (i j : intake.Inside S) (note : Ledger S) → IsIntake i → j.seat ≡ i.seat → j.heard ≡ i.heard → j.pass.table_id ≡ i.pass.table_id → j.pass.me.1 ≡ [] → view j.pass ≡ hearing (view i.pass) note → IsIntake j
  is_intake_told i j note was seat count pass idle heard = record {
    idle = idle;
    takes = subst (λ (n : ℕ). view j.pass ≡ taking (view j.pass).taken n (view j.pass).shut) (ap (λ s. s.table_id.slots) (sym seat)) (hears_still (view i.pass) note (view j.pass) i.seat.table_id.slots was.takes heard);
    listens = ap (λ s. s.me.0.listens) seat ∙ was.listens;
    notes = ap (λ s. s.me.0.queue.table_id) seat ∙ was.notes ∙ sym pass;
    made = ap (λ s. s.me.0.next) seat ∙ was.made ∙ ap (λ s. s.table_id.slots) (sym seat);
    heard = ap (λ s. s.me.0.heard) seat ∙ was.heard ∙ sym count;
    few = let e = ap (λ s. s.table_id.slots) seat in let f = was.few in omega (arith, f, count, e);
    accounts = λ s below. known_still s (view i.pass).shut note.shut (view j.pass).shut (ap (λ (u : Ledger S). u.shut) heard) (was.accounts s (omega (arith, below, count)));
  }

-- What the calls of a front ask, and what they tell.
use Rattle.std.specs.Prelude.{◌≡◌, ℕ, ◌+◌, ◌<◌, List, [], ◌∷◌, ◌++◌, Some, length, map, slice_get}
use mathlib.Core.Option.{some}
use lib.ListN.{get_elem?}
use Rattle.std.specs.List.{range_with_len}
use Rattle.crossbeam_queue.specs.Fifo.{Held}
use Rattle.gcd_front.specs.declared.ledger.Account.{Account}
use Rattle.gcd_front.specs.declared.ledger.Parcel.{Parcel}
use Rattle.gcd_front.specs.Queue.{jobs_of, taking, sending, Saw, AllTaken, HasAccount}
use Rattle.gcd_front.specs.Views.{FrontId, FrontView, MouthView, LeftView, IntakeView, mouth_of, with_taken}

module _ {S : Type 0} where
  -- it is a mouth, an intake, what is left of a mouth of this front
  abbrev pub IsMouthOf : FrontView → MouthView S → Type 0
  IsMouthOf f m = m.front ≡ f.id

  abbrev pub IsIntakeOf : FrontView → IntakeView S → Type 0
  IsIntakeOf f v = v.front ≡ f.id

  abbrev pub IsLeftOf : FrontView → LeftView S → Type 0
  IsLeftOf f l = l.queue ≡ f.id.queue

  -- the mouths of the first n senders, by number: nothing was sent
  abbrev pub first_mouths : FrontId → ℕ → List (MouthView S)
  first_mouths id n = map (λ s. mouth_of id s []) (range_with_len 0 n)

  -- the mouths of a new front
  abbrev pub new_mouths : FrontView → List (MouthView S)
  new_mouths f = first_mouths f.id f.senders

  -- at one moment the queue held as many jobs as it has room for, and what this mouth knows was true
  abbrev pub WasFull : FrontView → MouthView S → Type 0
  WasFull f m = Held f.room (Saw (sending m.sender m.sent))

  -- at one moment the queue held no job, and what this intake knows was true
  abbrev pub WasEmpty : FrontView → IntakeView S → Type 0
  WasEmpty f v = Held 0 (Saw (taking v.taken f.senders v.known))

  -- the intake took one job more, that of a sender of the front, which is the next of that sender
  pub record TakesNext (f : FrontView) (v : IntakeView S) (p : Parcel S) (w : IntakeView S) : Type 0 where
    pub taken : w ≡ with_taken v p
    pub number : p.number ≡ length (jobs_of p.sender v.taken) + 1
    pub sender : p.sender < f.senders

  -- the intake knows the account of sender s, whose mouth was shut
  abbrev pub KnowsAccount : ℕ → IntakeView S → Type 0
  KnowsAccount s v = HasAccount s v.known

  -- it knows the accounts of all senders of the front
  abbrev pub KnowsAll : FrontView → IntakeView S → Type 0
  KnowsAll f v = (s : ℕ) → s < f.senders → KnowsAccount s v

  -- it took all that was accepted of the senders whose accounts it knows
  abbrev pub TookAll : IntakeView S → Type 0
  TookAll v = AllTaken v.taken v.known

  -- it learnt of further accounts, and took nothing
  pub record LearnsMore (v w : IntakeView S) : Type 0 where
    pub front : w.front ≡ v.front
    pub taken : w.taken ≡ v.taken
    pub more : List (Account S)
    pub known : w.known ≡ v.known ++ more

  -- it found the mouth of a sender of the front open, at the last of its looks
  pub record FoundOpen (f : FrontView) (v w : IntakeView S) : Type 0 where
    pub sender : ℕ
    pub of_front : sender < f.senders
    pub last : w.opens ≡ v.opens ++ sender ∷ []

  -- What was taken of a sender of the front is how the jobs begin that were sent through its mouth; it is all of them where the intake
  -- knew that all mouths were shut, and has taken all.
  pub record IsTakenOf (f : FrontView) (i : IntakeView S) (sender : ℕ) (sent : List S) : Type 0 where
    pub rest : List S
    pub begins : sent ≡ jobs_of sender i.taken ++ rest
    pub all : KnowsAll f i → TookAll i → sent ≡ jobs_of sender i.taken

  -- each account of its sender that the intake knows is the one that is left of the mouth
  abbrev pub KnowsOnly : LeftView S → IntakeView S → Type 0
  KnowsOnly l v = (i : ℕ) (a : Account S) → get_elem? v.known i ≡ some a → a.sender ≡ l.sender → a.sent ≡ l.sent

  -- what was taken of its sender is how the jobs begin that were accepted; it is all of them where the intake has taken all, and knew that
  -- sender's account
  pub record IsSettled (i : IntakeView S) (l : LeftView S) : Type 0 where
    pub rest : List S
    pub begins : l.sent ≡ jobs_of l.sender i.taken ++ rest
    pub all : TookAll i → KnowsAccount l.sender i → l.sent ≡ jobs_of l.sender i.taken

  -- so it is of each mouth of which this is left
  abbrev pub AreSettled : IntakeView S → List (LeftView S) → Type 0
  AreSettled i lefts = (k : ℕ) (l : LeftView S) → slice_get lefts k ≡ Some l → IsSettled i l

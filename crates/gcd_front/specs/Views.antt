-- What a front, its mouths and its intake are to their callers.
use Rattle.std.specs.Prelude.{ℕ, List, [], ◌∷◌, ◌++◌, map}
use Rattle.atomic_table.specs.Seated.{TableId}
use Rattle.gcd_front.specs.declared.ledger.Account.{Account}
use Rattle.gcd_front.specs.declared.ledger.Parcel.{Parcel}

-- which front it is: the tables of its queue and of its notes
pub record FrontId : Type 0 where
  pub queue : TableId
  pub notes : TableId

-- a front: which it is, for how many jobs its queue has room, and how many senders it has
pub record FrontView : Type 0 where
  pub id : FrontId
  pub room : ℕ
  pub senders : ℕ

-- an open mouth: its front, its sender, and the jobs of that sender that were accepted, in order
pub record MouthView (S : Type 0) : Type 0 where
  pub front : FrontId
  pub sender : ℕ
  pub sent : List S

-- what is left of a mouth that was shut: the queue of its front, its sender, and the jobs of that sender that were accepted
pub record LeftView (S : Type 0) : Type 0 where
  pub queue : TableId
  pub sender : ℕ
  pub sent : List S

-- the intake: its front; what it took, in order; of shut mouths the accounts that it knows; the number of senders, from the
-- first on, that it has heard to be shut; and the senders whose mouths it found open, in the order of its looks
pub record IntakeView (S : Type 0) : Type 0 where
  pub front : FrontId
  pub taken : List (Parcel S)
  pub known : List (Account S)
  pub heard : ℕ
  pub opens : List ℕ

module _ {S : Type 0} where
  abbrev pub mouth_of : FrontId → ℕ → List S → MouthView S
  mouth_of front sender sent = record { front = front; sender = sender; sent = sent }

  -- the mouth once a further job was accepted
  abbrev pub with_job : MouthView S → S → MouthView S
  with_job m job = mouth_of m.front m.sender (m.sent ++ job ∷ [])

  -- what is left of the mouth once it is shut
  abbrev pub left_of : MouthView S → LeftView S
  left_of m = record { queue = m.front.queue; sender = m.sender; sent = m.sent }

  -- the intake of a new front
  abbrev pub new_intake : FrontId → IntakeView S
  new_intake front = record { front = front; taken = []; known = []; heard = 0; opens = [] }

  -- the intake once it took a further job
  abbrev pub with_taken : IntakeView S → Parcel S → IntakeView S
  with_taken v p = record { front = v.front; taken = v.taken ++ p ∷ []; known = v.known; heard = v.heard; opens = v.opens }

  -- the intake once it knows the account of what is left of a mouth
  abbrev pub with_account : IntakeView S → LeftView S → IntakeView S
  with_account v l = record {
    front = v.front;
    taken = v.taken;
    known = v.known ++ record { sender = l.sender; sent = l.sent } ∷ [];
    heard = v.heard;
    opens = v.opens;
  }

  -- the intake once it knows the accounts of what is left of these mouths, in this order
  abbrev pub with_accounts : IntakeView S → List (LeftView S) → IntakeView S
  with_accounts v lefts = record {
    front = v.front;
    taken = v.taken;
    known = v.known ++ map (λ l. record { sender = l.sender; sent = l.sent }) lefts;
    heard = v.heard;
    opens = v.opens;
  }

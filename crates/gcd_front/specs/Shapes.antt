-- How mouths, intakes and fronts are made of passes and seats, and what always holds of their parts.
use Rattle.std.specs.Prelude.{◌≡◌, ℕ, ◌+◌, ◌<◌, ◌≤◌, true, List, [], ◌∷◌, length, None, Some}
use Rattle.crossbeam_queue.specs.Passes.{view, ruled_capacity}
use Rattle.gcd_front.specs.declared.front.Front.TheInside as front
use Rattle.gcd_front.specs.declared.intake.Intake.TheInside as intake
use Rattle.gcd_front.specs.declared.left.Left.TheInside as left
use Rattle.gcd_front.specs.declared.mouth.Mouth.TheInside as mouth
use Rattle.gcd_front.specs.declared.ledger.Account.{Account}
use Rattle.gcd_front.specs.Limits.{max_senders}
use Rattle.gcd_front.specs.Notes.{open_mouth}
use Rattle.gcd_front.specs.Queue.{taking, sending, told, account_of, HasAccount}
use Rattle.gcd_front.specs.Views.{FrontView, MouthView, LeftView, IntakeView}

module _ {S : Type 0} where
  -- what the first account says was sent
  abbrev pub sent_in : List (Account S) → List S
  sent_in [] = []
  sent_in (a ∷ accounts) = a.sent

  -- a front is its queue, its notes and the number of its senders
  abbrev pub front_view : front.Inside S → FrontView
  front_view f = record {
    id = record { queue = f.queue.table.shared.table_id; notes = f.notes.shared.table_id };
    room = ruled_capacity f.queue;
    senders = f.senders;
  }

  -- each sender has a word and a slot, there is one word more, and the senders are few
  pub record IsFront (f : front.Inside S) : Type 0 where
    pub words : f.notes.shared.table_id.words ≡ f.notes.shared.table_id.slots + 1
    pub slots : f.notes.shared.table_id.slots ≡ f.senders
    pub few : f.senders ≤ max_senders

  -- a mouth is a pass of the queue and a seat of the notes
  abbrev pub mouth_view : mouth.Inside S → MouthView S
  mouth_view m = record {
    front = record { queue = m.pass.table_id; notes = m.seat.table_id };
    sender = m.sender;
    sent = (view m.pass).sent;
  }

  -- its pass and its seat are those of its open sender, and it counts what was accepted
  pub record IsMouth (m : mouth.Inside S) : Type 0 where
    pub idle : m.pass.me.1 ≡ []
    pub sends : view m.pass ≡ sending m.sender (view m.pass).sent
    pub count : m.sent ≡ length (view m.pass).sent
    pub seat : m.seat.me ≡ (open_mouth m.seat.me.0.queue m.sender, (m.sender, None) ∷ [])
    pub notes : m.seat.me.0.queue.table_id ≡ m.pass.table_id
    pub few : m.sender < m.seat.table_id.slots

  -- what is left of a mouth is a pass of the queue
  abbrev pub left_view : left.Inside S → LeftView S
  left_view l = record { queue = l.pass.table_id; sender = l.sender; sent = sent_in (view l.pass).shut }

  -- its pass knows the account of its sender
  pub record IsLeft (l : left.Inside S) : Type 0 where
    pub idle : l.pass.me.1 ≡ []
    pub told_of : view l.pass ≡ told (account_of (Some l.sender) (sent_in (view l.pass).shut))

  -- an intake is a pass of the queue and a seat of the notes
  abbrev pub intake_view : intake.Inside S → IntakeView S
  intake_view i = record {
    front = record { queue = i.pass.table_id; notes = i.seat.table_id };
    taken = (view i.pass).taken;
    known = (view i.pass).shut;
    heard = i.heard;
    opens = i.seat.me.0.opens;
  }

  -- its pass takes and its seat listens; all senders were made; and it knows the account of each that it has heard
  pub record IsIntake (i : intake.Inside S) : Type 0 where
    pub idle : i.pass.me.1 ≡ []
    pub takes : view i.pass ≡ taking (view i.pass).taken i.seat.table_id.slots (view i.pass).shut
    pub listens : i.seat.me.0.listens ≡ true
    pub notes : i.seat.me.0.queue.table_id ≡ i.pass.table_id
    pub made : i.seat.me.0.next ≡ i.seat.table_id.slots
    pub heard : i.seat.me.0.heard ≡ i.heard
    pub few : i.heard ≤ i.seat.table_id.slots
    pub accounts : (s : ℕ) → s < i.heard → HasAccount s (view i.pass).shut

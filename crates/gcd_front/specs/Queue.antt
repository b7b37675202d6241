-- The rule of the queue of jobs from outside, and what each step on it tells (this project's own rule).
use Rattle.std.specs.Prelude.{◌≡◌, ℕ, ◌+◌, ◌<◌, ◌≤◌, ◌==◌, Bool, true, false, if◌then◌else◌, List, [], ◌∷◌, ◌++◌, length, Option, Some, None, ⊤}
use mathlib.Core.Option.{some}
use lib.ListN.{get_elem?}
use Rattle.gcd_front.specs.declared.ledger.Parcel.{Parcel}
use Rattle.gcd_front.specs.declared.ledger.Account.{Account}
use Rattle.gcd_front.specs.declared.ledger.Ledger.{Ledger}

module _ {S : Type 0} where
  abbrev pub parcel : (sender number : ℕ) → S → Parcel S
  parcel sender number job = record { sender = sender; number = number; job = job }

  -- the jobs of sender s among the parcels, in order
  abbrev pub jobs_of : ℕ → List (Parcel S) → List S
  jobs_of s [] = []
  jobs_of s (p ∷ ps) = if p.sender == s then p.job ∷ jobs_of s ps else jobs_of s ps

  -- behind these parcels each has the number that comes next for its sender
  abbrev pub Numbered : (before parcels : List (Parcel S)) → Type 0
  Numbered before [] = ⊤
  Numbered before (p ∷ ps) = (p.number ≡ length (jobs_of p.sender before) + 1) × Numbered (before ++ p ∷ []) ps

  abbrev pub ledger : Bool → List (Parcel S) → ℕ → Option ℕ → List S → List (Account S) → Ledger S
  ledger takes taken made sends sent shut =
      record { takes = takes; taken = taken; made = made; sends = sends; sent = sent; shut = shut }

  -- what the intake's pass knows: what was taken, how many mouths were made, and the accounts that it was told of
  abbrev pub taking : List (Parcel S) → ℕ → List (Account S) → Ledger S
  taking taken made shut = ledger true taken made None [] shut

  -- what the pass of an open mouth knows: its sender, and what that has sent
  abbrev pub sending : ℕ → List S → Ledger S
  sending sender sent = ledger false [] 0 (Some sender) sent []

  -- what the first pass knows, which is the intake's
  abbrev pub opening : Ledger S
  opening = taking [] 0 []

  -- what a pass knows that was told of these accounts alone
  abbrev pub told : List (Account S) → Ledger S
  told shut = ledger false [] 0 None [] shut

  -- the next mouth is made: what the intake knows then, and what the mouth knows
  abbrev pub lending : Ledger S → Ledger S
  lending v = ledger v.takes v.taken (v.made + 1) v.sends v.sent v.shut

  abbrev pub newcomer : Ledger S → Ledger S
  newcomer v = sending v.made []

  -- the account of the sender whose mouth is shut
  abbrev pub account_of : Option ℕ → List S → List (Account S)
  account_of None sent = []
  account_of (Some s) sent = record { sender = s; sent = sent } ∷ []

  -- a mouth is shut: each half of its pass knows the account
  abbrev pub shutting : Ledger S → Ledger S
  shutting v = told (account_of v.sends v.sent)

  -- a pass that was told what another was told
  abbrev pub hearing : Ledger S → Ledger S → Ledger S
  hearing v w = ledger v.takes v.taken v.made v.sends v.sent (v.shut ++ w.shut)

  -- what a pass knows is true, where these parcels were taken and those lie in the queue: `mouth` tells at which pass the open
  -- mouth of a sender is
  pub record Knows (taken items : List (Parcel S)) (taker made : ℕ) (mouth : ℕ → Option ℕ) (pass : ℕ) (v : Ledger S) : Type 0 where
    pub takes : v.takes ≡ true → (pass ≡ taker) × (v.taken ≡ taken) × (v.made ≡ made)
    pub sends : (s : ℕ) → v.sends ≡ Some s → (mouth s ≡ Some pass) × (s < made) × (v.sent ≡ jobs_of s (taken ++ items))
    pub shut : (i : ℕ) (a : Account S) → get_elem? v.shut i ≡ some a
        → (mouth a.sender ≡ None) × (a.sender < made) × (a.sent ≡ jobs_of a.sender (taken ++ items))

  -- the rule of the queue: what was taken and what lies in it is what was sent, each sender's in its order
  pub record InTurn (items : List (Parcel S)) (views : List (Ledger S)) : Type 0 where
    pub taken : List (Parcel S)
    pub taker : ℕ
    pub made : ℕ
    pub mouth : ℕ → Option ℕ
    pub numbers : Numbered taken items
    pub unmade : (s : ℕ) → made ≤ s → jobs_of s (taken ++ items) ≡ []
    pub senders : (i : ℕ) (p : Parcel S) → get_elem? items i ≡ some p → p.sender < made
    pub knows : (pass : ℕ) (v : Ledger S) → get_elem? views pass ≡ some v → Knows taken items taker made mouth pass v

  -- the sender's next job was sent
  abbrev pub Sends : Ledger S → Parcel S → Ledger S → Type 0
  Sends v p w = w ≡ ledger v.takes v.taken v.made v.sends (v.sent ++ p.job ∷ []) v.shut

  -- the parcel was taken, its number is the next of its sender, and that has a mouth
  pub record Takes (v : Ledger S) (p : Parcel S) (w : Ledger S) : Type 0 where
    pub view : w ≡ ledger v.takes (v.taken ++ p ∷ []) v.made v.sends v.sent v.shut
    pub number : p.number ≡ length (jobs_of p.sender v.taken) + 1
    pub sender : p.sender < v.made

  -- nothing else has changed than what was taken
  abbrev pub OnlyTakes : Ledger S → Ledger S → Type 0
  OnlyTakes v w = w ≡ ledger v.takes w.taken v.made v.sends v.sent v.shut

  -- at one moment the queue held these parcels: it kept its rule, and this pass knew what it knows
  pub record Saw (v : Ledger S) (items : List (Parcel S)) : Type 0 where
    pub views : List (Ledger S)
    pub pass : ℕ
    pub rule : InTurn items views
    pub here : get_elem? views pass ≡ some v

  -- one of the accounts is that of sender s
  abbrev pub HasAccount : ℕ → List (Account S) → Type 0
  HasAccount s accounts = (i : ℕ) × (a : Account S) × (get_elem? accounts i ≡ some a) × (a.sender ≡ s)

  -- of each sender with one of these accounts what was taken is how its account begins
  abbrev pub TakenFirst : List (Parcel S) → List (Account S) → Type 0
  TakenFirst taken accounts =
      (i : ℕ) (a : Account S) → get_elem? accounts i ≡ some a → (rest : List S) × (a.sent ≡ jobs_of a.sender taken ++ rest)

  -- of each sender with one of these accounts all that it sent was taken
  abbrev pub AllTaken : List (Parcel S) → List (Account S) → Type 0
  AllTaken taken accounts = (i : ℕ) (a : Account S) → get_elem? accounts i ≡ some a → a.sent ≡ jobs_of a.sender taken

  -- what an intake learns of the queue
  abbrev pub Learns : Ledger S → List (Parcel S) → Type 0
  Learns v items = Saw v items × AllTaken (v.taken ++ items) v.shut

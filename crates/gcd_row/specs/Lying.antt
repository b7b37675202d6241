-- What lies in the slots of a board: at home while nobody holds the slot's run, and with the pass that holds it.
use Rattle.std.specs.Prelude.{◌≡◌, ℕ, ◌+◌, Bool, true, false, List, [], ◌∷◌, length, Option, Some, None, if◌then◌else◌, ◌⊎◌}
use Rattle.std.specs.Option.{option_map_or}
use Rattle.gcd_plan.specs.PlanView.{PlanView, kind_of, IsRun}
use Rattle.gcd_plan.specs.Kinds.{is_source_kind}
use Rattle.gcd_plan.specs.declared.kind.Kind.{Kind}
use Rattle.gcd_plan.specs.declared.numbers.Run.{Run}
use Rattle.gcd_plan.specs.declared.numbers.Run.TheVariants.{Block, Source}
use Rattle.gcd_event.specs.declared.event.Event.{Event}
use Rattle.gcd_history.specs.Runs.{ends}
use Rattle.gcd_history.specs.History.{is_block_cancelled, is_ended, delivery_count_of, received_of}
use Rattle.gcd_history.specs.Held.{given}
use Rattle.gcd_row.specs.Shapes.{Shape, body, done, handler, away}
use Rattle.gcd_row.specs.Jobs.{Jobs, May}
use Rattle.gcd_row.specs.Totals.{received_earlier}
use Rattle.gcd_row.specs.declared.view.Terms.{Terms}

-- how many slots a board has: one for each block, and behind these one for each object
abbrev pub slots_of : PlanView → ℕ
slots_of plan = length plan.blocks + length plan.objects

-- the slot of a run
abbrev pub slot_of : PlanView → Run → ℕ
slot_of plan (Block b) = b.0
slot_of plan (Source s) = length plan.blocks + s.0

-- what lies in an object's slot after the history: at a source its handler, with the times and the total of its Delivers, and
-- else nothing
unfoldable pub source_shape : PlanView → List Event → ℕ → Shape
source_shape plan h s =
    option_map_or (λ kind. if is_source_kind kind then handler kind (delivery_count_of h s) (received_of plan h s) else away) (kind_of plan s) away

-- the handler as it was before the last Deliver of source s: it took each one before that, and its total is what these handed
-- over, in one
pub record IsUntaken (plan : PlanView) (h : List Event) (s times total : ℕ) : Type 0 where
  pub once_fewer : times + 1 ≡ delivery_count_of h s
  pub all_earlier : total ≡ received_earlier plan h s

-- the handler with all Delivers of source s
pub record IsServed (plan : PlanView) (h : List Event) (s times total : ℕ) : Type 0 where
  pub all_times : times ≡ delivery_count_of h s
  pub all_data : total ≡ received_of plan h s

-- what the holder of a source's run has of it: the handler, as it was before this run or after it, or nothing
abbrev pub HandlerHeld : PlanView → List Event → ℕ → Shape → Type 0
HandlerHeld plan h s body = ⊥
HandlerHeld plan h s (done v) = ⊥
HandlerHeld plan h s (handler kind times total) =
    (kind_of plan s ≡ Some kind) × (IsUntaken plan h s times total ⊎ IsServed plan h s times total)
HandlerHeld plan h s away = Unit {0}

module _ {S : Type 0} (shape : S → Shape) (gives : S → ℕ → Type 0) where
  -- what lies in the slot of a block whose job may give these values: its body, which gives these alone; where the block has ended
  -- one of these; and 0 where a cancelled one has ended
  abbrev pub BodyLies : (may : ℕ → Type 0) → (ended cancelled : Bool) → S → Type 0
  BodyLies may false cancelled c = (shape c ≡ body) × ((v : ℕ) → gives c v → may v)
  BodyLies may true false c = (v : ℕ) × (shape c ≡ done v) × may v
  BodyLies may true true c = shape c ≡ done 0

  -- what lies in the slot of a run that nobody holds
  abbrev pub Lies : Jobs S → List Event → Run → S → Type 0
  Lies t h (Block b) c = BodyLies (May gives t b.0) (is_ended h b.0) (is_block_cancelled t.plan h b.0) c
  Lies t h (Source s) c = shape c ≡ source_shape t.plan h s.0

  -- what the holder of a block has of it, whose job may give these values: its body, which gives these alone, one of these, or
  -- nothing; of a cancelled block its body or 0
  abbrev pub BodyHeld : (may : ℕ → Type 0) → S → Shape → (cancelled : Bool) → Type 0
  BodyHeld may c body cancelled = (v : ℕ) → gives c v → may v
  BodyHeld may c (done v) false = may v
  BodyHeld may c (done v) true = v ≡ 0
  BodyHeld may c (handler kind times total) cancelled = ⊥
  BodyHeld may c away false = Unit {0}
  BodyHeld may c away true = ⊥

  -- the cell that its holder has of the run
  abbrev pub MayHold : Jobs S → List Event → Run → S → Type 0
  MayHold t h (Block b) c = BodyHeld (May gives t b.0) c (shape c) (is_block_cancelled t.plan h b.0)
  MayHold t h (Source s) c = HandlerHeld t.plan h s.0 (shape c)

  -- the one slot that a holder has, the run's
  pub record HasSlot (t : Jobs S) (h : List Event) (r : Run) (slots : List (ℕ × S)) : Type 0 where
    pub known : IsRun t.plan r
    pub cell : S
    pub here : slots ≡ (slot_of t.plan r, cell) ∷ []
    pub may : MayHold t h r cell

  -- what a pass has by the run that its worker holds
  abbrev pub HasSlots : Jobs S → List Event → Option Run → List (ℕ × S) → Type 0
  HasSlots t h None slots = slots ≡ []
  HasSlots t h (Some r) slots = HasSlot t h r slots

module _ {S : Type 0} (shape : S → Shape) where
  -- what the cell has to be for an event that gives its run back: the body at an act that parks the block, its value at its
  -- end, and the handler with all Delivers at the end of its run
  abbrev pub IsReadyBody : (ends : Bool) → S → Type 0
  IsReadyBody false c = shape c ≡ body
  IsReadyBody true c = (v : ℕ) × (shape c ≡ done v)

  abbrev pub IsReadyFor : PlanView → List Event → Event → Run → S → Type 0
  IsReadyFor plan h e (Block b) c = IsReadyBody (ends b.0 e) c
  IsReadyFor plan h e (Source s) c = (kind : Kind) × (shape c ≡ handler kind (delivery_count_of h s.0) (received_of plan h s.0))

  -- the pass has the slot of the run that the event gives back, with what the event asks there
  abbrev pub GivesBackBy : PlanView → List Event → Event → List (ℕ × S) → Type 0
  GivesBackBy plan h e slots = (r : Run) → given plan e ≡ Some r → (c : S) × (slots ≡ (slot_of plan r, c) ∷ []) × IsReadyFor plan h e r c

  abbrev pub GivesBack : Terms S → List Event → Event → List (ℕ × S) → Type 0
  GivesBack t = GivesBackBy t.plan

-- What is pending at a source (dispatch_source_create(3), dispatch_source_merge_data(3)).
use Rattle.std.specs.Prelude.{ℕ, ◌+◌, ◌-◌, ◌==◌, Bool, false, not, ◌&&◌, if◌then◌else◌, List, [], ◌∷◌, ◌++◌, filter, map, fold, Option, Some, None, count_by}
use Rattle.std.specs.Option.{option_map_or}
use Rattle.std.specs.List.{range_with_len}
use Rattle.gcd_plan.specs.Effects.{effects_of}
use Rattle.gcd_plan.specs.PlanView.{PlanView, kind_of}
use Rattle.gcd_plan.specs.Kinds.{has_kind, is_read_kind}
use Rattle.gcd_plan.specs.KindValues.{folded, has_effect}
use Rattle.gcd_plan.specs.declared.act.Act.{Act}
use Rattle.gcd_plan.specs.declared.kind.Kind.{Kind}
use Rattle.gcd_event.specs.declared.event.Event.{Event}
use Rattle.gcd_event.specs.declared.event.Event.TheVariants.{Start, Act as Acted, Wake, End, Deliver, DeliverEnd, Tick, Ready, FeedEnd, Misuse, Halt, Expire, Accept, Shut}
use Rattle.gcd_history.specs.Runs.{act_at}
use Rattle.gcd_history.specs.Holds.{is_active}
use Rattle.gcd_history.specs.Submitted.{is_cancelled}
use Rattle.gcd_history.specs.Timers.{now, is_due}

-- the values in one
abbrev pub fold_of : Kind → List ℕ → ℕ
fold_of kind values = fold (folded kind) 0 values

-- two values of source s in one
abbrev pub joined : PlanView → ℕ → ℕ → ℕ → ℕ
joined plan s a b = option_map_or (λ kind. folded kind a b) (kind_of plan s) 0

-- how the values of source s are made one
abbrev pub fold_at : PlanView → ℕ → List ℕ → ℕ
fold_at plan s values = option_map_or (λ kind. fold_of kind values) (kind_of plan s) 0

-- a merge of n into source s has an effect (dispatch_source_merge_data(3))
abbrev pub has_effect_at : PlanView → ℕ → (n : ℕ) → Bool
has_effect_at plan s n = option_map_or (λ kind. has_effect kind n) (kind_of plan s) false

-- what the act merges into source s (dispatch_source_merge_data(3))
abbrev pub merged_by : PlanView → ℕ → Option Act → List ℕ
merged_by plan s act =
    option_map_or (λ m. if m.0.0 == s && has_effect_at plan s m.1 then m.1 ∷ [] else []) (effects_of act).merges []

-- 1 for each due time of timer s after from, up to the tick
abbrev pub due_inputs : PlanView → List Event → ℕ → (from to : ℕ) → List ℕ
due_inputs plan past s from to = map (λ t. 1) (filter (is_due plan past s) (range_with_len (from + 1) (to - from)))

-- what the event after past adds to the inputs of source s: a merge above 0, at a replace source of 0 too, the bytes of a
-- Ready, or 1 for each due time up to a Tick (dispatch_source_create(3))
abbrev pub input : PlanView → List Event → Event → ℕ → List ℕ
input plan past (Start w b) s = []
input plan past (Acted w r i) s = merged_by plan s (act_at plan r i)
input plan past (Wake w b) s = []
input plan past (End w b) s = []
input plan past (Deliver w t) s = []
input plan past (DeliverEnd w t) s = []
input plan past (Tick t) s = due_inputs plan past s (now past) t
input plan past (Ready t n) s = if t.0 == s then n ∷ [] else []
input plan past (FeedEnd t) s = []
input plan past (Misuse w c r i) s = []
input plan past Halt s = []
input plan past (Expire b) s = []
input plan past (Accept b n) s = []
input plan past Shut s = []

-- the event is a Deliver of source s
abbrev pub delivers : ℕ → Event → Bool
delivers s (Deliver w t) = t.0 == s
delivers s (Start w b) = false
delivers s (Acted w r i) = false
delivers s (Wake w b) = false
delivers s (End w b) = false
delivers s (DeliverEnd w t) = false
delivers s (Tick t) = false
delivers s (Ready t n) = false
delivers s (FeedEnd t) = false
delivers s (Misuse w c r i) = false
delivers s Halt = false
delivers s (Expire b) = false
delivers s (Accept b t) = false
delivers s Shut = false

-- all inputs of source s
abbrev pub inputs : PlanView → List Event → ℕ → List ℕ
inputs plan [] s = []
inputs plan (e ∷ past) s = inputs plan past s ++ input plan past e s

-- the inputs of source s after its last Deliver
abbrev pub new_inputs : PlanView → List Event → ℕ → List ℕ
new_inputs plan [] s = []
new_inputs plan (e ∷ past) s = if delivers s e then [] else new_inputs plan past s ++ input plan past e s

-- the value that waits to be handed over (dispatch_source_get_data(3))
abbrev pub pending : PlanView → List Event → ℕ → ℕ
pending plan past s = fold_at plan s (new_inputs plan past s)

-- what the Delivers of source s handed over, in order
abbrev pub handed : PlanView → List Event → ℕ → List ℕ
handed plan [] s = []
handed plan (e ∷ past) s = handed plan past s ++ (if delivers s e then pending plan past s ∷ [] else [])

-- what the last Deliver of source s handed over, 0 before one (dispatch_source_get_data(3))
abbrev pub last_data : PlanView → List Event → ℕ → ℕ
last_data plan [] s = 0
last_data plan (e ∷ past) s = if delivers s e then pending plan past s else last_data plan past s

-- what the event after past hands over: what is pending at its source, where it is a Deliver, and else nothing
-- (dispatch_source_get_data(3))
abbrev pub handed_by : PlanView → List Event → Event → Option ℕ
handed_by plan past (Deliver w s) = Some (pending plan past s.0)
handed_by plan past (Start w b) = None
handed_by plan past (Acted w r i) = None
handed_by plan past (Wake w b) = None
handed_by plan past (End w b) = None
handed_by plan past (DeliverEnd w s) = None
handed_by plan past (Tick t) = None
handed_by plan past (Ready s n) = None
handed_by plan past (FeedEnd s) = None
handed_by plan past (Misuse w c r i) = None
handed_by plan past Halt = None
handed_by plan past (Expire b) = None
handed_by plan past (Accept b s) = None
handed_by plan past Shut = None

-- how many Delivers of source s stand
abbrev pub delivery_count : List Event → ℕ → ℕ
delivery_count past s = count_by (delivers s) past

-- all that the Delivers of source s handed over, in one
abbrev pub received : PlanView → List Event → ℕ → ℕ
received plan past s = fold_at plan s (handed plan past s)

-- all inputs of source s, in one
abbrev pub merged : PlanView → List Event → ℕ → ℕ
merged plan past s = fold_at plan s (inputs plan past s)

-- something is pending at source s, and it is not cancelled (dispatch_source_create(3), dispatch_source_cancel(3))
unfoldable pub is_pending : PlanView → List Event → ℕ → Bool
is_pending plan past s = not (pending plan past s == 0) && not (is_cancelled plan past s)

-- s is a read source that is active and not cancelled (dispatch_source_create(3))
unfoldable pub is_live_feed : PlanView → List Event → ℕ → Bool
is_live_feed plan past s = has_kind is_read_kind plan s && (is_active plan past s && not (is_cancelled plan past s))

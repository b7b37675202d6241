-- The laws over histories in order, from those by recursion.
use Rattle.std.proofs.Common.{◌≡◌, ℕ, suc, ◌+◌, ◌-◌, ◌<◌, ◌≤◌, ◌==◌, true, List, ◌∷◌, length, take, drop, ◌++◌, reverse, Some, None, is_some, option_and_then, refl, count_by, ap, sym, ◌∙◌, subst, arith}
use Rattle.std.proofs.lemmas.Bool.{eqb-true, both_ways}
use Rattle.std.proofs.lemmas.List.{take-append-drop, reverse-append, take_all, length-reverse, length-take-le}
use Rattle.std.specs.Bool.{IsTrue}
use Rattle.std.specs.List.{slice_get}
use Rattle.std.specs.Option.{option_map_or}
use Rattle.std.proofs.lemmas.Option.{slice_get_within, get_or_from_slice_get}
use Rattle.gcd_plan.specs.PlanView.{PlanView}
use Rattle.gcd_plan.specs.Validity.{IsPlan}
use Rattle.gcd_plan.specs.Chains.{chain_by, is_in}
use Rattle.gcd_plan.specs.declared.numbers.Run.{Run}
use Rattle.gcd_plan.specs.declared.numbers.Run.TheVariants.{Block}
use Rattle.gcd_plan.specs.declared.reason.Reason.TheVariants.{Group}
use Rattle.gcd_event.specs.declared.event.Event.{Event}
use Rattle.gcd_event.specs.declared.event.Event.TheVariants.{Start, Wake, Deliver, Halt}
use Rattle.gcd_history.specs.Semas.{waits}
use Rattle.gcd_history.specs.Runs.{act_of, starts, ends, is_ended as is_ended_after, is_open as is_open_after}
use Rattle.gcd_history.specs.Tree.{target, chain_of_run}
use Rattle.gcd_history.specs.Submitted.{submitted, submission_of}
use Rattle.gcd_history.specs.Parked.{awaited, is_parked, has_come as has_come_after, has_run_out, is_over as is_over_after}
use Rattle.gcd_history.specs.Permitted.{IsLawful as IsLawfulAfter, is_halted as is_halted_after}
use Rattle.gcd_history.specs.Choice.{choice, all_ended as all_ended_after}
use Rattle.gcd_history.specs.History.{why, IsLawful, node_of, is_started, is_submitted, submitted_of, is_free, chain_of_run as outer_chain, awaited_of, is_over, group_wait_passes, has_expired, semaphore_wait_passes, semaphore_wait_expired, expiry_of, inputs_of, new_inputs_of, received_of, pending_of, merged_of, is_open, is_active, chain_of, node_of_run, is_barrier_on, choice_of, running_of, next_due_of, is_live_feed, is_intake_open}
use Rattle.gcd_history.specs.Ends.{IsDrained, all_ended, IsQuiescent, IsHalted, is_halted}
use Rattle.gcd_history.specs.Laws.{RunsOnce, StartsAfterSubmission, AllEndOnce, IsSubmittedOnce, StartsInOrder, BeginsFree, WakesHaveCause, NoneParked, WaitsAreOver, GroupWaitsEnd, SemaphoreWaitsEnd, IsConserved, LastsAreKept, RunsExclude, BlocksOfOneNodeApart, BarriersExclude, DeliversAlone, TreeStands, IsChoiceOf, HasNoChoice, IsAtRest}
use Rattle.gcd_plan.proofs.Places.{past_from_slice_get}
use Rattle.gcd_history.proofs.Lists.{count_by-reverse, found_passes, past_more}
use Rattle.gcd_plan.proofs.Sums.{count_by_some}
use Rattle.gcd_plan.proofs.Options.{some_from_is_some}
use Rattle.gcd_history.proofs.Permitted.Lawful.{lawful_after, lawful_take}
use Rattle.gcd_history.proofs.Permitted.Reasons.{allowed, at_start, at_wake}
use Rattle.gcd_history.proofs.Blocks.StartedOnce.{started_once, ended_once}
use Rattle.gcd_history.proofs.Blocks.SubmittedOnce.{submitted_once}
use Rattle.gcd_history.proofs.Blocks.InOrder.{starts_in_order as starts_in_order_after}
use Rattle.gcd_history.proofs.Runs.FreeAtStart.{start_begins_alone, deliver_begins_alone}
use Rattle.gcd_history.proofs.Waits.Woken.{came, none_parked}
use Rattle.gcd_history.proofs.Waits.Pass.{passed, group_wait_over, semaphore_wait_over}
use Rattle.gcd_plan.specs.declared.kind.Kind.TheVariants.{Replace}
use Rattle.gcd_history.specs.Sources.{fold_of, inputs, new_inputs, pending, handed, received}
use Rattle.gcd_history.proofs.Sources.Merged.{conserved, last_of_new, last_received, replace_kind, last_is}
use Rattle.gcd_history.proofs.Runs.OpenOnce.{shut_at_deliver}
use Rattle.gcd_history.proofs.Runs.BlocksApart.{blocks_apart}
use Rattle.gcd_history.proofs.Runs.Alone.{runs_alone, barriers_alone}
use Rattle.gcd_history.proofs.Tree.Stands.{stands, chain_step}
use Rattle.gcd_history.proofs.Walks.{reaches-in}
use Rattle.gcd_history.proofs.Permitted.Choices.{chosen_is, chosen_where_permitted}
use Rattle.gcd_history.proofs.Permitted.Quiet.{quiescent_from_rest, rest_from_quiescent, only_halt}

pub runs_once : (plan : PlanView) (h : List Event) → IsLawful plan h → RunsOnce h
runs_once plan h lawful =
    let past = lawful_after plan h lawful in
    record {
      starts_once = λ b. subst (λ n. n ≤ 1) (count_by-reverse (starts b) h) (started_once plan (reverse h) past b);
      ends_once = λ b. subst (λ n. n ≤ 1) (count_by-reverse (ends b) h) (ended_once plan (reverse h) past b);
    }

pub starts_after_submission : (plan : PlanView) (h : List Event) → IsLawful plan h → StartsAfterSubmission plan h
unfolding IsLawful why is_started is_submitted
starts_after_submission plan h lawful i w b at =
    let facts = at_start plan (reverse (take i h)) w b (lawful i (Start w b) at) in
    record { submitted = facts.submitted_one; fresh = facts.fresh }

pub all_end_once : (plan : PlanView) (h : List Event) → IsLawful plan h → IsDrained plan h → AllEndOnce plan h
unfolding is_submitted all_ended
all_end_once plan h lawful drained b submitted_one =
    let past = lawful_after plan h lawful in
    let s = some_from_is_some (submission_of plan (reverse h) b) submitted_one in
    let found = found_passes (λ t. t.blk.0 == b) (λ t. is_ended_after (reverse h) t.blk.0) (submitted plan (reverse h)) s.0 s.1 drained.ended in
    let same : s.0.blk.0 ≡ b = eqb-true s.0.blk.0 b found.0 in
    let ended : is_ended_after (reverse h) b ≡ true = subst (λ n. is_ended_after (reverse h) n ≡ true) same found.1 in
    let some : 1 ≤ count_by (ends b) (reverse h) = count_by_some (ends b) (reverse h) ended in
    let once = ended_once plan (reverse h) past b in
    let turned = count_by-reverse (ends b) h in
    omega arith

pub is_submitted_once : (plan : PlanView) (h : List Event) → IsPlan plan → IsLawful plan h → IsSubmittedOnce plan h
unfolding submitted_of
is_submitted_once plan h valid lawful b = submitted_once plan (reverse h) valid (lawful_after plan h lawful) b

pub starts_in_order : (plan : PlanView) (h : List Event) → IsPlan plan → IsLawful plan h → StartsInOrder plan h
unfolding submitted_of is_started
starts_in_order plan h valid lawful i = starts_in_order_after plan (reverse (take i h)) valid (lawful_after plan (take i h) (lawful_take plan h i lawful))

pub begins_free : (plan : PlanView) (h : List Event) → IsLawful plan h → BeginsFree plan h
unfolding IsLawful why is_free outer_chain
begins_free plan h lawful = record {
  starts = λ i w b o at inside. (start_begins_alone plan (reverse (take i h)) w b (lawful i (Start w b) at)).free o inside;
  delivers = λ i w s o at inside. (deliver_begins_alone plan (reverse (take i h)) w s (lawful i (Deliver w s) at)).free o inside;
}

parked_awaited : (plan : PlanView) (past : List Event) (b : ℕ) → is_parked plan past b ≡ true → is_some (awaited plan past (Block (record { 0 = b }))) ≡ true
unfolding is_parked
parked_awaited plan past b parked = parked

pub wakes_have_cause : (plan : PlanView) (h : List Event) → IsLawful plan h → WakesHaveCause plan h
unfolding IsLawful why awaited_of is_over
wakes_have_cause plan h lawful i w b at =
    let past = reverse (take i h) in
    let facts = at_wake plan past w b (lawful i (Wake w b) at) in
    let r = some_from_is_some (awaited plan past (Block b)) (parked_awaited plan past b.0 facts.parked) in
    record { awaited = r.0; parked = r.1; over = came plan past b.0 r.0 r.1 facts.came }

pub none_is_parked : (plan : PlanView) (h : List Event) → IsLawful plan h → IsDrained plan h → NoneParked plan h
unfolding awaited_of all_ended
none_is_parked plan h lawful drained b = none_parked plan (reverse h) (lawful_after plan h lawful) drained.ended (record { 0 = b })

-- the events from a position on, in reverse
pub turned_at : (h : List Event) (i : ℕ) → reverse h ≡ reverse (drop i h) ++ reverse (take i h)
turned_at h i = ap reverse (sym (take-append-drop i h)) ∙ reverse-append (take i h) (drop i h)

pub waits_are_over : (plan : PlanView) (h : List Event) → IsLawful plan h → IsDrained plan h → WaitsAreOver plan h
unfolding awaited_of is_over all_ended
waits_are_over plan h lawful drained i b r is =
    let split = turned_at h i in
    let whole : IsLawfulAfter plan (reverse (drop i h) ++ reverse (take i h)) = subst (IsLawfulAfter plan) split (lawful_after plan h lawful) in
    let ended : all_ended_after plan (reverse (drop i h) ++ reverse (take i h)) ≡ true = subst (λ k. all_ended_after plan k ≡ true) split drained.ended in
    subst (λ k. is_over_after plan k r ≡ true) (sym split) (passed plan (reverse (drop i h)) (reverse (take i h)) whole ended (record { 0 = b }) r is)

-- the same, with the event at the position
pub turned_to : (h : List Event) (i : ℕ) (e : Event) → slice_get h i ≡ Some e → reverse h ≡ reverse (drop (i + 1) h) ++ e ∷ reverse (take i h)
turned_to h i e at =
    let within : i < length h = slice_get_within h i e at in
    turned_at h (i + 1) ∙ ap (λ k. reverse (drop (i + 1) h) ++ k) (past_more h i e within ∙ ap (λ d. d ∷ reverse (take i h)) (get_or_from_slice_get h i e e at))

pub group_waits_end : (plan : PlanView) (h : List Event) → IsPlan plan → IsLawful plan h → IsDrained plan h → GroupWaitsEnd plan h
unfolding group_wait_passes has_expired all_ended has_come_after has_run_out
group_waits_end plan h valid lawful drained i e g at waits =
    let split = turned_to h i e at in
    let later = reverse (drop (i + 1) h) in
    let past = reverse (take i h) in
    let whole : IsLawfulAfter plan (later ++ e ∷ past) = subst (IsLawfulAfter plan) split (lawful_after plan h lawful) in
    let ended : all_ended_after plan (later ++ e ∷ past) ≡ true = subst (λ k. all_ended_after plan k ≡ true) split drained.ended in
    let within : i < length h = slice_get_within h i e at in
    let long : length past ≡ i = length-reverse (take i h) ∙ length-take-le i h (omega arith) in
    subst (λ n. is_over_after plan (reverse h) (Group g n) ≡ true) long
    (subst (λ k. is_over_after plan k (Group g (length past)) ≡ true) (sym split) (group_wait_over plan later past e g valid whole ended waits))

pub semaphore_waits_end : (plan : PlanView) (h : List Event) → IsPlan plan → IsLawful plan h → IsDrained plan h → SemaphoreWaitsEnd plan h
unfolding semaphore_wait_passes semaphore_wait_expired all_ended has_come_after has_run_out
semaphore_waits_end plan h valid lawful drained s k low high =
    let same = count_by-reverse (λ e. waits s (act_of plan e)) h in
    semaphore_wait_over plan (reverse h) (record { 0 = s }) k valid (lawful_after plan h lawful) drained.ended low (omega arith)

pub is_conserved : (plan : PlanView) (h : List Event) → IsConserved plan h
unfolding received_of pending_of merged_of
is_conserved plan h s keeps = conserved plan (reverse h) s keeps

pub lasts_are_kept : (plan : PlanView) (h : List Event) → IsLawful plan h → LastsAreKept plan h
unfolding received_of pending_of inputs_of new_inputs_of
lasts_are_kept plan h lawful s replaced =
    let is = replace_kind plan s replaced in
    let past = reverse h in
    let last = last_is (inputs plan past s) in
    let waits : pending plan past s ≡ fold_of Replace (new_inputs plan past s) = ap (λ o. option_map_or (λ k. fold_of k (new_inputs plan past s)) o 0) is in
    let got : received plan past s ≡ fold_of Replace (handed plan past s) = ap (λ o. option_map_or (λ k. fold_of k (handed plan past s)) o 0) is in
    record {
      waits = λ some. waits ∙ (last_of_new plan past s some ∙ last);
      none_waits = λ none. waits ∙ ap (fold_of Replace) none;
      handed = λ none. got ∙ (last_received plan past s (lawful_after plan h lawful) is none ∙ last);
    }

pub runs_exclude : (plan : PlanView) (h : List Event) → IsPlan plan → IsLawful plan h → RunsExclude plan h
unfolding is_open outer_chain
runs_exclude plan h valid lawful i o r q exclusive on r_in q_in =
    runs_alone plan (reverse (take i h)) valid (lawful_after plan (take i h) (lawful_take plan h i lawful)) o r q exclusive on.one on.other r_in q_in

pub blocks_of_one_node_apart : (plan : PlanView) (h : List Event) → IsPlan plan → IsLawful plan h → BlocksOfOneNodeApart plan h
unfolding node_of is_open
blocks_of_one_node_apart plan h valid lawful q a b alone a_node b_node both =
    let i = both.position in
    let split = turned_at h i in
    blocks_apart plan (reverse (drop i h)) (reverse (take i h)) q a b valid (lawful_after plan (take i h) (lawful_take plan h i lawful)) alone
    (sym (ap (λ k. option_and_then (λ s. s.node) (submission_of plan k a.0)) split) ∙ a_node)
    (sym (ap (λ k. option_and_then (λ s. s.node) (submission_of plan k b.0)) split) ∙ b_node)
    both.there.one both.there.other

pub barriers_exclude : (plan : PlanView) (h : List Event) → IsLawful plan h → BarriersExclude plan h
unfolding is_open is_barrier_on node_of_run
barriers_exclude plan h lawful i n r q has on barrier node =
    barriers_alone plan (reverse (take i h)) (lawful_after plan (take i h) (lawful_take plan h i lawful)) n r q has on.one on.other barrier node

pub delivers_alone : (plan : PlanView) (h : List Event) → IsLawful plan h → DeliversAlone h
unfolding IsLawful why is_open
delivers_alone plan h lawful i w s at =
    shut_at_deliver plan (reverse (take i h)) w s (lawful_after plan (take i h) (lawful_take plan h i lawful), lawful i (Deliver w s) at)

-- where place i has no event, one event more is none more
no_more : (h : List Event) (i : ℕ) → length h ≤ i → take (i + 1) h ≡ take i h
no_more h i past = take_all (i + 1) h (omega arith) ∙ sym (take_all i h past)

chain_at : (plan : PlanView) (h : List Event) → IsPlan plan → IsLawful plan h → (i : ℕ) (run : Run) → IsTrue (is_open (take i h) run) → IsTrue (is_open (take (i + 1) h) run) → outer_chain plan (take (i + 1) h) run ≡ outer_chain plan (take i h) run
unfolding is_open outer_chain
chain_at plan h valid lawful i run before now =
    elim (slice_get h i) as (λ o. slice_get h i ≡ o → chain_of_run plan (reverse (take (i + 1) h)) run ≡ chain_of_run plan (reverse (take i h)) run) [
      | None ↦ λ none. ap (λ l. chain_of_run plan (reverse l) run) (no_more h i (past_from_slice_get h i none))
      | Some e ↦ λ some.
          let within : i < length h = slice_get_within h i e some in
          let turned : reverse (take (i + 1) h) ≡ e ∷ reverse (take i h) = past_more h i e within ∙ ap (λ d. d ∷ reverse (take i h)) (get_or_from_slice_get h i e e some) in
          let whole : IsLawfulAfter plan (e ∷ reverse (take i h)) = subst (IsLawfulAfter plan) turned (lawful_after plan (take (i + 1) h) (lawful_take plan h (i + 1) lawful)) in
          let on : is_open_after (e ∷ reverse (take i h)) run ≡ true = subst (λ l. is_open_after l run ≡ true) turned now in
          ap (λ l. chain_of_run plan l run) turned ∙ chain_step plan e (reverse (take i h)) (valid, whole, stands plan (reverse (take i h)) valid whole.0) run before on
    ] refl

active_at : (plan : PlanView) (h : List Event) → IsPlan plan → IsLawful plan h → (i o : ℕ) (run : Run) → IsTrue (is_open (take i h) run) → IsTrue (is_in o (outer_chain plan (take i h) run)) → IsTrue (is_active plan (take i h) o)
unfolding is_open outer_chain is_active
active_at plan h valid lawful i o run live inside =
    (stands plan (reverse (take i h)) valid (lawful_after plan (take i h) (lawful_take plan h i lawful))).active o run live inside

rooted_at : (plan : PlanView) (h : List Event) → IsPlan plan → IsLawful plan h → (i o : ℕ) → o < length plan.objects → IsTrue (is_in 0 (chain_of plan (take i h) o))
unfolding chain_of
rooted_at plan h valid lawful i o within =
    let past = reverse (take i h) in
    let goal = (stands plan past valid (lawful_after plan (take i h) (lawful_take plan h i lawful))).rooted o within in
    let one : suc (length plan.objects - 1) ≡ length plan.objects = omega arith in
    subst (λ k. is_in 0 (chain_by (target plan past) k o) ≡ true) one (reaches-in (target plan past) (length plan.objects - 1) o ∙ goal)

pub tree_stands : (plan : PlanView) (h : List Event) → IsPlan plan → IsLawful plan h → TreeStands plan h
tree_stands plan h valid lawful = record { kept = chain_at plan h valid lawful; active = active_at plan h valid lawful; rooted = rooted_at plan h valid lawful }

pub choice_is_permitted : (plan : PlanView) (h : List Event) (w from : ℕ) (e : Event) → choice_of plan h w from ≡ Some e → IsChoiceOf plan h w e
unfolding choice_of why
choice_is_permitted plan h w from e at =
    let chosen = chosen_is plan (reverse h) w from e at in
    record { permitted = chosen.permitted_now; work = chosen.work; by = chosen.by }

pub no_choice_is_none : (plan : PlanView) (h : List Event) (w from : ℕ) → IsPlan plan → choice_of plan h w from ≡ None → HasNoChoice plan h w
unfolding choice_of why
no_choice_is_none plan h w from valid none e one =
    let some = chosen_where_permitted plan (reverse h) from e valid one.work one.permitted in
    let here : is_some (choice plan (reverse h) w from) ≡ true = subst (λ v. is_some (choice plan (reverse h) v from) ≡ true) one.by some in
    both_ways (is_some (choice plan (reverse h) w from)) (ap is_some none) here

pub rest_is_quiescent : (plan : PlanView) (h : List Event) → IsPlan plan → IsLawful plan h → IsAtRest plan h → IsQuiescent plan h
unfolding IsQuiescent is_halted running_of choice_of expiry_of next_due_of is_live_feed is_intake_open
rest_is_quiescent plan h valid lawful rest =
    quiescent_from_rest plan (reverse h) valid (lawful_after plan h lawful)
    (record { goes_on = rest.unhalted; idle = rest.idle; no_choice = rest.no_choice; no_expiry = rest.no_expiry; no_time = rest.no_time; no_feed = rest.no_feed; no_intake = rest.no_intake })

pub quiescent_is_rest : (plan : PlanView) (h : List Event) → IsPlan plan → IsLawful plan h → IsQuiescent plan h → IsAtRest plan h
unfolding IsQuiescent is_halted running_of choice_of expiry_of next_due_of is_live_feed is_intake_open
quiescent_is_rest plan h valid lawful quiet =
    let rest = rest_from_quiescent plan (reverse h) valid (lawful_after plan h lawful) quiet in
    record { unhalted = rest.goes_on; idle = rest.idle; no_choice = rest.no_choice; no_expiry = rest.no_expiry; no_time = rest.no_time; no_feed = rest.no_feed; no_intake = rest.no_intake }

pub halted_stands : (plan : PlanView) (h : List Event) (e : Event) → IsHalted h → why plan h e ≡ None → ⊥
unfolding is_halted why
halted_stands plan h e halted may = both_ways (is_halted_after (reverse h)) (allowed plan (reverse h) e may).goes_on halted

pub quiescent_stands : (plan : PlanView) (h : List Event) (e : Event) → IsQuiescent plan h → why plan h e ≡ None → e ≡ Halt
unfolding IsQuiescent why
quiescent_stands plan h e quiet may = only_halt plan (reverse h) e quiet may

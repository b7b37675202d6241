-- The laws of teams, over histories in order, from those by recursion.
use Rattle.std.proofs.Common.{◌≡◌, ℕ, Bool, true, false, ◌||◌, cond, ◌==◌, List, [], ◌∷◌, ◌++◌, filter, reverse, Some, None, refl, ap, sym, ◌∙◌, subst, arith}
use Rattle.std.specs.List.{list_any}
use Rattle.std.proofs.lemmas.Bool.{eqb-true, both_ways, false_from_ne_true}
use Rattle.std.proofs.lemmas.List.{reverse-append, append-nil}
use Rattle.std.proofs.lemmas.Option.{none-some}
use Rattle.gcd_plan.proofs.Sums.{count_by-cons}
use Rattle.gcd_plan.specs.PlanView.{PlanView}
use Rattle.gcd_plan.specs.Validity.{IsPlan, is_handler_act}
use Rattle.gcd_plan.specs.declared.act.Act.{Act}
use Rattle.gcd_plan.specs.declared.act.Act.TheVariants.{Sync, BarrierSync, GroupWait, GroupWaitFor, Wait, WaitFor, Apply, WaitBlock}
use Rattle.gcd_plan.specs.declared.numbers.Blk.{Blk}
use Rattle.gcd_plan.specs.declared.numbers.Obj.{Obj}
use Rattle.gcd_plan.specs.declared.numbers.Run.{Run}
use Rattle.gcd_plan.specs.declared.numbers.Run.TheVariants.{Block, Source}
use Rattle.gcd_event.specs.declared.event.Event.{Event}
use Rattle.gcd_event.specs.declared.event.Event.TheVariants.{Act as Acted, End, Deliver, DeliverEnd, Misuse}
use Rattle.gcd_history.specs.Runs.{act_at, is_open, is_ended as is_ended_after}
use Rattle.gcd_history.specs.Parked.{has_run as has_run_after, is_parking as parks_after}
use Rattle.gcd_history.specs.Sources.{delivers, delivery_count, handed, fold_at, received, last_data, pending}
use Rattle.gcd_history.specs.Permitted.{IsLawful as IsLawfulAfter}
use Rattle.gcd_history.specs.Choice.{worker_of}
use Rattle.gcd_history.specs.Facts.{by_worker}
use Rattle.gcd_history.specs.History.{IsLawful, why, has_run, parks, is_ended, delivery_count_of, received_of, last_data_of, running_of, choice_of}
use Rattle.gcd_history.proofs.Lists.{reverse_push}
use Rattle.gcd_history.proofs.Permitted.Lawful.{lawful_after, lawful_front}
use Rattle.gcd_history.proofs.Runs.Open.{same_run-true}
use Rattle.gcd_history.proofs.Permitted.Reasons.{at_act, at_misuse, at_end, at_deliver_end}
use Rattle.gcd_history.proofs.Blocks.SubmittedOnce.{handler_act}
use Rattle.gcd_history.proofs.Blocks.StartedOnce.{open_from_has_run, open_not_ended}
use Rattle.gcd_history.proofs.Public.Laws.{no_choice_is_none}
use Rattle.gcd_history.proofs.Public.Facts.{free_alike, all_workers_free}
use Rattle.gcd_history.proofs.Runs.OneRun.{idle_has_none}
use Rattle.gcd_history.proofs.Runs.OpenOnce.{shut_at_deliver}
use Rattle.gcd_history.specs.Held.{is_of, held_after, held}
use Rattle.gcd_history.specs.Team.{of_worker, held_by}
use Rattle.gcd_history.specs.TeamFacts.{HeldRunsAreOpen, HeldRunsAreApart, TakingsFindNobody, GivingsAreTheHolders, OwnEventsAreTheHolders, ParkingActsAreBlocks, CellsWait, NoWork}
use Rattle.gcd_history.proofs.HeldRuns.OwnEvents.{filter_reverse}
use Rattle.gcd_history.proofs.HeldRuns.Taking.{takes, gives, one_worker}
use Rattle.gcd_history.proofs.HeldRuns.Following.{held_where_has, has_where_held}
use Rattle.gcd_history.proofs.Permitted.Quiet.{work_kept, its_worker}

-- ## What is held, an event on

pub nothing_is_held_first : (plan : PlanView) (w : ℕ) → held_by plan [] w ≡ None
unfolding held_by
nothing_is_held_first plan w = refl

pub held_goes_on : (plan : PlanView) (h : List Event) (e : Event) (w : ℕ) → held_by plan (h ++ e ∷ []) w ≡ cond (is_of w e) (held_after plan e (held_by plan h w)) (held_by plan h w)
unfolding held_by
held_goes_on plan h e w = ap (λ l. held plan l w) (reverse_push h e)

-- ## What is held, and runs

-- nothing is held where there is no run
holds_none : (plan : PlanView) (past : List Event) (w : ℕ) → IsLawfulAfter plan past → ((r : Run) → has_run_after plan past w r ≡ true → ⊥) → held plan past w ≡ None
holds_none plan past w h none =
    elim (held plan past w) as (λ o. held plan past w ≡ o → o ≡ None) [
      | None ↦ λ it. refl
      | Some r ↦ λ it. absurd (none r (has_where_held plan past w r h it))
    ] refl

pub held_runs_are_open : (plan : PlanView) (h : List Event) → IsLawful plan h → HeldRunsAreOpen plan h
unfolding held_by has_run
held_runs_are_open plan h lawful = record {
  has = λ w r it. has_where_held plan (reverse h) w r (lawful_after plan h lawful) it;
  held = λ w r own. held_where_has plan (reverse h) w r (lawful_after plan h lawful) own;
  free = λ w none r. false_from_ne_true (has_run_after plan (reverse h) w r) (λ own. none-some r (sym none ∙ held_where_has plan (reverse h) w r (lawful_after plan h lawful) own));
  none = λ w free. holds_none plan (reverse h) w (lawful_after plan h lawful) (λ r own. both_ways (has_run_after plan (reverse h) w r) (free r) own);
}

pub held_runs_are_apart : (plan : PlanView) (h : List Event) → IsLawful plan h → HeldRunsAreApart plan h
unfolding has_run
held_runs_are_apart plan h lawful w v r one other =
    let follow = held_runs_are_open plan h lawful in
    one_worker plan (reverse h) w v r (follow.has w r one) (follow.has v r other)

pub takings_find_nobody : (plan : PlanView) (h : List Event) → IsLawful plan h → TakingsFindNobody plan h
unfolding held_by why
takings_find_nobody plan h lawful e r took may =
    let past = lawful_after plan h lawful in
    let facts = takes plan e (reverse h) r (past, may) took in
    record {
      idle = holds_none plan (reverse h) (worker_of e) past (λ q own. idle_has_none plan (reverse h) (worker_of e) q facts.idle own);
      nobodys = λ w it. facts.nobodys w (has_where_held plan (reverse h) w r past it);
    }

pub givings_are_the_holders : (plan : PlanView) (h : List Event) → IsLawful plan h → GivingsAreTheHolders plan h
unfolding held_by why
givings_are_the_holders plan h lawful e r gave may =
    let past = lawful_after plan h lawful in
    held_where_has plan (reverse h) (worker_of e) r past (gives plan e (reverse h) r (past, may) gave).own

holders : (plan : PlanView) (past : List Event) (w : ℕ) (q r : Run) → has_run_after plan past w q ≡ true → q ≡ r → IsLawfulAfter plan past → held plan past w ≡ Some r
holders plan past w q r own same h = held_where_has plan past w r h (subst (λ k. has_run_after plan past w k ≡ true) same own)

pub own_events_are_the_holders : (plan : PlanView) (h : List Event) → IsLawful plan h → OwnEventsAreTheHolders plan h
unfolding held_by why
own_events_are_the_holders plan h lawful (Acted w q i) r it may = holders plan (reverse h) w q r (at_act plan (reverse h) w q i may).own (same_run-true q r it) (lawful_after plan h lawful)
own_events_are_the_holders plan h lawful (Misuse w c q i) r it may = holders plan (reverse h) w q r (at_misuse plan (reverse h) w q i c may).own (same_run-true q r it) (lawful_after plan h lawful)
own_events_are_the_holders plan h lawful (End w b) r it may = holders plan (reverse h) w (Block b) r (at_end plan (reverse h) w b may).own (same_run-true (Block b) r it) (lawful_after plan h lawful)
own_events_are_the_holders plan h lawful (DeliverEnd w s) r it may = holders plan (reverse h) w (Source s) r (at_deliver_end plan (reverse h) w s may).own (same_run-true (Source s) r it) (lawful_after plan h lawful)
own_events_are_the_holders plan h lawful e r it may = absurd (both_ways false refl it)

-- ## Handlers do not park

unparking : (act : Act) → is_handler_act act ≡ true → parks_after (Some act) ≡ false
unparking (Sync q b) h = cc
unparking (BarrierSync q b) h = cc
unparking (GroupWait g) h = cc
unparking (GroupWaitFor g ms) h = cc
unparking (Wait s) h = cc
unparking (WaitFor s ms) h = cc
unparking (Apply q a) h = cc
unparking (WaitBlock b) h = cc
unparking act h = refl

handler_unparking : (plan : PlanView) (s : Obj) (i : ℕ) → IsPlan plan → parks_after (act_at plan (Source s) i) ≡ false
handler_unparking plan s i valid =
    elim (act_at plan (Source s) i) as (λ a. act_at plan (Source s) i ≡ a → parks_after a ≡ false) [
      | None ↦ λ none. refl
      | Some act ↦ λ at. unparking act (handler_act plan s i act valid at).0
    ] refl

pub parking_acts_are_blocks : (plan : PlanView) → IsPlan plan → ParkingActsAreBlocks plan
unfolding parks
parking_acts_are_blocks plan valid w i s = handler_unparking plan s i valid

-- ## Cells wait

-- what is held where others' events come
held_left : (plan : PlanView) (later past : List Event) (w : ℕ) → filter (is_of w) later ≡ [] → held plan (later ++ past) w ≡ held plan past w
held_left plan [] past w none = refl
held_left plan (e ∷ later) past w none =
    elim (is_of w e) as (λ v. cond v (e ∷ filter (is_of w) later) (filter (is_of w) later) ≡ [] → cond v (held_after plan e (held plan (later ++ past) w)) (held plan (later ++ past) w) ≡ held plan past w) [
      | true ↦ λ some. cc
      | false ↦ λ rest. held_left plan later past w rest
    ] none

others_in : (w : ℕ) (e : Event) (later : List Event) → filter (is_of w) (e ∷ later) ≡ [] → filter (is_of w) later ≡ []
others_in w e later none =
    elim (is_of w e) as (λ v. cond v (e ∷ filter (is_of w) later) (filter (is_of w) later) ≡ [] → filter (is_of w) later ≡ []) [ true ↦ λ some. cc | false ↦ λ rest. rest ] none

-- none of the events delivers to the source, while a worker holds its run
none_delivers : (plan : PlanView) (later past : List Event) (w : ℕ) (s : Obj) → IsLawfulAfter plan (later ++ past) → held plan past w ≡ Some (Source s) → filter (is_of w) later ≡ [] → list_any (delivers s.0) later ≡ false
none_delivers plan [] past w s h it none = refl
none_delivers plan (e ∷ later) past w s h it none =
    let rest = others_in w e later none in
    let own : has_run_after plan (later ++ past) w (Source s) ≡ true = has_where_held plan (later ++ past) w (Source s) h.0 (held_left plan later past w rest ∙ it) in
    ap (λ v. v || list_any (delivers s.0) later) (not_now e (later ++ past) h own) ∙ none_delivers plan later past w s h.0 it rest
  where
    not_now : (e : Event) (now : List Event) → IsLawfulAfter plan (e ∷ now) → has_run_after plan now w (Source s) ≡ true → delivers s.0 e ≡ false
    not_now (Deliver v t) now h own = false_from_ne_true (t.0 == s.0) (λ same.
        let live = open_from_has_run plan now w (Source s) own in
        both_ways (is_open now (Source t)) (shut_at_deliver plan now v t h) (subst (λ n. is_open now (Source (record { 0 = n })) ≡ true) (sym (eqb-true t.0 s.0 same)) live))
    not_now e now h own = refl

or_both : (x y : Bool) → (x || y) ≡ false → (x ≡ false) × (y ≡ false)
or_both true y h = cc
or_both false y h = (refl, h)

pub count_left : (later past : List Event) (s : ℕ) → list_any (delivers s) later ≡ false → delivery_count (later ++ past) s ≡ delivery_count past s
count_left [] past s none = refl
count_left (e ∷ later) past s none =
    let parts = or_both (delivers s e) (list_any (delivers s) later) none in
    let step = count_by-cons (delivers s) e (later ++ past) in
    let none_now = ap (λ v. cond {A = ℕ} v 1 0) parts.0 in
    let rest = count_left later past s parts.1 in
    omega (arith, step, none_now, rest)

pub handed_left : (plan : PlanView) (later past : List Event) (s : ℕ) → list_any (delivers s) later ≡ false → handed plan (later ++ past) s ≡ handed plan past s
handed_left plan [] past s none = refl
handed_left plan (e ∷ later) past s none =
    let parts = or_both (delivers s e) (list_any (delivers s) later) none in
    ap (λ v. handed plan (later ++ past) s ++ cond v (pending plan (later ++ past) s ∷ []) []) parts.0 ∙ append-nil (handed plan (later ++ past) s) ∙ handed_left plan later past s parts.1

pub data_left : (plan : PlanView) (later past : List Event) (s : ℕ) → list_any (delivers s) later ≡ false → last_data plan (later ++ past) s ≡ last_data plan past s
data_left plan [] past s none = refl
data_left plan (e ∷ later) past s none =
    let parts = or_both (delivers s e) (list_any (delivers s) later) none in
    ap (λ v. cond v (pending plan (later ++ past) s) (last_data plan (later ++ past) s)) parts.0 ∙ data_left plan later past s parts.1

bodies_wait : (plan : PlanView) (later past : List Event) (w : ℕ) (b : Blk) → IsLawfulAfter plan (later ++ past) → IsLawfulAfter plan past → held plan past w ≡ Some (Block b) → filter (is_of w) later ≡ [] → is_ended_after (later ++ past) b.0 ≡ is_ended_after past b.0
bodies_wait plan later past w b whole h it none =
    unended (later ++ past) whole (held_left plan later past w none ∙ it) ∙ sym (unended past h it)
  where
    unended : (now : List Event) → IsLawfulAfter plan now → held plan now w ≡ Some (Block b) → is_ended_after now b.0 ≡ false
    unended now h it = open_not_ended plan now h b (open_from_has_run plan now w (Block b) (has_where_held plan now w (Block b) h it))

none_reversed : (w : ℕ) (later : List Event) → of_worker w later ≡ [] → filter (is_of w) (reverse later) ≡ []
unfolding of_worker
none_reversed w later none = filter_reverse (is_of w) later ∙ ap reverse none

pub cells_wait : (plan : PlanView) (h later : List Event) → IsLawful plan (h ++ later) → CellsWait plan h later
unfolding held_by is_ended delivery_count_of received_of last_data_of
cells_wait plan h later lawful =
    let split = reverse-append h later in
    let whole : IsLawfulAfter plan (reverse later ++ reverse h) = subst (IsLawfulAfter plan) split (lawful_after plan (h ++ later) lawful) in
    record {
      bodies = λ w b it none.
          ap (λ l. is_ended_after l b.0) split
          ∙ bodies_wait plan (reverse later) (reverse h) w b whole (lawful_after plan h (lawful_front plan h later lawful)) it (none_reversed w later none);
      handlers = λ w s it none.
          let quiet = none_delivers plan (reverse later) (reverse h) w s whole it (none_reversed w later none) in
          record {
            times = ap (λ l. delivery_count l s.0) split ∙ count_left (reverse later) (reverse h) s.0 quiet;
            received = ap (λ l. received plan l s.0) split ∙ ap (fold_at plan s.0) (handed_left plan (reverse later) (reverse h) s.0 quiet);
            value = ap (λ l. last_data plan l s.0) split ∙ data_left plan (reverse later) (reverse h) s.0 quiet;
          };
    }

-- ## Nothing to do

-- where no run is open and unparked and worker 0 has no choice, nobody has one
pub idle_histories_wait : (plan : PlanView) (h : List Event) → IsPlan plan → running_of plan h ≡ 0 → choice_of plan h 0 0 ≡ None → NoWork plan h
idle_histories_wait plan h valid quiet none e work may =
    let permitted = free_alike plan h e 0 (all_workers_free plan h (worker_of e) quiet) (all_workers_free plan h 0 quiet) (omega arith) may in
    no_choice_is_none plan h 0 0 valid none (by_worker 0 e) (record { permitted = permitted; work = work_kept e 0 work; by = its_worker e 0 work })

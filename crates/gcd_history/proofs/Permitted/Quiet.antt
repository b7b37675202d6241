-- Free workers are alike, a run that is open and unparked goes on, and so when nothing more can come: no run is open and
-- unparked, and worker 0 has no choice.
use Rattle.std.proofs.Common.{◌≡◌, ◌⊎◌, inl, inr, ⊎_elim, ℕ, ◌+◌, ◌<◌, ◌≤◌, Bool, true, false, not, ◌&&◌, cond, ◌==◌, ltb, leb, List, [], ◌∷◌, length, map, get_or, Some, None, is_some, is_none, option_and_then, refl, ap, sym, ◌∙◌, subst, arith}
use Rattle.std.specs.List.{list_any, list_all, sum_by, slice_get, range_with_len}
use Rattle.std.specs.Option.{option_map_or}
use Rattle.std.proofs.lemmas.Bool.{eqb-true, eq-eqb, and_parts, and_from, and_right, both_ways, lt-ltb, ltb-true, cases_Bool, not-true, false_from_ne_true}
use Rattle.std.proofs.lemmas.Option.{same_Some, none-some, slice_get_within, get_or_from_slice_get}
use Rattle.std.proofs.lemmas.List.Sums.{get_or-le-sum_by}
use Rattle.gcd_plan.specs.Limits.{max_acts}
use Rattle.gcd_plan.specs.PlanView.{PlanView}
use Rattle.gcd_plan.specs.Kinds.{is_source, has_kind, is_read_kind}
use Rattle.gcd_plan.specs.MisuseCodes.{code_of}
use Rattle.gcd_plan.specs.declared.misuse_code.MisuseCode.TheVariants.{UseAfterRelease}
use Rattle.gcd_plan.specs.StartRule.{first_of, run_reasons}
use Rattle.gcd_plan.specs.Validity.{IsPlan}
use Rattle.gcd_plan.specs.declared.act.Act.{Act}
use Rattle.gcd_plan.specs.declared.act.Act.TheVariants.{Resume, Leave, Target, Release}
use Rattle.gcd_plan.specs.declared.numbers.Blk.{Blk}
use Rattle.gcd_plan.specs.declared.numbers.Obj.{Obj}
use Rattle.gcd_plan.specs.declared.numbers.Run.{Run}
use Rattle.gcd_plan.specs.declared.numbers.Run.TheVariants.{Block, Source}
use Rattle.gcd_plan.specs.declared.why.Why.{Why}
use Rattle.gcd_plan.specs.declared.why.Why.TheVariants.{Over, NoSuch, Busy, Unready, NotOwn, NotNext, IsMisuse, NotParked, Waiting, NotMisuse}
use Rattle.gcd_plan.proofs.Within.{has_object}
use Rattle.gcd_event.specs.declared.event.Event.{Event}
use Rattle.gcd_event.specs.declared.event.Event.TheVariants.{Start, Act as Acted, Wake, End, Deliver, DeliverEnd, Tick, Ready, FeedEnd, Misuse, Halt, Expire, Accept, Shut}
use Rattle.gcd_history.specs.Runs.{same_run, opens, open_runs, is_open, acts_done, act_at, last_worker}
use Rattle.gcd_history.specs.Intake.{is_intake_open, next_of_intake}
use Rattle.gcd_history.specs.Cancelled.{is_cancelled_run, act_due}
use Rattle.gcd_history.specs.Submitted.{submission_of}
use Rattle.gcd_history.specs.Tree.{chain}
use Rattle.gcd_history.specs.Parked.{parked_by, running, has_run, is_busy, is_parked, may_wake}
use Rattle.gcd_history.specs.Timers.{now}
use Rattle.gcd_history.specs.Due.{next_due, may_tick}
use Rattle.gcd_history.specs.Sources.{is_pending, is_live_feed}
use Rattle.gcd_history.specs.Misuses.{first_code, act_misuses, is_released, named, misuse}
use Rattle.gcd_history.specs.Permitted.{why, permitted, IsLawful, is_halted, is_known, is_worker, is_index, is_code, has_block, is_run_of, is_ready, knowledge, node_reasons, is_next, has_act_left, misuse_at, reasons}
use Rattle.gcd_history.specs.Choice.{choice, is_work, worker_of, expire_event, expiry, IsQuiescent}
use Rattle.gcd_history.specs.Facts.{is_of_run, by_worker}
use Rattle.gcd_history.proofs.Lists.{none_passes, any_map, all_map, find_from_any, found_passes}
use Rattle.gcd_plan.proofs.Quantifiers.{list_any_in_range, list_any_agree}
use Rattle.gcd_plan.proofs.Sums.{count_by_some, count_by_none}
use Rattle.gcd_plan.proofs.Options.{none_from_is_none}
use Rattle.gcd_history.proofs.Runs.Open.{same_run-refl}
use Rattle.gcd_history.proofs.Permitted.Reasons.{first_none, allowed, at_act, at_end, at_deliver_end, at_misuse, at_tick, at_ready, at_feed_end, at_accept, at_shut, due_is}
use Rattle.gcd_history.proofs.MadeBlocks.OpenIntake.{none_next}
use Rattle.gcd_history.proofs.Runs.OpenNodes.{open_cases, any_open, open_any}
use Rattle.gcd_history.proofs.Permitted.Choices.{chosen_where_permitted, chosen_is}

-- no reason applies, where the first does not, nor do the others
pub none_first : (w : Why) (t : Bool) (rest : List (Why × Bool)) → t ≡ false → first_of rest ≡ None → first_of ((w, t) ∷ rest) ≡ None
none_first w t rest off none = ap (λ v. cond v (Some w) (first_of rest)) off ∙ none

pub none_why : (plan : PlanView) (past : List Event) (e : Event) → is_halted past ≡ false → is_known plan e ≡ true → first_of (reasons plan past e) ≡ None → why plan past e ≡ None
none_why plan past e on known none =
    none_first Over (is_halted past) ((NoSuch, not (is_known plan e)) ∷ reasons plan past e) on
    (none_first NoSuch (not (is_known plan e)) (reasons plan past e) (ap not known) none)

-- ## Free workers are alike

-- the worker has no run that is open and unparked
abbrev HasNone : PlanView → List Event → ℕ → Type 0
HasNone plan past w = (r : Run) → has_run plan past w r ≡ false

-- where no run is open and unparked, no worker has one
none_has : (plan : PlanView) (past : List Event) (w : ℕ) (r : Run) → running plan past ≡ 0 → has_run plan past w r ≡ true → ⊥
unfolding has_run
none_has plan past w r quiet own =
    let parts = and_parts (is_open past r) _ own in
    let unparked = (and_parts (is_none (parked_by plan past r)) _ parts.1).0 in
    let some : 1 ≤ running plan past = count_by_some (λ q. is_none (parked_by plan past q)) (open_runs past) (any_open past (λ q. is_none (parked_by plan past q)) r parts.0 unparked) in
    omega arith

pub all_free : (plan : PlanView) (past : List Event) (w : ℕ) → running plan past ≡ 0 → HasNone plan past w
all_free plan past w quiet r = ⊎_elim (λ own. absurd (none_has plan past w r quiet own)) (λ none. none) (cases_Bool (has_run plan past w r))

not_busy : (plan : PlanView) (past : List Event) (w : ℕ) → HasNone plan past w → is_busy plan past w ≡ false
unfolding is_busy
not_busy plan past w free =
    ⊎_elim
    (λ busy. let r = open_any past (has_run plan past w) busy in absurd (both_ways (has_run plan past w r.0) (free r.0) r.2))
    (λ idle. idle)
    (cases_Bool (list_any (has_run plan past w) (open_runs past)))

start_by : (plan : PlanView) (past : List Event) (w v : ℕ) (b : Blk) → is_worker v ≡ true → HasNone plan past v → why plan past (Start w b) ≡ None → why plan past (Start v b) ≡ None
start_by plan past w v b fits free h =
    let a = allowed plan past (Start w b) h in
    let rest = (Unready, not (is_ready plan past b.0)) ∷ node_reasons plan past (submission_of plan past b.0) in
    none_why plan past (Start v b) a.goes_on (and_from (is_worker v) (has_block plan b.0) fits (and_parts (is_worker w) (has_block plan b.0) a.known).1)
    (none_first Busy (is_busy plan past v) rest (not_busy plan past v free) (first_none Busy (is_busy plan past w) rest a.kind).1)

wake_by : (plan : PlanView) (past : List Event) (w v : ℕ) (b : Blk) → is_worker v ≡ true → HasNone plan past v → why plan past (Wake w b) ≡ None → why plan past (Wake v b) ≡ None
wake_by plan past w v b fits free h =
    let a = allowed plan past (Wake w b) h in
    let rest = (NotParked, not (is_parked plan past b.0)) ∷ (Waiting, not (may_wake plan past b.0)) ∷ [] in
    none_why plan past (Wake v b) a.goes_on (and_from (is_worker v) (has_block plan b.0) fits (and_parts (is_worker w) (has_block plan b.0) a.known).1)
    (none_first Busy (is_busy plan past v) rest (not_busy plan past v free) (first_none Busy (is_busy plan past w) rest a.kind).1)

deliver_by : (plan : PlanView) (past : List Event) (w v : ℕ) (s : Obj) → is_worker v ≡ true → HasNone plan past v → why plan past (Deliver w s) ≡ None → why plan past (Deliver v s) ≡ None
deliver_by plan past w v s fits free h =
    let a = allowed plan past (Deliver w s) h in
    let rest = (Unready, not (is_pending plan past s.0)) ∷ run_reasons (knowledge plan past) (chain plan past s.0) in
    none_why plan past (Deliver v s) a.goes_on (and_from (is_worker v) (is_source plan s.0) fits (and_parts (is_worker w) (is_source plan s.0) a.known).1)
    (none_first Busy (is_busy plan past v) rest (not_busy plan past v free) (first_none Busy (is_busy plan past w) rest a.kind).1)

-- what is permitted to one free worker is permitted to every other
pub alike : (plan : PlanView) (past : List Event) (e : Event) (v : ℕ) → is_worker v ≡ true → HasNone plan past (worker_of e) → HasNone plan past v → why plan past e ≡ None → why plan past (by_worker v e) ≡ None
alike plan past (Start w b) v fits none free h = start_by plan past w v b fits free h
alike plan past (Wake w b) v fits none free h = wake_by plan past w v b fits free h
alike plan past (Deliver w s) v fits none free h = deliver_by plan past w v s fits free h
alike plan past (Acted w r i) v fits none free h = absurd (both_ways (has_run plan past w r) (none r) (at_act plan past w r i h).own)
alike plan past (End w b) v fits none free h = absurd (both_ways (has_run plan past w (Block b)) (none (Block b)) (at_end plan past w b h).own)
alike plan past (DeliverEnd w s) v fits none free h = absurd (both_ways (has_run plan past w (Source s)) (none (Source s)) (at_deliver_end plan past w s h).own)
alike plan past (Misuse w c r i) v fits none free h = absurd (both_ways (has_run plan past w r) (none r) (at_misuse plan past w r i c h).own)
alike plan past e v fits none free h = h

pub work_kept : (e : Event) (v : ℕ) → is_work e ≡ true → is_work (by_worker v e) ≡ true
work_kept (Tick t) v work = absurd (both_ways false refl work)
work_kept (Ready s n) v work = absurd (both_ways false refl work)
work_kept (FeedEnd s) v work = absurd (both_ways false refl work)
work_kept Halt v work = absurd (both_ways false refl work)
work_kept (Expire b) v work = absurd (both_ways false refl work)
work_kept (Accept b s) v work = absurd (both_ways false refl work)
work_kept Shut v work = absurd (both_ways false refl work)
work_kept e v work = refl

pub its_worker : (e : Event) (v : ℕ) → is_work e ≡ true → worker_of (by_worker v e) ≡ v
its_worker (Tick t) v work = absurd (both_ways false refl work)
its_worker (Ready s n) v work = absurd (both_ways false refl work)
its_worker (FeedEnd s) v work = absurd (both_ways false refl work)
its_worker Halt v work = absurd (both_ways false refl work)
its_worker (Expire b) v work = absurd (both_ways false refl work)
its_worker (Accept b s) v work = absurd (both_ways false refl work)
its_worker Shut v work = absurd (both_ways false refl work)
its_worker e v work = refl

-- so worker 0 has a choice, where any worker has
zero_chooses : (plan : PlanView) (past : List Event) (e : Event) → IsPlan plan → running plan past ≡ 0 → is_work e ≡ true → why plan past e ≡ None → is_some (choice plan past 0 0) ≡ true
zero_chooses plan past e valid quiet work h =
    let may = alike plan past e 0 refl (all_free plan past (worker_of e) quiet) (all_free plan past 0 quiet) h in
    let some = chosen_where_permitted plan past 0 (by_worker 0 e) valid (work_kept e 0 work) may in
    subst (λ w. is_some (choice plan past w 0) ≡ true) (its_worker e 0 work) some

-- ## A run that is open and unparked has a permitted event

-- its worker's number fits, and the plan has it
record Owned (plan : PlanView) (past : List Event) (r : Run) : Type 0 where
  pub worker : ℕ
  pub last : last_worker past r ≡ Some worker
  pub fits : is_worker worker ≡ true
  pub known : is_run_of plan r ≡ true

begun_owned : (plan : PlanView) (e : Event) (past : List Event) → IsLawful plan (e ∷ past) → (r : Run) → opens e r ≡ true → Owned plan (e ∷ past) r
begun_owned plan (Start w c) past h (Block b) now =
    let known = and_parts (is_worker w) (has_block plan c.0) (allowed plan past (Start w c) h.1).known in
    record {
      worker = w;
      last = ap (λ v. cond v (Some w) (last_worker past (Block b))) now;
      fits = known.0;
      known = subst (λ n. has_block plan n ≡ true) (eqb-true c.0 b.0 now) known.1;
    }
begun_owned plan (Deliver w t) past h (Source s) now =
    let known = and_parts (is_worker w) (is_source plan t.0) (allowed plan past (Deliver w t) h.1).known in
    record {
      worker = w;
      last = ap (λ v. cond v (Some w) (last_worker past (Source s))) now;
      fits = known.0;
      known = subst (λ n. is_source plan n ≡ true) (eqb-true t.0 s.0 now) known.1;
    }
begun_owned plan e past h r now = absurd (both_ways false refl now)

-- whoever takes the run over is a worker too
taken_over : (plan : PlanView) (e : Event) (past : List Event) (r : Run) (w : ℕ) (v : Bool) → is_worker w ≡ true → Owned plan past r → last_worker (e ∷ past) r ≡ cond v (Some w) (last_worker past r) → Owned plan (e ∷ past) r
taken_over plan e past r w true fits old last = record { worker = w; last = last; fits = fits; known = old.known }
taken_over plan e past r w false fits old last = record { worker = old.worker; last = last ∙ old.last; fits = old.fits; known = old.known }

still_owned : (plan : PlanView) (e : Event) (past : List Event) → IsLawful plan (e ∷ past) → (r : Run) → Owned plan past r → Owned plan (e ∷ past) r
still_owned plan (Start w c) past h r old = taken_over plan (Start w c) past r w (same_run (Block c) r) (and_parts (is_worker w) (has_block plan c.0) (allowed plan past (Start w c) h.1).known).0 old refl
still_owned plan (Wake w c) past h r old = taken_over plan (Wake w c) past r w (same_run (Block c) r) (and_parts (is_worker w) (has_block plan c.0) (allowed plan past (Wake w c) h.1).known).0 old refl
still_owned plan (Deliver w s) past h r old = taken_over plan (Deliver w s) past r w (same_run (Source s) r) (and_parts (is_worker w) (is_source plan s.0) (allowed plan past (Deliver w s) h.1).known).0 old refl
still_owned plan e past h r old = record { worker = old.worker; last = old.last; fits = old.fits; known = old.known }

owned : (plan : PlanView) (past : List Event) → IsLawful plan past → (r : Run) → is_open past r ≡ true → Owned plan past r
owned plan [] h r live = absurd (both_ways false refl live)
owned plan (e ∷ past) h r live =
    ⊎_elim (λ now. begun_owned plan e past h r now) (λ old. still_owned plan e past h r (owned plan past h.0 r old)) (open_cases e past r live)

-- the code of a misuse is one of the codes
abbrev has_code : ℕ × Bool → Bool
has_code p = is_code p.0

first_fits : (codes : List (ℕ × Bool)) (c : ℕ) → list_all has_code codes ≡ true → first_code codes ≡ Some c → is_code c ≡ true
first_fits [] c all h = cc
first_fits (p ∷ codes) c all h =
    let parts = and_parts (has_code p) (list_all has_code codes) all in
    elim p.1 as (λ v. cond v (Some p.0) (first_code codes) ≡ Some c → is_code c ≡ true) [
      | true ↦ λ k. subst (λ n. is_code n ≡ true) (same_Some p.0 c k) parts.0
      | false ↦ λ k. first_fits codes c parts.1 k
    ] h

codes_fit : (plan : PlanView) (past : List Event) (act : Act) → list_all has_code (act_misuses plan past act) ≡ true
codes_fit plan past (Resume o) = refl
codes_fit plan past (Leave g) = refl
codes_fit plan past (Target o t) = refl
codes_fit plan past (Release o) = refl
codes_fit plan past act = refl

code_fits : (plan : PlanView) (past : List Event) (act : Act) (c : ℕ) → misuse plan past act ≡ Some c → is_code c ≡ true
unfolding misuse
code_fits plan past act c h = first_fits ((code_of UseAfterRelease, list_any (is_released plan past) (named act)) ∷ act_misuses plan past act) c (codes_fit plan past act) h

-- a run has no more acts than the plan has
block_length : (plan : PlanView) (b : Blk) (i : ℕ) (act : Act) → act_at plan (Block b) i ≡ Some act → i < sum_by (λ blk. length blk.acts) plan.blocks
block_length plan b i act at =
    elim (slice_get plan.blocks b.0) as (λ o. slice_get plan.blocks b.0 ≡ o → slice_get (option_map_or (λ blk. blk.acts) o []) i ≡ Some act → i < sum_by (λ blk. length blk.acts) plan.blocks) [
      | None ↦ λ none k. absurd (none-some act k)
      | Some blk ↦ λ some k.
          let within : i < length blk.acts = slice_get_within blk.acts i act k in
          let low : length (get_or plan.blocks b.0 blk).acts ≤ sum_by (λ blk. length blk.acts) plan.blocks = get_or-le-sum_by (λ blk. length blk.acts) plan.blocks b.0 blk (slice_get_within plan.blocks b.0 blk some) in
          let same : length (get_or plan.blocks b.0 blk).acts ≡ length blk.acts = ap (λ k. length k.acts) (get_or_from_slice_get plan.blocks b.0 blk blk some) in
          omega arith
    ] refl at

source_length : (plan : PlanView) (s : Obj) (i : ℕ) (act : Act) → act_at plan (Source s) i ≡ Some act → i < sum_by (λ obj. length obj.handler) plan.objects
source_length plan s i act at =
    elim (slice_get plan.objects s.0) as (λ o. slice_get plan.objects s.0 ≡ o → slice_get (option_map_or (λ obj. obj.handler) o []) i ≡ Some act → i < sum_by (λ obj. length obj.handler) plan.objects) [
      | None ↦ λ none k. absurd (none-some act k)
      | Some obj ↦ λ some k.
          let within : i < length obj.handler = slice_get_within obj.handler i act k in
          let low : length (get_or plan.objects s.0 obj).handler ≤ sum_by (λ obj. length obj.handler) plan.objects = get_or-le-sum_by (λ obj. length obj.handler) plan.objects s.0 obj (slice_get_within plan.objects s.0 obj some) in
          let same : length (get_or plan.objects s.0 obj).handler ≡ length obj.handler = ap (λ k. length k.handler) (get_or_from_slice_get plan.objects s.0 obj obj some) in
          omega arith
    ] refl at

index_fits : (plan : PlanView) (r : Run) (i : ℕ) (act : Act) → IsPlan plan → act_at plan r i ≡ Some act → i < max_acts
index_fits plan (Block b) i act valid at =
    let within = block_length plan b i act at in
    let few : sum_by (λ blk. length blk.acts) plan.blocks + sum_by (λ obj. length obj.handler) plan.objects ≤ max_acts = valid.few_acts in
    omega arith
index_fits plan (Source s) i act valid at =
    let within = source_length plan s i act at in
    let few : sum_by (λ blk. length blk.acts) plan.blocks + sum_by (λ obj. length obj.handler) plan.objects ≤ max_acts = valid.few_acts in
    omega arith

pub has_own : (plan : PlanView) (past : List Event) (r : Run) (w : ℕ) → is_open past r ≡ true → parked_by plan past r ≡ None → last_worker past r ≡ Some w → has_run plan past w r ≡ true
unfolding has_run
has_own plan past r w live unparked last =
    and_from (is_open past r) _ live
    (and_from (is_none (parked_by plan past r)) _ (ap is_none unparked) (ap (λ o. option_map_or (λ v. v == w) o false) last ∙ eq-eqb w w refl))

-- an event of the run's own is permitted: its end, its act, or a misuse
pub record OwnEvent (plan : PlanView) (past : List Event) (r : Run) : Type 0 where
  pub event : Event
  pub work : is_work event ≡ true
  pub permitted_now : why plan past event ≡ None
  pub of_run : is_of_run r event ≡ true
  pub by : has_run plan past (worker_of event) r ≡ true

end_event : (plan : PlanView) (past : List Event) (w : ℕ) → is_halted past ≡ false → is_worker w ≡ true → (r : Run) → is_run_of plan r ≡ true → has_run plan past w r ≡ true → act_due plan past r (acts_done past r) ≡ None → OwnEvent plan past r
unfolding has_act_left
end_event plan past w on fits (Block b) known own none = record {
  event = End w b;
  work = refl;
  permitted_now = none_why plan past (End w b) on (and_from (is_worker w) (has_block plan b.0) fits known)
      (none_first NotOwn (not (has_run plan past w (Block b))) ((NotNext, has_act_left plan past (Block b)) ∷ []) (ap not own)
      (none_first NotNext (has_act_left plan past (Block b)) [] (ap is_some none) refl));
  of_run = same_run-refl (Block b);
  by = own;
}
end_event plan past w on fits (Source s) known own none = record {
  event = DeliverEnd w s;
  work = refl;
  permitted_now = none_why plan past (DeliverEnd w s) on (and_from (is_worker w) (is_source plan s.0) fits known)
      (none_first NotOwn (not (has_run plan past w (Source s))) ((NotNext, has_act_left plan past (Source s)) ∷ []) (ap not own)
      (none_first NotNext (has_act_left plan past (Source s)) [] (ap is_some none) refl));
  of_run = same_run-refl (Source s);
  by = own;
}

next_is : (plan : PlanView) (past : List Event) (r : Run) (act : Act) → act_due plan past r (acts_done past r) ≡ Some act → is_next plan past r (acts_done past r) ≡ true
unfolding is_next
next_is plan past r act at = and_from (acts_done past r == acts_done past r) (is_some (act_due plan past r (acts_done past r))) (eq-eqb (acts_done past r) (acts_done past r) refl) (ap is_some at)

act_code : (plan : PlanView) (past : List Event) (r : Run) (i c : ℕ) (act : Act) → act_at plan r i ≡ Some act → misuse_at plan past r i ≡ Some c → misuse plan past act ≡ Some c
unfolding misuse_at
act_code plan past r i c act at h = sym (ap (option_and_then (misuse plan past)) at) ∙ h

act_event : (plan : PlanView) (past : List Event) (w : ℕ) → IsPlan plan → is_halted past ≡ false → is_worker w ≡ true → (r : Run) → is_run_of plan r ≡ true → has_run plan past w r ≡ true → (act : Act) → act_due plan past r (acts_done past r) ≡ Some act → OwnEvent plan past r
act_event plan past w valid on fits r known own act due =
    let i = acts_done past r in
    let at = due_is (is_cancelled_run plan past r) (act_at plan r i) act due in
    let low : is_index i ≡ true = lt-ltb i max_acts (index_fits plan r i act valid at) in
    let next = next_is plan past r act due in
    elim (misuse_at plan past r i) as (λ o. misuse_at plan past r i ≡ o → OwnEvent plan past r) [
      | None ↦ λ fine. record {
        event = Acted w r i;
        work = refl;
        permitted_now = none_why plan past (Acted w r i) on (and_from (is_worker w) _ fits (and_from (is_run_of plan r) (is_index i) known low))
            (none_first NotOwn (not (has_run plan past w r)) ((NotNext, not (is_next plan past r i)) ∷ (IsMisuse, is_some (misuse_at plan past r i)) ∷ []) (ap not own)
            (none_first NotNext (not (is_next plan past r i)) ((IsMisuse, is_some (misuse_at plan past r i)) ∷ []) (ap not next)
            (none_first IsMisuse (is_some (misuse_at plan past r i)) [] (ap is_some fine) refl)));
        of_run = same_run-refl r;
        by = own;
      }
      | Some c ↦ λ wrong.
          let coded = code_fits plan past act c (act_code plan past r i c act at wrong) in
          let same : option_map_or (λ code. code == c) (misuse_at plan past r i) false ≡ true = ap (λ o. option_map_or (λ code. code == c) o false) wrong ∙ eq-eqb c c refl in
          let it = not (option_map_or (λ code. code == c) (misuse_at plan past r i) false) in
          record {
            event = Misuse w c r i;
            work = refl;
            permitted_now = none_why plan past (Misuse w c r i) on (and_from (is_worker w) _ fits (and_from (is_run_of plan r) _ known (and_from (is_index i) _ low coded)))
                (none_first NotOwn (not (has_run plan past w r)) ((NotNext, not (is_next plan past r i)) ∷ (NotMisuse, it) ∷ []) (ap not own)
                (none_first NotNext (not (is_next plan past r i)) ((NotMisuse, it) ∷ []) (ap not next)
                (none_first NotMisuse it [] (ap not same) refl)));
            of_run = same_run-refl r;
            by = own;
          }
    ] refl

-- of a run that is open and not parked
pub own_event : (plan : PlanView) (past : List Event) → IsPlan plan → IsLawful plan past → is_halted past ≡ false → (r : Run) → is_open past r ≡ true → parked_by plan past r ≡ None → OwnEvent plan past r
own_event plan past valid lawful on r live unparked =
    let o = owned plan past lawful r live in
    let own = has_own plan past r o.worker live unparked o.last in
    elim (act_due plan past r (acts_done past r)) as (λ k. act_due plan past r (acts_done past r) ≡ k → OwnEvent plan past r) [
      | None ↦ λ none. end_event plan past o.worker on o.fits r o.known own none
      | Some act ↦ λ some. act_event plan past o.worker valid on o.fits r o.known own act some
    ] refl

-- ## Wakes

-- where a block may wake, its Wake is permitted to every free worker
pub wake_permitted : (plan : PlanView) (past : List Event) (b : Blk) (w : ℕ) → IsLawful plan past → is_halted past ≡ false → is_worker w ≡ true → HasNone plan past w → is_open past (Block b) ≡ true → is_parked plan past b.0 ≡ true → may_wake plan past b.0 ≡ true → why plan past (Wake w b) ≡ None
wake_permitted plan past b w lawful on fits free live parked may =
    none_why plan past (Wake w b) on (and_from (is_worker w) (has_block plan b.0) fits (owned plan past lawful (Block b) live).known)
    (none_first Busy (is_busy plan past w) ((NotParked, not (is_parked plan past b.0)) ∷ (Waiting, not (may_wake plan past b.0)) ∷ []) (not_busy plan past w free)
    (none_first NotParked (not (is_parked plan past b.0)) ((Waiting, not (may_wake plan past b.0)) ∷ []) (ap not parked)
    (none_first Waiting (not (may_wake plan past b.0)) [] (ap not may) refl)))

-- ## At rest

-- worker 0 has no choice, no run is open and unparked, no wait may expire, no due time is left, no read source is live, and no
-- intake is open
pub record AtRest (plan : PlanView) (past : List Event) : Type 0 where
  pub goes_on : is_halted past ≡ false
  pub idle : running plan past ≡ 0
  pub no_choice : choice plan past 0 0 ≡ None
  pub no_expiry : expiry plan past ≡ None
  pub no_time : next_due plan past ≡ None
  pub no_feed : (s : ℕ) → is_live_feed plan past s ≡ false
  pub no_intake : is_intake_open plan past ≡ false

abbrev is_expire : Event → Bool
is_expire (Expire b) = true
is_expire _ = false

not_permitted : (plan : PlanView) (past : List Event) (e : Event) → ((b : Blk) → permitted plan past (Expire b) ≡ false) → permitted plan past e ≡ true → is_expire e ≡ true → ⊥
not_permitted plan past (Expire b) none may is = both_ways (permitted plan past (Expire b)) (none b) may
not_permitted plan past e none may is = cc

-- where no Expire is on offer, none is permitted: one of a block that the plan does not have is not known
no_expiry_from_none : (plan : PlanView) (past : List Event) (b : Blk) → expiry plan past ≡ None → permitted plan past (Expire b) ≡ false
no_expiry_from_none plan past b none =
    false_from_ne_true (permitted plan past (Expire b)) (λ may.
    let low = ltb-true b.0 (length plan.blocks) (allowed plan past (Expire b) (none_from_is_none (why plan past (Expire b)) may)).known in
    let there = list_any_in_range (λ n. permitted plan past (expire_event n)) (length plan.blocks) b.0 low may in
    let some = find_from_any (permitted plan past) (map expire_event (range_with_len 0 (length plan.blocks))) (any_map (permitted plan past) expire_event (range_with_len 0 (length plan.blocks)) there) in
    both_ways (is_some (expiry plan past)) (ap is_some none) some)

none_from_no_expiry : (plan : PlanView) (past : List Event) → ((b : Blk) → permitted plan past (Expire b) ≡ false) → expiry plan past ≡ None
none_from_no_expiry plan past none =
    elim (expiry plan past) as (λ o. expiry plan past ≡ o → o ≡ None) [
      | None ↦ λ h. refl
      | Some e ↦ λ h.
          let found = found_passes (permitted plan past) is_expire (map expire_event (range_with_len 0 (length plan.blocks))) e h
          (all_map is_expire expire_event (range_with_len 0 (length plan.blocks)) (λ n. refl)) in
          absurd (not_permitted plan past e none found.0 found.1)
    ] refl

pub quiescent_from_rest : (plan : PlanView) (past : List Event) → IsPlan plan → IsLawful plan past → AtRest plan past → IsQuiescent plan past
quiescent_from_rest plan past valid lawful rest = record {
  goes_on = rest.goes_on;
  no_work = λ e work. ⊎_elim
      (λ may. absurd (both_ways (is_some (choice plan past 0 0)) (ap is_some rest.no_choice) (zero_chooses plan past e valid rest.idle work (none_from_is_none (why plan past e) may))))
      (λ none. none)
      (cases_Bool (permitted plan past e));
  no_expiry = λ b. no_expiry_from_none plan past b rest.no_expiry;
  no_time = rest.no_time;
  no_feed = rest.no_feed;
  no_intake = rest.no_intake;
}

none_running : (plan : PlanView) (past : List Event) → IsPlan plan → IsLawful plan past → IsQuiescent plan past → running plan past ≡ 0
none_running plan past valid lawful quiet =
    ⊎_elim
    (λ some.
    let r = open_any past (λ q. is_none (parked_by plan past q)) some in
    let own = own_event plan past valid lawful quiet.goes_on r.0 r.1 (none_from_is_none (parked_by plan past r.0) r.2) in
    absurd (both_ways (permitted plan past own.event) (quiet.no_work own.event own.work) (ap is_none own.permitted_now)))
    (λ none. count_by_none (λ q. is_none (parked_by plan past q)) (open_runs past) none)
    (cases_Bool (list_any (λ q. is_none (parked_by plan past q)) (open_runs past)))

pub rest_from_quiescent : (plan : PlanView) (past : List Event) → IsPlan plan → IsLawful plan past → IsQuiescent plan past → AtRest plan past
rest_from_quiescent plan past valid lawful quiet = record {
  goes_on = quiet.goes_on;
  idle = none_running plan past valid lawful quiet;
  no_choice = elim (choice plan past 0 0) as (λ o. choice plan past 0 0 ≡ o → o ≡ None) [
    | None ↦ λ h. refl
    | Some e ↦ λ h.
        let chosen = chosen_is plan past 0 0 e h in
        absurd (both_ways (permitted plan past e) (quiet.no_work e chosen.work) (ap is_none chosen.permitted_now))
  ] refl;
  no_expiry = none_from_no_expiry plan past quiet.no_expiry;
  no_time = quiet.no_time;
  no_feed = quiet.no_feed;
  no_intake = quiet.no_intake;
}

-- nothing goes on, as a test: of the sources those of the plan are looked at
abbrev rests : PlanView → List Event → Bool
rests plan past =
    running plan past == 0
    && (is_none (choice plan past 0 0)
    && (is_none (expiry plan past)
    && (is_none (next_due plan past)
    && (not (list_any (is_live_feed plan past) (range_with_len 0 (length plan.objects)))
    && not (is_intake_open plan past)))))

none_live : (plan : PlanView) (past : List Event) → list_any (is_live_feed plan past) (range_with_len 0 (length plan.objects)) ≡ false → (s : ℕ) → is_live_feed plan past s ≡ false
unfolding is_live_feed
none_live plan past none s = false_from_ne_true (is_live_feed plan past s) (λ live.
    let low = has_object is_read_kind plan s (and_parts (has_kind is_read_kind plan s) _ live).0 in
    both_ways (list_any (is_live_feed plan past) (range_with_len 0 (length plan.objects))) none (list_any_in_range (is_live_feed plan past) (length plan.objects) s low live))

rest_from_test : (plan : PlanView) (past : List Event) → is_halted past ≡ false → rests plan past ≡ true → AtRest plan past
rest_from_test plan past on test =
    let one = and_parts (running plan past == 0) _ test in
    let two = and_parts (is_none (choice plan past 0 0)) _ one.1 in
    let expiry_part = and_parts (is_none (expiry plan past)) _ two.1 in
    let three = and_parts (is_none (next_due plan past)) _ expiry_part.1 in
    let four = and_parts (not (list_any (is_live_feed plan past) (range_with_len 0 (length plan.objects)))) _ three.1 in
    record {
      goes_on = on;
      idle = eqb-true (running plan past) 0 one.0;
      no_choice = none_from_is_none (choice plan past 0 0) two.0;
      no_expiry = none_from_is_none (expiry plan past) expiry_part.0;
      no_time = none_from_is_none (next_due plan past) three.0;
      no_feed = λ s. none_live plan past (not-true (list_any (is_live_feed plan past) (range_with_len 0 (length plan.objects))) four.0) s;
      no_intake = not-true (is_intake_open plan past) four.1;
    }

test_from_rest : (plan : PlanView) (past : List Event) → AtRest plan past → rests plan past ≡ true
test_from_rest plan past rest =
    and_from (running plan past == 0) _ (eq-eqb (running plan past) 0 rest.idle)
    (and_from (is_none (choice plan past 0 0)) _ (ap is_none rest.no_choice)
    (and_from (is_none (expiry plan past)) _ (ap is_none rest.no_expiry)
    (and_from (is_none (next_due plan past)) _ (ap is_none rest.no_time)
    (and_from (not (list_any (is_live_feed plan past) (range_with_len 0 (length plan.objects)))) _
    (ap not (list_any_agree (is_live_feed plan past) (λ s. false) (range_with_len 0 (length plan.objects)) rest.no_feed ∙ none_passes (range_with_len 0 (length plan.objects))))
    (ap not rest.no_intake)))))

-- a lawful history of a valid plan that is not halted is quiescent, or it is not
pub quiet_or_not : (plan : PlanView) (past : List Event) → IsPlan plan → IsLawful plan past → is_halted past ≡ false → IsQuiescent plan past ⊎ (IsQuiescent plan past → ⊥)
quiet_or_not plan past valid lawful on =
    ⊎_elim
    (λ test. inl (quiescent_from_rest plan past valid lawful (rest_from_test plan past on test)))
    (λ none. inr (λ quiet. both_ways (rests plan past) none (test_from_rest plan past (rest_from_quiescent plan past valid lawful quiet))))
    (cases_Bool (rests plan past))

-- ## After the end

no_tick : (plan : PlanView) (past : List Event) (t : ℕ) → next_due plan past ≡ None → may_tick plan past t ≡ false
unfolding may_tick
no_tick plan past t none =
    and_right (ltb (now past) t) _ (and_right (leb t plan.until) _ (ap (λ o. option_map_or (λ due. leb due t) o false) none))

-- after a quiescent history a halt alone may come
pub only_halt : (plan : PlanView) (past : List Event) (e : Event) → IsQuiescent plan past → why plan past e ≡ None → e ≡ Halt
only_halt plan past (Tick t) quiet may = absurd (both_ways (may_tick plan past t) (no_tick plan past t quiet.no_time) (at_tick plan past t may))
only_halt plan past (Ready s n) quiet may = absurd (both_ways (is_live_feed plan past s.0) (quiet.no_feed s.0) (at_ready plan past s n may))
only_halt plan past (FeedEnd s) quiet may = absurd (both_ways (is_live_feed plan past s.0) (quiet.no_feed s.0) (at_feed_end plan past s may))
only_halt plan past Halt quiet may = refl
only_halt plan past (Expire b) quiet may = absurd (both_ways (permitted plan past (Expire b)) (quiet.no_expiry b) (ap is_none may))
only_halt plan past (Accept b s) quiet may = absurd (both_ways (is_some (next_of_intake plan past)) (ap is_some (none_next plan past quiet.no_intake)) (ap is_some (at_accept plan past b s may)))
only_halt plan past Shut quiet may = absurd (both_ways (is_intake_open plan past) quiet.no_intake (at_shut plan past may))
only_halt plan past e quiet may = absurd (both_ways (permitted plan past e) (quiet.no_work e refl) (ap is_none may))

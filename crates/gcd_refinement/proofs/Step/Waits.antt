-- What each block is parked for after an event, the limit of its wait, and whether that has expired.
use Rattle.std.proofs.Common.{◌≡◌, ℕ, ◌+◌, ◌<◌, min, true, false, not, ◌&&◌, ◌||◌, cond, List, ◌∷◌, length, Option, Some, None, is_some, is_none, refl, ap, sym, ◌∙◌, subst, arith, ⊎_elim, eq-eqb, ne_eqb}
use Rattle.std.specs.Option.{option_map_or}
use Rattle.std.proofs.lemmas.Bool.{cases_eq, and_parts, both_ways, ltb-true, false_from_ne_true}
use Rattle.std.proofs.lemmas.List.{length-map, get_or-set_same, get_or-set_other}
use Rattle.std.proofs.lemmas.Option.{none-some}
use Rattle.gcd_plan.specs.PlanView.{PlanView}
use Rattle.gcd_plan.specs.declared.act.Act.{Act}
use Rattle.gcd_plan.specs.declared.act.Act.TheVariants.{GroupWait, GroupWaitFor, Wait, WaitFor}
use Rattle.gcd_plan.specs.declared.numbers.Blk.{Blk}
use Rattle.gcd_plan.specs.declared.numbers.Run.{Run}
use Rattle.gcd_plan.specs.declared.numbers.Run.TheVariants.{Block, Source}
use Rattle.gcd_plan.specs.declared.reason.Reason.{Reason}
use Rattle.gcd_plan.specs.declared.reason.Reason.TheVariants.{Group as Empty, Rank}
use Rattle.gcd_event.specs.declared.event.Event.{Event}
use Rattle.gcd_event.specs.declared.event.Event.TheVariants.{Start, Act as Acted, Wake, End, Deliver, DeliverEnd, Expire}
use Rattle.gcd_history.specs.Runs.{act_at, is_open, is_started}
use Rattle.gcd_history.specs.Expired.{last_act, expires, has_expired}
use Rattle.gcd_history.specs.Semas.{wait_count, waits_on}
use Rattle.gcd_history.specs.Parked.{awaited_by, parked_by, awaited, is_parked, has_run, has_run_out}
use Rattle.gcd_history.specs.Timers.{now}
use Rattle.gcd_history.specs.Due.{limit_by, last_limit, limit}
use Rattle.gcd_history.specs.Permitted.{is_index, IsLawful, is_worker, has_block, is_run_of}
use Rattle.gcd_plan.proofs.Options.{none_from_is_none}
use Rattle.gcd_history.proofs.Permitted.Reasons.{allowed, at_start, at_act, at_end}
use Rattle.gcd_history.proofs.Runs.Open.{is_open-step}
use Rattle.gcd_history.proofs.Blocks.StartedOnce.{started_from_open, open_from_has_run}
use Rattle.gcd_history.proofs.Waits.StaysOver.{waits_long}
use Rattle.gcd_sema.specs.SemasView.{waits_at}
use Rattle.gcd_sync.specs.WaitsView.{WaitsView, reason_at, limit_at, has_expired_at}
use Rattle.gcd_refinement.specs.MachineView.{MachineView}
use Rattle.gcd_refinement.specs.Shape.{PartsFit}
use Rattle.gcd_refinement.specs.Ties.{WaitsAre, SemasAre}
use Rattle.gcd_refinement.specs.AfterLimits.{limit_in_view}
use Rattle.gcd_refinement.specs.After.{awaited_in_view, parked_for, waits_after, after}
use Rattle.gcd_refinement.proofs.Lists.Writes.{option_set}
use Rattle.gcd_refinement.proofs.Rooms.{room_of_limit, room_of_wait}
use Rattle.gcd_refinement.proofs.Limits.Expiries.{expires_own}
use Rattle.gcd_refinement.proofs.Limits.Expiring.{run_out_kept, run_out_new, expires_now, expired_now}

abbrev run_of : ℕ → Run
run_of b = Block (record { 0 = b })

pub unparked : (plan : PlanView) (past : List Event) (w : ℕ) (run : Run) → has_run plan past w run ≡ true → parked_by plan past run ≡ None
unfolding has_run
unparked plan past w run own = none_from_is_none (parked_by plan past run) (and_parts (is_none (parked_by plan past run)) _ (and_parts (is_open past run) _ own).1).0

-- one that a worker has waits for nothing
pub unparked_awaited : (plan : PlanView) (past : List Event) (w b : ℕ) → has_run plan past w (run_of b) ≡ true → awaited plan past (run_of b) ≡ None
unfolding awaited
unparked_awaited plan past w b own = ap (λ v. cond v (parked_by plan past (run_of b)) None) (open_from_has_run plan past w (run_of b) own) ∙ unparked plan past w (run_of b) own

shut_awaited : (plan : PlanView) (past : List Event) (b : ℕ) → is_open past (run_of b) ≡ false → awaited plan past (run_of b) ≡ None
unfolding awaited
shut_awaited plan past b shut = ap (λ v. cond v (parked_by plan past (run_of b)) None) shut

none_awaited : (plan : PlanView) (past : List Event) (b : ℕ) → parked_by plan past (run_of b) ≡ None → awaited plan past (run_of b) ≡ None
unfolding awaited
none_awaited plan past b none = ap (λ o. cond (is_open past (run_of b)) o None) none ∙ elim (is_open past (run_of b)) as (λ v. cond {A = Option Reason} v None None ≡ None) [ true ↦ refl | false ↦ refl ]

same_awaited : (plan : PlanView) (past : List Event) (e : Event) (b : ℕ) → is_open (e ∷ past) (run_of b) ≡ is_open past (run_of b) → parked_by plan (e ∷ past) (run_of b) ≡ parked_by plan past (run_of b)
    → awaited plan (e ∷ past) (run_of b) ≡ awaited plan past (run_of b)
unfolding awaited
same_awaited plan past e b live by = ap (λ v. cond v (parked_by plan (e ∷ past) (run_of b)) None) live ∙ ap (λ o. cond (is_open past (run_of b)) o None) by

open_reason : (plan : PlanView) (past : List Event) (b : ℕ) → is_open past (run_of b) ≡ true → awaited plan past (run_of b) ≡ parked_by plan past (run_of b)
unfolding awaited
open_reason plan past b live = ap (λ v. cond v (parked_by plan past (run_of b)) None) live

-- ## What an act begins

pub waits_told : (plan : PlanView) (past : List Event) (v : MachineView) (s : ℕ) → SemasAre plan past v → waits_at v.semas s ≡ wait_count plan past s
waits_told plan past v s semas = ap length (semas.waits s) ∙ (length-map (waits_on plan past s) (has_expired past) ∙ waits_long plan past s)

-- the view tells what an act parks for
reasons_same : (plan : PlanView) (past : List Event) (v : MachineView) (act : Option Act) → v.len ≡ length past → SemasAre plan past v → awaited_in_view v act ≡ awaited_by plan past act
reasons_same plan past v (Some (GroupWait g)) len semas = ap (λ n. Some (Empty g n)) len
reasons_same plan past v (Some (GroupWaitFor g ms)) len semas = ap (λ n. Some (Empty g n)) len
reasons_same plan past v (Some (Wait s)) len semas = ap (λ n. Some (Rank s (n + 1))) (waits_told plan past v s.0 semas)
reasons_same plan past v (Some (WaitFor s ms)) len semas = ap (λ n. Some (Rank s (n + 1))) (waits_told plan past v s.0 semas)
reasons_same plan past v _ len semas = refl

-- and the limit of that wait
limits_same : (plan : PlanView) (past : List Event) (v : MachineView) (act : Option Act) → v.plan ≡ plan → v.timers.moment ≡ now past → limit_in_view v act ≡ limit_by plan past act
limits_same plan past v (Some (GroupWaitFor g ms)) same moment = ap (λ n. Some (min (n + ms) v.plan.until)) moment ∙ ap (λ p. Some (min (now past + ms) p.until)) same
limits_same plan past v (Some (WaitFor s ms)) same moment = ap (λ n. Some (min (n + ms) v.plan.until)) moment ∙ ap (λ p. Some (min (now past + ms) p.until)) same
limits_same plan past v _ same moment = refl

-- ## One block's wait

-- what the view has of block b's wait
record WaitIs (plan : PlanView) (past : List Event) (waits : WaitsView) (b : ℕ) : Type 0 where
  reason : reason_at waits b ≡ awaited plan past (run_of b)
  end : limit_at waits b ≡ limit plan past b
  out : has_expired_at waits b ≡ option_map_or (has_run_out plan past) (awaited plan past (run_of b)) false

wait_at : (plan : PlanView) (past : List Event) (v : MachineView) (b : ℕ) → WaitsAre plan past v → WaitIs plan past v.waits b
wait_at plan past v b ties = record { reason = ties.reasons b; end = ties.limits b; out = ties.expired b }

-- another view that has the same of it
record SameAt (old new : WaitsView) (b : ℕ) : Type 0 where
  reason : reason_at new b ≡ reason_at old b
  end : limit_at new b ≡ limit_at old b
  out : has_expired_at new b ≡ has_expired_at old b

moved : (plan : PlanView) (past : List Event) (old new : WaitsView) (b : ℕ) → SameAt old new b → WaitIs plan past old b → WaitIs plan past new b
moved plan past old new b same was = record { reason = same.reason ∙ was.reason; end = same.end ∙ was.end; out = same.out ∙ was.out }

limit_none : (plan : PlanView) (past : List Event) (b : ℕ) → awaited plan past (run_of b) ≡ None → limit plan past b ≡ None
unfolding is_parked
limit_none plan past b none = ap (λ o. cond (is_some o) (last_limit plan past b) None) none

limit_some : (plan : PlanView) (past : List Event) (b : ℕ) (r : Reason) → awaited plan past (run_of b) ≡ Some r → limit plan past b ≡ last_limit plan past b
unfolding is_parked
limit_some plan past b r is = ap (λ o. cond (is_some o) (last_limit plan past b) None) is

-- of one that is not parked
wait_none : (plan : PlanView) (past : List Event) (waits : WaitsView) (b : ℕ) → awaited plan past (run_of b) ≡ None → reason_at waits b ≡ None → limit_at waits b ≡ None → has_expired_at waits b ≡ false → WaitIs plan past waits b
wait_none plan past waits b none reason end out = record {
  reason = reason ∙ sym none;
  end = end ∙ sym (limit_none plan past b none);
  out = out ∙ sym (ap (λ o. option_map_or (has_run_out plan past) o false) none);
}

-- of one that was not parked and is not
still_none : (plan : PlanView) (past : List Event) (e : Event) (waits : WaitsView) (b : ℕ) → awaited plan past (run_of b) ≡ None → awaited plan (e ∷ past) (run_of b) ≡ None → WaitIs plan past waits b → WaitIs plan (e ∷ past) waits b
still_none plan past e waits b before none was =
    wait_none plan (e ∷ past) waits b none (was.reason ∙ before) (was.end ∙ limit_none plan past b before) (was.out ∙ ap (λ o. option_map_or (has_run_out plan past) o false) before)

-- of one that the event lets be
still : (plan : PlanView) (past : List Event) (e : Event) (waits : WaitsView) (b : ℕ) → awaited plan (e ∷ past) (run_of b) ≡ awaited plan past (run_of b) → last_limit plan (e ∷ past) b ≡ last_limit plan past b
    → ((p : ℕ) → last_act past b ≡ Some p → expires past e p ≡ false) → WaitIs plan past waits b → WaitIs plan (e ∷ past) waits b
unfolding is_parked
still plan past e waits b same last quiet was = record {
  reason = was.reason ∙ sym same;
  end = was.end ∙ sym (ap (λ o. cond (is_some o) (last_limit plan (e ∷ past) b) None) same ∙ ap (λ o. cond (is_some (awaited plan past (run_of b))) o None) last);
  out = was.out
      ∙ (elim (awaited plan past (run_of b)) as (λ o. awaited plan past (run_of b) ≡ o → option_map_or (has_run_out plan past) o false ≡ option_map_or (has_run_out plan (e ∷ past)) o false) [
        | None ↦ λ is. refl
        | Some r ↦ λ is. sym (run_out_kept plan e past (record { 0 = b }) r is quiet)
      ] refl
      ∙ ap (λ o. option_map_or (has_run_out plan (e ∷ past)) o false) (sym same));
}

-- ## An act of a block

-- its own wait
act_here : (plan : PlanView) (past : List Event) (w : ℕ) (c : Blk) (i : ℕ) (v : MachineView) → IsLawful plan (Acted w (Block c) i ∷ past) → PartsFit plan v → c.0 < length plan.blocks → v.plan ≡ plan → v.len ≡ length past → v.timers.moment ≡ now past
    → SemasAre plan past v → WaitsAre plan past v → WaitIs plan (Acted w (Block c) i ∷ past) (parked_for v.waits (Block c) (awaited_in_view v (act_at plan (Block c) i)) (limit_in_view v (act_at plan (Block c) i))) c.0
act_here plan past w c i v lawful fit low same_plan len moment semas ties =
    let act = act_at plan (Block c) i in
    let e = Acted w (Block c) i in
    let own = (at_act plan past w (Block c) i lawful.1).own in
    let here = eq-eqb c.0 c.0 refl in
    let parked : awaited plan (e ∷ past) (Block c) ≡ awaited_by plan past act =
    open_reason plan (e ∷ past) c.0 (open_from_has_run plan past w (Block c) own) ∙ ap (λ t. cond t (awaited_by plan past act) (parked_by plan past (Block c))) here in
    elim (awaited_in_view v act) as (λ o. o ≡ awaited_by plan past act → WaitIs plan (Acted w (Block c) i ∷ past) (parked_for v.waits (Block c) o (limit_in_view v act)) c.0) [
      | None ↦ λ by. still_none plan past e v.waits c.0 (unparked_awaited plan past w c.0 own) (parked ∙ sym by) (wait_at plan past v c.0 ties)
      | Some why ↦ λ by.
          let one = fit.reasons in
          let two = fit.limits in
          let three = fit.expired in
          let is : awaited plan (e ∷ past) (Block c) ≡ Some why = parked ∙ sym by in
          record {
            reason = get_or-set_same v.waits.reasons c.0 (Some why) None (omega (arith, low, one, room_of_wait plan past c i why (sym by))) ∙ sym is;
            end = option_set v.waits.limits c.0 (limit_in_view v act) (λ n told. let room = room_of_limit plan v c i n told in omega (arith, low, two, room))
                ∙ (limits_same plan past v act same_plan moment
                ∙ sym (limit_some plan (e ∷ past) c.0 why is ∙ ap (λ t. cond t (limit_by plan past act) (last_limit plan past c.0)) here));
            out = get_or-set_same v.waits.expired c.0 false false (omega (arith, low, three))
                ∙ sym (ap (λ o. option_map_or (has_run_out plan (e ∷ past)) o false) is ∙ run_out_new plan past w i (Block c) why (sym by));
          }
    ] (reasons_same plan past v act len semas)

-- and the others
act_there : (plan : PlanView) (past : List Event) (w : ℕ) (c : Blk) (i b : ℕ) (v : MachineView) → WaitsAre plan past v → (c.0 ≡ b → ⊥)
    → WaitIs plan (Acted w (Block c) i ∷ past) (parked_for v.waits (Block c) (awaited_in_view v (act_at plan (Block c) i)) (limit_in_view v (act_at plan (Block c) i))) b
act_there plan past w c i b v ties other =
    let act = act_at plan (Block c) i in
    let apart = ne_eqb c.0 b other in
    let was = still plan past (Acted w (Block c) i) v.waits b (same_awaited plan past (Acted w (Block c) i) b refl (ap (λ t. cond t (awaited_by plan past act) (parked_by plan past (run_of b))) apart))
    (ap (λ t. cond t (limit_by plan past act) (last_limit plan past b)) apart) (λ p last. refl) (wait_at plan past v b ties) in
    elim (awaited_in_view v act) as (λ o. WaitIs plan (Acted w (Block c) i ∷ past) (parked_for v.waits (Block c) o (limit_in_view v act)) b) [
      | None ↦ was
      | Some why ↦ moved plan (Acted w (Block c) i ∷ past) v.waits (parked_for v.waits (Block c) (Some why) (limit_in_view v act)) b
          (record {
            reason = get_or-set_other v.waits.reasons c.0 b (Some why) None (λ e. other (sym e));
            end = get_or-set_other v.waits.limits c.0 b (limit_in_view v act) None (λ e. other (sym e));
            out = get_or-set_other v.waits.expired c.0 b false false (λ e. other (sym e));
          })
          was
    ]

pub known_block : (plan : PlanView) (past : List Event) (w : ℕ) (c : Blk) (i : ℕ) → IsLawful plan (Acted w (Block c) i ∷ past) → c.0 < length plan.blocks
known_block plan past w c i lawful =
    let known = (allowed plan past (Acted w (Block c) i) lawful.1).known in
    let one = and_parts (is_worker w) (is_run_of plan (Block c) && is_index i) known in
    ltb-true c.0 (length plan.blocks) (and_parts (is_run_of plan (Block c)) (is_index i) one.1).0

-- ## A Wake and an Expire

wake_here : (plan : PlanView) (past : List Event) (w : ℕ) (c : Blk) (v : MachineView) → PartsFit plan v → c.0 < length plan.blocks → WaitIs plan (Wake w c ∷ past) (waits_after plan v (Wake w c)) c.0
wake_here plan past w c v fit low =
    let three = fit.expired in
    wait_none plan (Wake w c ∷ past) (waits_after plan v (Wake w c)) c.0
    (none_awaited plan (Wake w c ∷ past) c.0 (ap (λ u. cond u None (parked_by plan past (Block c))) (eq-eqb c.0 c.0 refl)))
    (option_set v.waits.reasons c.0 None (λ why told. absurd (none-some why told)))
    (option_set v.waits.limits c.0 None (λ n told. absurd (none-some n told)))
    (get_or-set_same v.waits.expired c.0 false false (omega (arith, low, three)))

wake_there : (plan : PlanView) (past : List Event) (w : ℕ) (c : Blk) (b : ℕ) (v : MachineView) → WaitsAre plan past v → (c.0 ≡ b → ⊥) → WaitIs plan (Wake w c ∷ past) (waits_after plan v (Wake w c)) b
wake_there plan past w c b v ties other =
    moved plan (Wake w c ∷ past) v.waits (waits_after plan v (Wake w c)) b
    (record {
      reason = get_or-set_other v.waits.reasons c.0 b None None (λ e. other (sym e));
      end = get_or-set_other v.waits.limits c.0 b None None (λ e. other (sym e));
      out = get_or-set_other v.waits.expired c.0 b false false (λ e. other (sym e));
    })
    (still plan past (Wake w c) v.waits b (same_awaited plan past (Wake w c) b refl (ap (λ u. cond u None (parked_by plan past (run_of b))) (ne_eqb c.0 b other))) refl (λ p last. refl) (wait_at plan past v b ties))

expire_here : (plan : PlanView) (past : List Event) (c : Blk) (v : MachineView) → IsLawful plan (Expire c ∷ past) → PartsFit plan v → c.0 < length plan.blocks → WaitsAre plan past v → WaitIs plan (Expire c ∷ past) (waits_after plan v (Expire c)) c.0
expire_here plan past c v lawful fit low ties =
    let now = expires_now plan past c lawful in
    let three = fit.expired in
    let same : awaited plan (Expire c ∷ past) (Block c) ≡ awaited plan past (Block c) = same_awaited plan past (Expire c) c.0 refl refl in
    let is : awaited plan (Expire c ∷ past) (Block c) ≡ Some now.why = same ∙ now.is in
    record {
      reason = ties.reasons c.0 ∙ sym same;
      end = ties.limits c.0 ∙ (limit_some plan past c.0 now.why now.is ∙ sym (limit_some plan (Expire c ∷ past) c.0 now.why is));
      out = get_or-set_same v.waits.expired c.0 true false (omega (arith, low, three))
          ∙ sym (ap (λ o. option_map_or (has_run_out plan (Expire c ∷ past)) o false) is ∙ expired_now plan past c now.why lawful now.is);
    }

expire_there : (plan : PlanView) (past : List Event) (c : Blk) (b : ℕ) (v : MachineView) → WaitsAre plan past v → (c.0 ≡ b → ⊥) → WaitIs plan (Expire c ∷ past) (waits_after plan v (Expire c)) b
expire_there plan past c b v ties other =
    moved plan (Expire c ∷ past) v.waits (waits_after plan v (Expire c)) b
    (record { reason = refl; end = refl; out = get_or-set_other v.waits.expired c.0 b true false (λ e. other (sym e)) })
    (still plan past (Expire c) v.waits b (same_awaited plan past (Expire c) b refl refl) refl (λ p last. expires_own past c b p last ∙ ne_eqb c.0 b other) (wait_at plan past v b ties))

-- ## The step

pub unopened : (plan : PlanView) (past : List Event) (w : ℕ) (c : Blk) → IsLawful plan (Start w c ∷ past) → is_open past (Block c) ≡ false
unopened plan past w c lawful = false_from_ne_true (is_open past (Block c)) (λ live. both_ways (is_started past c.0) (at_start plan past w c lawful.1).fresh (started_from_open past c live))

-- an event that lets all waits be
untouched : (plan : PlanView) (past : List Event) (e : Event) (v : MachineView) (b : ℕ) → is_open (e ∷ past) (run_of b) ≡ is_open past (run_of b) → parked_by plan (e ∷ past) (run_of b) ≡ parked_by plan past (run_of b)
    → last_limit plan (e ∷ past) b ≡ last_limit plan past b → ((p : ℕ) → expires past e p ≡ false) → WaitsAre plan past v → WaitIs plan (e ∷ past) v.waits b
untouched plan past e v b live by last quiet ties = still plan past e v.waits b (same_awaited plan past e b live by) last (λ p at. quiet p) (wait_at plan past v b ties)

waits_by : (plan : PlanView) (past : List Event) (e : Event) (v : MachineView) (b : ℕ) → IsLawful plan (e ∷ past) → PartsFit plan v → v.plan ≡ plan → v.len ≡ length past → v.timers.moment ≡ now past → SemasAre plan past v → WaitsAre plan past v
    → WaitIs plan (e ∷ past) (waits_after plan v e) b
waits_by plan past (Acted w (Block c) i) v b lawful fit same_plan len moment semas ties =
    let known = known_block plan past w c i lawful in
    ⊎_elim
    (λ (same : c.0 ≡ b).
    subst (λ n. WaitIs plan (Acted w (Block c) i ∷ past) (waits_after plan v (Acted w (Block c) i)) n) same (act_here plan past w c i v lawful fit known same_plan len moment semas ties))
    (λ (other : c.0 ≡ b → ⊥). act_there plan past w c i b v ties other)
    (cases_eq c.0 b)
waits_by plan past (Acted w (Source s) i) v b lawful fit same_plan len moment semas ties = untouched plan past (Acted w (Source s) i) v b refl refl refl (λ p. refl) ties
waits_by plan past (Wake w c) v b lawful fit same_plan len moment semas ties =
    let known = ltb-true c.0 (length plan.blocks) (and_parts (is_worker w) (has_block plan c.0) (allowed plan past (Wake w c) lawful.1).known).1 in
    ⊎_elim
    (λ (same : c.0 ≡ b). subst (λ n. WaitIs plan (Wake w c ∷ past) (waits_after plan v (Wake w c)) n) same (wake_here plan past w c v fit known))
    (λ (other : c.0 ≡ b → ⊥). wake_there plan past w c b v ties other)
    (cases_eq c.0 b)
waits_by plan past (Expire c) v b lawful fit same_plan len moment semas ties =
    let known = ltb-true c.0 (length plan.blocks) (allowed plan past (Expire c) lawful.1).known in
    ⊎_elim
    (λ (same : c.0 ≡ b). subst (λ n. WaitIs plan (Expire c ∷ past) (waits_after plan v (Expire c)) n) same (expire_here plan past c v lawful fit known ties))
    (λ (other : c.0 ≡ b → ⊥). expire_there plan past c b v ties other)
    (cases_eq c.0 b)
waits_by plan past (Start w c) v b lawful fit same_plan len moment semas ties =
    ⊎_elim
    (λ (same : c.0 ≡ b).
    still_none plan past (Start w c) v.waits b (shut_awaited plan past b (subst (λ n. is_open past (run_of n) ≡ false) same (unopened plan past w c lawful)))
    (none_awaited plan (Start w c ∷ past) b (ap (λ u. cond u None (parked_by plan past (run_of b))) (eq-eqb c.0 b same))) (wait_at plan past v b ties))
    (λ (other : c.0 ≡ b → ⊥).
    let t = ne_eqb c.0 b other in
    untouched plan past (Start w c) v b (is_open-step (Start w c) past (run_of b) ∙ ap (λ u. u || is_open past (run_of b)) t) (ap (λ u. cond u None (parked_by plan past (run_of b))) t) refl (λ p. refl) ties)
    (cases_eq c.0 b)
waits_by plan past (End w c) v b lawful fit same_plan len moment semas ties =
    ⊎_elim
    (λ (same : c.0 ≡ b).
    let own = (at_end plan past w c lawful.1).own in
    still_none plan past (End w c) v.waits b (unparked_awaited plan past w b (subst (λ n. has_run plan past w (run_of n) ≡ true) same own))
    (shut_awaited plan (End w c ∷ past) b (is_open-step (End w c) past (run_of b) ∙ ap (λ u. not u && is_open past (run_of b)) (eq-eqb c.0 b same))) (wait_at plan past v b ties))
    (λ (other : c.0 ≡ b → ⊥). untouched plan past (End w c) v b (is_open-step (End w c) past (run_of b) ∙ ap (λ u. not u && is_open past (run_of b)) (ne_eqb c.0 b other)) refl refl (λ p. refl) ties)
    (cases_eq c.0 b)
waits_by plan past (Deliver w s) v b lawful fit same_plan len moment semas ties = untouched plan past (Deliver w s) v b (is_open-step (Deliver w s) past (run_of b)) refl refl (λ p. refl) ties
waits_by plan past (DeliverEnd w s) v b lawful fit same_plan len moment semas ties = untouched plan past (DeliverEnd w s) v b (is_open-step (DeliverEnd w s) past (run_of b)) refl refl (λ p. refl) ties
waits_by plan past e v b lawful fit same_plan len moment semas ties = untouched plan past e v b refl refl refl (λ p. refl) ties

pub waits_step : (plan : PlanView) (past : List Event) (e : Event) (v : MachineView) → IsLawful plan (e ∷ past) → PartsFit plan v → v.plan ≡ plan → v.len ≡ length past → v.timers.moment ≡ now past → SemasAre plan past v → WaitsAre plan past v
    → WaitsAre plan (e ∷ past) (after plan v e)
waits_step plan past e v lawful fit same_plan len moment semas ties =
    let at : (b : ℕ) → WaitIs plan (e ∷ past) (waits_after plan v e) b = λ b. waits_by plan past e v b lawful fit same_plan len moment semas ties in
    record { reasons = λ b. (at b).reason; limits = λ b. (at b).end; expired = λ b. (at b).out }

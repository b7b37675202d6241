-- What an expiry asks: the wait of the block has a limit, has begun, and has neither passed nor expired, and the block sleeps where
-- it waits.
use Rattle.std.proofs.Common.{◌≡◌, ⊎_elim, ℕ, ◌+◌, ◌^◌, ◌<◌, ◌≤◌, Bool, true, false, List, [], length, nat_le, Option, Some, None, is_some, refl, ap, sym, ◌∙◌, subst, arith}
use Rattle.std.specs.Option.{option_map, option_map_or}
use Rattle.std.proofs.lemmas.Bool.{cases_lt, ltb-true, or_parts}
use Rattle.std.proofs.lemmas.List.{get_or_past}
use Rattle.std.proofs.lemmas.Option.{none-some, same_Some}
use Rattle.gcd_plan.specs.PlanView.{PlanView}
use Rattle.gcd_plan.specs.declared.numbers.Blk.{Blk}
use Rattle.gcd_plan.specs.declared.numbers.Obj.{Obj}
use Rattle.gcd_plan.specs.declared.numbers.Run.TheVariants.{Block}
use Rattle.gcd_plan.specs.declared.reason.Reason.{Reason}
use Rattle.gcd_plan.specs.declared.reason.Reason.TheVariants.{Rank}
use Rattle.gcd_plan.proofs.Options.{some_from_is_some}
use Rattle.gcd_event.specs.declared.event.Event.{Event}
use Rattle.gcd_event.specs.declared.event.Event.TheVariants.{Expire}
use Rattle.gcd_history.specs.Semas.{passes, is_expired_wait}
use Rattle.gcd_history.specs.Parked.{awaited, has_come, has_run_out, is_over, is_parked, may_wake}
use Rattle.gcd_history.specs.Timers.{now}
use Rattle.gcd_history.specs.Due.{limit, is_at_limit}
use Rattle.gcd_history.specs.Permitted.{why}
use Rattle.gcd_history.proofs.Permitted.Reasons.{allowed, at_expire}
use Rattle.gcd_lists.specs.ListsView.{ListsView, barrier_in, place_of}
use Rattle.gcd_lists.proofs.Places.{in_list_of_place}
use Rattle.gcd_refinement.proofs.Rooms.{kept_within}
use Rattle.gcd_refinement.specs.MachineView.{MachineView}
use Rattle.gcd_refinement.specs.Stands.{IsTied}
use Rattle.gcd_machine.proofs.Views.Sleepers.{sleeps_in}
use Rattle.gcd_machine.specs.Conditions.{IsWaiting, CanEndWait, CanExpire}
use Rattle.gcd_machine.proofs.Conditions.Groups.{can_let_go}
use Rattle.gcd_machine.proofs.Views.Waits.{expired_is, passed_is}

-- ## Lists

-- a block waits on no object but those that have a list
list_within : (lists : ListsView) (b : ℕ) (o : Obj) (barrier : Bool) → place_of lists b ≡ Some (o, barrier) → o.0 < length lists.lists
list_within lists b o barrier there =
    ⊎_elim
    (λ (low : o.0 < length lists.lists). low)
    (λ (high : length lists.lists ≤ o.0).
    absurd (none-some barrier (sym (ap (barrier_in b) (get_or_past lists.lists o.0 [] high)) ∙ in_list_of_place lists b o barrier there)))
    (cases_lt o.0 (length lists.lists))

place_within : (lists : ListsView) (b : ℕ) (o : Obj) → option_map (λ at. at.0) (place_of lists b) ≡ Some o → o.0 < length lists.lists
place_within lists b o is =
    elim (place_of lists b) as (λ p. place_of lists b ≡ p → option_map (λ at. at.0) p ≡ Some o → o.0 < length lists.lists) [
      | None ↦ λ at no. cc
      | Some at ↦ λ there same. list_within lists b o at.1 (there ∙ ap (λ n. Some (n, at.1)) (same_Some at.0 o same))
    ] refl is

-- ## Waits

-- a limit that time has come to is one
has_limit : (end : Option ℕ) (test : ℕ → Bool) → option_map_or test end false ≡ true → is_some end ≡ true
has_limit None test h = cc
has_limit (Some t) test h = refl

limit_some : (plan : PlanView) (past : List Event) (b : ℕ) → is_at_limit plan past b ≡ true → is_some (limit plan past b) ≡ true
unfolding is_at_limit
limit_some plan past b at = has_limit (limit plan past b) (λ end. nat_le end (now past)) at

-- what a parked block waits for
pub waits_for : (plan : PlanView) (past : List Event) (b : ℕ) → is_parked plan past b ≡ true → (why : Reason) × (awaited plan past (Block (record { 0 = b })) ≡ Some why)
unfolding is_parked
waits_for plan past b parked = some_from_is_some (awaited plan past (Block (record { 0 = b }))) parked

not_over : (plan : PlanView) (past : List Event) (b : ℕ) (reason : Reason) → may_wake plan past b ≡ false → awaited plan past (Block (record { 0 = b })) ≡ Some reason → is_over plan past reason ≡ false
unfolding may_wake
not_over plan past b reason waits is = sym (ap (λ o. option_map_or (is_over plan past) o false) is) ∙ waits

rank_waits : (plan : PlanView) (past : List Event) (s : Obj) (k : ℕ) → is_over plan past (Rank s k) ≡ false → (passes plan past s.0 k ≡ false) × (is_expired_wait plan past s.0 k ≡ false)
unfolding has_come has_run_out
rank_waits plan past s k waits = or_parts (passes plan past s.0 k) (is_expired_wait plan past s.0 k) waits

module _ (past : List Event) (m : MachineView) (t : IsTied m.plan past m) (room : length past + 1 < 2 ^ 32) where
  is_waiting : (b : Blk) (s : Obj) (k : ℕ) → awaited m.plan past (Block b) ≡ Some (Rank s k) → is_over m.plan past (Rank s k) ≡ false → IsWaiting m s.0 k
  is_waiting b s k is waits =
      let rank = t.small.ranks b.0 s k (t.waits.reasons b.0 ∙ is) in
      let none = rank_waits m.plan past s k waits in
      record {
        low = rank.low;
        begun = rank.high;
        not_passed = passed_is m.plan past m s.0 k t ∙ none.0;
        not_expired = expired_is m.plan past m s.0 k t ∙ none.1;
      }

  can_end_wait : (b : Blk) (reason : Reason) → b.0 < length m.plan.blocks → awaited m.plan past (Block b) ≡ Some reason → is_over m.plan past reason ≡ false → CanEndWait m b (Some reason)
  can_end_wait b reason low is waits =
      let blocks = t.own.sleeper_blocks in
      let within = kept_within m.waits.reasons b.0 reason (t.waits.reasons b.0 ∙ is) in
      let asleep = sleeps_in m.plan past m b reason t is waits in
      record {
        listed = omega (arith, within, blocks, t.parts.reasons);
        objects = t.own.sleepers ∙ sym t.parts.waits;
        known = λ o at. place_within m.sleepers b.0 o (asleep ∙ at);
        asleep = asleep;
        semaphore = λ s k rank.
            let same = same_Some reason (Rank s k) rank in
            is_waiting b s k (is ∙ ap Some same) (ap (is_over m.plan past) (sym same) ∙ waits);
      }

  pub can_expire : (b : Blk) → why m.plan past (Expire b) ≡ None → CanExpire m b
  can_expire b may =
      let facts = at_expire m.plan past b may in
      let low = ltb-true b.0 (length m.plan.blocks) (allowed m.plan past (Expire b) may).known in
      let for = waits_for m.plan past b.0 facts.parked in
      record {
        blk = kept_within m.waits.reasons b.0 for.0 (t.waits.reasons b.0 ∙ for.1);
        over = can_let_go past m t room b low;
        limited = ap is_some (t.waits.limits b.0) ∙ limit_some m.plan past b.0 facts.at_limit;
        ends = subst (CanEndWait m b) (sym (t.waits.reasons b.0 ∙ for.1)) (can_end_wait b for.0 low for.1 (not_over m.plan past b.0 for.0 facts.not_over for.1));
      }

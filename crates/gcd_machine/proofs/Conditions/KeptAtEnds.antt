-- What the steps of an End ask stands, since the steps before them change other things.
use Rattle.std.proofs.Common.{◌≡◌, ⊎_elim, is_some, option_map, ◌++◌, ℕ, ◌-◌, ◌<◌, true, false, List, [], ◌∷◌, length, get_or, set, map, Option, Some, None, option_to_list, refl, ap, sym, ◌∙◌, subst, arith}
use Rattle.std.specs.List.{fold}
use Rattle.std.specs.Option.{option_map_or}
use Rattle.std.proofs.lemmas.Bool.{cases_eq}
use Rattle.std.proofs.lemmas.Option.{none-some, same_Some}
use Rattle.std.proofs.lemmas.List.{length-set, length-append, get_or_read, get_or-set_same, get_or-set_other}
use Rattle.gcd_plan.specs.PlanView.{IntakeView}
use Rattle.gcd_plan.specs.declared.numbers.Blk.{Blk}
use Rattle.gcd_plan.specs.declared.numbers.Obj.{Obj}
use Rattle.gcd_lists.specs.ListsView.{list_at, place_of}
use Rattle.gcd_blockobj.specs.MarksView.{MarksView, has_ended_at, with_ended, with_notify}
use Rattle.gcd_refinement.specs.MachineView.{MachineView, idle, block_at, applier_at}
use Rattle.gcd_refinement.specs.declared.progress.BlockProgress.{BlockProgress}
use Rattle.gcd_refinement.specs.Submits.{done_by}
use Rattle.gcd_refinement.specs.After.{with_block, with_wakeable}
use Rattle.gcd_refinement.specs.AfterLimits.{without_ripe}
use Rattle.gcd_refinement.proofs.Step.Wakeable.{wakeable_long}
use Rattle.gcd_refinement.proofs.Step.OwnArrays.{unripe_long}
use Rattle.gcd_machine.specs.Steps.{closed_block, caller_let_go, waiters_let_go, waits_ended, run_closed, set_free, submitted, accepted, member_left, ended, told_at}
use Rattle.gcd_machine.specs.Conditions.{CanLetGo, CanLeave, CanLeaveTold, CanTell, CanTellOf, CanLetWaitersGo, CanLetApplierGo, CanEndWaits, CanEnd, CanSubmit, CanAccept, HaveHomesAtEnd}
use Rattle.gcd_machine.proofs.Steps.EndWaits.{called_is, let_go_of, waits_view, waits_is, told_ended}
use Rattle.gcd_machine.proofs.Steps.Places.{waits_as_before}
use Rattle.gcd_machine.proofs.Conditions.Kept.{SameForGroups, block_read, leave_same, same_closed}

-- ## What no step of an End but its own looks at

pub record SameForWaits (m : MachineView) (k : MachineView) : Type 0 where
  pub wakeable : length k.wakeable ≡ length m.wakeable
  pub ripe : length k.ripe ≡ length m.ripe
  pub waiters : k.waiters ≡ m.waiters
  pub appliers : k.appliers ≡ m.appliers
  pub strips : k.strips ≡ m.strips

waits_closed : (m : MachineView) (w : ℕ) (b : Blk) → SameForWaits m (closed_block m w b)
waits_closed m w b = at (block_at m b.0).node
  where
    at : (node : Option Obj)
        → SameForWaits m (set_free (run_closed (record m { ended = set m.ended b.0 true; left = m.left - 1; marks = with_ended m.marks b.0 }) node (block_at m b.0).barrier) w)
    at None = record { wakeable = refl; ripe = refl; waiters = refl; appliers = refl; strips = refl }
    at (Some n) = record { wakeable = refl; ripe = refl; waiters = refl; appliers = refl; strips = refl }

waits_told : (m : MachineView) (b : Blk) → SameForWaits m (told_at m b)
waits_told m b =
    elim (has_ended_at m.marks b.0) as (λ t. has_ended_at m.marks b.0 ≡ t → SameForWaits m (told_at m b)) [
      | true ↦ λ ended.
          subst (SameForWaits m) (sym (told_ended m (λ k. (block_at m k).home) b (λ k. refl) ended))
          (record { wakeable = refl; ripe = refl; waiters = refl; appliers = refl; strips = refl })
      | false ↦ λ goes. rw goes (record { wakeable = refl; ripe = refl; waiters = refl; appliers = refl; strips = refl })
    ] refl

waits_after : {m k l : MachineView} → SameForWaits m k → SameForWaits k l → SameForWaits m l
waits_after first later = record {
  wakeable = later.wakeable ∙ first.wakeable;
  ripe = later.ripe ∙ first.ripe;
  waiters = later.waiters ∙ first.waiters;
  appliers = later.appliers ∙ first.appliers;
  strips = later.strips ∙ first.strips;
}

let_go_same : {m k : MachineView} {c : Blk} → SameForWaits m k → CanLetGo m c → CanLetGo k c
let_go_same same can = record { wakeable = omega (arith, same.wakeable, can.wakeable); ripe = omega (arith, same.ripe, can.ripe) }

end_waits_same : {m k : MachineView} {b : Blk} {caller : Option Blk} → SameForWaits m k → CanEndWaits m b caller → CanEndWaits k b caller
end_waits_same {m} {k} {b} {caller} same can =
    let listed = ap (λ v. v.blocks) same.waiters in
    let strip : done_by k b ≡ done_by m b = rw same.strips refl in
    let long = ap length same.appliers in
    record {
      caller = λ c is. let_go_same same (can.caller c is);
      waiters = record {
        blocks = omega (arith, listed, same.wakeable, can.waiters.blocks);
        ripe = omega (arith, listed, same.ripe, can.waiters.ripe);
      };
      applier = record {
        strip = λ a is. let low = can.applier.strip a (sym strip ∙ is) in omega (arith, long, low);
        applier = λ a c is of. let_go_same same (can.applier.applier a c (sym strip ∙ is) (ap (λ l. get_or l a None) (sym same.appliers) ∙ of));
      };
    }

-- ## The steps of an End

tell_closed : (m : MachineView) (w : ℕ) (b : Blk) → CanTell m b → CanTell (closed_block m w b) b
tell_closed m w b can = at (block_at m b.0).node
  where
    homes : {k : MachineView} → k.lists ≡ m.lists → k.blocks ≡ m.blocks → k.busy ≡ m.busy → k.marks.notify ≡ m.marks.notify → HaveHomesAtEnd k
    homes {k} lists blocks busy notify = record {
      homes = rw (lists, blocks) can.homes.homes;
      nowhere = rw (lists, notify) can.homes.nowhere;
      listed = rw (lists, notify) can.homes.listed;
      blocks = rw (blocks, notify) can.homes.blocks;
      marked = rw (lists, busy) can.homes.marked;
    }

    at : (node : Option Obj)
        → CanTell (set_free (run_closed (record m { ended = set m.ended b.0 true; left = m.left - 1; marks = with_ended m.marks b.0 }) node (block_at m b.0).barrier) w) b
    at None = record { homes = homes refl refl refl refl; room = let room = can.room in omega (arith, room) }
    at (Some n) = record { homes = homes refl refl refl refl; room = let room = can.room in omega (arith, room) }

leave_closed : (m : MachineView) (w : ℕ) (b : Blk) (g : Obj) → CanLeaveTold m b g → CanLeaveTold (closed_block m w b) b g
leave_closed m w b g can = at (block_at m b.0).node (leave_same (same_closed m w b) can.leaves)
  where
    at : (node : Option Obj)
        → CanLeave (set_free (run_closed (record m { ended = set m.ended b.0 true; left = m.left - 1; marks = with_ended m.marks b.0 }) node (block_at m b.0).barrier) w) g
        → CanLeaveTold (set_free (run_closed (record m { ended = set m.ended b.0 true; left = m.left - 1; marks = with_ended m.marks b.0 }) node (block_at m b.0).barrier) w) b g
    at None leaves = record { leaves = leaves; apart = can.apart; room = let room = can.room in omega (arith, room) }
    at (Some n) leaves = record { leaves = leaves; apart = can.apart; room = let room = can.room in omega (arith, room) }

pub may_tell : (m : MachineView) {k : MachineView} {w : ℕ} {b : Blk} → k ≡ closed_block m w b → CanEnd m w b → CanTell k b
may_tell m {k} {w} {b} is can = subst (λ n. CanTell n b) (sym is) (tell_closed m w b can.tells)

pub may_end_waits : (m : MachineView) {k l : MachineView} {w : ℕ} {b : Blk} {read : BlockProgress} → read ≡ get_or m.blocks b.0 read → k ≡ closed_block m w b
    → l ≡ told_at k b → CanEnd m w b → CanEndWaits l b read.caller
may_end_waits m {k} {l} {w} {b} {read} read_is closed_is told_is can =
    let same = block_read m b read_is can.closes.blk in
    let waits : CanEndWaits m b read.caller = subst (λ (r : BlockProgress). CanEndWaits m b r.caller) (sym same) can.waits in
    subst (λ n. CanEndWaits n b read.caller) (sym (told_is ∙ ap (λ n. told_at n b) closed_is))
    (end_waits_same (waits_after (waits_closed m w b) (waits_told (closed_block m w b) b)) waits)

-- the waits that are over change nothing at which groups look
same_waits_view : (m : MachineView) (b : Blk) (caller : Option Blk) → SameForGroups m (waits_view m b caller)
same_waits_view m b caller = record {
  groups = refl;
  sleepers = refl;
  lists = refl;
  blocks = refl;
  busy = refl;
  len = refl;
  wakeable = wakeable_long m.wakeable (let_go_of m b caller);
  ripe = unripe_long m.ripe (let_go_of m b caller);
  left = omega arith;
}

pub may_leave : (m : MachineView) {k l n : MachineView} {w : ℕ} {b : Blk} {read : BlockProgress} → read ≡ get_or m.blocks b.0 read → k ≡ closed_block m w b
    → ((g : Obj) → CanLeaveTold k b g → CanLeave l g) → n ≡ waits_ended l b read.caller → CanEnd m w b → (g : Obj) → read.group ≡ Some g → CanLeave n g
may_leave m {k} {l} {n} {w} {b} {read} read_is closed_is leaves is can = λ g at.
    let same = block_read m b read_is can.closes.blk in
    let told = can.group g (ap (λ (r : BlockProgress). r.group) (sym same) ∙ at) in
    let here = leaves g (subst (λ x. CanLeaveTold x b g) (sym closed_is) (leave_closed m w b g told)) in
    subst (λ x. CanLeave x g) (sym (is ∙ waits_is l b read.caller)) (leave_same (same_waits_view l b read.caller) here)

-- the steps one after the other
pub end_is : (m : MachineView) {k l n z : MachineView} {w : ℕ} {b : Blk} {read : BlockProgress} → read ≡ get_or m.blocks b.0 read → k ≡ closed_block m w b
    → l ≡ told_at k b → n ≡ waits_ended l b read.caller → z ≡ member_left n read.group → CanEnd m w b → z ≡ ended m w b
end_is m {k} {l} {n} {z} {w} {b} {read} read_is closed_is told_is over_is is can =
    let same = block_read m b read_is can.closes.blk in
    let told = told_is ∙ ap (λ (x : MachineView). told_at x b) closed_is in
    let over = over_is ∙ ap (λ (x : MachineView). waits_ended x b read.caller) told in
    is
    ∙ (ap (λ (x : MachineView). member_left x read.group) over
    ∙ ap (λ (r : BlockProgress). member_left (waits_ended (told_at (closed_block m w b) b) b r.caller) r.group) same)

-- ## The waits of an End

pub may_let_waiters_go : (m : MachineView) {k : MachineView} (b : Blk) (caller : Option Blk) → k ≡ caller_let_go m caller → CanEndWaits m b caller → CanLetWaitersGo k
may_let_waiters_go m {k} b caller is can =
    let wakeable = wakeable_long m.wakeable (option_to_list caller) in
    let ripe = unripe_long m.ripe (option_to_list caller) in
    subst CanLetWaitersGo (sym (is ∙ called_is m caller))
    (record { blocks = omega (arith, wakeable, can.waiters.blocks); ripe = omega (arith, ripe, can.waiters.ripe) })

pub may_end_in_strip : (m : MachineView) {k l : MachineView} (b : Blk) (caller : Option Blk) → k ≡ caller_let_go m caller → l ≡ waiters_let_go k b → CanEndWaits m b caller
    → CanLetApplierGo l (done_by l b)
may_end_in_strip m {k} {l} b caller called_by let_by can =
    let callers = option_to_list caller in
    let waiting = map (λ w. w.0) (list_at m.waiters b.0) in
    let wakeable = wakeable_long (fold with_wakeable m.wakeable callers) waiting ∙ wakeable_long m.wakeable callers in
    let ripe = unripe_long (fold without_ripe m.ripe callers) waiting ∙ unripe_long m.ripe callers in
    subst (λ n. CanLetApplierGo n (done_by n b)) (sym (let_by ∙ ap (λ n. waiters_let_go n b) (called_by ∙ called_is m caller)))
    (record {
      strip = can.applier.strip;
      applier = λ a c is of.
          let may = can.applier.applier a c is of in
          record { wakeable = omega (arith, wakeable, may.wakeable); ripe = omega (arith, ripe, may.ripe) };
    })

-- the block that applied the strip, as it is read
pub applier_read : (m : MachineView) (a : ℕ) {read : Option Blk} → a < length m.appliers → read ≡ get_or m.appliers a read → read ≡ applier_at m a
applier_read m a {read} low is = get_or_read m.appliers a read low is None

pub may_let_applier_go : (m : MachineView) (a : ℕ) {read : Option Blk} (appliers : List (Option Blk)) → read ≡ get_or m.appliers a read → CanLetApplierGo m (Some a)
    → (c : Blk) → read ≡ Some c → CanLetGo (record m { appliers = appliers }) c
may_let_applier_go m a {read} appliers is can = λ c of.
    let may = can.applier a c refl (sym (applier_read m a (can.strip a refl) is) ∙ of) in
    record { wakeable = may.wakeable; ripe = may.ripe }

-- ## A block that is told of the end of another

told_homes : {m : MachineView} {b d : Blk} {q : Obj} → CanTellOf m b q d
    → CanTell (record m { blocks = with_block m.blocks d.0 (λ x. record x { home = q }); marks = with_notify m.marks b.0 d }) b
told_homes {m} {b} {d} {q} can =
    let changed : BlockProgress = record (block_at m d.0) { home = q } in
    let listed = ap length (get_or-set_same m.marks.notify.lists b.0 (list_at m.marks.notify b.0 ++ (d, false) ∷ []) [] can.awaited) in
    let more = length-append (list_at m.marks.notify b.0) ((d, false) ∷ []) in
    record {
      homes = record {
        homes = λ c.
            ⊎_elim
            (λ (same : d.0 ≡ c).
            let here : get_or (set m.blocks d.0 changed) c idle ≡ changed =
            subst (λ k. get_or (set m.blocks d.0 changed) k idle ≡ changed) same (get_or-set_same m.blocks d.0 changed idle can.blk) in
            rw here can.home)
            (λ other. rw (get_or-set_other m.blocks d.0 c changed idle (λ e. other (sym e))) (can.homes.homes c))
            (cases_eq d.0 c);
        nowhere = λ c some.
            ⊎_elim
            (λ (same : d.0 ≡ c). ap (place_of m.lists) (sym same) ∙ can.nowhere)
            (λ other. can.homes.nowhere c (sym (ap is_some (waits_as_before m.marks.notify (record { 0 = b.0 }) d false c other)) ∙ some))
            (cases_eq d.0 c);
        listed = can.homes.listed;
        blocks = rw length-set can.homes.blocks;
        marked = can.homes.marked;
      };
      room = let room = can.room in omega (arith, listed, more, room);
    }

pub may_tell_of : {m : MachineView} {b d : Blk} {q : Obj} {read : BlockProgress} {marks : MarksView} → read ≡ get_or m.blocks d.0 read
    → marks ≡ with_notify m.marks b.0 d → CanTellOf m b q d
    → CanTell (record m { blocks = set m.blocks d.0 (record read { home = q }); marks = marks }) b
may_tell_of {m} {b} {d} {q} {read} {marks} read_is is can =
    let same = block_read m d read_is can.blk in
    subst (λ (r : BlockProgress). CanTell (record m { blocks = set m.blocks d.0 (record r { home = q }); marks = marks }) b) (sym same)
    (subst (λ (r : MarksView). CanTell (record m { blocks = with_block m.blocks d.0 (λ x. record x { home = q }); marks = r }) b) (sym is)
    (told_homes can))

-- ## Blocks from outside

-- the queue of the intake, as it is told
pub may_accept : {m : MachineView} {b : Blk} {queue : Obj} (accepted : ℕ) → Some queue ≡ option_map (λ i. i.queue) m.plan.intake → CanAccept m b → CanSubmit (record m { accepted = accepted }) queue b
may_accept {m} {b} {queue} accepted told can = at m.plan.intake refl told
  where
    at : (o : Option IntakeView) → m.plan.intake ≡ o → Some queue ≡ option_map (λ i. i.queue) o → CanSubmit (record m { accepted = accepted }) queue b
    at None is h = absurd (none-some queue (sym h))
    at (Some i) is h =
        let here : CanSubmit m queue b = subst (λ q. CanSubmit m q b) (same_Some i.queue queue (sym h)) (can.submits i is) in
        record { node = here.node; listed = here.listed; nowhere = here.nowhere; blk = here.blk; marked = here.marked; room = here.room }

pub none_accepted : (m : MachineView) (b : Blk) → None ≡ option_map (λ i. i.queue) m.plan.intake → m ≡ accepted m b
none_accepted m b told = at m.plan.intake told
  where
    at : (o : Option IntakeView) → None ≡ option_map (λ (i : IntakeView). i.queue) o → m ≡ option_map_or (λ i. submitted m i.queue b false) o m
    at None h = refl
    at (Some i) h = absurd (none-some i.queue h)

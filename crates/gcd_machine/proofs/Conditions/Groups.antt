-- What the steps that submit blocks, and those of groups, ask.
use Rattle.std.proofs.Common.{◌≡◌, ℕ, ◌+◌, ◌^◌, ◌<◌, cond, List, ◌∷◌, length, Some, None, refl, ap, sym, ◌∙◌, arith, eq-eqb}
use Rattle.gcd_plan.specs.declared.act.Act.TheVariants.{Leave}
use Rattle.gcd_plan.specs.declared.numbers.Blk.{Blk}
use Rattle.gcd_plan.specs.declared.numbers.Obj.{Obj}
use Rattle.gcd_event.specs.declared.event.Event.{Event}
use Rattle.gcd_event.specs.declared.event.Event.TheVariants.{End}
use Rattle.gcd_history.specs.Runs.{act_of}
use Rattle.gcd_history.specs.Groups.{enters, leaves}
use Rattle.gcd_history.specs.Permitted.{IsLawful}
use Rattle.gcd_plan.proofs.Sums.{count_by-cons}
use Rattle.gcd_lists.specs.ListsView.{place_of}
use Rattle.gcd_group.specs.GroupsView.{count_at, entered_at}
use Rattle.gcd_refinement.specs.MachineView.{MachineView, block_at}
use Rattle.gcd_refinement.specs.Sleepers.{group_of}
use Rattle.gcd_refinement.specs.Stands.{IsTied}
use Rattle.gcd_refinement.proofs.Groups.Members.{is_group}
use Rattle.gcd_refinement.proofs.Step.Groups.{fits_at, end_counts}
use Rattle.gcd_refinement.proofs.Step.Submits.{counts_of}
use Rattle.gcd_machine.specs.Conditions.{CanLetGo, CanWakeAt, CanSubmit, HaveHomes, CanComeEmpty, CanLeave, CanLeaveTold, CanLeaveByAct, HaveHomesAtEnd, CanTell, CanTellOf, CanEnter, CanSubmitMember, CanRegister}
use Rattle.gcd_plan.specs.Effects.{parks}
use Rattle.gcd_plan.specs.Needs.{is_of_block, mark_room}
use Rattle.gcd_plan.proofs.Needed.{room_low}
use Rattle.gcd_machine.proofs.Conditions.NewBlocks.{IsNew, notified_nowhere, told_nowhere, of_no_group, of_no_block, waits_apart, new_nowhere, few_waiting, few_ending}

module _ (past : List Event) (m : MachineView) (t : IsTied m.plan past m) (room : length past + 1 < 2 ^ 32) where
  -- ## Submissions

  pub can_submit : (n : Obj) (b : Blk) → n.0 < length m.plan.objects → b.0 < length m.plan.blocks → place_of m.lists b.0 ≡ None → CanSubmit m n b
  can_submit n b node block none =
      let lists = t.parts.lists in
      let listed = t.parts.list_blocks in
      let blocks = t.own.blocks in
      let busy = t.own.busy in
      let left = t.small.left in
      let few = t.valid.few_blocks in
      record {
        node = omega (arith, node, lists);
        listed = omega (arith, block, listed);
        nowhere = none;
        blk = omega (arith, block, blocks);
        marked = omega (arith, node, busy);
        room = omega (arith, left, few);
      }

  pub have_homes : HaveHomes m
  have_homes =
      let lists = t.parts.lists in
      record {
        homes = λ b. let low = t.own.homes b in omega (arith, low, lists);
        nowhere = notified_nowhere past m t;
        listed = t.parts.notify_blocks ∙ sym t.parts.list_blocks;
        blocks = t.parts.notify_blocks ∙ sym t.own.blocks;
        marked = t.own.busy ∙ sym lists;
      }

  -- ## Ends of blocks

  pub have_homes_at_end : HaveHomesAtEnd m
  have_homes_at_end =
      let lists = t.parts.lists in
      let listed = t.parts.list_blocks in
      let told = t.parts.told_blocks in
      let blocks = t.own.blocks in
      let few = room_low is_of_block m.plan in
      record {
        homes = λ b. let low = t.own.homes b in omega (arith, low, lists);
        nowhere = told_nowhere past m t;
        listed = omega (arith, listed, told, few);
        blocks = omega (arith, blocks, told, few);
        marked = t.own.busy ∙ sym lists;
      }

  pub can_tell : (c : Blk) → CanTell m c
  can_tell c =
      let left = t.small.left in
      let waiting = few_ending past m t c.0 in
      let few = t.valid.few_blocks in
      record { homes = have_homes_at_end; room = omega (arith, left, waiting, few) }

  pub can_tell_of : (c : Blk) (q : Obj) (d : Blk) → IsNew m.plan past d.0 → mark_room m.plan ≡ length m.plan.blocks → c.0 < length m.plan.blocks → q.0 < length m.plan.objects → d.0 < length m.plan.blocks → CanTellOf m c q d
  can_tell_of c q d new whole known home block =
      let told = t.parts.told in
      let told_blocks = t.parts.told_blocks in
      let lists = t.parts.lists in
      let blocks = t.own.blocks in
      let left = t.small.left in
      let waiting = few_ending past m t c.0 in
      let few = t.valid.few_blocks in
      let objects = t.valid.few_objects in
      record {
        awaited = omega (arith, known, told, whole);
        waiting = omega (arith, block, told_blocks, whole);
        waits_for_none = of_no_block past m t d.0 new;
        homes = have_homes_at_end;
        home = omega (arith, home, lists);
        low = omega (arith, home, objects);
        blk = omega (arith, block, blocks);
        nowhere = new_nowhere past m t d.0 new;
        room = omega (arith, left, waiting, few);
      }

  -- ## Groups

  pub can_wake_at : (o : Obj) → o.0 < length m.plan.objects → CanWakeAt m o
  can_wake_at o low =
      let long = t.own.sleepers in
      let blocks = t.own.sleeper_blocks in
      let few = room_low parks m.plan in
      record {
        object = omega (arith, low, long);
        blocks = omega (arith, blocks, few, t.own.wakeable);
        ripe = omega (arith, blocks, few, t.own.ripe);
      }

  pub can_let_go : (b : Blk) → b.0 < length m.plan.blocks → CanLetGo m b
  can_let_go b low =
      let wakeable = t.own.wakeable in
      let ripe = t.own.ripe in
      record { wakeable = omega (arith, low, wakeable); ripe = omega (arith, low, ripe) }

  pub position_low : m.len + 1 < 2 ^ 32
  position_low = let is = t.totals.len in omega (arith, is, room)

  can_come_empty : (g : Obj) → g.0 < length m.plan.objects → CanComeEmpty m g
  can_come_empty g low =
      let counts = t.parts.counts in
      let left = t.small.left in
      let waiting = few_waiting past m t g.0 low in
      let few = t.valid.few_blocks in
      record {
        group = omega (arith, low, counts);
        position = position_low;
        wakes = can_wake_at g low;
        homes = have_homes;
        room = omega (arith, left, waiting, few);
      }

  pub can_enter : (g : Obj) → g.0 < length m.plan.objects → CanEnter m g
  can_enter g low =
      let counts = t.parts.counts in
      let few = t.small.counts g.0 in
      record { group = omega (arith, low, counts); room = omega (arith, few, room); position = position_low }

  pub can_submit_member : (g q : Obj) (b : Blk) → g.0 < length m.plan.objects → CanSubmit m q b → CanSubmitMember m g q b
  can_submit_member g q b low submits = let few = t.valid.few_objects in record { group = can_enter g low; low = omega (arith, low, few); submits = submits }

  pub can_leave_by_act : (e : Event) (g : Obj) → IsLawful m.plan (e ∷ past) → act_of m.plan e ≡ Some (Leave g) → g.0 < length m.plan.objects → CanLeaveByAct m g
  can_leave_by_act e g lawful at low = record {
    entered = ((fits_at m.plan past e m t.valid lawful t.parts (counts_of m.plan past m t.groups)).gone g at).3;
    comes_empty = can_come_empty g low;
  }

  -- a block that ends counts in its group, beside what has entered it
  counted_beside : (w : ℕ) (b : Blk) (g : Obj) → IsLawful m.plan (End w b ∷ past) → (block_at m b.0).group ≡ Some g → entered_at m.groups g.0 < count_at m.groups g.0
  counted_beside w b g lawful of =
      let fewer = end_counts m.plan past w b t.valid lawful g.0 in
      let one : cond {A = ℕ} (is_group g.0 (group_of m.plan past b.0)) 1 0 ≡ 1 = ap (λ p. cond {A = ℕ} (is_group g.0 p) 1 0) (sym (t.blocks.group b.0) ∙ of) ∙ ap (λ v. cond {A = ℕ} v 1 0) (eq-eqb g.0 g.0 refl) in
      let counts = t.groups.counts g.0 in
      let entered = t.groups.entered g.0 in
      let r = count_by-cons (λ x. enters g.0 (act_of m.plan x)) (End w b) past in
      let s = count_by-cons (λ x. leaves g.0 (act_of m.plan x)) (End w b) past in
      omega (arith, fewer, one, counts, entered, r, s)

  pub can_leave : (w : ℕ) (b : Blk) (g : Obj) → IsLawful m.plan (End w b ∷ past) → (block_at m b.0).group ≡ Some g → CanLeave m g
  can_leave w b g lawful of = record { counted = counted_beside w b g lawful of; comes_empty = can_come_empty g (t.own.groups b.0 g of) }

  pub can_leave_told : (w : ℕ) (b : Blk) (g : Obj) → IsLawful m.plan (End w b ∷ past) → (block_at m b.0).group ≡ Some g → CanLeaveTold m b g
  can_leave_told w b g lawful of =
      let left = t.small.left in
      let told = few_ending past m t b.0 in
      let waiting = few_waiting past m t g.0 (t.own.groups b.0 g of) in
      let few = t.valid.few_blocks in
      record {
        leaves = can_leave w b g lawful of;
        apart = waits_apart past m t;
        room = omega (arith, left, told, waiting, few);
      }

  pub can_register : (g q : Obj) (b : Blk) → IsNew m.plan past b.0 → g.0 < length m.plan.objects → q.0 < length m.plan.objects → b.0 < length m.plan.blocks → CanRegister m g q b
  can_register g q b new group home block =
      let counts = t.parts.counts in
      let lists = t.parts.lists in
      let blocks = t.own.blocks in
      let left = t.small.left in
      let waiting = few_waiting past m t g.0 group in
      let few = t.valid.few_blocks in
      let objects = t.valid.few_objects in
      record {
        group = omega (arith, group, counts);
        homes = have_homes;
        home = omega (arith, home, lists);
        low = omega (arith, home, objects);
        blk = omega (arith, block, blocks);
        of_no_group = of_no_group past m t b.0 new;
        nowhere = new_nowhere past m t b.0 new;
        fired = t.groups.fired g.0;
        room = omega (arith, left, waiting, few);
      }

-- Conditions of a step that stand, since the steps before it change other things.
use Rattle.std.proofs.Common.{◌≡◌, ℕ, ◌+◌, ◌-◌, ◌<◌, ◌≤◌, ◌==◌, Bool, true, false, cond, List, length, get_or, set, Option, Some, None, is_some, refl, ap, sym, ◌∙◌, subst, arith, ⊎_elim, eq-eqb}
use Rattle.std.proofs.lemmas.Bool.{cases_lt, cases_eq}
use Rattle.std.proofs.lemmas.List.{length-set, get_or_read, get_or-set_same, get_or-set_other, get_or_past, set_past}
use Rattle.gcd_plan.specs.declared.numbers.Blk.{Blk}
use Rattle.gcd_plan.specs.declared.numbers.Obj.{Obj}
use Rattle.gcd_lists.specs.ListsView.{list_at, place_of}
use Rattle.gcd_blockobj.specs.MarksView.{MarksView, with_ended}
use Rattle.gcd_group.specs.GroupsView.{GroupsView, count_at, due_at, with_notify, with_one_less, with_entered}
use Rattle.gcd_refinement.specs.MachineView.{MachineView, idle, block_at}
use Rattle.gcd_refinement.specs.declared.progress.BlockProgress.{BlockProgress}
use Rattle.gcd_refinement.specs.After.{with_block}
use Rattle.gcd_machine.specs.Steps.{all_let_go, closed_block, set_free, run_closed, made_cancelled}
use Rattle.gcd_machine.specs.Conditions.{CanBegin, CanPass, CanTakeOff, CanCloseOn, CanSubmit, HaveHomes, CanFire, CanEmpty, CanComeEmpty, CanLeave, CanRegister, CanStart, CanCloseBlock}
use Rattle.gcd_machine.proofs.Steps.Places.{waits_as_before}

-- ## Blocks

-- what is read of a block of the plan
pub block_read : (m : MachineView) (b : Blk) {read : BlockProgress} → read ≡ get_or m.blocks b.0 read → b.0 < length m.blocks → read ≡ block_at m b.0
block_read m b {read} is within = get_or_read m.blocks b.0 read within is idle

-- what is noted of a block but its home leaves all homes
pub homes_kept : (blocks : List BlockProgress) (b : ℕ) (noted : BlockProgress) → noted.home ≡ (get_or blocks b idle).home
    → (c : ℕ) → (get_or (set blocks b noted) c idle).home ≡ (get_or blocks c idle).home
homes_kept blocks b noted same c =
    ⊎_elim
    (λ (here : b ≡ c).
    subst (λ k. (get_or (set blocks b noted) k idle).home ≡ (get_or blocks k idle).home) here
    (⊎_elim
    (λ (low : b < length blocks). ap (λ x. x.home) (get_or-set_same blocks b noted idle low) ∙ same)
    (λ (high : length blocks ≤ b). ap (λ l. (get_or l b idle).home) (set_past blocks b noted high))
    (cases_lt b (length blocks))))
    (λ other. ap (λ x. x.home) (get_or-set_other blocks b c noted idle (λ e. other (sym e))))
    (cases_eq b c)

-- what is written is at most what is read back
written_few : (xs : List ℕ) (i n : ℕ) → get_or (set xs i n) i 0 ≤ n
written_few xs i n =
    ⊎_elim
    (λ (low : i < length xs). let e = get_or-set_same xs i n 0 low in omega (arith, e))
    (λ (high : length xs ≤ i). let e = ap (λ l. get_or l i 0) (set_past xs i n high) in let z = get_or_past xs i 0 high in omega (arith, e, z))
    (cases_lt i (length xs))

-- ## A block that starts or ends

-- whether a run may open says nothing of blocks
off_kept : {m : MachineView} {n : Obj} (blocks : List BlockProgress) (marks : MarksView) → CanTakeOff m n → CanTakeOff (record m { blocks = blocks; marks = marks }) n
off_kept blocks marks can = record {
  list = can.list;
  marked = can.marked;
  pending = record {
    source = can.pending.source;
    timer = can.pending.timer;
    handler = can.pending.handler;
    taken = can.pending.taken;
    room = can.pending.room;
  };
}

begin_kept : {m : MachineView} {n : Obj} {barrier : Bool} (blocks : List BlockProgress) (marks : MarksView) → CanBegin m n barrier → CanBegin (record m { blocks = blocks; marks = marks }) n barrier
begin_kept blocks marks can = record {
  off = off_kept blocks marks can.off;
  opens = record { node = can.opens.node; still = can.opens.still; runs = can.opens.runs };
  fenced = can.fenced;
  barriers = can.barriers;
}

pub may_take_off : (m : MachineView) {b : Blk} {read : BlockProgress} (blocks : List BlockProgress) (marks : MarksView) → read ≡ get_or m.blocks b.0 read → CanPass m b
    → (n : Obj) → read.node ≡ Some n → CanTakeOff (record m { blocks = blocks; marks = marks }) n
may_take_off m {b} {read} blocks marks is can = λ n at.
    off_kept blocks marks (can.node n (ap (λ (r : BlockProgress). r.node) (sym (block_read m b is can.blk)) ∙ at))

pub may_begin : (m : MachineView) {w : ℕ} {b : Blk} {read : BlockProgress} (blocks : List BlockProgress) (marks : MarksView) → read ≡ get_or m.blocks b.0 read → CanStart m w b
    → (n : Obj) → read.node ≡ Some n → CanBegin (record m { blocks = blocks; marks = marks }) n read.barrier
may_begin m {w} {b} {read} blocks marks is can = λ n at.
    let same = block_read m b is can.blk in
    begin_kept blocks marks (subst (λ (r : BlockProgress). CanBegin m n r.barrier) (sym same) (can.node n (ap (λ (r : BlockProgress). r.node) (sym same) ∙ at)))

pub may_close : (m : MachineView) {w : ℕ} {b : Blk} {read : BlockProgress} (ended : List Bool) (left : ℕ) (marks : MarksView) → read ≡ get_or m.blocks b.0 read → CanCloseBlock m w b
    → (n : Obj) → read.node ≡ Some n → CanCloseOn (record m { ended = ended; left = left; marks = marks }) n read.barrier
may_close m {w} {b} {read} ended left marks is can = λ n at.
    let same = block_read m b is can.blk in
    let on : CanCloseOn m n read.barrier = subst (λ (r : BlockProgress). CanCloseOn m n r.barrier) (sym same) (can.node n (ap (λ (r : BlockProgress). r.node) (sym same) ∙ at)) in
    record {
      closes = record { node = on.closes.node; is_open = on.closes.is_open };
      fenced = on.fenced;
      barriers = on.barriers;
    }

-- ## Groups

-- all that groups look at is the same, but that blocks may wake, and that less may be left
pub record SameForGroups (m : MachineView) (k : MachineView) : Type 0 where
  pub groups : k.groups ≡ m.groups
  pub sleepers : k.sleepers ≡ m.sleepers
  pub lists : k.lists ≡ m.lists
  pub blocks : k.blocks ≡ m.blocks
  pub busy : k.busy ≡ m.busy
  pub len : k.len ≡ m.len
  pub wakeable : length k.wakeable ≡ length m.wakeable
  pub ripe : length k.ripe ≡ length m.ripe
  pub left : k.left ≤ m.left

homes_same : {m k : MachineView} → SameForGroups m k → HaveHomes m → HaveHomes k
homes_same same have = record {
  homes = rw (same.blocks, same.lists) have.homes;
  nowhere = rw (same.groups, same.lists) have.nowhere;
  listed = rw (same.groups, same.lists) have.listed;
  blocks = rw (same.groups, same.blocks) have.blocks;
  marked = rw (same.busy, same.lists) have.marked;
}

pub leave_same : {m k : MachineView} {g : Obj} → SameForGroups m k → CanLeave m g → CanLeave k g
leave_same {m} {k} {g} same can =
    let may = can.comes_empty in
    let sleep = ap (λ s. length s.lists) same.sleepers in
    let listed = ap (λ s. s.blocks) same.sleepers in
    let notify = ap (λ s. length (list_at s.notify g.0)) same.groups in
    let count = ap (λ s. length s.counts) same.groups in
    record {
      counted = rw same.groups can.counted;
      comes_empty = record {
        group = omega (arith, count, may.group);
        position = omega (arith, same.len, may.position);
        wakes = record {
          object = omega (arith, sleep, may.wakes.object);
          blocks = omega (arith, listed, may.wakes.blocks, same.wakeable);
          ripe = omega (arith, listed, may.wakes.ripe, same.ripe);
        };
        homes = homes_same same may.homes;
        room = omega (arith, notify, same.left, may.room);
      };
    }

pub same_closed : (m : MachineView) (w : ℕ) (b : Blk) → SameForGroups m (closed_block m w b)
same_closed m w b = at (block_at m b.0).node
  where
    at : (node : Option Obj)
        → SameForGroups m (set_free (run_closed (record m { ended = set m.ended b.0 true; left = m.left - 1; marks = with_ended m.marks b.0 }) node (block_at m b.0).barrier) w)
    at None = record { groups = refl; sleepers = refl; lists = refl; blocks = refl; busy = refl; len = refl; wakeable = refl; ripe = refl; left = omega arith }
    at (Some n) = record { groups = refl; sleepers = refl; lists = refl; blocks = refl; busy = refl; len = refl; wakeable = refl; ripe = refl; left = omega arith }

-- a group that may come empty, in other groups with the same notify blocks
may_come_empty : {m : MachineView} {g : Obj} (groups : GroupsView) → groups.notify ≡ m.groups.notify → length groups.counts ≡ length m.groups.counts
    → due_at groups g.0 ≤ length (list_at m.groups.notify g.0) → CanComeEmpty m g → CanEmpty (record m { groups = groups }) g
may_come_empty groups notify counts few can = record {
  wakes = record { object = can.wakes.object; blocks = can.wakes.blocks; ripe = can.wakes.ripe };
  fires = record {
    group = omega (arith, counts, can.group);
    homes = record {
      homes = can.homes.homes;
      nowhere = rw notify can.homes.nowhere;
      listed = rw notify can.homes.listed;
      blocks = rw notify can.homes.blocks;
      marked = can.homes.marked;
    };
    room = omega (arith, few, can.room);
  };
}

-- where the last has left, all that are registered are due
all_due : (groups : GroupsView) (g at : ℕ) → count_at groups g ≡ 1 → due_at (with_one_less groups g at) g ≤ length (list_at groups.notify g)
all_due groups g at last =
    subst (λ v. get_or (cond v (set groups.due g (length (list_at groups.notify g))) groups.due) g 0 ≤ length (list_at groups.notify g)) (sym (eq-eqb (count_at groups g) 1 last))
    (written_few groups.due g (length (list_at groups.notify g)))

-- the group is empty after its last has ended, or left
pub may_empty : {m : MachineView} {g : Obj} {groups : GroupsView} → groups ≡ with_one_less m.groups g.0 (m.len + 1) → count_at m.groups g.0 ≡ 1
    → CanComeEmpty m g → CanEmpty (record m { groups = groups }) g
may_empty {m} {g} {groups} is last can =
    let left = with_one_less m.groups g.0 (m.len + 1) in
    subst (λ (r : GroupsView). CanEmpty (record m { groups = r }) g) (sym is)
    (may_come_empty left refl (length-set m.groups.counts g.0 (count_at m.groups g.0 - 1)) (all_due m.groups g.0 (m.len + 1) last) can)

pub may_empty_by_act : {m : MachineView} {g : Obj} {groups : GroupsView} (entered : ℕ) → groups ≡ with_entered (with_one_less m.groups g.0 (m.len + 1)) g.0 entered
    → count_at m.groups g.0 ≡ 1 → CanComeEmpty m g → CanEmpty (record m { groups = groups }) g
may_empty_by_act {m} {g} {groups} entered is last can =
    let left = with_entered (with_one_less m.groups g.0 (m.len + 1)) g.0 entered in
    subst (λ (r : GroupsView). CanEmpty (record m { groups = r }) g) (sym is)
    (may_come_empty left refl (length-set m.groups.counts g.0 (count_at m.groups g.0 - 1)) (all_due m.groups g.0 (m.len + 1) last) can)

-- who wakes at the group says nothing of what fires there
fire_kept : {m : MachineView} {g : Obj} → CanFire m g → CanFire (all_let_go m g) g
fire_kept can = record {
  group = can.group;
  homes = record {
    homes = can.homes.homes;
    nowhere = can.homes.nowhere;
    listed = can.homes.listed;
    blocks = can.homes.blocks;
    marked = can.homes.marked;
  };
  room = can.room;
}

pub may_fire : {m k : MachineView} {g : Obj} → k ≡ all_let_go m g → CanFire m g → CanFire k g
may_fire {m} {k} {g} is can = subst (λ n. CanFire n g) (sym is) (fire_kept can)

-- no more are due than are registered
notify_few : (groups : GroupsView) (g : ℕ) (b : Blk) → due_at groups g ≡ 0 → due_at (with_notify groups g b) g ≤ length (list_at groups.notify g) + 1
notify_few groups g b none =
    elim (count_at groups g == 0)
    as (λ v. get_or (cond v (set groups.due g (length (list_at groups.notify g) + 1)) groups.due) g 0 ≤ length (list_at groups.notify g) + 1) [
      | true ↦ written_few groups.due g (length (list_at groups.notify g) + 1)
      | false ↦ omega (arith, none)
    ]

-- a block that is registered has its home
fire_registered : {m : MachineView} {g q : Obj} {b : Blk} → CanRegister m g q b
    → CanFire (record m { blocks = with_block m.blocks b.0 (λ x. record x { home = q }); groups = with_notify m.groups g.0 b }) g
fire_registered {m} {g} {q} {b} can =
    let changed : BlockProgress = record (block_at m b.0) { home = q } in
    record {
      group = can.group;
      homes = record {
        homes = λ c.
            ⊎_elim
            (λ (same : b.0 ≡ c).
            let here : get_or (set m.blocks b.0 changed) c idle ≡ changed =
            subst (λ k. get_or (set m.blocks b.0 changed) k idle ≡ changed) same (get_or-set_same m.blocks b.0 changed idle can.blk) in
            rw here can.home)
            (λ other. rw (get_or-set_other m.blocks b.0 c changed idle (λ e. other (sym e))) (can.homes.homes c))
            (cases_eq b.0 c);
        nowhere = λ c some.
            ⊎_elim
            (λ (same : b.0 ≡ c). ap (place_of m.lists) (sym same) ∙ can.nowhere)
            (λ other. can.homes.nowhere c (sym (ap is_some (waits_as_before m.groups.notify g b false c other)) ∙ some))
            (cases_eq b.0 c);
        listed = can.homes.listed;
        blocks = rw length-set can.homes.blocks;
        marked = can.homes.marked;
      };
      room = let few = notify_few m.groups g.0 b can.fired in omega (arith, few, can.room);
    }

pub may_register : {m : MachineView} {g q : Obj} {b : Blk} {read : BlockProgress} {groups : GroupsView} → read ≡ get_or m.blocks b.0 read
    → groups ≡ with_notify m.groups g.0 b → CanRegister m g q b
    → CanFire (record m { blocks = set m.blocks b.0 (record read { home = q }); groups = groups }) g
may_register {m} {g} {q} {b} {read} {groups} read_is is can =
    let same = block_read m b read_is can.blk in
    subst (λ (r : BlockProgress). CanFire (record m { blocks = set m.blocks b.0 (record r { home = q }); groups = groups }) g) (sym same)
    (subst (λ (r : GroupsView). CanFire (record m { blocks = with_block m.blocks b.0 (λ x. record x { home = q }); groups = r }) g) (sym is)
    (fire_registered can))

-- ## Sources

-- a source that is cancelled may submit its cancellation block
pub may_submit_cancelled : {m k : MachineView} {s : Obj} {b : Blk} → k ≡ made_cancelled m s → CanSubmit m s b → CanSubmit k s b
may_submit_cancelled {m} {k} {s} {b} is can =
    subst (λ n. CanSubmit n s b) (sym is)
    (record { node = can.node; listed = can.listed; nowhere = can.nowhere; blk = can.blk; marked = can.marked; room = can.room })

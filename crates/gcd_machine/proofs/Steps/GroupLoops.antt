-- The turns of the two loops: what is left to do after a turn, with the turn done, is what was to do before it.
use Rattle.std.proofs.Common.{◌≡◌, ℕ, zero, suc, ◌-◌, ◌<◌, ◌≤◌, ◌==◌, Bool, false, cond, List, [], ◌∷◌, length, get_or, set, take, drop, map, Option, Some, None, is_some, option_map, ne_eqb, refl, ap, sym, ◌∙◌, subst, arith, ⊎_elim}
use Rattle.std.specs.List.{slice_get, fold}
use Rattle.std.proofs.lemmas.Bool.{cases_lt, cases_eq}
use Rattle.std.proofs.lemmas.List.{length-set, set-set, set-get_or, set_past, get_or_read, get_or-set_same, get_or-set_other, get_or_past}
use Rattle.std.proofs.lemmas.Option.{none-some, same_Some}
use Rattle.gcd_plan.specs.declared.numbers.Blk.{Blk}
use Rattle.gcd_plan.specs.declared.numbers.Obj.{Obj}
use Rattle.gcd_lists.specs.ListsView.{ListsView, list_at, place_of}
use Rattle.gcd_group.specs.GroupsView.{GroupsView, due_at, with_fired, fires_at}
use Rattle.gcd_refinement.specs.MachineView.{MachineView, block_at, idle}
use Rattle.gcd_refinement.specs.declared.progress.BlockProgress.{BlockProgress}
use Rattle.gcd_refinement.specs.After.{with_block, fired_times}
use Rattle.gcd_refinement.specs.AfterSleepers.{popped}
use Rattle.gcd_machine.specs.Steps.{all_over, let_go, all_let_go, submitted, fired_at, all_fired_at}
use Rattle.gcd_machine.specs.Conditions.{CanWakeAt, CanSubmit, HaveHomes, CanFire}
use Rattle.gcd_machine.proofs.Steps.Places.{waits_as_before, waited_before, first_waits}
use Rattle.gcd_machine.proofs.Steps.EmptyGroups.{none_fired_is}
use Rattle.gcd_refinement.proofs.Step.NodeMarks.{none_first}

-- ## Lists

-- what is written is read, past the end too where it is what is read there
pub read_back : {X : Type 0} (xs : List X) (i : ℕ) (y d : X) → (length xs ≤ i → d ≡ y) → get_or (set xs i y) i d ≡ y
read_back xs i y d past =
    ⊎_elim
    (λ (low : i < length xs). get_or-set_same xs i y d low)
    (λ (high : length xs ≤ i). ap (λ l. get_or l i d) (set_past xs i y high) ∙ (get_or_past xs i d high ∙ past high))
    (cases_lt i (length xs))

-- the rest of a list, where it is written back
pub rest_back : {X : Type 0} (lists : List (List X)) (i : ℕ) → get_or (set lists i (drop 1 (get_or lists i []))) i [] ≡ drop 1 (get_or lists i [])
rest_back lists i = read_back lists i (drop 1 (get_or lists i [])) [] (λ high. ap (drop 1) (sym (get_or_past lists i [] high)))

-- a list that has a first is that and the rest
pub first_and_rest : {X : Type 0} (xs : List X) (x : X) → slice_get xs 0 ≡ Some x → xs ≡ x ∷ drop 1 xs
first_and_rest [] x first = cc
first_and_rest (y ∷ xs) x first = ap (λ v. v ∷ xs) (same_Some y x first)

-- ## Wakes

-- the machine with other sleepers, where the waits of these blocks are over
abbrev with_sleepers : MachineView → List (List (Blk × Bool)) → List (Blk × Bool) → MachineView
with_sleepers m lists over = record (all_over m (map (λ v. v.0) over)) { sleepers = record m.sleepers { lists = lists } }

-- one block less sleeps at the object
abbrev pub without_first : MachineView → Obj → MachineView
without_first m o = record m { sleepers = popped m.sleepers (Some o) }

wake_same : (m : MachineView) (o : Obj) (w : Blk × Bool) → slice_get (list_at m.sleepers o.0) 0 ≡ Some w
    → all_let_go (let_go (without_first m o) w.0) o ≡ all_let_go m o
wake_same m o w first =
    let lists = m.sleepers.lists in
    let ws = list_at m.sleepers o.0 in
    let a = set-set lists o.0 (drop 1 ws) [] in
    let b = ap (λ vs. w ∷ vs) (rest_back lists o.0) ∙ sym (first_and_rest ws w first) in
    ap (λ l. with_sleepers m l (w ∷ get_or (set lists o.0 (drop 1 ws)) o.0 [])) a ∙ ap (with_sleepers m (set lists o.0 [])) b

wake_goes_on : (m : MachineView) (o : Obj) (b : Blk) → CanWakeAt m o → CanWakeAt (let_go (without_first m o) b) o
wake_goes_on m o b can = record {
  object = rw length-set can.object;
  blocks = rw length-set can.blocks;
  ripe = rw length-set can.ripe;
}

-- what is left to do makes of the machine what was to be made of it in the beginning
pub record Waking (m : MachineView) (first : MachineView) (o : Obj) : Type 0 where
  pub can : CanWakeAt m o
  pub same : all_let_go m o ≡ all_let_go first o

pub wake_turn : {m first next : MachineView} {o : Obj} {w : Blk × Bool} {rest : ListsView} → Some w ≡ slice_get (list_at m.sleepers o.0) 0
    → rest ≡ popped m.sleepers (Some o) → next ≡ let_go (record m { sleepers = rest }) w.0 → Waking m first o → Waking next first o
wake_turn {m} {first} {next} {o} {w} {rest} head popped_is next_is waking =
    let is : next ≡ let_go (without_first m o) w.0 = next_is ∙ ap (λ l. let_go (record m { sleepers = l }) w.0) popped_is in
    subst (λ n. Waking n first o) (sym is)
    (record {
      can = wake_goes_on m o w.0 waking.can;
      same = wake_same m o w (sym head) ∙ waking.same;
    })

-- nobody is left
pub wake_end : (m : MachineView) (o : Obj) → slice_get (list_at m.sleepers o.0) 0 ≡ None → all_let_go m o ≡ m
wake_end m o none =
    let lists = m.sleepers.lists in
    let empty = none_first (list_at m.sleepers o.0) none in
    ap (with_sleepers m (set lists o.0 [])) empty
    ∙ (ap (λ ws. with_sleepers m (set lists o.0 ws) []) (sym empty)
    ∙ ap (λ l. with_sleepers m l []) (set-get_or lists o.0 []))

pub wake_over : {m first : MachineView} {o : Obj} {rest : ListsView} → None ≡ slice_get (list_at m.sleepers o.0) 0 → rest ≡ popped m.sleepers (Some o) → Waking m first o
    → ◌≡◌ {A = MachineView} (record m { sleepers = rest }) (all_let_go first o)
wake_over {m} {first} {o} {rest} none rest_is waking =
    let lists = m.sleepers.lists in
    let empty = none_first (list_at m.sleepers o.0) (sym none) in
    let back = ap (λ ws. set lists o.0 (drop 1 ws)) empty ∙ (ap (set lists o.0) (sym empty) ∙ set-get_or lists o.0 []) in
    ap (λ (l : ListsView). record m { sleepers = l }) rest_is
    ∙ (ap (λ l. record m { sleepers = record m.sleepers { lists = l } }) back ∙ (sym (wake_end m o (sym none)) ∙ waking.same))

-- ## Notify blocks

-- one notify block less is due
abbrev pub with_one_fired : MachineView → Obj → MachineView
with_one_fired m g = record m { groups = with_fired m.groups g.0 }

-- where submissions look, groups are not
groups_apart : (m : MachineView) (groups last : GroupsView) (bs : List Blk)
    → ◌≡◌ {A = MachineView} (record (fold fired_at (record m { groups = groups }) bs) { groups = last }) (record (fold fired_at m bs) { groups = last })
groups_apart m groups last [] = refl
groups_apart m groups last (b ∷ bs) = groups_apart (fired_at m b) groups last bs

-- a block that fires is the first, and some are due
pub record Fires (groups : GroupsView) (g : ℕ) (b : Blk) : Type 0 where
  pub flag : Bool
  pub more : ℕ
  pub due : due_at groups g ≡ suc more
  pub head : slice_get (list_at groups.notify g) 0 ≡ Some (b, flag)

fires : (groups : GroupsView) (g : ℕ) (b : Blk) → Some b ≡ fires_at groups g → Fires groups g b
fires groups g b some = at (due_at groups g) refl (slice_get (list_at groups.notify g) 0) refl some
  where
    at : (n : ℕ) → due_at groups g ≡ n → (o : Option (Blk × Bool)) → slice_get (list_at groups.notify g) 0 ≡ o
        → Some b ≡ cond (n == 0) None (option_map (λ w. w.0) o) → Fires groups g b
    at zero due o head is = absurd (none-some b (sym is))
    at (suc n) due o head is = on o head (is ∙ ap (λ v. cond v None (option_map (λ (w : Blk × Bool). w.0) o)) (ne_eqb (suc n) 0 (λ e. omega (arith, e))))
      where
        on : (o : Option (Blk × Bool)) → slice_get (list_at groups.notify g) 0 ≡ o → Some b ≡ option_map (λ w. w.0) o → Fires groups g b
        on None head is = absurd (none-some b (sym is))
        on (Some w) head is = record {
          flag = w.1;
          more = n;
          due = due;
          head = head ∙ ap (λ c. Some (c, w.1)) (sym (same_Some b w.0 is));
        }

-- what is left to do makes of the machine what was to be made of it in the beginning
pub record Firing (m : MachineView) (first : MachineView) (g : Obj) : Type 0 where
  pub can : CanFire m g
  pub same : all_fired_at m g ≡ all_fired_at first g

-- one less is due afterwards
due_after : (groups : GroupsView) (g n : ℕ) → due_at groups g ≡ suc n → due_at (with_fired groups g) g ≡ n
due_after groups g n due =
    let r : due_at (with_fired groups g) g ≡ due_at groups g - 1 = read_back groups.due g (due_at groups g - 1) 0 (λ high. let z = get_or_past groups.due g 0 high in omega (arith, z, due)) in
    omega (arith, r, due)

fire_same : (m : MachineView) (g : Obj) (b : Blk) → Fires m.groups g.0 b → all_fired_at (fired_at (with_one_fired m g) b) g ≡ all_fired_at m g
fire_same m g b f =
    let ws = list_at m.groups.notify g.0 in
    let rest = with_fired m.groups g.0 in
    let made : ℕ → List (Blk × Bool) → GroupsView → MachineView = λ n vs groups.
    record (fold fired_at (fired_at m b) (map (λ w. w.0) (take n vs))) { groups = fired_times n groups g.0 } in
    let left : ℕ → List (Blk × Bool) → MachineView = λ n vs.
    record (fold fired_at (fired_at (with_one_fired m g) b) (map (λ w. w.0) (take n vs))) { groups = fired_times n rest g.0 } in
    let whole : ℕ → List (Blk × Bool) → MachineView = λ n vs.
    record (fold fired_at m (map (λ w. w.0) (take n vs))) { groups = fired_times n m.groups g.0 } in
    let a = ap (λ n. left n (list_at rest.notify g.0)) (due_after m.groups g.0 f.more f.due) in
    let b1 = ap (left f.more) (rest_back m.groups.notify.lists g.0) in
    let c = groups_apart (fired_at m b) rest (fired_times f.more rest g.0) (map (λ w. w.0) (take f.more (drop 1 ws))) in
    let d = ap (whole (suc f.more)) (sym (first_and_rest ws (b, f.flag) f.head)) in
    let e = ap (λ n. whole n ws) (sym f.due) in
    a ∙ (b1 ∙ (c ∙ (d ∙ e)))

-- the homes stand, whatever is noted of a block but its home
pub home_kept : (blocks : List BlockProgress) (b c : ℕ) (n : Option Obj) (barrier : Bool)
    → (get_or (with_block blocks b (λ x. record x { node = n; barrier = barrier })) c idle).home ≡ (get_or blocks c idle).home
home_kept blocks b c n barrier =
    ⊎_elim
    (λ (same : b ≡ c).
    subst (λ k. (get_or (with_block blocks b (λ x. record x { node = n; barrier = barrier })) k idle).home ≡ (get_or blocks k idle).home) same
    (⊎_elim
    (λ (low : b < length blocks). ap (λ x. x.home) (get_or-set_same blocks b (record (get_or blocks b idle) { node = n; barrier = barrier }) idle low))
    (λ (high : length blocks ≤ b). ap (λ l. (get_or l b idle).home) (set_past blocks b (record (get_or blocks b idle) { node = n; barrier = barrier }) high))
    (cases_lt b (length blocks))))
    (λ other. ap (λ x. x.home) (get_or-set_other blocks b c (record (get_or blocks b idle) { node = n; barrier = barrier }) idle (λ e. other (sym e))))
    (cases_eq b c)

-- what is read of the block has its home
home_read : {m : MachineView} {b : Blk} {read : BlockProgress} → b.0 < m.groups.notify.blocks → read ≡ get_or m.blocks b.0 read → HaveHomes m
    → read.home ≡ (block_at m b.0).home
home_read {m} {b} {read} within read_is have = ap (λ x. x.home) (get_or_read m.blocks b.0 read (omega (arith, within, have.blocks)) read_is idle)

-- who is due waits on no node
fire_can_submit : (m : MachineView) (g : Obj) (b : Blk) (rest : GroupsView) → Fires m.groups g.0 b → b.0 < m.groups.notify.blocks → CanFire m g
    → CanSubmit (record m { groups = rest }) (block_at m b.0).home b
fire_can_submit m g b rest f within can = record {
  node = can.homes.homes b.0;
  listed = omega (arith, within, can.homes.listed);
  nowhere = can.homes.nowhere b.0 (first_waits m.groups.notify g.0 (b, f.flag) f.head);
  blk = omega (arith, within, can.homes.blocks);
  marked = omega (arith, can.homes.homes b.0, can.homes.marked);
  room = omega (arith, f.due, can.room);
}

pub fire_may_submit : {m first : MachineView} {g : Obj} {b : Blk} {read : BlockProgress} {rest : GroupsView} → Some b ≡ fires_at m.groups g.0
    → b.0 < m.groups.notify.blocks → read ≡ get_or m.blocks b.0 read → Firing m first g → CanSubmit (record m { groups = rest }) read.home b
fire_may_submit {m} {first} {g} {b} {read} {rest} some within read_is firing =
    subst (λ h. CanSubmit (record m { groups = rest }) h b) (sym (home_read {m = m} within read_is firing.can.homes))
    (fire_can_submit m g b rest (fires m.groups g.0 b some) within firing.can)

fire_homes : (m : MachineView) (g : Obj) (b : Blk) → place_of (with_fired m.groups g.0).notify b.0 ≡ None → HaveHomes m → HaveHomes (fired_at (with_one_fired m g) b)
fire_homes m g b gone have =
    let home = (block_at m b.0).home in
    record {
      homes = λ c. rw (home_kept m.blocks b.0 c (Some home) false, length-set) (have.homes c);
      nowhere = λ c some.
          ⊎_elim
          (λ (same : b.0 ≡ c). let e = ap (λ k. is_some (place_of (with_fired m.groups g.0).notify k)) same in let z = ap is_some gone in cc)
          (λ other. waits_as_before m.lists home b false c other ∙ have.nowhere c (waited_before m.groups.notify g c some))
          (cases_eq b.0 c);
      listed = have.listed;
      blocks = rw length-set have.blocks;
      marked = rw (length-set, length-set) have.marked;
    }

fire_goes_on : (m : MachineView) (g : Obj) (b : Blk) → Fires m.groups g.0 b → place_of (with_fired m.groups g.0).notify b.0 ≡ None → CanFire m g
    → CanFire (fired_at (with_one_fired m g) b) g
fire_goes_on m g b f gone can = record {
  group = can.group;
  homes = fire_homes m g b gone can.homes;
  room = let d = due_after m.groups g.0 f.more f.due in let r = can.room in omega (arith, d, r, f.due);
}

pub fire_turn : {m first next : MachineView} {g : Obj} {b : Blk} {read : BlockProgress} {rest : GroupsView} → Some b ≡ fires_at m.groups g.0
    → rest ≡ with_fired m.groups g.0 → place_of rest.notify b.0 ≡ None → b.0 < m.groups.notify.blocks → read ≡ get_or m.blocks b.0 read
    → next ≡ submitted (record m { groups = rest }) read.home b false → Firing m first g → Firing next first g
fire_turn {m} {first} {next} {g} {b} {read} {rest} some rest_is gone within read_is next_is firing =
    let f = fires m.groups g.0 b some in
    let is : next ≡ fired_at (with_one_fired m g) b =
    next_is ∙ (ap (λ h. submitted (record m { groups = rest }) h b false) (home_read {m = m} within read_is firing.can.homes)
    ∙ ap (λ (r : GroupsView). fired_at (record m { groups = r }) b) rest_is) in
    subst (λ n. Firing n first g) (sym is)
    (record {
      can = fire_goes_on m g b f (subst (λ (r : GroupsView). place_of r.notify b.0 ≡ None) rest_is gone) firing.can;
      same = fire_same m g b f ∙ firing.same;
    })

pub fire_end : {m first : MachineView} {g : Obj} {rest : GroupsView} → rest ≡ m.groups → due_at m.groups g.0 ≡ 0 → Firing m first g
    → ◌≡◌ {A = MachineView} (record m { groups = rest }) (all_fired_at first g)
fire_end {m} {first} {g} {rest} rest_is none firing =
    ap (λ (r : GroupsView). record m { groups = r }) rest_is ∙ (sym (none_fired_is m g none) ∙ firing.same)

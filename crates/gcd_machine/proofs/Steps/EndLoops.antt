-- The loop that submits what waits for the end of a block: what is left to do after a turn, with the turn done, is what was to do
-- before it. And the loop that lets go who waits for that end.
use Rattle.std.proofs.Common.{◌≡◌, ⊎_elim, ℕ, ◌+◌, ◌<◌, Bool, true, false, cond, List, [], ◌∷◌, length, get_or, set, drop, map, Option, Some, None, is_some, option_map, refl, ap, sym, ◌∙◌, subst, arith}
use Rattle.std.specs.List.{slice_get, fold}
use Rattle.std.proofs.lemmas.Bool.{cases_eq}
use Rattle.std.proofs.lemmas.List.{length-set, set-set, set-get_or, get_or_read}
use Rattle.std.proofs.lemmas.Option.{none-some, same_Some}
use Rattle.gcd_plan.specs.declared.numbers.Blk.{Blk}
use Rattle.gcd_plan.specs.declared.numbers.Obj.{Obj}
use Rattle.gcd_lists.specs.ListsView.{ListsView, list_at, place_of}
use Rattle.gcd_blockobj.specs.MarksView.{MarksView, has_ended_at, with_fired, fires_at}
use Rattle.gcd_refinement.specs.MachineView.{MachineView, block_at, idle}
use Rattle.gcd_refinement.specs.declared.progress.BlockProgress.{BlockProgress}
use Rattle.gcd_refinement.specs.AfterSleepers.{popped}
use Rattle.gcd_refinement.specs.AfterStrips.{all_told}
use Rattle.gcd_refinement.proofs.Step.NodeMarks.{none_first}
use Rattle.gcd_machine.specs.Steps.{all_over, let_go, submitted, fired_at, told_at, waiters_let_go}
use Rattle.gcd_machine.specs.Conditions.{CanSubmit, CanLeave, CanLeaveTold, CanTell, HaveHomes, HaveHomesAtEnd, CanLetWaitersGo}
use Rattle.gcd_machine.proofs.Steps.Places.{waits_as_before, waited_before, first_waits}
use Rattle.gcd_machine.proofs.Steps.GroupLoops.{rest_back, first_and_rest, home_kept}

-- ## Notify blocks

-- one block less waits for the end of block b
abbrev pub with_one_told : MachineView → Blk → MachineView
with_one_told m b = record m { marks = with_fired m.marks b.0 }

-- where submissions look, marks are not
marks_apart : (m : MachineView) (marks last : MarksView) (bs : List Blk)
    → ◌≡◌ {A = MachineView} (record (fold fired_at (record m { marks = marks }) bs) { marks = last }) (record (fold fired_at m bs) { marks = last })
marks_apart m marks last [] = refl
marks_apart m marks last (b ∷ bs) = marks_apart (fired_at m b) marks last bs

-- a block that is told is the first, and block b has ended
pub record TellsOne (marks : MarksView) (b : ℕ) (c : Blk) : Type 0 where
  pub flag : Bool
  pub ended : has_ended_at marks b ≡ true
  pub head : slice_get (list_at marks.notify b) 0 ≡ Some (c, flag)

pub tells : (marks : MarksView) (b : ℕ) (c : Blk) → Some c ≡ fires_at marks b → TellsOne marks b c
tells marks b c some = at (has_ended_at marks b) refl (slice_get (list_at marks.notify b) 0) refl some
  where
    at : (t : Bool) → has_ended_at marks b ≡ t → (o : Option (Blk × Bool)) → slice_get (list_at marks.notify b) 0 ≡ o
        → Some c ≡ cond t (option_map (λ w. w.0) o) None → TellsOne marks b c
    at false ended o head is = absurd (none-some c (sym is))
    at true ended None head is = absurd (none-some c (sym is))
    at true ended (Some w) head is = record {
      flag = w.1;
      ended = ended;
      head = head ∙ ap (λ k. Some (k, w.1)) (sym (same_Some c w.0 is));
    }

-- the list is that block and the rest
told_first : (m : MachineView) (b c : Blk) (f : TellsOne m.marks b.0 c) → list_at m.marks.notify b.0 ≡ (c, f.flag) ∷ drop 1 (list_at m.marks.notify b.0)
told_first m b c f = first_and_rest (list_at m.marks.notify b.0) (c, f.flag) f.head

-- one is left less
pub fewer_told : (m : MachineView) (b c : Blk) → TellsOne m.marks b.0 c → length (list_at (with_fired m.marks b.0).notify b.0) + 1 ≡ length (list_at m.marks.notify b.0)
fewer_told m b c f =
    let rest = ap length (rest_back m.marks.notify.lists b.0) in
    let all = ap length (told_first m b c f) in
    omega (arith, rest, all)

tell_same : (m : MachineView) (b c : Blk) → TellsOne m.marks b.0 c → told_at (fired_at (with_one_told m b) c) b ≡ told_at m b
tell_same m b c f =
    let ws = list_at m.marks.notify b.0 in
    let rest = with_fired m.marks b.0 in
    let next = fired_at (with_one_told m b) c in
    let made : List (Blk × Bool) → MarksView → MachineView = λ vs last. record (fold fired_at next (map (λ w. w.0) vs)) { marks = last } in
    let whole : List (Blk × Bool) → MachineView = λ vs. record (fold fired_at m (map (λ w. w.0) vs)) { marks = all_told m.marks b.0 } in
    let with_lists : List (List (Blk × Bool)) → MarksView = λ l. record m.marks { notify = record m.marks.notify { lists = l } } in
    ap (λ t. cond t (made (list_at rest.notify b.0) (all_told rest b.0)) next) f.ended
    ∙ (ap (λ vs. made vs (all_told rest b.0)) (rest_back m.marks.notify.lists b.0)
    ∙ (ap (λ l. made (drop 1 ws) (with_lists l)) (set-set m.marks.notify.lists b.0 (drop 1 ws) [])
    ∙ (marks_apart (fired_at m c) rest (all_told m.marks b.0) (map (λ w. w.0) (drop 1 ws))
    ∙ (ap whole (sym (told_first m b c f))
    ∙ sym (ap (λ t. cond t (whole ws) m) f.ended)))))

-- what is read of the block has its home
home_read : {m : MachineView} {c : Blk} {read : BlockProgress} → c.0 < m.marks.notify.blocks → read ≡ get_or m.blocks c.0 read → HaveHomesAtEnd m
    → read.home ≡ (block_at m c.0).home
home_read {m} {c} {read} within is have = ap (λ x. x.home) (get_or_read m.blocks c.0 read (omega (arith, within, have.blocks)) is idle)

-- who is told waits on no node
tell_can_submit : (m : MachineView) (b c : Blk) (rest : MarksView) → TellsOne m.marks b.0 c → c.0 < m.marks.notify.blocks → CanTell m b
    → CanSubmit (record m { marks = rest }) (block_at m c.0).home c
tell_can_submit m b c rest f within can = record {
  node = can.homes.homes c.0;
  listed = omega (arith, within, can.homes.listed);
  nowhere = can.homes.nowhere c.0 (first_waits m.marks.notify b.0 (c, f.flag) f.head);
  blk = omega (arith, within, can.homes.blocks);
  marked = omega (arith, can.homes.homes c.0, can.homes.marked);
  room = let fewer = fewer_told m b c f in omega (arith, fewer, can.room);
}

tell_homes : (m : MachineView) (b c : Blk) → place_of (with_fired m.marks b.0).notify c.0 ≡ None → HaveHomesAtEnd m → HaveHomesAtEnd (fired_at (with_one_told m b) c)
tell_homes m b c gone have =
    let home = (block_at m c.0).home in
    record {
      homes = λ k. rw (home_kept m.blocks c.0 k (Some home) false, length-set) (have.homes k);
      nowhere = λ k some.
          ⊎_elim
          (λ (same : c.0 ≡ k). let e = ap (λ n. is_some (place_of (with_fired m.marks b.0).notify n)) same in let z = ap is_some gone in cc)
          (λ other. waits_as_before m.lists home c false k other ∙ have.nowhere k (waited_before m.marks.notify (record { 0 = b.0 }) k some))
          (cases_eq c.0 k);
      listed = have.listed;
      blocks = rw length-set have.blocks;
      marked = rw (length-set, length-set) have.marked;
    }

tell_goes_on : (m : MachineView) (b c : Blk) → TellsOne m.marks b.0 c → place_of (with_fired m.marks b.0).notify c.0 ≡ None → CanTell m b
    → CanTell (fired_at (with_one_told m b) c) b
tell_goes_on m b c f gone can = record {
  homes = tell_homes m b c gone can.homes;
  room = let fewer = fewer_told m b c f in let room = can.room in omega (arith, fewer, room);
}

-- the notify blocks of a group are others
leave_homes : (m : MachineView) (b c : Blk) (f : TellsOne m.marks b.0 c) → ((k : ℕ) → is_some (place_of m.marks.notify k) ≡ true → place_of m.groups.notify k ≡ None) → HaveHomes m → HaveHomes (fired_at (with_one_told m b) c)
leave_homes m b c f apart have =
    let home = (block_at m c.0).home in
    let none = apart c.0 (first_waits m.marks.notify b.0 (c, f.flag) f.head) in
    record {
      homes = λ k. rw (home_kept m.blocks c.0 k (Some home) false, length-set) (have.homes k);
      nowhere = λ k some.
          ⊎_elim
          (λ (same : c.0 ≡ k). let e = ap (λ n. is_some (place_of m.groups.notify n)) same in let z = ap is_some none in cc)
          (λ other. waits_as_before m.lists home c false k other ∙ have.nowhere k some)
          (cases_eq c.0 k);
      listed = have.listed;
      blocks = rw length-set have.blocks;
      marked = rw (length-set, length-set) have.marked;
    }

leave_goes_on : (m : MachineView) (b c : Blk) (g : Obj) → TellsOne m.marks b.0 c → CanLeaveTold m b g → CanLeaveTold (fired_at (with_one_told m b) c) b g
leave_goes_on m b c g f can =
    let fewer = fewer_told m b c f in
    let room = can.room in
    let may = can.leaves.comes_empty in
    record {
      leaves = record {
        counted = can.leaves.counted;
        comes_empty = record {
          group = may.group;
          position = may.position;
          wakes = record { object = may.wakes.object; blocks = may.wakes.blocks; ripe = may.wakes.ripe };
          homes = leave_homes m b c f can.apart may.homes;
          room = omega (arith, fewer, room);
        };
      };
      apart = λ k some. can.apart k (waited_before m.marks.notify (record { 0 = b.0 }) k some);
      room = omega (arith, fewer, room);
    }

-- what is left to do makes of the machine what was to be made of it in the beginning
pub record Telling (m : MachineView) (first : MachineView) (b : Blk) : Type 0 where
  pub can : CanTell m b
  pub same : told_at m b ≡ told_at first b
  pub leaves : (g : Obj) → CanLeaveTold first b g → CanLeaveTold m b g

pub tell_may_submit : {m first : MachineView} {b c : Blk} {read : BlockProgress} {rest : MarksView} → Some c ≡ fires_at m.marks b.0
    → c.0 < m.marks.notify.blocks → read ≡ get_or m.blocks c.0 read → Telling m first b → CanSubmit (record m { marks = rest }) read.home c
tell_may_submit {m} {first} {b} {c} {read} {rest} some within is telling =
    subst (λ h. CanSubmit (record m { marks = rest }) h c) (sym (home_read {m = m} within is telling.can.homes))
    (tell_can_submit m b c rest (tells m.marks b.0 c some) within telling.can)

pub tell_turn : {m first next : MachineView} {b c : Blk} {read : BlockProgress} {rest : MarksView} → Some c ≡ fires_at m.marks b.0
    → rest ≡ with_fired m.marks b.0 → place_of rest.notify c.0 ≡ None → c.0 < m.marks.notify.blocks → read ≡ get_or m.blocks c.0 read
    → next ≡ submitted (record m { marks = rest }) read.home c false → Telling m first b → Telling next first b
tell_turn {m} {first} {next} {b} {c} {read} {rest} some rest_is gone within is next_is telling =
    let f = tells m.marks b.0 c some in
    let made : next ≡ fired_at (with_one_told m b) c =
    next_is ∙ (ap (λ h. submitted (record m { marks = rest }) h c false) (home_read {m = m} within is telling.can.homes)
    ∙ ap (λ (r : MarksView). fired_at (record m { marks = r }) c) rest_is) in
    subst (λ n. Telling n first b) (sym made)
    (record {
      can = tell_goes_on m b c f (subst (λ (r : MarksView). place_of r.notify c.0 ≡ None) rest_is gone) telling.can;
      same = tell_same m b c f ∙ telling.same;
      leaves = λ g can. leave_goes_on m b c g f (telling.leaves g can);
    })

-- fewer are left
pub tell_fewer : (m next : MachineView) (b c : Blk) (home : Obj) {rest : MarksView} → Some c ≡ fires_at m.marks b.0
    → rest ≡ with_fired m.marks b.0 → next ≡ submitted (record m { marks = rest }) home c false
    → length (list_at next.marks.notify b.0) < length (list_at m.marks.notify b.0)
tell_fewer m next b c home {rest} some rest_is next_is =
    let fewer = fewer_told m b c (tells m.marks b.0 c some) in
    let now : length (list_at next.marks.notify b.0) ≡ length (list_at rest.notify b.0) = ap (λ (n : MachineView). length (list_at n.marks.notify b.0)) next_is in
    let here : length (list_at rest.notify b.0) ≡ length (list_at (with_fired m.marks b.0).notify b.0) = ap (λ (r : MarksView). length (list_at r.notify b.0)) rest_is in
    omega (arith, fewer, now, here)

-- nobody is left to be told
none_told_is : (m : MachineView) (b : Blk) → fires_at m.marks b.0 ≡ None → told_at m b ≡ m
none_told_is m b none = at (has_ended_at m.marks b.0) (slice_get (list_at m.marks.notify b.0) 0) refl none
  where
    whole : MachineView
    whole = record (fold fired_at m (map (λ w. w.0) (list_at m.marks.notify b.0))) { marks = all_told m.marks b.0 }

    at : (t : Bool) (o : Option (Blk × Bool)) → slice_get (list_at m.marks.notify b.0) 0 ≡ o → cond t (option_map (λ w. w.0) o) None ≡ None → cond t whole m ≡ m
    at false o head is = refl
    at true (Some w) head is = cc
    at true None head is =
        let lists = m.marks.notify.lists in
        let empty = none_first (list_at m.marks.notify b.0) head in
        ap (λ (vs : List (Blk × Bool)). record (fold fired_at m (map (λ w. w.0) vs)) { marks = all_told m.marks b.0 }) empty
        ∙ ap (λ l. record m { marks = record m.marks { notify = record m.marks.notify { lists = l } } }) (ap (set lists b.0) (sym empty) ∙ set-get_or lists b.0 [])

pub tell_end : {m first : MachineView} {b : Blk} {rest : MarksView} → rest ≡ m.marks → None ≡ fires_at m.marks b.0 → Telling m first b
    → ◌≡◌ {A = MachineView} (record m { marks = rest }) (told_at first b)
tell_end {m} {first} {b} {rest} rest_is none telling =
    ap (λ (r : MarksView). record m { marks = r }) rest_is ∙ (sym (none_told_is m b (sym none)) ∙ telling.same)

pub tell_leaves : {m first : MachineView} {b : Blk} {rest : MarksView} → rest ≡ m.marks → Telling m first b → (g : Obj) → CanLeaveTold first b g → CanLeave (record m { marks = rest }) g
tell_leaves {m} {first} {b} {rest} rest_is telling g can =
    subst (λ (r : MarksView). CanLeave (record m { marks = r }) g) (sym rest_is) (telling.leaves g can).leaves

-- ## Who waits for the end

-- the machine with other lists of those that wait, where the waits of these blocks are over
abbrev with_waiters : MachineView → List (List (Blk × Bool)) → List (Blk × Bool) → MachineView
with_waiters m lists over = record (all_over m (map (λ v. v.0) over)) { waiters = record m.waiters { lists = lists } }

-- one block less waits
abbrev without_waiter : MachineView → Blk → MachineView
without_waiter m b = record m { waiters = popped m.waiters (Some (record { 0 = b.0 })) }

let_same : (m : MachineView) (b : Blk) (w : Blk × Bool) → slice_get (list_at m.waiters b.0) 0 ≡ Some w
    → waiters_let_go (let_go (without_waiter m b) w.0) b ≡ waiters_let_go m b
let_same m b w first =
    let lists = m.waiters.lists in
    let ws = list_at m.waiters b.0 in
    let a = set-set lists b.0 (drop 1 ws) [] in
    let e = ap (λ vs. w ∷ vs) (rest_back lists b.0) ∙ sym (first_and_rest ws w first) in
    ap (λ l. with_waiters m l (w ∷ get_or (set lists b.0 (drop 1 ws)) b.0 [])) a ∙ ap (with_waiters m (set lists b.0 [])) e

-- what is left to do makes of the machine what was to be made of it in the beginning
pub record Letting (m : MachineView) (first : MachineView) (b : Blk) : Type 0 where
  pub list : b.0 < length m.waiters.lists
  pub can : CanLetWaitersGo m
  pub same : waiters_let_go m b ≡ waiters_let_go first b

pub let_turn : {m first next : MachineView} {b : Blk} {w : Blk × Bool} {rest : ListsView} → Some w ≡ slice_get (list_at m.waiters b.0) 0
    → rest ≡ popped m.waiters (Some (record { 0 = b.0 })) → next ≡ let_go (record m { waiters = rest }) w.0 → Letting m first b → Letting next first b
let_turn {m} {first} {next} {b} {w} {rest} head popped_is next_is letting =
    let is : next ≡ let_go (without_waiter m b) w.0 = next_is ∙ ap (λ l. let_go (record m { waiters = l }) w.0) popped_is in
    subst (λ n. Letting n first b) (sym is)
    (record {
      list = rw length-set letting.list;
      can = record { blocks = rw length-set letting.can.blocks; ripe = rw length-set letting.can.ripe };
      same = let_same m b w (sym head) ∙ letting.same;
    })

-- nobody is left
let_none : (m : MachineView) (b : Blk) → list_at m.waiters b.0 ≡ [] → waiters_let_go m b ≡ m
let_none m b empty =
    let lists = m.waiters.lists in
    ap (with_waiters m (set lists b.0 [])) empty
    ∙ (ap (λ ws. with_waiters m (set lists b.0 ws) []) (sym empty)
    ∙ ap (λ l. with_waiters m l []) (set-get_or lists b.0 []))

pub let_end : {m first : MachineView} {b : Blk} {rest : ListsView} → None ≡ slice_get (list_at m.waiters b.0) 0 → rest ≡ popped m.waiters (Some (record { 0 = b.0 })) → Letting m first b
    → ◌≡◌ {A = MachineView} (record m { waiters = rest }) (waiters_let_go first b)
let_end {m} {first} {b} {rest} none rest_is letting =
    let lists = m.waiters.lists in
    let empty = none_first (list_at m.waiters b.0) (sym none) in
    let back = ap (λ ws. set lists b.0 (drop 1 ws)) empty ∙ (ap (set lists b.0) (sym empty) ∙ set-get_or lists b.0 []) in
    ap (λ (l : ListsView). record m { waiters = l }) rest_is
    ∙ (ap (λ l. record m { waiters = record m.waiters { lists = l } }) back ∙ (sym (let_none m b empty) ∙ letting.same))

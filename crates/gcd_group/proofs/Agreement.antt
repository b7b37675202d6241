-- That the counts of notify blocks agree with the lists after each change.
use Rattle.std.proofs.Common.{◌≡◌, ◌≢◌, ℕ, ◌+◌, ◌-◌, ◌≤◌, ◌<◌, ◌^◌, false, List, [], ◌∷◌, ◌++◌, length, get_or, set, drop, inl, inr, ap, sym, ◌∙◌, subst, arith}
use Rattle.std.specs.Prelude.{slice_index, slice_set}
use Rattle.std.proofs.lemmas.Bool.{cases_eq}
use Rattle.std.proofs.lemmas.List.{length-set, get_or-set_same, get_or-set_other, length_push, length-drop}
use Rattle.gcd_plan.specs.declared.numbers.Blk.{Blk}
use Rattle.gcd_lists.specs.ListsView.{ListsView, list_at}
use Rattle.gcd_group.specs.GroupsView.{GroupsView, due_at}
use Rattle.gcd_group.specs.CountsAgree.{CountsAgree}

-- what holds at each number of a list holds of it with another element, where it holds of that
everywhere : {X : Type 0} (P : ℕ → X → Type 0) (xs : List X) (i : ℕ) (y d : X) → i < length xs → P i y
    → ((j : ℕ) → j ≢ i → P j (get_or xs j d)) → (j : ℕ) → P j (get_or (set xs i y) j d)
everywhere P xs i y d lt here others j =
    elim (cases_eq j i) [
      | inl e ↦ subst (λ k. P k (get_or (set xs i y) k d)) (sym e) (subst (P i) (sym (get_or-set_same xs i y d lt)) here)
      | inr ne ↦ subst (P j) (sym (get_or-set_other xs i j y d ne)) (others j ne)
    ]

-- one more of a group's notify blocks can be counted, where it waits behind them in lists that are no longer than there are
-- blocks
pub room_for_one : (view : GroupsView) (registered : List ℕ) (g : ℕ) (b : Blk) (pushed : ListsView) → CountsAgree view registered
    → g < length view.counts
    → pushed ≡ record view.notify { lists = slice_set view.notify.lists g (list_at view.notify g ++ (b, false) ∷ []) }
    → length (list_at pushed g) ≤ pushed.blocks → slice_index registered g + 1 < 2 ^ 32
room_for_one view registered g b pushed t lt is few =
    let lists = view.notify.lists in
    let list = list_at view.notify g ++ (b, false) ∷ [] in
    let longer : length list ≡ length (list_at view.notify g) + 1 = length_push (list_at view.notify g) (b, false) in
    let there : length (list_at pushed g) ≡ length list =
    ap (λ v. length (list_at v g)) is ∙ ap length (get_or-set_same lists g list [] (omega (arith, lt, t.notify_long))) in
    let blocks : pushed.blocks ≡ view.notify.blocks = ap (λ v. v.blocks) is in
    omega (arith, longer, there, blocks, few, t.many g, t.few_blocks)

-- a block behind the notify blocks of a group
pub notified : (view : GroupsView) (registered : List ℕ) (g n : ℕ) (b : Blk) → CountsAgree view registered → g < length view.counts
    → n ≡ slice_index registered g
    → CountsAgree
    (record view { notify = record view.notify { lists = slice_set view.notify.lists g (list_at view.notify g ++ (b, false) ∷ []) } })
    (slice_set registered g (n + 1))
notified view registered g n b t lt now =
    let lists = view.notify.lists in
    let list = list_at view.notify g ++ (b, false) ∷ [] in
    let longer : length list ≡ length (list_at view.notify g) + 1 = length_push (list_at view.notify g) (b, false) in
    let within : g < length lists = omega (arith, lt, t.notify_long) in
    record {
      entered_long = t.entered_long;
      emptied_long = t.emptied_long;
      notify_long = length-set lists g list ∙ t.notify_long;
      due_long = t.due_long;
      registered_long = length-set registered g _ ∙ t.registered_long;
      few_blocks = t.few_blocks;
      counted = t.counted;
      many =
          everywhere (λ k n. n ≡ length (get_or (set lists g list) k [])) registered g _ 0 (omega (arith, lt, t.registered_long))
          (ap (λ m. m + 1) (now ∙ t.many g) ∙ sym longer ∙ ap length (sym (get_or-set_same lists g list [] within)))
          (λ k ne. t.many k ∙ ap length (sym (get_or-set_other lists g k list [] ne)));
      ready =
          everywhere (λ k ws. due_at view k ≤ length ws) lists g list [] within
          (omega (arith, longer, t.ready g)) (λ k ne. t.ready k);
    }

-- all of a group's notify blocks are due
pub all_due : (view : GroupsView) (registered : List ℕ) (g n : ℕ) → CountsAgree view registered → g < length view.counts
    → n ≡ slice_index registered g → CountsAgree (record view { due = slice_set view.due g n }) registered
all_due view registered g n t lt all = record {
  entered_long = t.entered_long;
  emptied_long = t.emptied_long;
  notify_long = t.notify_long;
  due_long = length-set view.due g n ∙ t.due_long;
  registered_long = t.registered_long;
  few_blocks = t.few_blocks;
  counted = t.counted;
  many = t.many;
  ready =
      everywhere (λ k m. m ≤ length (list_at view.notify k)) view.due g n 0 (omega (arith, lt, t.due_long))
      (omega (arith, all, t.many g)) (λ k ne. t.ready k);
}

-- the first of the notify blocks of a group is gone, and was due
pub fired : (view : GroupsView) (registered : List ℕ) (g n m : ℕ) → CountsAgree view registered → g < length view.counts
    → 0 < due_at view g → n ≡ slice_index registered g → m ≡ due_at view g
    → CountsAgree
    (record view {
      notify = record view.notify { lists = slice_set view.notify.lists g (drop 1 (list_at view.notify g)) };
      due = slice_set view.due g (m - 1);
    })
    (slice_set registered g (n - 1))
fired view registered g n m t lt due now due_now =
    let lists = view.notify.lists in
    let list = drop 1 (list_at view.notify g) in
    let shorter : length list ≡ length (list_at view.notify g) - 1 = length-drop 1 (list_at view.notify g) in
    let within : g < length lists = omega (arith, lt, t.notify_long) in
    record {
      entered_long = t.entered_long;
      emptied_long = t.emptied_long;
      notify_long = length-set lists g list ∙ t.notify_long;
      due_long = length-set view.due g _ ∙ t.due_long;
      registered_long = length-set registered g _ ∙ t.registered_long;
      few_blocks = t.few_blocks;
      counted = t.counted;
      many =
          everywhere (λ k n. n ≡ length (get_or (set lists g list) k [])) registered g _ 0 (omega (arith, lt, t.registered_long))
          (ap (λ k. k - 1) (now ∙ t.many g) ∙ sym shorter ∙ ap length (sym (get_or-set_same lists g list [] within)))
          (λ k ne. t.many k ∙ ap length (sym (get_or-set_other lists g k list [] ne)));
      ready =
          everywhere (λ k n. n ≤ length (get_or (set lists g list) k [])) view.due g _ 0 (omega (arith, lt, t.due_long))
          (let same = ap length (get_or-set_same lists g list [] within) in omega (arith, same, shorter, due_now, t.ready g))
          (λ k ne. subst (λ ws. due_at view k ≤ length ws) (sym (get_or-set_other lists g k list [] ne)) (t.ready k));
    }

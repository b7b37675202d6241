-- When groups were empty, what is to be told of it, and what is due, after an act: over views alone.
use Rattle.std.proofs.Common.{◌≡◌, ℕ, zero, suc, ◌+◌, ◌-◌, ◌<◌, ◌≤◌, ◌==◌, Bool, true, false, cond, List, [], ◌∷◌, ◌++◌, length, get_or, set, drop, Option, Some, None, refl, ap, sym, ◌∙◌, subst, arith, length-append, ⊎_elim, eq-eqb, ne_eqb}
use Rattle.std.proofs.lemmas.Bool.{cases_eq}
use Rattle.std.proofs.lemmas.List.{append-nil, length-set, get_or-set_same, get_or-set_other, drop_all}
use Rattle.gcd_plan.specs.declared.act.Act.{Act}
use Rattle.gcd_plan.specs.declared.act.Act.TheVariants.{GroupAsync, Enter, Leave, Notify}
use Rattle.gcd_plan.specs.declared.numbers.Blk.{Blk}
use Rattle.gcd_plan.specs.declared.numbers.Obj.{Obj}
use Rattle.gcd_lists.specs.ListsView.{list_at}
use Rattle.gcd_group.specs.GroupsView.{GroupsView, count_at, entered_at, emptied_at, due_at, with_fired, with_one_more, with_one_less, with_entered, with_notify}
use Rattle.gcd_refinement.specs.After.{fired_times, all_fired, groups_by, member_ended}

-- ## What fires

pub fired_count : (n : ℕ) (groups : GroupsView) (g k : ℕ) → count_at (fired_times n groups g) k ≡ count_at groups k
fired_count zero groups g k = refl
fired_count (suc n) groups g k = fired_count n (with_fired groups g) g k

fired_emptied : (n : ℕ) (groups : GroupsView) (g k : ℕ) → emptied_at (fired_times n groups g) k ≡ emptied_at groups k
fired_emptied zero groups g k = refl
fired_emptied (suc n) groups g k = fired_emptied n (with_fired groups g) g k

fired_other : (n : ℕ) (groups : GroupsView) (g k : ℕ) → (k ≡ g → ⊥) → list_at (fired_times n groups g).notify k ≡ list_at groups.notify k
fired_other zero groups g k other = refl
fired_other (suc n) groups g k other =
    fired_other n (with_fired groups g) g k other ∙ get_or-set_other groups.notify.lists g k (drop 1 (list_at groups.notify g)) [] other

due_other : (n : ℕ) (groups : GroupsView) (g k : ℕ) → (k ≡ g → ⊥) → due_at (fired_times n groups g) k ≡ due_at groups k
due_other zero groups g k other = refl
due_other (suc n) groups g k other =
    due_other n (with_fired groups g) g k other ∙ get_or-set_other groups.due g k (due_at groups g - 1) 0 other

drop_one : {X : Type 0} (n : ℕ) (xs : List X) → drop n (drop 1 xs) ≡ drop (suc n) xs
drop_one zero [] = refl
drop_one (suc n) [] = refl
drop_one n (x ∷ xs) = refl

fired_same : (n : ℕ) (groups : GroupsView) (g : ℕ) → g < length groups.notify.lists → list_at (fired_times n groups g).notify g ≡ drop n (list_at groups.notify g)
fired_same zero groups g low = refl
fired_same (suc n) groups g low =
    let long = length-set groups.notify.lists g (drop 1 (list_at groups.notify g)) in
    fired_same n (with_fired groups g) g (omega (arith, low, long))
    ∙ (ap (drop n) (get_or-set_same groups.notify.lists g (drop 1 (list_at groups.notify g)) [] low) ∙ drop_one n (list_at groups.notify g))

due_same : (n : ℕ) (groups : GroupsView) (g : ℕ) → g < length groups.due → due_at (fired_times n groups g) g ≡ due_at groups g - n
due_same zero groups g low = omega arith
due_same (suc n) groups g low =
    let long = length-set groups.due g (due_at groups g - 1) in
    let rest = due_same n (with_fired groups g) g (omega (arith, low, long)) in
    let here = get_or-set_same groups.due g (due_at groups g - 1) 0 low in
    omega (arith, rest, here)

-- ## What is known of one group

-- before the event: an empty group has nothing to tell, nothing is due, and it was empty at no later position
pub record Rests (old : GroupsView) (len k : ℕ) : Type 0 where
  pub listed : count_at old k ≡ 0 → list_at old.notify k ≡ []
  pub due : due_at old k ≡ 0
  pub low : emptied_at old k ≤ len

-- after the event that makes the history len + 1 long, which registers more
pub record Moves (old new : GroupsView) (len k : ℕ) (more : List (Blk × Bool)) : Type 0 where
  pub stays : (count_at new k ≡ 0 → ⊥) → emptied_at new k ≡ cond (count_at old k == 0) len (emptied_at old k)
  pub low : emptied_at new k ≤ len + 1
  pub list : list_at new.notify k ≡ cond (count_at new k == 0) [] (list_at old.notify k ++ more)
  pub due : due_at new k ≡ 0

-- the group is in the lists
pub record Within (old : GroupsView) (g : ℕ) : Type 0 where
  pub counts : g < length old.counts
  pub emptied : g < length old.emptied
  pub notify : g < length old.notify.lists
  pub due : g < length old.due

-- the list where nothing is registered
still_list : (list : List (Blk × Bool)) (n : ℕ) → (n ≡ 0 → list ≡ []) → list ≡ cond (n == 0) [] (list ++ [])
still_list list n none =
    ⊎_elim
    (λ (zero_now : n ≡ 0). none zero_now ∙ ap (λ t. cond t [] (list ++ [])) (sym (eq-eqb n 0 zero_now)))
    (λ (some : n ≡ 0 → ⊥). sym (append-nil list) ∙ ap (λ t. cond t [] (list ++ [])) (sym (ne_eqb n 0 some)))
    (cases_eq n 0)

-- a group that the event does not concern
apart : (old new : GroupsView) (len k : ℕ) → Rests old len k → count_at new k ≡ count_at old k → emptied_at new k ≡ emptied_at old k → list_at new.notify k ≡ list_at old.notify k → due_at new k ≡ due_at old k
    → Moves old new len k []
apart old new len k rests counts emptied list due =
    let below = rests.low in
    record {
      stays = λ some. emptied ∙ ap (λ t. cond t len (emptied_at old k)) (sym (ne_eqb (count_at old k) 0 (λ z. some (counts ∙ z))));
      low = omega (arith, emptied, below);
      list = list ∙ (still_list (list_at old.notify k) (count_at old k) rests.listed ∙ ap (λ n. cond (n == 0) [] (list_at old.notify k ++ [])) (sym counts));
      due = due ∙ rests.due;
    }

-- ## One more

more_same : (old : GroupsView) (len g : ℕ) → Rests old len g → Within old g → Moves old (with_one_more old g (len + 1)) len g []
more_same old len g rests within =
    let new = with_one_more old g (len + 1) in
    let c : count_at new g ≡ count_at old g + 1 = get_or-set_same old.counts g (count_at old g + 1) 0 within.counts in
    let back : len + 1 - 1 ≡ len = omega arith in
    let e : emptied_at new g ≡ cond (count_at old g == 0) len (emptied_at old g) =
    elim (count_at old g == 0) as (λ v. get_or (cond v (set old.emptied g (len + 1 - 1)) old.emptied) g 0 ≡ cond v len (emptied_at old g)) [
      | true ↦ get_or-set_same old.emptied g (len + 1 - 1) 0 within.emptied ∙ back
      | false ↦ refl
    ] in
    let below = rests.low in
    record {
      stays = λ some. e;
      low = elim (count_at old g == 0) as (λ v. emptied_at new g ≡ cond v len (emptied_at old g) → emptied_at new g ≤ len + 1) [ true ↦ λ k. omega (arith, k) | false ↦ λ k. omega (arith, k, below) ] e;
      list = sym (append-nil (list_at old.notify g)) ∙ ap (λ t. cond t [] (list_at old.notify g ++ [])) (sym (ne_eqb (count_at new g) 0 (λ z. omega (arith, c, z))));
      due = rests.due;
    }

more_other : (old : GroupsView) (len g k : ℕ) → Rests old len k → (k ≡ g → ⊥) → Moves old (with_one_more old g (len + 1)) len k []
more_other old len g k rests other =
    apart old (with_one_more old g (len + 1)) len k rests
    (get_or-set_other old.counts g k (count_at old g + 1) 0 other)
    (elim (count_at old g == 0) as (λ v. get_or (cond v (set old.emptied g (len + 1 - 1)) old.emptied) k 0 ≡ emptied_at old k) [ true ↦ get_or-set_other old.emptied g k (len + 1 - 1) 0 other | false ↦ refl ])
    refl refl

pub moves_more : (old : GroupsView) (len g k : ℕ) → Rests old len k → Within old g → Moves old (with_one_more old g (len + 1)) len k []
moves_more old len g k rests within =
    ⊎_elim
    (λ (same : k ≡ g). subst (λ n. Rests old len n → Moves old (with_one_more old g (len + 1)) len n []) (sym same) (λ r. more_same old len g r within) rests)
    (λ (other : k ≡ g → ⊥). more_other old len g k rests other)
    (cases_eq k g)

-- ## One less, and what fires then

-- all that is due at group g fires
fires_other : (old mid : GroupsView) (len g k : ℕ) (more : List (Blk × Bool)) → (k ≡ g → ⊥) → Moves old mid len k more → Moves old (all_fired mid g) len k more
fires_other old mid len g k more other moves =
    let n = due_at mid g in
    let c = fired_count n mid g k in
    let e = fired_emptied n mid g k in
    let below = moves.low in
    record {
      stays = λ some. e ∙ moves.stays (λ z. some (c ∙ z));
      low = omega (arith, e, below);
      list = fired_other n mid g k other ∙ (moves.list ∙ ap (λ m. cond (m == 0) [] (list_at old.notify k ++ more)) (sym c));
      due = due_other n mid g k other ∙ moves.due;
    }

-- at group g itself: what is due there is all, where it is empty, and else nothing
fires_here : (old mid : GroupsView) (len g : ℕ) (more : List (Blk × Bool)) → g < length mid.notify.lists → g < length mid.due
    → ((count_at mid g ≡ 0 → ⊥) → emptied_at mid g ≡ cond (count_at old g == 0) len (emptied_at old g)) → emptied_at mid g ≤ len + 1
    → list_at mid.notify g ≡ list_at old.notify g ++ more → due_at mid g ≡ cond (count_at mid g == 0) (length (list_at old.notify g ++ more)) 0
    → Moves old (all_fired mid g) len g more
fires_here old mid len g more tall wide stays below list due =
    let n = due_at mid g in
    let c = fired_count n mid g g in
    let e = fired_emptied n mid g g in
    let d = due_same n mid g wide in
    record {
      stays = λ some. e ∙ stays (λ z. some (c ∙ z));
      low = omega (arith, e, below);
      list = fired_same n mid g tall
          ∙ (ap (drop n) list
          ∙ (ap (λ m. drop m (list_at old.notify g ++ more)) due
          ∙ (elim (count_at mid g == 0) as (λ v. drop (cond v (length (list_at old.notify g ++ more)) 0) (list_at old.notify g ++ more) ≡ cond v [] (list_at old.notify g ++ more)) [
            | true ↦ drop_all (length (list_at old.notify g ++ more)) (list_at old.notify g ++ more) (omega arith)
            | false ↦ refl
          ]
          ∙ ap (λ m. cond (m == 0) [] (list_at old.notify g ++ more)) (sym c))));
      due = omega (arith, d);
    }

less_same : (old : GroupsView) (len g : ℕ) → Rests old len g → Within old g → 0 < count_at old g → Moves old (all_fired (with_one_less old g (len + 1)) g) len g []
less_same old len g rests within some =
    let mid = with_one_less old g (len + 1) in
    let c : count_at mid g ≡ count_at old g - 1 = get_or-set_same old.counts g (count_at old g - 1) 0 within.counts in
    let not_zero : (count_at old g == 0) ≡ false = ne_eqb (count_at old g) 0 (λ z. omega (arith, z, some)) in
    let below = rests.low in
    ⊎_elim
    (λ (last : count_at old g ≡ 1).
    let t = eq-eqb (count_at old g) 1 last in
    let none : count_at mid g ≡ 0 = omega (arith, c, last) in
    let e : emptied_at mid g ≡ len + 1 = ap (λ v. get_or (cond v (set old.emptied g (len + 1)) old.emptied) g 0) t ∙ get_or-set_same old.emptied g (len + 1) 0 within.emptied in
    let long : length (set old.due g (length (list_at old.notify g))) ≡ length old.due = length-set old.due g (length (list_at old.notify g)) in
    let low = within.due in
    let wide : g < length mid.due = subst (λ v. g < length (cond v (set old.due g (length (list_at old.notify g))) old.due)) (sym t) (omega (arith, low, long)) in
    fires_here old mid len g [] within.notify wide
    (λ more. absurd (more none))
    (omega (arith, e))
    (sym (append-nil (list_at old.notify g)))
    (ap (λ v. get_or (cond v (set old.due g (length (list_at old.notify g))) old.due) g 0) t
    ∙ (get_or-set_same old.due g (length (list_at old.notify g)) 0 within.due
    ∙ (ap length (sym (append-nil (list_at old.notify g))) ∙ ap (λ v. cond v (length (list_at old.notify g ++ [])) 0) (sym (eq-eqb (count_at mid g) 0 none))))))
    (λ (more : count_at old g ≡ 1 → ⊥).
    let t = ne_eqb (count_at old g) 1 more in
    let wide : g < length mid.due = subst (λ v. g < length (cond v (set old.due g (length (list_at old.notify g))) old.due)) (sym t) within.due in
    let e : emptied_at mid g ≡ emptied_at old g = ap (λ v. get_or (cond v (set old.emptied g (len + 1)) old.emptied) g 0) t in
    fires_here old mid len g [] within.notify wide
    (λ z. e ∙ ap (λ v. cond v len (emptied_at old g)) (sym not_zero))
    (omega (arith, e, below))
    (sym (append-nil (list_at old.notify g)))
    (ap (λ v. get_or (cond v (set old.due g (length (list_at old.notify g))) old.due) g 0) t
    ∙ (rests.due ∙ ap (λ v. cond v (length (list_at old.notify g ++ [])) 0) (sym (ne_eqb (count_at mid g) 0 (λ z. more (omega (arith, c, z, some))))))))
    (cases_eq (count_at old g) 1)

less_other : (old : GroupsView) (len g k : ℕ) → Rests old len k → (k ≡ g → ⊥) → Moves old (all_fired (with_one_less old g (len + 1)) g) len k []
less_other old len g k rests other =
    let mid = with_one_less old g (len + 1) in
    fires_other old mid len g k [] other (apart old mid len k rests
    (get_or-set_other old.counts g k (count_at old g - 1) 0 other)
    (elim (count_at old g == 1) as (λ v. get_or (cond v (set old.emptied g (len + 1)) old.emptied) k 0 ≡ emptied_at old k) [ true ↦ get_or-set_other old.emptied g k (len + 1) 0 other | false ↦ refl ])
    refl
    (elim (count_at old g == 1) as (λ v. get_or (cond v (set old.due g (length (list_at old.notify g))) old.due) k 0 ≡ due_at old k) [ true ↦ get_or-set_other old.due g k (length (list_at old.notify g)) 0 other | false ↦ refl ]))

pub moves_less : (old : GroupsView) (len g k : ℕ) → Rests old len k → Within old g → 0 < count_at old g → Moves old (all_fired (with_one_less old g (len + 1)) g) len k []
moves_less old len g k rests within some =
    ⊎_elim
    (λ (same : k ≡ g). subst (λ n. Rests old len n → Moves old (all_fired (with_one_less old g (len + 1)) g) len n []) (sym same) (λ r. less_same old len g r within some) rests)
    (λ (other : k ≡ g → ⊥). less_other old len g k rests other)
    (cases_eq k g)

-- ## A registration

notify_same : (old : GroupsView) (len g : ℕ) (b : Blk) → Rests old len g → Within old g → Moves old (all_fired (with_notify old g b) g) len g ((b, false) ∷ [])
notify_same old len g b rests within =
    let mid = with_notify old g b in
    let all = list_at old.notify g ++ (b, false) ∷ [] in
    let more = length-append (list_at old.notify g) ((b, false) ∷ []) in
    let below = rests.low in
    let tall : g < length mid.notify.lists = let long = length-set old.notify.lists g all in let low = within.notify in omega (arith, low, long) in
    let wide : g < length mid.due = elim (count_at old g == 0) as (λ v. g < length (cond v (set old.due g (length (list_at old.notify g) + 1)) old.due)) [
      | true ↦ let long = length-set old.due g (length (list_at old.notify g) + 1) in let low = within.due in omega (arith, low, long)
      | false ↦ within.due
    ] in
    fires_here old mid len g ((b, false) ∷ []) tall wide
    (λ some. ap (λ v. cond v len (emptied_at old g)) (sym (ne_eqb (count_at old g) 0 some)))
    (omega (arith, below))
    (get_or-set_same old.notify.lists g all [] within.notify)
    (elim (count_at old g == 0) as (λ v. get_or (cond v (set old.due g (length (list_at old.notify g) + 1)) old.due) g 0 ≡ cond v (length all) 0) [
      | true ↦ get_or-set_same old.due g (length (list_at old.notify g) + 1) 0 within.due ∙ sym more
      | false ↦ rests.due
    ])

notify_other : (old : GroupsView) (len g k : ℕ) (b : Blk) → Rests old len k → (k ≡ g → ⊥) → Moves old (all_fired (with_notify old g b) g) len k []
notify_other old len g k b rests other =
    let mid = with_notify old g b in
    fires_other old mid len g k [] other (apart old mid len k rests
    refl
    refl
    (get_or-set_other old.notify.lists g k (list_at old.notify g ++ (b, false) ∷ []) [] other)
    (elim (count_at old g == 0) as (λ v. get_or (cond v (set old.due g (length (list_at old.notify g) + 1)) old.due) k 0 ≡ due_at old k) [ true ↦ get_or-set_other old.due g k (length (list_at old.notify g) + 1) 0 other | false ↦ refl ]))

pub moves_notify : (old : GroupsView) (len g k : ℕ) (b : Blk) → Rests old len k → Within old g → Moves old (all_fired (with_notify old g b) g) len k (cond (g == k) ((b, false) ∷ []) [])
moves_notify old len g k b rests within =
    ⊎_elim
    (λ (same : k ≡ g).
    subst (λ n. Rests old len n → Moves old (all_fired (with_notify old g b) g) len n (cond (g == n) ((b, false) ∷ []) [])) (sym same)
    (λ r. subst (λ t. Moves old (all_fired (with_notify old g b) g) len g (cond t ((b, false) ∷ []) [])) (sym (eq-eqb g g refl)) (notify_same old len g b r within)) rests)
    (λ (other : k ≡ g → ⊥).
    subst (λ t. Moves old (all_fired (with_notify old g b) g) len k (cond t ((b, false) ∷ []) [])) (sym (ne_eqb g k (λ s. other (sym s)))) (notify_other old len g k b rests other))
    (cases_eq k g)

-- ## Any act

-- the notify block that the act registers at group k, as the lists have it
abbrev pub told_by : ℕ → Option Act → List (Blk × Bool)
told_by k (Some (Notify g q b)) = cond (g.0 == k) ((b, false) ∷ []) []
told_by k _ = []

-- what an act names is in the lists, and what it leaves counts
pub record Known (groups : GroupsView) (act : Option Act) : Type 0 where
  pub joined : (g q : Obj) (b : Blk) → act ≡ Some (GroupAsync g q b) → Within groups g.0
  pub come : (g : Obj) → act ≡ Some (Enter g) → Within groups g.0
  pub gone : (g : Obj) → act ≡ Some (Leave g) → Within groups g.0 × (0 < count_at groups g.0)
  pub told : (g q : Obj) (b : Blk) → act ≡ Some (Notify g q b) → Within groups g.0

-- who has entered is told by no other clause
entered_fired : (n : ℕ) (groups : GroupsView) (g m k : ℕ) (old : GroupsView) (len : ℕ) → Moves old (fired_times n groups g) len k [] → Moves old (fired_times n (with_entered groups g m) g) len k []
entered_fired zero groups g m k old len moves = record { stays = moves.stays; low = moves.low; list = moves.list; due = moves.due }
entered_fired (suc n) groups g m k old len moves = entered_fired n (with_fired groups g) g m k old len moves

pub moves_by : (old : GroupsView) (len k : ℕ) (act : Option Act) → Rests old len k → Known old act → Moves old (groups_by old (len + 1) act) len k (told_by k act)
moves_by old len k (Some (GroupAsync g q b)) rests known = moves_more old len g.0 k rests (known.joined g q b refl)
moves_by old len k (Some (Enter g)) rests known =
    let moves = moves_more old len g.0 k rests (known.come g refl) in
    record { stays = moves.stays; low = moves.low; list = moves.list; due = moves.due }
moves_by old len k (Some (Leave g)) rests known =
    let f = known.gone g refl in
    let mid = with_one_less old g.0 (len + 1) in
    entered_fired (due_at mid g.0) mid g.0 (entered_at old g.0 - 1) k old len (moves_less old len g.0 k rests f.0 f.1)
moves_by old len k (Some (Notify g q b)) rests known = moves_notify old len g.0 k b rests (known.told g q b refl)
moves_by old len k _ rests known = apart old old len k rests refl refl refl refl

pub moves_end : (old : GroupsView) (len k : ℕ) (o : Option Obj) → Rests old len k → ((g : Obj) → o ≡ Some g → Within old g.0 × (0 < count_at old g.0)) → Moves old (member_ended old (len + 1) o) len k []
moves_end old len k None rests known = apart old old len k rests refl refl refl refl
moves_end old len k (Some g) rests known = let f = known g refl in moves_less old len g.0 k rests f.0 f.1

-- The choice of a worker: where an event of the worker is permitted one is chosen, and what is chosen is permitted and the worker's.
use Rattle.std.proofs.Common.{◌≡◌, ⊎_elim, ℕ, ◌-◌, ◌<◌, Bool, true, false, not, ◌&&◌, cond, ◌==◌, List, [], ◌∷◌, ◌++◌, length, map, Some, None, is_some, is_none, find, refl, ap, sym, ◌∙◌, subst, arith}
use Rattle.std.specs.List.{list_any, list_all, flat_map, range_with_len}
use Rattle.std.specs.Option.{option_map_or, option_to_list}
use Rattle.std.proofs.lemmas.Bool.{eqb-true, eq-eqb, or_left, or_right, and_parts, and_from, not-false, both_ways, ltb-true, cases_lt}
use Rattle.gcd_plan.specs.PlanView.{PlanView}
use Rattle.gcd_plan.specs.Kinds.{is_source, is_source_kind, is_node, is_node_kind}
use Rattle.gcd_plan.specs.StartRule.{first_of}
use Rattle.gcd_plan.specs.Validity.{IsPlan}
use Rattle.gcd_plan.specs.declared.numbers.Blk.{Blk}
use Rattle.gcd_plan.specs.declared.numbers.Obj.{Obj}
use Rattle.gcd_plan.specs.declared.numbers.Run.{Run}
use Rattle.gcd_plan.specs.declared.numbers.Run.TheVariants.{Block, Source}
use Rattle.gcd_plan.proofs.Within.{has_object}
use Rattle.gcd_event.specs.declared.event.Event.{Event}
use Rattle.gcd_event.specs.declared.event.Event.TheVariants.{Start, Act as Acted, Wake, End, Deliver, DeliverEnd, Tick, Ready, FeedEnd, Misuse, Halt, Expire, Accept, Shut}
use Rattle.gcd_history.specs.declared.submission.Submission.{Submission}
use Rattle.gcd_history.specs.Runs.{open_runs, is_started, acts_done}
use Rattle.gcd_history.specs.Submitted.{submitted, submission_of}
use Rattle.gcd_history.specs.Parked.{has_run}
use Rattle.gcd_history.specs.Permitted.{why, permitted, is_worker, has_block, is_on, is_behind, before, waits_on, first_waiting, misuse_at, node_reasons, waiting_reasons}
use Rattle.gcd_history.specs.Choice.{end_of, next_events, own_events, wake_event, node_events, candidates, choice, is_work, worker_of}
use Rattle.gcd_history.proofs.Lists.{any_left, any_right, any_flat, any_map, find_from_any, found_is, found_any, found_passes, all_flat, all_map, all_both}
use Rattle.gcd_plan.proofs.Quantifiers.{list_any_in_range, list_any_in_range_from}
use Rattle.gcd_plan.proofs.Options.{some_from_is_some, none_from_is_none}
use Rattle.gcd_history.proofs.Permitted.Reasons.{allowed, at_start, at_act, at_end, at_deliver_end, at_misuse, waiting_facts}
use Rattle.gcd_history.proofs.Blocks.StartedOnce.{open_from_has_run}
use Rattle.gcd_history.proofs.Blocks.SubmittedOnNodes.{on_a_node, submitted_fit}
use Rattle.gcd_history.proofs.Runs.OpenNodes.{any_open}

-- what is permitted passes
may : (plan : PlanView) (past : List Event) (e : Event) → why plan past e ≡ None → permitted plan past e ≡ true
may plan past e h = ap is_none h

-- ## Where each event stands among the candidates

abbrev Offered : PlanView → List Event → ℕ → ℕ → Type 0
Offered plan past w from = list_any (permitted plan past) (candidates plan past w from) ≡ true

abbrev own_part : PlanView → List Event → ℕ → List Event
own_part plan past w = flat_map (own_events plan past w) (open_runs past)

abbrev wake_part : PlanView → ℕ → List Event
wake_part plan w = map (wake_event w) (range_with_len 0 (length plan.blocks))

abbrev main_part : ℕ → List Event
main_part w = Start w (record { 0 = 0 }) ∷ []

abbrev high_part : PlanView → List Event → ℕ → ℕ → List Event
high_part plan past w from = flat_map (node_events plan past w) (range_with_len from (length plan.objects - from))

abbrev low_part : PlanView → List Event → ℕ → ℕ → List Event
low_part plan past w from = flat_map (node_events plan past w) (range_with_len 0 from)

in_own : (plan : PlanView) (past : List Event) (w from : ℕ) → list_any (permitted plan past) (own_part plan past w) ≡ true → Offered plan past w from
in_own plan past w from h =
    let p = permitted plan past in
    let one = any_left p (own_part plan past w) (wake_part plan w) h in
    let two = any_left p (own_part plan past w ++ wake_part plan w) (main_part w) one in
    let three = any_left p (own_part plan past w ++ wake_part plan w ++ main_part w) (high_part plan past w from) two in
    any_left p (own_part plan past w ++ wake_part plan w ++ main_part w ++ high_part plan past w from) (low_part plan past w from) three

in_wakes : (plan : PlanView) (past : List Event) (w from : ℕ) → list_any (permitted plan past) (wake_part plan w) ≡ true → Offered plan past w from
in_wakes plan past w from h =
    let p = permitted plan past in
    let one = any_right p (own_part plan past w) (wake_part plan w) h in
    let two = any_left p (own_part plan past w ++ wake_part plan w) (main_part w) one in
    let three = any_left p (own_part plan past w ++ wake_part plan w ++ main_part w) (high_part plan past w from) two in
    any_left p (own_part plan past w ++ wake_part plan w ++ main_part w ++ high_part plan past w from) (low_part plan past w from) three

in_main : (plan : PlanView) (past : List Event) (w from : ℕ) → list_any (permitted plan past) (main_part w) ≡ true → Offered plan past w from
in_main plan past w from h =
    let p = permitted plan past in
    let two = any_right p (own_part plan past w ++ wake_part plan w) (main_part w) h in
    let three = any_left p (own_part plan past w ++ wake_part plan w ++ main_part w) (high_part plan past w from) two in
    any_left p (own_part plan past w ++ wake_part plan w ++ main_part w ++ high_part plan past w from) (low_part plan past w from) three

-- an event of a node is offered, from whatever number on
in_nodes : (plan : PlanView) (past : List Event) (w from n : ℕ) → n < length plan.objects → list_any (permitted plan past) (node_events plan past w n) ≡ true → Offered plan past w from
in_nodes plan past w from n within h =
    let p = permitted plan past in
    let front = own_part plan past w ++ wake_part plan w ++ main_part w in
    ⊎_elim
    (λ low.
    let here = any_flat p (node_events plan past w) (range_with_len 0 from) (list_any_in_range (λ m. list_any p (node_events plan past w m)) from n low h) in
    any_right p (front ++ high_part plan past w from) (low_part plan past w from) here)
    (λ high.
    let here = any_flat p (node_events plan past w) (range_with_len from (length plan.objects - from)) (list_any_in_range_from (λ m. list_any p (node_events plan past w m)) from (length plan.objects - from) n high (omega arith) h) in
    any_left p (front ++ high_part plan past w from) (low_part plan past w from) (any_right p front (high_part plan past w from) here))
    (cases_lt n from)

-- an event of a run that the worker has is offered
in_run : (plan : PlanView) (past : List Event) (w from : ℕ) (r : Run) → has_run plan past w r ≡ true → list_any (permitted plan past) (next_events plan past w r) ≡ true → Offered plan past w from
in_run plan past w from r own h =
    let p = permitted plan past in
    let here : list_any p (own_events plan past w r) ≡ true = ap (λ v. list_any p (cond v (next_events plan past w r) [])) own ∙ h in
    in_own plan past w from (any_flat p (own_events plan past w) (open_runs past) (any_open past (λ q. list_any p (own_events plan past w q)) r (open_from_has_run plan past w r own) here))

-- ## Of each kind

offered_act : (plan : PlanView) (past : List Event) (from w : ℕ) (r : Run) (i : ℕ) → why plan past (Acted w r i) ≡ None → Offered plan past w from
offered_act plan past from w r i h =
    let facts = at_act plan past w r i h in
    let here : permitted plan past (Acted w r (acts_done past r)) ≡ true = subst (λ n. permitted plan past (Acted w r n) ≡ true) facts.next (may plan past (Acted w r i) h) in
    in_run plan past w from r facts.own (or_left (permitted plan past (Acted w r (acts_done past r))) _ here)

offered_misuse : (plan : PlanView) (past : List Event) (from w : ℕ) (r : Run) (i c : ℕ) → why plan past (Misuse w c r i) ≡ None → Offered plan past w from
offered_misuse plan past from w r i c h =
    let p = permitted plan past in
    let facts = at_misuse plan past w r i c h in
    let n = acts_done past r in
    let here : p (Misuse w c r n) ≡ true = subst (λ k. p (Misuse w c r k) ≡ true) facts.next (may plan past (Misuse w c r i) h) in
    let code : misuse_at plan past r n ≡ Some c = subst (λ k. misuse_at plan past r k ≡ Some c) facts.next facts.code in
    let listed : list_any p (map (λ c. Misuse w c r n) (option_to_list (misuse_at plan past r n))) ≡ true = ap (λ o. list_any p (map (λ c. Misuse w c r n) (option_to_list o))) code ∙ or_left (p (Misuse w c r n)) false here in
    in_run plan past w from r facts.own
    (any_left p (Acted w r n ∷ map (λ c. Misuse w c r n) (option_to_list (misuse_at plan past r n))) (end_of w r ∷ []) (or_right (p (Acted w r n)) _ listed))

offered_end : (plan : PlanView) (past : List Event) (from w : ℕ) (r : Run) → has_run plan past w r ≡ true → why plan past (end_of w r) ≡ None → Offered plan past w from
offered_end plan past from w r own h =
    let p = permitted plan past in
    let n = acts_done past r in
    in_run plan past w from r own
    (any_right p (Acted w r n ∷ map (λ c. Misuse w c r n) (option_to_list (misuse_at plan past r n))) (end_of w r ∷ []) (or_left (p (end_of w r)) false (may plan past (end_of w r) h)))

offered_wake : (plan : PlanView) (past : List Event) (from w : ℕ) (b : Blk) → why plan past (Wake w b) ≡ None → Offered plan past w from
offered_wake plan past from w b h =
    let known = and_parts (is_worker w) (has_block plan b.0) (allowed plan past (Wake w b) h).known in
    let within : b.0 < length plan.blocks = ltb-true b.0 (length plan.blocks) known.1 in
    in_wakes plan past w from (any_map (permitted plan past) (wake_event w) (range_with_len 0 (length plan.blocks))
    (list_any_in_range (λ n. permitted plan past (wake_event w n)) (length plan.blocks) b.0 within (may plan past (Wake w b) h)))

offered_deliver : (plan : PlanView) (past : List Event) (from w : ℕ) (s : Obj) → why plan past (Deliver w s) ≡ None → Offered plan past w from
offered_deliver plan past from w s h =
    let p = permitted plan past in
    let source : is_source plan s.0 ≡ true = (and_parts (is_worker w) (is_source plan s.0) (allowed plan past (Deliver w s) h).known).1 in
    let here : list_any p (cond (is_source plan s.0) (Deliver w s ∷ []) []) ≡ true = ap (λ v. list_any p (cond v (Deliver w s ∷ []) [])) source ∙ or_left (p (Deliver w s)) false (may plan past (Deliver w s) h) in
    in_nodes plan past w from s.0 (has_object is_source_kind plan s.0 source)
    (any_right p (option_map_or (λ t. Start w t.blk ∷ []) (first_waiting plan past s.0) []) (cond (is_source plan s.0) (Deliver w s ∷ []) []) here)

-- of what waits, b is behind exactly where another is the first
abbrev FirstIsOther : (Submission → Bool) → ℕ → List Submission → Type 0
FirstIsOther p b xs = list_any p (before b xs) ≡ option_map_or (λ t. not (t.blk.0 == b)) (find p xs) false

pub before_first_waiting : (p : Submission → Bool) (b : ℕ) (s : Submission) (xs : List Submission) → find (λ t. t.blk.0 == b) xs ≡ Some s → p s ≡ true → list_any p (before b xs) ≡ option_map_or (λ t. not (t.blk.0 == b)) (find p xs) false
before_first_waiting p b s [] found waits = cc
before_first_waiting p b s (x ∷ xs) found waits =
    elim (x.blk.0 == b) as (λ v. x.blk.0 == b ≡ v → FirstIsOther p b (x ∷ xs)) [
      | true ↦ λ e. let same : Some x ≡ Some s = simp e at found in let px : p x ≡ true = cc in simp (e, px)
      | false ↦ λ e. elim (p x) as (λ v. p x ≡ v → FirstIsOther p b (x ∷ xs)) [
        | true ↦ λ px. simp (e, px)
        | false ↦ λ px. simp (e, px) (before_first_waiting p b s xs (simp e at found) waits)
      ] refl
    ] refl

-- of what waits on a node, one that is not behind is the first
first_of_node : (plan : PlanView) (past : List Event) (b n : ℕ) (s : Submission) → submission_of plan past b ≡ Some s → is_behind plan past b n ≡ false → is_on n s ≡ true → is_started past b ≡ false →
    (t : Submission) × (first_waiting plan past n ≡ Some t) × (t.blk.0 ≡ b)
unfolding is_behind
first_of_node plan past b n s found front on fresh =
    let xs = submitted plan past in
    let same : s.blk.0 ≡ b = eqb-true s.blk.0 b (found_is (λ t. t.blk.0 == b) xs s found) in
    let waits : waits_on past n s ≡ true = and_from (is_on n s) (not (is_started past s.blk.0)) on (ap not (ap (is_started past) same ∙ fresh)) in
    let t = some_from_is_some (find (waits_on past n) xs) (find_from_any (waits_on past n) xs (found_any (λ u. u.blk.0 == b) (waits_on past n) xs s found waits)) in
    let other : option_map_or (λ u. not (u.blk.0 == b)) (find (waits_on past n) xs) false ≡ false = sym (before_first_waiting (waits_on past n) b s xs found waits) ∙ front in
    let it : not (t.0.blk.0 == b) ≡ false = sym (ap (λ o. option_map_or (λ u. not (u.blk.0 == b)) o false) t.1) ∙ other in
    (t.0, t.1, eqb-true t.0.blk.0 b (not-false (t.0.blk.0 == b) it))

-- of a block that waits on a node
started_there : (plan : PlanView) (past : List Event) (from w : ℕ) (b : Blk) (q : Obj) (s : Submission) → is_node plan q.0 ≡ true → s.node ≡ Some q → submission_of plan past b.0 ≡ Some s →
    first_of (waiting_reasons plan past s.blk.0 s.barrier q.0) ≡ None → is_started past b.0 ≡ false → why plan past (Start w b) ≡ None → Offered plan past w from
started_there plan past from w b q s node at found waits fresh h =
    let p = permitted plan past in
    let same : s.blk.0 ≡ b.0 = eqb-true s.blk.0 b.0 (found_is (λ t. t.blk.0 == b.0) (submitted plan past) s found) in
    let front : is_behind plan past b.0 q.0 ≡ false = subst (λ k. is_behind plan past k q.0 ≡ false) same (waiting_facts plan past s.blk.0 s.barrier q.0 waits).behind in
    let on : is_on q.0 s ≡ true = ap (λ o. option_map_or (λ k. k.0 == q.0) o false) at ∙ eq-eqb q.0 q.0 refl in
    let first = first_of_node plan past b.0 q.0 s found front on fresh in
    let starts : p (Start w first.0.blk) ≡ true = subst (λ k. p (Start w (record { 0 = k })) ≡ true) (sym first.2) (may plan past (Start w b) h) in
    let here : list_any p (option_map_or (λ t. Start w t.blk ∷ []) (first_waiting plan past q.0) []) ≡ true =
    ap (λ o. list_any p (option_map_or (λ t. Start w t.blk ∷ []) o [])) first.1 ∙ or_left (p (Start w first.0.blk)) false starts in
    in_nodes plan past w from q.0 (has_object is_node_kind plan q.0 node)
    (any_left p (option_map_or (λ t. Start w t.blk ∷ []) (first_waiting plan past q.0) []) (cond (is_source plan q.0) (Deliver w (record { 0 = q.0 }) ∷ []) []) here)

offered_start : (plan : PlanView) (past : List Event) (from w : ℕ) (b : Blk) → IsPlan plan → why plan past (Start w b) ≡ None → Offered plan past w from
offered_start plan past from w b valid h =
    let p = permitted plan past in
    let facts = at_start plan past w b h in
    let s = some_from_is_some (submission_of plan past b.0) facts.submitted_one in
    let same : s.0.blk.0 ≡ b.0 = eqb-true s.0.blk.0 b.0 (found_is (λ t. t.blk.0 == b.0) (submitted plan past) s.0 s.1) in
    let fits : on_a_node plan s.0 ≡ true = (found_passes (λ t. t.blk.0 == b.0) (on_a_node plan) (submitted plan past) s.0 s.1 (submitted_fit plan past valid)).1 in
    let waits : first_of (node_reasons plan past (Some s.0)) ≡ None = subst (λ o. first_of (node_reasons plan past o) ≡ None) s.1 facts.waits in
    elim s.0.node as (λ o. s.0.node ≡ o → option_map_or (λ k. is_node plan k.0) o (s.0.blk.0 == 0) ≡ true → first_of (option_map_or (λ k. waiting_reasons plan past s.0.blk.0 s.0.barrier k.0) o []) ≡ None → Offered plan past w from) [
      | None ↦ λ at main none.
          let zero : b.0 ≡ 0 = sym same ∙ eqb-true s.0.blk.0 0 main in
          in_main plan past w from (or_left (p (Start w (record { 0 = 0 }))) false (subst (λ k. p (Start w (record { 0 = k })) ≡ true) zero (may plan past (Start w b) h)))
      | Some q ↦ λ at node facts_there. started_there plan past from w b q s.0 node at s.1 facts_there facts.fresh h
    ] refl fits waits

-- where an event of worker w is permitted, it has one on offer
offered : (plan : PlanView) (past : List Event) (from : ℕ) (e : Event) → IsPlan plan → is_work e ≡ true → why plan past e ≡ None → Offered plan past (worker_of e) from
offered plan past from (Start w b) valid work h = offered_start plan past from w b valid h
offered plan past from (Acted w r i) valid work h = offered_act plan past from w r i h
offered plan past from (Wake w b) valid work h = offered_wake plan past from w b h
offered plan past from (End w b) valid work h = offered_end plan past from w (Block b) (at_end plan past w b h).own h
offered plan past from (Deliver w s) valid work h = offered_deliver plan past from w s h
offered plan past from (DeliverEnd w s) valid work h = offered_end plan past from w (Source s) (at_deliver_end plan past w s h).own h
offered plan past from (Misuse w c r i) valid work h = offered_misuse plan past from w r i c h
offered plan past from (Tick t) valid work h = absurd (both_ways false refl work)
offered plan past from (Ready s n) valid work h = absurd (both_ways false refl work)
offered plan past from (FeedEnd s) valid work h = absurd (both_ways false refl work)
offered plan past from Halt valid work h = absurd (both_ways false refl work)
offered plan past from (Expire b) valid work h = absurd (both_ways false refl work)
offered plan past from (Accept b s) valid work h = absurd (both_ways false refl work)
offered plan past from Shut valid work h = absurd (both_ways false refl work)

-- so it chooses one
pub chosen_where_permitted : (plan : PlanView) (past : List Event) (from : ℕ) (e : Event) → IsPlan plan → is_work e ≡ true → why plan past e ≡ None → is_some (choice plan past (worker_of e) from) ≡ true
chosen_where_permitted plan past from e valid work h = find_from_any (permitted plan past) (candidates plan past (worker_of e) from) (offered plan past from e valid work h)

-- ## What is chosen is the worker's

-- a worker's event
abbrev pub is_by : ℕ → Event → Bool
is_by w e = is_work e && worker_of e == w

end_by : (w : ℕ) (r : Run) → list_all (is_by w) (end_of w r ∷ []) ≡ true
end_by w (Block b) = and_from (w == w) true (eq-eqb w w refl) refl
end_by w (Source s) = and_from (w == w) true (eq-eqb w w refl) refl

next_by : (plan : PlanView) (past : List Event) (w : ℕ) (r : Run) → list_all (is_by w) (next_events plan past w r) ≡ true
next_by plan past w r =
    let same = eq-eqb w w refl in
    all_both (is_by w) (Acted w r (acts_done past r) ∷ map (λ c. Misuse w c r (acts_done past r)) (option_to_list (misuse_at plan past r (acts_done past r)))) (end_of w r ∷ [])
    (and_from (w == w) _ same (all_map (is_by w) (λ c. Misuse w c r (acts_done past r)) (option_to_list (misuse_at plan past r (acts_done past r))) (λ c. same)))
    (end_by w r)

own_by : (plan : PlanView) (past : List Event) (w : ℕ) (r : Run) → list_all (is_by w) (own_events plan past w r) ≡ true
own_by plan past w r =
    let all = next_by plan past w r in
    elim (has_run plan past w r) as (λ v. list_all (is_by w) (cond v (next_events plan past w r) []) ≡ true) [ true ↦ all | false ↦ refl ]

node_by : (plan : PlanView) (past : List Event) (w n : ℕ) → list_all (is_by w) (node_events plan past w n) ≡ true
node_by plan past w n =
    let one = and_from (w == w) true (eq-eqb w w refl) refl in
    all_both (is_by w) (option_map_or (λ t. Start w t.blk ∷ []) (first_waiting plan past n) []) (cond (is_source plan n) (Deliver w (record { 0 = n }) ∷ []) [])
    (elim (first_waiting plan past n) as (λ o. list_all (is_by w) (option_map_or (λ t. Start w t.blk ∷ []) o []) ≡ true) [ None ↦ refl | Some t ↦ one ])
    (elim (is_source plan n) as (λ v. list_all (is_by w) (cond v (Deliver w (record { 0 = n }) ∷ []) []) ≡ true) [ true ↦ one | false ↦ refl ])

-- all that a worker may choose from are events of its own
pub candidates_by : (plan : PlanView) (past : List Event) (w from : ℕ) → list_all (is_by w) (candidates plan past w from) ≡ true
candidates_by plan past w from =
    let q = is_by w in
    let one = all_flat q (own_events plan past w) (open_runs past) (own_by plan past w) in
    let two = all_map q (wake_event w) (range_with_len 0 (length plan.blocks)) (λ n. eq-eqb w w refl) in
    let three : list_all q (main_part w) ≡ true = and_from (w == w) true (eq-eqb w w refl) refl in
    let four = all_flat q (node_events plan past w) (range_with_len from (length plan.objects - from)) (node_by plan past w) in
    let five = all_flat q (node_events plan past w) (range_with_len 0 from) (node_by plan past w) in
    let front = all_both q (own_part plan past w ++ wake_part plan w) (main_part w) (all_both q (own_part plan past w) (wake_part plan w) one two) three in
    all_both q (own_part plan past w ++ wake_part plan w ++ main_part w ++ high_part plan past w from) (low_part plan past w from)
    (all_both q (own_part plan past w ++ wake_part plan w ++ main_part w) (high_part plan past w from) front four) five

-- what is chosen is permitted, and the worker's
pub record Chosen (plan : PlanView) (past : List Event) (w : ℕ) (e : Event) : Type 0 where
  pub permitted_now : why plan past e ≡ None
  pub work : is_work e ≡ true
  pub by : worker_of e ≡ w

pub chosen_is : (plan : PlanView) (past : List Event) (w from : ℕ) (e : Event) → choice plan past w from ≡ Some e → Chosen plan past w e
chosen_is plan past w from e h =
    let found = found_passes (permitted plan past) (is_by w) (candidates plan past w from) e h (candidates_by plan past w from) in
    let parts = and_parts (is_work e) (worker_of e == w) found.1 in
    record { permitted_now = none_from_is_none (why plan past e) found.0; work = parts.0; by = eqb-true (worker_of e) w parts.1 }

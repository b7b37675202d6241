-- Each block is submitted at most once: a count of what the events so far have submitted, with the notify blocks that wait for a
-- group or for the end of a block, against what the plan's acts, its cancellation blocks and the Accepts give in all.
use Rattle.std.proofs.Common.{◌≡◌, ⊎_elim, ℕ, ◌+◌, ◌<◌, ◌≤◌, Bool, true, false, not, ◌&&◌, ◌||◌, cond, ◌==◌, ltb, List, [], ◌∷◌, ◌++◌, length, take, map, Option, Some, None, count_by, refl, ap, sym, ◌∙◌, subst, arith}
use Rattle.std.specs.List.{sum_by, slice_get, flat_map, range_with_len, list_all}
use Rattle.std.specs.Option.{option_to_list, option_map_or, option_and_then, is_none}
use Rattle.std.proofs.lemmas.Bool.{eqb-true, eq-eqb, and_parts, both_ways, cases_eq, cases_Bool, or_cases, or_parts, not-true, false_from_ne_true, ltb-true, ne_eqb, cases_lt}
use Rattle.std.proofs.lemmas.List.Sums.{sum_by-take-le, sum_by_more}
use Rattle.std.proofs.lemmas.Option.{slice_get_within, get_or_from_slice_get, option_and_then_some}
use Rattle.gcd_plan.specs.Limits.{max_senders}
use Rattle.gcd_plan.specs.PlanView.{PlanView, ObjView, BlkView, IntakeView, acts_of, cancel_block}
use Rattle.gcd_plan.specs.Kinds.{is_queue, has_kind, is_group_kind}
use Rattle.gcd_plan.specs.Made.{is_of_intake, is_made, intake_blocks, strip_blocks}
use Rattle.gcd_plan.specs.Validity.{IsPlan, blocks_by, blocks_of, submitted_blocks, is_block, is_work, is_object, has_fields, has_path, is_kind, is_act, is_handler_act, is_declared}
use Rattle.gcd_plan.specs.declared.act.Act.{Act}
use Rattle.gcd_plan.specs.declared.act.Act.TheVariants.{Async, Barrier, Sync, BarrierSync, GroupAsync, Notify, Apply, NotifyBlock}
use Rattle.gcd_plan.specs.declared.kind.Kind.{Kind}
use Rattle.gcd_plan.specs.declared.kind.Kind.TheVariants.{Serial, Concurrent, Group, Semaphore}
use Rattle.gcd_plan.specs.declared.numbers.Blk.{Blk}
use Rattle.gcd_plan.specs.declared.numbers.Obj.{Obj}
use Rattle.gcd_plan.specs.declared.numbers.Run.{Run}
use Rattle.gcd_plan.specs.declared.numbers.Run.TheVariants.{Block, Source}
use Rattle.gcd_event.specs.declared.event.Event.{Event}
use Rattle.gcd_event.specs.declared.event.Event.TheVariants.{Start, Act as Acted, Accept}
use Rattle.gcd_plan.proofs.Sums.{count_by-flat_map, cond-le-one, count_by-cons}
use Rattle.gcd_history.specs.declared.submission.Submission.{Submission}
use Rattle.gcd_history.specs.Runs.{same_run, acts_done, act_at, act_of, is_open, is_started, is_ended}
use Rattle.gcd_history.specs.Groups.{count}
use Rattle.gcd_history.specs.Intake.{accepts, is_accepted}
use Rattle.gcd_history.specs.Submitted.{submission, on_node, submitted_by, accepted_by, cancels, is_cancelled, at_cancel, registered, notify_blocks, at_empty, registered_at_end, end_notify_blocks, at_end, new_submissions, main_submission, submitted}
use Rattle.gcd_history.specs.Permitted.{why, IsLawful, is_worker, is_index, has_block, is_run_of}
use Rattle.gcd_plan.proofs.Quantifiers.{list_all_get}
use Rattle.gcd_plan.proofs.Sums.{count_by-append, count_by_none}
use Rattle.gcd_plan.proofs.Options.{some_from_is_some, none_from_is_none}
use Rattle.gcd_history.proofs.Sums.{sum_range_le, sum_range_less, sum_range-add, sum_range_one, sum_all_places_le, sum_by-take-more, sum_by_none}
use Rattle.gcd_plan.proofs.Sums.{sum_by_agree}
use Rattle.gcd_history.proofs.Runs.Open.{same_run-true, same_run-refl}
use Rattle.gcd_history.proofs.Lists.{count_more, found_is}
use Rattle.gcd_history.proofs.MadeBlocks.Spans.{has_number, main_in_no_strip, beyond_in_no_strip, intake_is_made, intake_in_no_strip, intake_inside}
use Rattle.gcd_history.proofs.MadeBlocks.OpenIntake.{next_is_first}
use Rattle.gcd_history.proofs.Permitted.Reasons.{allowed, at_act, at_start, at_accept}
use Rattle.gcd_history.proofs.Blocks.StartedOnce.{started_from_open, open_from_has_run}

-- ## What is counted

-- the submission, or the block, is of block b
abbrev pub is_of : ℕ → Submission → Bool
is_of b s = s.blk.0 == b

-- where each of these is of a block below n, they are no more than what is counted of these blocks
pub all_counted : (xs : List Submission) (n : ℕ) → ((k : ℕ) → n ≤ k → count_by (is_of k) xs ≡ 0) → length xs ≤ sum_by (λ k. count_by (is_of k) xs) (range_with_len 0 n)
all_counted [] n none = omega arith
all_counted (x ∷ xs) n none =
    let b = x.blk.0 in
    let rest = all_counted xs n (λ k high. let c = count_by-cons (is_of k) x xs in let z = none k high in omega (arith, c, z)) in
    let here : count_by (is_of b) (x ∷ xs) ≡ 1 + count_by (is_of b) xs = count_by-cons (is_of b) x xs ∙ ap (λ v. cond {A = ℕ} v 1 0 + count_by (is_of b) xs) (eq-eqb b b refl) in
    let low : b < n = ⊎_elim (λ (l : b < n). l) (λ (high : n ≤ b). let z = none b high in absurd (omega (arith, here, z))) (cases_lt b n) in
    let more = sum_range_less (λ k. count_by (is_of k) xs) (λ k. count_by (is_of k) (x ∷ xs)) 0 n b 1
    (λ k. let c = count_by-cons (is_of k) x xs in omega (arith, c)) (omega (arith, here)) (omega arith) (omega (arith, low)) in
    omega (arith, rest, more)

-- how often the act submits block b, at once or as a notify block
abbrev pub given : PlanView → ℕ → Option Act → ℕ
given plan b None = 0
given plan b (Some act) = count_by (has_number b) (blocks_by plan act)

abbrev pub block_run : ℕ → Run
block_run c = Block (record { 0 = c })

-- what the acts that a block has made give, and then all blocks
abbrev pub made_by : PlanView → List Event → ℕ → ℕ → ℕ
made_by plan past b c = sum_by (λ act. given plan b (Some act)) (take (acts_done past (block_run c)) (acts_of plan (block_run c)))

abbrev pub made : PlanView → List Event → ℕ → ℕ
made plan past b = sum_by (made_by plan past b) (range_with_len 0 (length plan.blocks))

-- what the cancellations of a source, and of all, give
abbrev cancelled_by_one : PlanView → List Event → ℕ → ℕ → ℕ
cancelled_by_one plan past b s = cond (is_cancelled plan past s) (count_by (has_number b) (option_to_list (cancel_block plan s))) 0

abbrev pub cancelled : PlanView → List Event → ℕ → ℕ
cancelled plan past b = sum_by (cancelled_by_one plan past b) (range_with_len 0 (length plan.objects))

-- how often block b waits as a notify block
abbrev pub waiting : PlanView → List Event → ℕ → ℕ
waiting plan past b = sum_by (λ g. count_by (is_of b) (notify_blocks plan past g)) (range_with_len 0 (length plan.objects))

-- how often block b waits as the notify block of a block
abbrev pub end_waiting : PlanView → List Event → ℕ → ℕ
end_waiting plan past b = sum_by (λ c. count_by (is_of b) (end_notify_blocks plan past c)) (range_with_len 0 (length plan.blocks))

-- ## What an event submits

no_sum : (n : ℕ) → sum_by (λ g. 0) (range_with_len 0 n) ≡ 0
no_sum n = sum_by_none (λ g. 0) (range_with_len 0 n) (λ k x at. refl)

notify_apart : (b : ℕ) (h q : Obj) (c : Blk) (g : ℕ) → (g ≡ h.0 → ⊥) → count_by (is_of b) (registered g (Some (Notify h q c))) ≡ 0
notify_apart b h q c g other = ap (λ v. count_by (is_of b) (cond v (on_node q c false) [])) (ne_eqb h.0 g (λ same. other (sym same)))

notify_here : (b : ℕ) (h q : Obj) (c : Blk) → count_by (is_of b) (registered h.0 (Some (Notify h q c))) ≤ count_by (has_number b) (c ∷ [])
notify_here b h q c = subst (λ v. count_by (is_of b) (cond v (on_node q c false) []) ≤ count_by (has_number b) (c ∷ [])) (sym (eq-eqb h.0 h.0 refl)) (omega arith)

end_notify_apart : (b : ℕ) (d : Blk) (q : Obj) (c : Blk) (k : ℕ) → (k ≡ d.0 → ⊥) → count_by (is_of b) (registered_at_end k (Some (NotifyBlock d q c))) ≡ 0
end_notify_apart b d q c k other = ap (λ v. count_by (is_of b) (cond v (on_node q c false) [])) (ne_eqb d.0 k (λ same. other (sym same)))

end_notify_here : (b : ℕ) (d : Blk) (q : Obj) (c : Blk) → count_by (is_of b) (registered_at_end d.0 (Some (NotifyBlock d q c))) ≤ count_by (has_number b) (c ∷ [])
end_notify_here b d q c = subst (λ v. count_by (is_of b) (cond v (on_node q c false) []) ≤ count_by (has_number b) (c ∷ [])) (sym (eq-eqb d.0 d.0 refl)) (omega arith)

-- the blocks of a strip
pub strip_count : (b : ℕ) (q : Obj) (xs : List Blk) → count_by (is_of b) (map (submission q false) xs) ≡ count_by (has_number b) xs
strip_count b q [] = refl
strip_count b q (x ∷ xs) =
    let left = count_by-cons (is_of b) (submission q false x) (map (submission q false) xs) in
    let right = count_by-cons (has_number b) x xs in
    let rest = strip_count b q xs in
    omega (arith, left, right, rest)

-- an act's own submissions, or its registration
own_le : (plan : PlanView) (b : ℕ) (act : Option Act) (n m : ℕ) →
    count_by (is_of b) (submitted_by plan act) + sum_by (λ g. count_by (is_of b) (registered g act)) (range_with_len 0 n) + sum_by (λ c. count_by (is_of b) (registered_at_end c act)) (range_with_len 0 m) ≤ given plan b act
own_le plan b (Some (Notify h q c)) n m =
    let one = sum_range_one (λ g. count_by (is_of b) (registered g (Some (Notify h q c)))) 0 n h.0 (count_by (has_number b) (c ∷ [])) (notify_apart b h q c) (notify_here b h q c) in
    let none = no_sum m in
    omega arith
own_le plan b (Some (NotifyBlock d q c)) n m =
    let one = sum_range_one (λ k. count_by (is_of b) (registered_at_end k (Some (NotifyBlock d q c)))) 0 m d.0 (count_by (has_number b) (c ∷ [])) (end_notify_apart b d q c) (end_notify_here b d q c) in
    let none = no_sum n in
    omega arith
own_le plan b (Some (Apply q a)) n m =
    let one = strip_count b q (strip_blocks plan a) in
    let none = no_sum n in
    let no = no_sum m in
    omega arith
own_le plan b act n m =
    let none = no_sum n in
    let no = no_sum m in
    omega arith

-- of one group: what waited and what is registered is submitted, or waits on
at_group : (plan : PlanView) (past : List Event) (e : Event) (b g : ℕ) →
    count_by (is_of b) (at_empty plan past e g) + count_by (is_of b) (notify_blocks plan (e ∷ past) g)
    ≡ count_by (is_of b) (notify_blocks plan past g) + count_by (is_of b) (registered g (act_of plan e))
at_group plan past e b g =
    let all = notify_blocks plan past g ++ registered g (act_of plan e) in
    let split : count_by (is_of b) all ≡ count_by (is_of b) (notify_blocks plan past g) + count_by (is_of b) (registered g (act_of plan e)) = count_by-append (is_of b) (notify_blocks plan past g) (registered g (act_of plan e)) in
    elim (count plan (e ∷ past) g == 0) as (λ v. count_by (is_of b) (cond v all []) + count_by (is_of b) (cond v [] all) ≡ count_by (is_of b) (notify_blocks plan past g) + count_by (is_of b) (registered g (act_of plan e))) [
      | true ↦ omega arith
      | false ↦ omega arith
    ]

-- of all groups
pub at_groups : (plan : PlanView) (past : List Event) (e : Event) (b : ℕ) →
    count_by (is_of b) (flat_map (at_empty plan past e) (range_with_len 0 (length plan.objects))) + waiting plan (e ∷ past) b
    ≡ waiting plan past b + sum_by (λ g. count_by (is_of b) (registered g (act_of plan e))) (range_with_len 0 (length plan.objects))
at_groups plan past e b =
    let n = length plan.objects in
    let fired = count_by-flat_map (is_of b) (at_empty plan past e) (range_with_len 0 n) in
    let left = sum_range-add (λ g. count_by (is_of b) (at_empty plan past e g)) (λ g. count_by (is_of b) (notify_blocks plan (e ∷ past) g)) 0 n in
    let right = sum_range-add (λ g. count_by (is_of b) (notify_blocks plan past g)) (λ g. count_by (is_of b) (registered g (act_of plan e))) 0 n in
    let same = sum_by_agree
    (λ g. count_by (is_of b) (at_empty plan past e g) + count_by (is_of b) (notify_blocks plan (e ∷ past) g))
    (λ g. count_by (is_of b) (notify_blocks plan past g) + count_by (is_of b) (registered g (act_of plan e)))
    (range_with_len 0 n) (at_group plan past e b) in
    omega arith

-- of one block: what waited for its end and what is registered is submitted, or waits on
pub at_block : (plan : PlanView) (past : List Event) (e : Event) (b c : ℕ) →
    count_by (is_of b) (at_end plan past e c) + count_by (is_of b) (end_notify_blocks plan (e ∷ past) c)
    ≡ count_by (is_of b) (end_notify_blocks plan past c) + count_by (is_of b) (registered_at_end c (act_of plan e))
at_block plan past e b c =
    let all = end_notify_blocks plan past c ++ registered_at_end c (act_of plan e) in
    let split : count_by (is_of b) all ≡ count_by (is_of b) (end_notify_blocks plan past c) + count_by (is_of b) (registered_at_end c (act_of plan e)) = count_by-append (is_of b) (end_notify_blocks plan past c) (registered_at_end c (act_of plan e)) in
    elim (is_ended (e ∷ past) c) as (λ v. count_by (is_of b) (cond v all []) + count_by (is_of b) (cond v [] all) ≡ count_by (is_of b) (end_notify_blocks plan past c) + count_by (is_of b) (registered_at_end c (act_of plan e))) [
      | true ↦ omega arith
      | false ↦ omega arith
    ]

-- of all blocks
pub at_blocks : (plan : PlanView) (past : List Event) (e : Event) (b : ℕ) →
    count_by (is_of b) (flat_map (at_end plan past e) (range_with_len 0 (length plan.blocks))) + end_waiting plan (e ∷ past) b
    ≡ end_waiting plan past b + sum_by (λ c. count_by (is_of b) (registered_at_end c (act_of plan e))) (range_with_len 0 (length plan.blocks))
at_blocks plan past e b =
    let n = length plan.blocks in
    let fired = count_by-flat_map (is_of b) (at_end plan past e) (range_with_len 0 n) in
    let left = sum_range-add (λ c. count_by (is_of b) (at_end plan past e c)) (λ c. count_by (is_of b) (end_notify_blocks plan (e ∷ past) c)) 0 n in
    let right = sum_range-add (λ c. count_by (is_of b) (end_notify_blocks plan past c)) (λ c. count_by (is_of b) (registered_at_end c (act_of plan e))) 0 n in
    let same = sum_by_agree
    (λ c. count_by (is_of b) (at_end plan past e c) + count_by (is_of b) (end_notify_blocks plan (e ∷ past) c))
    (λ c. count_by (is_of b) (end_notify_blocks plan past c) + count_by (is_of b) (registered_at_end c (act_of plan e)))
    (range_with_len 0 n) (at_block plan past e b) in
    omega arith

-- the parts of what the event submits
pub new_parts : (plan : PlanView) (past : List Event) (e : Event) (b : ℕ) →
    count_by (is_of b) (new_submissions plan past e)
    ≡ count_by (is_of b) (submitted_by plan (act_of plan e)) + count_by (is_of b) (accepted_by plan e) + count_by (is_of b) (at_cancel plan past (cancels plan e))
    + count_by (is_of b) (flat_map (at_end plan past e) (range_with_len 0 (length plan.blocks))) + count_by (is_of b) (flat_map (at_empty plan past e) (range_with_len 0 (length plan.objects)))
new_parts plan past e b =
    let own = submitted_by plan (act_of plan e) in
    let accepted = accepted_by plan e in
    let cancelled = at_cancel plan past (cancels plan e) in
    let ended = flat_map (at_end plan past e) (range_with_len 0 (length plan.blocks)) in
    let emptied = flat_map (at_empty plan past e) (range_with_len 0 (length plan.objects)) in
    let one = count_by-append (is_of b) (own ++ accepted ++ cancelled ++ ended) emptied in
    let two = count_by-append (is_of b) (own ++ accepted ++ cancelled) ended in
    let three = count_by-append (is_of b) (own ++ accepted) cancelled in
    let four = count_by-append (is_of b) own accepted in
    omega (arith, one, two, three, four)

-- of the event
new_le : (plan : PlanView) (past : List Event) (e : Event) (b : ℕ) →
    count_by (is_of b) (new_submissions plan past e) + waiting plan (e ∷ past) b + end_waiting plan (e ∷ past) b
    ≤ waiting plan past b + end_waiting plan past b + given plan b (act_of plan e) + count_by (is_of b) (accepted_by plan e) + count_by (is_of b) (at_cancel plan past (cancels plan e))
new_le plan past e b =
    let parts = new_parts plan past e b in
    let groups = at_groups plan past e b in
    let blocks = at_blocks plan past e b in
    let own = own_le plan b (act_of plan e) (length plan.objects) (length plan.blocks) in
    omega (arith, parts, groups, blocks, own)

-- ## What is accepted

accepted_one : (b : ℕ) (c : Blk) (i : Option IntakeView) → count_by (is_of b) (option_map_or (λ i. on_node i.queue c false) i []) ≤ cond {A = ℕ} (c.0 == b) 1 0
accepted_one b c None = omega arith
accepted_one b c (Some i) = omega arith

accepted_le : (plan : PlanView) (e : Event) (b : ℕ) → count_by (is_of b) (accepted_by plan e) ≤ cond {A = ℕ} (accepts b e) 1 0
accepted_le plan (Accept c s) b = accepted_one b c plan.intake
accepted_le plan e b = omega arith

-- an Accept finds that its block is not accepted, and of the intake
record AcceptsNew (plan : PlanView) (past : List Event) (b : ℕ) : Type 0 where
  new : is_accepted past b ≡ false
  of_intake : is_of_intake plan b ≡ true

at_its_accept : (plan : PlanView) (past : List Event) (b : ℕ) (e : Event) → why plan past e ≡ None → accepts b e ≡ true → AcceptsNew plan past b
at_its_accept plan past b (Accept c s) h now =
    let same : c.0 ≡ b = eqb-true c.0 b now in
    let first = (next_is_first plan past c (at_accept plan past c s h)).1 in
    let new = not-true (is_accepted past c.0) (found_is (λ d. not (is_accepted past d.0)) (intake_blocks plan) c first) in
    let known = (and_parts (is_of_intake plan c.0) (ltb s max_senders) (allowed plan past (Accept c s) h).known).0 in
    record { new = subst (λ n. is_accepted past n ≡ false) same new; of_intake = subst (λ n. is_of_intake plan n ≡ true) same known }
at_its_accept plan past b e h now = cc

-- so a block is accepted at most once, and only one of the intake
pub accepted_once : (plan : PlanView) (past : List Event) → IsLawful plan past → (b : ℕ) → count_by (accepts b) past ≤ 1
accepted_once plan [] h b = omega arith
accepted_once plan (e ∷ past) h b = count_more (accepts b) e past (λ now. (at_its_accept plan past b e h.1 now).new) (accepted_once plan past h.0 b)

pub accepted_of_intake : (plan : PlanView) (past : List Event) → IsLawful plan past → (b : ℕ) → is_accepted past b ≡ true → is_of_intake plan b ≡ true
accepted_of_intake plan [] h b is = cc
accepted_of_intake plan (e ∷ past) h b is =
    ⊎_elim (λ now. (at_its_accept plan past b e h.1 now).of_intake) (accepted_of_intake plan past h.0 b) (or_cases (accepts b e) (is_accepted past b) is)

pub none_accepted : (plan : PlanView) (past : List Event) → IsLawful plan past → (b : ℕ) → is_of_intake plan b ≡ false → count_by (accepts b) past ≡ 0
none_accepted plan past h b other =
    count_by_none (accepts b) past (⊎_elim (λ yes. absurd (both_ways (is_of_intake plan b) other (accepted_of_intake plan past h b yes))) (λ none. none) (cases_Bool (is_accepted past b)))

-- ## What the plan gives

-- a block that has not started has made no act
pub unstarted_step : (plan : PlanView) (past : List Event) → IsLawful plan past → (b : Blk) → is_started past b.0 ≡ false → acts_done past (Block b) ≡ 0
unstarted_step plan [] h b fresh = refl
unstarted_step plan (Acted w r i ∷ past) h b fresh =
    elim (same_run r (Block b)) as (λ v. same_run r (Block b) ≡ v → cond v (acts_done past (Block b) + 1) (acts_done past (Block b)) ≡ 0) [
      | true ↦ λ e.
          let here : is_open past (Block b) ≡ true = subst (λ k. is_open past k ≡ true) (same_run-true r (Block b) e) (open_from_has_run plan past w r (at_act plan past w r i h.1).own) in
          absurd (both_ways (is_started past b.0) fresh (started_from_open past b here))
      | false ↦ λ e. unstarted_step plan past h.0 b fresh
    ] refl
unstarted_step plan (Start w c ∷ past) h b fresh =
    let parts = or_parts (c.0 == b.0) (is_started past b.0) fresh in
    ap (λ v. cond v 0 (acts_done past (Block b))) parts.0 ∙ unstarted_step plan past h.0 b parts.1
unstarted_step plan (e ∷ past) h b fresh = unstarted_step plan past h.0 b fresh

-- the acts that a block has made stay made
acts_kept : (plan : PlanView) (e : Event) (past : List Event) → IsLawful plan (e ∷ past) → (b : Blk) → acts_done past (Block b) ≤ acts_done (e ∷ past) (Block b)
acts_kept plan (Acted w r i) past h b =
    elim (same_run r (Block b)) as (λ v. acts_done past (Block b) ≤ cond v (acts_done past (Block b) + 1) (acts_done past (Block b))) [
      | true ↦ omega arith
      | false ↦ omega arith
    ]
acts_kept plan (Start w c) past h b =
    elim (c.0 == b.0) as (λ v. c.0 == b.0 ≡ v → acts_done past (Block b) ≤ cond v 0 (acts_done past (Block b))) [
      | true ↦ λ same.
          let fresh : is_started past b.0 ≡ false = subst (λ n. is_started past n ≡ false) (eqb-true c.0 b.0 same) (at_start plan past w c h.1).fresh in
          let none = unstarted_step plan past h.0 b fresh in
          omega arith
      | false ↦ λ other. omega arith
    ] refl
acts_kept plan e past h b = omega arith

-- an act more of a block: it gives what the act gives
pub act_more : (plan : PlanView) (b i : ℕ) (r : Run) (act : Act) → act_at plan r i ≡ Some act →
    sum_by (λ a. given plan b (Some a)) (take (i + 1) (acts_of plan r)) ≡ sum_by (λ a. given plan b (Some a)) (take i (acts_of plan r)) + given plan b (Some act)
act_more plan b i r act at =
    let within : i < length (acts_of plan r) = slice_get_within (acts_of plan r) i act at in
    sum_by_more (λ a. given plan b (Some a)) (acts_of plan r) i act within
    ∙ ap (λ a. sum_by (λ a. given plan b (Some a)) (take i (acts_of plan r)) + given plan b (Some a)) (get_or_from_slice_get (acts_of plan r) i act act at)

made_kept : (plan : PlanView) (e : Event) (past : List Event) → IsLawful plan (e ∷ past) → (b c : ℕ) → made_by plan past b c ≤ made_by plan (e ∷ past) b c
made_kept plan e past h b c =
    sum_by-take-more (λ act. given plan b (Some act)) (acts_of plan (block_run c)) (acts_done past (block_run c)) (acts_done (e ∷ past) (block_run c)) (acts_kept plan e past h (record { 0 = c }))

-- what is in no handler submits
handler_act_gives_none : (plan : PlanView) (b : ℕ) (act : Act) → is_handler_act act ≡ true → given plan b (Some act) ≡ 0
handler_act_gives_none plan b (Async q c) fine = cc
handler_act_gives_none plan b (Barrier q c) fine = cc
handler_act_gives_none plan b (Sync q c) fine = cc
handler_act_gives_none plan b (BarrierSync q c) fine = cc
handler_act_gives_none plan b (GroupAsync g q c) fine = cc
handler_act_gives_none plan b (Notify g q c) fine = cc
handler_act_gives_none plan b (Apply q a) fine = cc
handler_act_gives_none plan b (NotifyBlock d q c) fine = cc
handler_act_gives_none plan b act fine = refl

pub no_acts : (acts : List Act) (i : ℕ) (act : Act) → (length acts == 0) ≡ true → slice_get acts i ≡ Some act → ⊥
no_acts acts i act none at =
    let empty : length acts ≡ 0 = eqb-true (length acts) 0 none in
    let within : i < length acts = slice_get_within acts i act at in
    omega arith

-- a source's acts are handler acts
source_handler : (plan : PlanView) (obj : ObjView) (i : ℕ) (act : Act) → (kind : Kind) → has_fields plan kind obj ≡ true → slice_get obj.handler i ≡ Some act → (is_handler_act act && is_act plan act) ≡ true
source_handler plan obj i act Serial fields at =
    absurd (no_acts obj.handler i act (and_parts (length obj.handler == 0) (is_none obj.cancel) (and_parts (is_queue plan obj.target.0) _ fields).1).0 at)
source_handler plan obj i act Concurrent fields at =
    absurd (no_acts obj.handler i act (and_parts (length obj.handler == 0) (is_none obj.cancel) (and_parts (is_queue plan obj.target.0) _ fields).1).0 at)
source_handler plan obj i act Group fields at =
    absurd (no_acts obj.handler i act (and_parts (length obj.handler == 0) (is_none obj.cancel) (and_parts obj.active _ (and_parts (obj.target.0 == 0) _ fields).1).1).0 at)
source_handler plan obj i act (Semaphore n) fields at =
    absurd (no_acts obj.handler i act (and_parts (length obj.handler == 0) (is_none obj.cancel) (and_parts obj.active _ (and_parts (obj.target.0 == 0) _ fields).1).1).0 at)
source_handler plan obj i act kind fields at =
    let all = (and_parts (list_all (λ a. is_handler_act a && is_act plan a) obj.handler) _ (and_parts (not obj.active) _ (and_parts (is_queue plan obj.target.0) _ fields).1).1).0 in
    list_all_get (λ a. is_handler_act a && is_act plan a) obj.handler i act all at

pub object_fields : (plan : PlanView) (k : ℕ) (obj : ObjView) → IsPlan plan → slice_get plan.objects k ≡ Some obj → has_fields plan obj.kind obj ≡ true
object_fields plan k obj valid at =
    (and_parts (has_path obj.kind obj.path) (has_fields plan obj.kind obj) (and_parts (is_kind obj.kind) _ (list_all_get (is_object plan) plan.objects k obj valid.objects at)).1).1

-- an act of a handler is one that a handler may have
pub handler_act : (plan : PlanView) (s : Obj) (i : ℕ) (act : Act) → IsPlan plan → act_at plan (Source s) i ≡ Some act → (is_handler_act act ≡ true) × (is_act plan act ≡ true)
handler_act plan s i act valid at =
    and_parts (is_handler_act act) (is_act plan act) (elim (slice_get plan.objects s.0) as (λ o. slice_get plan.objects s.0 ≡ o → slice_get (option_map_or (λ obj. obj.handler) o []) i ≡ Some act → (is_handler_act act && is_act plan act) ≡ true) [
      | None ↦ λ none k. cc
      | Some obj ↦ λ some k. source_handler plan obj i act obj.kind (object_fields plan s.0 obj valid some) k
    ] refl at)

-- so it submits nothing
handler_gives_none : (plan : PlanView) (s : Obj) (i b : ℕ) (act : Act) → IsPlan plan → act_at plan (Source s) i ≡ Some act → given plan b (Some act) ≡ 0
handler_gives_none plan s i b act valid at = handler_act_gives_none plan b act (handler_act plan s i act valid at).0

-- the block's next act is counted
next_counted : (plan : PlanView) (past : List Event) (w : ℕ) (c : Blk) (i b : ℕ) → IsLawful plan (Acted w (Block c) i ∷ past) →
    made_by plan past b c.0 + given plan b (act_at plan (Block c) i) ≤ made_by plan (Acted w (Block c) i ∷ past) b c.0
next_counted plan past w c i b h =
    let facts = at_act plan past w (Block c) i h.1 in
    let act = some_from_is_some (act_at plan (Block c) i) facts.there in
    let step = act_more plan b i (Block c) act.0 act.1 in
    let before : sum_by (λ a. given plan b (Some a)) (take i (acts_of plan (Block c))) ≡ made_by plan past b c.0 = ap (λ n. sum_by (λ a. given plan b (Some a)) (take n (acts_of plan (Block c)))) facts.next in
    let more : i + 1 ≡ acts_done (Acted w (Block c) i ∷ past) (Block c) = ap (λ n. n + 1) facts.next ∙ ap (λ v. cond v (acts_done past (Block c) + 1) (acts_done past (Block c))) (sym (same_run-refl (Block c))) in
    let after : sum_by (λ a. given plan b (Some a)) (take (i + 1) (acts_of plan (Block c))) ≡ made_by plan (Acted w (Block c) i ∷ past) b c.0 = ap (λ n. sum_by (λ a. given plan b (Some a)) (take n (acts_of plan (Block c)))) more in
    let now : given plan b (act_at plan (Block c) i) ≡ given plan b (Some act.0) = ap (given plan b) act.1 in
    omega arith

-- what the blocks have made grows by what the event's act gives
made_more : (plan : PlanView) (e : Event) (past : List Event) → IsPlan plan → IsLawful plan (e ∷ past) → (b : ℕ) → made plan past b + given plan b (act_of plan e) ≤ made plan (e ∷ past) b
made_more plan (Acted w (Block c) i) past valid h b =
    let known = and_parts (is_worker w) (is_run_of plan (Block c) && is_index i) (allowed plan past (Acted w (Block c) i) h.1).known in
    let within : c.0 < length plan.blocks = ltb-true c.0 (length plan.blocks) (and_parts (has_block plan c.0) (is_index i) known.1).0 in
    sum_range_less (made_by plan past b) (made_by plan (Acted w (Block c) i ∷ past) b) 0 (length plan.blocks) c.0 (given plan b (act_at plan (Block c) i))
    (made_kept plan (Acted w (Block c) i) past h b) (next_counted plan past w c i b h) (omega arith) (omega arith)
made_more plan (Acted w (Source s) i) past valid h b =
    let facts = at_act plan past w (Source s) i h.1 in
    let act = some_from_is_some (act_at plan (Source s) i) facts.there in
    let low = sum_range_le (made_by plan past b) (made_by plan (Acted w (Source s) i ∷ past) b) 0 (length plan.blocks) (made_kept plan (Acted w (Source s) i) past h b) in
    let none : given plan b (act_at plan (Source s) i) ≡ 0 = ap (given plan b) act.1 ∙ handler_gives_none plan s i b act.0 valid act.1 in
    omega arith
made_more plan e past valid h b =
    let low = sum_range_le (made_by plan past b) (made_by plan (e ∷ past) b) 0 (length plan.blocks) (made_kept plan e past h b) in
    omega arith

-- what a source's cancellation has given stays
cancelled_kept : (plan : PlanView) (e : Event) (past : List Event) (b s : ℕ) → cancelled_by_one plan past b s ≤ cancelled_by_one plan (e ∷ past) b s
cancelled_kept plan e past b s =
    let n = count_by (has_number b) (option_to_list (cancel_block plan s)) in
    elim (is_cancelled plan past s) as (λ v. cond v n 0 ≤ cond (option_map_or (λ t. t.0 == s) (cancels plan e) false || v) n 0) [
      | true ↦ elim (option_map_or (λ t. t.0 == s) (cancels plan e) false) as (λ u. n ≤ cond (u || true) n 0) [ true ↦ omega arith | false ↦ omega arith ]
      | false ↦ omega arith
    ]

-- of the source that the event cancels first
first_cancel : (plan : PlanView) (e : Event) (past : List Event) (b : ℕ) (s : Obj) → cancels plan e ≡ Some s → is_cancelled plan past s.0 ≡ false →
    cancelled_by_one plan past b s.0 + count_by (has_number b) (option_to_list (cancel_block plan s.0)) ≤ cancelled_by_one plan (e ∷ past) b s.0
first_cancel plan e past b s now first =
    let n = count_by (has_number b) (option_to_list (cancel_block plan s.0)) in
    let before : cancelled_by_one plan past b s.0 ≡ 0 = ap (λ v. cond v n 0) first in
    let here : option_map_or (λ t. t.0 == s.0) (cancels plan e) false ≡ true = ap (λ o. option_map_or (λ t. t.0 == s.0) o false) now ∙ eq-eqb s.0 s.0 refl in
    let after : cancelled_by_one plan (e ∷ past) b s.0 ≡ n = ap (λ v. cond (v || is_cancelled plan past s.0) n 0) here in
    omega arith

cancel_within : (plan : PlanView) (s : ℕ) (c : Blk) → cancel_block plan s ≡ Some c → s < length plan.objects
cancel_within plan s c at = option_and_then_some (λ obj. obj.cancel) (slice_get plan.objects s) c at (λ obj some it. slice_get_within plan.objects s obj some)

-- what the cancellations have given grows by what the event's gives
cancelled_more : (plan : PlanView) (e : Event) (past : List Event) (b : ℕ) → cancelled plan past b + count_by (is_of b) (at_cancel plan past (cancels plan e)) ≤ cancelled plan (e ∷ past) b
cancelled_more plan e past b =
    let low = sum_range_le (cancelled_by_one plan past b) (cancelled_by_one plan (e ∷ past) b) 0 (length plan.objects) (cancelled_kept plan e past b) in
    elim (cancels plan e) as (λ o. cancels plan e ≡ o → cancelled plan past b + count_by (is_of b) (at_cancel plan past o) ≤ cancelled plan (e ∷ past) b) [
      | None ↦ λ none. omega arith
      | Some s ↦ λ now. elim (is_cancelled plan past s.0) as (λ v. is_cancelled plan past s.0 ≡ v → cancelled plan past b + count_by (is_of b) (cond v [] (option_map_or (λ c. on_node s c false) (cancel_block plan s.0) [])) ≤ cancelled plan (e ∷ past) b) [
        | true ↦ λ again. omega arith
        | false ↦ λ first. elim (cancel_block plan s.0) as (λ o. cancel_block plan s.0 ≡ o → cancelled plan past b + count_by (is_of b) (option_map_or (λ c. on_node s c false) o []) ≤ cancelled plan (e ∷ past) b) [
          | None ↦ λ none. omega arith
          | Some c ↦ λ some.
              let within : s.0 < length plan.objects = cancel_within plan s.0 c some in
              let same : count_by (is_of b) (on_node s c false) ≡ count_by (has_number b) (option_to_list (cancel_block plan s.0)) = ap (λ o. count_by (has_number b) (option_to_list o)) (sym some) in
              let more = sum_range_less (cancelled_by_one plan past b) (cancelled_by_one plan (e ∷ past) b) 0 (length plan.objects) s.0 (count_by (has_number b) (option_to_list (cancel_block plan s.0)))
              (cancelled_kept plan e past b) (first_cancel plan e past b s now first) (omega arith) (omega arith) in
              omega arith
        ] refl
      ] refl
    ] refl

-- what a block of the plan gives, and an object
pub block_gives : (plan : PlanView) (past : List Event) (b k : ℕ) (blk : BlkView) → slice_get plan.blocks k ≡ Some blk → made_by plan past b k ≤ count_by (has_number b) (blocks_of plan blk.acts)
block_gives plan past b k blk at =
    let acts : acts_of plan (block_run k) ≡ blk.acts = ap (λ o. option_map_or (λ c. c.acts) o []) at in
    let all : sum_by (λ act. given plan b (Some act)) blk.acts ≡ count_by (has_number b) (blocks_of plan blk.acts) = sym (count_by-flat_map (has_number b) (blocks_by plan) blk.acts) in
    let n = acts_done past (block_run k) in
    let front : sum_by (λ act. given plan b (Some act)) (take n (acts_of plan (block_run k))) ≤ sum_by (λ act. given plan b (Some act)) blk.acts =
    subst (λ l. sum_by (λ act. given plan b (Some act)) (take n l) ≤ sum_by (λ act. given plan b (Some act)) blk.acts) (sym acts) (sum_by-take-le (λ act. given plan b (Some act)) blk.acts n) in
    omega arith

object_gives : (plan : PlanView) (past : List Event) (b k : ℕ) (obj : ObjView) → slice_get plan.objects k ≡ Some obj → cancelled_by_one plan past b k ≤ count_by (has_number b) (blocks_of plan obj.handler ++ option_to_list obj.cancel)
object_gives plan past b k obj at =
    let cancel : cancel_block plan k ≡ obj.cancel = ap (λ o. option_and_then (λ c. c.cancel) o) at in
    let split = count_by-append (has_number b) (blocks_of plan obj.handler) (option_to_list obj.cancel) in
    let same : count_by (has_number b) (option_to_list (cancel_block plan k)) ≡ count_by (has_number b) (option_to_list obj.cancel) = ap (λ o. count_by (has_number b) (option_to_list o)) cancel in
    elim (is_cancelled plan past k) as (λ v. cond v (count_by (has_number b) (option_to_list (cancel_block plan k))) 0 ≤ count_by (has_number b) (blocks_of plan obj.handler ++ option_to_list obj.cancel)) [
      | true ↦ omega arith
      | false ↦ omega arith
    ]

-- what each block gives, and all cancellations, is of the plan
pub plan_gives : (plan : PlanView) (past : List Event) (b : ℕ) (f : ℕ → ℕ) → ((k : ℕ) (blk : BlkView) → slice_get plan.blocks k ≡ Some blk → f k ≤ count_by (has_number b) (blocks_of plan blk.acts))
    → sum_by f (range_with_len 0 (length plan.blocks)) + cancelled plan past b ≤ count_by (has_number b) (submitted_blocks plan)
plan_gives plan past b f low =
    let of_blocks = flat_map (λ blk. blocks_of plan blk.acts) plan.blocks in
    let of_objects = flat_map (λ obj. blocks_of plan obj.handler ++ option_to_list obj.cancel) plan.objects in
    let split : count_by (has_number b) (submitted_blocks plan) ≡ count_by (has_number b) of_blocks + count_by (has_number b) of_objects = count_by-append (has_number b) of_blocks of_objects in
    let one = count_by-flat_map (has_number b) (λ blk. blocks_of plan blk.acts) plan.blocks in
    let two = count_by-flat_map (has_number b) (λ obj. blocks_of plan obj.handler ++ option_to_list obj.cancel) plan.objects in
    let left = sum_all_places_le f (λ blk. count_by (has_number b) (blocks_of plan blk.acts)) plan.blocks low in
    let right : cancelled plan past b ≤ sum_by (λ obj. count_by (has_number b) (blocks_of plan obj.handler ++ option_to_list obj.cancel)) plan.objects = sum_all_places_le (cancelled_by_one plan past b) (λ obj. count_by (has_number b) (blocks_of plan obj.handler ++ option_to_list obj.cancel)) plan.objects (object_gives plan past b) in
    omega arith

all_of_plan : (plan : PlanView) (past : List Event) (b : ℕ) → made plan past b + cancelled plan past b ≤ count_by (has_number b) (submitted_blocks plan)
all_of_plan plan past b = plan_gives plan past b (made_by plan past b) (block_gives plan past b)

-- an act of a block submits no main
not_main : (plan : PlanView) (c : Blk) → is_declared plan c ≡ true → count_by (has_number 0) (c ∷ []) ≡ 0
not_main plan c fine =
    let above : 0 < c.0 = ltb-true 0 c.0 (and_parts (ltb 0 c.0) _ fine).0 in
    ap (λ v. 0 + cond v 1 0) (ne_eqb c.0 0 (λ same. omega arith))

-- the block is none that an act may submit
pub record Apart (plan : PlanView) (b : ℕ) : Type 0 where
  declared : (c : Blk) → is_declared plan c ≡ true → count_by (has_number b) (c ∷ []) ≡ 0
  strips : (a : ℕ) → count_by (has_number b) (strip_blocks plan a) ≡ 0

act_gives_no : (plan : PlanView) (b : ℕ) → Apart plan b → (act : Act) → is_act plan act ≡ true → given plan b (Some act) ≡ 0
act_gives_no plan b apart (Async q c) fine = apart.declared c (and_parts (is_queue plan q.0) _ fine).1
act_gives_no plan b apart (Barrier q c) fine = apart.declared c (and_parts (is_queue plan q.0) _ fine).1
act_gives_no plan b apart (Sync q c) fine = apart.declared c (and_parts (is_queue plan q.0) _ fine).1
act_gives_no plan b apart (BarrierSync q c) fine = apart.declared c (and_parts (is_queue plan q.0) _ fine).1
act_gives_no plan b apart (GroupAsync g q c) fine = apart.declared c (and_parts (is_queue plan q.0) _ (and_parts (has_kind is_group_kind plan g.0) _ fine).1).1
act_gives_no plan b apart (Notify g q c) fine = apart.declared c (and_parts (is_queue plan q.0) _ (and_parts (has_kind is_group_kind plan g.0) _ fine).1).1
act_gives_no plan b apart (NotifyBlock d q c) fine = apart.declared c (and_parts (is_queue plan q.0) _ (and_parts (is_declared plan d) _ fine).1).1
act_gives_no plan b apart (Apply q a) fine = apart.strips a
act_gives_no plan b apart act fine = refl

acts_give_none : (plan : PlanView) (b : ℕ) (acts : List Act) → ((k : ℕ) (act : Act) → slice_get acts k ≡ Some act → given plan b (Some act) ≡ 0) → count_by (has_number b) (blocks_of plan acts) ≡ 0
acts_give_none plan b acts none = count_by-flat_map (has_number b) (blocks_by plan) acts ∙ sum_by_none (λ act. given plan b (Some act)) acts none

block_gives_no : (plan : PlanView) (b : ℕ) → Apart plan b → IsPlan plan → (k : ℕ) (blk : BlkView) → slice_get plan.blocks k ≡ Some blk → count_by (has_number b) (blocks_of plan blk.acts) ≡ 0
block_gives_no plan b apart valid k blk at =
    let fine = (and_parts (option_map_or (is_work plan) blk.work true) (list_all (is_act plan) blk.acts) (list_all_get (is_block plan) plan.blocks k blk valid.blocks at)).1 in
    acts_give_none plan b blk.acts (λ i act here. act_gives_no plan b apart act (list_all_get (is_act plan) blk.acts i act fine here))

-- a cancellation block is not main
cancel_gives_no : (plan : PlanView) (b : ℕ) → Apart plan b → (obj : ObjView) (kind : Kind) → has_fields plan kind obj ≡ true → count_by (has_number b) (option_to_list obj.cancel) ≡ 0
cancel_gives_no plan b apart obj Serial fields =
    ap (λ o. count_by (has_number b) (option_to_list o)) (none_from_is_none obj.cancel (and_parts (length obj.handler == 0) (is_none obj.cancel) (and_parts (is_queue plan obj.target.0) _ fields).1).1)
cancel_gives_no plan b apart obj Concurrent fields =
    ap (λ o. count_by (has_number b) (option_to_list o)) (none_from_is_none obj.cancel (and_parts (length obj.handler == 0) (is_none obj.cancel) (and_parts (is_queue plan obj.target.0) _ fields).1).1)
cancel_gives_no plan b apart obj Group fields =
    ap (λ o. count_by (has_number b) (option_to_list o)) (none_from_is_none obj.cancel (and_parts (length obj.handler == 0) (is_none obj.cancel) (and_parts obj.active _ (and_parts (obj.target.0 == 0) _ fields).1).1).1)
cancel_gives_no plan b apart obj (Semaphore n) fields =
    ap (λ o. count_by (has_number b) (option_to_list o)) (none_from_is_none obj.cancel (and_parts (length obj.handler == 0) (is_none obj.cancel) (and_parts obj.active _ (and_parts (obj.target.0 == 0) _ fields).1).1).1)
cancel_gives_no plan b apart obj kind fields =
    let fine = (and_parts (list_all (λ a. is_handler_act a && is_act plan a) obj.handler) _ (and_parts (not obj.active) _ (and_parts (is_queue plan obj.target.0) _ fields).1).1).1 in
    elim obj.cancel as (λ o. option_map_or (is_declared plan) o true ≡ true → count_by (has_number b) (option_to_list o) ≡ 0) [
      | None ↦ λ k. refl
      | Some c ↦ λ k. apart.declared c k
    ] fine

object_gives_no : (plan : PlanView) (b : ℕ) → Apart plan b → IsPlan plan → (k : ℕ) (obj : ObjView) → slice_get plan.objects k ≡ Some obj → count_by (has_number b) (blocks_of plan obj.handler ++ option_to_list obj.cancel) ≡ 0
object_gives_no plan b apart valid k obj at =
    let fields = object_fields plan k obj valid at in
    let one = acts_give_none plan b obj.handler (λ i act here. handler_act_gives_none plan b act (and_parts (is_handler_act act) (is_act plan act) (source_handler plan obj i act obj.kind fields here)).0) in
    let two = cancel_gives_no plan b apart obj obj.kind fields in
    let split = count_by-append (has_number b) (blocks_of plan obj.handler) (option_to_list obj.cancel) in
    omega arith

-- the plan submits the block nowhere
pub nowhere : (plan : PlanView) (b : ℕ) → Apart plan b → IsPlan plan → count_by (has_number b) (submitted_blocks plan) ≡ 0
nowhere plan b apart valid =
    let of_blocks = flat_map (λ blk. blocks_of plan blk.acts) plan.blocks in
    let of_objects = flat_map (λ obj. blocks_of plan obj.handler ++ option_to_list obj.cancel) plan.objects in
    let split : count_by (has_number b) (submitted_blocks plan) ≡ count_by (has_number b) of_blocks + count_by (has_number b) of_objects = count_by-append (has_number b) of_blocks of_objects in
    let one : count_by (has_number b) of_blocks ≡ 0 = count_by-flat_map (has_number b) (λ blk. blocks_of plan blk.acts) plan.blocks ∙ sum_by_none (λ blk. count_by (has_number b) (blocks_of plan blk.acts)) plan.blocks (block_gives_no plan b apart valid) in
    let two : count_by (has_number b) of_objects ≡ 0 = count_by-flat_map (has_number b) (λ obj. blocks_of plan obj.handler ++ option_to_list obj.cancel) plan.objects ∙ sum_by_none (λ obj. count_by (has_number b) (blocks_of plan obj.handler ++ option_to_list obj.cancel)) plan.objects (object_gives_no plan b apart valid) in
    omega arith

main_nowhere : (plan : PlanView) → IsPlan plan → count_by (has_number 0) (submitted_blocks plan) ≡ 0
main_nowhere plan valid = nowhere plan 0 (record { declared = λ c fine. not_main plan c fine; strips = main_in_no_strip plan valid }) valid

-- an act submits what the plan has
not_beyond : (plan : PlanView) (b : ℕ) → IsPlan plan → length plan.blocks ≤ b → Apart plan b
not_beyond plan b valid high = record {
  declared = λ c fine.
      let low : c.0 < length plan.blocks = ltb-true c.0 (length plan.blocks) (and_parts (ltb c.0 (length plan.blocks)) _ (and_parts (ltb 0 c.0) _ fine).1).0 in
      ap (λ v. 0 + cond v 1 0) (ne_eqb c.0 b (λ same. omega (arith, low, high, same)));
  strips = beyond_in_no_strip plan b valid high;
}

-- and no block of the intake
pub not_of_intake : (plan : PlanView) (b : ℕ) → IsPlan plan → is_of_intake plan b ≡ true → Apart plan b
not_of_intake plan b valid of = record {
  declared = λ c fine.
      let other = not-true (is_made plan c.0) (and_parts (ltb c.0 (length plan.blocks)) _ (and_parts (ltb 0 c.0) _ fine).1).1 in
      ap (λ v. 0 + cond v 1 0) (ne_eqb c.0 b (λ same. both_ways (is_made plan b) (subst (λ n. is_made plan n ≡ false) same other) (intake_is_made plan b of)));
  strips = intake_in_no_strip plan b valid of;
}

-- ## Once

pub kept_within : (plan : PlanView) (past : List Event) → IsPlan plan → IsLawful plan past → (b : ℕ) →
    count_by (is_of b) (submitted plan past) + waiting plan past b + end_waiting plan past b ≤ cond {A = ℕ} (0 == b) 1 0 + count_by (accepts b) past + (made plan past b + cancelled plan past b)
kept_within plan [] valid h b =
    let none = no_sum (length plan.objects) in
    let no = no_sum (length plan.blocks) in
    let one : count_by (is_of b) (main_submission ∷ []) ≡ cond (0 == b) 1 0 = omega arith in
    omega arith
kept_within plan (e ∷ past) valid h b =
    let old = kept_within plan past valid h.0 b in
    let new = new_le plan past e b in
    let split : count_by (is_of b) (submitted plan (e ∷ past)) ≡ count_by (is_of b) (submitted plan past) + count_by (is_of b) (new_submissions plan past e) = count_by-append (is_of b) (submitted plan past) (new_submissions plan past e) in
    let acts = made_more plan e past valid h b in
    let cancels = cancelled_more plan e past b in
    let new_accepts = accepted_le plan e b in
    let step = count_by-cons (accepts b) e past in
    omega (arith, old, new, split, acts, cancels, new_accepts, step)

-- a block is submitted or waits as a notify block once at most
pub kept_once : (plan : PlanView) (past : List Event) → IsPlan plan → IsLawful plan past → (b : ℕ) → count_by (is_of b) (submitted plan past) + waiting plan past b + end_waiting plan past b ≤ 1
kept_once plan past valid h b =
    let kept = kept_within plan past valid h b in
    let all = all_of_plan plan past b in
    ⊎_elim
    (λ of.
    let none = nowhere plan b (not_of_intake plan b valid of) valid in
    let one = accepted_once plan past h b in
    let behind = (intake_inside plan b valid of).behind in
    let zero : cond {A = ℕ} (0 == b) 1 0 ≡ 0 = ap (λ v. cond v 1 0) (ne_eqb 0 b (λ same. omega (arith, same, behind))) in
    omega (arith, kept, all, none, one, zero))
    (λ outside.
    let no = none_accepted plan past h b outside in
    ⊎_elim
    (λ main.
    let none : count_by (has_number b) (submitted_blocks plan) ≡ 0 = subst (λ n. count_by (has_number n) (submitted_blocks plan) ≡ 0) main (main_nowhere plan valid) in
    let one : cond {A = ℕ} (0 == b) 1 0 ≤ 1 = cond-le-one (0 == b) in
    omega (arith, kept, all, no, none, one))
    (λ other.
    let once : count_by (has_number b) (submitted_blocks plan) ≤ 1 = valid.once b in
    let zero : cond {A = ℕ} (0 == b) 1 0 ≡ 0 = ap (λ v. cond v 1 0) (ne_eqb 0 b other) in
    omega (arith, kept, all, no, once, zero))
    (cases_eq 0 b))
    (cases_Bool (is_of_intake plan b))

pub submitted_once : (plan : PlanView) (past : List Event) → IsPlan plan → IsLawful plan past → (b : ℕ) → count_by (λ s. s.blk.0 == b) (submitted plan past) ≤ 1
submitted_once plan past valid h b = let once = kept_once plan past valid h b in omega (arith, once)

-- what is submitted is main, or is of the plan
pub submitted_within : (plan : PlanView) (past : List Event) → IsPlan plan → IsLawful plan past → (b : ℕ) → length plan.blocks ≤ b → count_by (is_of b) (submitted plan past) ≤ cond {A = ℕ} (0 == b) 1 0
submitted_within plan past valid h b high =
    let kept = kept_within plan past valid h b in
    let all = all_of_plan plan past b in
    let none = nowhere plan b (not_beyond plan b valid high) valid in
    let outside = false_from_ne_true (is_of_intake plan b) (λ of. let within = (intake_inside plan b valid of).within in omega (arith, within, high)) in
    let no = none_accepted plan past h b outside in
    omega (arith, kept, all, none, no)

-- The laws of strips, of cancelled blocks, of notify blocks and of the intake over histories in order, from those by recursion.
use Rattle.std.proofs.Common.{◌≡◌, ⊎_elim, ℕ, ◌+◌, ◌<◌, ◌≤◌, Bool, true, false, ◌&&◌, cond, List, ◌∷◌, length, take, drop, get_or, ◌++◌, reverse, Some, None, refl, ap, sym, ◌∙◌, subst, arith}
use Rattle.std.specs.List.{list_any, slice_get, filter_map, All}
use Rattle.std.proofs.lemmas.Bool.{both_ways, cases_lt, cases_eq}
use Rattle.std.proofs.lemmas.List.{take-append-drop, reverse-reverse, take-take, get_or-take, length-take}
use Rattle.std.proofs.lemmas.List.Folds.{list_any_at}
use Rattle.std.proofs.lemmas.Option.{slice_get_within, get_or_from_slice_get, slice_get-get_or}
use Rattle.gcd_plan.specs.PlanView.{PlanView}
use Rattle.gcd_plan.specs.Made.{strip_blocks, intake_blocks}
use Rattle.gcd_plan.specs.Validity.{IsPlan}
use Rattle.gcd_plan.specs.declared.act.Act.TheVariants.{Apply}
use Rattle.gcd_plan.specs.declared.numbers.Blk.{Blk}
use Rattle.gcd_plan.specs.declared.numbers.Obj.{Obj}
use Rattle.gcd_plan.specs.declared.numbers.Run.TheVariants.{Block}
use Rattle.gcd_event.specs.declared.event.Event.{Event}
use Rattle.gcd_event.specs.declared.event.Event.TheVariants.{Start, Act as Acted, Wake, End, Accept, Shut}
use Rattle.gcd_history.specs.Runs.{starts, ends, act_at, is_started as is_started_after, is_ended as is_ended_after}
use Rattle.gcd_history.specs.Intake.{accepted, shuts}
use Rattle.gcd_history.specs.Permitted.{why as why_after, IsLawful as IsLawfulAfter}
use Rattle.gcd_history.specs.History.{why, IsLawful, is_started, is_ended, is_block_cancelled, submitted_of}
use Rattle.gcd_history.specs.Laws.{RunsBetween, AppliedStripsHaveRun, CancelledBlocksDoNothing, CancelledBlocksMayEnd, records, NotifiedOnce, AcceptsInOrder}
use Rattle.gcd_plan.proofs.Quantifiers.{list_all_get}
use Rattle.gcd_history.proofs.Lists.{reverse_push, list_any-reverse, count_by-reverse}
use Rattle.gcd_history.proofs.Permitted.Lawful.{lawful_after, lawful_take}
use Rattle.gcd_history.proofs.Blocks.CancelledStays.{cancelled_kept_on}
use Rattle.gcd_history.proofs.Blocks.CancelledBlocks.{acts_alive, may_end}
use Rattle.gcd_history.proofs.MadeBlocks.AcceptedInOrder.{so_far, so_far_is, accepted_in_order, unshut_at_accept}
use Rattle.gcd_history.proofs.MadeBlocks.StripsRun.{strip_ended, strip_unstarted, runs_since}
use Rattle.gcd_history.proofs.Waits.Pass.{front}
use Rattle.gcd_history.proofs.Blocks.NotifiedOnce.{notified, not_yet, never}
use Rattle.gcd_history.proofs.Public.Laws.{turned_at, turned_to}

-- a front has the events of its places
front_has : (h : List Event) (i k : ℕ) (e : Event) → i < k → slice_get h i ≡ Some e → slice_get (take k h) i ≡ Some e
front_has h i k e less at =
    let within : i < length h = slice_get_within h i e at in
    let long = length-take k h in
    let inside : i < length (take k h) = omega (arith, long, less, within) in
    slice_get-get_or (take k h) i e inside ∙ ap Some (get_or-take k h i e less ∙ get_or_from_slice_get h i e e at)

-- ## Strips

-- the block at a place of the strip runs between the act and the Wake
runs_between : (plan : PlanView) (h : List Event) → IsPlan plan → IsLawful plan h → (i k w v n a : ℕ) (b : Blk) (q : Obj) → slice_get h i ≡ Some (Acted w (Block b) n) → act_at plan (Block b) n ≡ Some (Apply q a) → slice_get h k ≡ Some (Wake v b) → i < k
    → All (RunsBetween h i k) (strip_blocks plan a)
unfolding IsLawful why
runs_between plan h valid lawful i k w v n a b q acted at woken less j d within =
    let e = Acted w (Block b) n in
    let until = take k h in
    let c = (get_or (strip_blocks plan a) j d).0 in
    let there : slice_get until i ≡ Some e = front_has h i k e less acted in
    let past = reverse (take i h) in
    let later = reverse (drop (i + 1) until) in
    let same : take i until ≡ take i h = take-take i k h (omega (arith, less)) in
    let split : reverse until ≡ later ++ e ∷ past = turned_to until i e there ∙ ap (λ l. later ++ e ∷ reverse l) same in
    let whole : IsLawfulAfter plan (later ++ e ∷ past) = subst (IsLawfulAfter plan) split (lawful_after plan until (lawful_take plan h k lawful)) in
    let now : why_after plan (later ++ e ∷ past) (Wake v b) ≡ None = subst (λ l. why_after plan l (Wake v b) ≡ None) split (lawful k (Wake v b) woken) in
    let ended : is_ended_after (later ++ e ∷ past) c ≡ true =
    list_all_get (λ x. is_ended_after (later ++ e ∷ past) x.0) (strip_blocks plan a) j (get_or (strip_blocks plan a) j d) (strip_ended plan later past w v n a b q whole at now) (slice_get-get_or (strip_blocks plan a) j d within) in
    let started : IsLawfulAfter plan (e ∷ past) = front plan later (e ∷ past) whole in
    let fresh : is_started_after past c ≡ false = strip_unstarted plan past w n a j b d q valid started at within in
    let one : reverse (drop i until) ++ past ≡ later ++ e ∷ past = ap (λ l. reverse (drop i until) ++ reverse l) (sym same) ∙ (sym (turned_at until i) ∙ split) in
    let since = runs_since plan (reverse (drop i until)) past c (subst (IsLawfulAfter plan) (sym one) whole) fresh (subst (λ l. is_ended_after l c ≡ true) (sym one) ended) in
    record {
      starts_once = sym (count_by-reverse (starts c) (drop i until)) ∙ since.starts_once;
      ends_once = sym (count_by-reverse (ends c) (drop i until)) ∙ since.ends_once;
    }

pub applied_strips_have_run : (plan : PlanView) (h : List Event) → IsPlan plan → IsLawful plan h → AppliedStripsHaveRun plan h
applied_strips_have_run plan h valid lawful i k w v n a b q acted at woken less = runs_between plan h valid lawful i k w v n a b q acted at woken less

-- ## Cancelled blocks

pub cancelled_blocks_do_nothing : (plan : PlanView) (h : List Event) → IsLawful plan h → CancelledBlocksDoNothing plan h
unfolding IsLawful why is_block_cancelled is_started
cancelled_blocks_do_nothing plan h lawful i w n b at =
    let alive = acts_alive plan (reverse (take i h)) w b n (lawful i (Acted w (Block b) n) at) in
    let kept = cancelled_kept_on plan (take i h) (drop i h) b.0 alive.started in
    ap (λ l. is_block_cancelled plan l b.0) (sym (take-append-drop i h)) ∙ (kept ∙ alive.active)

pub cancelled_blocks_may_end : (plan : PlanView) (h : List Event) → CancelledBlocksMayEnd plan h
unfolding why is_block_cancelled
cancelled_blocks_may_end plan h w b cancelled may =
    subst (λ l. why_after plan l (End w b) ≡ None) (sym (reverse_push h (Start w b))) (may_end plan (reverse h) w b cancelled may)

-- ## Notify blocks

by_tests : (recorded done : Bool) (n : ℕ) → (recorded ≡ true → done ≡ true → n ≡ 1) → (recorded ≡ true → done ≡ false → n ≡ 0) → (recorded ≡ false → n ≡ 0) → n ≡ cond (recorded && done) 1 0
by_tests true true n one two three = one refl refl
by_tests true false n one two three = two refl refl
by_tests false done n one two three = three refl

pub notified_once : (plan : PlanView) (h : List Event) → IsPlan plan → IsLawful plan h → NotifiedOnce plan h
unfolding submitted_of is_ended
notified_once plan h valid lawful run n b c q at =
    let past = reverse h in
    let lawful_past = lawful_after plan h lawful in
    let turned : list_any (records run n) past ≡ list_any (records run n) h = list_any-reverse (records run n) h in
    by_tests (list_any (records run n) h) (is_ended_after past b.0) _
    (λ stands ended. notified plan past run n b c q valid lawful_past at (turned ∙ stands) ended)
    (λ stands unended. not_yet plan past run n b c q valid lawful_past at (turned ∙ stands) unended)
    (λ none. never plan past run n b c q valid lawful_past at (turned ∙ none))

-- ## The intake

shut_is_other : (b : Blk) (s : ℕ) → Some (Accept b s) ≡ Some Shut → ⊥
shut_is_other b s h = cc

-- no Shut stands before an Accept
shut_before : (plan : PlanView) (h : List Event) (i k s : ℕ) (b : Blk) → why_after plan (reverse (take i h)) (Accept b s) ≡ None → slice_get h i ≡ Some (Accept b s) → slice_get h k ≡ Some Shut → k ≤ i → ⊥
shut_before plan h i k s b may accept shut back =
    ⊎_elim
    (λ same. shut_is_other b s (sym accept ∙ (ap (slice_get h) (sym same) ∙ shut)))
    (λ other.
    let less : k < i = grind (arith, back, other) in
    let there = front_has h k i Shut less shut in
    let some : list_any shuts (take i h) ≡ true = list_any_at shuts (take i h) k Shut (slice_get_within (take i h) k Shut there) (ap shuts (get_or_from_slice_get (take i h) k Shut Shut there)) in
    both_ways (list_any shuts (reverse (take i h))) (unshut_at_accept plan (reverse (take i h)) b s may) (list_any-reverse shuts (take i h) ∙ some))
    (cases_eq k i)

pub accepts_in_order : (plan : PlanView) (h : List Event) → IsLawful plan h → AcceptsInOrder plan h
unfolding IsLawful why
accepts_in_order plan h lawful = record {
  in_order =
      let same : filter_map accepted h ≡ so_far (reverse h) = ap (filter_map accepted) (sym (reverse-reverse h)) ∙ so_far_is (reverse h) in
      same ∙ (accepted_in_order plan (reverse h) (lawful_after plan h lawful) ∙ ap (λ l. take (length l) (intake_blocks plan)) (sym same));
  before_shut = λ i k s b accept shut. ⊎_elim
      (λ less. less)
      (λ back. absurd (shut_before plan h i k s b (lawful i (Accept b s) accept) accept shut back))
      (cases_lt i k);
}

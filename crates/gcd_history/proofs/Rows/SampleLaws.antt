-- How the rows of the laws show that a plan is valid, a history lawful and a run drained: by computing a test.
use Rattle.std.proofs.Common.{◌≡◌, ℕ, zero, suc, ◌+◌, ◌<◌, ◌≤◌, Bool, true, false, not, ◌&&◌, cond, ◌==◌, leb, count_by, List, [], ◌∷◌, ◌++◌, length, reverse, Option, Some, None, is_none, refl, ap, sym, ◌∙◌, subst, arith, append-nil, append_assoc}
use Rattle.std.specs.List.{list_all, range_with_len, slice_get}
use Rattle.std.specs.Option.{option_map, option_map_or, IfSome}
use Rattle.std.specs.Prelude.{codes}
use Rattle.std.specs.Str.{bytes_eq}
use Rattle.std.proofs.lemmas.Bool.{and_parts, leb-true, ltb-true, eqb-true, eq-eqb, not-true, false_from_ne_true}
use Rattle.std.proofs.lemmas.Option.{none-some}
use Rattle.std.proofs.lemmas.List.{reverse-append, reverse-reverse}
use Rattle.std.proofs.lemmas.Slice.Eq.{bytes_eq-Decides}
use Rattle.gcd_plan.specs.Limits.{max_objects, max_blocks, max_files, max_strips, max_acts, max_time}
use Rattle.gcd_plan.specs.PlanView.{PlanView, StripView}
use Rattle.gcd_plan.specs.Kinds.{is_read_kind}
use Rattle.gcd_plan.specs.Names.{is_name}
use Rattle.gcd_plan.specs.Made.{Span, is_within, spans}
use Rattle.gcd_plan.specs.Validity.{IsPlan, IsIntake, IsStrip, root_view, declared_names, has_name, names_of, act_count, is_object, is_block, is_file, submitted_blocks, reaches_root}
use Rattle.gcd_plan.specs.declared.why.Why.{Why}
use Rattle.gcd_plan.proofs.Sums.{count_by-cons}
use Rattle.gcd_plan.proofs.Apart.{stand_once, apart_from_once}
use Rattle.gcd_event.specs.declared.event.Event.{Event}
use Rattle.gcd_history.specs.Holds.{is_active as is_active_after}
use Rattle.gcd_history.specs.Submitted.{is_cancelled}
use Rattle.gcd_history.specs.Sources.{is_live_feed}
use Rattle.gcd_history.specs.Permitted.{why as why_after}
use Rattle.gcd_history.specs.History.{why, IsLawful, is_open, is_running, is_free, chain_of_run, node_of_run, is_barrier_on, has_come, is_over, has_expired, semaphore_wait_expired, limit_of, expiry_of, submitted_of, node_of, target_of, request_of, chain_of, open_beneath_of, is_active, hold_of, merged_of, running_of, choice_of, next_due_of, is_live_feed as outer_feed, has_run, group_wait_passes, semaphore_wait_passes, is_intake_open, next_of_intake}
use Rattle.gcd_history.specs.Ends.{IsDrained, is_halted, all_ended}
use Rattle.gcd_plan.proofs.Quantifiers.{list_all_get}
use Rattle.gcd_history.proofs.Permitted.Lawful.{lawful_none, lawful_more}
use Rattle.gcd_history.proofs.Public.Laws.{rest_is_quiescent}
use Rattle.gcd_history.proofs.Rows.Samples.{refused, refused_after}

-- ## A valid plan

-- what stands in a range passes, where all of it does
range_passes : (p : ℕ → Bool) (a n k : ℕ) → list_all p (range_with_len a n) ≡ true → k < n → p (a + k) ≡ true
range_passes p a zero k all h = absurd (omega arith)
range_passes p a (suc n) zero all h = let here : a + 0 ≡ a = omega arith in ap p here ∙ (and_parts (p a) _ all).0
range_passes p a (suc n) (suc k) all h =
    let there : a + suc k ≡ (a + 1) + k = omega arith in
    let low : k < n = omega arith in
    ap p there ∙ range_passes p (a + 1) n k (and_parts (p a) _ all).1 low

-- each span ends before the next ones begin
abbrev pub in_order : List Span → Bool
in_order [] = true
in_order (span ∷ rest) = list_all (λ next. leb (span.first + span.count) next.first) rest && in_order rest

-- so none that begins later has a number that stands in the first
none_later : (end b : ℕ) (rest : List Span) → list_all (λ next. leb end next.first) rest ≡ true → b < end → count_by (is_within b) rest ≡ 0
none_later end b [] all low = refl
none_later end b (span ∷ rest) all low =
    let parts = and_parts (leb end span.first) _ all in
    let high = leb-true end span.first parts.0 in
    let out : is_within b span ≡ false = false_from_ne_true (is_within b span) (λ within.
    let from = leb-true span.first b (and_parts (leb span.first b) _ within).0 in
    omega (arith, low, high, from)) in
    let step = count_by-cons (is_within b) span rest in
    let here = ap (λ v. cond {A = ℕ} v 1 0) out in
    let later = none_later end b rest parts.1 low in
    omega (arith, step, here, later)

-- and each number stands in one at most
apart_in_order : (all : List Span) (b : ℕ) → in_order all ≡ true → count_by (is_within b) all ≤ 1
apart_in_order [] b h = omega arith
apart_in_order (span ∷ rest) b h =
    let parts = and_parts (list_all (λ next. leb (span.first + span.count) next.first) rest) (in_order rest) h in
    let step = count_by-cons (is_within b) span rest in
    elim (is_within b span) as (λ v. is_within b span ≡ v → count_by (is_within b) (span ∷ rest) ≡ cond {A = ℕ} v 1 0 + count_by (is_within b) rest → count_by (is_within b) (span ∷ rest) ≤ 1) [
      | true ↦ λ e more.
          let high = ltb-true b (span.first + span.count) (and_parts (leb span.first b) _ e).1 in
          let none = none_later (span.first + span.count) b rest parts.0 high in
          omega (arith, more, none)
      | false ↦ λ e same. let later = apart_in_order rest b parts.1 in omega (arith, same, later)
    ] refl step

-- the plan is valid, as a test
abbrev pub is_plan : PlanView → Bool
is_plan plan =
    (leb (length plan.objects) max_objects && (leb (length plan.blocks) max_blocks && (leb (length plan.files) max_files && (leb (length plan.strips) max_strips && leb (act_count plan) max_acts))))
    && ((leb 1 plan.until && leb plan.until max_time)
    && (((list_all is_name (declared_names plan) && list_all (has_name plan) (range_with_len 0 (length plan.blocks))) && stand_once bytes_eq (λ n. n) (names_of plan))
    && ((list_all (is_object plan) plan.objects && (list_all (is_block plan) plan.blocks && list_all is_file plan.files))
    && (stand_once (λ n c. c.0 == n) (λ c. c.0) (submitted_blocks plan) && (list_all (reaches_root plan) (range_with_len 0 (length plan.objects)) && in_order (spans plan))))))

pub plan_with : (plan : PlanView) → slice_get plan.objects 0 ≡ Some root_view → option_map (λ b. b.name) (slice_get plan.blocks 0) ≡ Some (codes "main") → option_map_or (λ b. is_none b.work) (slice_get plan.blocks 0) false ≡ true → is_plan plan ≡ true → IfSome plan.intake (IsIntake plan) → ((a : ℕ) (s : StripView) → slice_get plan.strips a ≡ Some s → IsStrip plan s) → IsPlan plan
plan_with plan root main idle test intake strips =
    let limits = and_parts _ _ test in
    let few_objects = and_parts (leb (length plan.objects) max_objects) _ limits.0 in
    let few_blocks = and_parts (leb (length plan.blocks) max_blocks) _ few_objects.1 in
    let few_files = and_parts (leb (length plan.files) max_files) _ few_blocks.1 in
    let few_rest = and_parts (leb (length plan.strips) max_strips) (leb (act_count plan) max_acts) few_files.1 in
    let until = and_parts (leb 1 plan.until && leb plan.until max_time) _ limits.1 in
    let until_parts = and_parts (leb 1 plan.until) (leb plan.until max_time) until.0 in
    let named = list_all is_name (declared_names plan) && list_all (has_name plan) (range_with_len 0 (length plan.blocks)) in
    let names = and_parts (named && stand_once bytes_eq (λ n. n) (names_of plan)) _ until.1 in
    let name_parts = and_parts named (stand_once bytes_eq (λ n. n) (names_of plan)) names.0 in
    let given = and_parts (list_all is_name (declared_names plan)) (list_all (has_name plan) (range_with_len 0 (length plan.blocks))) name_parts.0 in
    let kinds = and_parts (list_all (is_object plan) plan.objects && (list_all (is_block plan) plan.blocks && list_all is_file plan.files)) _ names.1 in
    let objects = and_parts (list_all (is_object plan) plan.objects) _ kinds.0 in
    let blocks = and_parts (list_all (is_block plan) plan.blocks) (list_all is_file plan.files) objects.1 in
    let last = and_parts (stand_once (λ n c. c.0 == n) (λ c. c.0) (submitted_blocks plan)) (list_all (reaches_root plan) (range_with_len 0 (length plan.objects)) && in_order (spans plan)) kinds.1 in
    let ends = and_parts (list_all (reaches_root plan) (range_with_len 0 (length plan.objects))) (in_order (spans plan)) last.1 in
    record {
      root = root;
      main = main;
      main_idle = idle;
      few_objects = leb-true (length plan.objects) max_objects few_objects.0;
      few_blocks = leb-true (length plan.blocks) max_blocks few_blocks.0;
      few_files = leb-true (length plan.files) max_files few_files.0;
      few_strips = leb-true (length plan.strips) max_strips few_rest.0;
      few_acts = leb-true (act_count plan) max_acts few_rest.1;
      until_low = leb-true 1 plan.until until_parts.0;
      until_high = leb-true plan.until max_time until_parts.1;
      names = given.0;
      block_names = λ k within. let same : 0 + k ≡ k = omega arith in subst (λ n. has_name plan n ≡ true) same (range_passes (has_name plan) 0 (length plan.blocks) k given.1 within);
      names_apart = apart_from_once bytes_eq (λ n. n) (names_of plan) (λ k n e. (bytes_eq-Decides k n).0 e) (λ n. (bytes_eq-Decides n n).1 refl) name_parts.1;
      objects = objects.0;
      blocks = blocks.0;
      files = blocks.1;
      intake = intake;
      strips = strips;
      apart = λ k. apart_in_order (spans plan) k ends.1;
      once = apart_from_once (λ n c. c.0 == n) (λ c. c.0) (submitted_blocks plan) (λ n c e. sym (eqb-true c.0 n e)) (λ c. eq-eqb c.0 c.0 refl) last.0;
      targets = λ o within. let same : 0 + o ≡ o = omega arith in subst (λ n. reaches_root plan n ≡ true) same (range_passes (reaches_root plan) 0 (length plan.objects) o ends.0 within);
    }

-- a plan that has no intake and no strip
pub plan_from : (plan : PlanView) → slice_get plan.objects 0 ≡ Some root_view → option_map (λ b. b.name) (slice_get plan.blocks 0) ≡ Some (codes "main") → option_map_or (λ b. is_none b.work) (slice_get plan.blocks 0) false ≡ true → is_plan plan ≡ true → plan.intake ≡ None → plan.strips ≡ [] → IsPlan plan
plan_from plan root main idle test no_intake no_strip =
    plan_with plan root main idle test (subst (λ o. IfSome o (IsIntake plan)) (sym no_intake) tt) (λ a s at. absurd (none-some s (sym (ap (λ l. slice_get l a) no_strip) ∙ at)))

-- ## A lawful history

lawful_on : (plan : PlanView) (past events : List Event) → IsLawful plan (reverse past) → refused_after plan past events ≡ None → IsLawful plan (reverse past ++ events)
unfolding why
lawful_on plan past [] before none = subst (IsLawful plan) (sym (append-nil (reverse past))) before
lawful_on plan past (e ∷ later) before none =
    elim (why_after plan past e) as (λ o. why_after plan past e ≡ o → elim o as (λ _. Option (ℕ × Why)) [ None ↦ refused_after plan (e ∷ past) later | Some w ↦ Some (length past, w) ] ≡ None → IsLawful plan (reverse past ++ e ∷ later)) [
      | None ↦ λ may rest.
          let now : why plan (reverse past) e ≡ None = subst (λ k. why_after plan k e ≡ None) (sym (reverse-reverse past)) may in
          let more : IsLawful plan (reverse (e ∷ past)) = subst (IsLawful plan) (sym (reverse-append (e ∷ []) past)) (lawful_more plan (reverse past) e before now) in
          let whole = lawful_on plan (e ∷ past) later more rest in
          subst (IsLawful plan) (ap (λ l. l ++ later) (reverse-append (e ∷ []) past) ∙ append_assoc (reverse past) (e ∷ []) later) whole
      | Some w ↦ λ may some. cc
    ] refl none

-- where no event of the list is refused, the list is lawful
pub lawful_row : (plan : PlanView) (h : List Event) → refused plan h ≡ None → IsLawful plan h
lawful_row plan h none = lawful_on plan [] h (lawful_none plan) none

-- ## A drained run

-- opens the words of a history that rows speak of
unfoldable pub words_of_history : Unit {0}
unfolding is_open is_running is_free chain_of_run node_of_run is_barrier_on has_come is_over has_expired semaphore_wait_expired limit_of expiry_of submitted_of node_of target_of request_of chain_of open_beneath_of is_active hold_of merged_of running_of choice_of next_due_of outer_feed all_ended is_halted has_run why group_wait_passes semaphore_wait_passes is_intake_open next_of_intake
words_of_history = tt

-- a plan without read sources has no live feed
no_feed : (plan : PlanView) (h : List Event) → list_all (λ obj. not (is_read_kind obj.kind)) plan.objects ≡ true → (s : ℕ) → outer_feed plan h s ≡ false
unfolding outer_feed is_live_feed
no_feed plan h none s =
    elim (slice_get plan.objects s) as (λ k. slice_get plan.objects s ≡ k → (option_map_or is_read_kind (option_map (λ obj. obj.kind) k) false && (is_active_after plan (reverse h) s && not (is_cancelled plan (reverse h) s))) ≡ false) [
      | None ↦ λ at. refl
      | Some obj ↦ λ at. ap (λ v. v && (is_active_after plan (reverse h) s && not (is_cancelled plan (reverse h) s))) (not-true (is_read_kind obj.kind) (list_all_get (λ k. not (is_read_kind k.kind)) plan.objects s obj none at))
    ] refl

-- where nothing goes on in a valid plan's lawful history, and each submitted block has ended, it is drained
pub drained_row : (plan : PlanView) (h : List Event) → IsPlan plan → IsLawful plan h
    → list_all (λ obj. not (is_read_kind obj.kind)) plan.objects ≡ true → is_halted h ≡ false → running_of plan h ≡ 0 → choice_of plan h 0 0 ≡ None → expiry_of plan h ≡ None → next_due_of plan h ≡ None → is_intake_open plan h ≡ false → all_ended plan h ≡ true → IsDrained plan h
drained_row plan h valid lawful feedless on idle none unexpiring timeless shut ended = record {
  quiescent = rest_is_quiescent plan h valid lawful (record { unhalted = on; idle = idle; no_choice = none; no_expiry = unexpiring; no_time = timeless; no_feed = no_feed plan h feedless; no_intake = shut });
  ended = ended;
}

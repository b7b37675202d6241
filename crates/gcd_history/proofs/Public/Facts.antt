-- The facts over histories in order, from those by recursion.
use Rattle.std.proofs.Common.{◌≡◌, ℕ, true, false, List, [], ◌∷◌, ◌++◌, reverse, take, Some, is_some, is_none, ap, sym, ◌∙◌, subst, ◌||◌, ⊎_elim}
use Rattle.std.specs.Option.{option_map_or}
use Rattle.std.proofs.lemmas.Bool.{and_parts, lt-ltb, false_from_ne_true, or_left, or_cases}
use Rattle.std.proofs.lemmas.List.{reverse-append, append-nil, reverse-reverse}
use Rattle.gcd_plan.specs.Limits.{max_workers}
use Rattle.gcd_plan.specs.PlanView.{PlanView}
use Rattle.gcd_plan.specs.Validity.{IsPlan}
use Rattle.gcd_plan.specs.declared.numbers.Blk.{Blk}
use Rattle.gcd_plan.specs.declared.numbers.Run.TheVariants.{Block}
use Rattle.gcd_event.specs.declared.event.Event.{Event}
use Rattle.gcd_history.specs.Runs.{is_open}
use Rattle.gcd_history.specs.Tree.{target, open_beneath}
use Rattle.gcd_history.specs.Holds.{is_active as is_active_after}
use Rattle.gcd_history.specs.Submitted.{is_cancelled as is_cancelled_after}
use Rattle.gcd_history.specs.Sources.{is_live_feed as is_live_feed_after}
use Rattle.gcd_history.specs.Parked.{has_run as has_run_after, parked_by, awaited, is_parked, may_wake, is_over as is_over_after}
use Rattle.gcd_history.specs.Permitted.{IsLawful as IsLawfulAfter}
use Rattle.gcd_history.specs.History.{why, IsLawful, open_runs_of, has_run, is_running, running_of, awaited_of, is_over, request_of, target_of, open_beneath_of, is_active, is_cancelled, is_live_feed}
use Rattle.gcd_history.specs.Ends.{is_halted}
use Rattle.gcd_history.specs.Choice.{worker_of}
use Rattle.gcd_history.specs.Facts.{HasOneRun, OpenOnce, GivesToFree, RunsGoOn, IsFreeWorker, FreeWorkersAreAlike, wakes, MayWakeUntilWoken, WakesArePermitted, AllFit, OnlyActiveMove, TargetsChangeAlone, StaysActive, StaysCancelled, is_dead_feed, is_of_feed, FeedsDie, DeadFeedsStay, DeadFeedsAreSilent}
use Rattle.gcd_history.proofs.Lists.{reverse_push, list_any-reverse}
use Rattle.gcd_plan.proofs.Options.{none_from_is_none}
use Rattle.gcd_history.proofs.Permitted.Lawful.{lawful_after}
use Rattle.gcd_history.proofs.Permitted.Fitting.{permitted_fits}
use Rattle.gcd_history.proofs.Runs.OneRun.{one_run, gives_to_idle, idle_has_none}
use Rattle.gcd_history.proofs.Runs.OpenOnce.{stands_once}
use Rattle.gcd_history.proofs.Waits.Woken.{parked_facts, due_on}
use Rattle.gcd_history.proofs.Permitted.Quiet.{all_free, alike, own_event, wake_permitted}
use Rattle.gcd_history.proofs.Sources.FeedsDie.{active_on, cancelled_on, dies, cancelled_silent, halted_ends}
use Rattle.gcd_history.proofs.Tree.MovesAlone.{moving_made_active, changes_alone}
use Rattle.std.specs.List.{list_any}

pub has_one_run : (plan : PlanView) (h : List Event) → IsLawful plan h → HasOneRun plan h
unfolding has_run
has_one_run plan h lawful w r q r_own q_own = one_run plan (reverse h) (lawful_after plan h lawful) w r q r_own q_own

pub gives_to_free : (plan : PlanView) (h : List Event) → IsLawful plan h → GivesToFree plan h
unfolding IsLawful why has_run
gives_to_free plan h lawful i e at gives run =
    let past = reverse (take i h) in
    let idle = gives_to_idle plan past e (lawful i e at) gives in
    false_from_ne_true (has_run_after plan past (worker_of e) run) (λ own. idle_has_none plan past (worker_of e) run idle own)

pub is_open_once : (plan : PlanView) (h : List Event) → IsLawful plan h → OpenOnce h
unfolding open_runs_of
is_open_once plan h lawful run = stands_once plan (reverse h) run (lawful_after plan h lawful)

pub runs_go_on : (plan : PlanView) (h : List Event) → IsPlan plan → IsLawful plan h → is_halted h ≡ false → RunsGoOn plan h
unfolding is_halted is_running has_run why
runs_go_on plan h valid lawful on run running =
    let parts = and_parts (is_open (reverse h) run) (is_none (parked_by plan (reverse h) run)) running in
    let own = own_event plan (reverse h) valid (lawful_after plan h lawful) on run parts.0 (none_from_is_none (parked_by plan (reverse h) run) parts.1) in
    record { event = own.event; permitted = own.permitted_now; own = own.of_run; by = own.by }

pub free_alike : (plan : PlanView) (h : List Event) → FreeWorkersAreAlike plan h
unfolding has_run why
free_alike plan h e w none free fits may = alike plan (reverse h) e w (lt-ltb w max_workers fits) none free may

pub all_workers_free : (plan : PlanView) (h : List Event) (w : ℕ) → running_of plan h ≡ 0 → IsFreeWorker plan h w
unfolding has_run running_of
all_workers_free plan h w quiet = all_free plan (reverse h) w quiet

pub wakes_due : (plan : PlanView) (h later : List Event) → IsLawful plan (h ++ later) → MayWakeUntilWoken plan h later
unfolding awaited_of is_over
wakes_due plan h later lawful b may none =
    let split = reverse-append h later in
    let whole : IsLawfulAfter plan (reverse later ++ reverse h) = subst (IsLawfulAfter plan) split (lawful_after plan (h ++ later) lawful) in
    let on = due_on plan (reverse later) (reverse h) whole (record { 0 = b }) may.awaited may.parked may.over (list_any-reverse (wakes b) later ∙ none) in
    record {
      awaited = may.awaited;
      parked = subst (λ k. awaited plan k (Block (record { 0 = b })) ≡ Some may.awaited) (sym split) on.0;
      over = subst (λ k. is_over_after plan k may.awaited ≡ true) (sym split) on.1;
    }

pub wakes_permitted : (plan : PlanView) (h : List Event) → IsLawful plan h → is_halted h ≡ false → WakesArePermitted plan h
unfolding is_halted awaited_of is_over has_run why is_parked may_wake
wakes_permitted plan h lawful on b w may free fits =
    let past = reverse h in
    let blk : Blk = record { 0 = b } in
    wake_permitted plan past blk w (lawful_after plan h lawful) on (lt-ltb w max_workers fits) free
    (parked_facts plan past blk may.awaited may.parked).live
    (ap is_some may.parked)
    (ap (λ o. option_map_or (is_over_after plan past) o false) may.parked ∙ may.over)

pub all_fit : (plan : PlanView) (h : List Event) → IsPlan plan → IsLawful plan h → AllFit h
unfolding IsLawful
all_fit plan h valid lawful i e at = permitted_fits plan _ e valid (lawful i e at)

pub only_active_move : (plan : PlanView) (h : List Event) → IsPlan plan → IsLawful plan h → OnlyActiveMove plan h
unfolding request_of
only_active_move plan h valid lawful o t request = moving_made_active plan (reverse h) valid (lawful_after plan h lawful) o (ap is_some request)

pub targets_change_alone : (plan : PlanView) (h : List Event) (e : Event) → IsPlan plan → IsLawful plan (h ++ e ∷ []) → TargetsChangeAlone plan h e
unfolding target_of open_beneath_of
targets_change_alone plan h e valid lawful o changed =
    let turned = reverse_push h e in
    let whole : IsLawfulAfter plan (e ∷ reverse h) = subst (IsLawfulAfter plan) turned (lawful_after plan (h ++ e ∷ []) lawful) in
    ap (λ k. open_beneath plan k o) turned
    ∙ changes_alone plan e (reverse h) valid whole o (λ same. changed (ap (λ k. target plan k o) turned ∙ same))

pub stays_active : (plan : PlanView) (h later : List Event) → StaysActive plan h later
unfolding is_active
stays_active plan h later o on = ap (λ l. is_active_after plan l o) (reverse-append h later) ∙ active_on plan (reverse later) (reverse h) o on

pub stays_cancelled : (plan : PlanView) (h later : List Event) → StaysCancelled plan h later
unfolding is_cancelled
stays_cancelled plan h later s over = ap (λ l. is_cancelled_after plan l s) (reverse-append h later) ∙ cancelled_on plan (reverse later) (reverse h) s over

pub feeds_die : (plan : PlanView) (h later : List Event) → FeedsDie plan h later
unfolding is_live_feed is_cancelled is_dead_feed
feeds_die plan h later s live gone =
    let split = reverse-append h later in
    or_left (is_cancelled plan (h ++ later) s) (is_halted (h ++ later))
    (ap (λ l. is_cancelled_after plan l s) split ∙ dies plan (reverse later) (reverse h) s live (sym (ap (λ l. is_live_feed_after plan l s) split) ∙ gone))

-- after a halt nothing has come
nothing_later : (plan : PlanView) (h later : List Event) → IsLawful plan (h ++ later) → is_halted h ≡ true → later ≡ []
unfolding is_halted
nothing_later plan h later lawful halted =
    let whole : IsLawfulAfter plan (reverse later ++ reverse h) = subst (IsLawfulAfter plan) (reverse-append h later) (lawful_after plan (h ++ later) lawful) in
    let none = halted_ends plan (reverse later) (reverse h) whole halted in
    sym (reverse-reverse later) ∙ ap reverse none

pub dead_feeds_stay : (plan : PlanView) (h later : List Event) → IsLawful plan (h ++ later) → DeadFeedsStay plan h later
unfolding is_dead_feed
dead_feeds_stay plan h later lawful s dead =
    ⊎_elim
    (λ over. or_left (is_cancelled plan (h ++ later) s) (is_halted (h ++ later)) (stays_cancelled plan h later s over))
    (λ halted. subst (λ l. (is_cancelled plan (h ++ l) s || is_halted (h ++ l)) ≡ true) (sym (nothing_later plan h later lawful halted))
    (subst (λ l. (is_cancelled plan l s || is_halted l) ≡ true) (sym (append-nil h)) dead))
    (or_cases (is_cancelled plan h s) (is_halted h) dead)

pub dead_feeds_are_silent : (plan : PlanView) (h later : List Event) → IsLawful plan (h ++ later) → DeadFeedsAreSilent plan h later
unfolding is_dead_feed is_cancelled
dead_feeds_are_silent plan h later lawful s dead =
    let whole : IsLawfulAfter plan (reverse later ++ reverse h) = subst (IsLawfulAfter plan) (reverse-append h later) (lawful_after plan (h ++ later) lawful) in
    ⊎_elim
    (λ over. sym (list_any-reverse (is_of_feed s) later) ∙ cancelled_silent plan (reverse later) (reverse h) s whole over)
    (λ halted. ap (list_any (is_of_feed s)) (nothing_later plan h later lawful halted))
    (or_cases (is_cancelled plan h s) (is_halted h) dead)

-- An Accept that may come may still come after events that are not of callers, where these do not halt the run.
use Rattle.std.proofs.Common.{◌≡◌, ℕ, false, not, ◌==◌, List, [], ◌∷◌, ◌++◌, reverse, Some, None, is_none, refl, ap, ◌∙◌, sym, subst}
use Rattle.std.specs.List.{list_any}
use Rattle.std.specs.Option.{option_map_or}
use Rattle.std.proofs.lemmas.Bool.{eq-eqb, or_parts}
use Rattle.std.proofs.lemmas.List.{reverse-append}
use Rattle.gcd_plan.specs.PlanView.{PlanView}
use Rattle.gcd_plan.specs.declared.numbers.Blk.{Blk}
use Rattle.gcd_plan.specs.declared.why.Why.TheVariants.{NotNext, NotLive}
use Rattle.gcd_event.specs.declared.event.Event.{Event}
use Rattle.gcd_event.specs.declared.event.Event.TheVariants.{Accept, Shut}
use Rattle.gcd_history.specs.Intake.{is_intake_open, next_of_intake, accepted}
use Rattle.gcd_history.specs.Permitted.{why as why_after, is_halted as is_halted_after}
use Rattle.gcd_history.specs.Facts.{is_of_callers, AcceptsStayPermitted}
use Rattle.gcd_history.specs.History.{why}
use Rattle.gcd_history.specs.Ends.{is_halted}
use Rattle.gcd_history.proofs.Lists.{list_any-reverse}
use Rattle.gcd_history.proofs.Permitted.Reasons.{allowed, at_accept}
use Rattle.gcd_history.proofs.Permitted.Quiet.{none_first, none_why}

-- an event that is not of callers accepts no block
pub uncalled_accepts_none : (e : Event) → is_of_callers e ≡ false → accepted e ≡ None
uncalled_accepts_none (Accept b s) other = cc
uncalled_accepts_none e other = refl

-- the block that is accepted next stays so
pub next_kept : (plan : PlanView) (e : Event) (past : List Event) → is_of_callers e ≡ false → next_of_intake plan (e ∷ past) ≡ next_of_intake plan past
unfolding next_of_intake is_intake_open
next_kept plan (Accept b s) past other = cc
next_kept plan Shut past other = cc
next_kept plan e past other = refl

next_kept_on : (plan : PlanView) (later past : List Event) → list_any is_of_callers later ≡ false → next_of_intake plan (later ++ past) ≡ next_of_intake plan past
next_kept_on plan [] past none = refl
next_kept_on plan (e ∷ later) past none =
    let parts = or_parts (is_of_callers e) (list_any is_of_callers later) none in
    next_kept plan e (later ++ past) parts.0 ∙ next_kept_on plan later past parts.1

-- so its Accept may come
still_accepted : (plan : PlanView) (later past : List Event) (b : Blk) (s : ℕ) → why_after plan past (Accept b s) ≡ None → list_any is_of_callers later ≡ false → is_halted_after (later ++ past) ≡ false → why_after plan (later ++ past) (Accept b s) ≡ None
still_accepted plan later past b s may none on =
    let next = next_of_intake plan (later ++ past) in
    let is : next ≡ Some b = next_kept_on plan later past none ∙ at_accept plan past b s may in
    let same = not (option_map_or (λ c. c.0 == b.0) next false) in
    none_why plan (later ++ past) (Accept b s) on (allowed plan past (Accept b s) may).known
    (none_first NotLive (is_none next) ((NotNext, same) ∷ []) (ap is_none is)
    (none_first NotNext same [] (ap (λ o. not (option_map_or (λ c. c.0 == b.0) o false)) is ∙ ap not (eq-eqb b.0 b.0 refl)) refl))

pub accepts_stay_permitted : (plan : PlanView) (h later : List Event) → AcceptsStayPermitted plan h later
unfolding why is_halted
accepts_stay_permitted plan h later b s may none on =
    let split = reverse-append h later in
    subst (λ l. why_after plan l (Accept b s) ≡ None) (sym split)
    (still_accepted plan (reverse later) (reverse h) b s may (list_any-reverse is_of_callers later ∙ none) (subst (λ l. is_halted_after l ≡ false) split on))

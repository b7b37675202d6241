-- What holds of each event of a history, an event on.
use Rattle.std.proofs.Common.{◌≡◌, ◌<◌, ◌≤◌, ◌∙◌, ◌⊎◌, ℕ, List, [], ◌∷◌, ◌++◌, length, None, Some, IsTrue, ap, sym, subst, arith, ⊎_elim}
use Rattle.std.specs.Prelude.{slice_get, take}
use Rattle.std.proofs.lemmas.Bool.{cases_lt}
use Rattle.std.proofs.lemmas.List.{length_push, take-append-le, take_at}
use Rattle.std.proofs.lemmas.Option.{same_Some, slice_get_within}
use Rattle.gcd_plan.specs.PlanView.{PlanView}
use Rattle.gcd_plan.proofs.Places.{slice_get-append_left, slice_get-append_seam}
use Rattle.gcd_event.specs.declared.event.Event.{Event}
use Rattle.gcd_history.specs.Choice.{is_work, worker_of}
use Rattle.gcd_history.specs.History.{choice_of}
use Rattle.gcd_history.specs.Intake.{accepted, AcceptsNone}
use Rattle.gcd_loop.specs.Followed.{FollowsChoice, FollowsFrom, IsAllWorker0, IsOfWorkers}

-- what holds of each event of a history at its place, and of one more
each_more_at : (P : ℕ → List Event → Event → Type 0) (h : List Event) (e : Event)
    → ((i : ℕ) (x : Event) → slice_get h i ≡ Some x → P i (take i h) x) → P (length h) h e
    → (i : ℕ) (x : Event) → slice_get (h ++ e ∷ []) i ≡ Some x → P i (take i (h ++ e ∷ [])) x
each_more_at P h e each last i x at =
    let within : i < length (h ++ e ∷ []) = slice_get_within (h ++ e ∷ []) i x at in
    let long = length_push h e in
    ⊎_elim
    (λ (early : i < length h).
    let there : slice_get h i ≡ Some x = sym (slice_get-append_left h (e ∷ []) i early) ∙ at in
    subst (λ (k : List Event). P i k x) (sym (take-append-le i h (e ∷ []) (omega arith))) (each i x there))
    (λ (late : length h ≤ i).
    let same : length h ≡ i = omega (arith, long, within, late) in
    let it : e ≡ x = same_Some e x (sym (slice_get-append_seam h e []) ∙ ap (slice_get (h ++ e ∷ [])) same ∙ at) in
    subst (λ (k : List Event). P i k x) (sym (take_at h (e ∷ []) i same)) (subst (λ (n : ℕ). P n h x) same (subst (λ (y : Event). P (length h) h y) it last)))
    (cases_lt i (length h))

-- what holds of each event of a history, and of one more
pub each_more : (P : List Event → Event → Type 0) (h : List Event) (e : Event)
    → ((i : ℕ) (x : Event) → slice_get h i ≡ Some x → P (take i h) x) → P h e
    → (i : ℕ) (x : Event) → slice_get (h ++ e ∷ []) i ≡ Some x → P (take i (h ++ e ∷ [])) x
each_more P h e each last = each_more_at (λ i. P) h e each last

pub follows_more : (plan : PlanView) (h : List Event) (e : Event) → FollowsChoice plan h → (IsTrue (is_work e) → choice_of plan h 0 0 ≡ Some e)
    → FollowsChoice plan (h ++ e ∷ [])
follows_more plan h e follows chosen = each_more (λ k x. IsTrue (is_work x) → choice_of plan k 0 0 ≡ Some x) h e follows chosen

pub alone_more : (h : List Event) (e : Event) → IsAllWorker0 h → worker_of e ≡ 0 → IsAllWorker0 (h ++ e ∷ [])
alone_more h e alone by = each_more (λ k x. worker_of x ≡ 0) h e alone by

pub accepts_none_more : (h : List Event) (e : Event) → AcceptsNone h → accepted e ≡ None → AcceptsNone (h ++ e ∷ [])
accepts_none_more h e none last = each_more (λ k x. accepted x ≡ None) h e none last

pub workers_more : (workers : ℕ) (h : List Event) (e : Event) → IsOfWorkers workers h → worker_of e < workers → IsOfWorkers workers (h ++ e ∷ [])
workers_more workers h e by last = each_more (λ k x. worker_of x < workers) h e by last

pub follows_none : (plan : PlanView) → FollowsChoice plan []
follows_none plan i e at = cc

pub accepts_none_first : AcceptsNone []
accepts_none_first i e at = cc

pub alone_none : IsAllWorker0 []
alone_none i e at = cc

pub workers_none : (workers : ℕ) → IsOfWorkers workers []
workers_none workers i e at = cc

-- where each event is worker 0's it is of one of the workers
pub workers_of_alone : (workers : ℕ) (h : List Event) → 0 < workers → IsAllWorker0 h → IsOfWorkers workers h
workers_of_alone workers h some alone i e at = let by = alone i e at in omega (arith, some, by)

-- ## From a place on

follows_from_more : (n : ℕ) (plan : PlanView) (h : List Event) (e : Event) → FollowsFrom n plan h → (IsTrue (is_work e) → choice_of plan h 0 0 ≡ Some e)
    → FollowsFrom n plan (h ++ e ∷ [])
follows_from_more n plan h e follows chosen =
    each_more_at (λ i k x. n ≤ i → IsTrue (is_work x) → choice_of plan k 0 0 ≡ Some x) h e follows (λ low. chosen)

-- nothing came, or this event
pub follows_only : (n : ℕ) (plan : PlanView) (h k : List Event) (e : Event) → (k ≡ h) ⊎ (k ≡ h ++ e ∷ [])
    → (IsTrue (is_work e) → choice_of plan h 0 0 ≡ Some e) → FollowsFrom n plan h → FollowsFrom n plan k
follows_only n plan h k e only chosen follows =
    ⊎_elim (λ (same : k ≡ h). subst (FollowsFrom n plan) (sym same) follows)
    (λ (more : k ≡ h ++ e ∷ []). subst (FollowsFrom n plan) (sym more) (follows_from_more n plan h e follows chosen))
    only

-- from its end on nothing stands
pub follows_nothing : (plan : PlanView) (h : List Event) → FollowsFrom (length h) plan h
follows_nothing plan h i e at low work = let within : i < length h = slice_get_within h i e at in absurd (omega (arith, within, low))

-- it follows up to a place, and from there on
pub follows_on : (plan : PlanView) (h rest : List Event) → FollowsChoice plan h → FollowsFrom (length h) plan (h ++ rest) → FollowsChoice plan (h ++ rest)
follows_on plan h rest first later i e at work =
    ⊎_elim
    (λ (early : i < length h).
    subst (λ (k : List Event). choice_of plan k 0 0 ≡ Some e) (sym (take-append-le i h rest (omega arith)))
    (first i e (sym (slice_get-append_left h rest i early) ∙ at) work))
    (λ (late : length h ≤ i). later i e at late work)
    (cases_lt i (length h))

-- Lawful histories, an event on, and by recursion.
use Rattle.std.proofs.Common.{◌≡◌, ℕ, ◌+◌, ◌<◌, List, [], ◌∷◌, ◌++◌, length, take, drop, get_or, Some, None, refl, ap, sym, ◌∙◌, subst, arith, ⊎_elim, reverse}
use Rattle.std.specs.List.{slice_get}
use Rattle.std.proofs.lemmas.Bool.{cases_lt}
use Rattle.std.proofs.lemmas.List.{take_more, take-append-le, take-append-drop, take_at, length_push, reverse-append, reverse-reverse}
use Rattle.std.proofs.lemmas.Option.{slice_get_within, same_Some}
use Rattle.gcd_plan.specs.PlanView.{PlanView}
use Rattle.gcd_event.specs.declared.event.Event.{Event}
use Rattle.gcd_history.specs.Permitted.{why as why_after, IsLawful as IsLawfulAfter}
use Rattle.gcd_history.specs.History.{why, IsLawful}
use Rattle.gcd_plan.proofs.Places.{slice_get-append_left, slice_get-append_seam}

pub lawful_none : (plan : PlanView) → IsLawful plan []
unfolding IsLawful
lawful_none plan i e at = cc

pub lawful_more : (plan : PlanView) (h : List Event) (e : Event) → IsLawful plan h → why plan h e ≡ None → IsLawful plan (h ++ e ∷ [])
unfolding IsLawful
lawful_more plan h e before now i x at =
    let within : i < length (h ++ e ∷ []) = slice_get_within (h ++ e ∷ []) i x at in
    let long = length_push h e in
    ⊎_elim
    (λ early.
    let there : slice_get h i ≡ Some x = sym (slice_get-append_left h (e ∷ []) i early) ∙ at in
    let front : take i (h ++ e ∷ []) ≡ take i h = take-append-le i h (e ∷ []) (omega arith) in
    subst (λ k. why plan k x ≡ None) (sym front) (before i x there))
    (λ late.
    let same : length h ≡ i = omega (arith, long) in
    let it : e ≡ x = same_Some e x (sym (slice_get-append_seam h e []) ∙ ap (slice_get (h ++ e ∷ [])) same ∙ at) in
    let front : take i (h ++ e ∷ []) ≡ h = take_at h (e ∷ []) i same in
    subst (λ k. why plan k x ≡ None) (sym front) (subst (λ y. why plan h y ≡ None) it now))
    (cases_lt i (length h))

pub lawful_front : (plan : PlanView) (h rest : List Event) → IsLawful plan (h ++ rest) → IsLawful plan h
unfolding IsLawful
lawful_front plan h rest whole i x at =
    let within : i < length h = slice_get_within h i x at in
    let front : take i (h ++ rest) ≡ take i h = take-append-le i h rest (omega arith) in
    subst (λ k. why plan k x ≡ None) front (whole i x (slice_get-append_left h rest i within ∙ at))

pub lawful_next : (plan : PlanView) (h : List Event) (e : Event) (rest : List Event) → IsLawful plan (h ++ e ∷ rest) → why plan h e ≡ None
unfolding IsLawful
lawful_next plan h e rest whole =
    subst (λ k. why plan k e ≡ None) (take_at h (e ∷ rest) (length h) refl) (whole (length h) e (slice_get-append_seam h e rest))

pub lawful_take : (plan : PlanView) (h : List Event) (i : ℕ) → IsLawful plan h → IsLawful plan (take i h)
lawful_take plan h i whole = lawful_front plan (take i h) (drop i h) (subst (IsLawful plan) (sym (take-append-drop i h)) whole)

-- the same by recursion on the past, by which laws are proved
after_reverse : (plan : PlanView) (past : List Event) → IsLawful plan (reverse past) → IsLawfulAfter plan past
unfolding why
after_reverse plan [] h = tt
after_reverse plan (e ∷ past) h =
    let split : reverse (e ∷ past) ≡ reverse past ++ e ∷ [] = reverse-append (e ∷ []) past in
    let whole : IsLawful plan (reverse past ++ e ∷ []) = subst (IsLawful plan) split h in
    let next : why_after plan (reverse (reverse past)) e ≡ None = lawful_next plan (reverse past) e [] whole in
    (after_reverse plan past (lawful_front plan (reverse past) (e ∷ []) whole), subst (λ k. why_after plan k e ≡ None) (reverse-reverse past) next)

pub lawful_after : (plan : PlanView) (h : List Event) → IsLawful plan h → IsLawfulAfter plan (reverse h)
lawful_after plan h lawful = after_reverse plan (reverse h) (subst (IsLawful plan) (sym (reverse-reverse h)) lawful)

-- one event of a list more
pub lawful_at : (plan : PlanView) (events : List Event) (i : ℕ) (d : Event) → i < length events → IsLawful plan (take i events) → why plan (take i events) (get_or events i d) ≡ None → IsLawful plan (take (i + 1) events)
lawful_at plan events i d h before now = subst (IsLawful plan) (sym (take_more events i d h)) (lawful_more plan (take i events) (get_or events i d) before now)

pub ruleset lawful_steps = (lawful_none, lawful_at)

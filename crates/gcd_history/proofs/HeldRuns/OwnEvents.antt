-- What a worker holds is told from its own events, and no event follows where a run has ended.
use Rattle.std.proofs.Common.{◌≡◌, ⊎_elim, ℕ, ◌≤◌, Bool, true, false, cond, List, [], ◌∷◌, ◌++◌, length, filter, reverse, None, refl, ap, sym, ◌∙◌, subst, arith, length-append, inl, inr}
use Rattle.std.proofs.lemmas.List.{reverse-append, append-nil, append_assoc}
use Rattle.std.proofs.lemmas.List.Elements.{filter-append}
use Rattle.gcd_plan.specs.PlanView.{PlanView}
use Rattle.gcd_event.specs.declared.event.Event.{Event}
use Rattle.gcd_event.specs.declared.event.Event.TheVariants.{Halt}
use Rattle.gcd_history.specs.History.{IsLawful, why}
use Rattle.gcd_history.specs.Ends.{HasEnded, IsHalted, is_halted}
use Rattle.gcd_history.specs.Permitted.{is_halted as is_halted_after}
use Rattle.gcd_history.proofs.Lists.{reverse_push}
use Rattle.gcd_history.proofs.Permitted.Lawful.{lawful_next}
use Rattle.gcd_history.proofs.Public.Laws.{halted_stands, quiescent_stands}
use Rattle.gcd_history.specs.Held.{is_of, held, held_after}
use Rattle.gcd_history.specs.Team.{of_worker, held_by, StartsWith, GrowsByHalt}

pub filter_reverse : {X : Type 0} → (p : X → Bool) (xs : List X) → filter p (reverse xs) ≡ reverse (filter p xs)
filter_reverse p [] = refl
filter_reverse p (x ∷ xs) =
    ap (filter p) (reverse-append (x ∷ []) xs)
    ∙ filter-append p (reverse xs) (x ∷ [])
    ∙ ap (λ l. l ++ filter p (x ∷ [])) (filter_reverse p xs)
    ∙ elim (p x) as (λ v. reverse (filter p xs) ++ cond v (x ∷ []) [] ≡ reverse (cond v (x ∷ filter p xs) (filter p xs))) [
      | true ↦ sym (reverse-append (x ∷ []) (filter p xs))
      | false ↦ append-nil (reverse (filter p xs))
    ]

-- in an empty history no event is a worker's
pub none_own : (w : ℕ) (h : List Event) → h ≡ [] → of_worker w h ≡ []
unfolding of_worker
none_own w h none = ap (of_worker w) none

-- the events of others change nothing
pub held_own : (plan : PlanView) (past : List Event) (w : ℕ) → held plan (filter (is_of w) past) w ≡ held plan past w
held_own plan [] w = refl
held_own plan (e ∷ past) w =
    let rest = held_own plan past w in
    elim (is_of w e) as (λ v. is_of w e ≡ v → held plan (cond v (e ∷ filter (is_of w) past) (filter (is_of w) past)) w ≡ cond v (held_after plan e (held plan past w)) (held plan past w)) [
      | true ↦ λ mine. ap (λ v. cond v (held_after plan e (held plan (filter (is_of w) past) w)) (held plan (filter (is_of w) past) w)) mine ∙ ap (held_after plan e) rest
      | false ↦ λ other. rest
    ] refl

-- equal events of its own tell the same of what it holds
pub own_events_tell_what_is_held : (plan : PlanView) (g h : List Event) (w : ℕ) → of_worker w g ≡ of_worker w h → held_by plan g w ≡ held_by plan h w
unfolding of_worker held_by
own_events_tell_what_is_held plan g h w same =
    sym (held_own plan (reverse g) w)
    ∙ ap (λ l. held plan l w) (filter_reverse (is_of w) g ∙ ap reverse same ∙ sym (filter_reverse (is_of w) h))
    ∙ held_own plan (reverse h) w

none_after : {X : Type 0} → (xs ys zs : List X) → zs ≡ xs ++ ys → zs ≡ xs → ys ≡ []
none_after xs [] zs h same = refl
none_after xs (y ∷ ys) zs h same =
    let one = ap length h in let two = ap length same in let long = length-append xs (y ∷ ys) in
    absurd (omega (arith, one, two, long))

-- of what follows, none is the worker's
pub none_of_worker : (w : ℕ) (h rest : List Event) → of_worker w (h ++ rest) ≡ of_worker w h → filter (is_of w) rest ≡ []
unfolding of_worker
none_of_worker w h rest same = none_after (filter (is_of w) h) (filter (is_of w) rest) (filter (is_of w) (h ++ rest)) (filter-append (is_of w) h rest) same

no_more : (most : ℕ) (plan : PlanView) (h : List Event) (e : Event) (rest : List Event) → HasEnded most plan h → IsLawful plan (h ++ e ∷ rest) → length (h ++ e ∷ rest) ≤ most → of_worker 0 (h ++ e ∷ rest) ≡ of_worker 0 h → ⊥
no_more most plan h e rest ended lawful few same =
    let may : why plan h e ≡ None = lawful_next plan h e rest lawful in
    ⊎_elim
    (λ quiet.
    let none = none_of_worker 0 h (e ∷ rest) same in
    let halt : filter (is_of 0) (Halt ∷ rest) ≡ [] = subst (λ k. filter (is_of 0) (k ∷ rest) ≡ []) (quiescent_stands plan h e quiet may) none in
    cc)
    (λ other. ⊎_elim
    (λ halted. halted_stands plan h e halted may)
    (λ full. let long = length-append h (e ∷ rest) in absurd (omega (arith, long, full, few)))
    other)
    ended

same_whole : (most : ℕ) (plan : PlanView) (h rest : List Event) → HasEnded most plan h → IsLawful plan (h ++ rest) → length (h ++ rest) ≤ most → of_worker 0 (h ++ rest) ≡ of_worker 0 h → h ++ rest ≡ h
same_whole most plan h [] ended lawful few same = append-nil h
same_whole most plan h (e ∷ rest) ended lawful few same = absurd (no_more most plan h e rest ended lawful few same)

-- where a history has ended for worker 0, no lawful history that goes on from it without an event of worker 0 is longer
pub ended_histories_are_whole : (most : ℕ) (plan : PlanView) (g h : List Event) → HasEnded most plan h → IsLawful plan g → length g ≤ most → StartsWith g h → of_worker 0 g ≡ of_worker 0 h → g ≡ h
ended_histories_are_whole most plan g h ended lawful few begins same =
    let whole = begins.1 in
    whole ∙ same_whole most plan h begins.0 ended (subst (IsLawful plan) whole lawful) (subst (λ l. length l ≤ most) whole few) (subst (λ l. of_worker 0 l ≡ of_worker 0 h) whole same)

-- ## What may still come

next_is_halt : (most : ℕ) (plan : PlanView) (h : List Event) (e : Event) (rest : List Event) → HasEnded most plan h → IsLawful plan (h ++ e ∷ rest) → length (h ++ e ∷ rest) ≤ most → e ≡ Halt
next_is_halt most plan h e rest ended lawful few =
    let may : why plan h e ≡ None = lawful_next plan h e rest lawful in
    ⊎_elim
    (λ quiet. quiescent_stands plan h e quiet may)
    (λ other. ⊎_elim
    (λ halted. absurd (halted_stands plan h e halted may))
    (λ full. let long = length-append h (e ∷ rest) in absurd (omega (arith, long, full, few)))
    other)
    ended

halts : (h : List Event) → IsHalted (h ++ Halt ∷ [])
unfolding is_halted
halts h = ap is_halted_after (reverse_push h Halt)

one_halt : (plan : PlanView) (h rest : List Event) → IsLawful plan (h ++ Halt ∷ rest) → rest ≡ []
one_halt plan h [] lawful = refl
one_halt plan h (x ∷ rest) lawful =
    let split : h ++ (Halt ∷ x ∷ rest) ≡ (h ++ Halt ∷ []) ++ x ∷ rest = sym (append_assoc h (Halt ∷ []) (x ∷ rest)) in
    absurd (halted_stands plan (h ++ Halt ∷ []) x (halts h) (lawful_next plan (h ++ Halt ∷ []) x rest (subst (IsLawful plan) split lawful)))

grows : (most : ℕ) (plan : PlanView) (h rest : List Event) → HasEnded most plan h → IsLawful plan (h ++ rest) → length (h ++ rest) ≤ most → GrowsByHalt (h ++ rest) h
grows most plan h [] ended lawful few = inl (append-nil h)
grows most plan h (e ∷ rest) ended lawful few =
    let halt = next_is_halt most plan h e rest ended lawful few in
    let none = one_halt plan h rest (subst (λ k. IsLawful plan (h ++ k ∷ rest)) halt lawful) in
    inr (ap (λ k. h ++ k ∷ rest) halt ∙ ap (λ l. h ++ Halt ∷ l) none)

-- where a history has ended, a lawful one that goes on from it has at most a halt more
pub ended_histories_grow_by_halt : (most : ℕ) (plan : PlanView) (g h : List Event) → HasEnded most plan h → IsLawful plan g → length g ≤ most → StartsWith g h → GrowsByHalt g h
ended_histories_grow_by_halt most plan g h ended lawful few begins =
    let whole = begins.1 in
    subst (λ l. GrowsByHalt l h) (sym whole) (grows most plan h begins.0 ended (subst (IsLawful plan) whole lawful) (subst (λ l. length l ≤ most) whole few))

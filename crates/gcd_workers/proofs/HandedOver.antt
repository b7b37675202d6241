-- What the tallies of a list took, an event on.
use Rattle.std.proofs.Common.{◌≡◌, ◌≢◌, ◌<◌, ◌≤◌, ◌+◌, ◌^◌, ◌∙◌, ℕ, Bool, true, false, cond, List, [], ◌∷◌, ◌++◌, get_or, length, reverse, Option, Some, None, refl, ap, sym, subst, arith, ⊎_elim}
use Rattle.std.specs.Prelude.{option_map, slice_get, slice_set}
use Rattle.std.specs.Option.{option_and_then, option_map_or}
use Rattle.std.proofs.lemmas.Bool.{and_parts, cases_eq, cases_lt}
use Rattle.std.proofs.lemmas.List.{get_or-set_other, length-set, length_push}
use Rattle.std.proofs.lemmas.Option.{none-some, same_Some, slice_get-get_or, slice_get_past, slice_get_within}
use Rattle.gcd_facts.proofs.Lists.{slice_get-set_same}
use Rattle.gcd_plan.specs.Kinds.{is_source, is_source_kind}
use Rattle.gcd_plan.specs.KindValues.{folded}
use Rattle.gcd_plan.specs.PlanView.{PlanView, kind_of}
use Rattle.gcd_plan.specs.Validity.{IsPlan}
use Rattle.gcd_plan.specs.declared.kind.Kind.{Kind}
use Rattle.gcd_plan.specs.declared.numbers.Obj.{Obj}
use Rattle.gcd_plan.specs.declared.numbers.Run.{Run}
use Rattle.gcd_plan.specs.declared.numbers.Run.TheVariants.{Source}
use Rattle.gcd_event.specs.declared.event.Event.{Event}
use Rattle.gcd_event.specs.declared.event.Event.TheVariants.{Start, Act as Acted, Wake, End, Deliver, DeliverEnd, Tick, Ready, FeedEnd, Misuse, Halt, Expire, Accept, Shut}
use Rattle.gcd_history.specs.Held.{taken}
use Rattle.gcd_history.specs.History.{IsLawful, choice_of, delivery_count_of, last_data_of, received_of, why}
use Rattle.gcd_history.specs.Permitted.{is_worker}
use Rattle.gcd_history.proofs.HeldRuns.Cells.{cells_stay, deliver_hands_over}
use Rattle.gcd_history.proofs.Permitted.Lawful.{lawful_next}
use Rattle.gcd_history.proofs.Permitted.Reasons.{allowed}
use Rattle.gcd_history.proofs.Sources.Totals.{totals_fit}
use Rattle.gcd_jobs.specs.declared.tally.Tally.{Tally}
use Rattle.gcd_machine.specs.Quick.{is_quick, quick_of}
use Rattle.gcd_machine.specs.Stands.{StandsFor}
use Rattle.gcd_machine.proofs.Views.Calls.{lawful_stands, valid_stands}
use Rattle.gcd_refinement.specs.MachineView.{MachineView}
use Rattle.gcd_row.specs.Lying.{source_shape}
use Rattle.gcd_row.specs.Shapes.{away, handler}
use Rattle.gcd_workers.specs.ListRuns.{AreTallies, IsUntold, tally_of}
use Rattle.gcd_workers.specs.Teams.{EachFrom}

-- an object that has a kind is one of the plan
pub kind_within : (plan : PlanView) (o : ℕ) (kind : Kind) → kind_of plan o ≡ Some kind → o < length plan.objects
kind_within plan o kind at = ⊎_elim (λ (here : o < length plan.objects). here) (λ (past : length plan.objects ≤ o).
    absurd (none-some kind (sym (ap (option_map (λ obj. obj.kind)) (slice_get_past plan.objects o past)) ∙ at))) (cases_lt o (length plan.objects))

-- what a row's rule wants in the slot of an object of this kind
pub shape_at : (plan : PlanView) (h : List Event) (o : ℕ) (kind : Kind) → kind_of plan o ≡ Some kind
    → source_shape plan h o ≡ cond (is_source_kind kind) (handler kind (delivery_count_of h o) (received_of plan h o)) away
unfolding source_shape
shape_at plan h o kind known = ap (λ (k : Option Kind). option_map_or (λ j. cond (is_source_kind j) (handler j (delivery_count_of h o) (received_of plan h o)) away) k away) known

-- a tally of this kind, times and total
abbrev pub made : Kind → ℕ → ℕ → Tally
made kind times total = record { kind = kind; times = times; total = total }

same_tally : (plan : PlanView) (h k : List Event) (s : ℕ) (kind : Kind) → delivery_count_of k s ≡ delivery_count_of h s → received_of plan k s ≡ received_of plan h s
    → tally_of plan h s kind ≡ tally_of plan k s kind
same_tally plan h k s kind times total = ap (λ (n : ℕ). made kind n (received_of plan h s)) (sym times) ∙ ap (made kind (delivery_count_of k s)) (sym total)

-- ## Before the first event

-- a tally that has not been called, of the kind of object s
abbrev pub IsFirst : PlanView → ℕ → Tally → Type 0
IsFirst plan s t = (kind : Kind) → kind_of plan s ≡ Some kind → t ≡ made kind 0 0

none_taken : (plan : PlanView) (s : ℕ) (kind : Kind) → kind_of plan s ≡ Some kind → made kind 0 0 ≡ tally_of plan [] s kind
unfolding delivery_count_of received_of
none_taken plan s kind known = ap (made kind 0) (sym (ap (λ (o : Option Kind). option_map_or (λ k. 0) o 0) known))

pub tallies_first : (plan : PlanView) (tallies : List Tally) → length tallies ≡ length plan.objects → EachFrom (IsFirst plan) 0 tallies → AreTallies plan [] tallies
tallies_first plan tallies count each s kind known source =
    let inside = kind_within plan s kind known in
    let low : s < length tallies = omega (arith, count, inside) in
    let d = made kind 0 0 in
    let same : 0 + s ≡ s = omega arith in
    let first : IsFirst plan s (get_or tallies s d) = subst (λ (n : ℕ). IsFirst plan n (get_or tallies s d)) same (each s d low) in
    slice_get-get_or tallies s d low ∙ ap Some (first kind known ∙ none_taken plan s kind known)

-- ## An event that is no Deliver

untaken : (e : Event) → ((w : ℕ) (s : Obj) → e ≡ Deliver w s → ⊥) → (s : ℕ) → taken e ≡ Some (Source (record { 0 = s })) → ⊥
untaken (Start w b) other s it = cc
untaken (Wake w b) other s it = cc
untaken (Deliver w t) other s it = other w t refl
untaken (Acted w r i) other s it = cc
untaken (End w b) other s it = cc
untaken (DeliverEnd w t) other s it = cc
untaken (Tick t) other s it = cc
untaken (Ready t n) other s it = cc
untaken (FeedEnd t) other s it = cc
untaken (Misuse w c r i) other s it = cc
untaken Halt other s it = cc
untaken (Expire b) other s it = cc
untaken (Accept b n) other s it = cc
untaken Shut other s it = cc

pub tallies_same : (plan : PlanView) (h : List Event) (e : Event) (tallies : List Tally) → ((w : ℕ) (s : Obj) → e ≡ Deliver w s → ⊥)
    → AreTallies plan h tallies → AreTallies plan (h ++ e ∷ []) tallies
tallies_same plan h e tallies other are s kind known source =
    let waits = (cells_stay plan h e).handlers (record { 0 = s }) (untaken e other s) in
    are s kind known source ∙ ap Some (same_tally plan h (h ++ e ∷ []) s kind waits.times waits.received)

-- a quick step takes no Deliver
pub quick_is_no_deliver : (plan : PlanView) (h : List Event) (v : ℕ) (e : Event) → quick_of plan h v ≡ Some e → (w : ℕ) (s : Obj) → e ≡ Deliver w s → ⊥
quick_is_no_deliver plan h v e quick w s is = deliver_is_slow (subst (λ (x : Event). is_quick plan h x ≡ true) is (from (choice_of plan h v 0) quick))
  where
    deliver_is_slow : is_quick plan h (Deliver w s) ≡ true → ⊥
    deliver_is_slow bad = cc

    from : (o : Option Event) → option_and_then (λ x. cond (is_quick plan h x) (Some x) None) o ≡ Some e → is_quick plan h e ≡ true
    from None none = cc
    from (Some x) some = by (is_quick plan h x) refl some
      where
        by : (b : Bool) → is_quick plan h x ≡ b → cond b (Some x) None ≡ Some e → is_quick plan h e ≡ true
        by true it same = subst (λ (y : Event). is_quick plan h y ≡ true) (same_Some x e same) it
        by false it none = cc

-- ## A Deliver

-- the tally that it calls
pub record IsCalled (plan : PlanView) (h : List Event) (s : ℕ) (tallies : List Tally) : Type 0 where
  pub kind : Kind
  pub known : kind_of plan s ≡ Some kind
  pub at : slice_get tallies s ≡ Some (tally_of plan h s kind)
  pub within : s < length tallies
  pub object : s < length plan.objects

source_has_kind : (o : Option Kind) → option_map_or is_source_kind o false ≡ true → (kind : Kind) × (o ≡ Some kind) × (is_source_kind kind ≡ true)
source_has_kind None is = cc
source_has_kind (Some kind) is = (kind, refl, is)

module _ (plan : PlanView) (h : List Event) (w : ℕ) (s : Obj) (tallies : List Tally) where
  abbrev more : List Event
  more = h ++ Deliver w s ∷ []

  deliver_known : IsLawful plan more → is_source plan s.0 ≡ true
  unfolding why
  deliver_known lawful = (and_parts (is_worker w) (is_source plan s.0) (allowed plan (reverse h) (Deliver w s) (lawful_next plan h (Deliver w s) [] lawful)).known).1

  pub called : IsLawful plan more → AreTallies plan h tallies → IsCalled plan h s.0 tallies
  called lawful are =
      let of = source_has_kind (kind_of plan s.0) (deliver_known lawful) in
      let at = are s.0 of.0 of.1 of.2 in
      record { kind = of.0; known = of.1; at = at; within = slice_get_within tallies s.0 (tally_of plan h s.0 of.0) at; object = kind_within plan s.0 of.0 of.1 }

  -- the tally that lies there, and what it comes to with what is handed over
  module _ (x : Tally) (value : ℕ) (it : IsCalled plan h s.0 tallies) (read : x ≡ get_or tallies s.0 x) (handed : value ≡ last_data_of plan more s.0) where
    is : x ≡ tally_of plan h s.0 it.kind
    is = read ∙ same_Some (get_or tallies s.0 x) (tally_of plan h s.0 it.kind) (sym (slice_get-get_or tallies s.0 x it.within) ∙ it.at)

    sum : folded x.kind x.total value ≡ received_of plan more s.0
    sum =
        ap (λ (t : Tally). folded t.kind t.total value) is ∙ ap (folded it.kind (received_of plan h s.0)) handed
        ∙ sym (ap (λ (o : Option Kind). option_map_or (λ k. folded k (received_of plan h s.0) (last_data_of plan more s.0)) o 0) it.known)
        ∙ sym (deliver_hands_over plan h w s).total

    pub fits : IsPlan plan → IsLawful plan more → length h + 1 < 2 ^ 32 → (x.times + 1 < 2 ^ 32) × (folded x.kind x.total value < 2 ^ 64)
    fits valid lawful room =
        let fit = totals_fit plan more s.0 valid lawful in
        let counted = (deliver_hands_over plan h w s).times in let times = ap (λ (t : Tally). t.times) is in
        let few = fit.times in let low = fit.total in let long = length_push h (Deliver w s) in let all = sum in
        (omega (arith, times, counted, few, long, room), omega (arith, all, low, long, room))

    -- the tally of the source after it
    becomes : (y : Tally) → y.kind ≡ x.kind → y.times ≡ x.times + 1 → y.total ≡ folded x.kind x.total value → y ≡ tally_of plan more s.0 it.kind
    becomes y same_kind once_more folded_in =
        ap (λ (k : Kind). made k y.times y.total) (same_kind ∙ ap (λ (t : Tally). t.kind) is)
        ∙ ap (λ (n : ℕ). made it.kind n y.total) (once_more ∙ ap (λ (t : Tally). t.times + 1) is ∙ sym (deliver_hands_over plan h w s).times)
        ∙ ap (made it.kind (delivery_count_of more s.0)) (folded_in ∙ sum)

    pub takes : (y : Tally) → y.kind ≡ x.kind → y.times ≡ x.times + 1 → y.total ≡ folded x.kind x.total value → AreTallies plan h tallies
        → AreTallies plan more (slice_set tallies s.0 y)
    takes y same_kind once_more folded_in are t kind known source = ⊎_elim (λ (same : t ≡ s.0). own t same kind known) (λ (differ : t ≢ s.0). other differ) (cases_eq t s.0)
      where
        own : (t : ℕ) → t ≡ s.0 → (kind : Kind) → kind_of plan t ≡ Some kind → slice_get (slice_set tallies s.0 y) t ≡ Some (tally_of plan more t kind)
        own t same kind known =
            let here : kind_of plan s.0 ≡ Some kind = subst (λ (n : ℕ). kind_of plan n ≡ Some kind) same known in
            let kinds : it.kind ≡ kind = same_Some it.kind kind (sym it.known ∙ here) in
            subst (λ (n : ℕ). slice_get (slice_set tallies s.0 y) n ≡ Some (tally_of plan more n kind)) (sym same)
            (slice_get-set_same tallies s.0 y it.within ∙ ap Some (becomes y same_kind once_more folded_in ∙ ap (tally_of plan more s.0) kinds))

        source_number : Option Run → ℕ
        source_number (Some (Source q)) = q.0
        source_number o = 0

        other : t ≢ s.0 → slice_get (slice_set tallies s.0 y) t ≡ Some (tally_of plan more t kind)
        other differ =
            let low = slice_get_within tallies t (tally_of plan h t kind) (are t kind known source) in
            let waits = (cells_stay plan h (Deliver w s)).handlers (record { 0 = t }) (λ took. differ (sym (ap source_number took))) in
            slice_get-get_or (slice_set tallies s.0 y) t y (omega (arith, length-set tallies s.0 y, low))
            ∙ ap Some (get_or-set_other tallies s.0 t y y differ)
            ∙ sym (slice_get-get_or tallies t y low)
            ∙ are t kind known source ∙ ap Some (same_tally plan h more t kind waits.times waits.received)

-- where a Deliver was recorded last
pub due : (m : MachineView) (tallies : List Tally) (w : ℕ) (s : Obj) (was : IsUntold m tallies (Deliver w s)) → IsCalled was.plan was.history s.0 tallies
due m tallies w s was = called was.plan was.history w s tallies (lawful_stands m was.plan (was.history ++ Deliver w s ∷ []) was.stands) was.tallies_are

pub due_fits : (m : MachineView) (tallies : List Tally) (w : ℕ) (s : Obj) (x : Tally) (value : ℕ) (was : IsUntold m tallies (Deliver w s)) → x ≡ get_or tallies s.0 x
    → ((p : PlanView) (h : List Event) → StandsFor m p h → value ≡ last_data_of p h s.0) → (x.times + 1 < 2 ^ 32) × (folded x.kind x.total value < 2 ^ 64)
due_fits m tallies w s x value was read handed =
    let all : List Event = was.history ++ Deliver w s ∷ [] in
    fits was.plan was.history w s tallies x value (due m tallies w s was) read (handed was.plan all was.stands)
    (valid_stands m was.plan all was.stands) (lawful_stands m was.plan all was.stands) was.room

pub due_taken : (m : MachineView) (plan : PlanView) (h : List Event) (tallies : List Tally) (w : ℕ) (s : Obj) (x y : Tally) (value : ℕ) → x ≡ get_or tallies s.0 x
    → ((p : PlanView) (k : List Event) → StandsFor m p k → value ≡ last_data_of p k s.0)
    → y.kind ≡ x.kind → y.times ≡ x.times + 1 → y.total ≡ folded x.kind x.total value
    → StandsFor m plan (h ++ Deliver w s ∷ []) → AreTallies plan h tallies → AreTallies plan (h ++ Deliver w s ∷ []) (slice_set tallies s.0 y)
due_taken m plan h tallies w s x y value read handed same_kind once_more folded_in stands are =
    let all : List Event = h ++ Deliver w s ∷ [] in
    takes plan h w s tallies x value (called plan h w s tallies (lawful_stands m plan all stands) are) read (handed plan all stands) y same_kind once_more folded_in are

-- What deliveries hand over, an event on.
use Rattle.std.proofs.Common.{zero, suc, add-one, ◌≡◌, ◌≢◌, ℕ, ◌+◌, ◌*◌, ◌^◌, ◌<◌, ◌≤◌, true, false, cond, List, [], ◌∷◌, ◌++◌, length, take, reverse, Some, None, get_or, set, replicate, refl, ap, sym, ◌∙◌, subst, arith, fold, inl, inr, if◌then◌else◌}
use Rattle.std.specs.Option.{option_map_or}
use Rattle.std.proofs.lemmas.Bool.{both_ways, cases_eq, eq-eqb, ne_eqb}
use Rattle.std.proofs.lemmas.List.{append-nil, length-append, length-set, get_or-set_same, get_or-set_other, get_or-replicate, length-replicate, take_more, take_all}
use Rattle.std.proofs.lemmas.List.Sums.{fold_push}
use Rattle.gcd_plan.specs.PlanView.{PlanView, kind_of}
use Rattle.gcd_plan.specs.KindValues.{folded}
use Rattle.gcd_plan.specs.declared.kind.Kind.{Kind}
use Rattle.gcd_plan.specs.declared.numbers.Obj.{Obj}
use Rattle.gcd_plan.proofs.Sums.{count_by-cons}
use Rattle.gcd_plan.proofs.Folded.{folded_low}
use Rattle.gcd_plan.proofs.Within.{has_object}
use Rattle.gcd_event.specs.declared.event.Event.{Event}
use Rattle.gcd_event.specs.declared.event.Event.TheVariants.{Deliver, Halt}
use Rattle.gcd_history.specs.Sources.{delivers, delivery_count, fold_at, handed, pending, received, last_data}
use Rattle.std.proofs.lemmas.Option.{slice_get-get_or}
use Rattle.gcd_history.specs.History.{IsLawful, why, received_of, delivery_count_of, last_data_of}
use Rattle.gcd_history.proofs.Lists.{reverse_push}
use Rattle.gcd_plan.specs.Kinds.{is_source, is_source_kind}
use Rattle.gcd_plan.specs.Validity.{IsPlan}
use Rattle.gcd_journal.specs.Spoken.{IsSpoken}
use Rattle.gcd_journal.specs.declared.totals.Total.{Total}
use Rattle.gcd_journal.proofs.LawfulSpoken.{permitted_spoken}
use Rattle.gcd_journal.specs.Totals.{AreTotals, total_of, no_total}

count_step : (h : List Event) (e : Event) (s : ℕ) → delivery_count_of (h ++ e ∷ []) s ≡ cond (delivers s e) 1 0 + delivery_count_of h s
unfolding delivery_count_of
count_step h e s = ap (λ past. delivery_count past s) (reverse_push h e) ∙ count_by-cons (delivers s) e (reverse h)

received_step : (plan : PlanView) (h : List Event) (e : Event) (s : ℕ)
    → received_of plan (h ++ e ∷ []) s ≡ fold_at plan s (handed plan (reverse h) s ++ (if delivers s e then pending plan (reverse h) s ∷ [] else []))
unfolding received_of
received_step plan h e s = ap (λ past. received plan past s) (reverse_push h e)

received_same : (plan : PlanView) (h : List Event) (e : Event) (s : ℕ) → delivers s e ≡ false → received_of plan (h ++ e ∷ []) s ≡ received_of plan h s
unfolding received_of
received_same plan h e s no_delivery =
    received_step plan h e s
    ∙ ap (λ b. fold_at plan s (handed plan (reverse h) s ++ (if b then pending plan (reverse h) s ∷ [] else []))) no_delivery
    ∙ ap (fold_at plan s) (append-nil (handed plan (reverse h) s))

received_more : (plan : PlanView) (h : List Event) (e : Event) (s : ℕ) (kind : Kind) → kind_of plan s ≡ Some kind → delivers s e ≡ true
    → received_of plan (h ++ e ∷ []) s ≡ folded kind (received_of plan h s) (last_data_of plan (h ++ e ∷ []) s)
unfolding received_of last_data_of
received_more plan h e s kind is delivery =
    let value = pending plan (reverse h) s in
    let given = handed plan (reverse h) s in
    let amount : last_data plan (reverse (h ++ e ∷ [])) s ≡ value =
    ap (λ past. last_data plan past s) (reverse_push h e) ∙ ap (λ b. if b then value else last_data plan (reverse h) s) delivery in
    let all : received plan (reverse (h ++ e ∷ [])) s ≡ fold_at plan s (given ++ value ∷ []) =
    received_step plan h e s ∙ ap (λ b. fold_at plan s (given ++ (if b then value ∷ [] else []))) delivery in
    let told : fold_at plan s (given ++ value ∷ []) ≡ fold (folded kind) 0 (given ++ value ∷ []) = ap (λ o. option_map_or (λ k. fold (folded k) 0 (given ++ value ∷ [])) o 0) is in
    let before : fold_at plan s given ≡ fold (folded kind) 0 given = ap (λ o. option_map_or (λ k. fold (folded k) 0 given) o 0) is in
    all ∙ told ∙ fold_push (folded kind) 0 given value ∙ ap (λ v. folded kind v value) (sym before) ∙ ap (folded kind (received plan (reverse h) s)) (sym amount)

nothing_received : (plan : PlanView) (s : ℕ) → received_of plan [] s ≡ 0
unfolding received_of
nothing_received plan s = elim (kind_of plan s) as (λ o. option_map_or (λ k. fold (folded k) 0 []) o 0 ≡ 0) [ None ↦ refl | Some k ↦ refl ]

nothing_delivered : (plan : PlanView) (s : ℕ) → no_total ≡ total_of plan [] s
unfolding delivery_count_of
nothing_delivered plan s = let made : ℕ → Total = λ v. record { times = 0; value = v } in ap made (sym (nothing_received plan s))

none_counted : (s : ℕ) → delivery_count_of [] s ≡ 0
unfolding delivery_count_of
none_counted s = refl

-- no event, no delivery
pub none_delivered : (plan : PlanView) (totals : List Total) → totals ≡ replicate (length plan.objects) no_total → AreTotals plan [] totals
none_delivered plan totals is = record {
  count = ap length is ∙ length-replicate (length plan.objects) no_total;
  each = λ s d within. ap (λ l. get_or l s d) is ∙ get_or-replicate (length plan.objects) s no_total d within ∙ nothing_delivered plan s;
  few = λ s within. let none = none_counted s in omega arith;
  low = λ s within. let none = nothing_received plan s in omega arith;
}

-- an event that is no delivery
pub other_event : (plan : PlanView) (h : List Event) (e : Event) (totals : List Total) → ((s : ℕ) → delivers s e ≡ false) → AreTotals plan h totals → AreTotals plan (h ++ e ∷ []) totals
other_event plan h e totals other are = record {
  count = are.count;
  each = λ s d within. are.each s d within ∙ same s;
  few = λ s within. let before = are.few s within in let step = count_same s in let long = length-append h (e ∷ []) in omega arith;
  low = λ s within. let before = are.low s within in let step = received_same plan h e s (other s) in let long = length-append h (e ∷ []) in omega arith;
}
  where
    count_same : (s : ℕ) → delivery_count_of (h ++ e ∷ []) s ≡ delivery_count_of h s
    count_same s =
        let none : ◌≡◌ {A = ℕ} (cond (delivers s e) 1 0) 0 = ap (λ b. cond b 1 0) (other s) in
        let step = count_step h e s in
        omega arith

    same : (s : ℕ) → total_of plan h s ≡ total_of plan (h ++ e ∷ []) s
    same s =
        let made : ℕ → ℕ → Total = λ t v. record { times = t; value = v } in
        ap (λ t. made t (received_of plan h s)) (sym (count_same s)) ∙ ap (made (delivery_count_of (h ++ e ∷ []) s)) (sym (received_same plan h e s (other s)))

-- a delivery of source s
module _ (plan : PlanView) (h : List Event) (w : ℕ) (src : Obj) (totals : List Total) (kind : Kind) (amount : ℕ)
    (within : src.0 < length plan.objects) (is : kind_of plan src.0 ≡ Some kind) (given : amount ≡ last_data_of plan (h ++ Deliver w src ∷ []) src.0) (low : amount < 2 ^ 64)
    (are : AreTotals plan h totals) where
  grown : List Event
  grown = h ++ Deliver w src ∷ []

  own : delivers src.0 (Deliver w src) ≡ true
  own = eq-eqb src.0 src.0 refl

  not_own : (k : ℕ) → k ≢ src.0 → delivers k (Deliver w src) ≡ false
  not_own k other = ne_eqb src.0 k (λ same. other (sym same))

  count_own : delivery_count_of grown src.0 ≡ delivery_count_of h src.0 + 1
  unfolding grown
  count_own =
      let one : ◌≡◌ {A = ℕ} (cond (delivers src.0 (Deliver w src)) 1 0) 1 = ap (λ b. cond b 1 0) own in
      let step = count_step h (Deliver w src) src.0 in
      omega arith

  count_other : (k : ℕ) → k ≢ src.0 → delivery_count_of grown k ≡ delivery_count_of h k
  unfolding grown
  count_other k other =
      let none : ◌≡◌ {A = ℕ} (cond (delivers k (Deliver w src)) 1 0) 0 = ap (λ b. cond b 1 0) (not_own k other) in
      let step = count_step h (Deliver w src) k in
      omega arith

  received_own : received_of plan grown src.0 ≡ folded kind (received_of plan h src.0) amount
  unfolding grown
  received_own = received_more plan h (Deliver w src) src.0 kind is own ∙ ap (folded kind (received_of plan h src.0)) (sym given)

  received_other : (k : ℕ) → k ≢ src.0 → received_of plan grown k ≡ received_of plan h k
  unfolding grown
  received_other k other = received_same plan h (Deliver w src) k (not_own k other)

  -- the total with the delivery
  abbrev with_one : Total → Total
  with_one total = record { times = total.times + 1; value = folded kind total.value amount }

  own_total : (d : Total) → with_one (get_or totals src.0 d) ≡ total_of plan grown src.0
  own_total d =
      let made : ℕ → ℕ → Total = λ t v. record { times = t; value = v } in
      ap with_one (are.each src.0 d within)
      ∙ ap (λ t. made t (folded kind (received_of plan h src.0) amount)) (sym count_own)
      ∙ ap (made (delivery_count_of grown src.0)) (sym received_own)

  other_total : (k : ℕ) → k ≢ src.0 → total_of plan h k ≡ total_of plan grown k
  other_total k other =
      let made : ℕ → ℕ → Total = λ t v. record { times = t; value = v } in
      ap (λ t. made t (received_of plan h k)) (sym (count_other k other)) ∙ ap (made (delivery_count_of grown k)) (sym (received_other k other))

  pub delivery : (d : Total) → AreTotals plan (h ++ Deliver w src ∷ []) (set totals src.0 (with_one (get_or totals src.0 d)))
  unfolding grown
  delivery d = record {
    count = length-set totals src.0 (with_one (get_or totals src.0 d)) ∙ are.count;
    each = λ k e inside.
        elim (cases_eq k src.0) [
          | inl same ↦ ap (λ n. get_or (set totals src.0 (with_one (get_or totals src.0 d))) n e) same
              ∙ get_or-set_same totals src.0 (with_one (get_or totals src.0 d)) e (let long = are.count in omega arith)
              ∙ own_total d ∙ ap (total_of plan grown) (sym same)
          | inr other ↦ get_or-set_other totals src.0 k (with_one (get_or totals src.0 d)) e other ∙ are.each k e inside ∙ other_total k other
        ];
    few = λ k inside.
        let before = are.few k inside in
        let long = length-append h (Deliver w src ∷ []) in
        elim (cases_eq k src.0) [
          | inl same ↦ subst (λ n. delivery_count_of grown n ≤ length grown) (sym same) (let step = count_own in let at = are.few src.0 within in omega arith)
          | inr other ↦ let step = count_other k other in omega arith
        ];
    low = λ k inside.
        let before = are.low k inside in
        let long = length-append h (Deliver w src ∷ []) in
        elim (cases_eq k src.0) [
          | inl same ↦ subst (λ n. received_of plan grown n ≤ length grown * 2 ^ 64) (sym same)
              (let step = received_own in let at = are.low src.0 within in let sum = folded_low kind (received_of plan h src.0) amount in omega arith)
          | inr other ↦ let step = received_other k other in omega arith
        ];
  }

-- each event of a lawful history is permitted
pub allowed_at : (plan : PlanView) (h : List Event) (i : ℕ) (d : Event) → IsLawful plan h → i < length h → why plan (take i h) (get_or h i d) ≡ None
unfolding IsLawful
allowed_at plan h i d lawful within = lawful i (get_or h i d) (slice_get-get_or h i d within)

-- the source of a delivery is one of the plan's objects
pub delivered_source : (plan : PlanView) (h : List Event) (e : Event) (w : ℕ) (src : Obj) → IsPlan plan → why plan h e ≡ None → e ≡ Deliver w src → src.0 < length plan.objects
delivered_source plan h e w src valid permitted same =
    let named = (subst (IsSpoken plan) same (permitted_spoken plan h e valid permitted)).named in
    has_object is_source_kind plan src.0 named

-- the totals after a delivery
pub delivery_of : (plan : PlanView) (h : List Event) (e : Event) (w : ℕ) (src : Obj) (totals : List Total) (kind : Kind) (amount : ℕ) (total new : Total)
    → e ≡ Deliver w src → src.0 < length plan.objects → kind_of plan src.0 ≡ Some kind → amount ≡ last_data_of plan (h ++ e ∷ []) src.0 → amount < 2 ^ 64
    → AreTotals plan h totals → total ≡ get_or totals src.0 total → new ≡ record { times = total.times + 1; value = folded kind total.value amount }
    → AreTotals plan (h ++ e ∷ []) (set totals src.0 new)
delivery_of plan h e w src totals kind amount total new same within is given low are at made =
    let grown : Total → Total = λ t. record { times = t.times + 1; value = folded kind t.value amount } in
    let is_new : grown (get_or totals src.0 total) ≡ new = ap grown (sym at) ∙ sym made in
    let after = delivery plan h w src totals kind amount within is (given ∙ ap (λ f. last_data_of plan (h ++ f ∷ []) src.0) same) low are total in
    subst (λ f. AreTotals plan (h ++ f ∷ []) (set totals src.0 new)) (sym same)
    (subst (λ n. AreTotals plan (h ++ Deliver w src ∷ []) (set totals src.0 n)) is_new after)

-- where no object is a source, no event is a delivery
undelivered : (plan : PlanView) (e : Event) → IsSpoken plan e → ((s : ℕ) → s < length plan.objects → is_source plan s ≡ false) → (s : ℕ) → delivers s e ≡ false
undelivered plan (Deliver w src) spoken none s =
    let named : is_source plan src.0 ≡ true = spoken.named in
    absurd (both_ways (is_source plan src.0) (none src.0 (has_object is_source_kind plan src.0 named)) named)
undelivered plan e spoken none s = refl

-- in a plan without sources no total is above 0
module _ (plan : PlanView) (h : List Event) (totals : List Total) (valid : IsPlan plan) (lawful : IsLawful plan h)
    (none : (s : ℕ) → s < length plan.objects → is_source plan s ≡ false) (is : totals ≡ replicate (length plan.objects) no_total) where
  none_up_to : (n : ℕ) → n ≤ length h → AreTotals plan (take n h) totals
  none_up_to zero within = none_delivered plan totals is
  none_up_to (suc n) within =
      let inside : n < length h = omega arith in
      let e = get_or h n Halt in
      let permitted = allowed_at plan h n Halt lawful inside in
      let other = undelivered plan e (permitted_spoken plan (take n h) e valid permitted) none in
      let more : take n h ++ get_or h n Halt ∷ [] ≡ take (suc n) h = sym (ap (λ m. take m h) (sym (add-one n)) ∙ take_more h n Halt inside) in
      subst (λ g. AreTotals plan g totals) more (other_event plan (take n h) e totals other (none_up_to n (omega arith)))

  pub without_sources : AreTotals plan h totals
  without_sources = subst (λ g. AreTotals plan g totals) (take_all (length h) h (omega arith)) (none_up_to (length h) (omega arith))

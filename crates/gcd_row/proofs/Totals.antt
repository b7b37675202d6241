-- What a handler has taken before the delivery that is open.
use Rattle.std.proofs.Common.{◌≡◌, ℕ, ◌+◌, ◌<◌, Bool, true, false, cond, List, [], ◌∷◌, ◌++◌, reverse, refl, ap, sym, ◌∙◌, arith}
use Rattle.std.proofs.lemmas.Bool.{eq-eqb}
use Rattle.std.proofs.lemmas.List.{append-nil, reverse-append}
use Rattle.gcd_plan.proofs.Sums.{count_by-cons}
use Rattle.gcd_plan.specs.PlanView.{PlanView}
use Rattle.gcd_plan.specs.declared.numbers.Obj.{Obj}
use Rattle.gcd_event.specs.declared.event.Event.{Event}
use Rattle.gcd_event.specs.declared.event.Event.TheVariants.{Deliver}
use Rattle.gcd_history.specs.Sources.{delivers, delivery_count, fold_at, handed, joined, last_data, pending, received}
use Rattle.gcd_history.specs.History.{delivery_count_of, last_data_of, received_of}
use Rattle.gcd_history.proofs.Lists.{reverse_push}
use Rattle.gcd_history.specs.TeamFacts.{SourceWaits}
use Rattle.gcd_history.proofs.HeldRuns.Cells.{fold_at_push}
use Rattle.gcd_row.specs.Totals.{handed_earlier, received_earlier}

-- right after a Deliver it is all that was handed over before that
pub earlier_now : (plan : PlanView) (h : List Event) (w : ℕ) (s : Obj) → received_earlier plan (h ++ Deliver w s ∷ []) s.0 ≡ received_of plan h s.0
unfolding received_earlier received_of
earlier_now plan h w s =
    ap (λ (l : List Event). fold_at plan s.0 (handed_earlier plan l s.0)) (reverse_push h (Deliver w s))
    ∙ ap (λ (b : Bool). fold_at plan s.0 (cond b (handed plan (reverse h) s.0) (handed_earlier plan (reverse h) s.0))) (eq-eqb s.0 s.0 refl)

-- a Deliver more is one more
counted : (e : Event) (past : List Event) (s : ℕ) (b : Bool) → delivers s e ≡ b → delivery_count (e ∷ past) s ≡ cond {A = ℕ} b 1 0 + delivery_count past s
counted e past s b is = count_by-cons (delivers s) e past ∙ ap (λ (v : Bool). cond {A = ℕ} v 1 0 + delivery_count past s) is

count_grows : (later past : List Event) (s : ℕ) → delivery_count past s < delivery_count (later ++ past) s + 1
count_grows [] past s = omega arith
count_grows (e ∷ later) past s =
    let rest = count_grows later past s in
    let step = counted e (later ++ past) s (delivers s e) refl in
    omega (arith, rest, step)

earlier_left : (plan : PlanView) (later past : List Event) (s : ℕ) → delivery_count (later ++ past) s ≡ delivery_count past s → handed_earlier plan (later ++ past) s ≡ handed_earlier plan past s
earlier_left plan [] past s same = refl
earlier_left plan (e ∷ later) past s same = go (earlier_left plan later past s) (delivers s e) refl
  where
    go : (delivery_count (later ++ past) s ≡ delivery_count past s → handed_earlier plan (later ++ past) s ≡ handed_earlier plan past s) → (b : Bool) → delivers s e ≡ b
        → handed_earlier plan (e ∷ later ++ past) s ≡ handed_earlier plan past s
    go rest true is =
        let step = counted e (later ++ past) s true is in
        let more = count_grows later past s in
        absurd (omega (arith, step, more, same))
    go rest false is =
        let step = counted e (later ++ past) s false is in
        ap (λ (b : Bool). cond b (handed plan (later ++ past) s) (handed_earlier plan (later ++ past) s)) is
        ∙ rest (omega (arith, step, same))

-- it stays while nothing is handed over
pub earlier_waits : (plan : PlanView) (h later : List Event) (s : ℕ) → SourceWaits plan h later s → received_earlier plan (h ++ later) s ≡ received_earlier plan h s
unfolding received_earlier delivery_count_of
earlier_waits plan h later s waits =
    let split = reverse-append h later in
    let same : delivery_count (reverse later ++ reverse h) s ≡ delivery_count (reverse h) s = sym (ap (λ (l : List Event). delivery_count l s) split) ∙ waits.times in
    ap (λ (l : List Event). fold_at plan s (handed_earlier plan l s)) split
    ∙ ap (fold_at plan s) (earlier_left plan (reverse later) (reverse h) s same)

joined_last : (plan : PlanView) (past : List Event) (s : ℕ) → 0 < delivery_count past s → joined plan s (fold_at plan s (handed_earlier plan past s)) (last_data plan past s) ≡ received plan past s
joined_last plan [] s some = absurd (omega (arith, some))
joined_last plan (e ∷ past) s some = go (joined_last plan past s) (delivers s e) refl
  where
    go : (0 < delivery_count past s → joined plan s (fold_at plan s (handed_earlier plan past s)) (last_data plan past s) ≡ received plan past s) → (b : Bool) → delivers s e ≡ b → joined plan s (fold_at plan s (handed_earlier plan (e ∷ past) s)) (last_data plan (e ∷ past) s) ≡ received plan (e ∷ past) s
    go rest true is =
        ap (λ (b : Bool). joined plan s (fold_at plan s (cond b (handed plan past s) (handed_earlier plan past s))) (cond b (pending plan past s) (last_data plan past s))) is
        ∙ sym (fold_at_push plan s (handed plan past s) (pending plan past s))
        ∙ sym (ap (λ (b : Bool). fold_at plan s (handed plan past s ++ cond b (pending plan past s ∷ []) [])) is)
    go rest false is =
        let step = counted e past s false is in
        ap (λ (b : Bool). joined plan s (fold_at plan s (cond b (handed plan past s) (handed_earlier plan past s))) (cond b (pending plan past s) (last_data plan past s))) is
        ∙ rest (omega (arith, step, some))
        ∙ sym (ap (λ (b : Bool). fold_at plan s (handed plan past s ++ cond b (pending plan past s ∷ []) [])) is ∙ ap (fold_at plan s) (append-nil (handed plan past s)))

-- with what the last Deliver handed over it is all that was handed over
pub earlier_and_last : (plan : PlanView) (h : List Event) (s : ℕ) → 0 < delivery_count_of h s → joined plan s (received_earlier plan h s) (last_data_of plan h s) ≡ received_of plan h s
unfolding received_earlier delivery_count_of last_data_of received_of
earlier_and_last plan h s some = joined_last plan (reverse h) s some

-- What a source that is not a replace source was given is what it handed over, with what is pending.
use Rattle.std.proofs.Common.{◌≡◌, ℕ, suc, ◌-◌, ◌<◌, ◌==◌, true, false, not, cond, List, [], ◌∷◌, ◌++◌, length, fold, Some, None, unwrap_or, refl, ap, sym, ◌∙◌, subst, arith, append_assoc}
use Rattle.std.specs.List.{slice_get}
use Rattle.std.proofs.lemmas.Bool.{eqb-true, eq-eqb, and_parts, both_ways}
use Rattle.std.specs.Option.{option_map_or}
use Rattle.std.specs.Prelude.{bit_or}
use Rattle.std.specs.Int.Bits.{or_zero_l}
use Rattle.std.proofs.lemmas.Nat.Bits.{bit_at_or, same_from_bits}
use Rattle.std.proofs.lemmas.List.{append-nil}
use Rattle.std.proofs.lemmas.List.Sums.{fold-append, fold_push}
use Rattle.gcd_plan.specs.PlanView.{PlanView, kind_of}
use Rattle.gcd_plan.specs.declared.kind.Kind.{Kind}
use Rattle.gcd_plan.specs.declared.kind.Kind.TheVariants.{Or, Replace}
use Rattle.gcd_plan.specs.Kinds.{has_kind, is_replace_kind}
use Rattle.gcd_plan.specs.KindValues.{folded}
use Rattle.gcd_plan.proofs.Folded.{folded-zero}
use Rattle.gcd_event.specs.declared.event.Event.{Event}
use Rattle.gcd_event.specs.declared.event.Event.TheVariants.{Deliver}
use Rattle.gcd_history.specs.Sources.{fold_of, input, delivers, inputs, new_inputs, pending, handed, received, merged, joined, is_pending}
use Rattle.gcd_history.specs.Permitted.{why, IsLawful}
use Rattle.gcd_plan.proofs.Places.{slice_get_some}
use Rattle.gcd_history.proofs.Permitted.Reasons.{at_deliver}

or_associates : (a b c : ℕ) → bit_or (bit_or a b) c ≡ bit_or a (bit_or b c)
or_associates a b c = same_from_bits (bit_or (bit_or a b) c) (bit_or a (bit_or b c)) (λ i.
    let one = bit_at_or (bit_or a b) c i in
    let two = bit_at_or a b i in
    let three = bit_at_or a (bit_or b c) i in
    let four = bit_at_or b c i in
    omega arith)

-- folding is associative
pub folded-assoc : (kind : Kind) (a b c : ℕ) → folded kind (folded kind a b) c ≡ folded kind a (folded kind b c)
folded-assoc Or a b c = or_associates a b c
folded-assoc kind a b c = omega arith

pub zero-folded : (kind : Kind) (a : ℕ) → folded kind 0 a ≡ a
zero-folded Or a = or_zero_l a
zero-folded kind a = omega arith

-- a fold from a is a, with the fold from 0
fold_from : (kind : Kind) (a : ℕ) (xs : List ℕ) → is_replace_kind kind ≡ false → fold (folded kind) a xs ≡ folded kind a (fold (folded kind) 0 xs)
fold_from kind a [] keeps = sym (folded-zero kind a keeps)
fold_from kind a (x ∷ xs) keeps =
    fold_from kind (folded kind a x) xs keeps
    ∙ folded-assoc kind a x (fold (folded kind) 0 xs)
    ∙ ap (λ v. folded kind a (folded kind v (fold (folded kind) 0 xs))) (sym (zero-folded kind x))
    ∙ ap (folded kind a) (sym (fold_from kind (folded kind 0 x) xs keeps))

pub fold_of-append : (kind : Kind) (xs ys : List ℕ) → is_replace_kind kind ≡ false → fold_of kind (xs ++ ys) ≡ folded kind (fold_of kind xs) (fold_of kind ys)
fold_of-append kind xs ys keeps = fold-append (folded kind) 0 xs ys ∙ fold_from kind (fold_of kind xs) ys keeps

-- over any kind, the inputs are what was handed over, with the new ones
handed_step : (kind : Kind) (given new all : List ℕ) (more : List ℕ) → is_replace_kind kind ≡ false → folded kind (fold_of kind given) (fold_of kind new) ≡ fold_of kind all →
    folded kind (fold_of kind (given ++ [])) (fold_of kind (new ++ more)) ≡ fold_of kind (all ++ more)
handed_step kind given new all more keeps old =
    ap (λ l. folded kind (fold_of kind l) (fold_of kind (new ++ more))) (append-nil given)
    ∙ ap (folded kind (fold_of kind given)) (fold_of-append kind new more keeps)
    ∙ sym (folded-assoc kind (fold_of kind given) (fold_of kind new) (fold_of kind more))
    ∙ ap (λ v. folded kind v (fold_of kind more)) old
    ∙ sym (fold_of-append kind all more keeps)

-- a Deliver hands over what is new
deliver_step : (kind : Kind) (given new all : List ℕ) (value : ℕ) → is_replace_kind kind ≡ false → value ≡ fold_of kind new → folded kind (fold_of kind given) (fold_of kind new) ≡ fold_of kind all →
    folded kind (fold_of kind (given ++ value ∷ [])) (fold_of kind []) ≡ fold_of kind (all ++ [])
deliver_step kind given new all value keeps is old =
    folded-zero kind (fold_of kind (given ++ value ∷ [])) keeps
    ∙ fold_push (folded kind) 0 given value
    ∙ ap (folded kind (fold_of kind given)) is
    ∙ old
    ∙ ap (fold_of kind) (sym (append-nil all))

no_input : (plan : PlanView) (past : List Event) (e : Event) (s : ℕ) → delivers s e ≡ true → input plan past e s ≡ []
no_input plan past (Deliver w t) s h = refl
no_input plan past e s h = cc

conserved_kind : (plan : PlanView) (past : List Event) (s : ℕ) (kind : Kind) → is_replace_kind kind ≡ false → kind_of plan s ≡ Some kind →
    folded kind (fold_of kind (handed plan past s)) (fold_of kind (new_inputs plan past s)) ≡ fold_of kind (inputs plan past s)
conserved_kind plan [] s kind keeps is = zero-folded kind 0
conserved_kind plan (e ∷ past) s kind keeps is =
    let old = conserved_kind plan past s kind keeps is in
    let value : pending plan past s ≡ fold_of kind (new_inputs plan past s) = ap (λ o. option_map_or (λ k. fold_of k (new_inputs plan past s)) o 0) is in
    elim (delivers s e) as (λ v. delivers s e ≡ v →
    folded kind (fold_of kind (handed plan past s ++ cond v (pending plan past s ∷ []) [])) (fold_of kind (cond v [] (new_inputs plan past s ++ input plan past e s)))
    ≡ fold_of kind (inputs plan past s ++ input plan past e s)) [
      | true ↦ λ h. deliver_step kind (handed plan past s) (new_inputs plan past s) (inputs plan past s) (pending plan past s) keeps value old
          ∙ ap (λ l. fold_of kind (inputs plan past s ++ l)) (sym (no_input plan past e s h))
      | false ↦ λ h. handed_step kind (handed plan past s) (new_inputs plan past s) (inputs plan past s) (input plan past e s) keeps old
    ] refl

pub conserved : (plan : PlanView) (past : List Event) (s : ℕ) → has_kind is_replace_kind plan s ≡ false → joined plan s (received plan past s) (pending plan past s) ≡ merged plan past s
conserved plan past s keeps =
    elim (kind_of plan s) as (λ o. kind_of plan s ≡ o → option_map_or is_replace_kind o false ≡ false →
    option_map_or (λ kind. folded kind (option_map_or (λ k. fold_of k (handed plan past s)) o 0) (option_map_or (λ k. fold_of k (new_inputs plan past s)) o 0)) o 0
    ≡ option_map_or (λ k. fold_of k (inputs plan past s)) o 0) [
      | None ↦ λ is other. refl
      | Some kind ↦ λ is other. conserved_kind plan past s kind other is
    ] refl keeps

-- ## Replace sources

-- the last of the values, or a where there is none
fold_last : (a : ℕ) (xs : List ℕ) → fold (folded Replace) a xs ≡ unwrap_or (slice_get xs (length xs - 1)) a
fold_last a [] = refl
fold_last a (x ∷ []) = refl
fold_last a (x ∷ y ∷ ys) =
    let long : length ys < length (y ∷ ys) = omega arith in
    let z = slice_get_some (y ∷ ys) (length ys) long in
    let short : length (y ∷ ys) - 1 ≡ length ys = omega arith in
    let whole : length (x ∷ y ∷ ys) - 1 ≡ suc (length ys) = omega arith in
    fold_last x (y ∷ ys)
    ∙ ap (λ n. unwrap_or (slice_get (y ∷ ys) n) x) short
    ∙ ap (λ o. unwrap_or o x) z.1
    ∙ sym (ap (λ o. unwrap_or o a) z.1)
    ∙ sym (ap (λ n. unwrap_or (slice_get (x ∷ y ∷ ys) n) a) whole)

-- the last of some, after others, is their own
last_append : (xs : List ℕ) (y : ℕ) (ys : List ℕ) → fold (folded Replace) 0 (xs ++ y ∷ ys) ≡ fold (folded Replace) 0 (y ∷ ys)
last_append xs y ys = fold-append (folded Replace) 0 xs (y ∷ ys)

-- the inputs end in the new ones
abbrev old_inputs : PlanView → List Event → ℕ → List ℕ
old_inputs plan [] s = []
old_inputs plan (e ∷ past) s = cond (delivers s e) (inputs plan (e ∷ past) s) (old_inputs plan past s)

split_inputs : (plan : PlanView) (past : List Event) (s : ℕ) → inputs plan past s ≡ old_inputs plan past s ++ new_inputs plan past s
split_inputs plan [] s = refl
split_inputs plan (e ∷ past) s =
    elim (delivers s e) as (λ v. inputs plan past s ++ input plan past e s ≡ cond v (inputs plan past s ++ input plan past e s) (old_inputs plan past s) ++ cond v [] (new_inputs plan past s ++ input plan past e s)) [
      | true ↦ sym (append-nil (inputs plan past s ++ input plan past e s))
      | false ↦ ap (λ l. l ++ input plan past e s) (split_inputs plan past s) ∙ append_assoc (old_inputs plan past s) (new_inputs plan past s) (input plan past e s)
    ]

-- where a merge stands after the last Deliver, the last of those is the last of all
pub last_of_new : (plan : PlanView) (past : List Event) (s : ℕ) → (new_inputs plan past s ≡ [] → ⊥) → fold_of Replace (new_inputs plan past s) ≡ fold_of Replace (inputs plan past s)
last_of_new plan past s some =
    elim (new_inputs plan past s) as (λ l. new_inputs plan past s ≡ l → fold_of Replace l ≡ fold_of Replace (inputs plan past s)) [
      | [] ↦ λ none. absurd (some none)
      | y ∷ ys ↦ λ is. sym (ap (fold_of Replace) (split_inputs plan past s ∙ ap (λ l. old_inputs plan past s ++ l) is) ∙ last_append (old_inputs plan past s) y ys)
    ] refl

nothing_new : (xs ys : List ℕ) → xs ++ ys ≡ [] → (xs ≡ []) × (ys ≡ [])
nothing_new [] ys h = (refl, h)
nothing_new (x ∷ xs) ys h = cc

pending_replace : (plan : PlanView) (past : List Event) (s : ℕ) → kind_of plan s ≡ Some Replace → pending plan past s ≡ fold_of Replace (new_inputs plan past s)
pending_replace plan past s is = ap (λ o. option_map_or (λ k. fold_of k (new_inputs plan past s)) o 0) is

not_pending : (plan : PlanView) (past : List Event) (s : ℕ) → pending plan past s ≡ 0 → is_pending plan past s ≡ true → ⊥
unfolding is_pending
not_pending plan past s none here =
    let some = (and_parts (not (pending plan past s == 0)) _ here).0 in
    both_ways (not (pending plan past s == 0)) (ap not (eq-eqb (pending plan past s) 0 none)) some

-- a lawful Deliver finds something pending, so a merge stands after the one before
deliver_finds : (plan : PlanView) (past : List Event) (e : Event) (s : ℕ) → why plan past e ≡ None → delivers s e ≡ true → pending plan past s ≡ 0 → ⊥
deliver_finds plan past (Deliver w t) s h is none =
    let ready = (at_deliver plan past w t h).ready in
    let here : is_pending plan past s ≡ true = subst (λ n. is_pending plan past n ≡ true) (eqb-true t.0 s is) ready in
    not_pending plan past s none here
deliver_finds plan past e s h is none = cc

-- where none stands after the last Deliver, the last of all was received last
pub last_received : (plan : PlanView) (past : List Event) (s : ℕ) → IsLawful plan past → kind_of plan s ≡ Some Replace → new_inputs plan past s ≡ [] → fold_of Replace (handed plan past s) ≡ fold_of Replace (inputs plan past s)
last_received plan [] s lawful is none = refl
last_received plan (e ∷ past) s lawful is none =
    elim (delivers s e) as (λ v. delivers s e ≡ v → cond v [] (new_inputs plan past s ++ input plan past e s) ≡ []
    → fold_of Replace (handed plan past s ++ cond v (pending plan past s ∷ []) []) ≡ fold_of Replace (inputs plan past s ++ input plan past e s)) [
      | true ↦ λ now nothing.
          let some : new_inputs plan past s ≡ [] → ⊥ = λ empty. deliver_finds plan past e s lawful.1 now (pending_replace plan past s is ∙ ap (fold_of Replace) empty) in
          fold_push (folded Replace) 0 (handed plan past s) (pending plan past s)
          ∙ pending_replace plan past s is
          ∙ last_of_new plan past s some
          ∙ sym (ap (fold_of Replace) (ap (λ l. inputs plan past s ++ l) (no_input plan past e s now) ∙ append-nil (inputs plan past s)))
      | false ↦ λ other nothing.
          let parts = nothing_new (new_inputs plan past s) (input plan past e s) nothing in
          ap (fold_of Replace) (append-nil (handed plan past s))
          ∙ last_received plan past s lawful.0 is parts.0
          ∙ sym (ap (fold_of Replace) (ap (λ l. inputs plan past s ++ l) parts.1 ∙ append-nil (inputs plan past s)))
    ] refl none

pub replace_kind : (plan : PlanView) (s : ℕ) → has_kind is_replace_kind plan s ≡ true → kind_of plan s ≡ Some Replace
replace_kind plan s h =
    elim (kind_of plan s) as (λ o. option_map_or is_replace_kind o false ≡ true → o ≡ Some Replace) [
      | None ↦ λ no. cc
      | Some kind ↦ λ yes. ap Some (one kind yes)
    ] h
  where
    one : (kind : Kind) → is_replace_kind kind ≡ true → kind ≡ Replace
    one Replace h = refl
    one kind h = cc

pub last_is : (xs : List ℕ) → fold_of Replace xs ≡ unwrap_or (slice_get xs (length xs - 1)) 0
last_is xs = fold_last 0 xs

-- The intake after an event: which of its blocks are accepted, and the next.
use Rattle.std.proofs.Common.{◌≡◌, ℕ, zero, suc, ◌+◌, ◌<◌, ◌≤◌, ◌==◌, leb, ltb, Bool, true, false, not, ◌&&◌, ◌||◌, cond, List, [], ◌∷◌, map, find, Option, Some, None, is_some, refl, ap, sym, ◌∙◌, arith, ⊎_elim, eq-eqb, ne_eqb, le-leb, lt-ltb}
use Rattle.std.specs.List.{list_any, range_with_len}
use Rattle.std.specs.Option.{option_map_or, option_and_then}
use Rattle.std.proofs.lemmas.Bool.{cases_eq, cases_lt, and_parts, leb-true, ltb-true, false_from_ne_true}
use Rattle.std.proofs.lemmas.Option.{same_Some}
use Rattle.gcd_plan.specs.Made.{is_within, intake_span, blocks_in}
use Rattle.gcd_plan.specs.PlanView.{PlanView, IntakeView}
use Rattle.gcd_plan.specs.declared.numbers.Blk.{Blk}
use Rattle.gcd_event.specs.declared.event.Event.{Event}
use Rattle.gcd_event.specs.declared.event.Event.TheVariants.{Accept, Shut}
use Rattle.gcd_history.specs.Intake.{is_accepted, shuts, is_intake_open, next_of_intake}
use Rattle.gcd_history.specs.Permitted.{IsLawful}
use Rattle.gcd_history.proofs.Permitted.Reasons.{at_accept}
use Rattle.gcd_refinement.specs.MachineView.{MachineView, machine_of}
use Rattle.gcd_refinement.specs.Ties.{IntakeIs, is_taken, next_in}
use Rattle.gcd_refinement.specs.AfterStrips.{accepted_after, shut_after}
use Rattle.gcd_refinement.specs.After.{after}

-- ## The next block

-- the first number from a on that is past the taken ones
next_from : (past : List Event) (first taken : ℕ) → ((b : ℕ) → is_accepted past b ≡ is_within b (record { first = first; count = taken })) → (a n : ℕ) → a ≤ first + taken → first ≤ a
    → find (λ (b : Blk). not (is_accepted past b.0)) (map (λ b. record { 0 = b }) (range_with_len a n)) ≡ cond (ltb (first + taken) (a + n)) (Some (record { 0 = first + taken })) None
next_from past first taken are a zero high low = ap (λ t. cond t (Some (record { 0 = first + taken })) None) (sym (false_from_ne_true (ltb (first + taken) (a + 0)) (λ h. let l = ltb-true (first + taken) (a + 0) h in absurd (omega (arith, l, high)))))
next_from past first taken are a (suc n) high low =
    ⊎_elim
    (λ (here : a < first + taken).
    let held : is_accepted past a ≡ true = are a ∙ (ap (λ t. t && ltb a (first + taken)) (le-leb first a low) ∙ lt-ltb a (first + taken) here) in
    ap (λ t. cond (not t) (Some (record { 0 = a })) (find (λ (b : Blk). not (is_accepted past b.0)) (map (λ b. record { 0 = b }) (range_with_len (a + 1) n)))) held
    ∙ (next_from past first taken are (a + 1) n (omega (arith, here)) (omega (arith, low))
    ∙ ap (λ m. cond (ltb (first + taken) m) (Some (record { 0 = first + taken })) None) (let e : a + 1 + n ≡ a + suc n = omega arith in e)))
    (λ (there : first + taken ≤ a).
    let same : a ≡ first + taken = omega (arith, there, high) in
    let free : is_accepted past a ≡ false =
    are a ∙ (ap (λ t. leb first a && t) (false_from_ne_true (ltb a (first + taken)) (λ h. let l = ltb-true a (first + taken) h in absurd (omega (arith, l, there)))) ∙ off (leb first a)) in
    ap (λ t. cond (not t) (Some (record { 0 = a })) (find (λ (b : Blk). not (is_accepted past b.0)) (map (λ b. record { 0 = b }) (range_with_len (a + 1) n)))) free
    ∙ (ap (λ m. Some (record { 0 = m })) same
    ∙ ap (λ t. cond t (Some (record { 0 = first + taken })) None) (sym (lt-ltb (first + taken) (a + suc n) (omega (arith, same))))))
    (cases_lt a (first + taken))
  where
    off : (t : Bool) → (t && false) ≡ false
    off true = refl
    off false = refl

-- the next is told by how many are accepted
next_is : (plan : PlanView) (past : List Event) (v : MachineView) → v.shut ≡ list_any shuts past → ((b : ℕ) → is_accepted past b ≡ is_taken plan v b) → next_in plan v ≡ next_of_intake plan past
unfolding next_of_intake is_intake_open
next_is plan past v shut taken = by plan.intake refl
  where
    same_less : (f m n : ℕ) → ltb m n ≡ ltb (f + m) (f + n)
    same_less f m n =
        ⊎_elim
        (λ (less : m < n). lt-ltb m n less ∙ sym (lt-ltb (f + m) (f + n) (omega (arith, less))))
        (λ (more : n ≤ m).
        false_from_ne_true (ltb m n) (λ h. let l = ltb-true m n h in absurd (omega (arith, l, more)))
        ∙ sym (false_from_ne_true (ltb (f + m) (f + n)) (λ h. let l = ltb-true (f + m) (f + n) h in absurd (omega (arith, l, more)))))
        (cases_lt m n)

    by : (o : Option IntakeView) → plan.intake ≡ o
        → option_and_then (λ (i : IntakeView). cond (not v.shut && ltb v.accepted i.count) (Some (record { 0 = i.first + v.accepted })) None) o
        ≡ cond (is_some o && not (list_any shuts past)) (find (λ (b : Blk). not (is_accepted past b.0)) (option_map_or (λ (i : IntakeView). blocks_in (intake_span i)) o [])) None
    by None is = refl
    by (Some i) is =
        let are : (b : ℕ) → is_accepted past b ≡ is_within b (record { first = i.first; count = v.accepted }) = λ b.
        taken b ∙ ap (λ o. option_map_or (λ (k : IntakeView). is_within b (record { first = k.first; count = v.accepted })) o false) is in
        let found = next_from past i.first v.accepted are i.first i.count (omega arith) (omega arith) in
        ap (λ t. cond (not t && ltb v.accepted i.count) (Some (record { 0 = i.first + v.accepted })) None) shut
        ∙ (elim (list_any shuts past) as (λ t. cond (not t && ltb v.accepted i.count) (Some (record { 0 = i.first + v.accepted })) None ≡ cond (not t) (find (λ (b : Blk). not (is_accepted past b.0)) (blocks_in (intake_span i))) None) [
          | true ↦ refl
          | false ↦ ap (λ u. cond u (Some (record { 0 = i.first + v.accepted })) None) (same_less i.first v.accepted i.count) ∙ sym found
        ])

-- from these three all follows
intake_from : (plan : PlanView) (past : List Event) (v : MachineView) → v.shut ≡ list_any shuts past → ((b : ℕ) → is_accepted past b ≡ is_taken plan v b) → v.accepted ≤ option_map_or (λ (i : IntakeView). i.count) plan.intake 0
    → IntakeIs plan past v
unfolding is_intake_open
intake_from plan past v shut taken few = record {
  shut = shut;
  taken = taken;
  few = few;
  is_open = ap (λ t. is_some plan.intake && not t) shut;
  next = next_is plan past v shut taken;
}

-- ## The outset and the step

pub intake_begin : (plan : PlanView) → IntakeIs plan [] (machine_of plan)
intake_begin plan =
    intake_from plan [] (machine_of plan) refl (λ b. by b plan.intake) (omega arith)
  where
    by : (b : ℕ) (o : Option IntakeView) → false ≡ option_map_or (λ (i : IntakeView). is_within b (record { first = i.first; count = 0 })) o false
    by b None = refl
    by b (Some i) =
        sym (false_from_ne_true (leb i.first b && ltb b (i.first + 0)) (λ h.
        let parts = and_parts (leb i.first b) (ltb b (i.first + 0)) h in
        let low = leb-true i.first b parts.0 in
        let high = ltb-true b (i.first + 0) parts.1 in
        absurd (omega (arith, low, high))))

-- one more is taken: the next
one_taken : (first taken b c : ℕ) → c ≡ first + taken → (c == b || is_within b (record { first = first; count = taken })) ≡ is_within b (record { first = first; count = taken + 1 })
one_taken first taken b c at =
    ⊎_elim
    (λ (same : c ≡ b).
    let least : leb first b ≡ true = le-leb first b (omega (arith, same, at)) in
    let most : ltb b (first + (taken + 1)) ≡ true = lt-ltb b (first + (taken + 1)) (omega (arith, same, at)) in
    ap (λ t. t || (leb first b && ltb b (first + taken))) (eq-eqb c b same) ∙ sym (ap (λ t. t && ltb b (first + (taken + 1))) least ∙ most))
    (λ (other : c ≡ b → ⊥).
    ap (λ t. t || (leb first b && ltb b (first + taken))) (ne_eqb c b other) ∙ ap (λ t. leb first b && t) (as_before other))
    (cases_eq c b)
  where
    as_before : (c ≡ b → ⊥) → ltb b (first + taken) ≡ ltb b (first + (taken + 1))
    as_before other =
        ⊎_elim
        (λ (below : b < first + taken). lt-ltb b (first + taken) below ∙ sym (lt-ltb b (first + (taken + 1)) (omega (arith, below))))
        (λ (above : first + taken ≤ b).
        false_from_ne_true (ltb b (first + taken)) (λ h. let l = ltb-true b (first + taken) h in absurd (omega (arith, l, above)))
        ∙ sym (false_from_ne_true (ltb b (first + (taken + 1))) (λ h. let l = ltb-true b (first + (taken + 1)) h in other (omega (arith, l, above, at)))))
        (cases_lt b (first + taken))

-- what an Accept accepts is the next
pub record Accepts (plan : PlanView) (v : MachineView) (b : Blk) : Type 0 where
  pub intake : IntakeView
  pub is : plan.intake ≡ Some intake
  pub next : b.0 ≡ intake.first + v.accepted
  pub few : v.accepted < intake.count

pub accepts_next : (plan : PlanView) (v : MachineView) (b : Blk) → next_in plan v ≡ Some b → Accepts plan v b
accepts_next plan v b next = by plan.intake refl next
  where
    by : (o : Option IntakeView) → plan.intake ≡ o → option_and_then (λ (i : IntakeView). cond (not v.shut && ltb v.accepted i.count) (Some (record { 0 = i.first + v.accepted })) None) o ≡ Some b → Accepts plan v b
    by None is at = cc
    by (Some i) is at =
        elim (not v.shut && ltb v.accepted i.count) as (λ t. (not v.shut && ltb v.accepted i.count) ≡ t → cond t (Some (record { 0 = i.first + v.accepted })) None ≡ Some b → Accepts plan v b) [
          | true ↦ λ h k. record {
            intake = i;
            is = is;
            next = ap (λ (c : Blk). c.0) (sym (same_Some (record { 0 = i.first + v.accepted }) b k));
            few = ltb-true v.accepted i.count (and_parts (not v.shut) (ltb v.accepted i.count) h).1;
          }
          | false ↦ λ h k. cc
        ] refl at

-- no more are accepted than the intake has
accepted_step : (plan : PlanView) (past : List Event) (e : Event) (v : MachineView) → IsLawful plan (e ∷ past) → IntakeIs plan past v
    → accepted_after v e ≤ option_map_or (λ (i : IntakeView). i.count) plan.intake 0
accepted_step plan past (Accept c s) v lawful tie =
    let facts = accepts_next plan v c (tie.next ∙ at_accept plan past c s lawful.1) in
    let count : option_map_or (λ (i : IntakeView). i.count) plan.intake 0 ≡ facts.intake.count = ap (λ o. option_map_or (λ (i : IntakeView). i.count) o 0) facts.is in
    let low = facts.few in
    omega (arith, count, low)
accepted_step plan past e v lawful tie = tie.few

pub intake_step : (plan : PlanView) (past : List Event) (e : Event) (v : MachineView) → IsLawful plan (e ∷ past) → IntakeIs plan past v → IntakeIs plan (e ∷ past) (after plan v e)
intake_step plan past e v lawful tie =
    intake_from plan (e ∷ past) (after plan v e) (shut_is e) (λ b. taken_is e b lawful) (accepted_step plan past e v lawful tie)
  where
    or_none : (t : Bool) → (t || false) ≡ t
    or_none true = refl
    or_none false = refl

    or_true : (t : Bool) → (t || true) ≡ true
    or_true true = refl
    or_true false = refl

    shut_is : (e : Event) → shut_after v e ≡ list_any shuts (e ∷ past)
    shut_is Shut = ap (λ t. t || true) tie.shut ∙ or_true (list_any shuts past)
    shut_is e = or_none v.shut ∙ tie.shut

    taken_is : (e : Event) (b : ℕ) → IsLawful plan (e ∷ past) → is_accepted (e ∷ past) b ≡ is_taken plan (after plan v e) b
    taken_is (Accept c s) b lawful =
        let facts = accepts_next plan v c (tie.next ∙ at_accept plan past c s lawful.1) in
        ap (λ t. c.0 == b || t) (tie.taken b ∙ ap (λ o. option_map_or (λ (k : IntakeView). is_within b (record { first = k.first; count = v.accepted })) o false) facts.is)
        ∙ (one_taken facts.intake.first v.accepted b c.0 facts.next
        ∙ sym (ap (λ o. option_map_or (λ (k : IntakeView). is_within b (record { first = k.first; count = v.accepted + 1 })) o false) facts.is))
    taken_is e b lawful = tie.taken b

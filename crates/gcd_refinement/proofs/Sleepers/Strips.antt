-- Who is parked for the blocks of a strip applied it, and nobody else did.
use Rattle.std.proofs.Common.{◌≡◌, ⊎_elim, ℕ, ◌==◌, Bool, true, false, ◌&&◌, ◌||◌, cond, List, [], ◌∷◌, ◌++◌, map, Option, Some, None, refl, ap, sym, ◌∙◌, subst, arith, eq-eqb}
use Rattle.std.specs.List.{list_any, list_all}
use Rattle.std.proofs.lemmas.Bool.{both_ways, and_from, eqb-true, or_left, false_from_ne_true}
use Rattle.gcd_plan.specs.Made.{strip_blocks}
use Rattle.gcd_plan.specs.PlanView.{PlanView}
use Rattle.gcd_plan.specs.Validity.{IsPlan}
use Rattle.gcd_plan.specs.declared.act.Act.{Act}
use Rattle.gcd_plan.specs.declared.act.Act.TheVariants.{Apply}
use Rattle.gcd_plan.specs.declared.numbers.Blk.{Blk}
use Rattle.gcd_plan.specs.declared.numbers.Obj.{Obj}
use Rattle.gcd_plan.specs.declared.numbers.Run.TheVariants.{Block}
use Rattle.gcd_plan.specs.declared.reason.Reason.TheVariants.{Strip}
use Rattle.gcd_plan.proofs.Sums.{count_by-append, count_by_some}
use Rattle.gcd_event.specs.declared.event.Event.{Event}
use Rattle.gcd_event.specs.declared.event.Event.TheVariants.{Act as Acted}
use Rattle.gcd_history.specs.declared.submission.Submission.{Submission}
use Rattle.gcd_history.specs.Runs.{act_at, is_ended, ends}
use Rattle.gcd_history.specs.Submitted.{submission, submitted, submitted_by, new_submissions}
use Rattle.gcd_history.specs.Parked.{awaited_by, awaited, has_come, has_run_out}
use Rattle.gcd_history.specs.Permitted.{IsLawful}
use Rattle.gcd_history.proofs.Lists.{any_left, any_right}
use Rattle.gcd_history.proofs.Blocks.SubmittedOnce.{submitted_once}
use Rattle.gcd_history.proofs.Waits.Woken.{parked_facts}
use Rattle.gcd_refinement.specs.Sleepers.{applies, block_if, is_done, strip_sleepers}
use Rattle.gcd_refinement.proofs.Lists.Among.{among, split, alone}
use Rattle.gcd_refinement.proofs.Groups.Members.{own_any}
use Rattle.gcd_refinement.proofs.Sleepers.NewlyParked.{parked_now, parked_new, now_parked, still_parked}

-- ## Who sleeps

-- nobody sleeps for a strip that is done
pub none_sleeps : (plan : PlanView) (past : List Event) (a : ℕ) → is_done plan past a ≡ true → strip_sleepers plan past a ≡ []
none_sleeps plan [] a h = refl
none_sleeps plan (e ∷ past) a h = ap (λ t. cond t [] (strip_sleepers plan past a ++ block_if (applies a) plan e)) h

-- what has ended stays so
all_kept : (past : List Event) (e : Event) (xs : List Blk) → list_all (λ b. is_ended past b.0) xs ≡ true → list_all (λ b. is_ended (e ∷ past) b.0) xs ≡ true
all_kept past e [] h = refl
all_kept past e (x ∷ xs) h =
    elim (is_ended past x.0) as (λ t. is_ended past x.0 ≡ t → (t && list_all (λ b. is_ended past b.0) xs) ≡ true → ((ends x.0 e || is_ended past x.0) && list_all (λ b. is_ended (e ∷ past) b.0) xs) ≡ true) [
      | true ↦ λ at k. and_from (ends x.0 e || is_ended past x.0) (list_all (λ b. is_ended (e ∷ past) b.0) xs) (ap (λ t. ends x.0 e || t) at ∙ or_true (ends x.0 e)) (all_kept past e xs k)
      | false ↦ λ at k. cc
    ] refl h
  where
    or_true : (t : Bool) → (t || true) ≡ true
    or_true true = refl
    or_true false = refl

pub undone_before : (plan : PlanView) (past : List Event) (e : Event) (a : ℕ) → is_done plan (e ∷ past) a ≡ false → is_done plan past a ≡ false
undone_before plan past e a h = false_from_ne_true (is_done plan past a) (λ done. both_ways (is_done plan (e ∷ past) a) h (all_kept past e (strip_blocks plan a) done))

now_applied : (plan : PlanView) (past : List Event) (e : Event) (b : Blk) (a : ℕ) → parked_now plan past e b.0 ≡ Some (Strip a) → among b (block_if (applies a) plan e) ≡ true
now_applied plan past (Acted w (Block d) i) b a h =
    elim (d.0 == b.0) as (λ t. d.0 == b.0 ≡ t → cond t (awaited_by plan past (act_at plan (Block d) i)) None ≡ Some (Strip a) → among b (cond (applies a (act_at plan (Block d) i)) (d ∷ []) []) ≡ true) [
      | true ↦ λ same k. by (act_at plan (Block d) i) same k
      | false ↦ λ other k. cc
    ] refl h
  where
    strip_same : (k a : ℕ) → Some (Strip k) ≡ Some (Strip a) → k ≡ a
    strip_same k a e = cc

    by : (act : Option Act) → (d.0 == b.0) ≡ true → awaited_by plan past act ≡ Some (Strip a) → among b (cond (applies a act) (d ∷ []) []) ≡ true
    by (Some (Apply q k)) same h = ap (λ t. among b (cond t (d ∷ []) [])) (eq-eqb k a (strip_same k a h)) ∙ or_left (d.0 == b.0) false same
    by act same h = cc
now_applied plan past e b a h = cc

applies_now : (plan : PlanView) (past : List Event) (e : Event) (b : Blk) (a : ℕ) → among b (block_if (applies a) plan e) ≡ true → parked_now plan past e b.0 ≡ Some (Strip a)
applies_now plan past (Acted w (Block d) i) b a h =
    by (act_at plan (Block d) i) refl h
  where
    by : (act : Option Act) → act_at plan (Block d) i ≡ act → among b (cond (applies a act) (d ∷ []) []) ≡ true → cond (d.0 == b.0) (awaited_by plan past (act_at plan (Block d) i)) None ≡ Some (Strip a)
    by (Some (Apply q k)) at h =
        elim (k == a) as (λ t. k == a ≡ t → among b (cond t (d ∷ []) []) ≡ true → cond (d.0 == b.0) (awaited_by plan past (act_at plan (Block d) i)) None ≡ Some (Strip a)) [
          | true ↦ λ same j.
              ap (λ t. cond t (awaited_by plan past (act_at plan (Block d) i)) None) (eq-eqb d.0 b.0 (ap (λ x. x.0) (alone d b j)))
              ∙ (ap (awaited_by plan past) at ∙ ap (λ n. Some (Strip n)) (eqb-true k a same))
          | false ↦ λ other j. cc
        ] refl h
    by act at h = cc
applies_now plan past e b a h = cc

-- who is parked for a strip that is not done sleeps for it
pub awaits_strip : (plan : PlanView) (past : List Event) (b : Blk) (a : ℕ) → IsLawful plan past → awaited plan past (Block b) ≡ Some (Strip a) → is_done plan past a ≡ false → among b (strip_sleepers plan past a) ≡ true
awaits_strip plan [] b a lawful is on = let facts = parked_facts plan [] b (Strip a) is in let no_run : false ≡ true = facts.live in cc
awaits_strip plan (e ∷ past) b a lawful is on =
    ap (λ t. among b (cond t [] (strip_sleepers plan past a ++ block_if (applies a) plan e))) on
    ∙ ⊎_elim
    (λ new. any_right (λ k. k.0 == b.0) (strip_sleepers plan past a) (block_if (applies a) plan e) (now_applied plan past e b a new))
    (λ old. any_left (λ k. k.0 == b.0) (strip_sleepers plan past a) (block_if (applies a) plan e) (awaits_strip plan past b a lawful.0 old (undone_before plan past e a on)))
    (parked_new plan past e b (Strip a) is)

-- and who sleeps for it is parked for it
pub record SleepsForStrip (plan : PlanView) (past : List Event) (b : Blk) (a : ℕ) : Type 0 where
  pub is : awaited plan past (Block b) ≡ Some (Strip a)
  pub on : is_done plan past a ≡ false

pub strip_sleeper_parked : (plan : PlanView) (past : List Event) (b : Blk) (a : ℕ) → IsLawful plan past → among b (strip_sleepers plan past a) ≡ true → SleepsForStrip plan past b a
unfolding has_come has_run_out
strip_sleeper_parked plan [] b a lawful any = cc
strip_sleeper_parked plan (e ∷ past) b a lawful any =
    elim (is_done plan (e ∷ past) a) as (λ t. is_done plan (e ∷ past) a ≡ t → among b (cond t [] (strip_sleepers plan past a ++ block_if (applies a) plan e)) ≡ true → SleepsForStrip plan (e ∷ past) b a) [
      | true ↦ λ h k. cc
      | false ↦ λ h k.
          record {
            is = ⊎_elim
                (λ old.
                let was = strip_sleeper_parked plan past b a lawful.0 old in
                still_parked plan past e b (Strip a) lawful was.is (ap (λ t. t || false) was.on))
                (λ new. now_parked plan past e b (Strip a) lawful (applies_now plan past e b a new))
                (split b (strip_sleepers plan past a) (block_if (applies a) plan e) k);
            on = h;
          }
    ] refl any

-- ## A strip is applied once

-- a block of the list that passes
record Passing (p : Blk → Bool) (xs : List Blk) : Type 0 where
  blk : Blk
  is : p blk ≡ false
  there : list_any (λ c. c.0 == blk.0) xs ≡ true

one_left : (p : Blk → Bool) (xs : List Blk) → list_all p xs ≡ false → Passing p xs
one_left p [] h = cc
one_left p (x ∷ xs) h =
    elim (p x) as (λ t. p x ≡ t → (t && list_all p xs) ≡ false → Passing p (x ∷ xs)) [
      | true ↦ λ at k.
          let rest = one_left p xs k in
          record { blk = rest.blk; is = rest.is; there = any_right (λ c. c.0 == rest.blk.0) (x ∷ []) xs rest.there }
      | false ↦ λ at k. record { blk = x; is = at; there = or_left (x.0 == x.0) (list_any (λ c. c.0 == x.0) xs) (eq-eqb x.0 x.0 refl) }
    ] refl h

strip_any : (q : Obj) (c : ℕ) (xs : List Blk) → list_any (λ b. b.0 == c) xs ≡ true → list_any (λ (s : Submission). s.blk.0 == c) (map (submission q false) xs) ≡ true
strip_any q c [] h = cc
strip_any q c (x ∷ xs) h =
    elim (x.0 == c) as (λ t. (t || list_any (λ b. b.0 == c) xs) ≡ true → (t || list_any (λ (s : Submission). s.blk.0 == c) (map (submission q false) xs)) ≡ true) [ true ↦ λ k. refl | false ↦ λ k. strip_any q c xs k ] h

-- what an event that applies the strip submits
applied_any : (plan : PlanView) (past : List Event) (e : Event) (a c : ℕ) (b : Blk) → among b (block_if (applies a) plan e) ≡ true → list_any (λ k. k.0 == c) (strip_blocks plan a) ≡ true
    → list_any (λ (s : Submission). s.blk.0 == c) (new_submissions plan past e) ≡ true
applied_any plan past (Acted w (Block d) i) a c b h there =
    own_any plan past (Acted w (Block d) i) (λ s. s.blk.0 == c) (by (act_at plan (Block d) i) h)
  where
    by : (act : Option Act) → among b (cond (applies a act) (d ∷ []) []) ≡ true → list_any (λ (s : Submission). s.blk.0 == c) (submitted_by plan act) ≡ true
    by (Some (Apply q k)) h =
        elim (k == a) as (λ t. k == a ≡ t → among b (cond t (d ∷ []) []) ≡ true → list_any (λ (s : Submission). s.blk.0 == c) (map (submission q false) (strip_blocks plan k)) ≡ true) [
          | true ↦ λ same j. strip_any q c (strip_blocks plan k) (subst (λ n. list_any (λ m. m.0 == c) (strip_blocks plan n) ≡ true) (sym (eqb-true k a same)) there)
          | false ↦ λ other j. cc
        ] refl h
    by act h = cc
applied_any plan past e a c b h there = cc

-- who sleeps for a strip applied it, so that its blocks are submitted
slept_submitted : (plan : PlanView) (past : List Event) (a c : ℕ) (b : Blk) → among b (strip_sleepers plan past a) ≡ true → list_any (λ k. k.0 == c) (strip_blocks plan a) ≡ true
    → list_any (λ (s : Submission). s.blk.0 == c) (submitted plan past) ≡ true
slept_submitted plan [] a c b any there = cc
slept_submitted plan (e ∷ past) a c b any there =
    elim (is_done plan (e ∷ past) a) as (λ t. among b (cond t [] (strip_sleepers plan past a ++ block_if (applies a) plan e)) ≡ true → list_any (λ (s : Submission). s.blk.0 == c) (submitted plan (e ∷ past)) ≡ true) [
      | true ↦ λ k. cc
      | false ↦ λ k.
          ⊎_elim
          (λ old. any_left (λ (s : Submission). s.blk.0 == c) (submitted plan past) (new_submissions plan past e) (slept_submitted plan past a c b old there))
          (λ new. any_right (λ (s : Submission). s.blk.0 == c) (submitted plan past) (new_submissions plan past e) (applied_any plan past e a c b new there))
          (split b (strip_sleepers plan past a) (block_if (applies a) plan e) k)
    ] any

no_one : (xs : List Blk) → ((b : Blk) → among b xs ≡ true → ⊥) → xs ≡ []
no_one [] none = refl
no_one (x ∷ xs) none = absurd (none x (or_left (x.0 == x.0) (among x xs) (eq-eqb x.0 x.0 refl)))

-- so nobody sleeps for a strip that is applied now, unless it is done
pub applied_once : (plan : PlanView) (past : List Event) (e : Event) (a : ℕ) (b : Blk) → IsPlan plan → IsLawful plan (e ∷ past) → among b (block_if (applies a) plan e) ≡ true → is_done plan past a ≡ false → strip_sleepers plan past a ≡ []
applied_once plan past e a b valid lawful now on =
    no_one (strip_sleepers plan past a) (λ d slept.
    let left = one_left (λ c. is_ended past c.0) (strip_blocks plan a) on in
    let c = left.blk.0 in
    let was = count_by_some (λ (s : Submission). s.blk.0 == c) (submitted plan past) (slept_submitted plan past a c d slept left.there) in
    let new = count_by_some (λ (s : Submission). s.blk.0 == c) (new_submissions plan past e) (applied_any plan past e a c b now left.there) in
    let all = count_by-append (λ (s : Submission). s.blk.0 == c) (submitted plan past) (new_submissions plan past e) in
    let once = submitted_once plan (e ∷ past) valid lawful c in
    absurd (omega (arith, was, new, all, once)))

-- When waits expire: an Expire of a block is one of the wait that the block's last act begins, and of no other.
use Rattle.std.proofs.Common.{◌≡◌, ⊎_elim, ℕ, ◌<◌, ◌≤◌, ◌==◌, Bool, true, false, ◌||◌, cond, List, [], ◌∷◌, length, Some, None, is_some, refl, ap, sym, ◌∙◌, arith, eq-eqb, ne_eqb}
use Rattle.std.specs.Option.{option_map_or}
use Rattle.std.proofs.lemmas.Bool.{cases_eq, eqb-true, false_from_ne_true}
use Rattle.std.proofs.lemmas.Option.{same_Some}
use Rattle.gcd_plan.specs.PlanView.{PlanView}
use Rattle.gcd_plan.specs.declared.numbers.Blk.{Blk}
use Rattle.gcd_plan.specs.declared.numbers.Run.{Run}
use Rattle.gcd_plan.specs.declared.numbers.Run.TheVariants.{Block, Source}
use Rattle.gcd_plan.specs.declared.reason.Reason.{Reason}
use Rattle.gcd_event.specs.declared.event.Event.{Event}
use Rattle.gcd_event.specs.declared.event.Event.TheVariants.{Act as Acted, Expire}
use Rattle.gcd_history.specs.Runs.{same_run}
use Rattle.gcd_history.specs.Expired.{last_act, expires, has_expired}
use Rattle.gcd_history.specs.Parked.{awaited, is_parked, is_over, may_wake}
use Rattle.gcd_history.specs.Permitted.{IsLawful}
use Rattle.gcd_history.proofs.Permitted.Reasons.{at_expire}

-- ## Last acts

-- a last act is of the history
pub last_act_low : (past : List Event) (b p : ℕ) → last_act past b ≡ Some p → p < length past
last_act_low [] b p h = cc
last_act_low (Acted w r i ∷ past) b p h =
    elim (same_run r (Block (record { 0 = b }))) as (λ v. cond v (Some (length past)) (last_act past b) ≡ Some p → p < length (Acted w r i ∷ past)) [
      | true ↦ λ now. let at = same_Some (length past) p now in omega (arith, at)
      | false ↦ λ old. let low = last_act_low past b p old in omega (arith, low)
    ] h
last_act_low (e ∷ past) b p h = let low = last_act_low past b p h in omega (arith, low)

one_block : (r : Run) (b c : ℕ) → same_run r (Block (record { 0 = b })) ≡ true → same_run r (Block (record { 0 = c })) ≡ true → b ≡ c
one_block (Block d) b c h k = sym (eqb-true d.0 b h) ∙ eqb-true d.0 c k
one_block (Source s) b c h k = cc

-- an act is of one block
pub last_act_once : (past : List Event) (b c p : ℕ) → last_act past b ≡ Some p → last_act past c ≡ Some p → b ≡ c
last_act_once [] b c p h k = cc
last_act_once (Acted w r i ∷ past) b c p h k = by_both (same_run r (Block (record { 0 = b }))) (same_run r (Block (record { 0 = c }))) refl refl h k (last_act_once past b c p)
  where
    not_both : (d : ℕ) → length past ≡ p → last_act past d ≡ Some p → ⊥
    not_both d at old = let low = last_act_low past d p old in omega (arith, at, low)

    by_both : (u v : Bool) → same_run r (Block (record { 0 = b })) ≡ u → same_run r (Block (record { 0 = c })) ≡ v
        → cond u (Some (length past)) (last_act past b) ≡ Some p → cond v (Some (length past)) (last_act past c) ≡ Some p
        → (last_act past b ≡ Some p → last_act past c ≡ Some p → b ≡ c) → b ≡ c
    by_both true true x y now here rest = one_block r b c x y
    by_both true false x y now old rest = absurd (not_both c (same_Some (length past) p now) old)
    by_both false true x y old now rest = absurd (not_both b (same_Some (length past) p now) old)
    by_both false false x y old there rest = rest old there
last_act_once (e ∷ past) b c p h k = last_act_once past b c p h k

-- ## What an event makes expire

-- of the wait that a block's last act begins, that is an Expire of the block
pub expires_own : (past : List Event) (c : Blk) (b p : ℕ) → last_act past b ≡ Some p → expires past (Expire c) p ≡ (c.0 == b)
expires_own past c b p last =
    ⊎_elim
    (λ (same : c.0 ≡ b).
    ap (λ n. option_map_or (λ q. q == p) (last_act past n) false) same
    ∙ (ap (λ o. option_map_or (λ q. q == p) o false) last
    ∙ (eq-eqb p p refl ∙ sym (eq-eqb c.0 b same))))
    (λ (other : c.0 ≡ b → ⊥).
    elim (last_act past c.0) as (λ o. last_act past c.0 ≡ o → option_map_or (λ q. q == p) o false ≡ false) [
      | None ↦ λ at. refl
      | Some q ↦ λ at. ne_eqb q p (λ (same : q ≡ p). other (last_act_once past c.0 b p (at ∙ ap Some same) last))
    ] refl
    ∙ sym (ne_eqb c.0 b other))
    (cases_eq c.0 b)

-- what an act begins that is not recorded does not expire
expires_later : (past : List Event) (e : Event) (p : ℕ) → length past ≤ p → expires past e p ≡ false
expires_later past (Expire b) p high =
    elim (last_act past b.0) as (λ o. last_act past b.0 ≡ o → option_map_or (λ q. q == p) o false ≡ false) [
      | None ↦ λ at. refl
      | Some q ↦ λ at.
          let low = last_act_low past b.0 q at in false_from_ne_true (q == p) (λ same. let n = eqb-true q p same in absurd (omega (arith, low, n, high)))
    ] refl
expires_later past e p high = refl

-- an act that is not recorded has not expired
pub not_expired_yet : (past : List Event) (p : ℕ) → length past ≤ p → has_expired past p ≡ false
not_expired_yet [] p high = refl
not_expired_yet (e ∷ past) p high =
    ap (λ v. v || has_expired past p) (expires_later past e p (omega (arith, high))) ∙ not_expired_yet past p (omega (arith, high))

-- ## Whose wait may expire

-- what a block is parked for whose Expire is permitted
pub record MayExpire (plan : PlanView) (past : List Event) (b : Blk) : Type 0 where
  pub why : Reason
  pub is : awaited plan past (Block b) ≡ Some why
  pub waits : is_over plan past why ≡ false

pub may_expire_parts : (plan : PlanView) (past : List Event) (b : Blk) → IsLawful plan (Expire b ∷ past) → MayExpire plan past b
unfolding is_parked may_wake
may_expire_parts plan past b lawful =
    let facts = at_expire plan past b lawful.1 in
    elim (awaited plan past (Block b)) as (λ o. awaited plan past (Block b) ≡ o → is_some o ≡ true → option_map_or (is_over plan past) o false ≡ false → MayExpire plan past b) [
      | None ↦ λ is parked waits. cc
      | Some r ↦ λ is parked waits. record { why = r; is = is; waits = waits }
    ] refl facts.parked facts.not_over

-- A pass that loads the passed words, one after another.
use Rattle.std.proofs.Common.{◌≡◌, ◌≢◌, ℕ, suc, ◌+◌, ◌-◌, ◌<◌, ◌≤◌, Bool, true, false, cond, min, length, sym, refl, ap, ◌∙◌, subst, arith, eqb, eq-eqb, ne_eqb, lt-ltb, le-ltb, Some}
use mathlib.Core.Logic.{dite}
use native.Mathlib.Decide.{ℕ_discrete}
use Rattle.gcd_row.specs.declared.view.PassMarks.{PassMarks}
use Rattle.gcd_row.specs.declared.view.View.{View}
use Rattle.gcd_row.specs.Views.{knowing, asked}
use Rattle.gcd_row.specs.Plays.{Asks}
use Rattle.gcd_row.specs.Passes.{IsLater, Knew, IsHeldAt}
use Rattle.gcd_row.proofs.Onward.{is_later, knows_as, same_later}

low : (f x n : ℕ) → n < f + 4096 → n < x + 4096 → n < min f x + 4096
low f x n up lets = omega (arith, up, lets)

module _ {S : Type 0} where
  -- what the pass knows after the load of a word that lets event n be written, and of one that does not
  pub asked_lets : (v w : View S) (k x : ℕ) → Asks v k x w → length v.seen < x + 4096 → w ≡ knowing v v.seen (asked v.terms.limits v.marks k x true)
  asked_lets v w k x a lets = a.view ∙ ap (λ (b : Bool). knowing v v.seen (asked v.terms.limits v.marks k x b)) (lt-ltb (length v.seen) (x + 4096) lets)

  pub asked_stops : (v w : View S) (k x : ℕ) → Asks v k x w → x + 4096 ≤ length v.seen → w ≡ knowing v v.seen (asked v.terms.limits v.marks k x false)
  asked_stops v w k x a stops = a.view ∙ ap (λ (b : Bool). knowing v v.seen (asked v.terms.limits v.marks k x b)) (le-ltb (length v.seen) (x + 4096) stops)

  -- it has come from v to w, and the passed words below k let event n be written
  pub record Scans (v w : View S) (n k : ℕ) : Type 0 where
    pub knew : Knew v w
    pub within : k ≤ v.terms.limits.workers
    pub chain : k ≢ 0 → (w.marks.upto ≡ cond (eqb k v.terms.limits.workers) 64 k) × (n < w.marks.floor + 4096)

  pub begins : (v : View S) (n : ℕ) → Scans v v n 0
  begins v n = record { knew = record { is = refl; later = same_later v.marks v.marks refl }; within = omega arith; chain = λ nz. absurd (nz refl) }

  pub upto_here : (v w : View S) (n k : ℕ) → Scans v w n k → k < v.terms.limits.workers → k ≢ 0 → w.marks.upto ≡ k
  upto_here v w n k s lt nz = (s.chain nz).0 ∙ ap (λ (b : Bool). cond {A = ℕ} b 64 k) (ne_eqb k v.terms.limits.workers (λ is. omega (arith, is, lt)))

  pub upto_end : (v w : View S) (n k : ℕ) → Scans v w n k → v.terms.limits.workers ≤ k → 0 < v.terms.limits.workers → (w.marks.upto ≡ 64) × (n < w.marks.floor + 4096)
  upto_end v w n k s le pos = let nz : k ≢ 0 = λ z. omega (arith, z, le, pos) in
      let is : k ≡ v.terms.limits.workers = omega (arith, le, s.within) in
      ((s.chain nz).0 ∙ ap (λ (b : Bool). cond {A = ℕ} b 64 k) (eq-eqb k v.terms.limits.workers is), (s.chain nz).1)

  -- a load more
  knew_on : (v u w : View S) (m : PassMarks) → Knew v u → w ≡ knowing u u.seen m → m.passed ≡ u.marks.passed → IsLater u.marks m → Knew v w
  knew_on v u w m k now own later = record {
    is = knows_as v w v.seen m (now ∙ ap (λ (y : View S). knowing y y.seen m) k.is) (own ∙ ap (λ (y : View S). y.marks.passed) k.is);
    later = subst (IsLater v.marks) (sym (ap (λ (y : View S). y.marks) now)) (is_later v.marks u.marks m k.later later);
  }

  -- the word of the next is loaded, and lets event n be written
  pub goes_on : (v u w : View S) (n k x : ℕ) → n ≡ length v.seen → Scans v u n k → k < v.terms.limits.workers → Asks u k x w → n < x + 4096 → Scans v w n (suc k)
  goes_on v u w n k x len s lt a lets =
      let seen : length u.seen ≡ length v.seen = ap (λ (y : View S). length y.seen) s.knew.is in
      let now : w ≡ knowing u u.seen (asked u.terms.limits u.marks k x true) = asked_lets u w k x a (omega (arith, seen, len, lets)) in
      let workers = ap (λ (y : View S). y.terms.limits.workers) s.knew.is in
      record {
        knew = knew_on v u w (asked u.terms.limits u.marks k x true) s.knew now refl (record { loads = omega arith; looks = omega arith });
        within = omega arith;
        chain = λ _. (
          ap (λ (y : View S). y.marks.upto) now ∙ ap (λ (c : ℕ). cond {A = ℕ} (eqb (suc k) c) 64 (suc k)) workers,
          subst (λ (f : ℕ). n < f + 4096) (sym (ap (λ (y : View S). y.marks.floor) now)) (dite (ℕ_discrete k 0)
              (λ is. subst (λ (b : Bool). n < cond b x (min u.marks.floor x) + 4096) (sym (eq-eqb k 0 is)) lets)
              (λ nz. let up = (s.chain nz).1 in subst (λ (b : Bool). n < cond b x (min u.marks.floor x) + 4096) (sym (ne_eqb k 0 nz)) (low u.marks.floor x n up lets))),
        );
      }

  -- it does not let event n be written
  pub finds_holder : (v u w : View S) (n k x : ℕ) → n ≡ length v.seen → Scans v u n k → k < v.terms.limits.workers → Asks u k x w → (n < x + 4096 → ⊥) → IsHeldAt v w k (n - 4096)
  finds_holder v u w n k x len s lt a stops =
      let is = s.knew.is in
      let seen : length u.seen ≡ length v.seen = ap (λ (y : View S). length y.seen) is in
      let ago : x + 4096 ≡ n = omega (arith, a.slow, seen, len, stops) in
      let passed : x ≡ n - 4096 = omega (arith, ago) in
      let full : x + 4096 ≤ length u.seen = omega (arith, ago, seen, len) in
      let ended = a.ends full in
      let now : w ≡ knowing u u.seen (asked u.terms.limits u.marks k x false) = asked_stops u w k x a full in
      let there : length w.seen ≡ n = ap (λ (y : View S). length y.seen) now ∙ seen ∙ sym len in
      let loads : w.marks.loads ≡ suc u.marks.loads = ap (λ (y : View S). y.marks.loads) now in
      let floor : w.marks.floor ≡ u.marks.floor = ap (λ (y : View S). y.marks.floor) now in
      record {
        knew = knew_on v u w (asked u.terms.limits u.marks k x false) s.knew now refl (record { loads = omega arith; looks = omega arith });
        relayed = subst (λ (y : View S). Rattle.gcd_history.specs.Team.StartsWith y.seen y.relayed) is ended.0;
        fresh = subst (λ (y : View S). Rattle.gcd_row.specs.Plays.KnowsFresh y) is ended.1;
        holder = record {
          worker = lt;
          lap_ago = omega (arith, passed, ago, there);
          loaded = let few = s.knew.later.loads in omega (arith, few, loads);
          held = ap (λ (y : View S). y.marks.held) now ∙ ap (λ (y : ℕ). Some (k, y)) passed;
          below = ap (λ (y : View S). y.marks.upto) now;
          lowest = λ nz. let up = (s.chain nz).1 in omega (arith, up, floor, there);
          mine = λ own. sym passed ∙ a.mine (own ∙ sym (ap (λ (y : View S). y.worker) is)) ∙ ap (λ (y : View S). y.marks.passed) is;
        };
      }

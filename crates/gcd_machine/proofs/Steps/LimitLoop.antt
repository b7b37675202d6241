-- The turns of the loop that finds the limits which time has reached: what is left to do after a turn, with the turn done, is what
-- was to do before it.
use Rattle.std.proofs.Common.{◌≡◌, ◌⊎◌, inl, inr, ⊎_elim, ℕ, zero, suc, nat_le, nat_lt, ◌<◌, ◌≤◌, min, Bool, true, false, ◌||◌, cond, List, [], ◌∷◌, length, map, get_or, set, Option, Some, None, refl, ap, sym, ◌∙◌, subst, arith}
use Rattle.std.specs.List.{range_with_len}
use Rattle.std.specs.Option.{option_map_or}
use Rattle.std.proofs.Math.Bool.{or-false}
use Rattle.std.proofs.Math.Path.{fun_ext}
use Rattle.std.proofs.Math.Seq.{map-set_same}
use Rattle.std.proofs.lemmas.Bool.{both_ways, ltb-true, cases_lt, cases_eq, false_from_ne_true, le-leb, leb-true, lt-ltb, or_left, or_right}
use Rattle.std.proofs.lemmas.List.{ext_get_or, get_or-set_other, get_or-set_same, length-set}
use Rattle.std.proofs.lemmas.List.FromFn.{get_or-map-range_with_len, length-map-range_with_len}
use Rattle.gcd_sets.specs.Least.{earlier, least}
use Rattle.gcd_refinement.specs.MachineView.{MachineView, ahead_at, is_ripe_at}
use Rattle.gcd_refinement.specs.AfterLimits.{is_reached, is_ripe_by, still_ahead}
use Rattle.gcd_machine.specs.Steps.{ripened}

-- ## A turn

-- one limit is ahead no more, and its block's wait may expire
abbrev pub with_ripe : MachineView → ℕ → MachineView
with_ripe m b = record m { ahead = set m.ahead b None; ripe = set m.ripe b true }

-- what is reached is ahead no more
reached_gone : (t : ℕ) (end : Option ℕ) → is_reached t end ≡ true → None ≡ still_ahead t end
reached_gone t None h = cc
reached_gone t (Some n) h =
    let low = leb-true n t h in
    sym (ap (λ v. cond v (Some n) None) (false_from_ne_true (nat_lt t n) (λ above. let high = ltb-true t n above in absurd (omega (arith, low, high)))))

ahead_same : (m : MachineView) (t b : ℕ) → is_reached t (ahead_at m b) ≡ true → map (still_ahead t) (set m.ahead b None) ≡ map (still_ahead t) m.ahead
ahead_same m t b reached = map-set_same (still_ahead t) m.ahead b None None (reached_gone t (ahead_at m b) reached)

ripe_by_same : (m : MachineView) (t b : ℕ) → b < length m.ripe → is_reached t (ahead_at m b) ≡ true → (c : ℕ) → is_ripe_by (with_ripe m b) t c ≡ is_ripe_by m t c
ripe_by_same m t b low reached c =
    ⊎_elim
    (λ (here : b ≡ c).
    let set_here : is_ripe_at (with_ripe m b) c ≡ true = subst (λ k. get_or (set m.ripe b true) k false ≡ true) here (get_or-set_same m.ripe b true false low) in
    let was : is_reached t (ahead_at m c) ≡ true = subst (λ k. is_reached t (ahead_at m k) ≡ true) here reached in
    or_left (is_ripe_at (with_ripe m b) c) (is_reached t (ahead_at (with_ripe m b) c)) set_here ∙ sym (or_right (is_ripe_at m c) (is_reached t (ahead_at m c)) was))
    (λ other.
    ap (λ v. v || is_reached t (ahead_at (with_ripe m b) c)) (get_or-set_other m.ripe b c true false (λ e. other (sym e)))
    ∙ ap (λ o. is_ripe_at m c || is_reached t o) (get_or-set_other m.ahead b c None None (λ e. other (sym e))))
    (cases_eq b c)

abbrev with_limits : MachineView → List (Option ℕ) → List Bool → MachineView
with_limits m ahead ripe = record m { ahead = ahead; ripe = ripe }

ripen_same : (m : MachineView) (t b : ℕ) → b < length m.ripe → is_reached t (ahead_at m b) ≡ true → ripened (with_ripe m b) t ≡ ripened m t
ripen_same m t b low reached =
    ap (λ a. with_limits m a (map (is_ripe_by (with_ripe m b) t) (range_with_len 0 (length (set m.ripe b true))))) (ahead_same m t b reached)
    ∙ (ap (λ n. with_limits m (map (still_ahead t) m.ahead) (map (is_ripe_by (with_ripe m b) t) (range_with_len 0 n))) (length-set m.ripe b true)
    ∙ ap (λ f. with_limits m (map (still_ahead t) m.ahead) (map f (range_with_len 0 (length m.ripe)))) (fun_ext (ripe_by_same m t b low reached)))

-- what is left to do makes of the machine what was to be made of it in the beginning
pub record Ripening (m : MachineView) (first : MachineView) (t : ℕ) : Type 0 where
  pub long : length m.ahead ≤ length m.ripe
  pub same : ripened m t ≡ ripened first t

pub ripen_turn : {m first : MachineView} {t b : ℕ} {ahead : List (Option ℕ)} {ripe : List Bool} → b < length m.ahead → is_reached t (ahead_at m b) ≡ true → ahead ≡ set m.ahead b None → ripe ≡ set m.ripe b true → Ripening m first t
    → Ripening (with_limits m ahead ripe) first t
ripen_turn {m} {first} {t} {b} {ahead} {ripe} low reached ahead_is ripe_is ripening =
    let long = ripening.long in
    let as_many = length-set m.ahead b None in
    let ripe_long = length-set m.ripe b true in
    subst (λ n. Ripening n first t) (sym (ap (λ a. with_limits m a ripe) ahead_is ∙ ap (with_limits m (set m.ahead b None)) ripe_is))
    (record {
      long = omega (arith, long, as_many, ripe_long);
      same = ripen_same m t b (omega (arith, low, long)) reached ∙ ripening.same;
    })

-- ## The end

-- none is reached, where the least is not
least_not : (t : ℕ) (a b : Option ℕ) → is_reached t (earlier a b) ≡ false → (is_reached t a ≡ false) × (is_reached t b ≡ false)
least_not t None b none = (refl, none)
least_not t (Some x) None none = (none, refl)
least_not t (Some x) (Some y) none = (
  false_from_ne_true (nat_le x t) (λ h. let low = leb-true x t h in both_ways (nat_le (min x y) t) none (le-leb (min x y) t (omega (arith, low)))),
  false_from_ne_true (nat_le y t) (λ h. let low = leb-true y t h in both_ways (nat_le (min x y) t) none (le-leb (min x y) t (omega (arith, low)))),
)

stays_ahead : (t : ℕ) (end : Option ℕ) → is_reached t end ≡ false → still_ahead t end ≡ end
stays_ahead t None none = refl
stays_ahead t (Some n) none = ap (λ v. cond v (Some n) None) (lt-ltb t n (above (cases_lt t n)))
  where
    above : (t < n) ⊎ (n ≤ t) → t < n
    above (inl low) = low
    above (inr high) = absurd (both_ways (nat_le n t) none (le-leb n t high))

all_stay : (t : ℕ) (ends : List (Option ℕ)) → is_reached t (least ends) ≡ false → map (still_ahead t) ends ≡ ends
all_stay t [] none = refl
all_stay t (end ∷ ends) none =
    let parts = least_not t end (least ends) none in
    ap (λ e. e ∷ map (still_ahead t) ends) (stays_ahead t end parts.0) ∙ ap (λ l. end ∷ l) (all_stay t ends parts.1)

none_reached : (t : ℕ) (ends : List (Option ℕ)) (b : ℕ) → is_reached t (least ends) ≡ false → is_reached t (get_or ends b None) ≡ false
none_reached t [] b none = refl
none_reached t (end ∷ ends) zero none = (least_not t end (least ends) none).0
none_reached t (end ∷ ends) (suc b) none = none_reached t ends b (least_not t end (least ends) none).1

ripe_stays : (m : MachineView) (t : ℕ) → is_reached t (least m.ahead) ≡ false → map (is_ripe_by m t) (range_with_len 0 (length m.ripe)) ≡ m.ripe
ripe_stays m t none =
    let long = length-map-range_with_len (is_ripe_by m t) 0 (length m.ripe) in
    ext_get_or false (map (is_ripe_by m t) (range_with_len 0 (length m.ripe))) m.ripe long
    (λ i low.
    get_or-map-range_with_len (is_ripe_by m t) 0 (length m.ripe) i i false (omega (arith, low, long)) (omega arith)
    ∙ (ap (λ v. is_ripe_at m i || v) (none_reached t m.ahead i none) ∙ or-false (is_ripe_at m i)))

pub ripen_end : (m : MachineView) (t : ℕ) → is_reached t (least m.ahead) ≡ false → ripened m t ≡ m
ripen_end m t none = ap (λ a. with_limits m a (map (is_ripe_by m t) (range_with_len 0 (length m.ripe)))) (all_stay t m.ahead none) ∙ ap (with_limits m m.ahead) (ripe_stays m t none)

-- ## How long it takes

abbrev pub one_if_some : Option ℕ → ℕ
one_if_some end = option_map_or (λ n. 1) end 0

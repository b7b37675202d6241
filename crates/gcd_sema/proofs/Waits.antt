-- The waits on one semaphore, by how many of them are reached.
use Rattle.std.proofs.Common.{◌≡◌, ℕ, ◌+◌, ◌-◌, ◌<◌, ◌≤◌, ◌==◌, min, Bool, true, false, cond, not, ◌&&◌, nat_le, nat_lt, List, [], ◌∷◌, ◌++◌, length, get_or, set, take, drop, count_by, refl, ap, sym, ◌∙◌, subst, inl, inr, arith, length-set, length-append}
use Rattle.std.proofs.Math.Seq.{take-add, get_or-append_seam}
use Rattle.std.proofs.lemmas.Bool.{cases_lt, cases_Bool, le-leb, lt-ltb, ltb-true, leb-true, eq-eqb, ne_eqb, both_ways}
use Rattle.std.proofs.lemmas.List.{get_or_past, get_or_append_left, take-set-le, take-append-le, take_all}
use Rattle.std.proofs.lemmas.List.Sums.{count_by_more_yes, count_by-le-length, sum_by-set}
use Rattle.gcd_plan.proofs.Sums.{count_by_push, count_by-append}
use Rattle.gcd_sema.specs.Cells.{IsNext, IsKept}

-- before the first wait
pub none_kept : (passes : ℕ) → IsKept passes 0 0 0 []
none_kept passes = record {
  long = refl;
  alive = refl;
  low = omega arith;
  fits = omega arith;
  next = λ lt. absurd (omega (arith, lt));
  whole = λ lt. absurd (omega (arith, lt));
}

and_with : (a b : Bool) → b ≡ true → a ≡ (a && b)
and_with true b is = sym is
and_with false b is = refl

and_without : (a b : Bool) → b ≡ false → false ≡ (a && b)
and_without true b is = sym is
and_without false b is = refl

pub gt-leb : (a b : ℕ) → b < a → nat_le a b ≡ false
gt-leb a b lt =
    elim (cases_Bool (nat_le a b)) [
      | inl e ↦ absurd (let le = leb-true a b e in omega (arith, le, lt))
      | inr e ↦ e
    ]

-- up to a later place stand no fewer
grows : (waits : List Bool) (a b : ℕ) → a ≤ b → count_by not (take a waits) ≤ count_by not (take b waits)
grows waits a b le =
    let e : a + (b - a) ≡ b = omega (arith, le) in
    let more = ap (count_by not) (take-add a (b - a) waits) ∙ count_by-append not (take a waits) (take (b - a) (drop a waits)) in
    subst (λ n. count_by not (take a waits) ≤ count_by not (take n waits)) e (omega (arith, more))

module _ {passes given left reached : ℕ} {waits : List Bool} (k : IsKept passes given left reached waits) where
  whole_count : (n : ℕ) → given ≤ n → count_by not (take n waits) ≡ left
  whole_count n le = ap (count_by not) (take_all n waits (omega (arith, le, k.long))) ∙ sym k.alive

  -- one place further than is reached, one more stands than can pass
  step_count : reached < given → count_by not (take (reached + 1) waits) ≡ passes + 1
  step_count lt =
      let more = count_by_more_yes not waits reached true (omega (arith, lt, k.long)) (ap not (k.next lt)) in
      omega (arith, more, k.whole lt)

  -- fewer stand than can pass only where all are reached
  pub few_left : left ≤ given
  few_left = let low = count_by-le-length not waits in omega (arith, low, k.long, k.alive)

  low_passes : (rank : ℕ) → rank ≤ reached → count_by not (take rank waits) ≤ passes
  low_passes rank le = let more = grows waits rank reached le in omega (arith, more, k.fits)

  high_waits : (rank : ℕ) → reached < rank → reached < given → passes < count_by not (take rank waits)
  high_waits rank lt within =
      let more = grows waits (reached + 1) rank (omega (arith, lt)) in omega (arith, more, step_count within)

  -- ---- a wait more

  waited_with : (passed : Bool) → nat_lt left passes ≡ passed
      → IsKept passes (given + 1) (left + 1) (cond passed (given + 1) reached) (waits ++ false ∷ [])
  waited_with true e =
      let push = count_by_push not waits false in
      let low = ltb-true left passes e in
      let long = length-append waits (false ∷ []) in
      let all = ap (count_by not) (take_all (given + 1) (waits ++ false ∷ []) (omega (arith, k.long, long))) in
      record {
        long = omega (arith, k.long, long);
        alive = omega (arith, push, k.alive);
        low = omega arith;
        fits = omega (arith, all, push, low, k.alive);
        next = λ lt. absurd (omega (arith, lt));
        whole = λ lt. absurd (omega (arith, lt));
      }
  waited_with false e =
      let push = count_by_push not waits false in
      let long = length-append waits (false ∷ []) in
      let same = ap (count_by not) (take-append-le reached waits (false ∷ []) (omega (arith, k.low, k.long))) in
      let none : left < passes → ⊥ = λ lt. both_ways (nat_lt left passes) e (lt-ltb left passes lt) in
      record {
        long = omega (arith, k.long, long);
        alive = omega (arith, push, k.alive);
        low = omega (arith, k.low);
        fits = omega (arith, same, k.fits);
        next = λ lt. elim (cases_lt reached given) [
          | inl within ↦ get_or_append_left waits (false ∷ []) true reached (omega (arith, within, k.long)) ∙ k.next within
          | inr past ↦ let at : length waits ≡ reached = omega (arith, past, k.low, k.long) in
              subst (λ n. get_or (waits ++ false ∷ []) n true ≡ false) at (get_or-append_seam waits false [] true)
        ];
        whole = λ lt. same ∙ elim (cases_lt reached given) [
          | inl within ↦ k.whole within
          | inr past ↦ elim (cases_lt left passes) [
            | inl low ↦ absurd (none low)
            | inr high ↦ let all = whole_count reached past in omega (arith, all, high, k.fits)
          ]
        ];
      }

  pub waited : IsKept passes (given + 1) (left + 1) (cond (nat_lt left passes) (given + 1) reached) (waits ++ false ∷ [])
  waited = waited_with (nat_lt left passes) refl

  -- ---- a signal more

  pub signalled : (to : ℕ) → IsNext waits (min (reached + 1) given) to → IsKept (passes + 1) given left to waits
  signalled to n =
      elim (cases_lt reached given) [
        | inl within ↦
            let at : min (reached + 1) given ≡ reached + 1 = omega (arith, within) in
            let count = n.same ∙ ap (λ m. count_by not (take m waits)) at ∙ step_count within in
            record {
              long = k.long;
              alive = k.alive;
              low = omega (arith, n.high, k.long);
              fits = omega (arith, count);
              next = λ lt. n.stops (omega (arith, lt, k.long));
              whole = λ lt. count;
            }
        | inr past ↦
            let at : to ≡ given = omega (arith, past, k.low, n.low, n.high, k.long) in
            let all = whole_count to (omega (arith, at)) in
            let before = whole_count reached past in
            record {
              long = k.long;
              alive = k.alive;
              low = omega (arith, at);
              fits = omega (arith, all, before, k.fits);
              next = λ lt. absurd (omega (arith, lt, at));
              whole = λ lt. absurd (omega (arith, lt, at));
            }
      ]

  -- ---- a wait expires

  pub expired : (place to : ℕ) → reached ≤ place → place < given → get_or waits place false ≡ false → IsNext (set waits place true) reached to
      → IsKept passes given (left - 1) to (set waits place true)
  expired place to low within unexpired n =
      let long = length-set waits place true in
      let fewer = sum_by-set (λ b. cond {A = ℕ} (not b) 1 0) waits place true false (omega (arith, within, k.long)) in
      let one : cond {A = ℕ} (not (get_or waits place false)) 1 0 ≡ 1 = ap (λ b. cond (not b) 1 0) unexpired in
      let kept = ap (count_by not) (take-set-le reached waits place true low) in
      let count = n.same ∙ kept ∙ k.whole (omega (arith, low, within)) in
      record {
        long = omega (arith, long, k.long);
        alive = omega (arith, fewer, one, k.alive);
        low = omega (arith, n.high, long, k.long);
        fits = omega (arith, count);
        next = λ lt. n.stops (omega (arith, lt, long, k.long));
        whole = λ lt. count;
      }

  pub some_left : (place : ℕ) → place < given → get_or waits place false ≡ false → 1 ≤ left
  some_left place within unexpired =
      let fewer = sum_by-set (λ b. cond {A = ℕ} (not b) 1 0) waits place true false (omega (arith, within, k.long)) in
      let one : cond {A = ℕ} (not (get_or waits place false)) 1 0 ≡ 1 = ap (λ b. cond (not b) 1 0) unexpired in
      omega (arith, fewer, one, k.alive)

  -- ---- whether a wait passes

  abbrev passes_of : (rank : ℕ) → Bool
  passes_of rank = not (get_or waits (rank - 1) false) && nat_le (count_by not (take rank waits)) passes

  pub passed_within : (rank : ℕ) → rank ≤ reached → not (get_or waits (rank - 1) false) ≡ passes_of rank
  passed_within rank le = and_with (not (get_or waits (rank - 1) false)) _ (le-leb _ _ (low_passes rank le))

  pub passed_beyond : (rank : ℕ) → reached < rank → rank ≤ given → false ≡ passes_of rank
  passed_beyond rank lt within =
      and_without (not (get_or waits (rank - 1) false)) _ (gt-leb _ _ (high_waits rank lt (omega (arith, lt, within))))

  pub passed_past : (rank : ℕ) → given < rank → (given == reached) ≡ passes_of rank
  passed_past rank lt =
      let none = get_or_past waits (rank - 1) false (omega (arith, lt, k.long)) in
      let simpler : nat_le (count_by not (take rank waits)) passes ≡ passes_of rank =
      ap (λ b. not b && nat_le (count_by not (take rank waits)) passes) (sym none) in
      elim (cases_lt reached given) [
        | inl within ↦
            ne_eqb given reached (λ same. omega (arith, same, within))
            ∙ sym (gt-leb _ _ (high_waits rank (omega (arith, lt, within)) within)) ∙ simpler
        | inr past ↦
            let all = whole_count rank (omega (arith, lt)) in
            let before = whole_count reached past in
            eq-eqb given reached (omega (arith, past, k.low))
            ∙ sym (le-leb _ _ (omega (arith, all, before, k.fits))) ∙ simpler
      ]

  pub unreached : (rank : ℕ) → get_or waits (rank - 1) false ≡ false → passes_of rank ≡ false → reached < rank
  unreached rank unexpired waiting =
      elim (cases_lt reached rank) [
        | inl lt ↦ lt
        | inr le ↦ absurd (both_ways (passes_of rank) waiting (sym (passed_within rank le) ∙ ap not unexpired))
      ]

-- The marks of timers that a tick reaches.
use Rattle.std.proofs.Common.{◌≡◌, ℕ, zero, suc, ◌+◌, ◌-◌, ◌<◌, ◌≤◌, Bool, true, false, not, ◌&&◌, ◌||◌, List, ◌∷◌, ◌++◌, length, get_or, set, Option, Some, None, refl, ap, sym, ◌∙◌, inl, inr, arith}
use Rattle.std.specs.List.{range_with_len, count_by, list_any}
use Rattle.std.proofs.Math.Bool.{and-true}
use Rattle.std.proofs.lemmas.Bool.{cases_eq, cases_lt, lt-leb, le-leb}
use Rattle.std.proofs.lemmas.List.{ext_get_or, get_or-set_same, get_or-set_other, length-set}
use Rattle.std.proofs.lemmas.List.FromFn.{get_or-map-range_with_len, length-map-range_with_len}
use Rattle.gcd_plan.proofs.Quantifiers.{list_any_in_range_from}
use Rattle.gcd_plan.proofs.Sums.{count_by-append, count_by_none, count_by_some}
use Rattle.gcd_sets.proofs.Ranges.{found_first, found_none}
use Rattle.gcd_timer.specs.TimersView.{TimersView, is_due_at, due_count_at, comes_by, marked_by}
use Rattle.gcd_timer.specs.Listed.{AreMarked, next_due_of, nexts_of, is_reached, reached_marked}
use Rattle.gcd_timer.proofs.Nexts.{next_ahead, next_read}

-- none of a range passes
none_in_range : (p : ℕ → Bool) (a n : ℕ) → ((k : ℕ) → a ≤ k → k < a + n → p k ≡ false) → list_any p (range_with_len a n) ≡ false
none_in_range p a zero fails = refl
none_in_range p a (suc n) fails =
    ap (λ b. b || list_any p (range_with_len (a + 1) n)) (fails a (omega arith) (omega arith))
    ∙ none_in_range p (a + 1) n (λ k low high. fails k (omega arith) (omega arith))

-- the next due time is at most t where there is one after the present and up to t
pub comes_is : (view : TimersView) (t s : ℕ) → view.moment ≤ t → t ≤ view.until → is_reached t (next_due_of view s) ≡ comes_by view t s
comes_is view t s forward within = by_first (next_due_of view s) refl
  where
    by_first : (o : Option ℕ) → next_due_of view s ≡ o → is_reached t (next_due_of view s) ≡ comes_by view t s
    by_first None e =
        ap (is_reached t) e
        ∙ sym (none_in_range (is_due_at view s) (view.moment + 1) (t - view.moment)
        (λ k low high. found_none (is_due_at view s) (view.moment + 1) (view.until - view.moment) e k low (omega (arith, high, forward, within))))
    by_first (Some x) e =
        let first = found_first (is_due_at view s) (view.moment + 1) (view.until - view.moment) x e in
        ap (is_reached t) e
        ∙ elim (cases_lt t x) [
          | inl past ↦
              lt-leb x t past
              ∙ sym (none_in_range (is_due_at view s) (view.moment + 1) (t - view.moment) (λ k low high. first.before k low (omega (arith, high, past, forward))))
          | inr low ↦
              le-leb x t low
              ∙ sym (list_any_in_range_from (is_due_at view s) (view.moment + 1) (t - view.moment) x first.from (omega (arith, low, first.from)) first.passes)
        ]

-- ## What this says of the number of due times

range_split : (a n m : ℕ) → range_with_len a (n + m) ≡ range_with_len a n ++ range_with_len (a + n) m
range_split a zero m =
    let none : 0 + m ≡ m = omega arith in
    let from : a ≡ a + 0 = omega arith in
    ap (range_with_len a) none ∙ ap (λ k. range_with_len k m) from
range_split a (suc n) m =
    let more : suc n + m ≡ suc (n + m) = omega arith in
    ap (range_with_len a) more
    ∙ ap (λ r. a ∷ r) (range_split (a + 1) n m ∙ ap (λ k. range_with_len (a + 1) n ++ range_with_len k m) (let same : a + 1 + n ≡ a + suc n = omega arith in same))

counted_on : (view : TimersView) (t s : ℕ) → view.moment ≤ t
    → due_count_at (record view { moment = t }) s ≡ due_count_at view s + count_by (is_due_at view s) (range_with_len (view.moment + 1) (t - view.moment))
counted_on view t s forward =
    ap (λ k. count_by (is_due_at view s) (range_with_len 1 k)) (let same : t ≡ view.moment + (t - view.moment) = omega (arith, forward) in same)
    ∙ ap (count_by (is_due_at view s))
    (range_split 1 view.moment (t - view.moment)
    ∙ ap (λ k. range_with_len 1 view.moment ++ range_with_len k (t - view.moment)) (let same : 1 + view.moment ≡ view.moment + 1 = omega arith in same))
    ∙ count_by-append (is_due_at view s) (range_with_len 1 view.moment) (range_with_len (view.moment + 1) (t - view.moment))

-- a timer that no due time comes of has had as many as before
pub count_still : (view : TimersView) (t s : ℕ) → view.moment ≤ t → comes_by view t s ≡ false
    → due_count_at (record view { moment = t }) s ≡ due_count_at view s
count_still view t s forward none =
    let all = counted_on view t s forward in
    let zero = count_by_none (is_due_at view s) (range_with_len (view.moment + 1) (t - view.moment)) none in
    omega (arith, all, zero)

-- and no more where the time goes back
pub count_kept : (view : TimersView) (t s : ℕ) → comes_by view t s ≡ false → due_count_at (record view { moment = t }) s ≤ due_count_at view s
count_kept view t s none =
    elim (cases_lt t view.moment) [
      | inl back ↦ let all = counted_on (record view { moment = t }) view.moment s (omega (arith, back)) in omega (arith, all)
      | inr forward ↦ let same = count_still view t s forward none in omega (arith, same)
    ]

-- and one that a due time comes of has had more
pub count_more : (view : TimersView) (t s : ℕ) → view.moment ≤ t → comes_by view t s ≡ true
    → due_count_at view s < due_count_at (record view { moment = t }) s
count_more view t s forward some =
    let all = counted_on view t s forward in
    let one = count_by_some (is_due_at view s) (range_with_len (view.moment + 1) (t - view.moment)) some in
    omega (arith, all, one)

-- ## The marks

pub marked_more : (view : TimersView) (nexts : List (Option ℕ)) (marks : List Bool) (nexts' : List (Option ℕ)) (marks' : List Bool) (s : ℕ) (next : Option ℕ)
    → AreMarked view.moment nexts marks nexts' marks' → s < length nexts' → s < length marks' → is_reached view.moment (get_or nexts' s None) ≡ true
    → next ≡ next_due_of view s → AreMarked view.moment nexts marks (set nexts' s next) (set marks' s true)
marked_more view nexts marks nexts' marks' s next m within room here is = record {
  length_kept = length-set marks' s true ∙ m.length_kept;
  fewer = λ i e. elim (cases_eq i s) [
    | inl at ↦ m.fewer i (ap (λ k. is_reached view.moment (get_or nexts' k None)) at ∙ here)
    | inr ne ↦ m.fewer i (sym (ap (is_reached view.moment) (get_or-set_other nexts' s i next None ne)) ∙ e)
  ];
  marked = λ i. elim (cases_eq i s) [
    | inl at ↦
        rw (at, get_or-set_same nexts' s next None within, get_or-set_same marks' s true false room, m.fewer s here, is, next_ahead view s) (any_true (get_or marks s false))
    | inr ne ↦ rw (get_or-set_other nexts' s i next None ne, get_or-set_other marks' s i true false ne) (m.marked i)
  ];
}
  where
    any_true : (a : Bool) → true ≡ (a || true)
    any_true true = refl
    any_true false = refl

pub marked_all : (t : ℕ) (nexts : List (Option ℕ)) (marks : List Bool) (nexts' : List (Option ℕ)) (marks' : List Bool) → AreMarked t nexts marks nexts' marks'
    → ((s : ℕ) → is_reached t (get_or nexts' s None) ≡ false) → marks' ≡ reached_marked t nexts marks
marked_all t nexts marks nexts' marks' m none =
    let mark = λ (s : ℕ). get_or marks s false || is_reached t (get_or nexts s None) in
    ext_get_or false marks' (reached_marked t nexts marks) (m.length_kept ∙ sym (length-map-range_with_len mark 0 (length marks)))
    (λ s lt.
    m.marked s
    ∙ ap (λ b. get_or marks s false || b)
    (ap (λ b. is_reached t (get_or nexts s None) && not b) (none s) ∙ and-true (is_reached t (get_or nexts s None)))
    ∙ sym (get_or-map-range_with_len mark 0 (length marks) s s false (omega (arith, lt, m.length_kept)) (omega arith)))

-- the timers whose next due time is reached are those of which one comes
pub marked_is : (view : TimersView) (nexts : List (Option ℕ)) (t : ℕ) (marks : List Bool) → nexts ≡ nexts_of view → length marks ≡ length view.kinds
    → view.moment ≤ t → t ≤ view.until → reached_marked t nexts marks ≡ marked_by view t marks
marked_is view nexts t marks are same forward within =
    let mark = λ (s : ℕ). get_or marks s false || is_reached t (get_or nexts s None) in
    let come = λ (s : ℕ). get_or marks s false || comes_by view t s in
    ext_get_or false (reached_marked t nexts marks) (marked_by view t marks)
    (length-map-range_with_len mark 0 (length marks) ∙ sym (length-map-range_with_len come 0 (length marks)))
    (λ s lt.
    let low : s < length marks = omega (arith, lt, length-map-range_with_len mark 0 (length marks)) in
    get_or-map-range_with_len mark 0 (length marks) s s false low (omega arith)
    ∙ ap (λ b. get_or marks s false || b)
    (ap (λ xs. is_reached t (get_or xs s None)) are ∙ ap (is_reached t) (next_read view s (omega (arith, low, same))) ∙ comes_is view t s forward within)
    ∙ sym (get_or-map-range_with_len come 0 (length marks) s s false low (omega arith)))

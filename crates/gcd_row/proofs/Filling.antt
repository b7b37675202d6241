-- The words of a ring that begins with a history.
use Rattle.std.proofs.Common.{◌≡◌, ◌≢◌, ℕ, suc, ◌+◌, ◌-◌, ◌%◌, ◌<◌, ◌≤◌, Bool, cond, List, [], ◌∷◌, ◌++◌, length, get_or, map, set, sym, ap, ◌∙◌, subst, arith, length-set, get_or-set_other, get_or-set_same, lt-ltb, le-ltb}
use mathlib.Core.Logic.{dite}
use native.Mathlib.Decide.{ℕ_discrete, dec_le}
use Rattle.gcd_row.specs.Ring.{AreBlank, AreFirstWords, HasLap, blank_word, gone, lap, passed_word}
use Rattle.gcd_row.proofs.RowWords.{at_front, at_next}

cell_blank : (workers passed i : ℕ) → i < 4097 → blank_word workers passed i ≡ 0
cell_blank workers passed i lt = ap (λ (b : Bool). cond {A = ℕ} b 0 (cond (Rattle.std.specs.Prelude.nat_lt i (4097 + workers)) passed gone)) (lt-ltb i 4097 lt)

behind_cells : (workers passed k : ℕ) → blank_word workers passed (4097 + k) ≡ cond (Rattle.std.specs.Prelude.nat_lt (4097 + k) (4097 + workers)) passed gone
behind_cells workers passed k = ap (λ (b : Bool). cond {A = ℕ} b 0 (cond (Rattle.std.specs.Prelude.nat_lt (4097 + k) (4097 + workers)) passed gone)) (le-ltb (4097 + k) 4097 (omega arith))

passed_blank : (workers passed k : ℕ) → k < workers → blank_word workers passed (4097 + k) ≡ passed
passed_blank workers passed k lt = behind_cells workers passed k ∙ ap (λ (b : Bool). cond {A = ℕ} b passed gone) (lt-ltb (4097 + k) (4097 + workers) (omega (arith, lt)))

gone_blank : (workers passed k : ℕ) → workers ≤ k → blank_word workers passed (4097 + k) ≡ gone
gone_blank workers passed k le = behind_cells workers passed k ∙ ap (λ (b : Bool). cond {A = ℕ} b passed gone) (le-ltb (4097 + k) (4097 + workers) (omega (arith, le)))

-- one blank word more
pub one_more : (workers passed : ℕ) (words : List ℕ) (i x : ℕ) → length words ≡ i → ((j : ℕ) → j < i → get_or words j 0 ≡ blank_word workers passed j) → x ≡ blank_word workers passed i → (j : ℕ) → j < i + 1 → get_or (words ++ x ∷ []) j 0 ≡ blank_word workers passed j
one_more workers passed words i x len all is j lt = dite (dec_le i j)
    (λ le. let same : j ≡ length words = omega (arith, len, le, lt) in subst (λ (k : ℕ). get_or (words ++ x ∷ []) k 0 ≡ blank_word workers passed k) (sym same) (at_next words x [] ∙ is ∙ ap (blank_word workers passed) (sym len)))
    (λ not. let low : j < length words = omega (arith, len, not) in at_front words (x ∷ []) j low ∙ all j (omega (arith, not)))

-- no event is written yet
pub lap_begins : (workers passed : ℕ) (words h : List ℕ) (first : ℕ) → AreBlank workers passed words → HasLap workers passed words h first first
lap_begins workers passed words h first blank = record {
  size = blank.size;
  held = λ i le lt. absurd (omega (arith, le, lt));
  others = λ place low _. blank.words_at place low;
}

-- one event more is written
pub lap_on : (workers passed : ℕ) (words h : List ℕ) (first n : ℕ) → HasLap workers passed words h first n → first ≤ n → n < first + 4096 → HasLap workers passed (set words (suc (n % 4096)) (get_or h n 0 + lap n)) h first (n + 1)
lap_on workers passed words h first n old le near =
    let x : ℕ = get_or h n 0 + lap n in record {
      size = length-set words (suc (n % 4096)) x ∙ old.size;
      held = λ i from upto. dite (ℕ_discrete i n)
          (λ same. subst (λ (k : ℕ). get_or (set words (suc (n % 4096)) x) (suc (k % 4096)) 0 ≡ get_or h k 0 + lap k) (sym same) (get_or-set_same words (suc (n % 4096)) x 0 (omega (arith, old.size))))
          (λ ne. get_or-set_other words (suc (n % 4096)) (suc (i % 4096)) x 0 (λ is. omega (arith, is, ne, from, upto, near, le)) ∙ old.held i from (omega (arith, upto, ne)));
      others = λ place low apart.
          get_or-set_other words (suc (n % 4096)) place x 0 (λ is. apart n le (omega arith) is)
          ∙ old.others place low (λ i from upto. apart i from (omega (arith, upto)));
    }

-- the whole last lap is written
pub lap_ends : (most workers : ℕ) (words h : List ℕ) → workers ≤ 64 → length h ≤ most → HasLap workers (length h) words h (length h - 4096) (length h) → AreFirstWords most workers words h
lap_ends most workers words h few room l = record {
  ring = record {
    first = l.others 0 (omega arith) (λ i _ _ is. omega (arith, is)) ∙ cell_blank workers (length h) 0 (omega arith);
    size = l.size;
    room = room;
    held = λ n lt near. l.held n (omega (arith, near)) lt;
    blank = λ n le lt. l.others (suc n) (omega (arith, lt)) (λ i from upto is. omega (arith, is, le, lt, upto)) ∙ cell_blank workers (length h) (suc n) (omega (arith, lt));
  };
  passed = λ k lt. l.others (4097 + k) (omega (arith, lt, few)) (λ i from upto is. omega (arith, is)) ∙ passed_blank workers (length h) k lt;
  beyond = λ k le lt. l.others (4097 + k) (omega (arith, lt)) (λ i from upto is. omega (arith, is)) ∙ gone_blank workers (length h) k le;
}

-- one word more is written, of whatever number of workers the ring is
pub lap_more : (blank words h : List ℕ) (first n place x : ℕ) → place ≡ suc (n % 4096) → x ≡ get_or h n 0 + lap n → length words ≡ 4161 → ((workers passed : ℕ) → AreBlank workers passed blank → HasLap workers passed words h first n) → first ≤ n → n < first + 4096
    → (length (set words place x) ≡ 4161) × ((workers passed : ℕ) → AreBlank workers passed blank → HasLap workers passed (set words place x) h first (n + 1))
lap_more blank words h first n place x there is size old le near = (
  length-set words place x ∙ size,
  λ workers passed fresh. subst (λ (p : ℕ). HasLap workers passed (set words p x) h first (n + 1)) (sym there)
      (subst (λ (y : ℕ). HasLap workers passed (set words (suc (n % 4096)) y) h first (n + 1)) (sym is) (lap_on workers passed words h first n (old workers passed fresh) le near)),
)

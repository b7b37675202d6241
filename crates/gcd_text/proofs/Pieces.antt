-- A line that is tested piece by piece.
use Rattle.std.proofs.Common.{ℕ, ◌≡◌, ◌+◌, ◌-◌, ◌≤◌, Bool, true, false, ◌&&◌, List, take, drop, refl, sym, ap, ◌∙◌, arith}
use Rattle.std.proofs.lemmas.List.{take-append-drop, drop-drop}
use Rattle.std.proofs.lemmas.List.Folds.{list_all-append}
use Rattle.std.proofs.Math.Seq.{take-add}
use Rattle.gcd_text.specs.Lines.{is_line_byte, is_printable}

-- the front, and behind it one piece more
pub one_piece_more : (line : List ℕ) (k n m : ℕ) → m ≡ k + n → is_printable (take m line) ≡ (is_printable (take k line) && is_printable (take n (drop k line)))
one_piece_more line k n m is =
    ap (λ i. is_printable (take i line)) is
    ∙ ap is_printable (take-add k n line)
    ∙ list_all-append is_line_byte (take k line) (take n (drop k line))

-- what is behind them
pub behind_one_more : (line : List ℕ) (k n m : ℕ) → m ≡ k + n → drop n (drop k line) ≡ drop m line
behind_one_more line k n m is = drop-drop n k line ∙ ap (λ i. drop i line) (sym is)

both_once : (front middle back : Bool) → ((middle && back) && (front && middle)) ≡ (front && (middle && back))
both_once true true true = refl
both_once true true false = refl
both_once true false true = refl
both_once true false false = refl
both_once false true true = refl
both_once false true false = refl
both_once false false true = refl
both_once false false false = refl

-- what is behind a place, and what is before a place that is no earlier
pub overlapping : (line : List ℕ) (a k : ℕ) → a ≤ k → (is_printable (drop a line) && is_printable (take k line)) ≡ is_printable line
overlapping line a k earlier =
    let whole = ap is_printable (sym (take-append-drop a line)) ∙ list_all-append is_line_byte (take a line) (drop a line) in
    let behind =
    ap is_printable (sym (take-append-drop (k - a) (drop a line)))
    ∙ list_all-append is_line_byte (take (k - a) (drop a line)) (drop (k - a) (drop a line)) in
    let before = one_piece_more line a (k - a) k (omega arith) in
    ap (λ t. t && is_printable (take k line)) behind
    ∙ ap (λ t. (is_printable (take (k - a) (drop a line)) && is_printable (drop (k - a) (drop a line))) && t) before
    ∙ both_once (is_printable (take a line)) (is_printable (take (k - a) (drop a line))) (is_printable (drop (k - a) (drop a line)))
    ∙ ap (λ t. is_printable (take a line) && t) (sym behind)
    ∙ sym whole

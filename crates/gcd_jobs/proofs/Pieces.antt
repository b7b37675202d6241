-- Sums of bytes, piece by piece.
use Rattle.std.proofs.Common.{ℕ, ◌≡◌, ◌≤◌, ◌+◌, ◌*◌, List, ◌++◌, Fits, w8, length, get_or, sum, ap, ◌∙◌, arith}
use Rattle.std.proofs.lemmas.List.Elements.{All-from_get_or}
use Rattle.std.proofs.lemmas.List.Sums.{sum_by-le, sum_by-append}

-- bytes come to at most 255 each
pub sum_of_bytes : (bytes : List ℕ) → ((k : ℕ) → Fits w8 (get_or bytes k 0)) → sum bytes ≤ length bytes * 255
sum_of_bytes bytes low = sum_by-le (λ x. x) 255 bytes (All-from_get_or (λ x. x ≤ 255) bytes 0 (λ k _. let below = low k in omega arith))

-- the sum of the whole is that of the piece that comes off its front, and of the rest
pub sum_of_piece : (whole piece rest : List ℕ) → whole ≡ piece ++ rest → sum whole ≡ sum piece + sum rest
sum_of_piece whole piece rest parts = ap sum parts ∙ sum_by-append (λ x. x) piece rest

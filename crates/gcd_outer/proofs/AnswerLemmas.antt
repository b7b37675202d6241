-- The answers of a poller in memory after one more was given.
use Rattle.std.proofs.Common.{◌≡◌, ◌≤◌, ◌+◌, ◌-◌, ◌∙◌, ◌++◌, ℕ, List, [], ◌∷◌, sym, drop, length, slice_set, arith, append_assoc}
use Rattle.std.proofs.lemmas.List.{drop-drop, drop-set-lt, replicate_more}
use Rattle.std.proofs.Math.ListN.{drop_of_length-le}
use Rattle.gcd_outer.specs.declared.tell.Tell.{Tell}
use Rattle.gcd_outer.specs.Answers.{answers_left, answers_given}

-- the next answer was passed
pub left-passed : (answers : List (List Tell)) (next : ℕ) → answers_left answers (next + 1) ≡ drop 1 (answers_left answers next)
left-passed answers next = sym (drop-drop 1 next answers)

-- the next answer was passed, and one at a place before it was written
pub left-written : (answers : List (List Tell)) (next kept : ℕ) (told : List Tell) → kept ≤ next
    → answers_left (slice_set answers kept told) (next + 1) ≡ drop 1 (answers_left answers next)
left-written answers next kept told before =
    drop-set-lt (next + 1) answers kept told (omega arith) ∙ left-passed answers next

-- nothing is left past the last answer
pub left-none : (answers : List (List Tell)) (next : ℕ) → length answers ≤ next → answers_left answers next ≡ []
left-none answers next past = drop_of_length-le answers past

-- an empty answer after the last
pub given-empty : (answers : List (List Tell)) (kept given : ℕ) → kept ≤ given
    → answers_given answers kept (given + 1) ≡ answers_given answers kept given ++ [] ∷ []
given-empty answers kept given all =
    let more : given + 1 - kept ≡ (given - kept) + 1 = omega arith in
    rw (more, ← replicate_more {X = List Tell} (given - kept) [], append_assoc)

-- The script of the large input has fewer than 2^32 - 1 bytes.
use Rattle.std.proofs.Common.{ℕ, zero, suc, ◌≡◌, ◌<◌, ◌≤◌, ◌+◌, ◌-◌, ◌*◌, ◌%◌, ◌==◌, ◌^◌, cond, true, false, List, [], ◌∷◌, ◌++◌, length, map, codes, decimal, refl, ◌∙◌, subst, arith}
use Rattle.std.specs.List.{flat_map, range_with_len}
use Rattle.std.proofs.lemmas.Fmt.{length-decimal-le}
use Rattle.std.proofs.lemmas.List.{length-append, length-map, append-nil}
use Rattle.std.proofs.lemmas.List.FromFn.{length-range_with_len}
use Rattle.gcd_plan.specs.Limits.{max_blocks}
use Rattle.gcd_script.specs.BigScript.{big_name, big_start, big_block, big_queue_at, big_queue, big_act, big_lines, big_script, ended_line}

-- each line has fewer than 64 bytes
abbrev AllShort : List (List ℕ) → Type 0
AllShort [] = Unit {0}
AllShort (line ∷ lines) = (length line < 64) × AllShort lines

-- so the text has at most 64 bytes a line
short_text : (lines : List (List ℕ)) → AllShort lines → length (flat_map ended_line lines) ≤ 64 * length lines
short_text [] short = omega arith
short_text (line ∷ lines) short =
    let rest = short_text lines short.1 in
    let both = length-append (ended_line line) (flat_map ended_line lines) in
    let own = length-append line (10 ∷ []) in
    omega (arith, short.0)

some_short : (f : ℕ → List ℕ) (m k : ℕ) (rest : List (List ℕ)) → ((j : ℕ) → j < k + m → length (f j) < 64) → AllShort rest → AllShort (map f (range_with_len k m) ++ rest)
some_short f zero k rest short more = more
some_short f (suc m) k rest short more = (short k (omega arith), some_short f m (k + 1) rest (λ j below. short j (omega arith)) more)

number_short : (n : ℕ) → n < 10 ^ 5 → length (decimal n) ≤ 5
number_short n small = length-decimal-le 5 n (omega arith) small (omega arith)

block_short : (k : ℕ) → k < 10 ^ 5 → length (big_block k) < 64
block_short k small =
    let start = decimal (big_start k) in
    let a = number_short k small in
    let b = number_short (big_start k) (omega arith) in
    let one = length-append (big_name k) (codes " sum data " ++ (start ++ codes " 64")) in
    let two = length-append start (codes " 64") in
    omega arith

queue_short : (p : ℕ) → p < 6 → length (big_queue_at p) ≡ 2
queue_short zero within = refl
queue_short (suc zero) within = refl
queue_short (suc (suc zero)) within = refl
queue_short (suc (suc (suc zero))) within = refl
queue_short (suc (suc (suc (suc zero)))) within = refl
queue_short (suc (suc (suc (suc (suc zero))))) within = refl
queue_short (suc (suc (suc (suc (suc (suc p)))))) within = absurd (omega arith)

act_short : (k : ℕ) → k < 10 ^ 5 → length (big_act k) < 64
act_short k small =
    let a = number_short k small in
    let queue = queue_short (k % 6) (omega arith) in
    let one = length-append (big_queue k) (codes " " ++ big_name k) in
    elim (k % 16 == 0) as (λ t. length (cond t (codes "barrier ") (codes "async ") ++ (big_queue k ++ (codes " " ++ big_name k))) < 64) [
      | true ↦ omega arith
      | false ↦ omega arith
    ]

pub big_few_bytes : (n : ℕ) → n < max_blocks → length (big_script n) < 2 ^ 32 - 1
big_few_bytes n few =
    let acts = map big_act (range_with_len 1 n) in
    let blocks = map big_block (range_with_len 1 n) in
    let acts_short = subst AllShort (append-nil acts) (some_short big_act n 1 [] (λ j below. act_short j (omega arith)) tt) in
    let all = some_short big_block n 1 (codes "main" ∷ acts) (λ j below. block_short j (omega arith)) (omega arith, acts_short) in
    let text = short_text (big_lines n) (omega arith, (omega arith, (omega arith, (omega arith, (omega arith, (omega arith, (omega arith, all))))))) in
    let count = length-append blocks (codes "main" ∷ acts) in
    let first = length-map (range_with_len 1 n) big_block ∙ length-range_with_len 1 n in
    let second = length-map (range_with_len 1 n) big_act ∙ length-range_with_len 1 n in
    omega arith

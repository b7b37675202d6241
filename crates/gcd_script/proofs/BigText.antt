-- How the script of the large input grows, line by line.
use Rattle.std.proofs.Common.{ℕ, ◌≡◌, ◌+◌, List, [], ◌∷◌, ◌++◌, map, codes, sym, ap, ◌∙◌, arith}
use Rattle.std.specs.List.{flat_map, range_with_len}
use Rattle.std.proofs.lemmas.List.{append_assoc, append-nil}
use Rattle.std.proofs.lemmas.List.Concat.{flat_map-append}
use Rattle.std.proofs.lemmas.List.FromFn.{map-range_with_len_more}
use Rattle.gcd_script.specs.BigScript.{big_head, big_block, big_act, ended_line}

-- the lines with k blocks
abbrev pub with_blocks : ℕ → List (List ℕ)
with_blocks k = big_head ++ map big_block (range_with_len 1 k)

-- the lines with n blocks, `main` and k acts
abbrev pub with_acts : (n k : ℕ) → List (List ℕ)
with_acts n k = big_head ++ (map big_block (range_with_len 1 n) ++ codes "main" ∷ map big_act (range_with_len 1 k))

-- one line more
push_line : (lines : List (List ℕ)) (line : List ℕ) → flat_map ended_line lines ++ ended_line line ≡ flat_map ended_line (lines ++ line ∷ [])
push_line lines line =
    ap (λ bs. flat_map ended_line lines ++ bs) (sym (append-nil (ended_line line)))
    ∙ sym (flat_map-append ended_line lines (line ∷ []))

pub one_block : (k : ℕ) → flat_map ended_line (with_blocks k) ++ ended_line (big_block (k + 1)) ≡ flat_map ended_line (with_blocks (k + 1))
one_block k =
    push_line (with_blocks k) (big_block (k + 1))
    ∙ ap (flat_map ended_line)
    (append_assoc big_head (map big_block (range_with_len 1 k)) (big_block (k + 1) ∷ [])
    ∙ ap (λ ls. big_head ++ ls) (sym (map-range_with_len_more big_block 1 k (k + 1) (omega arith))))

pub main_line : (n : ℕ) → flat_map ended_line (with_blocks n) ++ ended_line (codes "main") ≡ flat_map ended_line (with_acts n 0)
main_line n =
    push_line (with_blocks n) (codes "main")
    ∙ ap (flat_map ended_line) (append_assoc big_head (map big_block (range_with_len 1 n)) (codes "main" ∷ []))

pub one_act : (n k : ℕ) → flat_map ended_line (with_acts n k) ++ ended_line (big_act (k + 1)) ≡ flat_map ended_line (with_acts n (k + 1))
one_act n k =
    let blocks = map big_block (range_with_len 1 n) in
    let acts = map big_act (range_with_len 1 k) in
    push_line (with_acts n k) (big_act (k + 1))
    ∙ ap (flat_map ended_line)
    (append_assoc big_head (blocks ++ codes "main" ∷ acts) (big_act (k + 1) ∷ [])
    ∙ ap (λ ls. big_head ++ ls)
    (append_assoc blocks (codes "main" ∷ acts) (big_act (k + 1) ∷ [])
    ∙ ap (λ ls. blocks ++ codes "main" ∷ ls) (sym (map-range_with_len_more big_act 1 k (k + 1) (omega arith)))))

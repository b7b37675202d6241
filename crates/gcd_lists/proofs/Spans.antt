-- Blocks that come in the order of their numbers.
use Rattle.std.proofs.Common.{◌≡◌, ℕ, zero, suc, ◌+◌, ◌≤◌, ◌<◌, ◌==◌, Bool, false, cond, List, [], ◌∷◌, ◌++◌, length, get_or, set, Some, None, refl, ap, sym, ◌∙◌, arith}
use Rattle.std.specs.Option.{option_or, option_map}
use Rattle.std.proofs.lemmas.Bool.{ne_eqb}
use Rattle.std.proofs.lemmas.List.{get_or-set_same, set-set, set-get_or, length-set, append_assoc, append-nil}
use Rattle.std.proofs.lemmas.List.FromFn.{map-range_with_len_more}
use Rattle.gcd_plan.specs.declared.numbers.Blk.{Blk}
use Rattle.gcd_lists.specs.ListsView.{ListsView, list_at, barrier_in, place_from, place_of, span}

-- the lists with more behind that of a node
abbrev pub behind : ListsView → ℕ → List (Blk × Bool) → ListsView
behind v n ws = record v { lists = set v.lists n (list_at v n ++ ws) }

-- the lists with another at a node
abbrev with_list : ListsView → ℕ → List (Blk × Bool) → ListsView
with_list v n ws = record v { lists = set v.lists n ws }

-- a block that is not of those behind is in the list as before
barrier_behind : (c : ℕ) (ws vs : List (Blk × Bool)) → barrier_in c vs ≡ None → barrier_in c (ws ++ vs) ≡ barrier_in c ws
barrier_behind c [] vs none = none
barrier_behind c (w ∷ ws) vs none = ap (cond (w.0.0 == c) (Some w.1)) (barrier_behind c ws vs none)

-- and waits where it waited
pub place_behind : (node : ℕ) (lists : List (List (Blk × Bool))) (i c : ℕ) (vs : List (Blk × Bool)) → barrier_in c vs ≡ None
    → place_from node (set lists i (get_or lists i [] ++ vs)) c ≡ place_from node lists c
place_behind node [] i c vs none = refl
place_behind node (ws ∷ lists) zero c vs none =
    ap (λ found. option_or (option_map (λ barrier. (record { 0 = node }, barrier)) found) (place_from (suc node) lists c)) (barrier_behind c ws vs none)
place_behind node (ws ∷ lists) (suc i) c vs none =
    ap (option_or (option_map (λ barrier. (record { 0 = node }, barrier)) (barrier_in c ws))) (place_behind (suc node) lists i c vs none)

-- a block past a span is not in it
pub past_span : (first count c : ℕ) → first + count ≤ c → barrier_in c (span first count) ≡ None
past_span first zero c past = refl
past_span first (suc count) c past =
    ap (λ t. cond t (Some false) (barrier_in c (span (first + 1) count))) (ne_eqb first c (λ (e : first ≡ c). omega (arith, e, past)))
    ∙ past_span (first + 1) count c (omega (arith, past))

-- none has come
pub none_came : (v : ListsView) (n first k : ℕ) → k ≡ 0 → v ≡ behind v n (span first k)
none_came v n first k none =
    rw none (ap (λ ls. record v { lists = ls }) (sym (ap (set v.lists n) (append-nil (list_at v n)) ∙ set-get_or v.lists n [])))

-- the next waits nowhere yet
pub next_nowhere : (v w : ListsView) (n first k c : ℕ) → w ≡ behind v n (span first k) → first + k ≤ c → place_of v c ≡ None → place_of w c ≡ None
next_nowhere v w n first k c is past none =
    ap (λ u. place_of u c) is ∙ place_behind 0 v.lists n c (span first k) (past_span first k c past) ∙ none

-- and comes behind
pub next_came : (v w u : ListsView) (n first k : ℕ) (b : Blk) (j : ℕ) → n < length v.lists → w ≡ behind v n (span first k) → first + k ≡ b.0 → k + 1 ≡ j
    → u ≡ behind w n ((b, false) ∷ []) → u ≡ behind v n (span first j)
next_came v w u n first k b j node is at more pushed =
    let here : list_at w n ≡ list_at v n ++ span first k = ap (λ x. list_at x n) is ∙ get_or-set_same v.lists n (list_at v n ++ span first k) [] node in
    let list : list_at w n ++ (b, false) ∷ [] ≡ list_at v n ++ span first j =
    ap (λ ws. ws ++ (b, false) ∷ []) here ∙ append_assoc (list_at v n) (span first k) ((b, false) ∷ [])
    ∙ ap (λ ws. list_at v n ++ ws) (sym (ap (span first) (sym more) ∙ map-range_with_len_more (λ (x : ℕ). (record { 0 = x }, false)) first k b.0 at)) in
    pushed
    ∙ ap (λ ws. record w { lists = set w.lists n ws }) list
    ∙ ap (λ (x : ListsView). with_list x n (list_at v n ++ span first j)) is
    ∙ ap (λ ls. record v { lists = ls }) (set-set v.lists n (list_at v n ++ span first k) (list_at v n ++ span first j))

pub node_still : (v w : ListsView) (n first k : ℕ) → w ≡ behind v n (span first k) → length w.lists ≡ length v.lists
node_still v w n first k is = ap (λ x. length x.lists) is ∙ length-set v.lists n (list_at v n ++ span first k)

pub blocks_still : (v w : ListsView) (n first k : ℕ) → w ≡ behind v n (span first k) → w.blocks ≡ v.blocks
blocks_still v w n first k is = ap (λ x. x.blocks) is

-- What is done to tokens keeps them apart.
use Rattle.std.proofs.Common.{◌≡◌, ◌≢◌, ◌≤◌, ◌<◌, ◌+◌, ◌-◌, ℕ, zero, suc, Bool, cond, eqb, eq-eqb, ne_eqb, ⊎_elim, List, [], ◌∷◌, ◌++◌, length, set, get_or, take, drop, sym, refl, ap, ◌∙◌, subst, arith}
use Rattle.std.specs.List.{range_with_len}
use Rattle.std.proofs.lemmas.List.Sums.{sum_by-append, sum_by-cons, sum_by-set}
use mathlib.Core.Logic.{dite}
use mathlib.Core.Option.{some, some-injective, some-ne-none}
use native.Mathlib.Decide.{ℕ_discrete}
use lib.ListN.{get_elem?}
use Rattle.atomic_table.specs.Table.{Me, Splits, Joins, Allows, keeps, opening}
use Rattle.atomic_table.specs.Seated.{TableId}
use Rattle.gcd_facts.proofs.Elements.{at_end, in_range}
use Rattle.gcd_steal.specs.declared.tokens.Rights.{Rights}
use Rattle.gcd_steal.specs.Tokens.{rights, Token, times_in, times, AreApart, IsTokenOf, AreTokens}

-- ---- how often a node stands

read : {A : Type 0} (l : List A) (i : ℕ) (a d : A) → get_elem? l i ≡ some a → get_or l i d ≡ a
read [] i a d e = absurd (some-ne-none a (sym e))
read (x ∷ l) zero a d e = some-injective x a e
read (x ∷ l) (suc i) a d e = read l i a d e

times_set : (node : ℕ) (views : List Rights) (id : ℕ) (v w : Rights) → get_elem? views id ≡ some v → times node (set views id w) + times_in node v ≡ times node views + times_in node w
times_set node views id v w at =
    ap (λ (u : Rights). times node (set views id w) + times_in node u) (sym (read views id v v at)) ∙ sum_by-set (times_in node) views id w v (in_range views id v at)

times_more : (node : ℕ) (views : List Rights) (w : Rights) → times node (views ++ w ∷ []) ≡ times node views + times_in node w
times_more node views w = let e = sum_by-append (times_in node) views (w ∷ []) in let f = sum_by-cons (times_in node) w [] in omega (arith, e, f)

step_of : (node x : ℕ) (xs : List ℕ) → times_in node (rights (x ∷ xs)) ≡ cond (eqb x node) 1 0 + times_in node (rights xs)
step_of node x xs = sum_by-cons (λ n. cond (eqb n node) 1 0) x xs

here_too : (node x : ℕ) (xs : List ℕ) → x ≡ node → times_in node (rights (x ∷ xs)) ≡ 1 + times_in node (rights xs)
here_too node x xs e = step_of node x xs ∙ ap (λ (b : Bool). cond b 1 0 + times_in node (rights xs)) (eq-eqb x node e)

not_here : (node x : ℕ) (xs : List ℕ) → x ≢ node → times_in node (rights (x ∷ xs)) ≡ times_in node (rights xs)
not_here node x xs ne = let e = ap (λ (b : Bool). cond b 1 0 + times_in node (rights xs)) (ne_eqb x node ne) in omega (arith, step_of node x xs, e)

-- ---- the start

none_before : (node a n : ℕ) → node < a → times_in node (rights (range_with_len a n)) ≡ 0
none_before node a zero lt = refl
none_before node a (suc n) lt = not_here node a (range_with_len (a + 1) n) (λ e. absurd (omega arith)) ∙ none_before node (a + 1) n (omega arith)

once_in_range : (node a n : ℕ) → times_in node (rights (range_with_len a n)) ≤ 1
once_in_range node a zero = omega arith
once_in_range node a (suc n) = dite (ℕ_discrete a node)
    (λ same. let e = here_too node a (range_with_len (a + 1) n) same in let f = none_before node (a + 1) n (omega arith) in omega (arith, e, f))
    (λ ne. let e = not_here node a (range_with_len (a + 1) n) ne in let f = once_in_range node (a + 1) n in omega (arith, e, f))

-- one token of all nodes
pub opens : {S : Type 0} (words : List ℕ) (cells : List S) (n : ℕ) → AreApart (opening words cells (rights (range_with_len 0 n)))
opens words cells n node = let all : Rights = rights (range_with_len 0 n) in let e = sum_by-cons (times_in node) all [] in omega (arith, e, once_in_range node 0 n)

-- ---- splitting, joining and looking

parted : (node : ℕ) (nodes : List ℕ) → times_in node (rights (drop 1 nodes)) + times_in node (rights (take 1 nodes)) ≡ times_in node (rights nodes)
parted node [] = refl
parted node (x ∷ xs) = let e = step_of node x xs in let f = step_of node x [] in omega (arith, e, f)

pub splits : {S : Type 0} (id : ℕ) (v : Rights) → Splits (AreApart {S = S}) id v (rights (drop 1 v.nodes)) (rights (take 1 v.nodes))
splits id v s apart at node = let left : Rights = rights (drop 1 v.nodes) in let right : Rights = rights (take 1 v.nodes) in
    let e = times_set node s.views id v left at in let f = times_more node (set s.views id left) right in omega (arith, e, f, parted node v.nodes, apart node)

pub joins : {S : Type 0} (id : ℕ) (v : Rights) (other : ℕ) (w : Rights) → Joins (AreApart {S = S}) id v other w (rights (v.nodes ++ w.nodes)) (rights [])
joins id v other w s apart at ne at_other node = let both : Rights = rights (v.nodes ++ w.nodes) in let spent : Rights = rights [] in
    let e = times_set node s.views id v both at in let f = times_set node (set s.views id both) other w spent at_other in
    let g = sum_by-append (λ n. cond (eqb n node) 1 0) v.nodes w.nodes in omega (arith, e, f, g, apart node)

pub looks : {S : Type 0} (slots id : ℕ) (me : Me S Rights) → Allows (AreApart {S = S}) slots id me 0 (λ n. n) (λ n m. (m ≡ me) × ((node : ℕ) → times_in node me.0 ≤ 1))
looks slots id me s apart wide at _ = (
  me.0,
  keeps,
  tt,
  (λ node. let e = times_set node s.views id me.0 me.0 at in omega (arith, e, apart node)),
  (refl, λ node. let e = times_set node s.views id me.0 (rights []) at in omega (arith, e, apart node)),
)

-- a token of two nodes in which none stands twice
pub two_nodes : (k l : ℕ) → ((node : ℕ) → times_in node (rights (k ∷ l ∷ [])) ≤ 1) → k ≢ l
two_nodes k l once same = let e = here_too k k (l ∷ []) refl in let f = here_too k l [] (sym same) in let g = once k in absurd (omega (arith, e, f, g))

-- ---- tokens that come one by one

pub one_more : (table : TableId) (l : List Token) (t : Token) → AreTokens table l → IsTokenOf table (length l) t → AreTokens table (l ++ t ∷ [])
one_more table l t are is i x e = ⊎_elim (λ (u : get_elem? l i ≡ some x). are i x u) (λ (u : (i ≡ length l) × (t ≡ x)). subst (λ (y : ℕ × Token). IsTokenOf table y.0 y.1) (λ k. (sym u.0 k, u.1 k)) is) (at_end l t x i e)

-- the token that is split off is of the node of that number, and the others are left
pub next_issued : {S : Type 0} (i n : ℕ) (old new : Me S Rights) (right : Rights) → i < n → old ≡ (rights (range_with_len i (n - i)), [])
    → new ≡ (rights (drop 1 old.0.nodes), old.1) → right ≡ rights (take 1 old.0.nodes)
    → (new ≡ (rights (range_with_len (i + 1) (n - (i + 1))), [])) × (right ≡ rights (i ∷ []))
next_issued {S} i n old new right near was left first =
    let e : n - i ≡ suc (n - (i + 1)) = omega arith in
    let had : old ≡ (rights (range_with_len i (suc (n - (i + 1)))), []) = was ∙ ap (λ (k : ℕ). (rights (range_with_len i k), [])) e in
    (left ∙ ap (λ (m : Me S Rights). (rights (drop 1 m.0.nodes), m.1)) had, first ∙ ap (λ (m : Me S Rights). rights (take 1 m.0.nodes)) had)

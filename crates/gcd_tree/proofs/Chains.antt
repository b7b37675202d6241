-- The chain of an object, by that of its target.
use Rattle.std.proofs.Common.{◌≡◌, ◌≢◌, ℕ, suc, ◌-◌, ◌<◌, true, [], ◌∷◌, length, ap, sym, ◌∙◌, arith}
use Rattle.gcd_plan.specs.Chains.{chain_by, is_in}
use Rattle.gcd_tree.specs.TreeView.{TreeView, target_at, chain_at}
use Rattle.gcd_tree.specs.IsTree.{IsTree}
use Rattle.gcd_tree.proofs.Walks.{chain_by-root, chain_by-away, chain_by-more, is_in-other}

-- the chain of root is root
pub chain_at-root : (view : TreeView) → IsTree view → (o : ℕ) → o ≡ 0 → chain_at view o ≡ o ∷ []
chain_at-root view tree o at =
    let some : length view.targets ≡ suc (length view.targets - 1) = omega (arith, tree.root) in
    ap (λ b. chain_by (target_at view) b o) some ∙ chain_by-root (target_at view) (length view.targets - 1) o at

-- the chain of another object is the object and the chain of its target
pub chain_at-next : (view : TreeView) → IsTree view → (o : ℕ) → o < length view.targets → o ≢ 0
    → chain_at view o ≡ o ∷ chain_at view (target_at view o)
chain_at-next view tree o lt away =
    let f = target_at view in
    let b = length view.targets - 1 in
    let some : length view.targets ≡ suc b = omega (arith, tree.root) in
    let whole : chain_at view o ≡ o ∷ chain_by f b (f o) = ap (λ n. chain_by f n o) some ∙ chain_by-away f b o away in
    let ends : is_in 0 (chain_by f b (f o)) ≡ true = sym (is_in-other 0 o (chain_by f b (f o)) away) ∙ sym (ap (is_in 0) whole) ∙ tree.chains_end o lt in
    whole ∙ ap (λ xs. o ∷ xs) (sym (chain_by-more f b (length view.targets) (f o) ends (omega arith)))

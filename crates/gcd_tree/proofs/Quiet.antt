-- What is open where nothing is open beneath root.
use Rattle.std.proofs.Common.{◌≡◌, ℕ, false, nat_lt, length, inl, inr, arith}
use Rattle.std.proofs.lemmas.Bool.{cases_lt, ltb-false}
use Rattle.std.proofs.lemmas.List.{get_or_past}
use Rattle.gcd_tree.specs.TreeView.{TreeView, open_on_at, open_beneath_at}
use Rattle.gcd_tree.specs.IsTree.{IsTree}
use Rattle.gcd_tree.proofs.TreeChanges.{from-le-beneath, beneath-le-all, beneath_root}

-- nothing is open on any object
pub none_on : (view : TreeView) → IsTree view → nat_lt 0 (open_beneath_at view 0) ≡ false → (o : ℕ) → open_on_at view o ≡ 0
none_on view tree quiet o = elim (cases_lt o (length view.targets)) [
  | inl lt ↦
      let few = from-le-beneath view 0 o lt (tree.chains_end o lt) in
      let none = ltb-false 0 (open_beneath_at view 0) quiet in
      omega (arith, few, none)
  | inr past ↦ get_or_past view.open_on o 0 (let e = tree.as_many_open_on in omega (arith, past, e))
]

-- nothing is open beneath any object
pub none_beneath : (view : TreeView) → IsTree view → nat_lt 0 (open_beneath_at view 0) ≡ false → (o : ℕ) → open_beneath_at view o ≡ 0
none_beneath view tree quiet o =
    let few = beneath-le-all view o tree.as_many_open_on in
    let all = beneath_root view tree in
    let none = ltb-false 0 (open_beneath_at view 0) quiet in
    omega (arith, few, all, none)

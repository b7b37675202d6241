-- Whether chains are held, by each object and its target.
use Rattle.std.proofs.Common.{◌≡◌, ◌≢◌, ℕ, zero, suc, ◌<◌, ◌==◌, Bool, true, false, not, ◌&&◌, ◌||◌, List, length, get_or, set, inl, inr, ap, sym, ◌∙◌, arith, length-set, get_or-set_other, get_or-set_same}
use Rattle.std.specs.List.{list_any}
use Rattle.std.proofs.lemmas.Bool.{false≢true, cases_eq, eq-eqb, ne_eqb}
use Rattle.gcd_plan.specs.Chains.{chain_by, is_in}
use Rattle.gcd_tree.specs.TreeView.{TreeView, target_at, chain_at}
use Rattle.gcd_tree.specs.IsTree.{IsTree}
use Rattle.gcd_hold.specs.HoldsView.{HoldsView}
use Rattle.gcd_drain.specs.DrainsView.{DrainsView}
use Rattle.gcd_plan.specs.StartRule.{is_held}
use Rattle.gcd_drain.specs.Rule.{is_free_by, knowledge_of}
use Rattle.gcd_drain.specs.Held.{is_chain_held_by, is_held_by_target, AreHeld, AreHeldBut}
use Rattle.gcd_tree.proofs.Walks.{chain_by-root, chain_by-away, is_in-other}
use Rattle.gcd_tree.proofs.Chains.{chain_at-root, chain_at-next}

-- the list tells whether the reason NotFree applies to an object's chain
pub held_tells : (drains : DrainsView) (held : List Bool) (tree : TreeView) (holds : HoldsView) → AreHeld held tree holds → (o : ℕ) → o < length tree.targets
    → get_or held o false ≡ is_held (knowledge_of drains tree holds) (chain_at tree o)
held_tells drains held tree holds are o lt = are.exact o lt

module _ (tree : TreeView) (holds : HoldsView) where
  abbrev pub is_not_free : ℕ → Bool
  is_not_free o = not (is_free_by tree holds o)

  -- the chain of root
  pub held-root : IsTree tree → (o : ℕ) → o ≡ 0 → is_chain_held_by tree holds o ≡ (is_not_free o || false)
  held-root ok o at = ap (list_any is_not_free) (chain_at-root tree ok o at)

  -- the chain of another object
  pub held-next : IsTree tree → (o : ℕ) → o < length tree.targets → o ≢ 0
      → is_chain_held_by tree holds o ≡ (is_not_free o || is_chain_held_by tree holds (target_at tree o))
  held-next ok o lt away = ap (list_any is_not_free) (chain_at-next tree ok o lt away)

  -- a list that is right says of each object what follows from it and its target
  pub held_by_target : IsTree tree → (held : List Bool) → AreHeld held tree holds → (o : ℕ) → o < length tree.targets
      → get_or held o false ≡ is_held_by_target held tree holds o
  held_by_target ok held are o lt = elim (cases_eq o 0) [
    | inl at ↦
        are.exact o lt ∙ held-root ok o at
        ∙ ap (λ b. is_not_free o || (not b && get_or held (target_at tree o) false)) (sym (eq-eqb o 0 at))
    | inr away ↦
        are.exact o lt ∙ held-next ok o lt away
        ∙ ap (λ b. is_not_free o || b) (sym (are.exact (target_at tree o) (ok.targets_fit o lt)))
        ∙ ap (λ b. is_not_free o || (not b && get_or held (target_at tree o) false)) (sym (ne_eqb o 0 away))
  ]

  -- a list that says of each object what follows from it and its target is right along each walk that ends
  held_on_walk : IsTree tree → (held : List Bool) → ((o : ℕ) → o < length tree.targets → get_or held o false ≡ is_held_by_target held tree holds o)
      → (b o : ℕ) → o < length tree.targets → is_in 0 (chain_by (target_at tree) b o) ≡ true
      → get_or held o false ≡ list_any is_not_free (chain_by (target_at tree) b o)
  held_on_walk ok held all zero o lt ends = absurd (false≢true ends)
  held_on_walk ok held all (suc b) o lt ends = elim (cases_eq o 0) [
    | inl at ↦
        all o lt ∙ ap (λ c. is_not_free o || (not c && get_or held (target_at tree o) false)) (eq-eqb o 0 at)
        ∙ sym (ap (list_any is_not_free) (chain_by-root (target_at tree) b o at))
    | inr away ↦
        let rest : is_in 0 (chain_by (target_at tree) b (target_at tree o)) ≡ true =
        sym (is_in-other 0 o (chain_by (target_at tree) b (target_at tree o)) away)
        ∙ sym (ap (is_in 0) (chain_by-away (target_at tree) b o away)) ∙ ends in
        all o lt ∙ ap (λ c. is_not_free o || (not c && get_or held (target_at tree o) false)) (ne_eqb o 0 away)
        ∙ ap (λ c. is_not_free o || c) (held_on_walk ok held all b (target_at tree o) (ok.targets_fit o lt) rest)
        ∙ sym (ap (list_any is_not_free) (chain_by-away (target_at tree) b o away))
  ]

  -- so it is right
  pub all_held : IsTree tree → (held : List Bool) → length held ≡ length tree.targets
      → ((o : ℕ) → o < length tree.targets → get_or held o false ≡ is_held_by_target held tree holds o) → AreHeld held tree holds
  all_held ok held long all = record {
    as_many = long;
    exact = λ o lt. held_on_walk ok held all (length tree.targets) o lt (ok.chains_end o lt);
  }

  -- it is right if the one object too has what follows from it and its target
  pub held_there : IsTree tree → (held : List Bool) (o : ℕ) → AreHeldBut held tree holds o → get_or held o false ≡ is_held_by_target held tree holds o
      → AreHeld held tree holds
  held_there ok held o but there =
      all_held ok held but.as_many
      (λ k lt. elim (cases_eq k o) [
        | inl same ↦ ap (λ x. get_or held x false) same ∙ there ∙ ap (is_held_by_target held tree holds) (sym same)
        | inr other ↦ but.others k lt other
      ])

  -- an object that is nobody's target gets another answer
  pub held_with : IsTree tree → (held : List Bool) (o : ℕ) (answer : Bool) → o < length tree.targets → AreHeldBut held tree holds o
      → answer ≡ is_held_by_target held tree holds o → ((p : ℕ) → p < length tree.targets → target_at tree p ≢ o)
      → AreHeld (set held o answer) tree holds
  held_with ok held o answer within but is apart =
      all_held ok (set held o answer) (length-set held o answer ∙ but.as_many)
      (λ k lt. let above : get_or held (target_at tree k) false ≡ get_or (set held o answer) (target_at tree k) false =
      sym (get_or-set_other held o (target_at tree k) answer false (apart k lt)) in
      elim (cases_eq k o) [
        | inl same ↦
            ap (λ x. get_or (set held o answer) x false) same
            ∙ get_or-set_same held o answer false (let e = but.as_many in omega (arith, within, e))
            ∙ is ∙ ap (is_held_by_target held tree holds) (sym same)
            ∙ ap (λ b. is_not_free k || (not (k == 0) && b)) above
        | inr other ↦
            get_or-set_other held o k answer false other
            ∙ but.others k lt other
            ∙ ap (λ b. is_not_free k || (not (k == 0) && b)) above
      ])

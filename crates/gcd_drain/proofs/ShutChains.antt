-- Whether a chain is shut, by its first object and the chain of that object's target.
use Rattle.std.proofs.Common.{◌≡◌, ◌≢◌, ℕ, ◌<◌, Bool, true, false, not, ◌||◌, List, [], ◌∷◌, length, Some, None, refl, ap, sym, ◌∙◌, inl, inr, arith}
use Rattle.std.specs.List.{list_any}
use Rattle.std.proofs.lemmas.Bool.{cases_eq}
use Rattle.std.proofs.lemmas.Option.{none-some, same_Some}
use Rattle.gcd_tree.specs.TreeView.{TreeView, target_at, chain_at}
use Rattle.gcd_tree.specs.IsTree.{IsTree}
use Rattle.gcd_hold.specs.HoldsView.{HoldsView}
use Rattle.gcd_drain.specs.DrainsView.{DrainsView}
use Rattle.gcd_drain.specs.Rule.{is_free_by, excludes_at}
use Rattle.gcd_drain.specs.Shut.{is_shut_by, KnownChainsView, answer_of, AreSound}
use Rattle.gcd_tree.proofs.Chains.{chain_at-root, chain_at-next}

-- two tests of which one passes at the first, or somewhere behind
either : (a b c d : Bool) → ((a || c) || (b || d)) ≡ ((a || b) || (c || d))
either true b c d = refl
either false true true d = refl
either false true false d = refl
either false false c d = refl

module _ (drains : DrainsView) (tree : TreeView) (holds : HoldsView) where
  -- object o by itself keeps runs from starting beneath it
  abbrev pub bars : ℕ → Bool
  bars o = not (is_free_by tree holds o) || excludes_at drains tree o

  shut-first : (o : ℕ) (chain rest : List ℕ) → chain ≡ o ∷ rest
      → (list_any (λ x. not (is_free_by tree holds x)) chain || list_any (excludes_at drains tree) chain)
      ≡ (bars o || (list_any (λ x. not (is_free_by tree holds x)) rest || list_any (excludes_at drains tree) rest))
  shut-first o chain rest e =
      ap (λ xs. list_any (λ x. not (is_free_by tree holds x)) xs || list_any (excludes_at drains tree) xs) e
      ∙ either (not (is_free_by tree holds o)) (excludes_at drains tree o) (list_any (λ x. not (is_free_by tree holds x)) rest) (list_any (excludes_at drains tree) rest)

  -- the chain of root
  shut-root : IsTree tree → (o : ℕ) → o ≡ 0 → is_shut_by drains tree holds o ≡ (bars o || false)
  shut-root ok o at = shut-first o (chain_at tree o) [] (chain_at-root tree ok o at)

  -- the chain of another object
  shut-next : IsTree tree → (o : ℕ) → o < length tree.targets → o ≢ 0
      → is_shut_by drains tree holds o ≡ (bars o || is_shut_by drains tree holds (target_at tree o))
  shut-next ok o lt away = shut-first o (chain_at tree o) (chain_at tree (target_at tree o)) (chain_at-next tree ok o lt away)

  -- an object that bars shuts its chain
  pub shut_here : IsTree tree → (o : ℕ) → o < length tree.targets → true ≡ bars o → true ≡ is_shut_by drains tree holds o
  shut_here ok o lt barred =
      elim (cases_eq o 0) [
        | inl at ↦ sym (shut-root ok o at ∙ ap (λ b. b || false) (sym barred))
        | inr away ↦ sym (shut-next ok o lt away ∙ ap (λ b. b || is_shut_by drains tree holds (target_at tree o)) (sym barred))
      ]

  -- root that does not bar has an open chain
  pub open_at_root : IsTree tree → (o : ℕ) → o ≡ 0 → false ≡ bars o → false ≡ is_shut_by drains tree holds o
  open_at_root ok o at free = sym (shut-root ok o at ∙ ap (λ b. b || false) (sym free))

  -- another object that does not bar has a chain as its target has
  pub shut_beyond : IsTree tree → (o next : ℕ) (shut : Bool) → o < length tree.targets → o ≢ 0 → false ≡ bars o → next ≡ target_at tree o
      → shut ≡ is_shut_by drains tree holds next → shut ≡ is_shut_by drains tree holds o
  shut_beyond ok o next shut lt away free there is =
      is ∙ ap (is_shut_by drains tree holds) there
      ∙ sym (shut-next ok o lt away ∙ ap (λ b. b || is_shut_by drains tree holds (target_at tree o)) (sym free))

  -- where nothing is known, what is known is so
  pub nothing_known : (marks : KnownChainsView) → ((o : ℕ) → answer_of marks o ≡ None) → AreSound drains tree holds marks
  nothing_known marks unknown o shut told = absurd (none-some shut (sym (unknown o) ∙ told))

  -- an answer that is so may be added
  pub still_sound : (marks marks' : KnownChainsView) (o : ℕ) (shut : Bool) → AreSound drains tree holds marks → shut ≡ is_shut_by drains tree holds o
      → answer_of marks' o ≡ Some shut → ((k : ℕ) → k ≢ o → answer_of marks' k ≡ answer_of marks k) → AreSound drains tree holds marks'
  still_sound marks marks' o shut sound is there others x answer told =
      elim (cases_eq x o) [
        | inl e ↦
            ap (is_shut_by drains tree holds) e ∙ sym is
            ∙ same_Some shut answer (sym there ∙ ap (answer_of marks') (sym e) ∙ told)
        | inr ne ↦ sound x answer (sym (others x ne) ∙ told)
      ]

  -- the chain of a target is shorter
  pub shorter : IsTree tree → (o next : ℕ) → o < length tree.targets → o ≢ 0 → next ≡ target_at tree o
      → length (chain_at tree next) < length (chain_at tree o)
  shorter ok o next lt away there =
      let more = ap length (chain_at-next tree ok o lt away) in
      let same = ap (λ n. length (chain_at tree n)) there in
      omega (arith, more, same)

-- What is known of held chains while they are looked at one by one.
use Rattle.std.proofs.Common.{◌≡◌, ◌≢◌, ℕ, ◌+◌, ◌<◌, Bool, true, false, not, ◌||◌, List, length, get_or, set, inl, inr, ap, sym, ◌∙◌, arith, length-set, get_or-set_other, get_or-set_same}
use Rattle.std.proofs.lemmas.Bool.{both_ways, cases_eq}
use Rattle.gcd_sets.specs.Words.{is_in_words}
use Rattle.gcd_tree.specs.TreeView.{TreeView, target_at, chain_at}
use Rattle.gcd_tree.proofs.Chains.{chain_at-next}
use Rattle.gcd_tree.specs.IsTree.{IsTree}
use Rattle.gcd_hold.specs.HoldsView.{HoldsView}
use Rattle.gcd_drain.specs.Rule.{is_free_by}
use Rattle.gcd_drain.specs.Held.{is_chain_held_by, AreHeld, AreHeldIn}
use Rattle.gcd_drain.proofs.Holding.{held-root, held-next}

module _ (tree : TreeView) (holds : HoldsView) where
  -- an object that is not free holds its chain
  pub held_here : IsTree tree → (o : ℕ) → o < length tree.targets → is_free_by tree holds o ≡ false → true ≡ is_chain_held_by tree holds o
  held_here ok o lt bound = elim (cases_eq o 0) [
    | inl at ↦ sym (held-root tree holds ok o at ∙ ap (λ b. not b || false) bound)
    | inr away ↦ sym (held-next tree holds ok o lt away ∙ ap (λ b. not b || is_chain_held_by tree holds (target_at tree o)) bound)
  ]

  -- root holds its chain only if it is not free
  pub free_at_root : IsTree tree → (o : ℕ) → o ≡ 0 → is_free_by tree holds o ≡ true → false ≡ is_chain_held_by tree holds o
  free_at_root ok o at free = sym (held-root tree holds ok o at ∙ ap (λ b. not b || false) free)

  -- the chain of another object that is free is held as that of its target is
  pub held_beyond : IsTree tree → (o next : ℕ) (answer : Bool) → o < length tree.targets → o ≢ 0 → is_free_by tree holds o ≡ true → next ≡ target_at tree o
      → answer ≡ is_chain_held_by tree holds next → answer ≡ is_chain_held_by tree holds o
  held_beyond ok o next answer lt away free there is =
      is ∙ ap (is_chain_held_by tree holds) there
      ∙ sym (held-next tree holds ok o lt away ∙ ap (λ b. not b || is_chain_held_by tree holds (target_at tree o)) free)

  -- the chain of a target is shorter
  pub nearer : IsTree tree → (o next : ℕ) → o < length tree.targets → o ≢ 0 → next ≡ target_at tree o
      → length (chain_at tree next) < length (chain_at tree o)
  nearer ok o next lt away there =
      let more = ap length (chain_at-next tree ok o lt away) in
      let same = ap (λ n. length (chain_at tree n)) there in
      omega (arith, more, same)

  -- at first nothing is known
  pub nothing_known : (known : List ℕ) (held : List Bool) → length held ≡ length tree.targets → ((k : ℕ) → is_in_words known k ≡ false) → AreHeldIn known held tree holds
  nothing_known known held long none = record { as_many = long; exact = λ o _ there. absurd (both_ways _ (none o) there) }

  -- an answer more is known
  pub known_more : (known known' : List ℕ) (held : List Bool) (o : ℕ) (answer : Bool) → AreHeldIn known held tree holds → o < length tree.targets
      → answer ≡ is_chain_held_by tree holds o → ((k : ℕ) → k ≢ o → is_in_words known' k ≡ is_in_words known k)
      → AreHeldIn known' (set held o answer) tree holds
  known_more known known' held o answer are lt is others = record {
    as_many = length-set held o answer ∙ are.as_many;
    exact = λ k within there. elim (cases_eq k o) [
      | inl same ↦
          ap (λ x. get_or (set held o answer) x false) same
          ∙ get_or-set_same held o answer false (let e = are.as_many in omega (arith, lt, e))
          ∙ is ∙ ap (is_chain_held_by tree holds) (sym same)
      | inr other ↦ get_or-set_other held o k answer false other ∙ are.exact k within (sym (others k other) ∙ there)
    ];
  }

  -- what was known stays known
  pub still_known : (known known' : List ℕ) (o : ℕ) → is_in_words known' o ≡ true → ((k : ℕ) → k ≢ o → is_in_words known' k ≡ is_in_words known k)
      → (k : ℕ) → is_in_words known k ≡ true → is_in_words known' k ≡ true
  still_known known known' o here others k there = elim (cases_eq k o) [
    | inl same ↦ ap (is_in_words known') same ∙ here
    | inr other ↦ others k other ∙ there
  ]

  -- one object more is known
  pub known_next : (known known' : List ℕ) (n : ℕ) → ((k : ℕ) → k < n → is_in_words known k ≡ true)
      → ((k : ℕ) → is_in_words known k ≡ true → is_in_words known' k ≡ true) → is_in_words known' n ≡ true
      → (k : ℕ) → k < n + 1 → is_in_words known' k ≡ true
  known_next known known' n so_far still here k lt = elim (cases_eq k n) [
    | inl same ↦ ap (is_in_words known') same ∙ here
    | inr before ↦ still k (so_far k (omega arith))
  ]

  -- all are known
  pub all_known : (known : List ℕ) (held : List Bool) (n : ℕ) → AreHeldIn known held tree holds → ((k : ℕ) → k < n → is_in_words known k ≡ true)
      → n ≡ length tree.targets → AreHeld held tree holds
  all_known known held n are all whole = record {
    as_many = are.as_many;
    exact = λ o lt. are.exact o lt (all o (omega arith));
  }

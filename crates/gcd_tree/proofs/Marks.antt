-- That the targets stay marked.
use Rattle.std.proofs.Common.{◌≡◌, ℕ, ◌+◌, ◌<◌, Bool, true, false, inl, inr, List, length, get_or, set, map, ap, sym, ◌∙◌, subst, arith, length-set, get_or-set_other, get_or-set_same}
use Rattle.std.proofs.lemmas.Bool.{cases_eq}
use Rattle.std.proofs.lemmas.List.{length-map}
use Rattle.gcd_plan.specs.declared.numbers.Obj.{Obj}
use Rattle.gcd_plan.specs.PlanView.{PlanView, first_target}
use Rattle.gcd_tree.specs.TreeView.{target_in}
use Rattle.gcd_tree.specs.IsTree.{MarkTargets}
use Rattle.gcd_tree.proofs.PlanTree.{target_at-tree_of}

-- a mark more keeps what is marked
still_marked : (marks : List Bool) (i j : ℕ) → i < length marks → get_or marks j false ≡ true → get_or (set marks i true) j false ≡ true
still_marked marks i j lt there = elim (cases_eq j i) [
  | inl same ↦ ap (λ k. get_or (set marks i true) k false) same ∙ get_or-set_same marks i true false lt
  | inr other ↦ get_or-set_other marks i j true false other ∙ there
]

-- another target, and its mark
pub marked_more : (targets : List Obj) (marks : List Bool) → MarkTargets targets marks → (o : ℕ) (t : Obj) → t.0 < length targets
    → MarkTargets (set targets o t) (set marks t.0 true)
marked_more targets marks m o t fits =
    let here : t.0 < length marks = (let e = m.as_many in omega (arith, e, fits)) in
    record {
      as_many = length-set marks t.0 true ∙ m.as_many ∙ sym (length-set targets o t);
      marked = λ k within'.
          let within : k < length targets = (let e = length-set targets o t in omega (arith, e, within')) in
          elim (cases_eq k o) [
            | inl same ↦
                let at : target_in (set targets o t) k ≡ t.0 =
                ap (target_in (set targets o t)) same ∙ ap (λ x. x.0) (get_or-set_same targets o t (record { 0 = 0 }) (subst (λ x. x < length targets) same within)) in
                ap (λ x. get_or (set marks t.0 true) x false) at ∙ get_or-set_same marks t.0 true false here
            | inr other ↦
                let at : target_in (set targets o t) k ≡ target_in targets k = ap (λ x. x.0) (get_or-set_other targets o k t (record { 0 = 0 }) other) in
                ap (λ x. get_or (set marks t.0 true) x false) at ∙ still_marked marks t.0 (target_in targets k) here (m.marked k within)
          ];
    }

-- the first targets of a plan's first objects are marked
abbrev pub MarkUpTo : PlanView → List Bool → ℕ → Type 0
MarkUpTo plan marks n = (k : ℕ) → k < n → get_or marks (first_target plan k) false ≡ true

pub marked_next : (plan : PlanView) (marks : List Bool) (o t : ℕ) → MarkUpTo plan marks o → t ≡ first_target plan o → t < length marks
    → MarkUpTo plan (set marks t true) (o + 1)
marked_next plan marks o t so_far is fits k lt = elim (cases_eq k o) [
  | inl here ↦
      ap (λ x. get_or (set marks t true) x false) (ap (first_target plan) here ∙ sym is) ∙ get_or-set_same marks t true false fits
  | inr before ↦ still_marked marks t (first_target plan k) fits (so_far k (omega arith))
]

pub marked_first : (plan : PlanView) (marks : List Bool) (n : ℕ) → MarkUpTo plan marks n → n ≡ length plan.objects → length marks ≡ length plan.objects
    → MarkTargets (map (λ o. o.target) plan.objects) marks
marked_first plan marks n all whole long =
    let many = length-map plan.objects (λ x. x.target) in
    record {
      as_many = long ∙ sym many;
      marked = λ o lt. ap (λ x. get_or marks x false) (target_at-tree_of plan o) ∙ all o (omega (arith, lt, many, whole));
    }

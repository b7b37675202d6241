-- What may start, by whether its node's chain is shut.
use Rattle.std.proofs.Common.{◌≡◌, ℕ, Bool, true, false, not, ◌||◌, ◌∷◌, [], Some, is_none, refl}
use Rattle.gcd_plan.specs.StartRule.{first_of, is_held, is_excluded}
use Rattle.gcd_plan.specs.declared.numbers.Obj.{Obj}
use Rattle.gcd_plan.specs.declared.why.Why.TheVariants.{Behind, NotFree, Excluded, Fenced}
use Rattle.gcd_lists.specs.ListsView.{ListsView}
use Rattle.gcd_tree.specs.TreeView.{TreeView, chain_at}
use Rattle.gcd_hold.specs.HoldsView.{HoldsView}
use Rattle.gcd_drain.specs.DrainsView.{DrainsView}
use Rattle.gcd_drain.specs.Rule.{knowledge_of, is_behind_at, is_fenced_at, place_reasons, run_fault_of}
use Rattle.gcd_drain.specs.Shut.{is_shut_by}

no_reason : (behind held excluded fenced : Bool)
    → is_none (first_of ((Behind, behind) ∷ (NotFree, held) ∷ (Excluded, excluded) ∷ (Fenced, fenced) ∷ [])) ≡ not (behind || ((held || excluded) || fenced))
no_reason true held excluded fenced = refl
no_reason false true excluded fenced = refl
no_reason false false true fenced = refl
no_reason false false false true = refl
no_reason false false false false = refl

no_run_reason : (held excluded : Bool) → is_none (first_of ((NotFree, held) ∷ (Excluded, excluded) ∷ [])) ≡ not (held || excluded)
no_run_reason true excluded = refl
no_run_reason false true = refl
no_run_reason false false = refl

-- a block that waits somewhere may start exactly where it is first there, the chain is not shut, and no barrier keeps it
pub starts_unless_shut : (drains : DrainsView) (lists : ListsView) (tree : TreeView) (holds : HoldsView) (b : ℕ) (place : Obj × Bool)
    → is_none (first_of (place_reasons drains lists tree holds b (Some place)))
    ≡ not (is_behind_at lists b place.0.0 || (is_shut_by drains tree holds place.0.0 || is_fenced_at drains tree place.1 place.0.0))
starts_unless_shut drains lists tree holds b place =
    no_reason (is_behind_at lists b place.0.0)
    (is_held (knowledge_of drains tree holds) (chain_at tree place.0.0)) (is_excluded (knowledge_of drains tree holds) (chain_at tree place.0.0))
    (is_fenced_at drains tree place.1 place.0.0)

-- a handler may run exactly where its source's chain is not shut
pub runs_unless_shut : (drains : DrainsView) (tree : TreeView) (holds : HoldsView) (s : ℕ)
    → is_none (run_fault_of drains tree holds s) ≡ not (is_shut_by drains tree holds s)
runs_unless_shut drains tree holds s =
    no_run_reason (is_held (knowledge_of drains tree holds) (chain_at tree s)) (is_excluded (knowledge_of drains tree holds) (chain_at tree s))

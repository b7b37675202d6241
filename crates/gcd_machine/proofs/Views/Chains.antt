-- What the tree of a machine tells of chains and walks is what the history says.
use Rattle.std.proofs.Common.{◌≡◌, ℕ, List, length, Option, Some, None, is_some, unwrap_or, option_map, refl, ap, ◌∙◌}
use Rattle.std.specs.List.{slice_index_or}
use Rattle.std.proofs.Math.Path.{fun_ext}
use Rattle.gcd_plan.specs.PlanView.{PlanView}
use Rattle.gcd_plan.specs.Chains.{chain_by, is_in}
use Rattle.gcd_plan.specs.declared.numbers.Obj.{Obj}
use Rattle.gcd_event.specs.declared.event.Event.{Event}
use Rattle.gcd_history.specs.Tree.{target, is_moving, chain, next_on_walk, would_cycle}
use Rattle.gcd_tree.specs.TreeView.{target_at, is_moving_at, chain_at, walk_next, would_cycle_at}
use Rattle.gcd_refinement.specs.MachineView.{MachineView}
use Rattle.gcd_refinement.specs.Ties.{TreeIs}

some_told : (r : Option Obj) → is_some r ≡ is_some (option_map (λ (t : Obj). t.0) r)
some_told None = refl
some_told (Some t) = refl

module _ (plan : PlanView) (past : List Event) (v : MachineView) (t : TreeIs plan past v) (long : length v.tree.targets ≡ length plan.objects) where
  pub target_told : target_at v.tree ≡ target plan past
  target_told = fun_ext (λ o. ap (λ a. a.target) (t.aims o))

  pub moving_told : (o : ℕ) → is_moving_at v.tree o ≡ is_moving plan past o
  moving_told o = some_told (slice_index_or v.tree.requests o None) ∙ ap (λ a. is_some a.request) (t.aims o)

  pub chain_told : (o : ℕ) → chain_at v.tree o ≡ chain plan past o
  chain_told o = ap (λ f. chain_by f (length v.tree.targets) o) target_told ∙ ap (λ n. chain_by (target plan past) n o) long

  walk_told : walk_next v.tree ≡ next_on_walk plan past
  walk_told = fun_ext (λ o. ap (λ a. unwrap_or a.request a.target) (t.aims o))

  pub cycle_told : (o q : ℕ) → would_cycle_at v.tree o q ≡ would_cycle plan past o q
  cycle_told o q = ap (λ f. is_in o (chain_by f (length v.tree.targets) q)) walk_told ∙ ap (λ n. is_in o (chain_by (next_on_walk plan past) n q)) long

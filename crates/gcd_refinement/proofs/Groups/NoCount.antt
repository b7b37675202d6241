-- What is no group counts nothing.
use Rattle.std.proofs.Common.{◌≡◌, ℕ, ◌==◌, true, false, not, ◌&&◌, cond, List, [], ◌∷◌, length, filter, Option, Some, None, refl, ap, ◌∙◌, subst, arith}
use Rattle.std.specs.List.{count_by, cons_option, filter_map}
use Rattle.std.proofs.lemmas.Bool.{eqb-true, both_ways, false_from_ne_true, and_parts}
use Rattle.gcd_plan.specs.PlanView.{PlanView}
use Rattle.gcd_plan.specs.Kinds.{has_kind, is_group_kind, is_queue}
use Rattle.gcd_plan.specs.Validity.{IsPlan, is_act, is_declared}
use Rattle.gcd_plan.specs.declared.act.Act.{Act}
use Rattle.gcd_plan.specs.declared.act.Act.TheVariants.{GroupAsync, Enter}
use Rattle.gcd_event.specs.declared.event.Event.{Event}
use Rattle.gcd_history.specs.Runs.{act_of, is_ended}
use Rattle.gcd_history.specs.Groups.{member_of, enters, count}
use Rattle.gcd_plan.proofs.Sums.{count_by-cons}
use Rattle.gcd_history.proofs.Blocks.SubmittedOnNodes.{recorded_fits}

no_member : (plan : PlanView) (g : ℕ) (act : Option Act) → ((a : Act) → act ≡ Some a → is_act plan a ≡ true) → has_kind is_group_kind plan g ≡ false → member_of g act ≡ None
no_member plan g (Some (GroupAsync h q b)) fits none =
    ap (λ v. cond v (Some b.0) None)
    (false_from_ne_true (h.0 == g) (λ same.
    both_ways (has_kind is_group_kind plan g) none
    (subst (λ n. has_kind is_group_kind plan n ≡ true) (eqb-true h.0 g same) (and_parts (has_kind is_group_kind plan h.0) (is_queue plan q.0 && is_declared plan b) (fits (GroupAsync h q b) refl)).0)))
no_member plan g _ fits none = refl

no_enter : (plan : PlanView) (g : ℕ) (act : Option Act) → ((a : Act) → act ≡ Some a → is_act plan a ≡ true) → has_kind is_group_kind plan g ≡ false → enters g act ≡ false
no_enter plan g (Some (Enter h)) fits none =
    false_from_ne_true (h.0 == g) (λ same.
    both_ways (has_kind is_group_kind plan g) none (subst (λ n. has_kind is_group_kind plan n ≡ true) (eqb-true h.0 g same) (fits (Enter h) refl)))
no_enter plan g _ fits none = refl

no_members : (plan : PlanView) (past : List Event) (g : ℕ) → IsPlan plan → has_kind is_group_kind plan g ≡ false → filter_map (λ e. member_of g (act_of plan e)) past ≡ []
no_members plan [] g valid none = refl
no_members plan (e ∷ past) g valid none =
    ap (λ o. cons_option o (filter_map (λ e. member_of g (act_of plan e)) past)) (no_member plan g (act_of plan e) (λ a at. recorded_fits plan e a valid at) none)
    ∙ no_members plan past g valid none

no_enters : (plan : PlanView) (past : List Event) (g : ℕ) → IsPlan plan → has_kind is_group_kind plan g ≡ false → count_by (λ e. enters g (act_of plan e)) past ≡ 0
no_enters plan [] g valid none = refl
no_enters plan (e ∷ past) g valid none =
    let c = count_by-cons (λ x. enters g (act_of plan x)) e past in
    let n = ap (λ v. cond {A = ℕ} v 1 0) (no_enter plan g (act_of plan e) (λ a at. recorded_fits plan e a valid at) none) in
    let rest = no_enters plan past g valid none in
    omega (arith, c, n, rest)

pub no_count : (plan : PlanView) (past : List Event) (g : ℕ) → IsPlan plan → has_kind is_group_kind plan g ≡ false → count plan past g ≡ 0
no_count plan past g valid none =
    let m : length (filter (λ b. not (is_ended past b)) (filter_map (λ e. member_of g (act_of plan e)) past)) ≡ 0 = ap (λ l. length (filter (λ b. not (is_ended past b)) l)) (no_members plan past g valid none) in
    let n = no_enters plan past g valid none in
    omega (arith, m, n)

-- Nobody waits for a semaphore that is none, nor sleeps at a group that is none; and no object is both.
use Rattle.std.proofs.Common.{◌≡◌, ℕ, ◌==◌, Bool, true, false, cond, List, [], ◌∷◌, ◌++◌, length, Option, Some, None, refl, ap, ◌∙◌, subst}
use Rattle.std.specs.List.{slice_get}
use Rattle.std.specs.Option.{option_map, option_map_or}
use Rattle.std.proofs.lemmas.Bool.{eqb-true, both_ways, false_from_ne_true, and_parts}
use Rattle.gcd_plan.specs.PlanView.{PlanView}
use Rattle.gcd_plan.specs.Kinds.{has_kind, is_group_kind, is_semaphore_kind}
use Rattle.gcd_plan.specs.Validity.{IsPlan, is_act}
use Rattle.gcd_plan.specs.declared.act.Act.{Act}
use Rattle.gcd_plan.specs.declared.act.Act.TheVariants.{GroupWait, GroupWaitFor, Wait, WaitFor}
use Rattle.gcd_plan.specs.declared.kind.Kind.{Kind}
use Rattle.gcd_plan.specs.declared.kind.Kind.TheVariants.{Group}
use Rattle.gcd_plan.specs.declared.numbers.Run.TheVariants.{Block}
use Rattle.gcd_event.specs.declared.event.Event.{Event}
use Rattle.gcd_event.specs.declared.event.Event.TheVariants.{Act as Acted}
use Rattle.gcd_history.specs.Runs.{act_at}
use Rattle.gcd_history.specs.Groups.{count}
use Rattle.gcd_history.specs.Semas.{waits}
use Rattle.gcd_history.proofs.Blocks.SubmittedOnNodes.{act_fits}
use Rattle.gcd_refinement.specs.Sleepers.{wait_if, waits_for_group, sema_waits, unexpired_blocks, group_waits, group_sleepers}

-- ## Kinds

group_apart : (k : Kind) → is_group_kind k ≡ true → is_semaphore_kind k ≡ false
group_apart Group h = refl
group_apart k h = cc

pub group_is_no_semaphore : (plan : PlanView) (o : ℕ) → has_kind is_group_kind plan o ≡ true → has_kind is_semaphore_kind plan o ≡ false
group_is_no_semaphore plan o h =
    elim (option_map (λ obj. obj.kind) (slice_get plan.objects o)) as (λ k. option_map_or is_group_kind k false ≡ true → option_map_or is_semaphore_kind k false ≡ false) [
      | None ↦ λ t. refl
      | Some k ↦ λ t. group_apart k t
    ] h

pub semaphore_is_no_group : (plan : PlanView) (o : ℕ) → has_kind is_semaphore_kind plan o ≡ true → has_kind is_group_kind plan o ≡ false
semaphore_is_no_group plan o h =
    false_from_ne_true (has_kind is_group_kind plan o) (λ g. both_ways (has_kind is_semaphore_kind plan o) (group_is_no_semaphore plan o g) h)

-- ## Acts

sema_act : (plan : PlanView) (s : ℕ) (act : Option Act) → ((a : Act) → act ≡ Some a → is_act plan a ≡ true) → has_kind is_semaphore_kind plan s ≡ false → waits s act ≡ false
sema_act plan s (Some (Wait t)) fits none =
    false_from_ne_true (t.0 == s) (λ same.
    both_ways (has_kind is_semaphore_kind plan s) none (subst (λ n. has_kind is_semaphore_kind plan n ≡ true) (eqb-true t.0 s same) (fits (Wait t) refl)))
sema_act plan s (Some (WaitFor t ms)) fits none =
    false_from_ne_true (t.0 == s) (λ same.
    both_ways (has_kind is_semaphore_kind plan s) none
    (subst (λ n. has_kind is_semaphore_kind plan n ≡ true) (eqb-true t.0 s same) (and_parts (has_kind is_semaphore_kind plan t.0) _ (fits (WaitFor t ms) refl)).0))
sema_act plan s _ fits none = refl

group_act : (plan : PlanView) (g : ℕ) (act : Option Act) → ((a : Act) → act ≡ Some a → is_act plan a ≡ true) → has_kind is_group_kind plan g ≡ false → waits_for_group g act ≡ false
group_act plan g (Some (GroupWait t)) fits none =
    false_from_ne_true (t.0 == g) (λ same.
    both_ways (has_kind is_group_kind plan g) none (subst (λ n. has_kind is_group_kind plan n ≡ true) (eqb-true t.0 g same) (fits (GroupWait t) refl)))
group_act plan g (Some (GroupWaitFor t ms)) fits none =
    false_from_ne_true (t.0 == g) (λ same.
    both_ways (has_kind is_group_kind plan g) none
    (subst (λ n. has_kind is_group_kind plan n ≡ true) (eqb-true t.0 g same) (and_parts (has_kind is_group_kind plan t.0) _ (fits (GroupWaitFor t ms) refl)).0))
group_act plan g _ fits none = refl

no_sema_wait : (plan : PlanView) (past : List Event) (e : Event) (s : ℕ) → IsPlan plan → has_kind is_semaphore_kind plan s ≡ false → wait_if (waits s) plan past e ≡ []
no_sema_wait plan past (Acted w (Block b) i) s valid none = ap (λ v. cond v ((length past, b) ∷ []) []) (sema_act plan s (act_at plan (Block b) i) (λ a at. act_fits plan (Block b) i a valid at) none)
no_sema_wait plan past e s valid none = refl

no_group_wait : (plan : PlanView) (past : List Event) (e : Event) (g : ℕ) → IsPlan plan → has_kind is_group_kind plan g ≡ false → wait_if (waits_for_group g) plan past e ≡ []
no_group_wait plan past (Acted w (Block b) i) g valid none = ap (λ v. cond v ((length past, b) ∷ []) []) (group_act plan g (act_at plan (Block b) i) (λ a at. act_fits plan (Block b) i a valid at) none)
no_group_wait plan past e g valid none = refl

-- ## Lists

pub no_sema_waits : (plan : PlanView) (past : List Event) (s : ℕ) → IsPlan plan → has_kind is_semaphore_kind plan s ≡ false → sema_waits plan past s ≡ []
no_sema_waits plan [] s valid none = refl
no_sema_waits plan (e ∷ past) s valid none = ap (λ l. l ++ wait_if (waits s) plan past e) (no_sema_waits plan past s valid none) ∙ no_sema_wait plan past e s valid none

either_nil : {X : Type 0} (v : Bool) → cond {A = List X} v [] [] ≡ []
either_nil true = refl
either_nil false = refl

no_group_waits : (plan : PlanView) (past : List Event) (g : ℕ) → IsPlan plan → has_kind is_group_kind plan g ≡ false → group_waits plan past g ≡ []
no_group_waits plan [] g valid none = refl
no_group_waits plan (e ∷ past) g valid none =
    ap (λ l. cond (count plan (e ∷ past) g == 0) [] (l ++ wait_if (waits_for_group g) plan past e)) (no_group_waits plan past g valid none)
    ∙ (ap (λ l. cond (count plan (e ∷ past) g == 0) [] l) (no_group_wait plan past e g valid none) ∙ either_nil (count plan (e ∷ past) g == 0))

pub no_sleepers : (plan : PlanView) (past : List Event) (g : ℕ) → IsPlan plan → has_kind is_group_kind plan g ≡ false → group_sleepers plan past g ≡ []
no_sleepers plan past g valid none = ap (unexpired_blocks past) (no_group_waits plan past g valid none)

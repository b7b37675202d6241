-- Whether anything can come any more, and whether a block is left, as what a machine keeps tells it.
use Rattle.std.proofs.Common.{◌≡◌, ℕ, ◌==◌, Bool, true, false, not, ◌||◌, ◌↔◌, cond, List, [], ◌∷◌, None, is_none, count_by, refl, ap, sym, ◌∙◌, arith, get_or, zero, suc}
use Rattle.std.proofs.lemmas.Bool.{and_from, and_parts, eqb-true, eq-eqb, not-true}
use Rattle.gcd_plan.specs.PlanView.{PlanView}
use Rattle.gcd_event.specs.declared.event.Event.{Event}
use Rattle.gcd_history.specs.Runs.{is_ended}
use Rattle.gcd_history.specs.Submitted.{submitted}
use Rattle.gcd_plan.specs.declared.numbers.Blk.{Blk}
use Rattle.gcd_event.specs.declared.event.Event.TheVariants.{Expire}
use Rattle.gcd_history.specs.Permitted.{permitted, is_halted}
use Rattle.gcd_history.specs.Choice.{all_ended, expire_event, IsQuiescent}
use Rattle.gcd_plan.proofs.Sums.{count_by-cons}
use Rattle.gcd_plan.proofs.Options.{none_from_is_none}
use Rattle.gcd_history.proofs.Permitted.Quiet.{AtRest, quiescent_from_rest, rest_from_quiescent}
use Rattle.gcd_refinement.specs.MachineView.{MachineView, is_ripe_at, next_due_in}
use Rattle.gcd_refinement.specs.Stands.{IsTied}
use Rattle.gcd_refinement.proofs.Limits.NextDue.{next_due_is}
use Rattle.gcd_machine.specs.Judged.{is_intake_open_at}
use Rattle.gcd_machine.specs.Chosen.{choice_by, is_quiescent_at}
use Rattle.gcd_machine.proofs.Choice.Workers.{choice_is}
use Rattle.gcd_machine.proofs.Views.Intake.{open_is}
use Rattle.gcd_machine.proofs.Choice.Expiries.{expires_is, none_from_unripe}
use Rattle.gcd_machine.proofs.Reasons.First.{of_plan}
use Rattle.gcd_machine.proofs.Views.Waits.{none_left}
use Rattle.gcd_machine.proofs.Views.Workers.{over_is}

-- ## Live feeds

-- where no flag is counted none is set
pub none_set : (flags : List Bool) → count_by (λ b. b) flags ≡ 0 → (i : ℕ) → get_or flags i false ≡ false
none_set [] none i = refl
none_set (true ∷ flags) none i = let c = count_by-cons (λ (b : Bool). b) true flags in absurd (omega (arith, c, none))
none_set (false ∷ flags) none zero = refl
none_set (false ∷ flags) none (suc i) = let c = count_by-cons (λ (b : Bool). b) false flags in none_set flags (omega (arith, c, none)) i

pub none_counted : (flags : List Bool) → ((i : ℕ) → get_or flags i false ≡ false) → count_by (λ b. b) flags ≡ 0
none_counted [] none = refl
none_counted (flag ∷ flags) none =
    let c = count_by-cons (λ (b : Bool). b) flag flags in
    let here : ◌≡◌ {A = ℕ} (cond flag 1 0) 0 = ap (λ v. cond v 1 0) (none zero) in
    let rest = none_counted flags (λ i. none (suc i)) in
    omega (arith, c, here, rest)

-- ## At rest

-- the tests, one by one
record Tests (m : MachineView) : Type 0 where
  going : (m.misused || m.halted) ≡ false
  no_intake : is_intake_open_at m ≡ false
  idle : m.running ≡ 0
  no_feed : count_by (λ b. b) m.live ≡ 0
  no_expiry : count_by (λ b. b) m.ripe ≡ 0
  no_time : next_due_in m ≡ None
  no_choice : choice_by m 0 0 ≡ None

tests_from : (m : MachineView) → is_quiescent_at m ≡ true → Tests m
tests_from m quiet =
    let one = and_parts (not (m.misused || m.halted)) _ quiet in
    let shut = and_parts (not (is_intake_open_at m)) _ one.1 in
    let two = and_parts (m.running == 0) _ shut.1 in
    let three = and_parts (count_by (λ b. b) m.live == 0) _ two.1 in
    let four = and_parts (count_by (λ b. b) m.ripe == 0) _ three.1 in
    let five = and_parts (is_none (next_due_in m)) (is_none (choice_by m 0 0)) four.1 in
    record {
      going = not-true (m.misused || m.halted) one.0;
      no_intake = not-true (is_intake_open_at m) shut.0;
      idle = eqb-true m.running 0 two.0;
      no_feed = eqb-true (count_by (λ b. b) m.live) 0 three.0;
      no_expiry = eqb-true (count_by (λ b. b) m.ripe) 0 four.0;
      no_time = none_from_is_none (next_due_in m) five.0;
      no_choice = none_from_is_none (choice_by m 0 0) five.1;
    }

tests_to : (m : MachineView) → Tests m → is_quiescent_at m ≡ true
tests_to m tests =
    let none = and_from (is_none (next_due_in m)) (is_none (choice_by m 0 0)) (ap is_none tests.no_time) (ap is_none tests.no_choice) in
    let unripe = and_from (count_by (λ b. b) m.ripe == 0) _ (eq-eqb (count_by (λ b. b) m.ripe) 0 tests.no_expiry) none in
    let still = and_from (count_by (λ b. b) m.live == 0) _ (eq-eqb (count_by (λ b. b) m.live) 0 tests.no_feed) unripe in
    let rests = and_from (m.running == 0) _ (eq-eqb m.running 0 tests.idle) still in
    and_from (not (m.misused || m.halted)) _ (ap not tests.going) (and_from (not (is_intake_open_at m)) _ (ap not tests.no_intake) rests)

rests : (plan : PlanView) (past : List Event) (m : MachineView) → IsTied plan past m → Tests m → AtRest plan past
rests plan past m tied tests = record {
  goes_on = sym (over_is plan past m tied.totals) ∙ tests.going;
  idle = sym tied.totals.running ∙ tests.idle;
  no_choice = sym (choice_is plan past m 0 0 tied) ∙ tests.no_choice;
  no_expiry = none_from_unripe plan past m tied (none_set m.ripe tests.no_expiry);
  no_time = sym (next_due_is plan past m tied) ∙ tests.no_time;
  no_feed = λ s. sym (tied.totals.live s) ∙ none_set m.live tests.no_feed s;
  no_intake = sym (open_is plan past m tied) ∙ tests.no_intake;
}

unripe : (plan : PlanView) (past : List Event) (m : MachineView) → IsTied plan past m → is_halted past ≡ false → ((b : Blk) → permitted plan past (Expire b) ≡ false) → (b : ℕ) → is_ripe_at m b ≡ false
unripe plan past m tied on none b =
    sym (expires_is m past b (of_plan plan past m tied) on) ∙ (ap (λ p. permitted p past (expire_event b)) tied.same_plan ∙ none (record { 0 = b }))

tests_at_rest : (plan : PlanView) (past : List Event) (m : MachineView) → IsTied plan past m → IsQuiescent plan past → Tests m
tests_at_rest plan past m tied quiet =
    let rest = rest_from_quiescent plan past tied.valid tied.lawful quiet in record {
      going = over_is plan past m tied.totals ∙ rest.goes_on;
      no_intake = open_is plan past m tied ∙ rest.no_intake;
      idle = tied.totals.running ∙ rest.idle;
      no_feed = none_counted m.live (λ s. tied.totals.live s ∙ rest.no_feed s);
      no_expiry = none_counted m.ripe (unripe plan past m tied quiet.goes_on quiet.no_expiry);
      no_time = next_due_is plan past m tied ∙ rest.no_time;
      no_choice = choice_is plan past m 0 0 tied ∙ rest.no_choice;
    }

-- nothing but a halt can come exactly where the tests say so
pub quiet_is : (plan : PlanView) (past : List Event) (m : MachineView) → IsTied plan past m → (is_quiescent_at m ≡ true) ↔ IsQuiescent plan past
quiet_is plan past m tied = (
  λ quiet. quiescent_from_rest plan past tied.valid tied.lawful (rests plan past m tied (tests_from m quiet)),
  λ quiet. tests_to m (tests_at_rest plan past m tied quiet),
)

-- ## Blocks that are left

-- no block is left exactly where each that was submitted has ended
pub left_none_is : (plan : PlanView) (past : List Event) (m : MachineView) → IsTied plan past m → (m.left == 0) ≡ all_ended plan past
left_none_is plan past m tied = ap (λ n. n == 0) tied.totals.left ∙ none_left (λ s. is_ended past s.blk.0) (submitted plan past)

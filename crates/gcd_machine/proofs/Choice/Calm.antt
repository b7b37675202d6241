-- Whether anything can come of the outside, as what a machine keeps tells it, for each history that it stands for.
use Rattle.std.proofs.Common.{◌≡◌, ◌==◌, true, false, not, List, reverse, None, is_none, count_by, ap, sym, ◌∙◌}
use Rattle.std.specs.Bool.{IsTrue}
use Rattle.std.proofs.lemmas.Bool.{and_from, and_parts, eqb-true, eq-eqb, not-true}
use Rattle.gcd_plan.specs.PlanView.{PlanView}
use Rattle.gcd_plan.proofs.Options.{none_from_is_none}
use Rattle.gcd_event.specs.declared.event.Event.{Event}
use Rattle.gcd_history.specs.Ends.{is_halted}
use Rattle.gcd_history.specs.History.{expiry_of, is_intake_open, is_live_feed, next_due_of}
use Rattle.gcd_refinement.specs.MachineView.{MachineView, next_due_in}
use Rattle.gcd_refinement.proofs.Limits.NextDue.{next_due_is}
use Rattle.gcd_machine.specs.Calm.{IsCalm, is_calm_at}
use Rattle.gcd_machine.specs.Judged.{is_intake_open_at}
use Rattle.gcd_machine.specs.Stands.{StandsFor}
use Rattle.gcd_machine.proofs.Choice.Ending.{none_counted, none_set}
use Rattle.gcd_machine.proofs.Choice.Expiries.{none_from_unripe, unripe_from_none}
use Rattle.gcd_machine.proofs.Views.Calls.{tied_by}
use Rattle.gcd_machine.proofs.Views.Intake.{open_is}

-- the tests, one by one
record Tests (m : MachineView) : Type 0 where
  shut : is_intake_open_at m ≡ false
  no_feed : count_by (λ b. b) m.live ≡ 0
  no_expiry : count_by (λ b. b) m.ripe ≡ 0
  no_time : next_due_in m ≡ None

tests_from : (m : MachineView) → is_calm_at m ≡ true → Tests m
tests_from m calm =
    let one = and_parts (not (is_intake_open_at m)) _ calm in
    let two = and_parts (count_by (λ b. b) m.live == 0) _ one.1 in
    let three = and_parts (count_by (λ b. b) m.ripe == 0) (is_none (next_due_in m)) two.1 in
    record {
      shut = not-true (is_intake_open_at m) one.0;
      no_feed = eqb-true (count_by (λ b. b) m.live) 0 two.0;
      no_expiry = eqb-true (count_by (λ b. b) m.ripe) 0 three.0;
      no_time = none_from_is_none (next_due_in m) three.1;
    }

tests_to : (m : MachineView) → Tests m → is_calm_at m ≡ true
tests_to m tests =
    let three = and_from (count_by (λ b. b) m.ripe == 0) (is_none (next_due_in m)) (eq-eqb (count_by (λ b. b) m.ripe) 0 tests.no_expiry) (ap is_none tests.no_time) in
    let two = and_from (count_by (λ b. b) m.live == 0) _ (eq-eqb (count_by (λ b. b) m.live) 0 tests.no_feed) three in
    and_from (not (is_intake_open_at m)) _ (ap not tests.shut) two

pub calm_stands : (m : MachineView) (plan : PlanView) (h : List Event) → StandsFor m plan h → IsTrue (is_calm_at m) → IsCalm plan h
unfolding expiry_of is_intake_open is_live_feed next_due_of
calm_stands m plan h stands calm =
    let past : List Event = reverse h in
    let tied = tied_by m plan h stands in
    let tests = tests_from m calm in
    record {
      no_feed = λ s. sym (tied.totals.live s) ∙ none_set m.live tests.no_feed s;
      no_time = sym (next_due_is plan past m tied) ∙ tests.no_time;
      no_expiry = none_from_unripe plan past m tied (none_set m.ripe tests.no_expiry);
      no_intake = sym (open_is plan past m tied) ∙ tests.shut;
    }

pub calm_told : (m : MachineView) (plan : PlanView) (h : List Event) → StandsFor m plan h → is_halted h ≡ false → IsCalm plan h → IsTrue (is_calm_at m)
unfolding expiry_of is_halted is_intake_open is_live_feed next_due_of
calm_told m plan h stands going calm =
    let past : List Event = reverse h in
    let tied = tied_by m plan h stands in
    tests_to m (record {
      shut = open_is plan past m tied ∙ calm.no_intake;
      no_feed = none_counted m.live (λ s. tied.totals.live s ∙ calm.no_feed s);
      no_expiry = none_counted m.ripe (unripe_from_none plan past m tied going calm.no_expiry);
      no_time = next_due_is plan past m tied ∙ calm.no_time;
    })

use Rattle.std.proofs.Common.{◌+◌, ◌∙◌, map, length, ap, sym, refl}
use Rattle.std.proofs.lemmas.List.{length-map}
use Rattle.gcd_commands.specs.Calls.{only_loads, failed_listen, with_listen}
use Rattle.gcd_commands.specs.Hands.HandsRun.{ran as hands_run}
use Rattle.gcd_commands.specs.Runs.RunEnds.{ran}
use Rattle.gcd_commands.specs.Runs.StopsRun.{unready, at_listen, wanting}
use Rattle.gcd_builder.proofs.Refused.{handed_on}
use Rattle.gcd_commands.proofs.Loading.{loaded_count}
use Rattle.gcd_commands.proofs.Hearing.{SameHearing, listening_more, quiet, tells_since}
use Rattle.gcd_commands.proofs.running.run_script.Goals as goal

pub returns-in_err-plan-clause-stopped : goal.returns-in_err-plan-clause-stopped
returns-in_err-plan-clause-stopped g c =
    let stops = c.in_err-plan.ensures.stopped in
    handed_on _ c.from_residual.result c.in_err-plan.field-0.0 c.from_residual.ensures.1
    (record {
      calls = only_loads stops.loads;
      made = record { loads = stops.made; listens = quiet g.P.Poller.tells (g.P.Poller.state c.args.poller.now) };
      is = unready stops.loads stops.is refl;
    })

pub returns-in_err-listen_at-clause-stopped : goal.returns-in_err-listen_at-clause-stopped
returns-in_err-listen_at-clause-stopped g c =
    let fails = c.in_err-listen_at.ensures.failed in
    handed_on _ c.from_residual-in_err-listen_at.result c.in_err-listen_at.field-0.0 c.from_residual-in_err-listen_at.ensures.1
    (record {
      calls = failed_listen (length c.in_ok-plan.plan.files + 1);
      made = record { loads = c.in_ok-plan.ensures.loads; listens = fails.listening };
      is = at_listen c.in_ok-plan.plan (map (λ f. f.items) c.in_ok-plan.files.items) fails.asked c.in_ok-plan.ensures.ready fails.asked_is
          fails.failed fails.stop_is refl;
    })

pub run_plan-requires-clause-files : goal.run_plan-requires-clause-files
run_plan-requires-clause-files g c = λ lifetimes outlive.
    ap length c.deref.ensures.value
    ∙ sym (length-map c.in_ok-plan.files.items (λ f. f.items))
    ∙ loaded_count _ c.in_ok-plan.plan.files _ c.in_ok-plan.ensures.ready.loaded

pub returns-in-Ok-clause-reported : goal.returns-in-Ok-clause-reported
returns-in-Ok-clause-reported g c =
    let state = g.P.Poller.state in
    let listened = c.in_ok-listen_at.ensures.listened in
    let same : SameHearing (state c.listen_at.new.poller) (state c.args.poller.now) g.P.Poller.tells = record {
      answers = listened.answers;
      watches = listened.watches;
      watched = c.listen_at.ensures.unwatched;
      faults = listened.faults;
    } in
    let reported = rw (c.deref.ensures.value) at c.in-Ok.ensures.reported in
    record {
      calls = with_listen (length c.in_ok-plan.plan.files + 1) _;
      made = record {
        loads = c.in_ok-plan.ensures.loads;
        listens = listening_more g.P.Poller.tells (state c.args.poller.now) (state c.listen_at.new.poller) (state c.run_plan.new.poller) _ _
            listened.listening c.run_plan.ensures.kept.listens c.run_plan.ensures.kept.addresses;
      };
      is = ran c.in_ok-plan.plan (map (λ f. f.items) c.in_ok-plan.files.items) c.in_ok-plan.ensures.ready refl
          (tells_since (state c.listen_at.new.poller) (state c.args.poller.now) (state c.run_plan.new.poller) g.P.Poller.tells same _ _ _ _ _ _ _ reported);
    }

pub returns-in-Ok-clause-found : goal.returns-in-Ok-clause-found
returns-in-Ok-clause-found g c = hands_run c.in_ok-plan.plan c.in_ok-plan.ensures.ready.plan_is c.in-Ok.ensures.found

pub returns-clause-stopped : goal.returns-clause-stopped
returns-clause-stopped g c =
    let state = g.P.Poller.state in
    let listened = c.in_ok-listen_at.ensures.listened in
    record {
      calls = with_listen (length c.in_ok-plan.plan.files + 1) _;
      made = record {
        loads = c.in_ok-plan.ensures.loads;
        listens = listening_more g.P.Poller.tells (state c.args.poller.now) (state c.listen_at.new.poller) (state c.run_plan.new.poller) _ _
            listened.listening c.run_plan.ensures.kept.listens c.run_plan.ensures.kept.addresses;
      };
      is = wanting c.in_ok-plan.plan (map (λ f. f.items) c.in_ok-plan.files.items) c.in_ok-plan.ensures.ready refl refl;
    }

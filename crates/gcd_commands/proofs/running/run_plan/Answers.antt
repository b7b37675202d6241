use Rattle.std.proofs.Common.{map, arith, refl}
use Rattle.gcd_commands.proofs.Hands.{run_of}
use Rattle.gcd_commands.proofs.running.run_plan.Goals as goal

pub story_of-requires-clause-lawful : goal.story_of-requires-clause-lawful
story_of-requires-clause-lawful g c = c.in_ok-run.ensures.ran.run.lawful

pub story_of-requires-clause-few : goal.story_of-requires-clause-few
story_of-requires-clause-few g c = omega (arith, c.in_ok-run.ensures.ran.run.few, c.requires.most.1)

pub returns-clause-reported : goal.returns-clause-reported
returns-clause-reported g c =
    let r = c.in_ok-run.ensures.ran in
    record {
      h = c.in_ok-run.run'.journal.items;
      state = c.in_ok-run.run'.state;
      ran = r;
      end_is = c.in_ok-story.ensures.told (map (λ f. f.items) c.args.files.now) r.over.state_is c.in_ok-run.ensures.values.values;
    }

pub returns-clause-found : goal.returns-clause-found
returns-clause-found g c =
    let run = c.in_ok-run.run' in
    let told = c.in_ok-story.ensures.told (map (λ f. f.items) c.args.files.now) c.in_ok-run.ensures.ran.over.state_is c.in_ok-run.ensures.values.values in
    run_of c.args.plan run.machine run.journal.items _ c.in_ok-story.story told refl c.in_ok-run.ensures.stands c.in_ok-story.ensures.found

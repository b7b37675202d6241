use Rattle.std.proofs.Common.{refl}
use Rattle.gcd_journal.proofs.LawfulSpoken.{lawful_spoken}
use Rattle.gcd_commands.proofs.Hands.{run_of}
use Rattle.gcd_commands.specs.Fronts.{value_or_0}
use Rattle.gcd_commands.proofs.front.run_plan.Goals as goal

pub story_of-requires-clause-few : goal.story_of-requires-clause-few
story_of-requires-clause-few g c = c.in_ok-run.ensures.ran.few

pub story_of-requires-clause-others : goal.story_of-requires-clause-others
story_of-requires-clause-others g c = c.in_ok-run.ensures.ran.others

pub story_of-requires-clause-spoken : goal.story_of-requires-clause-spoken
story_of-requires-clause-spoken g c = lawful_spoken _ _ c.requires.valid c.in_ok-run.ensures.ran.ran.run.lawful

pub returns-clause-told : goal.returns-clause-told
returns-clause-told g c = λ intake is.
    let run = c.in_ok-run.run' in
    let ran = c.in_ok-run.ensures.ran in
    record {
      value = value_or_0 run.values.items;
      tells = record { h = run.journal.items; state = run.state; ran = ran.ran; end_is = c.in_ok-story.ensures.told };
      hears = ran.hears intake is;
    }

pub returns-clause-found : goal.returns-clause-found
returns-clause-found g c =
    let run = c.in_ok-run.run' in
    run_of c.args.plan run.machine run.journal.items _ c.in_ok-story.story c.in_ok-story.ensures.told refl c.in_ok-run.ensures.stands c.in_ok-story.ensures.found

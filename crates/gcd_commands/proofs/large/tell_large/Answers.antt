use Rattle.std.proofs.Common.{◌∙◌, length, map, ap, refl, sym, arith}
use Rattle.std.proofs.lemmas.List.{length-map}
use Rattle.gcd_commands.specs.End.{large_file}
use Rattle.gcd_journal.proofs.LawfulSpoken.{lawful_spoken}
use Rattle.gcd_commands.proofs.Hands.{run_of}
use Rattle.gcd_commands.proofs.Totals.{total_is}
use Rattle.gcd_commands.specs.Hands.HandsRun.{ran as hands_run}
use Rattle.gcd_commands.proofs.large.tell_large.Goals as goal

pub run_by-requires-clause-files : goal.run_by-requires-clause-files
run_by-requires-clause-files g c = λ lifetimes outlive.
    ap length c.deref.ensures.value
    ∙ sym (length-map c.in_ok-files.files.items (λ f. f.items))
    ∙ ap length c.in_ok-files.ensures
    ∙ length-map c.in_ok-plan.plan.files (λ file. large_file)

pub story_of-requires-clause-spoken : goal.story_of-requires-clause-spoken
story_of-requires-clause-spoken g c = lawful_spoken _ _ c.in_ok-plan.ensures.valid c.in_ok-run.ensures.ran.run.lawful

pub story_of-requires-clause-few : goal.story_of-requires-clause-few
story_of-requires-clause-few g c = omega (arith, c.in_ok-run.ensures.values.count, c.in_ok-plan.ensures.valid.few_blocks)

pub returns-clause-reported : goal.returns-clause-reported
returns-clause-reported g c =
    let v = rw (c.deref.ensures.value, c.in_ok-files.ensures) at c.in_ok-run.ensures.values in
    let plan = c.in_ok-plan.plan in
    let contents = map (λ file. large_file) plan.files in
    let run = c.in_ok-run.run' in
    let total = total_is plan contents run.journal.items run.values.items v.count v.values v.others in
    record {
      plan = plan;
      contents = contents;
      large = record { valid = c.in_ok-plan.ensures.valid; script = rw (c.from.ensures) at c.in_ok-plan.ensures.script; contents_are = refl };
      tells = record {
        h = run.journal.items;
        state = run.state;
        ran = c.in_ok-run.ensures.ran;
        end_is = rw (total) at c.in_ok-story.ensures.told;
      };
    }

pub returns-clause-found : goal.returns-clause-found
returns-clause-found g c =
    let plan = c.in_ok-plan.plan in
    let run = c.in_ok-run.run' in
    hands_run plan (rw (c.from.ensures) at c.in_ok-plan.ensures.script)
    (run_of plan run.machine run.journal.items _ c.in_ok-story.story c.in_ok-story.ensures.told refl c.in_ok-run.ensures.stands c.in_ok-story.ensures.found)

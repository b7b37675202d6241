use Rattle.std.proofs.Common.{◌∙◌, Some, rules, ap, sym}
use Rattle.std.proofs.lemmas.List.{set-set}
use Rattle.std.proofs.lemmas.Option.{slice_get-get_or, slice_get_within}
use Rattle.gcd_workers.specs.declared.job_state.JobState.TheVariants.{Waits, Gave}
use Rattle.gcd_workers.proofs.job_state.run_job.Goals as goal

pub returns : goal.returns
returns g c =
    let old = c.args.states.now.items in
    let within = slice_get_within old c.args.b.0 (Waits c.requires.0) c.requires.1 in
    record {
      job = c.in-Waits.job;
      value = c.run.result;
      was = slice_get-get_or old c.args.b.0 c.index_mut.result.now within ∙ ap Some (sym c.index_mut.ensures.value ∙ search rules);
      given = search rules;
      is = set-set old c.args.b.0 c.replace-state.new.dest (Gave c.run.result);
    }

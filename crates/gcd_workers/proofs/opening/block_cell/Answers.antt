use Rattle.std.proofs.Common.{refl, sym, ◌∙◌}
use Rattle.std.proofs.lemmas.Bool.{both_ways}
use Rattle.gcd_history.specs.History.{is_ended}
use Rattle.gcd_jobs.specs.Contents.{contents}
use Rattle.gcd_workers.proofs.Jobs.{job_is}
use Rattle.gcd_workers.proofs.opening.block_cell.Goals as goal

pub returns : goal.returns
returns c =
    let over = c.args.over in let plan = over.plan.now in let b = c.args.b.0 in
    let h = c.args.kept.now.journal.items in
    let stands = c.requires.run.stands in
    record {
      ended = λ is. absurd (both_ways (is_ended h b) (sym (c.is_ended.ensures plan h stands) ∙ c.if-is_ended.false) is);
      other = λ is. (c.new.result, refl, job_is plan (contents over.files.now) b c.work.result c.new.result c.work.ensures c.new.ensures);
    }

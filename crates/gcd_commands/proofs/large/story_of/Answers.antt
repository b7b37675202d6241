use Rattle.std.specs.Prelude.{◌++◌, codes, sum}
use Rattle.std.specs.Fmt.{decimal}
use Rattle.gcd_history.specs.Report.{last_line, line_end}
use Rattle.gcd_commands.proofs.large.story_of.Goals as goal

pub returns-clause-told : goal.returns-clause-told
returns-clause-told c =
    c.ran.ensures.told (codes "blocks " ++ (decimal c.args.count ++ (line_end ++ (codes "total " ++ (decimal (sum c.args.run.values.items) ++ (line_end ++ last_line c.args.plan c.args.run.state c.args.run.journal.items))))))
    c.text_of-text.ensures

use Rattle.gcd_commands.specs.End.{run_text}
use Rattle.gcd_commands.proofs.running.story_of.Goals as goal

pub returns-clause-told : goal.returns-clause-told
returns-clause-told c = λ contents state values.
    let reported = run_text c.args.with_journal c.args.plan contents c.args.run.state c.args.run.journal.items in
    c.ran.ensures.told reported (c.text_of-text.ensures contents c.args.run.state state values)

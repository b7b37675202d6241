use Rattle.std.proofs.Common.{ap₂, ◌∙◌}
use Rattle.std.proofs.lemmas.Result.{IfOk-weaker}
use Rattle.clap.specs.Words.{with_rule}
use Rattle.gcd_words.specs.CommandLine.{run_app}
use Rattle.gcd_words.proofs.command_line.run.Goals as goal

pub returns-clause-app : goal.returns-clause-app
unfolding run_app
returns-clause-app c = IfOk-weaker c.with-5.result _ _ (λ m h. h
    ∙ ap₂ with_rule (c.in_ok-command-4.ensures.app
    ∙ ap₂ with_rule (c.in_ok-command-3.ensures.app
    ∙ ap₂ with_rule (c.in_ok-command-2.ensures.app
    ∙ ap₂ with_rule (c.in_ok-command.ensures.app ∙ ap₂ with_rule c.new.ensures.app c.required.ensures.rule)
    c.workers.ensures.rule) c.journal.ensures.rule) c.most.ensures.rule) c.option.ensures.rule) c.with-5.ensures.app

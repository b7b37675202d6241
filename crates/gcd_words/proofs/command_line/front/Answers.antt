use Rattle.std.proofs.Common.{ap₂, ◌∙◌}
use Rattle.std.proofs.lemmas.Result.{IfOk-weaker}
use Rattle.clap.specs.Words.{with_rule}
use Rattle.gcd_words.specs.CommandLine.{front_app}
use Rattle.gcd_words.proofs.command_line.front.Goals as goal

pub returns-clause-app : goal.returns-clause-app
unfolding front_app
returns-clause-app c = IfOk-weaker c.with-2.result _ _ (λ m h. h
    ∙ ap₂ with_rule (c.in_ok-command.ensures.app ∙ ap₂ with_rule c.new.ensures.app c.required.ensures.rule) c.senders.ensures.rule) c.with-2.ensures.app

use Rattle.std.proofs.Common.{ap, ap₂, ◌≡◌, ◌∙◌, rules}
use Rattle.std.proofs.lemmas.Result.{IfOk-weaker}
use Rattle.clap.specs.Words.{App, app_of, with_subcommand}
use Rattle.gcd_words.specs.CommandLine.{bare_app, gcd_app}
use Rattle.gcd_words.proofs.command_line.gcd.Goals as goal

pub returns : goal.returns
unfolding gcd_app
returns c =
    let bare : app_of c.no_binary_name-command.result ≡ bare_app = search rules in
    IfOk-weaker c.subcommand-4.result _ _ (λ m h. h.shape c.in_ok-front.ensures.local
    ∙ ap₂ with_subcommand (c.in_ok-command-3.ensures.shape c.in_ok-big.ensures.local
    ∙ ap₂ with_subcommand (c.in_ok-command-2.ensures.shape c.in_ok-check.ensures.local
    ∙ ap₂ with_subcommand (c.in_ok-command.ensures.shape c.in_ok-run.ensures.local
    ∙ ap₂ with_subcommand bare (ap (λ (a : App). a.top) c.in_ok-run.ensures.app)) (ap (λ (a : App). a.top) c.in_ok-check.ensures.app))
    (ap (λ (a : App). a.top) c.in_ok-big.ensures.app)) (ap (λ (a : App). a.top) c.in_ok-front.ensures.app)) c.subcommand-4.ensures

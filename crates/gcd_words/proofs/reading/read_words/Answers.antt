use Rattle.std.proofs.Common.{◌∙◌}
use Rattle.clap.specs.Words.{kind_of}
use Rattle.gcd_words.proofs.Requests.{taken, refused, asks, never}
use Rattle.gcd_words.specs.Requests.{asked_of}
use Rattle.gcd_words.proofs.reading.read_words.Goals as goal

pub returns-in-Ok-clause-exact : goal.returns-in-Ok-clause-exact
returns-in-Ok-clause-exact c = c.asked.ensures.asked ∙ taken _ _ _ c.in_ok-gcd.ensures (λ s. (c.in-Ok.ensures.matches s).1) c.in-Ok.ensures.kinds

pub returns-in-Ok-clause-taken : goal.returns-in-Ok-clause-taken
returns-in-Ok-clause-taken c = asks asked_of _ _ _ _ c.in_ok-gcd.ensures (λ s. (c.in-Ok.ensures.matches s).1) c.asked.ensures.asked

pub returns-clause-exact : goal.returns-clause-exact
returns-clause-exact c = refused _ _ (kind_of c.in-Err.error) c.in_ok-gcd.ensures c.in-Err.ensures.kinds (λ e. c.in_default.not-OutOfMemory (c.kind.ensures ∙ e))

pub returns-clause-taken : goal.returns-clause-taken
returns-clause-taken c = never _ _ (kind_of c.in-Err.error) c.in_ok-gcd.ensures c.in-Err.ensures.passes (λ e. c.in_default.not-OutOfMemory (c.kind.ensures ∙ e))

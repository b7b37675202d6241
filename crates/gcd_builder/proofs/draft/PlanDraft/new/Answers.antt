use Rattle.gcd_builder.specs.Agreement.{look_up}
use Rattle.gcd_builder.proofs.Empty.{empty_agrees, finds_nothing}
use Rattle.gcd_builder.proofs.draft.PlanDraft.new.Goals as goal

pub returns-clause-agrees : goal.returns-clause-agrees
returns-clause-agrees c =
    rw (c.in_ok-vec.ensures.items, c.new.ensures.items, c.in_ok-first_parts.ensures)
    (empty_agrees (look_up c.in_ok-meanings.meanings) (look_up c.declare.new.meanings) (finds_nothing c.in_ok-meanings.meanings c.in_ok-meanings.ensures.empty) c.in_ok-declare.ensures)

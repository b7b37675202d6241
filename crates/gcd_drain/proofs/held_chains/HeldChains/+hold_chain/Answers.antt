use Rattle.std.proofs.Common.{◌≡◌, true, sym, ◌∙◌, subst, arith}
use Rattle.gcd_drain.specs.Rule.{is_free_by}
use Rattle.gcd_drain.specs.Held.{AreHeldIn}
use Rattle.gcd_drain.proofs.Noting.{held_beyond, known_more, nearer}
use Rattle.gcd_drain.proofs.held_chains.HeldChains.+hold_chain.Goals as goal

pub hold_chain-held-requires : goal.hold_chain-held-requires
hold_chain-held-requires t c =
    let less = nearer c.args.tree.now c.args.holds.now c.target-next.ensures.valid c.args.o.0 c.target-next.result.0 c.requires.object
    (λ at. omega (arith, c.if-o-eq0.false, at)) c.target-next.ensures.target in (
      omega (arith, less, c.decreases),
      (c.target-next.ensures.in_range, (c.requires.holds, c.requires.known)),
    )

pub returns-clause-answer : goal.returns-clause-answer
returns-clause-answer t c =
    let free : is_free_by c.args.tree.now c.args.holds.now c.args.o.0 ≡ true = sym c.is_free.ensures ∙ c.if-not-is_free.false in
    held_beyond c.args.tree.now c.args.holds.now c.target-next.ensures.valid c.args.o.0 c.target-next.result.0 c.hold_chain-held.result c.requires.object
    (λ at. omega (arith, c.if-o-eq0.false, at)) free c.target-next.ensures.target c.hold_chain-held.ensures.answer

pub returns-clause-known : goal.returns-clause-known
returns-clause-known t c =
    let free : is_free_by c.args.tree.now c.args.holds.now c.args.o.0 ≡ true = sym c.is_free.ensures ∙ c.if-not-is_free.false in
    let answer = held_beyond c.args.tree.now c.args.holds.now c.target-next.ensures.valid c.args.o.0 c.target-next.result.0 c.hold_chain-held.result c.requires.object
    (λ at. omega (arith, c.if-o-eq0.false, at)) free c.target-next.ensures.target c.hold_chain-held.ensures.answer in
    subst (λ xs. AreHeldIn c.note-2.new.known xs c.args.tree.now c.args.holds.now) (sym c.note-2.ensures.held)
    (known_more c.args.tree.now c.args.holds.now c.hold_chain-held.new.known c.note-2.new.known c.hold_chain-held.new.self c.args.o.0 c.hold_chain-held.result
    c.hold_chain-held.ensures.known c.requires.object answer c.note-2.ensures.others)

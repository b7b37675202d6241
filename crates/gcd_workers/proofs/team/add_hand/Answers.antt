use Rattle.std.proofs.Common.{◌≡◌, ◌+◌, ◌∙◌, [], ap, sym, subst, arith}
use Rattle.gcd_history.specs.Team.{of_worker}
use Rattle.gcd_row.specs.Passes.{view}
use Rattle.gcd_row.specs.declared.view.View.{View}
use Rattle.gcd_row.proofs.Holding.{holds_nothing}
use Rattle.gcd_workers.specs.Teams.{EachFrom, IsHead, IsReadyAt}
use Rattle.gcd_workers.proofs.Heads.{head_out}
use Rattle.gcd_workers.proofs.Hires.{hired}
use Rattle.gcd_workers.proofs.team.add_hand.Goals as goal

pub split-other-requires-clause-number : goal.split-other-requires-clause-number
split-other-requires-clause-number g c = (c.requires.number.0, c.requires.number.1, c.requires.head.out.none c.args.number (omega arith))

pub hand-requires-clause-none : goal.hand-requires-clause-none
hand-requires-clause-none g c =
    let v = view c.split-other.result in
    let worker : v.worker ≡ c.args.number = ap (λ v. v.worker) c.split-other.ensures.new.1 in
    holds_nothing v.terms.plan v.seen v.worker (subst (λ w. of_worker w v.seen ≡ []) (sym worker) c.split-other.ensures.none)

pub hand-requires-clause-gathered : goal.hand-requires-clause-gathered
hand-requires-clause-gathered g c = λ zero.
    let worker : (view c.split-other.result).worker ≡ c.args.number = ap (λ v. v.worker) c.split-other.ensures.new.1 in
    absurd (omega (arith, zero, worker, c.requires.number.0))

pub returns-clause-lent : goal.returns-clause-lent
returns-clause-lent g c = let is = c.split-other.ensures.lent in is ∙ ap (λ (x : View _). record (view c.args.pass.now) { hands = x.hands }) (sym is)

pub returns-clause-head : goal.returns-clause-head
returns-clause-head g c =
    subst (IsHead 1 (c.args.number + 1)) (sym c.split-other.ensures.lent) (head_out c.args.number (view c.args.pass.now) c.requires.number.0 c.requires.head)

pub returns-clause-hands : goal.returns-clause-hands
returns-clause-hands g c =
    subst (EachFrom (IsReadyAt g.S.Slot.shape g.S.Slot.gives c.args.pool.now) 1) (sym c.push_reserved.ensures.items)
    (hired g.S.Slot.shape g.S.Slot.gives c.args.pool.now c.args.number c.args.hands.now.items c.hand.result c.hand.ensures.ready
    (ap (λ p. (view p).worker) c.hand.ensures.parts.0 ∙ ap (λ v. v.worker) c.split-other.ensures.new.1)
    c.requires.number.2 c.requires.hands)

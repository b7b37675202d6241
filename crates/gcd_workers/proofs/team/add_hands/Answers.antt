use Rattle.std.proofs.Common.{◌≡◌, ◌∷◌, length, ap, sym, subst, arith}
use Rattle.std.specs.Prelude.{All}
use Rattle.std.specs.Vec.Iter.{into_iter_items}
use Rattle.gcd_machine.specs.Stands.{StandsFor}
use Rattle.gcd_row.specs.Passes.{view}
use Rattle.gcd_row.specs.declared.view.View.{View}
use Rattle.gcd_workers.specs.Teams.{IsHelper}
use Rattle.gcd_workers.proofs.Heads.{lent_on}
use Rattle.gcd_workers.proofs.Hires.{all_head, all_rest}
use Rattle.gcd_workers.proofs.team.add_hands.Goals as goal

pub add_hand-requires-clause-bench : goal.add_hand-requires-clause-bench
add_hand-requires-clause-bench g c =
    let v = view c.args.pass.now in
    let of = IsHelper c.args.pool.now.rack.now v.terms.plan v.seen in
    (all_head of c.in-Some.helper (into_iter_items c.next.new.self) (subst (All of) c.in-Some.ensures.steps.0 c.loop-helper.invariant.helpers)).bench

pub add_hand-requires-clause-machine : goal.add_hand-requires-clause-machine
add_hand-requires-clause-machine g c =
    let v = view c.args.pass.now in
    let of = IsHelper c.args.pool.now.rack.now v.terms.plan v.seen in
    let helper = all_head of c.in-Some.helper (into_iter_items c.next.new.self) (subst (All of) c.in-Some.ensures.steps.0 c.loop-helper.invariant.helpers) in
    subst (λ (w : View _). StandsFor c.in-Some.helper.1 w.terms.plan w.seen) (sym c.loop-helper.invariant.lent) helper.machine

pub loop-helper-preserved : goal.loop-helper-preserved
loop-helper-preserved g c =
    let at = c.loop-helper in
    let i = at.invariant in
    let x = c.in-Some.helper in
    let rest = into_iter_items c.next.new.self in
    let steps : into_iter_items at.helper-iterator ≡ x ∷ rest = c.in-Some.ensures.steps.0 in
    let was = i.len in
    let count = i.count in
    let low = i.low in
    let gone = c.in-Some.ensures.steps.1 in
    let short = ap length steps in
    let longer = c.add_hand.ensures.count in
    let room = i.room in
    let kept = c.add_hand.ensures.room in
    let v = view c.args.pass.now in
    let of = IsHelper c.args.pool.now.rack.now v.terms.plan v.seen in
    record {
      len = omega (arith, was, gone, short);
      count = omega (arith, count, short);
      low = omega (arith, low);
      number = omega (arith, longer);
      helpers = all_rest of x rest (subst (All of) steps i.helpers);
      room = omega (arith, room, kept);
      pass = c.add_hand.ensures.pass;
      lent = lent_on v (view at.pass) (view c.add_hand.new.pass) i.lent c.add_hand.ensures.lent;
      head = c.add_hand.ensures.head;
      hands = c.add_hand.ensures.hands;
    }

use Rattle.std.proofs.Common.{◌≡◌, ◌∷◌, ◌∙◌, length, ap, sym, subst, arith}
use Rattle.std.specs.Prelude.{All}
use Rattle.std.specs.Vec.Iter.{into_iter_items}
use Rattle.std.proofs.lemmas.List.{length_push}
use Rattle.gcd_machine.specs.Stands.{StandsFor}
use Rattle.gcd_steal.specs.Racks.{IsBenchOf}
use Rattle.gcd_workers.specs.Teams.{IsHelper}
use Rattle.gcd_workers.proofs.Hires.{all_head, all_push, all_rest}
use Rattle.gcd_workers.proofs.room.helpers_of.Goals as goal

pub loop-bench-preserved : goal.loop-bench-preserved
loop-bench-preserved c =
    let at = c.loop-bench in
    let i = at.invariant in
    let x = c.in-Some.bench in let copy = c.in_ok-copy.copy in
    let rest = into_iter_items c.next.new.self in
    let steps : into_iter_items at.bench-iterator ≡ x ∷ rest = c.in-Some.ensures.steps.0 in
    let was = i.len in
    let count = i.count in
    let gone = c.in-Some.ensures.steps.1 in
    let short = ap length steps in
    let longer = ap length c.in_ok-push.ensures.items ∙ length_push at.helpers.items (x, copy) in
    record {
      len = omega (arith, was, gone, short);
      count = omega (arith, count, short, longer);
      benches = λ rack all. all_rest (IsBenchOf rack) x rest (subst (All (IsBenchOf rack)) steps (i.benches rack all));
      helpers = λ rack plan h all stands.
          subst (All (IsHelper rack plan h)) (sym c.in_ok-push.ensures.items)
          (all_push (IsHelper rack plan h) at.helpers.items (x, copy) (i.helpers rack plan h all stands) (record {
            bench = all_head (IsBenchOf rack) x rest (subst (All (IsBenchOf rack)) steps (i.benches rack all));
            machine = subst (λ m. StandsFor m plan h) (sym c.in_ok-copy.ensures) stands;
          }));
    }

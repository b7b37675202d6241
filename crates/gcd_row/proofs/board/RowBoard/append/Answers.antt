use Rattle.std.proofs.Common.{arith, ◌≡◌, ◌∷◌, [], ◌++◌, List, suc, add-one, sym, ap, subst, ◌∙◌, take}
use Rattle.gcd_event.specs.declared.event.Event.{Event}
use Rattle.gcd_row.specs.Passes.{view}
use Rattle.gcd_row.proofs.board.RowBoard.append.Goals as goal

pub loop-i-preserved : goal.loop-i-preserved
loop-i-preserved g c =
    let i = c.loop-i.invariant in
    let h = (view c.args.pass.now).seen in
    let e = c.entry_at-e.ensures in
    let n = c.loop-i.i in
    let next : take (suc n) h ≡ take n h ++ c.entry_at-e.result ∷ [] = subst (λ (l : List Event). take (suc n) l ≡ take n l ++ c.entry_at-e.result ∷ []) (ap (λ v. v.seen) i.same) e.event in
    record {
      low = omega (arith, i.low);
      high = omega arith;
      of = e.pass;
      kept = e.slots ∙ i.kept;
      same = e.view ∙ i.same;
      read = c.push_reserved.ensures.items ∙ ap (λ (l : List Event). l ++ c.entry_at-e.result ∷ []) i.read ∙ sym (rw add-one next);
      room = c.push_reserved.ensures.capacity ∙ i.room;
    }

use Rattle.std.proofs.Common.{arith, ◌≡◌, ◌∷◌, [], ℕ, false, set, get_or, get_or-set_other, add-one, sym, ap, subst, ◌∙◌, ◌++◌}
use mathlib.Core.Logic.{dite}
use native.Mathlib.Decide.{ℕ_discrete}
use Rattle.std.specs.Mem.Slots.{slots_items, slots_filled}
use Rattle.gcd_row.proofs.Ending.{take_next, set_false}
use Rattle.gcd_row.proofs.closing.take_all.Goals as goal

pub loop-k-preserved : goal.loop-k-preserved
loop-k-preserved g c =
    let i = c.loop-k.invariant in let k = c.loop-k.k in let o = c.take.ensures.others in
    let old : _ = slots_filled c.loop-k.closed.slots in
    let f = o.1 in
    record {
      full = λ j le lt. ap (λ l. get_or l j false) f ∙ get_or-set_other old k j false false (λ e. omega arith) ∙ i.full j (omega arith) (omega (arith, o.2));
      none = λ j lt. ap (λ l. get_or l j false) f ∙ dite (ℕ_discrete j k) (λ e. subst (λ (n : ℕ). get_or (set old k false) n false ≡ false) (sym e) (set_false old k)) (λ ne. get_or-set_other old k j false false ne ∙ i.none j (omega arith));
      same = (o.0 ∙ i.same.0, o.2 ∙ i.same.1);
      taken = c.push_reserved.ensures.items ∙ ap (λ l. l ++ c.take.result ∷ []) i.taken ∙ sym (rw add-one (take_next (slots_items c.args.closed.slots) k c.take.result (subst (λ l. lib.ListN.get_elem? l k ≡ mathlib.Core.Option.some c.take.result) i.same.0 c.take.ensures.value)));
      room = c.push_reserved.ensures.capacity ∙ i.room;
    }

use Rattle.std.proofs.Common.{◌≡◌, ◌<◌, ◌∙◌, ◌∷◌, [], ◌++◌, ℕ, suc, length, ap, sym, subst, refl, rules, arith}
use Rattle.std.specs.Vec.Iter.{into_iter_items}
use Rattle.std.proofs.lemmas.List.{length_push}
use Rattle.gcd_row.specs.Passes.{view}
use Rattle.gcd_row.specs.declared.view.Standing.TheVariants.{Back}
use Rattle.gcd_workers.specs.Teams.{EachFrom, IsHead, IsPassAt}
use Rattle.gcd_workers.proofs.Heads.{head_back}
use Rattle.gcd_workers.proofs.Places.{each_first, each_rest, each_tail}
use Rattle.gcd_workers.proofs.gather.take_all.Goals as goal

pub loop-hand-init : goal.loop-hand-init
loop-hand-init g c =
    let P = IsPassAt g.S.Slot.shape g.S.Slot.gives c.args.board.now in
    let left = c.into_iter-hand-iterator.ensures.into_iter_gives.0 ∙ c.remove-pass.ensures.items in
    record {
      len = search rules;
      count = search rules;
      each = subst (EachFrom P 1) (sym left) (each_tail P c.args.hands.items c.requires.hands);
      pass = search rules;
      head = search rules;
      seen = refl;
      handed = refl;
      ended = search rules;
      gathered = search rules;
    }

pub take_in-requires-clause-hand : goal.take_in-requires-clause-hand
take_in-requires-clause-hand g c =
    let at = c.loop-hand in
    let i = at.invariant in
    let P = IsPassAt g.S.Slot.shape g.S.Slot.gives c.args.board.now in
    let n = suc (length at.yielded) in
    let x = c.in-Some.hand in
    let rest = into_iter_items c.next.new.self in
    let steps : into_iter_items at.hand-iterator ≡ x ∷ rest = c.in-Some.ensures.steps.0 in
    (each_first P n x rest (subst (EachFrom P n) steps i.each)).pass

pub loop-hand-preserved : goal.loop-hand-preserved
loop-hand-preserved g c =
    let at = c.loop-hand in
    let i = at.invariant in
    let P = IsPassAt g.S.Slot.shape g.S.Slot.gives c.args.board.now in
    let n = suc (length at.yielded) in
    let all = length c.args.hands.items in
    let x = c.in-Some.hand in
    let rest = into_iter_items c.next.new.self in
    let steps : into_iter_items at.hand-iterator ≡ x ∷ rest = c.in-Some.ensures.steps.0 in
    let here = subst (EachFrom P n) steps i.each in
    let own = each_first P n x rest here in
    let was = i.len in
    let count = i.count in
    let gone = c.in-Some.ensures.steps.1 in
    let short = ap length steps in
    let long = length_push at.yielded x in
    let place : suc (length (at.yielded ++ x ∷ [])) ≡ suc n = omega (arith, long) in
    let low : n < all = omega (arith, count, short) in
    let hands = c.take_in.ensures.hands ∙ ap (λ (w : ℕ). (w, Back) ∷ (view at.pass).hands) own.worker in
    record {
      len = omega (arith, was, gone, short);
      count = omega (arith, count, long, short);
      each = subst (λ (m : ℕ). EachFrom P m rest) (sym place) (each_rest P n x rest here);
      pass = c.take_in.ensures.pass;
      head = subst (λ (m : ℕ). IsHead m all (view c.take_in.new.pass)) (sym place)
          (head_back n all (view at.pass) (view c.take_in.new.pass) low i.head c.take_in.ensures.worker hands);
      seen = c.take_in.ensures.seen ∙ i.seen;
      handed = c.take_in.ensures.handed ∙ i.handed;
      ended = i.ended;
      gathered = c.take_in.ensures.gathered _ i.gathered;
    }

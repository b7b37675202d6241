use Rattle.std.proofs.Common.{◌∙◌, ◌<◌, ◌≤◌, length, set, sym, subst, refl, arith}
use borrow.Author.Count.{below_more}
use Rattle.std.specs.Prelude.{slice_index_or}
use Rattle.std.proofs.lemmas.List.{get_or-set_same, get_or-set_other, get_or_default}
use Rattle.gcd_pool.specs.Hands.{IsHandOf, Served}
use Rattle.gcd_pool.specs.declared.hand.Hand.{Hand}
use Rattle.gcd_pool.proofs.run.see_the_rest.Goals as goal

pub loop-k-init : goal.loop-k-init
loop-k-init g c = (λ j d from. refl, λ j d from below. absurd (omega arith), λ d. refl)

pub see_the_end-requires : goal.see_the_end-requires
see_the_end-requires g c =
    let d = c.index-hands-k.result in
    subst (λ (h : Hand g.row.S.Denot). IsHandOf g.S.Slot.shape g.S.Slot.gives c.args.pool.now h) (sym (c.loop-k.invariant.0 c.loop-k.k d (omega arith))) (c.requires c.loop-k.k d (omega arith))

pub loop-k-preserved : goal.loop-k-preserved
loop-k-preserved g c =
    let k = c.loop-k.k in let xs = c.args.hands.now in let ys = c.loop-k.hands in let y = c.see_the_end.new.hand in
    let R : Hand g.row.S.Denot → Hand g.row.S.Denot → Type 0 = Served g.S.Slot.shape g.S.Slot.gives c.args.pool.now in
    let l : k < length ys = omega arith in (
      λ j d h. get_or-set_other ys k j y d (λ e. omega arith) ∙ c.loop-k.invariant.0 j d (omega arith),
      λ j d from h. below_more (λ i. 1 ≤ i → R (slice_index_or xs i d) (slice_index_or (set ys k y) i d)) k
          (λ i u low. subst (R (slice_index_or xs i d)) (sym (get_or-set_other ys k i y d (λ e. omega arith))) (c.loop-k.invariant.1 i d low u))
          (λ low. subst (R (slice_index_or xs k d)) (sym (get_or-set_same ys k y d l))
          (subst (λ x. R x y) (get_or_default ys k _ d l ∙ c.loop-k.invariant.0 k d (omega arith)) c.see_the_end.ensures))
          j h from,
      λ d. get_or-set_other ys k 0 y d (λ e. omega arith) ∙ c.loop-k.invariant.2 d,
    )

pub returns-clause-first : goal.returns-clause-first
returns-clause-first g c = c.loop-k.invariant.2

pub returns-clause-rest : goal.returns-clause-rest
returns-clause-rest g c = λ k d from low. c.loop-k.invariant.1 k d from (omega arith)

use Rattle.std.proofs.Common.{◌≡◌, ◌∙◌, ◌<◌, ◌≤◌, List, ap, arith, subst, take, ⊎_elim}
use Rattle.std.specs.Prelude.{slice_get, slice_index_or, slice_set}
use Rattle.std.proofs.lemmas.Bool.{cases_lt}
use Rattle.std.proofs.lemmas.List.{set-get_or}
use Rattle.std.proofs.lemmas.Option.{slice_get_within}
use Rattle.gcd_front.specs.Fronts.{IsSettled}
use Rattle.gcd_front.specs.Views.{LeftView}
use Rattle.gcd_front.proofs.Lefts.{at_place, settled, with_next}
use Rattle.gcd_front.proofs.intake.Intake.settle_all.Goals as goal

pub loop-place-preserved : goal.loop-place-preserved
loop-place-preserved g c =
    let first = c.args.self.now in
    let lefts = c.args.lefts.now in
    let place = c.loop-place.place in
    let was = c.loop-place.invariant in
    let d = c.index-lefts-place.result in
    let one = slice_index_or c.loop-place.lefts place d in
    let here : one ≡ slice_index_or lefts place d = ap (λ (l : List (LeftView g.row.S.Denot)). slice_index_or l place d) was.lefts in
    record {
      lefts = ap (λ (l : LeftView g.row.S.Denot). slice_set c.loop-place.lefts place l) c.settle.ensures.left ∙ set-get_or c.loop-place.lefts place d ∙ was.lefts;
      intake = c.settle.ensures.intake ∙ with_next first c.loop-place.self lefts place d one was.intake c.loop-place-test.true here;
      settled = λ k x low at.
          ⊎_elim
          (λ (early : k < place). was.settled k x early at)
          (λ (late : place ≤ k).
          let same : place ≡ k = omega (arith, low, late) in
          let is = here ∙ at_place lefts place x (ap (slice_get lefts) same ∙ at) d in
          subst (λ (l : LeftView g.row.S.Denot). IsSettled first l) is
          (settled first c.loop-place.self one (take place lefts) was.intake c.settle.ensures.begins c.settle.ensures.only))
          (cases_lt k place);
    }

pub returns-clause-settled : goal.returns-clause-settled
returns-clause-settled g c = λ k l at.
    let within = slice_get_within c.args.lefts.now k l at in
    let past = c.loop-place-test.false in
    c.loop-place.invariant.settled k l (omega (arith, within, past)) at

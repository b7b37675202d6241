use Rattle.std.proofs.Common.{◌∙◌, ◌≡◌, ◌∷◌, ◌++◌, [], length, ap, arith, sym}
use Rattle.std.proofs.lemmas.List.{append-nil, append_assoc, length_push}
use Rattle.gcd_front.specs.Views.{left_of}
use Rattle.gcd_workers.specs.CalledRuns.{lefts_of}
use Rattle.gcd_workers.proofs.Lefts.{none_before}
use Rattle.gcd_workers.proofs.callers.shut_all.Goals as goal

pub loop-shut-init : goal.loop-shut-init
loop-shut-init g c = record {
  mouths = c.requires.mouths;
  of_front = λ k d low. let none = ap length c.requires.none in absurd (omega (arith, none, low));
  count = omega arith;
  room = let none = ap length c.requires.none in omega (arith, none, c.requires.room);
  done = [];
  all = append-nil c.args.mouths.now.items;
  left = c.requires.none;
}

pub shut_last-requires-clause-some : goal.shut_last-requires-clause-some
shut_last-requires-clause-some g c = let count = c.loop-shut.invariant.count in omega (arith, count)

pub shut_last-requires-clause-mouths : goal.shut_last-requires-clause-mouths
shut_last-requires-clause-mouths g c = c.loop-shut.invariant.mouths

pub shut_last-requires-clause-of_front : goal.shut_last-requires-clause-of_front
shut_last-requires-clause-of_front g c = c.loop-shut.invariant.of_front

pub shut_last-requires-clause-room : goal.shut_last-requires-clause-room
shut_last-requires-clause-room g c = c.loop-shut.invariant.room

pub loop-shut-preserved : goal.loop-shut-preserved
loop-shut-preserved g c =
    let was = c.loop-shut.invariant in
    let shut = c.shut_last.ensures.shut in
    let count = was.count in
    let long = ap length shut.last ∙ length_push c.shut_last.new.mouths.items shut.mouth in
    record {
      mouths = c.shut_last.ensures.mouths;
      of_front = c.shut_last.ensures.of_front;
      count = omega (arith, count, long);
      room = c.shut_last.ensures.room;
      done = shut.mouth ∷ was.done;
      all = sym (append_assoc c.shut_last.new.mouths.items (shut.mouth ∷ []) was.done) ∙ ap (λ l. l ++ was.done) (sym shut.last) ∙ was.all;
      left = shut.left ∙ ap (λ l. l ++ left_of shut.mouth ∷ []) was.left;
    }

pub returns-clause-lefts : goal.returns-clause-lefts
returns-clause-lefts g c =
    let was = c.loop-shut.invariant in
    let count = was.count in
    let none : length c.loop-shut.mouths.items ≡ 0 = omega (arith, count) in
    was.left ∙ ap lefts_of (none_before c.loop-shut.mouths.items was.done c.args.mouths.now.items none was.all)

pub returns-clause-of_front : goal.returns-clause-of_front
returns-clause-of_front g c = c.loop-shut.invariant.of_front

use Rattle.std.proofs.Common.{rules, ◌≡◌, ◌∙◌, ◌++◌, ap, arith, drop, length, subst, take, List, ℕ, []}
use Rattle.std.proofs.lemmas.List.{append-nil, drop_all, take_all}
use Rattle.std.proofs.lemmas.List.FromFn.{length-map-range_with_len}
use Rattle.gcd_front.specs.Views.{MouthView, mouth_of}
use Rattle.gcd_workers.specs.CalledRuns.{SendersStay, lefts_of}
use Rattle.gcd_workers.proofs.Lefts.{by_sender}
use Rattle.gcd_workers.proofs.callers.call_and_shut.Goals as goal

pub returns : goal.returns
returns g c =
    let f = c.args.front.now in
    let first : ℕ → MouthView g.row.X.Denot = λ s. mouth_of f.id s [] in
    let mouths = c.call.new.mouths in
    let items = c.args.mouths.now.items in
    let room = c.args.mouths.now.len in
    let same : length mouths ≡ length c.as_mut_slice.result.now = (search rules) in
    let many : length mouths ≡ length items = same ∙ ap length c.as_mut_slice.ensures.value in
    let len = c.as_mut_slice.ensures.len in
    let nothing_behind : drop (length mouths) items ≡ [] = drop_all (length mouths) items (omega (arith, many)) in
    let whole : take room (mouths ++ drop (length mouths) items) ≡ mouths =
    ap (λ (l : List (MouthView g.row.X.Denot)). take room (mouths ++ l)) nothing_behind ∙ ap (take room) (append-nil mouths) ∙ take_all room mouths (omega (arith, same, len)) in
    let stay : SendersStay items mouths =
    subst (λ (l : List (MouthView g.row.X.Denot)). SendersStay l mouths) c.as_mut_slice.ensures.value c.call.ensures.senders in
    record {
      mouths = mouths;
      count = many ∙ ap length c.requires.new.new ∙ length-map-range_with_len first 0 f.senders;
      by_sender = by_sender f items mouths c.requires.new.new many stay;
      called = c.call.ensures.called;
      left = c.shut_all.ensures.lefts ∙ ap lefts_of whole;
      of_front = c.shut_all.ensures.of_front;
    }

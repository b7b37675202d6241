use Rattle.std.proofs.Common.{◌≡◌, ◌∙◌, ℕ, [], List, length, ap, arith, subst}
use Rattle.std.proofs.lemmas.List.FromFn.{length-map-range_with_len}
use Rattle.std.proofs.lemmas.Option.{slice_get_within}
use Rattle.gcd_front.specs.Fronts.{AreSettled, IsTakenOf}
use Rattle.gcd_front.specs.Views.{LeftView, MouthView, mouth_of}
use Rattle.gcd_workers.specs.CalledRuns.{lefts_of}
use Rattle.gcd_workers.proofs.Lefts.{taken_of_each}
use Rattle.gcd_workers.proofs.jobs_input.JobsInput.run_beside.Goals as goal

pub run_beside-requires-clause-new : goal.run_beside-requires-clause-new
run_beside-requires-clause-new g c = λ lifetimes outlive.
    let f = c.in-Ok-new.front in
    let senders = c.in-Ok-new.ensures.front.1 in
    let first : ℕ → MouthView g.row.X.Denot = λ s. mouth_of f.id s [] in
    let many : length c.in-Ok-new.mouths.items ≡ f.senders = ap length c.in-Ok-new.ensures.mouths ∙ length-map-range_with_len first 0 f.senders in
    let room = c.in-Ok.ensures.capacity in
    record {
      of_front = c.in-Ok-new.ensures.of_front.0;
      new = c.in-Ok-new.ensures.mouths;
      none = c.in-Ok.ensures.items;
      enough = omega (arith, senders, many, room);
    }

pub returns-clause-ran : goal.returns-clause-ran
returns-clause-ran g c =
    let f = c.in-Ok-new.front in
    let have = c.run_beside.ensures.called in
    let senders = c.in-Ok-new.ensures.front.1 in
    let i = c.run_beside.new.ends.intake in
    let all : AreSettled i (lefts_of have.mouths) =
    subst (λ (l : List (LeftView g.row.X.Denot)). AreSettled i l) (c.as_mut_slice.ensures.value ∙ have.left) c.settle_all.ensures.settled in
    record {
      front = f;
      intake = i;
      mouths = have.mouths;
      of_front = senders;
      count = have.count ∙ senders;
      runs = c.in_ok-ran.ensures.ran;
      by_sender = have.by_sender;
      called = have.called;
      taken = λ k m at.
          let own = have.by_sender k m at in
          let low = slice_get_within have.mouths k m at in
          let count = have.count in
          subst (λ (s : ℕ). IsTakenOf f i s m.sent) own (taken_of_each f i have.mouths all k m at (omega (arith, own, low, count)));
    }

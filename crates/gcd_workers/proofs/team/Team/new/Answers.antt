use Rattle.std.proofs.Common.{◌≡◌, ◌∙◌, ◌+◌, ℕ, None, length, ap, sym, subst, arith}
use Rattle.std.specs.Prelude.{slice_index_or}
use Rattle.gcd_row.specs.Passes.{IsGathered, view}
use Rattle.gcd_row.specs.Views.{held_run}
use Rattle.gcd_row.specs.declared.view.View.{View}
use Rattle.gcd_workers.specs.Teams.{EachFrom, HasLent, IsHead, IsReadyAt}
use Rattle.gcd_workers.proofs.Heads.{head_first}
use Rattle.gcd_workers.proofs.Hires.{first_has, pass_has}
use Rattle.gcd_workers.proofs.Places.{each_front}
use Rattle.gcd_workers.proofs.team.Team.new.Goals as goal

pub add_hands-requires-clause-head : goal.add_hands-requires-clause-head
add_hands-requires-clause-head g c = head_first (view c.args.pass) c.requires.new.worker c.requires.new.hands

pub hand-requires-clause-none : goal.hand-requires-clause-none
hand-requires-clause-none g c = subst (λ (v : View _). held_run v ≡ None) (sym c.add_hands.ensures.lent) c.requires.new.held

pub hand-requires-clause-gathered : goal.hand-requires-clause-gathered
hand-requires-clause-gathered g c = λ zero. subst (λ (v : View _). IsGathered v c.args.journal.items) (sym c.add_hands.ensures.lent) c.requires.journal

pub unreachable-requires : goal.unreachable-requires
unreachable-requires g c =
    let full = c.in-Err.ensures.full in
    let room = c.requires.room.capacity in
    let same = c.add_hands.ensures.room in
    let many = c.requires.room.count in
    let count = c.add_hands.ensures.count in
    omega (arith, full, room, same, many, count)

pub returns-clause-count : goal.returns-clause-count
returns-clause-count g c =
    let long = ap length c.in-Ok.ensures.items in
    let count = c.add_hands.ensures.count in
    let many = c.requires.room.count in
    omega (arith, long, count, many)

pub returns-clause-team : goal.returns-clause-team
returns-clause-team g c =
    let hand = c.hand.result in
    let items = c.in-Ok.ensures.items in
    let parts = c.hand.ensures.parts.0 in
    let helpers = length c.args.room.helpers.items in
    let many : helpers + 1 ≡ length c.insert.new.self.items =
    let long = ap length items in let count = c.add_hands.ensures.count in omega (arith, long, count) in
    record {
      hands = subst (EachFrom (IsReadyAt g.S.Slot.shape g.S.Slot.gives c.args.pool.now) 0) (sym items)
          (each_front (IsReadyAt g.S.Slot.shape g.S.Slot.gives c.args.pool.now) c.add_hands.new.hands.items hand
          (record { ready = c.hand.ensures.ready; worker = ap (λ p. (view p).worker) parts ∙ c.add_hands.ensures.head.worker })
          c.add_hands.ensures.hands);
      head = λ d.
          subst (λ (n : ℕ). IsHead 1 n (view (slice_index_or c.insert.new.self.items 0 d).pass)) many
          (first_has (λ hand. IsHead 1 (helpers + 1) (view hand.pass)) d items
          (pass_has (IsHead 1 (helpers + 1)) hand parts c.add_hands.ensures.head));
    }

pub returns-clause-begun : goal.returns-clause-begun
returns-clause-begun g c = λ d.
    first_has (λ hand. HasLent (view c.args.pass) (view hand.pass)) d c.in-Ok.ensures.items
    (pass_has (HasLent (view c.args.pass)) c.hand.result c.hand.ensures.parts.0 c.add_hands.ensures.lent)

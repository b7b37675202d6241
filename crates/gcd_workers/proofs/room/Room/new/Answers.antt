use Rattle.std.proofs.Common.{arith}
use Rattle.gcd_steal.specs.Racks.{IsBenchOf}
use Rattle.gcd_workers.proofs.Hires.{all_after, all_first}
use Rattle.gcd_workers.proofs.room.Room.new.Goals as goal

pub returns : goal.returns
returns g c = λ rack plan h all stands.
    let fewer = c.remove-first.ensures.len in
    let many = c.in_ok-helpers.ensures.count in
    let long = c.len-count.ensures in
    let room = c.in_ok-hands.ensures.capacity in
    record {
      first = all_first (IsBenchOf rack) c.args.benches.items c.remove-first.result c.requires c.remove-first.ensures.value all;
      helpers = c.in_ok-helpers.ensures.helpers rack plan h
          (all_after (IsBenchOf rack) c.args.benches.items c.remove-first.new.self.items (omega (arith, fewer)) c.remove-first.ensures.by_index.1 all) stands;
      count = omega (arith, many, fewer);
      none = c.in_ok-hands.ensures.items;
      capacity = omega (arith, room, long);
    }

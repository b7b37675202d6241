use Rattle.std.proofs.Common.{rules, ◌≡◌, ◌∙◌, true, false, Some, None, sym, refl}
use Rattle.std.specs.List.{slice_get}
use Rattle.std.proofs.lemmas.Option.{slice_get_read}
use Rattle.gcd_outer.specs.declared.limits.TheConstants.{MAX_FEEDS}
use Rattle.gcd_system.specs.declared.slot.Slot.{Slot}
use Rattle.gcd_system.specs.Slots.{is_there}
use Rattle.gcd_system.proofs.SlotLemmas.{lookup-found, read-slot, read-then_none}
use Rattle.gcd_system.proofs.slots.Slots.accept.Goals as goal

pub loop-preserved : goal.loop-preserved
loop-preserved c =
    let old : Slot = c.index_mut.result.now in
    let found : slice_get c.loop.self.slots.items c.in-Some.feed ≡ Some old =
    slice_get_read c.loop.self.slots.items MAX_FEEDS c.in-Some.feed old (search rules) (search rules) c.index_mut.ensures.value in
    let there : is_there old.source ≡ true =
    sym (lookup-found (λ (s : Slot). is_there s.source) false c.loop.self.slots.items c.in-Some.feed old found) ∙ c.in-Some.ensures.watched in
    read-then_none _ _ _ _ c.loop.invariant (read-slot c.loop.self.slots.items c.in-Some.feed old _ None found (sym there) refl)

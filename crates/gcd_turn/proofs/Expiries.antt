-- What a machine answers of waits that may expire is put.
use Rattle.std.proofs.Common.{◌≡◌, ℕ, Bool, true, false, List, Some, length, map, reverse, refl}
use Rattle.std.specs.List.{range_with_len}
use Rattle.gcd_plan.specs.PlanView.{PlanView}
use Rattle.gcd_event.specs.declared.event.Event.{Event}
use Rattle.gcd_event.specs.declared.event.Event.TheVariants.{Expire}
use Rattle.gcd_history.specs.Choice.{expire_event}
use Rattle.gcd_history.specs.History.{expiry_of}
use Rattle.gcd_history.specs.Permitted.{permitted}
use Rattle.gcd_history.proofs.Lists.{all_map, found_passes}
use Rattle.gcd_outer.specs.Tells.{PollerState}
use Rattle.gcd_turn.specs.Asked.{HasNotFailed, IsPut}

abbrev is_expire : Event → Bool
is_expire (Expire b) = true
is_expire _ = false

expiry_is : (plan : PlanView) (h : List Event) (e : Event) → expiry_of plan h ≡ Some e → is_expire e ≡ true
unfolding expiry_of
expiry_is plan h e found =
    let blocks : List ℕ = range_with_len 0 (length plan.blocks) in
    (found_passes (permitted plan (reverse h)) is_expire (map expire_event blocks) e found (all_map is_expire expire_event blocks (λ n. refl))).1

put_from : (plan : PlanView) (h : List Event) (start present : ℕ) (p q : PollerState) (e : Event) → is_expire e ≡ true
    → expiry_of plan h ≡ Some e → HasNotFailed p q → IsPut plan h start present p q e
put_from plan h start present p q (Expire b) is found same = (found, same)
put_from plan h start present p q e is found same = cc

pub expiry_is_put : (plan : PlanView) (h : List Event) (start present : ℕ) (p q : PollerState) (e : Event)
    → expiry_of plan h ≡ Some e → HasNotFailed p q → IsPut plan h start present p q e
expiry_is_put plan h start present p q e found same = put_from plan h start present p q e (expiry_is plan h e found) found same

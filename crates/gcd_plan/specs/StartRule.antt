-- When a waiting block may start, and a handler may run, over plain data: whatever tells which objects are free, which
-- exclude, and beneath which a run is open (dispatch_async(3), dispatch_suspend(3), dispatch_barrier_async(3)).
use Rattle.std.specs.Prelude.{ℕ, Bool, not, ◌&&◌, ◌||◌, if◌then◌else◌, List, [], ◌∷◌, Option, Some, None}
use Rattle.std.specs.List.{list_any}
use Rattle.gcd_plan.specs.declared.why.Why.{Why}
use Rattle.gcd_plan.specs.declared.why.Why.TheVariants.{Behind, NotFree, Excluded, Fenced}

-- the first reason whose test is true
abbrev pub first_of : List (Why × Bool) → Option Why
first_of [] = None
first_of (reason ∷ reasons) = if reason.1 then Some reason.0 else first_of reasons

-- what is known of the objects at a moment, by number
pub record Knowledge : Type 0 where
  pub is_free : ℕ → Bool
  pub is_exclusive : ℕ → Bool
  pub is_open_beneath : ℕ → Bool

-- an object of the chain is not free: inactive, suspended or about to move
abbrev pub is_held : Knowledge → List ℕ → Bool
is_held k chain = list_any (λ o. not (k.is_free o)) chain

-- a run is open beneath a serial queue or source of the chain
abbrev pub is_excluded : Knowledge → List ℕ → Bool
is_excluded k chain = list_any (λ o. k.is_exclusive o && k.is_open_beneath o) chain

-- a barrier is open on the node, or the block is a barrier and a run is open there; on root and on serial queues a
-- barrier is a plain block
abbrev pub is_fenced : (has_barriers barrier_open barrier run_open : Bool) → Bool
is_fenced has_barriers barrier_open barrier run_open = has_barriers && (barrier_open || (barrier && run_open))

-- why a block that is submitted and not started may not start, each reason with its test, in order
abbrev pub start_reasons : Knowledge → (chain : List ℕ) → (behind fenced : Bool) → List (Why × Bool)
start_reasons k chain behind fenced =
    (Behind, behind) ∷ (NotFree, is_held k chain) ∷ (Excluded, is_excluded k chain) ∷ (Fenced, fenced) ∷ []

-- why the handler of a source to which something is pending may not run, each reason with its test, in order
abbrev pub run_reasons : Knowledge → (chain : List ℕ) → List (Why × Bool)
run_reasons k chain = (NotFree, is_held k chain) ∷ (Excluded, is_excluded k chain) ∷ []

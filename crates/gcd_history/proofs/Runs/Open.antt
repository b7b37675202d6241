-- Which runs are open, an event on.
use Rattle.std.proofs.Common.{◌≡◌, Bool, true, false, not, ◌&&◌, ◌||◌, List, [], ◌∷◌, ◌++◌, filter, refl, ap, sym, ◌∙◌, subst}
use Rattle.std.specs.List.{list_any}
use Rattle.std.proofs.lemmas.Bool.{eqb-true, eq-eqb}
use Rattle.std.proofs.lemmas.List.Folds.{list_any-append}
use Rattle.std.proofs.Math.Bool.{and-false}
use Rattle.gcd_plan.specs.declared.numbers.Run.{Run}
use Rattle.gcd_plan.specs.declared.numbers.Run.TheVariants.{Block, Source}
use Rattle.gcd_event.specs.declared.event.Event.{Event}
use Rattle.gcd_event.specs.declared.event.Event.TheVariants.{Start, Act as Acted, Wake, End, Deliver, DeliverEnd, Tick, Ready, FeedEnd, Misuse, Halt, Expire, Accept, Shut}
use Rattle.gcd_history.specs.Runs.{same_run, opens, open_runs, is_open}
use Rattle.gcd_history.proofs.Lists.{list_any-filter, none_passes}
use Rattle.gcd_plan.proofs.Quantifiers.{list_any_agree}

-- runs that pass the test are one
pub same_run-true : (r q : Run) → same_run r q ≡ true → r ≡ q
same_run-true (Block b) (Block c) h = ap (λ n. Block (record { 0 = n })) (eqb-true b.0 c.0 h)
same_run-true (Source s) (Source t) h = ap (λ n. Source (record { 0 = n })) (eqb-true s.0 t.0 h)
same_run-true (Block b) (Source t) h = cc
same_run-true (Source s) (Block c) h = cc

pub same_run-refl : (r : Run) → same_run r r ≡ true
same_run-refl (Block b) = eq-eqb b.0 b.0 refl
same_run-refl (Source s) = eq-eqb s.0 s.0 refl

pub same_run-sym : (r q : Run) → same_run r q ≡ same_run q r
same_run-sym r q =
    elim (same_run r q) as (λ v. same_run r q ≡ v → v ≡ same_run q r) [
      | true ↦ λ e. let same = same_run-true r q e in sym (subst (λ k. same_run k r ≡ true) same (same_run-refl r))
      | false ↦ λ e. elim (same_run q r) as (λ v. same_run q r ≡ v → false ≡ v) [
        | true ↦ λ f. let same = same_run-true q r f in sym e ∙ subst (λ k. same_run k q ≡ true) same (same_run-refl q)
        | false ↦ λ f. refl
      ] refl
    ] refl

-- the event ends the run
abbrev pub closes : Event → Run → Bool
closes (End w b) run = same_run (Block b) run
closes (DeliverEnd w s) run = same_run (Source s) run
closes _ run = false

never : (x : Bool) → (not x && x) ≡ false
never true = refl
never false = refl

swapped : (x y : Bool) → (x || (y || false)) ≡ (y || x)
swapped true true = refl
swapped true false = refl
swapped false true = refl
swapped false false = refl

-- one run is added
added : (runs : List Run) (new run : Run) → list_any (same_run run) (runs ++ new ∷ []) ≡ (same_run new run || list_any (same_run run) runs)
added runs new run = list_any-append (same_run run) runs (new ∷ []) ∙ (swapped (list_any (same_run run) runs) (same_run run new) ∙ ap (λ v. v || list_any (same_run run) runs) (same_run-sym run new))

-- no run is another than itself
other_than_itself : (gone run r : Run) → gone ≡ run → (not (same_run gone r) && same_run run r) ≡ false
other_than_itself gone run r same = subst (λ k. (not (same_run gone r) && same_run k r) ≡ false) same (never (same_run gone r))

-- what is one with the run is not the one that is gone
still_one : (gone run r : Run) → same_run gone run ≡ false → (not (same_run gone r) && same_run run r) ≡ same_run run r
still_one gone run r apart =
    elim (same_run run r) as (λ v. same_run run r ≡ v → (not (same_run gone r) && v) ≡ v) [
      | true ↦ λ e. let other : same_run gone r ≡ false = subst (λ k. same_run gone k ≡ false) (same_run-true run r e) apart in ap (λ v. not v && true) other
      | false ↦ λ e. and-false (not (same_run gone r))
    ] refl

-- one run is taken away
taken : (runs : List Run) (gone run : Run) → list_any (same_run run) (filter (λ r. not (same_run gone r)) runs) ≡ (not (same_run gone run) && list_any (same_run run) runs)
taken runs gone run =
    list_any-filter (same_run run) (λ r. not (same_run gone r)) runs
    ∙ elim (same_run gone run) as (λ v. same_run gone run ≡ v → list_any (λ r. not (same_run gone r) && same_run run r) runs ≡ (not v && list_any (same_run run) runs)) [
      | true ↦ λ e. list_any_agree (λ r. not (same_run gone r) && same_run run r) (λ r. false) runs (λ r. other_than_itself gone run r (same_run-true gone run e)) ∙ none_passes runs
      | false ↦ λ e. list_any_agree (λ r. not (same_run gone r) && same_run run r) (same_run run) runs (λ r. still_one gone run r e)
    ] refl

-- open: begun now, or open before and not ended now
pub is_open-step : (e : Event) (past : List Event) (run : Run) → is_open (e ∷ past) run ≡ (opens e run || (not (closes e run) && is_open past run))
is_open-step (Start w b) past run = added (open_runs past) (Block b) run
is_open-step (Acted w r i) past run = refl
is_open-step (Wake w b) past run = refl
is_open-step (End w b) past run = taken (open_runs past) (Block b) run
is_open-step (Deliver w s) past run = added (open_runs past) (Source s) run
is_open-step (DeliverEnd w s) past run = taken (open_runs past) (Source s) run
is_open-step (Tick t) past run = refl
is_open-step (Ready s n) past run = refl
is_open-step (FeedEnd s) past run = refl
is_open-step (Misuse w c r i) past run = refl
is_open-step Halt past run = refl
is_open-step (Expire b) past run = refl
is_open-step (Accept b s) past run = refl
is_open-step Shut past run = refl

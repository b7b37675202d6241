-- What the start rule says of the chain of a run that begins.
use Rattle.std.proofs.Common.{◌≡◌, ⊎_elim, ℕ, Bool, true, false, not, ◌&&◌, ◌==◌, List, [], ◌∷◌, Option, Some, None, option_and_then, option_map, ap, sym, ◌∙◌}
use Rattle.std.specs.List.{list_any}
use Rattle.std.specs.Option.{option_map_or}
use Rattle.std.proofs.lemmas.Bool.{eqb-true, or_cases, or_parts, not-false}
use Rattle.gcd_plan.specs.PlanView.{PlanView}
use Rattle.gcd_plan.specs.Chains.{is_in}
use Rattle.gcd_plan.specs.Kinds.{is_exclusive}
use Rattle.gcd_plan.specs.StartRule.{first_of, is_held, is_excluded}
use Rattle.gcd_plan.specs.declared.numbers.Blk.{Blk}
use Rattle.gcd_plan.specs.declared.numbers.Obj.{Obj}
use Rattle.gcd_plan.specs.declared.numbers.Run.{Run}
use Rattle.gcd_plan.specs.declared.numbers.Run.TheVariants.{Block, Source}
use Rattle.gcd_event.specs.declared.event.Event.{Event}
use Rattle.gcd_event.specs.declared.event.Event.TheVariants.{Start, Deliver}
use Rattle.gcd_history.specs.declared.submission.Submission.{Submission}
use Rattle.gcd_history.specs.Submitted.{submission_of}
use Rattle.gcd_history.specs.Tree.{chain, chain_of_run, is_open_beneath}
use Rattle.gcd_history.specs.Holds.{is_free}
use Rattle.gcd_history.specs.Permitted.{why, knowledge, node_reasons, waiting_reasons}
use Rattle.gcd_history.proofs.Permitted.Reasons.{at_start, at_deliver, waiting_facts}

-- what holds of none of the nodes does not hold of one of them
pub fails_in : (p : ℕ → Bool) (o : ℕ) (nodes : List ℕ) → is_in o nodes ≡ true → list_any p nodes ≡ false → p o ≡ false
fails_in p o [] i n = cc
fails_in p o (x ∷ nodes) i n =
    let parts = or_parts (p x) (list_any p nodes) n in
    ⊎_elim (λ here. ap p (sym (eqb-true x o here)) ∙ parts.0) (λ later. fails_in p o nodes later parts.1) (or_cases (x == o) (is_in o nodes) i)

pub free_in : (plan : PlanView) (past : List Event) (o : ℕ) (nodes : List ℕ) → is_held (knowledge plan past) nodes ≡ false → is_in o nodes ≡ true → is_free plan past o ≡ true
unfolding knowledge
free_in plan past o nodes held inside = not-false (is_free plan past o) (fails_in (λ n. not (is_free plan past n)) o nodes inside held)

pub apart_in : (plan : PlanView) (past : List Event) (o : ℕ) (nodes : List ℕ) → is_excluded (knowledge plan past) nodes ≡ false → is_in o nodes ≡ true → (is_exclusive plan o && is_open_beneath plan past o) ≡ false
unfolding knowledge
apart_in plan past o nodes excluded inside = fails_in (λ n. is_exclusive plan n && is_open_beneath plan past n) o nodes inside excluded

-- of a run that may begin: each object of its chain is free, and beneath none that excludes a run is open
pub record BeginsAlone (plan : PlanView) (past : List Event) (run : Run) : Type 0 where
  pub free : (o : ℕ) → is_in o (chain_of_run plan past run) ≡ true → is_free plan past o ≡ true
  pub apart : (o : ℕ) → is_in o (chain_of_run plan past run) ≡ true → (is_exclusive plan o && is_open_beneath plan past o) ≡ false

-- the nodes of a block that was submitted so
abbrev nodes_by : PlanView → List Event → Option Submission → List ℕ
nodes_by plan past o = option_map_or (chain plan past) (option_map (λ k. k.0) (option_and_then (λ s. s.node) o)) []

by_node : (plan : PlanView) (past : List Event) (s : Submission) (node : Option Obj) → first_of (option_map_or (λ q. waiting_reasons plan past s.blk.0 s.barrier q.0) node []) ≡ None →
    (o : ℕ) → is_in o (option_map_or (chain plan past) (option_map (λ k. k.0) node) []) ≡ true → (is_free plan past o ≡ true) × ((is_exclusive plan o && is_open_beneath plan past o) ≡ false)
by_node plan past s None h o inside = cc
by_node plan past s (Some q) h o inside =
    let facts = waiting_facts plan past s.blk.0 s.barrier q.0 h in
    (free_in plan past o (chain plan past q.0) facts.held inside, apart_in plan past o (chain plan past q.0) facts.excluded inside)

by_submission : (plan : PlanView) (past : List Event) (found : Option Submission) → first_of (node_reasons plan past found) ≡ None →
    (o : ℕ) → is_in o (nodes_by plan past found) ≡ true → (is_free plan past o ≡ true) × ((is_exclusive plan o && is_open_beneath plan past o) ≡ false)
by_submission plan past None h o inside = cc
by_submission plan past (Some s) h o inside = by_node plan past s s.node h o inside

pub start_begins_alone : (plan : PlanView) (past : List Event) (w : ℕ) (b : Blk) → why plan past (Start w b) ≡ None → BeginsAlone plan past (Block b)
start_begins_alone plan past w b h =
    let waits = (at_start plan past w b h).waits in
    record {
      free = λ o inside. (by_submission plan past (submission_of plan past b.0) waits o inside).0;
      apart = λ o inside. (by_submission plan past (submission_of plan past b.0) waits o inside).1;
    }

pub deliver_begins_alone : (plan : PlanView) (past : List Event) (w : ℕ) (s : Obj) → why plan past (Deliver w s) ≡ None → BeginsAlone plan past (Source s)
deliver_begins_alone plan past w s h =
    let facts = at_deliver plan past w s h in
    record {
      free = λ o inside. free_in plan past o (chain plan past s.0) facts.held inside;
      apart = λ o inside. apart_in plan past o (chain plan past s.0) facts.excluded inside;
    }

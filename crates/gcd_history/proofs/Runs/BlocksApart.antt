-- Blocks that were submitted on one node that excludes are not open at one moment.
use Rattle.std.proofs.Common.{◌≡◌, ℕ, true, List, [], ◌∷◌, ◌++◌, Some, option_and_then, option_map, ap, sym, ◌∙◌}
use Rattle.gcd_plan.specs.PlanView.{PlanView}
use Rattle.gcd_plan.specs.Kinds.{is_exclusive}
use Rattle.gcd_plan.specs.Validity.{IsPlan}
use Rattle.gcd_plan.specs.declared.numbers.Blk.{Blk}
use Rattle.gcd_plan.specs.declared.numbers.Obj.{Obj}
use Rattle.gcd_plan.specs.declared.numbers.Run.TheVariants.{Block}
use Rattle.gcd_event.specs.declared.event.Event.{Event}
use Rattle.gcd_history.specs.declared.submission.Submission.{Submission}
use Rattle.gcd_history.specs.Runs.{is_open}
use Rattle.gcd_history.specs.Submitted.{submission_of}
use Rattle.gcd_history.specs.Tree.{node_of_run}
use Rattle.gcd_history.specs.Permitted.{IsLawful}
use Rattle.gcd_plan.proofs.Options.{some_from_is_some}
use Rattle.gcd_history.proofs.Blocks.StartedOnce.{started_from_open, submitted_from_started, submission_of-kept}
use Rattle.gcd_history.proofs.Tree.MovesAlone.{beneath_own}
use Rattle.gcd_history.proofs.Runs.Alone.{runs_alone}

-- a submission stays, whatever comes later
kept_later : (plan : PlanView) (later past : List Event) (b : ℕ) (s : Submission) → submission_of plan past b ≡ Some s → submission_of plan (later ++ past) b ≡ Some s
kept_later plan [] past b s is = is
kept_later plan (e ∷ later) past b s is = submission_of-kept plan e (later ++ past) b s (kept_later plan later past b s is)

-- an open block has the node already that it has later
node_already : (plan : PlanView) (later past : List Event) (b : Blk) (q : Obj) → IsLawful plan past → is_open past (Block b) ≡ true
    → option_and_then (λ s. s.node) (submission_of plan (later ++ past) b.0) ≡ Some q → node_of_run plan past (Block b) ≡ Some q.0
node_already plan later past b q lawful live node =
    let s = some_from_is_some (submission_of plan past b.0) (submitted_from_started plan past lawful b.0 (started_from_open past b live)) in
    let same = s.1 ∙ sym (kept_later plan later past b.0 s.0 s.1) in
    ap (option_map (λ o. o.0)) (ap (option_and_then (λ t. t.node)) same ∙ node)

same_block : (a b : Blk) → Block a ≡ Block b → a ≡ b
same_block a b same = cc

pub blocks_apart : (plan : PlanView) (later past : List Event) (q : Obj) (a b : Blk) → IsPlan plan → IsLawful plan past → is_exclusive plan q.0 ≡ true
    → option_and_then (λ s. s.node) (submission_of plan (later ++ past) a.0) ≡ Some q → option_and_then (λ s. s.node) (submission_of plan (later ++ past) b.0) ≡ Some q
    → is_open past (Block a) ≡ true → is_open past (Block b) ≡ true → a ≡ b
blocks_apart plan later past q a b valid lawful alone a_node b_node a_live b_live =
    same_block a b (runs_alone plan past valid lawful q.0 (Block a) (Block b) alone a_live b_live
    (beneath_own plan past (Block a) q.0 valid (node_already plan later past a q lawful a_live a_node))
    (beneath_own plan past (Block b) q.0 valid (node_already plan later past b q lawful b_live b_node)))

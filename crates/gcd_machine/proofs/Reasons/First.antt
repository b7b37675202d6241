-- The first reason against an event, as what a machine keeps tells it, is the definition's.
use Rattle.std.proofs.Common.{◌≡◌, ℕ, ◌==◌, Bool, true, false, not, ◌||◌, cond, List, [], ◌∷◌, Option, Some, None, is_some, is_none, refl, ap, sym, ◌∙◌, subst}
use Rattle.std.specs.Option.{option_map_or}
use Rattle.gcd_plan.specs.PlanView.{PlanView}
use Rattle.gcd_plan.specs.StartRule.{Knowledge, first_of, run_reasons}
use Rattle.gcd_plan.specs.declared.numbers.Run.TheVariants.{Block, Source}
use Rattle.gcd_plan.specs.declared.why.Why.{Why}
use Rattle.gcd_plan.specs.declared.why.Why.TheVariants.{Over, NoSuch, Busy, Unready, NotOwn, NotNext, IsMisuse, NotParked, Waiting, NotDue, NotLive, NotMisuse, Came}
use Rattle.gcd_event.specs.declared.event.Event.{Event}
use Rattle.gcd_event.specs.declared.event.Event.TheVariants.{Start, Act as Acted, Wake, End, Deliver, DeliverEnd, Tick, Ready, FeedEnd, Misuse, Halt, Expire, Accept, Shut}
use Rattle.gcd_history.specs.Intake.{is_intake_open}
use Rattle.gcd_history.specs.Parked.{has_run, is_busy, is_parked}
use Rattle.gcd_history.specs.Sources.{is_pending, is_live_feed}
use Rattle.gcd_history.specs.Due.{is_at_limit, may_tick}
use Rattle.gcd_history.specs.Tree.{chain}
use Rattle.gcd_history.specs.Permitted.{is_halted, is_known, is_next, knowledge, reasons, why}
use Rattle.gcd_sync.specs.WaitsView.{reason_at}
use Rattle.gcd_tree.specs.TreeView.{chain_at}
use Rattle.gcd_drain.specs.Rule.{run_fault_of}
use Rattle.gcd_refinement.specs.MachineView.{MachineView}
use Rattle.gcd_refinement.specs.Stands.{IsTied}
use Rattle.gcd_machine.specs.Judged.{is_next_at, next_act_at, misuse_of_run, block_fault_at, source_fault_at, may_wake_at, is_at_limit_at, fault_at, why_by}
use Rattle.gcd_machine.proofs.Views.StartRule.{chain_is, knowledge_is}
use Rattle.gcd_machine.proofs.Reasons.Starts.{block_fault_is}
use Rattle.gcd_machine.proofs.Views.Waits.{parked_is, wake_is, limit_is, tick_is, is_pending_is}
use Rattle.gcd_machine.proofs.Reasons.Misuses.{misuse_at_is}
use Rattle.gcd_machine.proofs.Views.Workers.{own_is, busy_is, next_is, left_is, over_is}

-- ## Sources

run_fault_is : (plan : PlanView) (past : List Event) (v : MachineView) (s : ℕ) → IsTied plan past v
    → run_fault_of v.drains v.tree v.holds s ≡ first_of (run_reasons (knowledge plan past) (chain plan past s))
run_fault_is plan past v s tied =
    ap (λ (k : Knowledge). first_of (run_reasons k (chain_at v.tree s))) (knowledge_is plan past v tied.valid tied.lawful tied.parts tied.tree tied.holds)
    ∙ ap (λ c. first_of (run_reasons (knowledge plan past) c)) (chain_is plan past v s tied.parts tied.tree)

-- ## Each event

-- one test, turned round
turned : (a : Why) (u : Bool) → cond u None (Some a) ≡ first_of ((a, not u) ∷ [])
turned a true = refl
turned a false = refl

-- and what is told where it is met
ready_then : (a : Why) (u : Bool) (rest : List (Why × Bool)) → cond u (first_of rest) (Some a) ≡ first_of ((a, not u) ∷ rest)
ready_then a true rest = refl
ready_then a false rest = refl

-- what keeps the handler of a source from running on a worker without a run
pub source_fault_is : (plan : PlanView) (past : List Event) (v : MachineView) (s : ℕ) → IsTied plan past v
    → source_fault_at v s ≡ first_of ((Unready, not (is_pending plan past s)) ∷ run_reasons (knowledge plan past) (chain plan past s))
source_fault_is plan past v s tied =
    ap (λ u. cond u (run_fault_of v.drains v.tree v.holds s) (Some Unready)) (is_pending_is plan past v s tied.sources)
    ∙ (ap (λ o. cond (is_pending plan past s) o (Some Unready)) (run_fault_is plan past v s tied)
    ∙ ready_then Unready (is_pending plan past s) (run_reasons (knowledge plan past) (chain plan past s)))

pub fault_is : (m : MachineView) (past : List Event) (e : Event) → IsTied m.plan past m → fault_at m e ≡ first_of (reasons m.plan past e)
fault_is m past (Start w b) tied =
    ap (λ u. cond u (Some Busy) (block_fault_at m b.0)) (busy_is m.plan past m w tied.workers)
    ∙ ap (λ o. cond (is_busy m.plan past w) (Some Busy) o) (sym (block_fault_is m.plan past m b.0 tied))
fault_is m past (Acted w run i) tied =
    let own = own_is m.plan past m w run tied.workers in
    let next = next_is m past run i tied in
    let misused = misuse_at_is m past run i tied in
    ap (λ u. first_of ((NotOwn, not u) ∷ (NotNext, not (is_next_at m run i)) ∷ (IsMisuse, is_some (misuse_of_run m run i)) ∷ [])) own
    ∙ (ap (λ u. first_of ((NotOwn, not (has_run m.plan past w run)) ∷ (NotNext, not u) ∷ (IsMisuse, is_some (misuse_of_run m run i)) ∷ [])) next
    ∙ ap (λ o. first_of ((NotOwn, not (has_run m.plan past w run)) ∷ (NotNext, not (is_next m.plan past run i)) ∷ (IsMisuse, is_some o) ∷ [])) misused)
fault_is m past (Wake w b) tied =
    ap (λ u. first_of ((Busy, u) ∷ (NotParked, is_none (reason_at m.waits b.0)) ∷ (Waiting, not (may_wake_at m b.0)) ∷ [])) (busy_is m.plan past m w tied.workers)
    ∙ (ap (λ u. first_of ((Busy, is_busy m.plan past w) ∷ (NotParked, u) ∷ (Waiting, not (may_wake_at m b.0)) ∷ [])) (parked_is m.plan past m b.0 tied)
    ∙ ap (λ u. first_of ((Busy, is_busy m.plan past w) ∷ (NotParked, not (is_parked m.plan past b.0)) ∷ (Waiting, not u) ∷ [])) (wake_is m.plan past m b.0 tied))
fault_is m past (End w b) tied =
    ap (λ u. first_of ((NotOwn, not u) ∷ (NotNext, is_some (next_act_at m (Block b))) ∷ [])) (own_is m.plan past m w (Block b) tied.workers)
    ∙ ap (λ u. first_of ((NotOwn, not (has_run m.plan past w (Block b))) ∷ (NotNext, u) ∷ [])) (left_is m past (Block b) tied)
fault_is m past (Deliver w s) tied =
    ap (λ u. cond u (Some Busy) (source_fault_at m s.0)) (busy_is m.plan past m w tied.workers)
    ∙ ap (λ o. cond (is_busy m.plan past w) (Some Busy) o) (source_fault_is m.plan past m s.0 tied)
fault_is m past (DeliverEnd w s) tied =
    ap (λ u. first_of ((NotOwn, not u) ∷ (NotNext, is_some (next_act_at m (Source s))) ∷ [])) (own_is m.plan past m w (Source s) tied.workers)
    ∙ ap (λ u. first_of ((NotOwn, not (has_run m.plan past w (Source s))) ∷ (NotNext, u) ∷ [])) (left_is m past (Source s) tied)
fault_is m past (Tick t) tied = ap (λ u. cond u None (Some NotDue)) (tick_is m.plan past m t tied refl) ∙ turned NotDue (may_tick m.plan past t)
fault_is m past (Ready s n) tied = ap (λ u. cond u None (Some NotLive)) (tied.totals.live s.0) ∙ turned NotLive (is_live_feed m.plan past s.0)
fault_is m past (FeedEnd s) tied = ap (λ u. cond u None (Some NotLive)) (tied.totals.live s.0) ∙ turned NotLive (is_live_feed m.plan past s.0)
fault_is m past (Misuse w c run i) tied =
    let own = own_is m.plan past m w run tied.workers in
    let next = next_is m past run i tied in
    let misused = misuse_at_is m past run i tied in
    ap (λ u. first_of ((NotOwn, not u) ∷ (NotNext, not (is_next_at m run i)) ∷ (NotMisuse, not (option_map_or (λ code. code == c) (misuse_of_run m run i) false)) ∷ [])) own
    ∙ (ap (λ u. first_of ((NotOwn, not (has_run m.plan past w run)) ∷ (NotNext, not u) ∷ (NotMisuse, not (option_map_or (λ code. code == c) (misuse_of_run m run i) false)) ∷ [])) next
    ∙ ap (λ o. first_of ((NotOwn, not (has_run m.plan past w run)) ∷ (NotNext, not (is_next m.plan past run i)) ∷ (NotMisuse, not (option_map_or (λ code. code == c) o false)) ∷ [])) misused)
fault_is m past Halt tied = refl
fault_is m past (Expire b) tied =
    ap (λ u. first_of ((NotParked, u) ∷ (NotDue, not (is_at_limit_at m b.0)) ∷ (Came, may_wake_at m b.0) ∷ [])) (parked_is m.plan past m b.0 tied)
    ∙ (ap (λ u. first_of ((NotParked, not (is_parked m.plan past b.0)) ∷ (NotDue, not u) ∷ (Came, may_wake_at m b.0) ∷ [])) (limit_is m.plan past m b.0 tied)
    ∙ ap (λ u. first_of ((NotParked, not (is_parked m.plan past b.0)) ∷ (NotDue, not (is_at_limit m.plan past b.0)) ∷ (Came, u) ∷ [])) (wake_is m.plan past m b.0 tied))
fault_is m past (Accept b s) tied =
    ap (λ o. first_of ((NotLive, is_none o) ∷ (NotNext, not (option_map_or (λ c. c.0 == b.0) o false)) ∷ [])) tied.intake.next
fault_is m past Shut tied = ap (λ u. cond u None (Some NotLive)) tied.intake.is_open ∙ turned NotLive (is_intake_open m.plan past)

-- ## The whole

-- the two first tests
over_and_known : (a b w : Bool) (x y : Option Why) → a ≡ b → x ≡ y
    → cond a (Some Over) (cond w x (Some NoSuch)) ≡ cond b (Some Over) (cond (not w) (Some NoSuch) y)
over_and_known a b true x y same rest = ap (λ v. cond v (Some Over) x) same ∙ ap (λ o. cond b (Some Over) o) rest
over_and_known a b false x y same rest = ap (λ v. cond v (Some Over) (Some NoSuch)) same

own_why_is : (m : MachineView) (past : List Event) (e : Event) → IsTied m.plan past m → why_by m e ≡ why m.plan past e
own_why_is m past e tied =
    over_and_known (m.misused || m.halted) (is_halted past) (is_known m.plan e) (fault_at m e) (first_of (reasons m.plan past e))
    (over_is m.plan past m tied.totals) (fault_is m past e tied)

-- what is true of the machine's own plan is true of the plan that it is tied to
pub of_plan : (plan : PlanView) (past : List Event) (m : MachineView) → IsTied plan past m → IsTied m.plan past m
of_plan plan past m tied = subst (λ p. IsTied p past m) (sym tied.same_plan) tied

-- the first reason against an event, as what a machine keeps tells it
pub why_is : (plan : PlanView) (past : List Event) (m : MachineView) (e : Event) → IsTied plan past m → why_by m e ≡ why plan past e
why_is plan past m e tied = own_why_is m past e (of_plan plan past m tied) ∙ ap (λ p. why p past e) tied.same_plan

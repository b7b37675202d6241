-- The nodes on which events begin runs.
use Rattle.std.proofs.Common.{◌≡◌, ℕ, Bool, true, false, not, ◌==◌, cond, List, [], ◌∷◌, reverse, Option, Some, None, is_none, find, option_map, refl, ap, ◌∙◌, subst}
use Rattle.std.specs.List.{list_all}
use Rattle.std.specs.Option.{option_and_then, option_map_or, option_or}
use Rattle.std.proofs.lemmas.Bool.{and_parts, eq-eqb}
use Rattle.std.proofs.lemmas.Option.{same_Some}
use Rattle.gcd_plan.specs.PlanView.{PlanView}
use Rattle.gcd_plan.specs.Kinds.{is_node, is_source}
use Rattle.gcd_plan.specs.Validity.{IsPlan}
use Rattle.gcd_plan.specs.declared.numbers.Blk.{Blk}
use Rattle.gcd_plan.specs.declared.numbers.Obj.{Obj}
use Rattle.gcd_plan.proofs.Numbered.{on_node}
use Rattle.gcd_event.specs.declared.event.Event.{Event}
use Rattle.gcd_event.specs.declared.event.Event.TheVariants.{Start, Deliver}
use Rattle.gcd_history.specs.declared.submission.Submission.{Submission}
use Rattle.gcd_history.specs.Choice.{is_work, worker_of}
use Rattle.gcd_history.specs.Runs.{is_started}
use Rattle.gcd_history.specs.Submitted.{submitted, submission_of}
use Rattle.gcd_history.specs.Permitted.{first_waiting, is_on, is_worker, waits_on}
use Rattle.gcd_history.specs.History.{why, IsLawful, first_waiting_of, node_of}
use Rattle.gcd_history.proofs.Counts.{found_alone}
use Rattle.gcd_history.proofs.Permitted.Lawful.{lawful_after}
use Rattle.gcd_history.proofs.Lists.{found_is}
use Rattle.gcd_history.proofs.Permitted.Reasons.{allowed}
use Rattle.gcd_history.proofs.Blocks.SubmittedOnNodes.{on_a_node, source_is_node, submitted_fit}
use Rattle.gcd_history.proofs.Blocks.SubmittedOnce.{submitted_once}
use Rattle.gcd_machine.specs.Begins.{begin_of, deliver_of, if_permitted, start_of}
use Rattle.gcd_pool.specs.Duties.{begun_on}

-- ## The node is a queue or a source

found_fits : (plan : PlanView) (p : Submission → Bool) (xs : List Submission) (o : Obj) → list_all (on_a_node plan) xs ≡ true → option_and_then (λ s. s.node) (find p xs) ≡ Some o → is_node plan o.0 ≡ true
found_fits plan p [] o all is = cc
found_fits plan p (s ∷ xs) o all is =
    let parts = and_parts (on_a_node plan s) (list_all (on_a_node plan) xs) all in
    elim (p s) as (λ v. option_and_then (λ t. t.node) (cond v (Some s) (find p xs)) ≡ Some o → is_node plan o.0 ≡ true) [
      | true ↦ λ k. subst (λ (q : Option Obj). option_map_or (λ n. is_node plan n.0) q (s.blk.0 == 0) ≡ true) k parts.0
      | false ↦ λ k. found_fits plan p xs o parts.1 k
    ] is

pub begun_node : (plan : PlanView) (h : List Event) (e : Event) (o : Obj) → IsPlan plan → why plan h e ≡ None → begun_on plan h e ≡ Some o → is_node plan o.0 ≡ true
unfolding why node_of
begun_node plan h (Start w b) o valid may is = found_fits plan (λ s. s.blk.0 == b.0) (submitted plan (reverse h)) o (submitted_fit plan (reverse h) valid) is
begun_node plan h (Deliver w s) o valid may is =
    subst (λ (n : Obj). is_node plan n.0 ≡ true) (same_Some s o is) (source_is_node plan s.0 (and_parts (is_worker w) (is_source plan s.0) (allowed plan (reverse h) (Deliver w s) may).known).1)
begun_node plan h e o valid may is = absurd (cc)

-- ## What begins on a node

waiting_node : (plan : PlanView) (past : List Event) (n : ℕ) (s : Submission) → IsPlan plan → Rattle.gcd_history.specs.Permitted.IsLawful plan past → first_waiting plan past n ≡ Some s → option_and_then (λ t. t.node) (submission_of plan past s.blk.0) ≡ Some (record { 0 = n })
waiting_node plan past n s valid lawful found =
    let b = s.blk.0 in
    let waits = and_parts (is_on n s) (not (is_started past b)) (found_is (waits_on past n) (submitted plan past) s found) in
    let once = submitted_once plan past valid lawful b in
    let here : submission_of plan past b ≡ Some s = found_alone (waits_on past n) (λ t. t.blk.0 == b) (submitted plan past) s once found (eq-eqb b b refl) in
    ap (option_and_then (λ (t : Submission). t.node)) here ∙ on_node n s.node waits.0

-- the first block that waits on a node was submitted there
first_is_there : (plan : PlanView) (h : List Event) (n : ℕ) (b : Blk) → IsPlan plan → IsLawful plan h → first_waiting_of plan h n ≡ Some b → node_of plan h b.0 ≡ Some (record { 0 = n })
unfolding first_waiting_of node_of
first_is_there plan h n b valid lawful found = go (first_waiting plan (reverse h) n) refl found
  where
    go : (o : Option Submission) → first_waiting plan (reverse h) n ≡ o → option_map (λ s. s.blk) o ≡ Some b → option_and_then (λ t. t.node) (submission_of plan (reverse h) b.0) ≡ Some (record { 0 = n })
    go None at is = absurd (cc)
    go (Some s) at is =
        subst (λ (k : Blk). option_and_then (λ t. t.node) (submission_of plan (reverse h) k.0) ≡ Some (record { 0 = n })) (same_Some s.blk b is) (waiting_node plan (reverse h) n s valid (lawful_after plan h lawful) at)

-- an event that may begin on a node
pub record Begins (plan : PlanView) (h : List Event) (w n : ℕ) (e : Event) : Type 0 where
  pub node : begun_on plan h e ≡ Some (record { 0 = n })
  pub worker : worker_of e ≡ w
  pub may : why plan h e ≡ None
  pub work : is_work e ≡ true

permitted_is : (plan : PlanView) (h : List Event) (x e : Event) → if_permitted plan h x ≡ Some e → (x ≡ e) × (why plan h x ≡ None)
permitted_is plan h x e is = go (why plan h x) refl is
  where
    go : {W : Type 0} → (o : Option W) → o ≡ o → cond (is_none o) (Some x) None ≡ Some e → (x ≡ e) × (o ≡ None)
    go None at k = (same_Some x e k, refl)
    go (Some y) at k = absurd (cc)

start_begins : (plan : PlanView) (h : List Event) (w n : ℕ) (e : Event) → IsPlan plan → IsLawful plan h → start_of plan h w n ≡ Some e → Begins plan h w n e
start_begins plan h w n e valid lawful is = go (first_waiting_of plan h n) refl is
  where
    go : (o : Option Blk) → first_waiting_of plan h n ≡ o → option_map_or (λ b. if_permitted plan h (Start w b)) o None ≡ Some e → Begins plan h w n e
    go None at k = absurd (cc)
    go (Some b) at k =
        let p = permitted_is plan h (Start w b) e k in
        subst (Begins plan h w n) p.0 (record { node = first_is_there plan h n b valid lawful at; worker = refl; may = p.1; work = refl })

deliver_begins : (plan : PlanView) (h : List Event) (w n : ℕ) (e : Event) → deliver_of plan h w n ≡ Some e → Begins plan h w n e
deliver_begins plan h w n e is = go (is_source plan n) is
  where
    go : (b : Bool) → cond b (if_permitted plan h (Deliver w (record { 0 = n }))) None ≡ Some e → Begins plan h w n e
    go true k = let p = permitted_is plan h (Deliver w (record { 0 = n })) e k in subst (Begins plan h w n) p.0 (record { node = refl; worker = refl; may = p.1; work = refl })
    go false k = absurd (cc)

pub begins : (plan : PlanView) (h : List Event) (w n : ℕ) (e : Event) → IsPlan plan → IsLawful plan h → begin_of plan h w n ≡ Some e → Begins plan h w n e
begins plan h w n e valid lawful is = go (start_of plan h w n) refl is
  where
    go : (o : Option Event) → start_of plan h w n ≡ o → option_or o (deliver_of plan h w n) ≡ Some e → Begins plan h w n e
    go None at k = deliver_begins plan h w n e k
    go (Some x) at k = start_begins plan h w n e valid lawful (at ∙ k)

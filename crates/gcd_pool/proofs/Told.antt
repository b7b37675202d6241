-- What a pass's machine tells of what the pass has seen.
use Rattle.std.proofs.Common.{◌≡◌, ℕ, ◌≤◌, Bool, true, List, length, Option, Some, None, sym, ap, ◌∙◌, subst}
use Rattle.gcd_plan.specs.Kinds.{is_node}
use Rattle.gcd_plan.specs.PlanView.{PlanView}
use Rattle.gcd_plan.specs.declared.numbers.Obj.{Obj}
use Rattle.gcd_event.specs.declared.event.Event.{Event}
use Rattle.gcd_history.specs.Choice.{is_work, worker_of}
use Rattle.gcd_history.specs.Ends.{HasEnded}
use Rattle.gcd_history.specs.History.{why, choice_of}
use Rattle.gcd_history.specs.Laws.{HasNoChoice}
use Rattle.gcd_history.proofs.Public.Laws.{choice_is_permitted, no_choice_is_none}
use Rattle.gcd_refinement.specs.MachineView.{MachineView}
use Rattle.gcd_machine.specs.Stands.{StandsFor}
use Rattle.gcd_machine.proofs.Views.Calls.{plan_stands}
use Rattle.gcd_row.specs.Shapes.{Shape}
use Rattle.gcd_row.specs.Passes.{IsPassOf, terms_of, view, machine_of, worker_number}
use Rattle.gcd_row.specs.declared.board.RowBoard.{RowBoard}
use Rattle.gcd_row.specs.declared.pass.RowPass.{RowPass}
use Rattle.gcd_row.specs.declared.view.Terms.{Terms}
use Rattle.gcd_row.proofs.Passing.{lawful_seen, valid_plan}
use Rattle.gcd_machine.specs.Begins.{begin_of}
use Rattle.gcd_pool.specs.Duties.{Chooses, IsDuty, begun_on}
use Rattle.gcd_pool.specs.declared.duty.Duty.TheVariants.{Leave, Record, Begin, Rest}
use Rattle.gcd_pool.specs.declared.duty.Exit.{Exit}
use Rattle.gcd_pool.specs.Placing.{SaysRested}
use Rattle.gcd_pool.specs.declared.turn.Turn.TheVariants.{Rested}
use Rattle.gcd_pool.proofs.Exits.{exit_ended}
use Rattle.gcd_pool.proofs.Placing.{rests}
use Rattle.gcd_pool.proofs.Nodes.{Begins, begins, begun_node}

module _ {S : Type 0} (shape : S → Shape) (gives : S → ℕ → Type 0) (b : RowBoard S) (p : RowPass S) (is : IsPassOf shape gives b p) where
  pub machine_plan : (machine_of p).plan ≡ (view p).terms.plan
  machine_plan = plan_stands (machine_of p) (view p).terms.plan (view p).seen is.stands

  -- so does what is equal to its machine
  pub stands_as : (m : MachineView) → m ≡ machine_of p → StandsFor m (view p).terms.plan (view p).seen
  stands_as m same = subst (λ (x : MachineView). StandsFor x (view p).terms.plan (view p).seen) (sym same) is.stands

  -- what may begin on a node
  pub begins_there : (m : MachineView) (w : ℕ) (n : Obj) (e : Event) → m ≡ machine_of p → w ≡ worker_number p
      → ((plan : PlanView) (h : List Event) → StandsFor m plan h → Some e ≡ begin_of plan h w n.0) → Begins (view p).terms.plan (view p).seen (view p).worker n.0 e
  begins_there m w n e machine worker tells =
      let v = view p in
      let told : Some e ≡ begin_of v.terms.plan v.seen w n.0 = tells v.terms.plan v.seen (stands_as m machine) in
      subst (λ (k : ℕ). Begins v.terms.plan v.seen k n.0 e) (worker ∙ is.number)
      (begins v.terms.plan v.seen w n.0 e (valid_plan shape gives b p is) (lawful_seen shape gives b p is) (sym told))

  -- which it tells
  pub begin_there : (m : MachineView) (w : ℕ) (n at : Obj) (o : Option Event) → m ≡ machine_of p → w ≡ worker_number p → n ≡ at
      → ((plan : PlanView) (h : List Event) → StandsFor m plan h → o ≡ begin_of plan h w n.0) → begin_of (view p).terms.plan (view p).seen (view p).worker at.0 ≡ o
  begin_there m w n at o machine worker node tells =
      let v = view p in
      let told : begin_of v.terms.plan v.seen w n.0 ≡ o = sym (tells v.terms.plan v.seen (stands_as m machine)) in
      subst (λ (k : ℕ). begin_of v.terms.plan v.seen k at.0 ≡ o) (worker ∙ is.number) (subst (λ (x : Obj). begin_of v.terms.plan v.seen w x.0 ≡ o) node told)

  -- what it chooses
  chosen : (most w from : ℕ) (e : Event) → w ≡ worker_number p → Chooses most (view p).terms.plan (view p).seen w from e → (worker_of e ≡ (view p).worker) × (why (view p).terms.plan (view p).seen e ≡ None) × (is_work e ≡ true)
  chosen most w from e worker c =
      let it = choice_is_permitted (view p).terms.plan (view p).seen w from e c.chosen in
      (it.by ∙ worker ∙ is.number, it.permitted, it.work)

  -- what it has seen is within the row's limit
  own_limit : (most : ℕ) → most ≡ (terms_of b).limits.most → most ≡ (view p).terms.limits.most
  own_limit most limit = limit ∙ sym (ap (λ (t : Terms S). t.limits.most) is.terms)

  within : (most : ℕ) → most ≡ (terms_of b).limits.most → length (view p).seen ≤ most
  within most limit = subst (λ (n : ℕ). length (view p).seen ≤ n) (sym (own_limit most limit)) is.few

  -- its choice
  pub chooses : (m : MachineView) (most w from : ℕ) (e : Event) → m ≡ machine_of p → most ≡ (terms_of b).limits.most → w ≡ worker_number p
      → ((plan : PlanView) (h : List Event) → StandsFor m plan h → length h ≤ most → Chooses most plan h w from e) → choice_of (view p).terms.plan (view p).seen (view p).worker from ≡ Some e
  chooses m most w from e machine limit worker tells =
      let v = view p in
      subst (λ (k : ℕ). choice_of v.terms.plan v.seen k from ≡ Some e) (worker ∙ is.number) (tells v.terms.plan v.seen (stands_as m machine) (within most limit)).chosen

  pub to_record : (m : MachineView) (most w from : ℕ) (e : Event) → m ≡ machine_of p → most ≡ (terms_of b).limits.most → w ≡ worker_number p → ((plan : PlanView) (h : List Event) → StandsFor m plan h → length h ≤ most → IsDuty most plan h w from (Record e))
      → (worker_of e ≡ (view p).worker) × (why (view p).terms.plan (view p).seen e ≡ None) × (is_work e ≡ true)
  to_record m most w from e machine limit worker tells = chosen most w from e worker (tells (view p).terms.plan (view p).seen (stands_as m machine) (within most limit)).0

  pub to_begin : (m : MachineView) (most w from : ℕ) (n : Obj) (e : Event) → m ≡ machine_of p → most ≡ (terms_of b).limits.most → w ≡ worker_number p → ((plan : PlanView) (h : List Event) → StandsFor m plan h → length h ≤ most → IsDuty most plan h w from (Begin n e))
      → (is_node (view p).terms.plan n.0 ≡ true) × (begun_on (view p).terms.plan (view p).seen e ≡ Some n) × (worker_of e ≡ (view p).worker) × (why (view p).terms.plan (view p).seen e ≡ None) × (is_work e ≡ true)
  to_begin m most w from n e machine limit worker tells =
      let v = view p in
      let duty = tells v.terms.plan v.seen (stands_as m machine) (within most limit) in
      let it = chosen most w from e worker duty.0 in
      (begun_node v.terms.plan v.seen e n (valid_plan shape gives b p is) it.1 duty.1, duty.1, it.0, it.1, it.2)

  -- what worker 0 chooses
  pub to_lead : (plan : PlanView) (e : Event) → plan ≡ (view p).terms.plan → (view p).worker ≡ 0 → choice_of plan (view p).seen 0 0 ≡ Some e
      → (worker_of e ≡ (view p).worker) × (why (view p).terms.plan (view p).seen e ≡ None) × (is_work e ≡ true)
  to_lead plan e same head is =
      let v = view p in
      let it = choice_is_permitted v.terms.plan v.seen 0 0 e (subst (λ (q : PlanView). choice_of q v.seen 0 0 ≡ Some e) same is) in
      (it.by ∙ sym head, it.permitted, it.work)

  -- the node on which an event that may come next begins a run
  pub begins_at : (m : MachineView) (n : Obj) (e : Event) → m ≡ machine_of p → why (view p).terms.plan (view p).seen e ≡ None
      → ((plan : PlanView) (h : List Event) → StandsFor m plan h → why plan h e ≡ None → Some n ≡ begun_on plan h e)
      → (is_node (view p).terms.plan n.0 ≡ true) × (begun_on (view p).terms.plan (view p).seen e ≡ Some n)
  begins_at m n e machine may tells =
      let v = view p in
      let on = sym (tells v.terms.plan v.seen (stands_as m machine) may) in
      (begun_node v.terms.plan v.seen e n (valid_plan shape gives b p is) may on, on)

  -- a run that it has seen to end
  pub to_leave : (m : MachineView) (most w from : ℕ) (exit : Exit) → m ≡ machine_of p → most ≡ (terms_of b).limits.most → ((plan : PlanView) (h : List Event) → StandsFor m plan h → length h ≤ most → IsDuty most plan h w from (Leave exit))
      → HasEnded (view p).terms.limits.most (view p).terms.plan (view p).seen
  to_leave m most w from exit machine limit tells =
      let v = view p in
      subst (λ (n : ℕ). HasEnded n v.terms.plan v.seen) (own_limit most limit) (exit_ended most v.terms.plan v.seen exit (tells v.terms.plan v.seen (stands_as m machine) (within most limit)))

  -- a run that goes on, in which nothing of its own is permitted
  pub to_rest : (m : MachineView) (most w from : ℕ) → m ≡ machine_of p → most ≡ (terms_of b).limits.most → w ≡ worker_number p → ((plan : PlanView) (h : List Event) → StandsFor m plan h → length h ≤ most → IsDuty most plan h w from Rest)
      → SaysRested Rested (view p)
  to_rest m most w from machine limit worker tells =
      let v = view p in
      let duty = tells v.terms.plan v.seen (stands_as m machine) (within most limit) in
      rests v duty.0
      (subst (HasNoChoice v.terms.plan v.seen) (worker ∙ is.number) (no_choice_is_none v.terms.plan v.seen w from (valid_plan shape gives b p is) duty.1))

  -- one that was looked at
  pub to_end : (m : MachineView) (most : ℕ) (ended : Bool) → m ≡ machine_of p → most ≡ (terms_of b).limits.most → ((plan : PlanView) (h : List Event) → StandsFor m plan h → length h ≤ most → ended ≡ true → HasEnded most plan h) → ended ≡ true
      → HasEnded (view p).terms.limits.most (view p).terms.plan (view p).seen
  to_end m most ended machine limit tells yes_ended =
      let v = view p in
      subst (λ (n : ℕ). HasEnded n v.terms.plan v.seen) (own_limit most limit) (tells v.terms.plan v.seen (stands_as m machine) (within most limit) yes_ended)

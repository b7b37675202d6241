-- What worker 0 does at one go: nothing, one event more, and that it is work.
use Rattle.std.proofs.Common.{◌≡◌, ℕ, zero, suc, true, List, [], ◌∷◌, ◌++◌, take, Some, refl, ap, sym, ◌∙◌, subst}
use Rattle.std.specs.List.{list_all, slice_get}
use Rattle.std.proofs.lemmas.Bool.{and_from}
use Rattle.std.proofs.lemmas.List.{append-nil, append_assoc}
use Rattle.gcd_plan.specs.PlanView.{PlanView}
use Rattle.gcd_event.specs.declared.event.Event.{Event}
use Rattle.gcd_history.specs.Choice.{is_work}
use Rattle.gcd_history.specs.History.{choice_of}
use Rattle.gcd_history.proofs.Public.Laws.{choice_is_permitted}
use Rattle.gcd_machine.specs.Calm.{IsCalm}
use Rattle.gcd_refinement.specs.MachineView.{MachineView}
use Rattle.gcd_turn.specs.Outsides.{Faced}
use Rattle.gcd_loop.specs.Going.{GoesOn}
use Rattle.gcd_loop.specs.Recorded.{Bounds, Grows, IsSight}
use Rattle.gcd_loop.specs.Rushed.{IsRushed}
use Rattle.gcd_loop.proofs.Follows.{each_more}
use Rattle.gcd_loop.proofs.Goings.{going_grown}
use Rattle.gcd_loop.proofs.Steps.{sight_kept, sight_lawful}

-- nothing was done
pub rushed_none : (plan : PlanView) (h : List Event) → IsRushed plan h h
rushed_none plan h = record {
  rest = [];
  split = sym (append-nil h);
  calm = λ i e at. cc;
  chosen = λ i e at. cc;
}

-- one event more
pub rushed_more : (plan : PlanView) (h k : List Event) (e : Event) → IsRushed plan h k → IsCalm plan k → choice_of plan k 0 0 ≡ Some e
    → IsRushed plan h (k ++ e ∷ [])
rushed_more plan h k e rushed calm chosen = record {
  rest = rushed.rest ++ e ∷ [];
  split = ap (λ (l : List Event). l ++ e ∷ []) rushed.split ∙ append_assoc h rushed.rest (e ∷ []);
  calm = each_more (λ past x. IsCalm plan (h ++ past)) rushed.rest e rushed.calm (subst (IsCalm plan) rushed.split calm);
  chosen = each_more (λ past x. choice_of plan (h ++ past) 0 0 ≡ Some x) rushed.rest e rushed.chosen
      (subst (λ (l : List Event). choice_of plan l 0 0 ≡ Some e) rushed.split chosen);
}

-- what holds of each event of a history, and of each event behind it
each_behind : (P : List Event → Event → Type 0) (h k : List Event)
    → ((i : ℕ) (x : Event) → slice_get h i ≡ Some x → P (take i h) x)
    → ((i : ℕ) (x : Event) → slice_get k i ≡ Some x → P (h ++ take i k) x)
    → (i : ℕ) (x : Event) → slice_get (h ++ k) i ≡ Some x → P (take i (h ++ k)) x
each_behind P [] k first later i x at = later i x at
each_behind P (e ∷ h) k first later zero x at = first zero x at
each_behind P (e ∷ h) k first later (suc i) x at = each_behind (λ past. P (e ∷ past)) h k (λ n. first (suc n)) later i x at

-- one rush after another
pub rushed_on : (plan : PlanView) (h k l : List Event) → IsRushed plan h k → IsRushed plan k l → IsRushed plan h l
rushed_on plan h k l first later =
    record {
      rest = first.rest ++ later.rest;
      split = later.split ∙ (ap (λ (x : List Event). x ++ later.rest) first.split ∙ append_assoc h first.rest later.rest);
      calm = each_behind (λ past x. IsCalm plan (h ++ past)) first.rest later.rest first.calm
          (λ i x at. subst (IsCalm plan) (ap (λ (y : List Event). y ++ take i later.rest) first.split ∙ append_assoc h first.rest (take i later.rest)) (later.calm i x at));
      chosen = each_behind (λ past x. choice_of plan (h ++ past) 0 0 ≡ Some x) first.rest later.rest first.chosen
          (λ i x at.
          subst (λ (y : List Event). choice_of plan y 0 0 ≡ Some x) (ap (λ (y : List Event). y ++ take i later.rest) first.split ∙ append_assoc h first.rest (take i later.rest)) (later.chosen i x at));
    }

all_work : (events : List Event) → ((i : ℕ) (e : Event) → slice_get events i ≡ Some e → is_work e ≡ true) → list_all is_work events ≡ true
all_work [] each = refl
all_work (e ∷ events) each = and_from (is_work e) (list_all is_work events) (each zero e refl) (all_work events (λ i x at. each (suc i) x at))

-- what is done so are events of workers
pub rushed_grows : (plan : PlanView) (h k : List Event) → IsRushed plan h k → Grows h k
rushed_grows plan h k rushed = record {
  rest = rushed.rest;
  split = rushed.split;
  work = all_work rushed.rest (λ i e at. (choice_is_permitted plan (h ++ take i rushed.rest) 0 0 e (rushed.chosen i e at)).work);
}

-- a turn that looked, rushed, and went on
pub turn_goes : (b c d : Bounds) (h k j l : List Event) (m n : MachineView) (f : Faced) → c ≡ b → d ≡ c → IsSight c.most c.plan k m → IsSight d.most d.plan j n
    → Grows h k → IsRushed c.plan k j → GoesOn d j l f → GoesOn b h l f
turn_goes b c d h k j l m n f looks rushes looked rushed grows rush goes = λ stood before early going.
    let all = rushes ∙ looks in
    let first = sight_kept b c k m looks looked in
    let then = sight_kept b d j n all rushed in
    let grown = going_grown b.most f.poller.tells f.clock.tells b.plan stood before early f.poller.before f.clock.before in
    subst (λ (x : Bounds). GoesOn x j l f) all goes stood before early
    (grown k j f.before (sight_lawful b.most b.plan j n then) then.few
    (rushed_grows b.plan k j (subst (λ (x : Bounds). IsRushed x.plan k j) looks rush))
    (grown h k f.before (sight_lawful b.most b.plan k m first) first.few grows going))

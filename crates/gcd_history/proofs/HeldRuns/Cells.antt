-- What an event does to the cells of runs: a body waits for its end, and a handler for its Deliver.
use Rattle.std.proofs.Common.{◌≡◌, ℕ, ◌+◌, true, false, ◌||◌, cond, List, [], ◌∷◌, ◌++◌, reverse, Some, None, refl, ap, sym, ◌∙◌, arith}
use Rattle.std.specs.List.{list_any}
use Rattle.std.specs.Option.{option_map_or}
use Rattle.std.proofs.lemmas.Bool.{eqb-true, eq-eqb, both_ways, false_from_ne_true}
use Rattle.std.proofs.lemmas.List.Sums.{fold_push}
use Rattle.gcd_plan.proofs.Sums.{count_by-cons}
use Rattle.gcd_plan.specs.PlanView.{PlanView, kind_of}
use Rattle.gcd_plan.specs.KindValues.{folded}
use Rattle.gcd_plan.specs.Validity.{IsPlan}
use Rattle.gcd_plan.specs.declared.numbers.Blk.{Blk}
use Rattle.gcd_plan.specs.declared.numbers.Obj.{Obj}
use Rattle.gcd_plan.specs.declared.numbers.Run.TheVariants.{Block, Source}
use Rattle.gcd_event.specs.declared.event.Event.{Event}
use Rattle.gcd_event.specs.declared.event.Event.TheVariants.{End, Deliver}
use Rattle.gcd_history.specs.Runs.{ends, is_ended as is_ended_after}
use Rattle.gcd_history.specs.Sources.{delivers, delivery_count, fold_of, handed, fold_at, received, last_data, pending, joined}
use Rattle.gcd_history.specs.Permitted.{IsLawful as IsLawfulAfter}
use Rattle.gcd_history.specs.History.{IsLawful, why, has_run, is_ended, delivery_count_of, received_of, last_data_of, pending_of, running_of}
use Rattle.gcd_history.specs.Ends.{IsQuiescent}
use Rattle.gcd_history.proofs.Lists.{reverse_push}
use Rattle.gcd_history.proofs.Permitted.Lawful.{lawful_after}
use Rattle.gcd_history.proofs.Blocks.StartedOnce.{open_from_has_run, open_not_ended}
use Rattle.gcd_history.proofs.Public.Laws.{quiescent_is_rest}
use Rattle.gcd_history.proofs.Public.Facts.{all_workers_free}
use Rattle.gcd_history.specs.Held.{taken, given}
use Rattle.gcd_history.specs.Team.{held_by}
use Rattle.gcd_history.specs.TeamFacts.{SourceWaits}
use Rattle.gcd_history.specs.Cells.{CellsStay, HeldCellsWait, BodiesComeBack, HandsOver}
use Rattle.gcd_history.proofs.HeldRuns.Taking.{takes, gives}
use Rattle.gcd_history.proofs.HeldRuns.Following.{has_where_held}
use Rattle.gcd_history.proofs.Public.TeamLaws.{held_runs_are_open, count_left, handed_left, data_left}

-- an event that ends a block gives it, and one that delivers takes the source's run
ends_gives : (plan : PlanView) (e : Event) (b : Blk) → ends b.0 e ≡ true → given plan e ≡ Some (Block b)
ends_gives plan (End w c) b h = ap (λ n. Some (Block (record { 0 = n }))) (eqb-true c.0 b.0 h)
ends_gives plan e b h = absurd (both_ways false refl h)

delivers_takes : (e : Event) (s : Obj) → delivers s.0 e ≡ true → taken e ≡ Some (Source s)
delivers_takes (Deliver w t) s h = ap (λ n. Some (Source (record { 0 = n }))) (eqb-true t.0 s.0 h)
delivers_takes e s h = absurd (both_ways false refl h)

-- where nothing is handed over at the source
source_waits : (plan : PlanView) (h : List Event) (e : Event) (s : Obj) → delivers s.0 e ≡ false → SourceWaits plan h (e ∷ []) s.0
unfolding delivery_count_of received_of last_data_of
source_waits plan h e s none =
    let split = reverse_push h e in
    let quiet : list_any (delivers s.0) (e ∷ []) ≡ false = ap (λ v. v || false) none in
    record {
      times = ap (λ l. delivery_count l s.0) split ∙ count_left (e ∷ []) (reverse h) s.0 quiet;
      received = ap (λ l. received plan l s.0) split ∙ ap (fold_at plan s.0) (handed_left plan (e ∷ []) (reverse h) s.0 quiet);
      value = ap (λ l. last_data plan l s.0) split ∙ data_left plan (e ∷ []) (reverse h) s.0 quiet;
    }

pub cells_stay : (plan : PlanView) (h : List Event) (e : Event) → CellsStay plan h e
unfolding is_ended
cells_stay plan h e = record {
  bodies = λ b not_given.
      ap (λ l. is_ended_after l b.0) (reverse_push h e)
      ∙ ap (λ v. v || is_ended_after (reverse h) b.0) (false_from_ne_true (ends b.0 e) (λ now. not_given (ends_gives plan e b now)));
  handlers = λ s not_taken. source_waits plan h e s (false_from_ne_true (delivers s.0 e) (λ now. not_taken (delivers_takes e s now)));
}

pub held_cells_wait : (plan : PlanView) (h : List Event) → IsLawful plan h → HeldCellsWait plan h
unfolding held_by is_ended why
held_cells_wait plan h lawful =
    let past = lawful_after plan h lawful in
    record {
      bodies = λ w b it. open_not_ended plan (reverse h) past b (open_from_has_run plan (reverse h) w (Block b) (has_where_held plan (reverse h) w (Block b) past it));
      handlers = λ w s e it may. source_waits plan h e s (false_from_ne_true (delivers s.0 e) (λ now.
          (takes plan e (reverse h) (Source s) (past, may) (delivers_takes e s now)).nobodys w (has_where_held plan (reverse h) w (Source s) past it)));
    }

come_back : (plan : PlanView) (past : List Event) (e : Event) (b : Blk) → IsLawfulAfter plan (e ∷ past) → given plan e ≡ Some (Block b) → is_ended_after (e ∷ past) b.0 ≡ ends b.0 e
come_back plan past e b h gave =
    let live = open_from_has_run plan past _ (Block b) (gives plan e past (Block b) h gave).own in
    ap (λ v. ends b.0 e || v) (open_not_ended plan past h.0 b live) ∙ elim (ends b.0 e) as (λ v. (v || false) ≡ v) [ true ↦ refl | false ↦ refl ]

pub bodies_come_back : (plan : PlanView) (h : List Event) → IsLawful plan h → BodiesComeBack plan h
unfolding is_ended why
bodies_come_back plan h lawful e b gave may = ap (λ l. is_ended_after l b.0) (reverse_push h e) ∙ come_back plan (reverse h) e b (lawful_after plan h lawful, may) gave

-- ## What a Deliver hands over

one_more : (past : List Event) (w : ℕ) (s : Obj) → delivery_count (Deliver w s ∷ past) s.0 ≡ delivery_count past s.0 + 1
one_more past w s =
    let step = count_by-cons (delivers s.0) (Deliver w s) past in
    let now = ap (λ v. cond {A = ℕ} v 1 0) (eq-eqb s.0 s.0 refl) in
    omega (arith, step, now)

handed_now : (plan : PlanView) (past : List Event) (w : ℕ) (s : Obj) → handed plan (Deliver w s ∷ past) s.0 ≡ handed plan past s.0 ++ pending plan past s.0 ∷ []
handed_now plan past w s = ap (λ v. handed plan past s.0 ++ cond v (pending plan past s.0 ∷ []) []) (eq-eqb s.0 s.0 refl)

value_now : (plan : PlanView) (past : List Event) (w : ℕ) (s : Obj) → last_data plan (Deliver w s ∷ past) s.0 ≡ pending plan past s.0
value_now plan past w s = ap (λ v. cond v (pending plan past s.0) (last_data plan past s.0)) (eq-eqb s.0 s.0 refl)

pub fold_at_push : (plan : PlanView) (s : ℕ) (values : List ℕ) (v : ℕ) → fold_at plan s (values ++ v ∷ []) ≡ joined plan s (fold_at plan s values) v
fold_at_push plan s values v =
    elim (kind_of plan s) as (λ o. option_map_or (λ kind. fold_of kind (values ++ v ∷ [])) o 0 ≡ option_map_or (λ kind. folded kind (option_map_or (λ k. fold_of k values) o 0) v) o 0) [
      | None ↦ refl
      | Some kind ↦ fold_push (folded kind) 0 values v
    ]

pub deliver_hands_over : (plan : PlanView) (h : List Event) (w : ℕ) (s : Obj) → HandsOver plan h w s
unfolding delivery_count_of received_of last_data_of pending_of
deliver_hands_over plan h w s =
    let split = reverse_push h (Deliver w s) in
    let past = reverse h in
    let value : last_data plan (reverse (h ++ Deliver w s ∷ [])) s.0 ≡ pending plan past s.0 = ap (λ l. last_data plan l s.0) split ∙ value_now plan past w s in
    record {
      times = ap (λ l. delivery_count l s.0) split ∙ one_more past w s;
      value = value;
      total =
          ap (λ l. received plan l s.0) split
          ∙ ap (fold_at plan s.0) (handed_now plan past w s)
          ∙ fold_at_push plan s.0 (handed plan past s.0) (pending plan past s.0)
          ∙ ap (joined plan s.0 (received plan past s.0)) (sym value);
    }

-- ## At rest

-- at a quiescent history no worker holds a run
pub nothing_is_held_at_quiescence : (plan : PlanView) (h : List Event) (w : ℕ) → IsPlan plan → IsLawful plan h → IsQuiescent plan h → held_by plan h w ≡ None
nothing_is_held_at_quiescence plan h w valid lawful quiet =
    let idle : running_of plan h ≡ 0 = (quiescent_is_rest plan h valid lawful quiet).idle in
    elim (held_by plan h w) as (λ o. held_by plan h w ≡ o → o ≡ None) [
      | None ↦ λ it. refl
      | Some r ↦ λ it. absurd (both_ways (has_run plan h w r) (all_workers_free plan h w idle r) ((held_runs_are_open plan h lawful).has w r it))
    ] refl

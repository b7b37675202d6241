-- The view that `new` makes is of the empty history.
use Rattle.std.proofs.Common.{◌≡◌, ℕ, ◌<◌, ◌==◌, Bool, true, false, not, ◌&&◌, cond, [], length, map, get_or, Option, Some, None, refl, ap, sym, ◌∙◌, subst, arith, option_map, replicate}
use Rattle.std.specs.List.{slice_get}
use Rattle.std.specs.Option.{option_map_or, option_and_then}
use Rattle.std.proofs.lemmas.Bool.{and_parts, not-true}
use Rattle.std.proofs.lemmas.List.{get_or-replicate, length-replicate, length-map}
use Rattle.gcd_plan.proofs.Mapped.{get_or-mapped}
use Rattle.gcd_plan.specs.PlanView.{PlanView, ObjView, first_target}
use Rattle.gcd_plan.specs.Kinds.{is_read_kind, is_queue}
use Rattle.gcd_plan.specs.Validity.{IsPlan, has_fields}
use Rattle.gcd_plan.specs.declared.kind.Kind.{Kind}
use Rattle.gcd_plan.specs.declared.kind.Kind.TheVariants.{Read}
use Rattle.gcd_plan.specs.declared.numbers.Obj.{Obj}
use Rattle.gcd_plan.specs.declared.numbers.Run.{Run}
use Rattle.gcd_plan.specs.declared.numbers.Run.TheVariants.{Block}
use Rattle.gcd_history.specs.declared.submission.Submission.{Submission}
use Rattle.gcd_history.specs.Parked.{awaited, is_parked, has_run, has_run_out, may_wake}
use Rattle.gcd_history.specs.Due.{limit, is_at_limit}
use Rattle.gcd_history.specs.Sources.{is_live_feed}
use Rattle.gcd_history.specs.Tree.{Aim}
use Rattle.gcd_history.proofs.Blocks.SubmittedOnce.{object_fields}
use Rattle.gcd_plan.specs.declared.numbers.Blk.{Blk}
use Rattle.gcd_plan.specs.Needs.{limit_room, mark_room, park_room}
use Rattle.gcd_refinement.specs.MachineView.{idle, undelivered, machine_of, block_at, handler_at, at_worker}
use Rattle.gcd_refinement.specs.declared.progress.BlockProgress.{BlockProgress}
use Rattle.gcd_refinement.specs.declared.progress.HandlerProgress.{HandlerProgress}
use Rattle.gcd_refinement.specs.Shape.{PartsFit, OwnFit}
use Rattle.gcd_refinement.specs.Ties.{ReferencesAre, ListsAre, TreeIs, HoldsAre, DrainsAre, GroupsAre, SemasAre, WaitsAre, SourcesAre, TimersAre, WorkersAre, BlocksAre, HandlersAre, LimitsAre, MarksAre, TotalsAre, notify_submission, is_run}
use Rattle.gcd_refinement.specs.Sleepers.{limit_ahead, may_expire}
use Rattle.gcd_refinement.proofs.Step.NodeMarks.{no_value}
use Rattle.gcd_plan.specs.Limits.{max_workers}
use Rattle.gcd_plan.proofs.Places.{get_or-replicate_same}
use Rattle.gcd_history.proofs.Tree.Stands.{some_objects}

-- ## The shape

pub parts_begin : (plan : PlanView) → PartsFit plan (machine_of plan)
parts_begin plan =
    let n = length plan.objects in
    record {
      refs = length-replicate n 1;
      lists = length-replicate n [];
      list_blocks = refl;
      targets = length-map plan.objects (λ o. o.target);
      requests = length-replicate n None;
      runs_on = length-replicate n 0;
      nodes = refl;
      holds = length-replicate n 0;
      active = length-map plan.objects (λ o. o.active);
      sources = refl;
      barriers = length-replicate n 0;
      drain_kinds = refl;
      counts = length-replicate n 0;
      entered = length-replicate n 0;
      emptied = length-replicate n 0;
      notify = length-replicate n [];
      notify_blocks = refl;
      due = length-replicate n 0;
      firsts = refl;
      signals = length-replicate n 0;
      waits = length-replicate n [];
      rooms = refl;
      reasons = length-replicate (park_room plan) None;
      limits = length-replicate (limit_room plan) None;
      expired = length-replicate (length plan.blocks) false;
      wait_objects = refl;
      source_kinds = refl;
      pending = length-replicate n 0;
      cancelled = length-replicate n false;
      timer_kinds = refl;
      until = refl;
      activations = length-replicate n None;
      cancellations = length-replicate n None;
      wait_strips = refl;
      strips = length-map plan.strips (λ s. s.count);
      strip_blocks = refl;
      cancelled_blocks = length-replicate (mark_room plan) false;
      began_blocks = length-replicate (mark_room plan) false;
      ended_blocks = length-replicate (mark_room plan) false;
      told = length-replicate (mark_room plan) [];
      told_blocks = refl;
    }

idle_at : (plan : PlanView) (b : ℕ) → block_at (machine_of plan) b ≡ idle
idle_at plan b = get_or-replicate_same (length plan.blocks) b idle

free_at : (plan : PlanView) (w : ℕ) → at_worker (machine_of plan) w ≡ None
free_at plan w = get_or-replicate_same {A = Option Run} max_workers w None

pub own_begin : (plan : PlanView) → IsPlan plan → OwnFit plan (machine_of plan)
own_begin plan valid =
    let n = length plan.objects in
    let m = length plan.blocks in
    record {
      sleepers = length-replicate n [];
      sleeper_blocks = refl;
      waiters = length-replicate (mark_room plan) [];
      waiter_blocks = refl;
      appliers = length-replicate (length plan.strips) None;
      applied_by = λ a b at. absurd (some_none b (sym at ∙ get_or-replicate_same {A = Option Blk} (length plan.strips) a None));
      blocks = length-replicate m idle;
      ended = length-replicate m false;
      wakeable = length-replicate m false;
      ahead = length-replicate (limit_room plan) None;
      ripe = length-replicate m false;
      handlers = length-replicate n undelivered;
      busy = length-replicate n false;
      live = length-replicate n false;
      workers = length-replicate {A = Option Run} max_workers None;
      nodes = λ b q at. absurd (some_none q (sym at ∙ ap (λ (x : BlockProgress). x.node) (idle_at plan b)));
      groups = λ b g at. absurd (some_none g (sym at ∙ ap (λ (x : BlockProgress). x.group) (idle_at plan b)));
      homes = λ b. subst (λ (x : BlockProgress). x.home.0 < n) (sym (idle_at plan b)) (some_objects plan valid);
      callers = λ b c at. absurd (some_none c (sym at ∙ ap (λ (x : BlockProgress). x.caller) (idle_at plan b)));
      runs = λ w run at. absurd (some_none run (sym at ∙ free_at plan w));
    }
  where
    some_none : {X : Type 0} (x : X) → Some x ≡ None → ⊥
    some_none x h = cc

-- ## The ties

pub references_begin : (plan : PlanView) → ReferencesAre plan [] (machine_of plan)
references_begin plan = record { counted = λ o low. let r = get_or-replicate {A = ℕ} (length plan.objects) o 1 0 low in omega (arith, r) }

pub lists_begin : (plan : PlanView) → ListsAre plan [] (machine_of plan)
lists_begin plan = record { waiting = λ n. get_or-replicate_same (length plan.objects) n [] }

pub tree_begin : (plan : PlanView) → TreeIs plan [] (machine_of plan)
tree_begin plan = record { aims = λ o. aims_are o; runs = λ o. get_or-replicate_same (length plan.objects) o 0 }
  where
    abbrev_aim : ℕ → Option ℕ → Aim
    abbrev_aim t r = record { target = t; request = r }

    target_is : (o : ℕ) → (get_or (map (λ (x : ObjView). x.target) plan.objects) o (record { 0 = 0 })).0 ≡ first_target plan o
    target_is o =
        ap (λ (t : Obj). t.0) (get_or-mapped (λ (x : ObjView). x.target) plan.objects o (record { 0 = 0 }))
        ∙ elim (slice_get plan.objects o) as (λ k. (option_map_or (λ (x : ObjView). x.target) k (record { 0 = 0 })).0 ≡ option_map_or (λ (x : ObjView). x.target.0) k 0) [ None ↦ refl | Some x ↦ refl ]

    aims_are : (o : ℕ) → ◌≡◌ {A = Aim} (record { target = (get_or (map (λ (x : ObjView). x.target) plan.objects) o (record { 0 = 0 })).0; request = option_map (λ (t : Obj). t.0) (get_or (replicate (length plan.objects) None) o None) }) (record { target = first_target plan o; request = None })
    aims_are o = rw (target_is o, get_or-replicate_same {A = Option Obj} (length plan.objects) o None) refl

pub holds_begin : (plan : PlanView) → HoldsAre plan [] (machine_of plan)
holds_begin plan = record { holds = λ o. get_or-replicate_same (length plan.objects) o 0; active = λ o. get_or-mapped (λ (x : ObjView). x.active) plan.objects o false }

pub drains_begin : (plan : PlanView) → DrainsAre plan [] (machine_of plan)
drains_begin plan = record { barriers = λ n. get_or-replicate_same (length plan.objects) n 0 }

pub groups_begin : (plan : PlanView) → GroupsAre plan [] (machine_of plan)
groups_begin plan =
    let n = length plan.objects in
    record {
      counts = λ g. get_or-replicate_same n g 0;
      entered = λ g. let r = get_or-replicate_same {A = ℕ} n g 0 in omega (arith, r);
      empty = λ g p low. absurd (omega (arith, low));
      emptied = λ g. let r = get_or-replicate_same {A = ℕ} n g 0 in omega (arith, r);
      notify = λ g. ap (map (notify_submission (machine_of plan))) (get_or-replicate_same n g []);
      fired = λ g. get_or-replicate_same n g 0;
    }

pub semas_begin : (plan : PlanView) → SemasAre plan [] (machine_of plan)
semas_begin plan = record { signals = λ s. get_or-replicate_same (length plan.objects) s 0; waits = λ s. get_or-replicate_same (length plan.objects) s [] }

no_awaited : (plan : PlanView) (b : ℕ) → awaited plan [] (Block (record { 0 = b })) ≡ None
unfolding awaited
no_awaited plan b = refl

no_limit : (plan : PlanView) (b : ℕ) → limit plan [] b ≡ None
unfolding awaited is_parked
no_limit plan b = refl

none_expired : (plan : PlanView) (b : ℕ) → option_map_or (has_run_out plan []) (awaited plan [] (Block (record { 0 = b }))) false ≡ false
unfolding awaited
none_expired plan b = refl

pub waits_begin : (plan : PlanView) → WaitsAre plan [] (machine_of plan)
waits_begin plan =
    let m = length plan.blocks in
    record {
      reasons = λ b. get_or-replicate_same (park_room plan) b None ∙ sym (no_awaited plan b);
      limits = λ b. get_or-replicate_same (limit_room plan) b None ∙ sym (no_limit plan b);
      expired = λ b. get_or-replicate_same m b false ∙ sym (none_expired plan b);
    }

-- no limit is ahead, and none has come
none_ahead : (plan : PlanView) (b : ℕ) → limit_ahead plan [] b ≡ None
unfolding awaited is_parked may_wake
none_ahead plan b = refl

none_ripe : (plan : PlanView) (b : ℕ) → may_expire plan [] b ≡ false
unfolding awaited is_parked is_at_limit
none_ripe plan b = refl

pub limits_begin : (plan : PlanView) → LimitsAre plan [] (machine_of plan)
limits_begin plan =
    let m = length plan.blocks in
    record {
      ahead = λ b. get_or-replicate_same (limit_room plan) b None ∙ sym (none_ahead plan b);
      ripe = λ b. get_or-replicate_same m b false ∙ sym (none_ripe plan b);
    }

pub sources_begin : (plan : PlanView) → SourcesAre plan [] (machine_of plan)
sources_begin plan =
    let n = length plan.objects in
    let taken : (s : ℕ) → (handler_at (machine_of plan) s).taken ≡ 0 = λ s. ap (λ (x : HandlerProgress). x.taken) (get_or-replicate_same n s undelivered) in
    record {
      cancelled = λ s. get_or-replicate_same n s false;
      pending = λ s. let r = get_or-replicate_same {A = ℕ} n s 0 in let t = taken s in let v = no_value plan s in omega (arith, r, t, v);
      taken = λ s. let t = taken s in omega (arith, t);
    }

pub timers_begin : (plan : PlanView) → TimersAre plan [] (machine_of plan)
timers_begin plan = record { moment = refl; activated = λ s. get_or-replicate_same (length plan.objects) s None; cancelled = λ s. get_or-replicate_same (length plan.objects) s None }

no_run : (plan : PlanView) (w : ℕ) (run : Run) → has_run plan [] w run ≡ false
unfolding has_run
no_run plan w run = refl

pub workers_begin : (plan : PlanView) → WorkersAre plan [] (machine_of plan)
workers_begin plan = record { runs = λ w run. no_run plan w run ∙ ap (is_run run) (sym (free_at plan w)) }

pub blocks_begin : (plan : PlanView) → BlocksAre plan [] (machine_of plan)
blocks_begin plan =
    let at = idle_at plan in
    record {
      node = λ b. ap (λ (x : BlockProgress). x.node) (at b) ∙ main_node (0 == b);
      barrier = λ b. ap (λ (x : BlockProgress). x.barrier) (at b) ∙ main_barrier (0 == b);
      started = λ b. ap (λ (x : BlockProgress). x.started) (at b);
      done = λ b. ap (λ (x : BlockProgress). x.done) (at b);
      group = λ b. ap (λ (x : BlockProgress). x.group) (at b);
      caller = λ b. ap (λ (x : BlockProgress). x.caller) (at b);
      ended = λ b. get_or-replicate_same (length plan.blocks) b false;
    }
  where
    main : Submission
    main = record { blk = record { 0 = 0 }; node = None; barrier = false }

    main_node : (t : Bool) → None ≡ option_and_then (λ (s : Submission). s.node) (cond t (Some (record { blk = record { 0 = 0 }; node = None; barrier = false })) None)
    main_node true = refl
    main_node false = refl

    main_barrier : (t : Bool) → false ≡ option_map_or (λ (s : Submission). s.barrier) (cond t (Some (record { blk = record { 0 = 0 }; node = None; barrier = false })) None) false
    main_barrier true = refl
    main_barrier false = refl

pub handlers_begin : (plan : PlanView) → HandlersAre plan [] (machine_of plan)
handlers_begin plan =
    record { done = λ s. ap (λ (x : HandlerProgress). x.done) (get_or-replicate_same (length plan.objects) s undelivered); given = λ s. ap (λ (x : HandlerProgress). x.given) (get_or-replicate_same (length plan.objects) s undelivered) }

pub marks_begin : (plan : PlanView) → MarksAre plan [] (machine_of plan)
marks_begin plan = record {
  idle = λ o off. record { nothing_waits = refl; nothing_pends = no_value plan o };
}

-- no read source is active at first
read_inactive : (plan : PlanView) (obj : ObjView) (kind : Kind) → has_fields plan kind obj ≡ true → (is_read_kind kind && obj.active) ≡ false
read_inactive plan obj Read fields = not-true obj.active (and_parts (not obj.active) _ (and_parts (is_queue plan obj.target.0) _ fields).1).0
read_inactive plan obj kind fields = refl

not_live : (plan : PlanView) (s : ℕ) → IsPlan plan → is_live_feed plan [] s ≡ false
unfolding is_live_feed
not_live plan s valid =
    elim (slice_get plan.objects s) as (λ o. slice_get plan.objects s ≡ o → (option_map_or is_read_kind (option_map (λ (x : ObjView). x.kind) o) false && (option_map_or (λ (x : ObjView). x.active) o false && true)) ≡ false) [
      | None ↦ λ k. refl
      | Some obj ↦ λ k. and_true (is_read_kind obj.kind) obj.active (read_inactive plan obj obj.kind (object_fields plan s obj valid k))
    ] refl
  where
    and_true : (r a : Bool) → (r && a) ≡ false → (r && (a && true)) ≡ false
    and_true true true h = h
    and_true true false h = refl
    and_true false a h = refl

pub totals_begin : (plan : PlanView) → IsPlan plan → TotalsAre plan [] (machine_of plan)
totals_begin plan valid = record {
  running = refl;
  left = refl;
  live = λ s. get_or-replicate_same (length plan.objects) s false ∙ sym (not_live plan s valid);
  misused = refl;
  halted = refl;
  len = refl;
}

-- An object as it is declared fits the plan, by its kind.
use Rattle.std.proofs.Common.{ℕ, ◌≡◌, Bool, true, false, ◌&&◌, leb, List, [], refl}
use Rattle.std.proofs.lemmas.Bool.{and_parts, and_from}
use Rattle.gcd_plan.specs.Kinds.{is_queue, is_queue_kind, is_merge_kind}
use Rattle.gcd_plan.specs.Limits.{max_time, max_value}
use Rattle.gcd_plan.specs.Names.{is_path}
use Rattle.gcd_plan.specs.PlanView.{PlanView}
use Rattle.gcd_plan.specs.Validity.{is_object}
use Rattle.gcd_plan.specs.declared.kind.Kind.{Kind}
use Rattle.gcd_plan.specs.declared.kind.Kind.TheVariants.{Serial, Concurrent, Group, Semaphore, Add, Or, Replace, Timer, Read}
use Rattle.gcd_plan.specs.declared.numbers.Obj.{Obj}
use Rattle.gcd_builder.specs.Changes.{new_object, root}

module _ (plan : PlanView) (name : List ℕ) where
  -- a queue
  pub queue_object : (kind : Kind) (target : Obj) (active : Bool) → is_queue_kind kind ≡ true → is_queue plan target.0 ≡ true → is_object plan (new_object name kind target active []) ≡ true
  queue_object Serial target active is on = and_from (is_queue plan target.0) true on refl
  queue_object Concurrent target active is on = and_from (is_queue plan target.0) true on refl
  queue_object Group target active is on = cc
  queue_object (Semaphore n) target active is on = cc
  queue_object Add target active is on = cc
  queue_object Or target active is on = cc
  queue_object Replace target active is on = cc
  queue_object (Timer start every) target active is on = cc
  queue_object Read target active is on = cc

  -- a semaphore
  pub semaphore_object : (first : ℕ) → leb first max_value ≡ true → is_object plan (new_object name (Semaphore first) root true []) ≡ true
  semaphore_object first low = and_from (leb first max_value) true low refl

  -- a source of merged values
  pub merge_object : (kind : Kind) (target : Obj) → is_merge_kind kind ≡ true → is_queue plan target.0 ≡ true → is_object plan (new_object name kind target false []) ≡ true
  merge_object Serial target is on = cc
  merge_object Concurrent target is on = cc
  merge_object Group target is on = cc
  merge_object (Semaphore n) target is on = cc
  merge_object Add target is on = and_from (is_queue plan target.0) true on refl
  merge_object Or target is on = and_from (is_queue plan target.0) true on refl
  merge_object Replace target is on = and_from (is_queue plan target.0) true on refl
  merge_object (Timer start every) target is on = cc
  merge_object Read target is on = cc

  -- a read source
  pub read_object : (path : List ℕ) (target : Obj) → is_path path ≡ true → is_queue plan target.0 ≡ true → is_object plan (new_object name Read target false path) ≡ true
  read_object path target is on =
      and_from (is_path path) (is_queue plan target.0 && true) is (and_from (is_queue plan target.0) true on refl)

  -- a timer
  pub timer_object : (start every : ℕ) (target : Obj) → (leb 1 start && leb start max_time) ≡ true → (leb 1 every && leb every max_time) ≡ true → is_queue plan target.0 ≡ true → is_object plan (new_object name (Timer start every) target false []) ≡ true
  timer_object start every target first second on =
      let parts = and_parts (leb 1 start) (leb start max_time) first in
      and_from (leb 1 start && (leb start max_time && (leb 1 every && leb every max_time))) (is_queue plan target.0 && true)
      (and_from (leb 1 start) (leb start max_time && (leb 1 every && leb every max_time)) parts.0
      (and_from (leb start max_time) (leb 1 every && leb every max_time) parts.1 second))
      (and_from (is_queue plan target.0) true on refl)

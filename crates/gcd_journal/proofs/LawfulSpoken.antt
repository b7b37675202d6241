-- The events of lawful histories have lines.
use Rattle.std.proofs.Common.{◌≡◌, ℕ, refl, true, false, List, take, Some, None, reverse, ◌&&◌, nat_lt}
use Rattle.std.specs.List.{slice_get}
use Rattle.std.specs.Option.{option_map, option_map_or}
use Rattle.std.proofs.lemmas.Bool.{and_parts}
use Rattle.gcd_plan.specs.PlanView.{PlanView}
use Rattle.gcd_plan.specs.Kinds.{is_source, is_source_kind, is_read_kind}
use Rattle.gcd_plan.specs.Limits.{max_senders}
use Rattle.gcd_plan.specs.Made.{is_of_intake}
use Rattle.gcd_plan.specs.Validity.{IsPlan}
use Rattle.gcd_plan.specs.declared.kind.Kind.{Kind}
use Rattle.gcd_plan.specs.declared.kind.Kind.TheVariants.{Serial, Concurrent, Group, Semaphore, Add, Or, Replace, Timer, Read}
use Rattle.gcd_event.specs.declared.event.Event.{Event}
use Rattle.gcd_event.specs.declared.event.Event.TheVariants.{Start, Act as Acted, Wake, End, Deliver, DeliverEnd, Tick, Ready, FeedEnd, Misuse, Halt, Expire, Accept, Shut}
use Rattle.gcd_history.specs.Permitted.{is_known, is_worker, is_run_of, is_index, is_code, has_block, is_feed}
use Rattle.gcd_history.specs.History.{IsLawful, why}
use Rattle.gcd_history.proofs.Permitted.Reasons.{allowed}
use Rattle.gcd_history.proofs.Permitted.Fitting.{permitted_fits}
use Rattle.gcd_journal.specs.Spoken.{IsNamed, IsSpoken, AreSpoken}
use Rattle.gcd_journal.proofs.PlainNames.{block_of_intake}

-- a feed is a source
feed_is_source : (kind : Kind) → is_read_kind kind ≡ true → is_source_kind kind ≡ true
feed_is_source Serial h = h
feed_is_source Concurrent h = h
feed_is_source Group h = h
feed_is_source (Semaphore n) h = h
feed_is_source Add h = refl
feed_is_source Or h = refl
feed_is_source Replace h = refl
feed_is_source (Timer start every) h = refl
feed_is_source Read h = h

source_of_feed : (plan : PlanView) (s : ℕ) → is_feed plan s ≡ true → is_source plan s ≡ true
source_of_feed plan s h =
    elim (slice_get plan.objects s) as (λ o. option_map_or is_read_kind (option_map (λ obj. obj.kind) o) false ≡ true → option_map_or is_source_kind (option_map (λ obj. obj.kind) o) false ≡ true) [
      | None ↦ λ k. k
      | Some obj ↦ λ k. feed_is_source obj.kind k
    ] h

-- what is known of an event is named
known_named : (plan : PlanView) (e : Event) → IsPlan plan → is_known plan e ≡ true → IsNamed plan e
known_named plan (Start w b) valid h = (and_parts (is_worker w) (has_block plan b.0) h).1
known_named plan (Acted w run i) valid h = (and_parts (is_run_of plan run) (is_index i) (and_parts (is_worker w) (is_run_of plan run && is_index i) h).1).0
known_named plan (Wake w b) valid h = (and_parts (is_worker w) (has_block plan b.0) h).1
known_named plan (End w b) valid h = (and_parts (is_worker w) (has_block plan b.0) h).1
known_named plan (Deliver w s) valid h = (and_parts (is_worker w) (is_source plan s.0) h).1
known_named plan (DeliverEnd w s) valid h = (and_parts (is_worker w) (is_source plan s.0) h).1
known_named plan (Tick t) valid h = tt
known_named plan (Ready s n) valid h = source_of_feed plan s.0 (and_parts (is_feed plan s.0) _ h).0
known_named plan (FeedEnd s) valid h = source_of_feed plan s.0 h
known_named plan (Misuse w c run i) valid h =
    (and_parts (is_run_of plan run) (is_index i && is_code c) (and_parts (is_worker w) (is_run_of plan run && (is_index i && is_code c)) h).1).0
known_named plan Halt valid h = tt
known_named plan (Expire b) valid h = h
known_named plan (Accept b s) valid h = block_of_intake plan b.0 valid (and_parts (is_of_intake plan b.0) (nat_lt s max_senders) h).0
known_named plan Shut valid h = tt

pub permitted_spoken : (plan : PlanView) (h : List Event) (e : Event) → IsPlan plan → why plan h e ≡ None → IsSpoken plan e
unfolding why
permitted_spoken plan h e valid none = record {
  fits = permitted_fits plan h e valid none;
  named = known_named plan e valid (allowed plan (reverse h) e none).known;
}

pub lawful_spoken : (plan : PlanView) (h : List Event) → IsPlan plan → IsLawful plan h → AreSpoken plan h
unfolding IsLawful
lawful_spoken plan h valid lawful i e at = permitted_spoken plan (take i h) e valid (lawful i e at)

-- What is permitted fits.
use Rattle.std.proofs.Common.{◌≡◌, ℕ, zero, suc, ◌<◌, ◌≤◌, Bool, true, false, ◌&&◌, List, length, None, refl, ap, ◌∙◌, arith, ltb, leb, reverse}
use Rattle.std.specs.Option.{option_map, option_map_or}
use Rattle.std.proofs.lemmas.Bool.{and_parts, ltb-true, leb-true, both_ways}
use Rattle.gcd_plan.specs.MisuseCodes.{last_code}
use Rattle.gcd_plan.specs.Limits.{max_objects, max_blocks, max_acts, max_time, max_value, max_workers, max_senders}
use Rattle.gcd_plan.specs.PlanView.{PlanView}
use Rattle.gcd_plan.specs.Kinds.{is_source, is_source_kind, has_kind, is_read_kind}
use Rattle.gcd_plan.specs.Made.{is_of_intake}
use Rattle.gcd_plan.specs.Validity.{IsPlan}
use Rattle.gcd_plan.specs.declared.kind.Kind.{Kind}
use Rattle.gcd_plan.specs.declared.kind.Kind.TheVariants.{Concurrent}
use Rattle.gcd_plan.specs.declared.numbers.Run.{Run}
use Rattle.gcd_plan.specs.declared.numbers.Run.TheVariants.{Block, Source}
use Rattle.gcd_plan.proofs.Within.{has_object}
use Rattle.gcd_event.specs.declared.event.Event.{Event}
use Rattle.gcd_event.specs.declared.event.Event.TheVariants.{Start, Act as Acted, Wake, End, Deliver, DeliverEnd, Tick, Ready, FeedEnd, Misuse, Halt, Expire, Accept, Shut}
use Rattle.gcd_event.specs.Fits.{IsFitting, IsRun}
use Rattle.gcd_history.specs.Permitted.{is_known, is_worker, is_index, is_code, has_block, is_run_of, is_feed}
use Rattle.gcd_history.specs.History.{why}
use Rattle.gcd_history.proofs.MadeBlocks.Spans.{intake_inside}
use Rattle.gcd_history.proofs.Permitted.Reasons.{allowed}

-- and where root has not that kind, it is another
not_root : (test : Kind → Bool) (plan : PlanView) (s : ℕ) → IsPlan plan → test Concurrent ≡ false → has_kind test plan s ≡ true → 1 ≤ s
not_root test plan zero valid other h =
    let root : has_kind test plan 0 ≡ false = ap (λ o. option_map_or test (option_map (λ obj. obj.kind) o) false) valid.root ∙ other in
    absurd (both_ways (has_kind test plan 0) root h)
not_root test plan (suc s) valid other h = omega arith

numbered : (test : Kind → Bool) (plan : PlanView) (s : ℕ) → IsPlan plan → test Concurrent ≡ false → has_kind test plan s ≡ true → (1 ≤ s) × (s < max_objects)
numbered test plan s valid other h =
    let within : s < length plan.objects = has_object test plan s h in
    let few : length plan.objects ≤ max_objects = valid.few_objects in
    (not_root test plan s valid other h, omega arith)

block_fits : (plan : PlanView) (b : ℕ) → IsPlan plan → has_block plan b ≡ true → b < max_blocks
block_fits plan b valid h =
    let within : b < length plan.blocks = ltb-true b (length plan.blocks) h in
    let few : length plan.blocks ≤ max_blocks = valid.few_blocks in
    omega arith

source_fits : (plan : PlanView) (s : ℕ) → IsPlan plan → is_source plan s ≡ true → (1 ≤ s) × (s < max_objects)
source_fits plan s valid h = numbered is_source_kind plan s valid refl h

feed_fits : (plan : PlanView) (s : ℕ) → IsPlan plan → is_feed plan s ≡ true → (1 ≤ s) × (s < max_objects)
feed_fits plan s valid h = numbered is_read_kind plan s valid refl h

pub run_fits : (plan : PlanView) (run : Run) → IsPlan plan → is_run_of plan run ≡ true → IsRun run
run_fits plan (Block b) valid h = block_fits plan b.0 valid h
run_fits plan (Source s) valid h = source_fits plan s.0 valid h

worker_fits : (w : ℕ) → is_worker w ≡ true → w < max_workers
worker_fits w h = ltb-true w max_workers h

-- what is known fits
known_fits : (plan : PlanView) (e : Event) → IsPlan plan → is_known plan e ≡ true → IsFitting e
known_fits plan (Start w b) valid h =
    let parts = and_parts (is_worker w) (has_block plan b.0) h in
    (worker_fits w parts.0, block_fits plan b.0 valid parts.1)
known_fits plan (Acted w run i) valid h =
    let parts = and_parts (is_worker w) (is_run_of plan run && is_index i) h in
    let rest = and_parts (is_run_of plan run) (is_index i) parts.1 in
    (worker_fits w parts.0, run_fits plan run valid rest.0, ltb-true i max_acts rest.1)
known_fits plan (Wake w b) valid h =
    let parts = and_parts (is_worker w) (has_block plan b.0) h in
    (worker_fits w parts.0, block_fits plan b.0 valid parts.1)
known_fits plan (End w b) valid h =
    let parts = and_parts (is_worker w) (has_block plan b.0) h in
    (worker_fits w parts.0, block_fits plan b.0 valid parts.1)
known_fits plan (Deliver w s) valid h =
    let parts = and_parts (is_worker w) (is_source plan s.0) h in
    (worker_fits w parts.0, source_fits plan s.0 valid parts.1)
known_fits plan (DeliverEnd w s) valid h =
    let parts = and_parts (is_worker w) (is_source plan s.0) h in
    (worker_fits w parts.0, source_fits plan s.0 valid parts.1)
known_fits plan (Tick t) valid h =
    let parts = and_parts (ltb 0 t) (leb t max_time) h in
    let above : 0 < t = ltb-true 0 t parts.0 in
    (omega arith, leb-true t max_time parts.1)
known_fits plan (Ready s n) valid h =
    let parts = and_parts (is_feed plan s.0) (ltb 0 n && leb n max_value) h in
    let rest = and_parts (ltb 0 n) (leb n max_value) parts.1 in
    let above : 0 < n = ltb-true 0 n rest.0 in
    (feed_fits plan s.0 valid parts.0, omega arith, leb-true n max_value rest.1)
known_fits plan (FeedEnd s) valid h = feed_fits plan s.0 valid h
known_fits plan (Misuse w c run i) valid h =
    let parts = and_parts (is_worker w) (is_run_of plan run && (is_index i && is_code c)) h in
    let named = and_parts (is_run_of plan run) (is_index i && is_code c) parts.1 in
    let placed = and_parts (is_index i) (is_code c) named.1 in
    let coded = and_parts (ltb 0 c) (leb c (last_code)) placed.1 in
    let above : 0 < c = ltb-true 0 c coded.0 in
    (worker_fits w parts.0, run_fits plan run valid named.0, ltb-true i max_acts placed.0, omega arith, leb-true c (last_code) coded.1)
known_fits plan Halt valid h = tt
known_fits plan (Expire b) valid h = block_fits plan b.0 valid h
known_fits plan (Accept b s) valid h =
    let parts = and_parts (is_of_intake plan b.0) (ltb s max_senders) h in
    let inside = intake_inside plan b.0 valid parts.0 in
    let behind = inside.behind in
    let within = inside.within in
    let few : length plan.blocks ≤ max_blocks = valid.few_blocks in
    (omega (arith, behind), omega (arith, within, few), ltb-true s max_senders parts.1)
known_fits plan Shut valid h = tt

pub permitted_fits : (plan : PlanView) (h : List Event) (e : Event) → IsPlan plan → why plan h e ≡ None → IsFitting e
unfolding why
permitted_fits plan h e valid none = known_fits plan e valid (allowed plan (reverse h) e none).known

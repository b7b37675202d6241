-- That a merge of 0 changes nothing but at a replace source, and how much a merge may make.
use Rattle.std.proofs.Common.{◌≡◌, ℕ, ◌+◌, ◌≤◌, ◌<◌, false, length, Option, Some, None, arith, ap, sym, ◌∙◌}
use Rattle.std.proofs.lemmas.List.{set-get_or}
use Rattle.std.specs.List.{slice_get}
use Rattle.std.specs.Option.{option_map_or}
use Rattle.gcd_plan.specs.Kinds.{is_replace_kind}
use Rattle.gcd_plan.specs.KindValues.{folded}
use Rattle.gcd_plan.specs.declared.kind.Kind.{Kind}
use Rattle.gcd_plan.proofs.Places.{slice_get_some}
use Rattle.gcd_plan.proofs.Folded.{folded_low, folded-zero}
use Rattle.gcd_source.specs.SourcesView.{SourcesView, pending_at, is_replace_at, merged_at, with_pending}

-- what is pending after a merge is at most what was, and the value
pub merged_below : (view : SourcesView) (s v : ℕ) → merged_at view s v ≤ pending_at view s + v
merged_below view s v = of_kind (slice_get view.kinds s)
  where
    of_kind : (kind : Option Kind) → option_map_or (λ k. folded k (pending_at view s) v) kind 0 ≤ pending_at view s + v
    of_kind None = omega arith
    of_kind (Some k) = folded_low k (pending_at view s) v

-- a merge of 0 changes nothing where the source is no replace source
pub zero_changes_nothing : (view : SourcesView) (s v : ℕ) → s < length view.kinds → is_replace_at view s ≡ false → v ≡ 0 → with_pending view s (merged_at view s v) ≡ view
zero_changes_nothing view s v within keeps none =
    let kind = slice_get_some view.kinds s within in
    let other : is_replace_kind kind.0 ≡ false = sym (ap (λ o. option_map_or is_replace_kind o false) kind.1) ∙ keeps in
    let same : merged_at view s v ≡ pending_at view s =
    ap (λ o. option_map_or (λ k. folded k (pending_at view s) v) o 0) kind.1 ∙ ap (folded kind.0 (pending_at view s)) none ∙ folded-zero kind.0 (pending_at view s) other in
    ap (with_pending view s) same ∙ ap (λ l. record view { pending = l }) (set-get_or view.pending s 0)

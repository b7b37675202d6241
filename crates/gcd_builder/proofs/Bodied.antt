-- Which blocks have a body of their own, by their names.
use Rattle.std.proofs.Common.{ℕ, ◌≡◌, ◌<◌, Bool, true, false, not, ◌&&◌, ◌||◌, ltb, [], length, Some, None, slice_get, refl, sym, ap, ◌∙◌}
use Rattle.std.proofs.lemmas.Bool.{lt-ltb, le-ltb, and_parts, and_from, not-true, not_from_false, ltb-true}
use Rattle.std.proofs.Math.Bool.{or-false}
use Rattle.std.proofs.lemmas.Option.{slice_get_within}
use Rattle.std.specs.Option.{option_map_or}
use Rattle.gcd_plan.specs.Made.{is_made}
use Rattle.gcd_plan.specs.Names.{is_name}
use Rattle.gcd_plan.specs.PlanView.{PlanView, BlkView}
use Rattle.gcd_plan.specs.Validity.{IsPlan, has_name}
use Rattle.gcd_plan.specs.declared.numbers.Blk.{Blk}
use Rattle.gcd_plan.specs.declared.numbers.Run.TheVariants.{Block}
use Rattle.gcd_plan.proofs.Places.{past_from_slice_get}
use Rattle.gcd_builder.specs.Bodies.{IsBody}
use Rattle.gcd_builder.proofs.MadeNames.{named_not_made}

-- there is such a block, and it is not of the intake or of a strip
abbrev pub has_body : PlanView → ℕ → Bool
has_body plan b = ltb b (length plan.blocks) && not (is_made plan b)

-- the name of a block is well formed exactly where the block is not of the intake or of a strip
named_not : (plan : PlanView) → IsPlan plan → (b : ℕ) (block : BlkView) → slice_get plan.blocks b ≡ Some block → is_name block.name ≡ not (is_made plan b)
named_not plan valid b block stands =
    elim (is_name block.name) as (λ v. is_name block.name ≡ v → v ≡ not (is_made plan b)) [
      | true ↦ λ named. sym (ap not (named_not_made plan valid b block stands named))
      | false ↦ λ unnamed.
          let within : b < length plan.blocks = slice_get_within plan.blocks b block stands in
          let has : has_name plan b ≡ true = valid.block_names b within in
          let is : has_name plan b ≡ is_made plan b =
          ap (λ o. is_made plan b || is_name (option_map_or (λ (blk : BlkView). blk.name) o [])) stands
          ∙ ap (λ v. is_made plan b || v) unnamed ∙ or-false (is_made plan b) in
          sym (ap not (sym is ∙ has))
    ] refl

pub named_has : (plan : PlanView) → IsPlan plan → (b : ℕ) (block : BlkView) → slice_get plan.blocks b ≡ Some block → is_name block.name ≡ has_body plan b
named_has plan valid b block stands =
    named_not plan valid b block stands
    ∙ sym (ap (λ v. v && not (is_made plan b)) (lt-ltb b (length plan.blocks) (slice_get_within plan.blocks b block stands)))

pub past_has : (plan : PlanView) (b : ℕ) → slice_get plan.blocks b ≡ None → false ≡ has_body plan b
past_has plan b none = sym (ap (λ v. v && not (is_made plan b)) (le-ltb b (length plan.blocks) (past_from_slice_get plan.blocks b none)))

pub body_from : (plan : PlanView) (b : Blk) → has_body plan b.0 ≡ true → IsBody plan (Block b)
body_from plan b has =
    let parts = and_parts (ltb b.0 (length plan.blocks)) (not (is_made plan b.0)) has in
    (ltb-true b.0 (length plan.blocks) parts.0, not-true (is_made plan b.0) parts.1)

pub no_body : (plan : PlanView) (b : Blk) → has_body plan b.0 ≡ false → ¬ IsBody plan (Block b)
no_body plan b none = λ body.
    let has : has_body plan b.0 ≡ true =
    and_from (ltb b.0 (length plan.blocks)) (not (is_made plan b.0)) (lt-ltb b.0 (length plan.blocks) body.0) (not_from_false (is_made plan b.0) body.1) in
    let clash : false ≡ true = sym none ∙ has in cc

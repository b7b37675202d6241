use mir.Val.{bool_byte}
use Rattle.std.proofs.Common.{true, false, ◌≡◌, ◌∙◌, ℕ, Bool, ap, sym, refl, arith, cond, zero-add}
use Rattle.std.proofs.lemmas.List.FromFn.{map-range_with_len_more}
use Rattle.gcd_plan.specs.Kinds.{is_source_kind}
use Rattle.gcd_plan.proofs.Sums.{cond-le-one}
use Rattle.gcd_rounds.specs.Ran.{sources_before}
use Rattle.gcd_rounds.proofs.Taken.{sources_more_of}
use Rattle.gcd_rounds.proofs.places.places_of.Goals as goal

byte_is : (b : Bool) → bool_byte b ≡ cond {A = ℕ} b 1 0
byte_is true = refl
byte_is false = refl

pub loop-o-preserved : goal.loop-o-preserved
loop-o-preserved c =
    let plan = c.args.plan.now in
    let o = c.loop-o.o in
    let places = c.loop-o.invariant.places in
    let sources = c.loop-o.invariant.sources in
    let few = c.loop-o.invariant.few in
    let one : c.from-sources.result ≡ cond (is_source_kind c.kind.result) 1 0 = c.from-sources.ensures ∙ byte_is c.is_source.result ∙ ap (λ (b : Bool). cond {A = ℕ} b 1 0) c.is_source.ensures in
    let more = sources_more_of plan o c.kind.result c.kind.ensures in
    let low = cond-le-one (is_source_kind c.kind.result) in
    record {
      places = c.in_ok-push.ensures.items ∙ rw (places, sources) refl ∙ sym (map-range_with_len_more (sources_before plan) 0 o o (zero-add o));
      sources = omega (arith, sources, one, more);
      few = omega (arith, few, one, low);
    }

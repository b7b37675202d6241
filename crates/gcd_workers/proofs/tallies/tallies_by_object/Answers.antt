use Rattle.std.proofs.Common.{◌≡◌, ◌+◌, ◌∙◌, ℕ, length, ap, subst, sym, arith}
use Rattle.std.proofs.lemmas.List.{length_push}
use Rattle.std.proofs.lemmas.Option.{same_Some}
use Rattle.gcd_plan.specs.declared.kind.Kind.{Kind}
use Rattle.gcd_workers.proofs.HandedOver.{IsFirst, made, tallies_first}
use Rattle.gcd_workers.proofs.Places.{each_push}
use Rattle.gcd_workers.proofs.tallies.tallies_by_object.Goals as goal

pub loop-number-preserved : goal.loop-number-preserved
loop-number-preserved c =
    let plan = c.args.plan.now in
    let before = c.loop-number.tallies.items in let tally = c.new.result in
    let i = c.loop-number.invariant in
    let count = i.count in
    let many : 0 + length before ≡ c.loop-number.number = omega (arith, count) in
    let first : IsFirst plan c.loop-number.number tally =
    λ kind known. c.new.ensures ∙ ap (λ (k : Kind). made k 0 0) (same_Some c.kind.result kind (sym c.kind.ensures ∙ known)) in
    rw c.in_ok-push.ensures.items (record {
      count = length_push before tally ∙ ap (λ (n : ℕ). n + 1) i.count;
      first = each_push (IsFirst plan) 0 before tally i.first (subst (λ (n : ℕ). IsFirst plan n tally) (sym many) first);
    })

pub returns : goal.returns
returns c =
    let i = c.loop-number.invariant in
    let count = i.count in
    tallies_first c.args.plan.now c.loop-number.tallies.items (omega (arith, count)) i.first

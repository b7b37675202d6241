-- Places of lists, and blocks that have ended.
use Rattle.std.proofs.Common.{◌≡◌, ◌<◌, ◌∙◌, ℕ, zero, suc, true, List, ◌∷◌, [], length, Some, sym, subst, reverse, eqb-true}
use Rattle.std.specs.List.{list_any}
use Rattle.std.specs.Prelude.{slice_get}
use mathlib.Core.Option.{some}
use lib.ListN.{get_elem?}
use Rattle.std.proofs.lemmas.Bool.{both_ways}
use Rattle.gcd_plan.specs.PlanView.{PlanView}
use Rattle.gcd_plan.specs.declared.numbers.Blk.{Blk}
use Rattle.gcd_plan.specs.declared.numbers.Run.TheVariants.{Block}
use Rattle.gcd_plan.proofs.Spans.{first_any}
use Rattle.gcd_event.specs.declared.event.Event.{Event}
use Rattle.gcd_event.specs.declared.event.Event.TheVariants.{End}
use Rattle.gcd_history.specs.Runs.{ends}
use Rattle.gcd_history.specs.Runs.{is_ended as is_ended_after}
use Rattle.gcd_history.specs.History.{IsLawful, has_run, is_ended}
use Rattle.gcd_history.specs.TeamFacts.{IsNobodys}
use Rattle.gcd_history.proofs.Lists.{list_any-reverse}
use Rattle.gcd_history.proofs.Blocks.StartedOnce.{open_from_has_run, open_not_ended}
use Rattle.gcd_history.proofs.Permitted.Lawful.{lawful_after}
use Rattle.gcd_history.proofs.Public.TeamLaws.{held_runs_are_open}
use Rattle.gcd_jobs.specs.Ends.{EndFits}
use Rattle.gcd_jobs.proofs.ValuesMore.{end_fits}

-- nobody holds a block that has ended
pub ended_is_nobodys : (plan : PlanView) (h : List Event) (c : Blk) → IsLawful plan h → is_ended h c.0 ≡ true → IsNobodys plan h (Block c)
unfolding is_ended has_run
ended_is_nobodys plan h c lawful ended w held =
    let has = (held_runs_are_open plan h lawful).has w (Block c) held in
    both_ways (is_ended_after (reverse h) c.0)
    (open_not_ended plan (reverse h) (lawful_after plan h lawful) c (open_from_has_run plan (reverse h) w (Block c) has)) ended

end_inside : (plan : PlanView) (b : ℕ) (e : Event) → EndFits plan e → ends b e ≡ true → b < length plan.blocks
end_inside plan b (End w c) fits is = subst (λ (n : ℕ). n < length plan.blocks) (eqb-true c.0 b is) fits
end_inside plan b e fits is = absurd (cc)

-- a block that has ended is one of the plan
pub ended_inside : (plan : PlanView) (h : List Event) (b : ℕ) → IsLawful plan h → is_ended h b ≡ true → b < length plan.blocks
unfolding is_ended IsLawful
ended_inside plan h b lawful ended =
    let any : list_any (ends b) h ≡ true = sym (list_any-reverse (ends b) h) ∙ ended in
    let end = first_any (ends b) h any in
    end_inside plan b end.1 (end_fits plan _ end.1 (lawful end.0 end.1 end.2)) end.3

pub elem_of : {A : Type 0} (xs : List A) (i : ℕ) (x : A) → slice_get xs i ≡ Some x → get_elem? xs i ≡ some x
elem_of [] i x at = absurd (cc)
elem_of (y ∷ ys) zero x at = cc
elem_of (y ∷ ys) (suc i) x at = elem_of ys i x at

use Rattle.std.proofs.Common.{◌≡◌, ◌∙◌, not, Some, None, sym}
use Rattle.std.proofs.lemmas.Bool.{and_from}
use Rattle.std.specs.List.{position}
use Rattle.gcd_plan.specs.PlanView.{view_of, blk_view}
use Rattle.gcd_plan.specs.Validity.{is_act}
use Rattle.gcd_plan.proofs.Having.{first_fails, all_pass}
use Rattle.gcd_plan.proofs.parts_valid.check_block.Goals as goal

pub returns-in-Some-clause-broken : goal.returns-in-Some-clause-broken
returns-in-Some-clause-broken c =
    let acts = c.block_at-block.result.now.acts.items in
    let test = is_act (view_of c.args.parts.now) in
    let found : position (λ act. not (test act)) acts ≡ Some c.in-Some.act = cc in record {
      element = blk_view c.block_at-block.result.now;
      stands = c.block_at-block.ensures;
      holds = first_fails test acts _ found;
    }

pub returns-clause-fits : goal.returns-clause-fits
returns-clause-fits c =
    let acts = c.block_at-block.result.now.acts.items in
    let test = is_act (view_of c.args.parts.now) in
    let fitting : position (λ act. not (test act)) acts ≡ None = cc in record {
      element = blk_view c.block_at-block.result.now;
      stands = c.block_at-block.ensures;
      holds = and_from _ _ (sym c.has_fitting_work.ensures ∙ c.if-not-has_fitting_work.false) (all_pass test acts fitting);
    }

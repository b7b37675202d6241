use Rattle.std.proofs.Common.{◌≡◌, not, Some, None}
use Rattle.std.specs.List.{position}
use Rattle.gcd_plan.specs.PlanView.{view_of, obj_view}
use Rattle.gcd_plan.specs.Validity.{is_handler_act, is_act}
use Rattle.gcd_plan.proofs.Having.{first_fails, all_pass, all_pass_both}
use Rattle.gcd_plan.proofs.parts_valid.check_handler.Goals as goal

pub returns-in-Some-clause-broken : goal.returns-in-Some-clause-broken
returns-in-Some-clause-broken c =
    let acts = c.args.object.now.handler.items in
    let found : position (λ act. not (is_handler_act act)) acts ≡ Some c.in-Some.act = cc in record {
      element = obj_view c.args.object.now;
      stands = c.requires.stands;
      holds = (c.requires.source, first_fails is_handler_act acts _ found);
    }

pub returns-in-Some-first_unfit-clause-broken : goal.returns-in-Some-first_unfit-clause-broken
returns-in-Some-first_unfit-clause-broken c =
    let acts = c.args.object.now.handler.items in
    let test = is_act (view_of c.args.parts.now) in
    let found : position (λ act. not (test act)) acts ≡ Some c.in-Some-first_unfit.act = cc in record {
      element = obj_view c.args.object.now;
      stands = c.requires.stands;
      holds = (c.requires.source, first_fails test acts _ found);
    }

pub returns-clause-fits : goal.returns-clause-fits
returns-clause-fits c =
    let acts = c.args.object.now.handler.items in
    let test = is_act (view_of c.args.parts.now) in
    let allowed : position (λ act. not (is_handler_act act)) acts ≡ None = cc in
    let fitting : position (λ act. not (test act)) acts ≡ None = cc in
    all_pass_both is_handler_act test acts (all_pass is_handler_act acts allowed) (all_pass test acts fitting)

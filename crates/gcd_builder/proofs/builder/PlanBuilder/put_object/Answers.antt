use Rattle.std.proofs.Common.{◌≡◌, false, sym, subst}
use Rattle.gcd_plan.specs.PlanView.{view_of}
use Rattle.gcd_plan.specs.Validity.{IsPlan}
use Rattle.gcd_builder.specs.Changes.{new_object}
use Rattle.gcd_builder.specs.Refusals.{BuilderView, MayAddObject}
use Rattle.gcd_builder.proofs.Steps.{object_stays}
use Rattle.gcd_builder.proofs.builder.PlanBuilder.put_object.Goals as goal

pub invariant_of-self-2 : goal.invariant_of-self-2
invariant_of-self-2 c = λ has.
    let plan = view_of c.self.inside.draft.parts in
    let has_memory = subst (λ (b : BuilderView). b.spent ≡ false) (sym c.self.view_is) c.requires.unspent in
    let fits = subst (λ (b : BuilderView). MayAddObject b.plan (new_object c.args.name.now c.args.kind c.args.target c.args.active c.args.path.now))
    (sym c.self.view_is) c.requires.fits in
    record {
      valid = subst IsPlan (sym c.in_ok-object.ensures.view)
          (object_stays plan (c.self.invariant has_memory).valid c.args.name.now c.args.kind c.args.target c.args.active c.args.path.now fits);
      agrees = c.in_ok-object.ensures.agrees;
    }

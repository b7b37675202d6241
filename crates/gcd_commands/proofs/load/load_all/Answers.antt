use Rattle.std.proofs.Common.{◌≡◌, ◌+◌, ◌∙◌, length, ap, sym, refl, arith}
use Rattle.std.proofs.lemmas.List.{length-map}
use Rattle.gcd_plan.specs.PlanView.{file_view}
use Rattle.gcd_outer.specs.Outside.{Seen, ShelfState, seen}
use Rattle.gcd_commands.specs.Loads.StopsReady.{at_script, at_file}
use Rattle.gcd_builder.proofs.Refused.{handed_on}
use Rattle.gcd_commands.proofs.Loading.{SameShelf, are_loaded_same, file_since, made_later, plan_since}
use Rattle.gcd_commands.proofs.load.load_all.Goals as goal

pub returns-in_err-plan-clause-stopped : goal.returns-in_err-plan-clause-stopped
returns-in_err-plan-clause-stopped g c =
    handed_on _ c.from_residual.result c.in_err-plan.field-0.0 c.from_residual.ensures.1
    (record { loads = 1; made = c.load_plan.ensures.loads; is = at_script c.in_err-plan.ensures.stopped refl })

pub returns-in_err-files-clause-stopped : goal.returns-in_err-files-clause-stopped
returns-in_err-files-clause-stopped g c =
    let between : g.row.S.Denot → g.row.S.Denot → Seen ShelfState = seen g.S.Shelf.tells g.S.Shelf.state in
    let before = c.args.shelf.now in
    let first = between before c.load_plan.new.shelf in
    let later = between c.load_plan.new.shelf c.load_files.new.shelf in
    let whole = between before c.load_files.new.shelf in
    let stop = c.in_err-files.field-0.0 in
    let stops = c.in_err-files.ensures.stopped in
    let same_first : SameShelf first whole = record { tells = refl; content = refl } in
    let same_later : SameShelf later whole = record { tells = refl; content = c.load_plan.ensures.same } in
    let here = file_since later whole same_later (omega (arith, c.load_plan.ensures.faults)) (omega arith) _ stops.f stop stops.at in
    handed_on _ c.from_residual-in_err-files.result stop c.from_residual-in_err-files.ensures.1
    (record {
      loads = (stops.f + 1) + 1;
      made = made_later first later whole refl refl refl refl refl (stops.f + 1) c.load_plan.ensures.loads stops.loads;
      is = at_file c.in_ok-plan.plan stops.f
          (plan_since first whole same_first (omega arith) (omega (arith, c.load_files.ensures.faults)) c.args.name.now c.in_ok-plan.plan c.in_ok-plan.ensures.plan)
          (rw (c.files.ensures.files) at here)
          (omega arith);
    })

pub returns-clause-ready : goal.returns-clause-ready
returns-clause-ready g c =
    let between : g.row.S.Denot → g.row.S.Denot → Seen ShelfState = seen g.S.Shelf.tells g.S.Shelf.state in
    let before = c.args.shelf.now in
    let first = between before c.load_plan.new.shelf in
    let later = between c.load_plan.new.shelf c.load_files.new.shelf in
    let whole = between before c.load_files.new.shelf in
    let same_first : SameShelf first whole = record { tells = refl; content = refl } in
    let same_later : SameShelf later whole = record { tells = refl; content = c.load_plan.ensures.same } in
    record {
      plan_is = plan_since first whole same_first (omega arith) (omega (arith, c.load_files.ensures.faults)) c.args.name.now c.in_ok-plan.plan c.in_ok-plan.ensures.plan;
      loaded = are_loaded_same later whole same_later _ _ (rw (c.files.ensures.files) at c.in_ok-files.ensures.loaded);
    }

pub returns-clause-loads : goal.returns-clause-loads
returns-clause-loads g c =
    let between : g.row.S.Denot → g.row.S.Denot → Seen ShelfState = seen g.S.Shelf.tells g.S.Shelf.state in
    let before = c.args.shelf.now in
    let count : length c.files.result.now ≡ length c.in_ok-plan.plan.files =
    sym (length-map c.files.result.now file_view) ∙ ap length c.files.ensures.files in
    made_later (between before c.load_plan.new.shelf) (between c.load_plan.new.shelf c.load_files.new.shelf) (between before c.load_files.new.shelf)
    refl refl refl refl refl _ c.load_plan.ensures.loads (rw (count) at c.in_ok-files.ensures.loads)

use Rattle.std.proofs.Common.{refl, arith}
use Rattle.gcd_plan.specs.Limits.{max_file_bytes}
use Rattle.gcd_outer.specs.Outside.{Seen, ShelfState, seen}
use Rattle.gcd_commands.specs.Checks.CheckEnds.{judged}
use Rattle.gcd_commands.specs.Hands.HandsCheck.{judged as hands_judged}
use Rattle.gcd_commands.specs.Checks.StopsCheck.{at_script, at_journal}
use Rattle.gcd_commands.specs.Checks.StopsJournal.{wanting}
use Rattle.gcd_builder.proofs.Refused.{handed_on}
use Rattle.gcd_commands.proofs.Loading.{SameShelf, journal_since, loaded_same, made_later, plan_since}
use Rattle.gcd_commands.proofs.checking.check_journal.Goals as goal

pub returns-in_err-plan-clause-stopped : goal.returns-in_err-plan-clause-stopped
returns-in_err-plan-clause-stopped g c =
    handed_on _ c.from_residual.result c.in_err-plan.field-0.0 c.from_residual.ensures.1
    (record { loads = 1; made = c.load_plan.ensures.loads; is = at_script c.in_err-plan.ensures.stopped refl })

pub returns-in_err-journal-clause-stopped : goal.returns-in_err-journal-clause-stopped
returns-in_err-journal-clause-stopped g c =
    let between : g.row.S.Denot → g.row.S.Denot → Seen ShelfState = seen g.S.Shelf.tells g.S.Shelf.state in
    let before = c.args.shelf.now in
    let first = between before c.load_plan.new.shelf in
    let later = between c.load_plan.new.shelf c.load_journal.new.shelf in
    let whole = between before c.load_journal.new.shelf in
    let same_first : SameShelf first whole = record { tells = refl; content = refl } in
    let same_later : SameShelf later whole = record { tells = refl; content = c.load_plan.ensures.same } in
    let plan_is = plan_since first whole same_first (omega arith) (omega (arith, c.load_journal.ensures.faults)) _ c.in_ok-plan.plan c.in_ok-plan.ensures.plan in
    let two = made_later first later whole refl refl refl refl refl 1 c.load_plan.ensures.loads c.load_journal.ensures.loads in
    let stop = c.in_err-journal.field-0.0 in
    let why = journal_since later whole same_later (omega (arith, c.load_plan.ensures.faults)) (omega arith) _ c.in_ok-plan.plan stop c.in_err-journal.ensures.stopped in
    handed_on _ c.from_residual-in_err-journal.result stop c.from_residual-in_err-journal.ensures.1
    (record { loads = 2; made = two; is = at_journal c.in_ok-plan.plan plan_is why refl })

pub returns-in-Ok-clause-reported : goal.returns-in-Ok-clause-reported
returns-in-Ok-clause-reported g c =
    let between : g.row.S.Denot → g.row.S.Denot → Seen ShelfState = seen g.S.Shelf.tells g.S.Shelf.state in
    let before = c.args.shelf.now in
    let first = between before c.load_plan.new.shelf in
    let later = between c.load_plan.new.shelf c.load_journal.new.shelf in
    let whole = between before c.load_journal.new.shelf in
    let same_first : SameShelf first whole = record { tells = refl; content = refl } in
    let same_later : SameShelf later whole = record { tells = refl; content = c.load_plan.ensures.same } in
    let plan_is = plan_since first whole same_first (omega arith) (omega (arith, c.load_journal.ensures.faults)) _ c.in_ok-plan.plan c.in_ok-plan.ensures.plan in
    let two = made_later first later whole refl refl refl refl refl 1 c.load_plan.ensures.loads c.load_journal.ensures.loads in
    let read = c.in_ok-journal.ensures.read in
    record {
      loads = 2;
      made = two;
      is = judged c.in_ok-plan.plan c.in_ok-journal.journal.items plan_is
          (record {
            text = read.text;
            loaded = loaded_same later whole same_later _ max_file_bytes read.text read.loaded;
            journal_is = read.journal_is;
          })
          c.in-Ok.ensures.judged refl;
    }

pub returns-in-Ok-clause-found : goal.returns-in-Ok-clause-found
returns-in-Ok-clause-found g c =
    let between : g.row.S.Denot → g.row.S.Denot → Seen ShelfState = seen g.S.Shelf.tells g.S.Shelf.state in
    let before = c.args.shelf.now in
    let first = between before c.load_plan.new.shelf in
    let whole = between before c.load_journal.new.shelf in
    let same_first : SameShelf first whole = record { tells = refl; content = refl } in
    hands_judged c.in_ok-plan.plan
    (plan_since first whole same_first (omega arith) (omega (arith, c.load_journal.ensures.faults)) _ c.in_ok-plan.plan c.in_ok-plan.ensures.plan)
    c.in-Ok.ensures.found

pub returns-in-Err-clause-stopped : goal.returns-in-Err-clause-stopped
returns-in-Err-clause-stopped g c =
    let between : g.row.S.Denot → g.row.S.Denot → Seen ShelfState = seen g.S.Shelf.tells g.S.Shelf.state in
    let before = c.args.shelf.now in
    let first = between before c.load_plan.new.shelf in
    let later = between c.load_plan.new.shelf c.load_journal.new.shelf in
    let whole = between before c.load_journal.new.shelf in
    let same_first : SameShelf first whole = record { tells = refl; content = refl } in
    let same_later : SameShelf later whole = record { tells = refl; content = c.load_plan.ensures.same } in
    let plan_is = plan_since first whole same_first (omega arith) (omega (arith, c.load_journal.ensures.faults)) _ c.in_ok-plan.plan c.in_ok-plan.ensures.plan in
    let two = made_later first later whole refl refl refl refl refl 1 c.load_plan.ensures.loads c.load_journal.ensures.loads in
    record { loads = 2; made = two; is = at_journal c.in_ok-plan.plan plan_is (wanting refl) refl }

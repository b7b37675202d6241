use Rattle.std.proofs.Common.{◌≡◌, length, None, ap, refl, subst, sym, arith}
use Rattle.std.proofs.lemmas.List.{take_all}
use Rattle.gcd_history.specs.Team.{held_by}
use Rattle.gcd_machine.proofs.Views.Calls.{valid_stands}
use Rattle.gcd_row.specs.Passes.{IsGathered}
use Rattle.gcd_row.specs.Views.{held_run}
use Rattle.gcd_row.specs.declared.view.View.{View}
use Rattle.gcd_workers.proofs.Opened.{opens_kept}
use Rattle.gcd_workers.proofs.opening.open_after.Goals as goal

pub after-requires-clause-valid : goal.after-requires-clause-valid
after-requires-clause-valid c = valid_stands c.args.kept.machine c.args.over.plan.now c.args.kept.journal.items c.requires.run.stands

pub after-requires-clause-stands : goal.after-requires-clause-stands
after-requires-clause-stands c = c.requires.run.stands

pub after-requires-clause-opens : goal.after-requires-clause-opens
after-requires-clause-opens c = opens_kept c.args.over c.args.kept c.in-Ok.cells.items _ c.requires.run refl c.requires.stopped c.in-Ok.ensures

pub returns-in-Ok-after-clause-new : goal.returns-in-Ok-after-clause-new
returns-in-Ok-after-clause-new c =
    let is = c.in-Ok-after.ensures.view in
    record {
      worker = ap (λ (v : View _). v.worker) is;
      hands = ap (λ (v : View _). v.hands) is;
      held = subst (λ (v : View _). held_run v ≡ None) (sym is) (subst (λ t. held_by t.plan c.args.kept.journal.items 0 ≡ None) (sym c.in-Ok-after.ensures.terms) c.requires.stopped);
    }

pub returns-in-Ok-after-clause-begun : goal.returns-in-Ok-after-clause-begun
returns-in-Ok-after-clause-begun c = ap (λ (v : View _). v.seen) c.in-Ok-after.ensures.view

pub returns-in-Ok-after-clause-gathered : goal.returns-in-Ok-after-clause-gathered
returns-in-Ok-after-clause-gathered c = subst (λ (v : View _). IsGathered v c.args.kept.journal.items) (sym c.in-Ok-after.ensures.view) (sym (take_all (length c.args.kept.journal.items) c.args.kept.journal.items (omega arith)))

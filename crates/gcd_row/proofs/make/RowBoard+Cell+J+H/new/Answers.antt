use Rattle.std.proofs.Common.{sym, subst, ap, ◌∙◌, ◌++◌, [], length, List}
use Rattle.gcd_event.specs.declared.event.Event.{Event}
use Rattle.gcd_row.specs.Opening.{AreFirst, object_cells, terms_with}
use Rattle.gcd_row.specs.Shapes.{shape_of}
use Rattle.gcd_row.specs.declared.view.Limits.{Limits}
use Rattle.gcd_row.specs.declared.view.Terms.{Terms}
use Rattle.gcd_row.proofs.Beginning.{opens_as, opens_first}
use Rattle.gcd_row.proofs.FirstCells.{are_first}
use Rattle.gcd_row.proofs.make.RowBoard+Cell+J+H.new.Goals as goal

pub after-requires-clause-opens : goal.after-requires-clause-opens
after-requires-clause-opens g c =
    let plan = c.args.plan.now in
    let limits : Limits = record { workers = c.args.workers; most = c.args.most } in
    let cells = c.add_objects.new.cells.items in
    let first = subst (AreFirst (shape_of g.H.Handler.kind g.H.Handler.times g.H.Handler.total) plan) (sym (c.in_ok-add_objects.ensures ∙ ap (λ l. l ++ object_cells plan.objects c.args.handlers.items) c.in_ok-cells.ensures))
    (are_first _ _ g.H.Handler.kind g.H.Handler.times g.H.Handler.total plan c.args.jobs.items c.args.handlers.items c.requires.jobs c.requires.handlers) in
    let none = sym c.new-2.ensures.items in
    opens_as _ _ (terms_with plan cells limits 0) (terms_with plan cells limits (length c.new-2.result.items)) [] c.new-2.result.items
    (ap (λ (l : List Event). terms_with plan cells limits (length l)) none) none (opens_first _ _ (terms_with plan cells limits 0) first)

pub returns-in-Ok-clause-first : goal.returns-in-Ok-clause-first
returns-in-Ok-clause-first g c =
    let plan = c.args.plan.now in
    let first = subst (AreFirst (shape_of g.H.Handler.kind g.H.Handler.times g.H.Handler.total) plan) (sym (c.in_ok-add_objects.ensures ∙ ap (λ l. l ++ object_cells plan.objects c.args.handlers.items) c.in_ok-cells.ensures))
    (are_first _ _ g.H.Handler.kind g.H.Handler.times g.H.Handler.total plan c.args.jobs.items c.args.handlers.items c.requires.jobs c.requires.handlers) in
    subst (λ (t : Terms _). AreFirst (shape_of g.H.Handler.kind g.H.Handler.times g.H.Handler.total) t.plan t.cells) (sym c.in-Ok.ensures.terms) first

use Rattle.std.proofs.Common.{arith, ◌≡◌, ◌≤◌, ◌<◌, ◌+◌, ◌∷◌, [], ◌++◌, List, ℕ, length, get_or, add-one, sym, ap, subst, ◌∙◌, take}
use Rattle.std.proofs.lemmas.List.{take_all, length-take}
use Rattle.std.specs.Mem.Slots.{slots_items}
use Rattle.gcd_event.specs.declared.event.Event.{Event}
use Rattle.gcd_row.specs.Jobs.{placed_jobs}
use Rattle.gcd_row.specs.Ring.{lap}
use Rattle.gcd_row.specs.Passes.{view, AtRest}
use Rattle.gcd_row.proofs.Ending.{closes, event_at, at_value, whole_row}
use Rattle.gcd_row.proofs.pass.RowPass.close_board.Goals as goal

pub push_reserved-requires : goal.push_reserved-requires
push_reserved-requires g c =
    let v = view c.args.self in let old = c.loop-i.invariant in
    let len : c.len-n.result ≡ length v.seen = c.len-n.ensures v.terms.plan v.seen c.requires.pass.stands in
    let read = ap length old.read ∙ length-take c.loop-i.i v.seen in
    let before = ap length c.requires.journal ∙ length-take v.marks.passed v.seen in
    grind (arith, len, read, before, old.low, old.room, c.requires.pass.passed, c.reserve.ensures.ok, c.is_err.ensures, c.if-is_err.false)

pub entry_of-requires : goal.entry_of-requires
entry_of-requires g c =
    let p = c.args.self in let v = view p in let r = c.close_with-closed.result in let q = c.requires.pass in let i = c.loop-i.i in
    let z = closes _ _ c.args.board.table.shared.key p.seat.id v (slots_items r.words) (slots_items r.slots) c.close_with-closed.ensures.values.2 q.may_read c.requires.head c.requires.all_in q.back in
    let len : c.len-n.result ≡ length v.seen = c.len-n.ensures v.terms.plan v.seen q.stands in
    let lt : i < length v.seen = omega (arith, len) in
    let a = event_at v.seen i z.fit lt in
    (a.event, a.fits, at_value (slots_items r.words) c.cell_of.result c.word.result c.word.ensures ∙ ap (λ (k : ℕ). get_or (slots_items r.words) k 0) c.cell_of.ensures ∙ z.words i (omega (arith, c.loop-i.invariant.low, q.passed)) lt ∙ ap (λ (k : ℕ). k + lap i) a.word)

pub loop-i-preserved : goal.loop-i-preserved
loop-i-preserved g c =
    let p = c.args.self in let v = view p in let r = c.close_with-closed.result in let q = c.requires.pass in let i = c.loop-i.i in let old = c.loop-i.invariant in
    let z = closes _ _ c.args.board.table.shared.key p.seat.id v (slots_items r.words) (slots_items r.slots) c.close_with-closed.ensures.values.2 q.may_read c.requires.head c.requires.all_in q.back in
    let len : c.len-n.result ≡ length v.seen = c.len-n.ensures v.terms.plan v.seen q.stands in
    let lt : i < length v.seen = omega (arith, len) in
    let a = event_at v.seen i z.fit lt in
    let same : c.entry_of.result ≡ a.event = c.entry_of.ensures a.event a.fits (at_value (slots_items r.words) c.cell_of.result c.word.result c.word.ensures ∙ ap (λ (k : ℕ). get_or (slots_items r.words) k 0) c.cell_of.ensures ∙ z.words i (omega (arith, old.low, q.passed)) lt ∙ ap (λ (k : ℕ). k + lap i) a.word) in
    record {
      low = omega (arith, old.low);
      high = omega arith;
      read = c.push_reserved.ensures.items ∙ ap (λ (l : List Event). l ++ c.entry_of.result ∷ []) old.read ∙ ap (λ (e : Event). take i v.seen ++ e ∷ []) same ∙ sym (rw add-one a.next);
      room = c.push_reserved.ensures.capacity ∙ old.room;
    }

pub returns-clause-events : goal.returns-clause-events
returns-clause-events g c =
    let v = view c.args.self in
    let len : c.len-n.result ≡ length v.seen = c.len-n.ensures v.terms.plan v.seen c.requires.pass.stands in
    let le : length v.seen ≤ c.loop-i.i = omega arith in
    c.loop-i.invariant.read ∙ take_all c.loop-i.i v.seen le

pub returns-clause-cells : goal.returns-clause-cells
returns-clause-cells g c =
    let p = c.args.self in let v = view p in let r = c.close_with-closed.result in let q = c.requires.pass in
    let z = closes _ _ c.args.board.table.shared.key p.seat.id v (slots_items r.words) (slots_items r.slots) c.close_with-closed.ensures.values.2 q.may_read c.requires.head c.requires.all_in q.back in
    subst (AtRest g.S.Slot.shape g.S.Slot.gives (placed_jobs v) v.seen) (sym c.take_all.ensures) z.rest

pub returns-clause-whole : goal.returns-clause-whole
returns-clause-whole g c = whole_row _ _ c.args.board c.args.self _ c.requires.pass c.requires.head c.requires.all_in (returns-clause-events g c)

use Rattle.std.proofs.Common.{arith, refl, sym, subst, ap, length, None, Some, ◌<◌, ◌≡◌, ◌∙◌, ◌+◌, ◌++◌, ◌∷◌, [], ℕ}
use Rattle.gcd_event.specs.declared.event.Event.{Event}
use Rattle.gcd_event.specs.Words.{word_of}
use Rattle.gcd_history.specs.History.{why}
use Rattle.gcd_machine.specs.Stands.{StandsFor}
use Rattle.gcd_machine.specs.declared.put.Put.TheVariants.{Placed}
use Rattle.gcd_row.specs.Ring.{lap}
use Rattle.gcd_row.specs.Passes.{slots, view}
use Rattle.gcd_row.proofs.Onward.{learnt, learnt_on, placed_here, turns_on}
use Rattle.gcd_row.proofs.Passing.{sees_another, nothing_found, places_own, lays, still_asked, valid_plan}
use Rattle.gcd_row.proofs.board.RowBoard.settle.Goals as goal

pub write-found-requires-clause-valid : goal.write-found-requires-clause-valid
write-found-requires-clause-valid g c = valid_plan _ _ c.args.self.now c.holder.new.pass c.holder.ensures.pass

pub write-found-requires-clause-slot : goal.write-found-requires-clause-slot
write-found-requires-clause-slot g c =
    let p = c.args.pass.now in let q = c.holder.new.pass in let v = view q in
    let is = c.holder.ensures.pass in
    let knew = c.in_default.ensures.held in
    let asks = still_asked g.S.Slot.shape (view p) v c.args.n c.args.e (slots p) (slots q) knew c.holder.ensures.slots c.requires.place.0 c.requires.event.0 c.requires.event.1 c.requires.cell in
    let room = subst (λ t. length v.seen < t.limits.most) (sym is.terms) (omega (arith, asks.0, c.requires.place.1)) in
    lays _ _ c.args.self.now q c.args.e is asks.1 asks.2 asks.3

pub write-found-requires-clause-back : goal.write-found-requires-clause-back
write-found-requires-clause-back g c = c.holder.ensures.pass.back

pub returns-then-found-old-clause-pass : goal.returns-then-found-old-clause-pass
returns-then-found-old-clause-pass g c =
    let p = c.args.pass.now in let q = c.holder.new.pass in let v = view q in
    let is = c.holder.ensures.pass in
    let knew = c.in_default.ensures.held in
    let asks = still_asked g.S.Slot.shape (view p) v c.args.n c.args.e (slots p) (slots q) knew c.holder.ensures.slots c.requires.place.0 c.requires.event.0 c.requires.event.1 c.requires.cell in
    let room = subst (λ t. length v.seen < t.limits.most) (sym is.terms) (omega (arith, asks.0, c.requires.place.1)) in
    let w = c.write-found.ensures.won c.if-found-old.true in
    places_own _ _ c.args.self.now q _ c.args.e is room c.write-found.ensures.board (record { number = refl; passed = refl; floor = refl; upto = refl; beneath = refl }) asks.1 asks.2 w
    (c.apply.ensures.stands _ _ is.stands asks.2)

pub returns-then-found-old-clause-view : goal.returns-then-found-old-clause-view
returns-then-found-old-clause-view g c =
    let p = c.args.pass.now in let q = c.holder.new.pass in let v = view q in
    let is = c.holder.ensures.pass in
    let knew = c.in_default.ensures.held in
    let asks = still_asked g.S.Slot.shape (view p) v c.args.n c.args.e (slots p) (slots q) knew c.holder.ensures.slots c.requires.place.0 c.requires.event.0 c.requires.event.1 c.requires.cell in
    let room = subst (λ t. length v.seen < t.limits.most) (sym is.terms) (omega (arith, asks.0, c.requires.place.1)) in
    let w = c.write-found.ensures.won c.if-found-old.true in
    turns_on c.args.e (view p) v _ (Some (Placed c.args.n)) knew
    (placed_here c.args.e v _ c.args.n asks.0 (subst (λ t. c.args.n < t.limits.most) (sym is.terms) c.requires.place.1) asks.1 asks.2 w.view
    (λ untaken. w.first ∙ nothing_found g.S.Slot.shape g.S.Slot.gives c.args.self.now c.args.e v.first _ untaken) w.handed)

pub returns-clause-pass : goal.returns-clause-pass
returns-clause-pass g c =
    let p = c.args.pass.now in let q = c.holder.new.pass in let v = view q in
    let is = c.holder.ensures.pass in
    let knew = c.in_default.ensures.held in
    let asks = still_asked g.S.Slot.shape (view p) v c.args.n c.args.e (slots p) (slots q) knew c.holder.ensures.slots c.requires.place.0 c.requires.event.0 c.requires.event.1 c.requires.cell in
    let room = subst (λ t. length v.seen < t.limits.most) (sym is.terms) (omega (arith, asks.0, c.requires.place.1)) in
    let l = c.write-found.ensures.lost c.if-found-old.false in
    let f = l.1 in
    let same = c.event_of.ensures f.0 f.1 (f.2 ∙ ap (λ (k : ℕ). word_of f.0 + lap k) (sym asks.0)) in
    sees_another _ _ c.args.self.now q _ f.0 is f.3 room c.write-found.ensures.board (record { number = refl; passed = refl; floor = refl; upto = refl; beneath = refl }) l.0
    (subst (λ (e : Event). StandsFor c.apply-2.new.self v.terms.plan (v.seen ++ e ∷ [])) same (c.apply-2.ensures.stands _ _ is.stands (subst (λ (e : Event). why v.terms.plan v.seen e ≡ None) (sym same) f.3.may)))

pub returns-clause-view : goal.returns-clause-view
returns-clause-view g c =
    let v = view c.holder.new.pass in
    let f = (c.write-found.ensures.lost c.if-found-old.false).1 in
    turns_on c.args.e (view c.args.pass.now) v _ None c.in_default.ensures.held (learnt_on v _ (learnt v _ f.0 f.3))

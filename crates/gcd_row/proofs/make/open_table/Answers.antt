use Rattle.std.proofs.Common.{ap, sym, subst, arith, refl, ◌≡◌, ◌≤◌, ◌∙◌, List, ℕ, length, map}
use Rattle.gcd_event.specs.Words.{word_of}
use Rattle.gcd_plan.specs.Validity.{IsPlan}
use Rattle.gcd_row.specs.Opening.{terms_with}
use Rattle.gcd_row.specs.Ring.{AreFirstWords}
use Rattle.gcd_row.specs.Views.{given_terms}
use Rattle.gcd_row.proofs.Beginning.{opens, opens_as}
use Rattle.gcd_row.proofs.make.open_table.Goals as goal

pub new-requires : goal.new-requires
new-requires g c =
    let k = c.copies_of-copies.ensures in
    let key = c.copies_of-copies.result in
    let workers : key.limits.workers ≡ c.args.limits.workers = ap (λ l. l.workers) k.3 in
    let most : key.limits.most ≡ c.args.limits.most = ap (λ l. l.most) k.3 in
    let h = c.args.history.now.items in
    let begun : key.history.value.items ≡ h = ap (λ v. v.items) k.2 in
    let same : given_terms key ≡ terms_with c.args.plan.now c.args.cells.items c.args.limits (length h) = λ i. record { plan = k.0 i; cells = (k.1 i).items; limits = k.3 i; opened = length (k.2 i).items } in
    let words = subst (λ (l : List ℕ). AreFirstWords c.args.limits.most c.args.limits.workers l (map word_of h)) (sym c.as_slice.ensures.value) (c.in-Ok.ensures c.args.limits.most c.requires.opens.room) in
    opens _ _ key c.as_slice.result.now c.args.cells.items (ap (λ v. v.items) k.1) (subst IsPlan (sym k.0) c.requires.valid) (opens_as _ _ _ _ h _ (sym same) (sym begun) c.requires.opens)
    (omega (arith, workers, c.requires.limits)) (omega (arith, workers, c.requires.limits)) (omega (arith, most, c.well_formed))
    (subst (λ l. AreFirstWords l.most l.workers c.as_slice.result.now (map word_of key.history.value.items)) (sym k.3) (subst (λ l. AreFirstWords c.args.limits.most c.args.limits.workers c.as_slice.result.now (map word_of l)) (sym begun) words))

pub returns-in-Ok-new-clause-words : goal.returns-in-Ok-new-clause-words
returns-in-Ok-new-clause-words g c =
    c.in-Ok-new.ensures.ok.0 ∙ ap length c.as_slice.ensures.value ∙ (c.in-Ok.ensures c.args.limits.most c.requires.opens.room).ring.size

use Rattle.std.proofs.Common.{arith, ◌+◌, ◌≡◌, ◌<◌, ◌-◌, ◌∙◌, ℕ, ap, length, map, subst, sym}
use Rattle.std.proofs.lemmas.List.{get_or-map}
use Rattle.gcd_event.specs.Words.{word_of}
use Rattle.gcd_row.specs.Ring.{HasLap, lap}
use Rattle.gcd_row.proofs.Filling.{lap_more}
use Rattle.gcd_row.proofs.first_words.write_lap.Goals as goal

pub loop-n-preserved : goal.loop-n-preserved
loop-n-preserved c =
    let i = c.loop-n.invariant in
    let h = c.args.history.now.items in
    let n = c.loop-n.n in
    let within : n < length h = omega (arith, c.loop-n-test.true, c.len-n-end.ensures) in
    let is = c.lapped.ensures ∙ ap (λ x. x + lap n) (c.to_word-word.ensures.exact ∙ ap word_of (c.event.ensures.exact ∙ c.index.ensures) ∙ sym (get_or-map word_of h n c.index.result.now 0 within)) in
    let more = lap_more c.args.words.now.items c.loop-n.words.items (map word_of h) (length h - 4096) n c.cell_of.result c.lapped.result c.cell_of.ensures is i.size i.lap
    (omega (arith, c.loop-n.auto.n, c.saturating_sub-first.ensures, c.len.ensures)) (omega (arith, within)) in
    record { size = more.0; lap = more.1 }

pub returns : goal.returns
returns c = λ workers passed blank.
    subst (λ (n : ℕ). HasLap workers passed c.loop-n.words.items (map word_of c.args.history.now.items) (length c.args.history.now.items - 4096) n)
    (omega (arith, c.loop-n-test.false, c.len-n-end.ensures, c.loop-n.auto.n-end, c.saturating_sub-first.ensures, c.len.ensures)) (c.loop-n.invariant.lap workers passed blank)

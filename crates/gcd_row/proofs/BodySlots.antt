-- What a pass may lay into the slot of the block that it holds.
use Rattle.std.proofs.Common.{◌≡◌, ℕ, Bool, true, false, List, [], ◌∷◌, Option, Some, refl, ap, sym, subst, ◌∙◌}
use Rattle.std.proofs.lemmas.Option.{same_Some}
use Rattle.gcd_plan.specs.declared.numbers.Blk.{Blk}
use Rattle.gcd_plan.specs.declared.numbers.Run.{Run}
use Rattle.gcd_plan.specs.declared.numbers.Run.TheVariants.{Block}
use Rattle.gcd_event.specs.declared.event.Event.{Event}
use Rattle.gcd_history.specs.History.{is_block_cancelled}
use Rattle.gcd_row.specs.Shapes.{Shape, body, done, away}
use Rattle.gcd_row.specs.Jobs.{Jobs, May, held_jobs}
use Rattle.gcd_row.specs.Lying.{BodyHeld, HasSlot, HasSlots, MayHold}
use Rattle.gcd_row.specs.Passes.{IsPassOf, slots, view}
use Rattle.gcd_row.specs.Views.{held_run}
use Rattle.gcd_row.specs.declared.board.RowBoard.{RowBoard}
use Rattle.gcd_row.specs.declared.pass.RowPass.{RowPass}
use Rattle.gcd_row.proofs.Holding.{head_of}

module _ {S : Type 0} (shape : S → Shape) (gives : S → ℕ → Type 0) where
  -- the pass has the slot of the block that it holds
  pub block_slot : (b : RowBoard S) (p : RowPass S) (n : Blk) → IsPassOf shape gives b p → held_run (view p) ≡ Some (Block n)
      → (c : S) × (slots p ≡ (n.0, c) ∷ [])
  block_slot b p n is held =
      let had : HasSlot shape gives (held_jobs (view p)) (view p).seen (Block n) (slots p) =
      subst (λ (o : Option Run). HasSlots shape gives (held_jobs (view p)) (view p).seen o (slots p)) held is.has in
      (had.cell, had.here)

  -- the block's body gives only what the block's job may
  pub body_gives : (b : RowBoard S) (p : RowPass S) (n : Blk) (c : S) → IsPassOf shape gives b p → held_run (view p) ≡ Some (Block n) → slots p ≡ (n.0, c) ∷ []
      → shape c ≡ body → (v : ℕ) → gives c v → May gives (held_jobs (view p)) n.0 v
  body_gives b p n c is held here whole v may =
      let marked : Bool = is_block_cancelled (view p).terms.plan (view p).seen n.0 in
      let had : HasSlot shape gives (held_jobs (view p)) (view p).seen (Block n) (slots p) =
      subst (λ (o : Option Run). HasSlots shape gives (held_jobs (view p)) (view p).seen o (slots p)) held is.has in
      let same : had.cell ≡ c = ap (λ (l : List (ℕ × S)). (head_of n.0 c l).1) (sym had.here ∙ here) in
      let come : ℕ → Type 0 = May gives (held_jobs (view p)) n.0 in
      let there : BodyHeld shape gives come c (shape c) marked = subst (λ (x : S). BodyHeld shape gives come x (shape x) marked) same had.may in
      subst (λ (s : Shape). BodyHeld shape gives come c s marked) whole there v may

  module _ (t : Jobs S) (h : List Event) (b : Blk) (o : Option Run) (is : o ≡ Some (Block b)) where
    at_run : (c : S) → MayHold shape gives t h (Block b) c → (r : Run) → o ≡ Some r → MayHold shape gives t h r c
    at_run c may r held = subst (λ (q : Run). MayHold shape gives t h q c) (same_Some (Block b) r (sym is ∙ held)) may

    -- nothing, where the block is not cancelled
    pub away_may : (c : S) → shape c ≡ away → is_block_cancelled t.plan h b.0 ≡ false → (r : Run) → o ≡ Some r → MayHold shape gives t h r c
    away_may c gone works = at_run c (
        subst (λ (s : Shape). BodyHeld shape gives (May gives t b.0) c s (is_block_cancelled t.plan h b.0)) (sym gone)
        (subst (BodyHeld shape gives (May gives t b.0) c away) (sym works) tt))

    -- a value: one that the block's job may give, or 0 where the block is cancelled
    pub done_may : (c : S) (v : ℕ) → shape c ≡ done v
        → (is_block_cancelled t.plan h b.0 ≡ false → May gives t b.0 v)
        → (is_block_cancelled t.plan h b.0 ≡ true → v ≡ 0)
        → (r : Run) → o ≡ Some r → MayHold shape gives t h r c
    done_may c v gave works none = at_run c (
        subst (λ (s : Shape). BodyHeld shape gives (May gives t b.0) c s (is_block_cancelled t.plan h b.0)) (sym gave) (by_mark (is_block_cancelled t.plan h b.0) refl))
      where
        by_mark : (m : Bool) → is_block_cancelled t.plan h b.0 ≡ m → BodyHeld shape gives (May gives t b.0) c (done v) (is_block_cancelled t.plan h b.0)
        by_mark false marked = subst (BodyHeld shape gives (May gives t b.0) c (done v)) (sym marked) (works marked)
        by_mark true marked = subst (BodyHeld shape gives (May gives t b.0) c (done v)) (sym marked) (none marked)

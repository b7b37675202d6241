use Rattle.std.proofs.Common.{◌≡◌, ◌<◌, ◌∙◌, ℕ, suc, List, [], ◌∷◌, ap, arith, drop, length, take, zero-add}
use Rattle.std.specs.Prelude.{All, IfSome, slice_get, slice_index_or, slice_set}
use Rattle.std.proofs.lemmas.List.FromFn.{get_or-map-range_with_len, length-map-range_with_len}
use Rattle.gcd_front.specs.Fronts.{new_mouths}
use Rattle.gcd_front.specs.Views.{FrontView, MouthView, mouth_of}
use Rattle.gcd_callers_example.specs.declared.Line.{Line}
use Rattle.gcd_callers_example.proofs.LinesCallersLine.call.Goals as goal

-- of the mouths of a new front the first has sent these lines, and no other any
sent_by_first : (f : FrontView) (lines : List Line) (mouths : List (MouthView Line)) (m : MouthView Line) → mouths ≡ new_mouths f → m.sent ≡ take 4096 lines
    → IfSome (slice_get (slice_set mouths 0 m) 0) (λ n. n.sent ≡ take 4096 lines) × All (λ n. n.sent ≡ []) (drop 1 (slice_set mouths 0 m))
sent_by_first f lines [] m new sent = (tt, λ k d low. absurd (omega (arith, low)))
sent_by_first f lines (first ∷ others) m new sent = (
  sent,
  λ k d low.
      let one : ℕ → MouthView Line = λ s. mouth_of f.id s [] in
      let many : length (first ∷ others) ≡ f.senders = ap length new ∙ length-map-range_with_len one 0 f.senders in
      let within : suc k < f.senders = omega (arith, low, many) in
      let at : slice_index_or (first ∷ others) (suc k) d ≡ one (suc k) =
      ap (λ (l : List (MouthView Line)). slice_index_or l (suc k) d) new
      ∙ get_or-map-range_with_len one 0 f.senders (suc k) (suc k) d within (zero-add (suc k)) in
      ap (λ (n : MouthView Line). n.sent) at,
)

pub returns-in-Some-clause-called : goal.returns-in-Some-clause-called
returns-in-Some-clause-called g c =
    sent_by_first c.args.front.now c.args.self.now.0.items c.args.mouths.now c.send_all.new.mouth c.requires.new
    (ap (λ (n : MouthView Line). n.sent) c.send_all.ensures)

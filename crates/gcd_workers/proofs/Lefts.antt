-- The mouths of senders, and what is left of them, of the last one first.
use Rattle.std.proofs.Common.{◌≡◌, ◌<◌, ◌∙◌, ◌++◌, ℕ, zero, suc, List, [], ◌∷◌, length, Some, ap, arith, sym, zero-add}
use Rattle.std.specs.Prelude.{slice_get, slice_index_or}
use Rattle.std.proofs.lemmas.List.FromFn.{get_or-map-range_with_len, length-map-range_with_len}
use Rattle.std.proofs.lemmas.Option.{get_or_from_slice_get, same_Some, slice_get_within}
use Rattle.gcd_plan.proofs.Places.{slice_get-append_left, slice_get-append_seam}
use Rattle.gcd_front.specs.Fronts.{AreSettled, IsTakenOf, new_mouths}
use Rattle.gcd_front.specs.Views.{FrontView, IntakeView, MouthView, left_of, mouth_of}
use Rattle.gcd_workers.specs.CalledRuns.{AreBySender, SendersStay, lefts_of}

-- what is so of all that is left is so of each mouth
pub taken_of_each : {X : Type 0} (f : FrontView) (i : IntakeView X) (mouths : List (MouthView X)) → AreSettled i (lefts_of mouths)
    → (k : ℕ) (m : MouthView X) → slice_get mouths k ≡ Some m → m.sender < f.senders → IsTakenOf f i m.sender m.sent
taken_of_each f i [] all k m at few = absurd (cc)
taken_of_each f i (first ∷ mouths) all zero m at few =
    let own = all (length (lefts_of mouths)) (left_of m)
    (slice_get-append_seam (lefts_of mouths) (left_of first) [] ∙ ap (λ x. Some (left_of x)) (same_Some first m at)) in
    record { rest = own.rest; begins = own.begins; all = λ knows took. own.all took (knows m.sender few) }
taken_of_each f i (first ∷ mouths) all (suc k) m at few =
    taken_of_each f i mouths
    (λ j l here. all j l (slice_get-append_left (lefts_of mouths) (left_of first ∷ []) j (slice_get_within (lefts_of mouths) j l here) ∙ here)) k m at few

-- if each mouth of a new front is still of its sender, the one at place k is that of sender k
pub by_sender : {X : Type 0} (f : FrontView) (old new : List (MouthView X)) → old ≡ new_mouths f → length new ≡ length old → SendersStay old new
    → AreBySender new
by_sender {X} f old new first long stay k m at =
    let one : ℕ → MouthView X = λ s. mouth_of f.id s [] in
    let many : length old ≡ f.senders = ap length first ∙ length-map-range_with_len one 0 f.senders in
    let low : k < length old = let within = slice_get_within new k m at in omega (arith, within, long) in
    let was : slice_index_or old k m ≡ one k =
    ap (λ (l : List (MouthView X)). slice_index_or l k m) first ∙ get_or-map-range_with_len one 0 f.senders k k m (omega (arith, low, many)) (zero-add k) in
    ap (λ (n : MouthView X). n.sender) (sym (get_or_from_slice_get new k m m at)) ∙ stay k m low ∙ ap (λ (n : MouthView X). n.sender) was

-- nothing stands before
pub none_before : {A : Type 0} (xs done all : List A) → length xs ≡ 0 → xs ++ done ≡ all → done ≡ all
none_before [] done all none is = is
none_before (x ∷ xs) done all none is = absurd (cc)

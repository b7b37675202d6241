-- What senders hand in, one by one, and what was taken of it.
use Rattle.std.proofs.Common.{◌≡◌, ◌+◌, ◌++◌, ℕ, List, [], ◌∷◌, length, map, zero-add, ap, sym, ◌∙◌, ◌<◌, arith}
use Rattle.std.proofs.lemmas.List.FromFn.{get_or-map-range_with_len, length-map-range_with_len, map-range_with_len_more}
use Rattle.std.proofs.lemmas.Option.{get_or_from_slice_get, slice_get_within}
use Rattle.std.specs.Prelude.{All, slice_index_or}
use Rattle.std.specs.List.{range_with_len}
use Rattle.gcd_front.specs.Fronts.{IsMouthOf, new_mouths}
use Rattle.gcd_front.specs.Views.{FrontView, MouthView, mouth_of}
use Rattle.gcd_commands.specs.Senders.{EachSends, HaveSent, IsOpen, told, told_by}
use Rattle.gcd_commands.specs.declared.front_job.Told.{Told}

-- one job more
pub told_more : (s k : ℕ) → told_by s (k + 1) ≡ told_by s k ++ told s (k + 1) ∷ []
told_more s k = map-range_with_len_more (told s) 1 k (k + 1) (omega arith)

-- ## Mouths through which nothing was sent

module _ (f : FrontView) (mouths : List (MouthView Told)) (new : mouths ≡ new_mouths f) where
  -- there is one for each number
  new_count : length mouths ≡ f.senders
  new_count = ap length new ∙ length-map-range_with_len (λ s. mouth_of f.id s []) 0 f.senders

  new_at : (s : ℕ) (d : MouthView Told) → s < length mouths → slice_index_or mouths s d ≡ mouth_of f.id s []
  new_at s d low =
      ap (λ (l : List (MouthView Told)). slice_index_or l s d) new
      ∙ get_or-map-range_with_len (λ t. mouth_of f.id t []) 0 f.senders s s d (omega (arith, low, new_count)) (zero-add s)

  -- each is open
  pub all_open : All (IsMouthOf f) mouths → All (IsOpen f) mouths
  all_open of s d low = record { of_front = of s d low; none = ap (λ (m : MouthView Told). m.sent) (new_at s d low) }

  -- each has sent its share
  pub have_sent : (share : ℕ) (after : List (MouthView Told)) → length after ≡ length mouths → EachSends share mouths after → HaveSent share after
  have_sent share after count each s m at =
      let low : s < length mouths = let within = slice_get_within after s m at in omega (arith, within, count) in
      let now : m ≡ mouth_of f.id s (told_by s share) =
      sym (get_or_from_slice_get after s m m at) ∙ each s m low
      ∙ ap (λ (o : MouthView Told). mouth_of o.front o.sender (told_by o.sender share)) (new_at s m low) in
      ap (λ (o : MouthView Told). o.sent) now

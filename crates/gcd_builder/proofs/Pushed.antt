-- Made blocks that are pushed one after the other.
use Rattle.std.proofs.Common.{ℕ, ◌≡◌, ◌+◌, List, [], ◌∷◌, ◌++◌, map, refl, sym, ap, ◌∙◌}
use Rattle.std.specs.List.{range_with_len}
use Rattle.std.proofs.lemmas.List.{append-nil, append_assoc, map_push}
use Rattle.std.proofs.lemmas.List.FromFn.{map-range_with_len_more}
use Rattle.gcd_plan.specs.declared.parts.BlkPart.{BlkPart}
use Rattle.gcd_plan.specs.PlanView.{BlkView, blk_view}

-- none is pushed yet
pub none_pushed : (parts : List BlkPart) (make : ℕ → BlkView) (a : ℕ) → map blk_view parts ≡ map blk_view parts ++ map make (range_with_len a 0)
none_pushed parts make a = sym (append-nil (map blk_view parts))

-- one more
pub one_pushed : (before : List BlkView) (parts : List BlkPart) (one : BlkPart) (make : ℕ → BlkView) (a k : ℕ) → map blk_view parts ≡ before ++ map make (range_with_len a k) → blk_view one ≡ make (a + k)
    → map blk_view (parts ++ one ∷ []) ≡ before ++ map make (range_with_len a (k + 1))
one_pushed before parts one make a k is own =
    map_push blk_view parts one
    ∙ ap (λ l. l ++ blk_view one ∷ []) is
    ∙ append_assoc before (map make (range_with_len a k)) (blk_view one ∷ [])
    ∙ ap (λ v. before ++ (map make (range_with_len a k) ++ v ∷ [])) own
    ∙ ap (λ l. before ++ l) (sym (map-range_with_len_more make a k (a + k) refl))

-- What is read of a list one element after another, and joined to a list of its own.
use Rattle.std.proofs.Common.{◌≡◌, ℕ, zero, suc, ◌+◌, ◌<◌, nat_lt, Bool, cond, not, List, [], ◌∷◌, ◌++◌, length, map, take, get_or, Option, Some, None, refl, ap, sym, ◌∙◌, arith}
use Rattle.std.specs.List.{position, position_or_len, slice_get}
use Rattle.std.specs.Option.{option_map, option_map_or}
use Rattle.std.proofs.lemmas.List.{length-map}
use Rattle.std.proofs.lemmas.Option.{none-some, same_Some}

-- an element more of a mapped list
map_take_found : {X Y : Type 0} (f : X → Y) (y : Y) (xs : List X) (i : ℕ) → option_map f (slice_get xs i) ≡ Some y
    → map f (take (i + 1) xs) ≡ map f (take i xs) ++ y ∷ []
map_take_found f y [] i found = absurd (none-some y found)
map_take_found f y (x ∷ xs) zero found = ap (λ z. z ∷ []) (same_Some (f x) y found)
map_take_found f y (x ∷ xs) (suc i) found =
    let e : suc i + 1 ≡ suc (i + 1) = omega arith in
    ap (λ n. map f (take n (x ∷ xs))) e ∙ ap (λ ys. f x ∷ ys) (map_take_found f y xs i found)

-- the list so far, and an element more
pub map_goes_on : {X Y : Type 0} (f : X → Y) (y : Y) (xs : List X) (i : ℕ) (vs ws : List Y) → vs ≡ map f (take i xs) → ws ≡ vs ++ y ∷ []
    → option_map f (slice_get xs i) ≡ Some y → ws ≡ map f (take (i + 1) xs)
map_goes_on f y xs i vs ws so_far pushed found =
    pushed ∙ ap (λ us. us ++ y ∷ []) so_far ∙ sym (map_take_found f y xs i found)

-- what is read within a list, where something else stands past its end
pub found_within : {X Y : Type 0} (f : X → Y) (y d : Y) (xs : List X) (i : ℕ) → i < length xs → y ≡ option_map_or f (slice_get xs i) d
    → option_map f (slice_get xs i) ≡ Some y
found_within f y d [] i within read = absurd (omega arith)
found_within f y d (x ∷ xs) zero within read = ap Some (sym read)
found_within f y d (x ∷ xs) (suc i) within read = found_within f y d xs i (omega arith) read

-- a test of what is read
pub test_found : {X Y Z : Type 0} (f : X → Y) (g : Y → Z) (y : Y) (z : Z) (o : Option X) → option_map f o ≡ Some y → z ≡ g y
    → option_map (λ x. g (f x)) o ≡ Some z
test_found f g y z None found is = absurd (none-some y found)
test_found f g y z (Some x) found is = ap Some (ap g (same_Some (f x) y found) ∙ sym is)

-- an element of a mapped list, or what stands past its end
pub get_or-mapped : {X Y : Type 0} (f : X → Y) (xs : List X) (i : ℕ) (d : Y) → get_or (map f xs) i d ≡ option_map_or f (slice_get xs i) d
get_or-mapped f [] i d = refl
get_or-mapped f (x ∷ xs) zero d = refl
get_or-mapped f (x ∷ xs) (suc i) d = get_or-mapped f xs i d

-- ## The place of an element

-- how many elements stand before the first that passes
place_of_mapped : {X Y : Type 0} (p : Y → Bool) (f : X → Y) (xs : List X) → position_or_len p (map f xs) ≡ position_or_len (λ x. p (f x)) xs
place_of_mapped p f [] = refl
place_of_mapped p f (x ∷ xs) = ap (λ (n : ℕ). cond (not (p (f x))) (1 + n) 0) (place_of_mapped p f xs)

-- the place of the first element that passes
pub position_of_mapped : {X Y : Type 0} (p : Y → Bool) (f : X → Y) (xs : List X) → position p (map f xs) ≡ position (λ x. p (f x)) xs
position_of_mapped p f xs =
    ap (λ (n : ℕ). cond (nat_lt (position_or_len p (map f xs)) n) (Some (position_or_len p (map f xs))) None) (length-map xs f)
    ∙ ap (λ (n : ℕ). cond (nat_lt n (length xs)) (Some n) None) (place_of_mapped p f xs)

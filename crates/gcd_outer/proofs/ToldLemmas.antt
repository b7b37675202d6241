-- What is told of a feed by two lists of tells, or of answers, one after the other.
use Rattle.std.proofs.Common.{◌≡◌, ◌∙◌, ◌++◌, ◌||◌, ◌&&◌, ◌==◌, ℕ, Bool, true, false, List, [], ◌∷◌, if◌then◌else◌, ap, sym, subst, append-nil, append_assoc, refl, ⊎_elim}
use Rattle.std.specs.List.{list_any, flat_map}
use Rattle.std.proofs.lemmas.Bool.{eqb-true, or_cases}
use Rattle.std.proofs.lemmas.Grind.{flat_map-append}
use Rattle.std.proofs.lemmas.List.Folds.{list_any-append}
use Rattle.gcd_outer.specs.declared.tell.Tell.{Tell}
use Rattle.gcd_outer.specs.Tells.{AreTells, ended_after, has_end, is_end_told, is_named, tell_bytes, told_in, told_of}

-- one tell and the others
tell_step : (named ended later : Bool) (bytes ts us both : List ℕ) → both ≡ ts ++ (if later then [] else us)
    → (if named then bytes ++ (if ended then [] else both) else both)
    ≡ (if named then bytes ++ (if ended then [] else ts) else ts) ++ (if (named && ended) || later then [] else us)
tell_step true true later bytes ts us both is = sym (append-nil (bytes ++ []))
tell_step true false later bytes ts us both is = ap (λ (b : List ℕ). bytes ++ b) is ∙ sym (append_assoc bytes ts _)
tell_step false ended later bytes ts us both is = is

pub told_in-append : (s : ℕ) (ts us : List Tell) → told_in s (ts ++ us) ≡ told_in s ts ++ (if has_end s ts then [] else told_in s us)
told_in-append s [] us = refl
told_in-append s (t ∷ ts) us =
    tell_step (t.feed == s) t.ended (has_end s ts) (tell_bytes t) (told_in s ts) (told_in s us) (told_in s (ts ++ us)) (told_in-append s ts us)

-- an end is told by the tells of the answers together
has_end-flat : (s : ℕ) (answers : List (List Tell)) → has_end s (flat_map (λ answer. answer) answers) ≡ is_end_told s answers
has_end-flat s [] = refl
has_end-flat s (a ∷ rest) =
    list_any-append (λ t. t.feed == s && t.ended) a (flat_map (λ answer. answer) rest) ∙ ap (λ (b : Bool). has_end s a || b) (has_end-flat s rest)

pub told_of-append : (s : ℕ) (A B : List (List Tell)) → told_of s (A ++ B) ≡ told_of s A ++ (if is_end_told s A then [] else told_of s B)
told_of-append s A B =
    let flat = λ (C : List (List Tell)). flat_map (λ (answer : List Tell). answer) C in
    ap (told_in s) (flat_map-append (λ (answer : List Tell). answer) A B)
    ∙ told_in-append s (flat A) (flat B)
    ∙ ap (λ (e : Bool). told_of s A ++ (if e then [] else told_of s B)) (has_end-flat s A)

pub told_of-one : (s : ℕ) (answer : List Tell) → told_of s (answer ∷ []) ≡ told_in s answer
told_of-one s answer = ap (told_in s) (append-nil answer)

pub is_end_told-append : (s : ℕ) (A B : List (List Tell)) → is_end_told s (A ++ B) ≡ (is_end_told s A || is_end_told s B)
is_end_told-append s A B = list_any-append (has_end s) A B

-- ## Empty answers

-- ## Feeds of which nothing is told

unnamed_step : (named ended rest_end : Bool) (bytes rest : List ℕ) (later : Bool) → (named || later) ≡ false
    → ((later ≡ false) → (rest ≡ []) × (rest_end ≡ false))
    → ((if named then bytes ++ (if ended then [] else rest) else rest) ≡ []) × (((named && ended) || rest_end) ≡ false)
unnamed_step true ended rest_end bytes rest later h none = cc
unnamed_step false ended rest_end bytes rest later h none = none h

-- a feed that no tell names: nothing is told of it, and no end
pub unnamed_tells_nothing : (s : ℕ) (ts : List Tell) → is_named s ts ≡ false → (told_in s ts ≡ []) × (has_end s ts ≡ false)
unnamed_tells_nothing s [] h = (refl, refl)
unnamed_tells_nothing s (t ∷ ts) h =
    unnamed_step (t.feed == s) t.ended (has_end s ts) (tell_bytes t) (told_in s ts) (is_named s ts) h (unnamed_tells_nothing s ts)

named_flat : (s : ℕ) (answers : List (List Tell)) → is_named s (flat_map (λ answer. answer) answers) ≡ list_any (is_named s) answers
named_flat s [] = refl
named_flat s (a ∷ rest) =
    list_any-append (λ t. t.feed == s) a (flat_map (λ answer. answer) rest) ∙ ap (λ (b : Bool). is_named s a || b) (named_flat s rest)

-- the same of answers
pub unnamed_told_nothing : (s : ℕ) (answers : List (List Tell)) → list_any (is_named s) answers ≡ false
    → (told_of s answers ≡ []) × (is_end_told s answers ≡ false)
unnamed_told_nothing s answers h =
    let flat = flat_map (λ (answer : List Tell). answer) answers in
    let nothing = unnamed_tells_nothing s flat (named_flat s answers ∙ h) in
    (nothing.0, sym (has_end-flat s answers) ∙ nothing.1)

-- what may be told is of watched feeds
pub named_are_watched : (watched ended : ℕ → Bool) (ts : List Tell) (s : ℕ) → AreTells watched ended ts → is_named s ts ≡ true → watched s ≡ true
named_are_watched watched ended [] s told h = cc
named_are_watched watched ended (t ∷ ts) s told h =
    ⊎_elim
    (λ (first : (t.feed == s) ≡ true). subst (λ (f : ℕ). watched f ≡ true) (eqb-true t.feed s first) told.0)
    (λ (later : is_named s ts ≡ true). named_are_watched watched (ended_after ended t) ts s told.3 later)
    (or_cases (t.feed == s) (is_named s ts) h)

-- What follows where words mean a value.
use Rattle.std.proofs.Common.{ℕ, ◌≡◌, Bool, true, false, ◌&&◌, cond, leb, List, [], ◌∷◌, Some, Ok, Err, decimal, refl, ap, subst}
use Rattle.std.specs.Option.{option_map_or}
use Rattle.std.specs.Str.{bytes_eq}
use Rattle.std.specs.Str.Parse.{digits_value}
use Rattle.std.proofs.lemmas.Bool.{and_parts}
use Rattle.gcd_script.specs.declared.refusal.Refusal.{Refusal}
use Rattle.gcd_script.specs.declared.refusal.Refusal.TheVariants.{NoForm, BadNumber}
use Rattle.gcd_script.specs.Declarations.{one_of}
use Rattle.gcd_script.specs.Keywords.{pick}
use Rattle.gcd_script.specs.Meant.{Meant, meant, then_meant, both, must, given}
use Rattle.gcd_script.specs.Words.{number, is_number}

-- what was made is made of a value
pub made_of : {A B : Type 0} (make : A → B) (m : Meant A) (b : B) → meant make m ≡ Ok b → (a : A) × (m ≡ Ok a) × (make a ≡ b)
made_of make (Ok a) b h = (a, refl, cc)
made_of make (Err p) b h = cc

-- what follows a value
pub follows : {A B : Type 0} (next : A → Meant B) (m : Meant A) (b : B) → then_meant next m ≡ Ok b → (a : A) × (m ≡ Ok a) × (next a ≡ Ok b)
follows next (Ok a) b h = (a, refl, h)
follows next (Err p) b h = cc

-- both values
pub both_are : {A B : Type 0} (m : Meant A) (n : Meant B) (a : A) (b : B) → both m n ≡ Ok (a, b) → (m ≡ Ok a) × (n ≡ Ok b)
both_are {A} {B} (Ok x) (Ok y) a b h = let same : ◌≡◌ {A = A × B} (x, y) (a, b) = cc in (ap (λ p. Ok p.0) same, ap (λ p. Ok p.1) same)
both_are (Ok x) (Err q) a b h = cc
both_are (Err p) (Ok y) a b h = cc
both_are (Err p) (Err q) a b h = cc

-- a test that held
pub held : (test : Bool) (why : Refusal) (u : Unit {0}) → must test why ≡ Ok u → test ≡ true
held true why u h = refl
held false why u h = cc

pub passed : {A : Type 0} (test : Bool) (m : Meant A) (a : A) → given test m ≡ Ok a → m ≡ Ok a
passed true m a h = h
passed false m a h = cc

-- a number in its range
pub in_range : (low high : ℕ) (word : List ℕ) (n : ℕ) → number low high word ≡ Ok n → (leb low n && leb n high) ≡ true
in_range low high word n h =
    let v = digits_value 10 word in
    elim (is_number low high word) as (λ t. is_number low high word ≡ t → cond t (Ok v) (Err BadNumber) ≡ Ok n → (leb low n && leb n high) ≡ true) [
      | true ↦ λ e k.
          let same : v ≡ n = cc in
          subst (λ m. (leb low m && leb m high) ≡ true) same (and_parts (bytes_eq word (decimal v)) (leb low v && leb v high) e).1
      | false ↦ λ e k. cc
    ] refl h

-- what holds beside each word of a table holds of what is picked
abbrev pub EachRow : {A : Type 0} → (A → Type 0) → List (List ℕ × A) → Type 0
EachRow P [] = Unit {0}
EachRow P (row ∷ rows) = P row.1 × EachRow P rows

picked : {A : Type 0} (P : A → Type 0) (rows : List (List ℕ × A)) (word : List ℕ) (a : A) → EachRow P rows → option_map_or Ok (pick rows word) (Err NoForm) ≡ Ok a → P a
picked P [] word a each h = cc
picked P (row ∷ rows) word a each h =
    elim (bytes_eq word row.0) as (λ t. option_map_or Ok (cond t (Some row.1) (pick rows word)) (Err NoForm) ≡ Ok a → P a) [
      | true ↦ λ k. let same : row.1 ≡ a = cc in subst P same each.0
      | false ↦ λ k. picked P rows word a each.1 k
    ] h

pub one_is : {A : Type 0} (P : A → Type 0) (rows : List (List ℕ × A)) (word : List ℕ) (a : A) → EachRow P rows → one_of rows word ≡ Ok a → P a
one_is P rows word a each h = picked P rows word a each h

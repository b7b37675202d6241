-- Options and their tests: what std lacks.
use Rattle.std.proofs.Common.{◌≡◌, ℕ, ◌==◌, true, false, Option, Some, None, is_some, refl, ap}
use Rattle.std.specs.Option.{is_none, option_map_or, option_map, option_or}
use Rattle.std.proofs.lemmas.Bool.{eqb-true}

pub some_from_is_some : {A : Type 0} (o : Option A) → is_some o ≡ true → (x : A) × (o ≡ Some x)
some_from_is_some None h = cc
some_from_is_some (Some x) h = (x, refl)

pub none_from_is_some : {A : Type 0} (o : Option A) → is_some o ≡ false → o ≡ None
none_from_is_some None h = refl
none_from_is_some (Some x) h = cc

pub none_from_is_none : {A : Type 0} (o : Option A) → is_none o ≡ true → o ≡ None
none_from_is_none None h = refl
none_from_is_none (Some x) h = cc

pub option_or-none : {A : Type 0} (o : Option A) → option_or o None ≡ o
option_or-none None = refl
option_or-none (Some x) = refl

pub option_map_or-map : {A B C : Type 0} (f : A → B) (g : B → C) (o : Option A) (d : C) → option_map_or g (option_map f o) d ≡ option_map_or (λ x. g (f x)) o d
option_map_or-map f g None d = refl
option_map_or-map f g (Some x) d = refl

-- the number that is told
pub some_from_eqb : (o : Option ℕ) (n : ℕ) → option_map_or (λ v. v == n) o false ≡ true → o ≡ Some n
some_from_eqb None n h = cc
some_from_eqb (Some v) n h = ap Some (eqb-true v n h)

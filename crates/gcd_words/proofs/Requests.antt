-- What the parser's clauses say of the request.
use Rattle.std.proofs.Common.{◌≡◌, ◌∙◌, ◌⊎◌, true, false, List, [], ◌∷◌, Option, Some, None, ap, ap₂, refl, sym, codes, inl, inr}
use Rattle.std.specs.Prelude.{is_some, option_map}
use Rattle.std.specs.Str.{bytes_eq}
use Rattle.clap.specs.Words.{App, IsAmong, Row, Text, fault_of, is_simple, is_simple_and_free, subcommand_of, takes}
use Rattle.clap.specs.Words.{Kinds}
use Rattle.clap.specs.declared.error.kind.ErrorKind.{ErrorKind}
use Rattle.clap.specs.declared.error.kind.ErrorKind.TheVariants as kind
use Rattle.clap.proofs.OnLiterals.{clap_on_literals}
use Rattle.clap.proofs.WalkLemmas.{both}
use Rattle.gcd_facts.proofs.Options.{is_some-option_map}
use Rattle.gcd_words.specs.CommandLine.{big_app, check_app, front_app, gcd_app, run_app}
use Rattle.gcd_words.specs.Asked.{AreTaken, Asked, asked_by, big_in, check_in, front_in, request_of, run_in}

-- the command line is one of which the parser's clauses are exact
pub gcd_is_simple : is_simple_and_free gcd_app ≡ true
unfolding gcd_app run_app check_app big_app front_app clap_on_literals
gcd_is_simple = refl

-- a name and rows that were read are those of the pair
pub pair_of : {X : Type 0} (f : X → Text × List Row) (o : Option X) (name : Text) (rows : List Row)
    → Some name ≡ option_map (λ b. (f b).0) o → Some rows ≡ option_map (λ p. p.1) (option_map f o) → option_map f o ≡ Some (name, rows)
pair_of f None name rows named read = cc
pair_of f (Some b) name rows named read =
    let n : name ≡ (f b).0 = cc in
    let r : rows ≡ (f b).1 = cc in
    ap (λ p. Some p) (ap₂ (λ (x : Text) (y : List Row). (x, y)) (sym n) (sym r))

pub as_run : (name : Text) (rows : List Row) → bytes_eq name (codes "run") ≡ true → asked_by (name, rows) ≡ run_in rows
unfolding asked_by
as_run name rows e = rw e refl

pub as_check : (name : Text) (rows : List Row) → bytes_eq name (codes "run") ≡ false → bytes_eq name (codes "check") ≡ true
    → asked_by (name, rows) ≡ check_in rows
unfolding asked_by
as_check name rows e f = rw (e, f) refl

pub as_big : (name : Text) (rows : List Row) → bytes_eq name (codes "run") ≡ false → bytes_eq name (codes "check") ≡ false
    → bytes_eq name (codes "big") ≡ true → asked_by (name, rows) ≡ big_in rows
unfolding asked_by
as_big name rows e f g = rw (e, f, g) refl

pub as_front : (name : Text) (rows : List Row) → bytes_eq name (codes "run") ≡ false → bytes_eq name (codes "check") ≡ false
    → bytes_eq name (codes "big") ≡ false → asked_by (name, rows) ≡ front_in rows
unfolding asked_by
as_front name rows e f g = rw (e, f, g) refl

-- words that were taken
pub taken : (a : App) (sub : Option (Text × List Row)) (words : List Text) → a ≡ gcd_app
    → (is_simple a ≡ true → sub ≡ subcommand_of a words) → (is_simple_and_free a ≡ true → fault_of a words ≡ [])
    → option_map asked_by sub ≡ request_of words
unfolding request_of
taken a sub words is matches kinds =
    let free : is_simple_and_free a ≡ true = ap is_simple_and_free is ∙ gcd_is_simple in
    let fault : fault_of gcd_app words ≡ [] = ap (λ x. fault_of x words) (sym is) ∙ kinds free in
    let same : sub ≡ subcommand_of gcd_app words = matches (both _ _ free).0 ∙ ap (λ x. subcommand_of x words) is in
    rw (fault, same) refl

-- words that were refused for another cause than memory
pub refused : (a : App) (words : List Text) (k : ErrorKind) → a ≡ gcd_app
    → (is_simple_and_free a ≡ true → (k ≡ kind.OutOfMemory) ⊎ IsAmong k (fault_of a words)) → (k ≡ kind.OutOfMemory → ⊥)
    → None ≡ request_of words
unfolding request_of
refused a words k is kinds other = go (kinds (ap is_simple_and_free is ∙ gcd_is_simple))
  where
    at : (kinds : Kinds) → fault_of gcd_app words ≡ kinds → IsAmong k kinds → None ≡ request_of words
    at [] e h = absurd h
    at (x ∷ xs) e h = rw e refl

    go : (k ≡ kind.OutOfMemory) ⊎ IsAmong k (fault_of a words) → None ≡ request_of words
    go (inl memory) = absurd (other memory)
    go (inr among) = at (fault_of a words) (ap (λ x. fault_of x words) (sym is)) among

-- what a function made of the rows is what they ask for
pub asked_at : {X : Type 0} (f : X → Text × List Row) (o : Option X) (name : Text) (rows : List Row) (made : Asked) {from : Asked}
    → Some name ≡ option_map (λ b. (f b).0) o → Some rows ≡ option_map (λ p. p.1) (option_map f o)
    → made ≡ from → asked_by (name, rows) ≡ from → Some made ≡ option_map asked_by (option_map f o)
asked_at f o name rows made named read is by = rw (pair_of f o name rows named read) (ap (λ a. Some a) (is ∙ sym by))

-- words that are taken are not refused
pub never : (a : App) (words : List Text) (k : ErrorKind) → a ≡ gcd_app → (takes a words ≡ true → k ≡ kind.OutOfMemory)
    → (k ≡ kind.OutOfMemory → ⊥) → AreTaken words → false ≡ true
never a words k is passes other t = absurd (other (passes (ap (λ x. takes x words) is ∙ t.taken)))

-- words that name a command ask for something
pub asks : {R : Type 0} (of : R → Asked) (a : App) (r : Option R) (sub : Option (Text × List Row)) (words : List Text) → a ≡ gcd_app
    → (is_simple a ≡ true → sub ≡ subcommand_of a words) → option_map of r ≡ option_map asked_by sub → AreTaken words → is_some r ≡ true
asks of a r sub words is matches made t =
    let free : is_simple_and_free a ≡ true = ap is_simple_and_free is ∙ gcd_is_simple in
    let same : sub ≡ subcommand_of gcd_app words = matches (both _ _ free).0 ∙ ap (λ x. subcommand_of x words) is in
    sym (is_some-option_map of r) ∙ ap is_some made ∙ is_some-option_map asked_by sub ∙ ap is_some same ∙ t.named

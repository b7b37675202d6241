-- What a shelf in memory holds.
use Rattle.std.specs.Prelude.{ℕ, List, Option, option_map, String, Vec}
use Rattle.std.specs.BTreeMap.{BTreeMap, get_by_text}

-- the bytes under a name
abbrev pub content_of : {A B : Type 0} → BTreeMap (String A) (Vec ℕ B) → List ℕ → Option (List ℕ)
content_of pages name = option_map (λ bytes. bytes.items) (get_by_text pages name)

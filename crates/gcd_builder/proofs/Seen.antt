-- Answers of std as the definitions see them.
use Rattle.std.proofs.Common.{◌≡◌, length, map, vec_len, sym, ◌∙◌}
use Rattle.std.proofs.lemmas.List.{length-map}
use Rattle.std.specs.declared.vec.Vec.{Vec}

-- the length of a vector is that of the list that it is seen as
pub seen_length : {X Y Z : Type 0} (f : X → Y) (v : Vec X Z) → vec_len v ≡ length (map f v.items)
seen_length f v = v.ok.0 ∙ sym (length-map v.items f)

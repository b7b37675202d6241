-- What a used name stands for.
use Rattle.std.proofs.Common.{ℕ, ◌≡◌, ◌<◌, Bool, true, false, cond, ltb, List, [], ◌∷◌, length, map, Some, None, Ok, Err, option_map, slice_get, codes, refl, ap, ◌∙◌, subst, arith, Option, not, ◌&&◌, sym}
use Rattle.std.specs.Option.{option_map_or, option_or}
use Rattle.std.specs.Str.{bytes_eq}
use Rattle.std.proofs.lemmas.Bool.{and_from, lt-ltb, not_from_false}
use Rattle.std.proofs.lemmas.List.{length-map}
use Rattle.gcd_plan.specs.Kinds.{has_kind}
use Rattle.gcd_plan.specs.PlanView.{PlanView, ObjView, BlkView, FileView, StripView}
use Rattle.gcd_plan.specs.Validity.{IsPlan, is_declared}
use Rattle.gcd_plan.specs.declared.kind.Kind.{Kind}
use Rattle.gcd_plan.specs.declared.numbers.Blk.{Blk}
use Rattle.gcd_plan.specs.declared.numbers.Obj.{Obj}
use Rattle.gcd_builder.specs.declared.meaning.Meaning.{Meaning}
use Rattle.gcd_builder.specs.declared.meaning.Meaning.TheVariants.{File, Object, Block, Strip}
use Rattle.gcd_script.specs.declared.refusal.Refusal.TheVariants.{UnknownName, OtherKind}
use Rattle.gcd_builder.specs.Names.{place_of, meaning_among, meaning_of}
use Rattle.gcd_script.specs.Words.{known, file, block, object, object_but_root, as_file, as_block, as_object, but_root, strip, as_strip}
use Rattle.gcd_script.proofs.Inversions.{follows}
use Rattle.gcd_builder.proofs.Places.{place_within, place_above, place_stands}
use Rattle.gcd_plan.specs.Names.{is_name}
use Rattle.gcd_plan.specs.Made.{is_made}
use Rattle.gcd_plan.proofs.Places.{slice_get_some}
use Rattle.gcd_builder.proofs.MadeNames.{named_not_made}
use Rattle.std.proofs.lemmas.Option.{same_Some, slice_get-map}

-- where a meaning comes from
pub data Found (plan : PlanView) (name : List ℕ) : Meaning → Type 0 where
  in_files : {f : ℕ} → place_of name (map (λ (x : FileView). x.name) plan.files) ≡ Some f → Found plan name (File f)
  in_objects : {o : Obj} → place_of name (map (λ (x : ObjView). x.name) plan.objects) ≡ Some o.0 → Found plan name (Object o)
  in_strips : {a : ℕ} → place_of name (map (λ (x : StripView). x.name) plan.strips) ≡ Some a → Found plan name (Strip a)
  in_blocks : {b : Blk} → place_of name (map (λ (x : BlkView). x.name) plan.blocks) ≡ Some b.0 → Found plan name (Block b)

found_block : (plan : PlanView) (name : List ℕ) (m : Meaning) → option_map (λ b. Block (record { 0 = b })) (place_of name (map (λ (x : BlkView). x.name) plan.blocks)) ≡ Some m → Found plan name m
found_block plan name m h =
    elim (place_of name (map (λ (x : BlkView). x.name) plan.blocks)) as (λ v. place_of name (map (λ (x : BlkView). x.name) plan.blocks) ≡ v → option_map (λ b. Block (record { 0 = b })) v ≡ Some m → Found plan name m) [
      | None ↦ λ e k. cc
      | Some b ↦ λ e k. let same : Block (record { 0 = b }) ≡ m = cc in subst (Found plan name) same (in_blocks e)
    ] refl h

-- what is looked up behind others
abbrev block_found : PlanView → List ℕ → Option Meaning
block_found plan name = option_map (λ b. Block (record { 0 = b })) (place_of name (map (λ (x : BlkView). x.name) plan.blocks))

abbrev strip_found : PlanView → List ℕ → Option Meaning
strip_found plan name = option_or (option_map Strip (place_of name (map (λ (x : StripView). x.name) plan.strips))) (block_found plan name)

found_strip : (plan : PlanView) (name : List ℕ) (m : Meaning) → strip_found plan name ≡ Some m → Found plan name m
found_strip plan name m h =
    elim (place_of name (map (λ (x : StripView). x.name) plan.strips)) as (λ v. place_of name (map (λ (x : StripView). x.name) plan.strips) ≡ v → option_or (option_map Strip v) (block_found plan name) ≡ Some m → Found plan name m) [
      | None ↦ λ e k. found_block plan name m k
      | Some a ↦ λ e k. let same : Strip a ≡ m = cc in subst (Found plan name) same (in_strips e)
    ] refl h

found_object : (plan : PlanView) (name : List ℕ) (m : Meaning) → option_or (option_map (λ o. Object (record { 0 = o })) (place_of name (map (λ (x : ObjView). x.name) plan.objects))) (strip_found plan name) ≡ Some m → Found plan name m
found_object plan name m h =
    elim (place_of name (map (λ (x : ObjView). x.name) plan.objects)) as (λ v. place_of name (map (λ (x : ObjView). x.name) plan.objects) ≡ v → option_or (option_map (λ o. Object (record { 0 = o })) v) (strip_found plan name) ≡ Some m → Found plan name m) [
      | None ↦ λ e k. found_strip plan name m k
      | Some o ↦ λ e k. let same : Object (record { 0 = o }) ≡ m = cc in subst (Found plan name) same (in_objects e)
    ] refl h

found_among : (plan : PlanView) (name : List ℕ) (m : Meaning) → meaning_among plan name ≡ Some m → Found plan name m
found_among plan name m h =
    elim (place_of name (map (λ (x : FileView). x.name) plan.files)) as (λ v. place_of name (map (λ (x : FileView). x.name) plan.files) ≡ v → option_or (option_map File v) (option_or (option_map (λ o. Object (record { 0 = o })) (place_of name (map (λ (x : ObjView). x.name) plan.objects))) (strip_found plan name)) ≡ Some m → Found plan name m) [
      | None ↦ λ e k. found_object plan name m k
      | Some f ↦ λ e k. let same : File f ≡ m = cc in subst (Found plan name) same (in_files e)
    ] refl h

-- what a used name is
pub record IsUsed (plan : PlanView) (name : List ℕ) (m : Meaning) : Type 0 where
  pub formed : is_name name ≡ true
  pub free : bytes_eq name (codes "main") ≡ false
  pub from : Found plan name m

pub found : (plan : PlanView) (name : List ℕ) (m : Meaning) → meaning_of plan name ≡ Some m → IsUsed plan name m
unfolding meaning_of
found plan name m h =
    elim (is_name name) as (λ v. is_name name ≡ v → cond (v && not (bytes_eq name (codes "main"))) (meaning_among plan name) None ≡ Some m → IsUsed plan name m) [
      | false ↦ λ e k. cc
      | true ↦ λ formed k.
          elim (bytes_eq name (codes "main")) as (λ v. bytes_eq name (codes "main") ≡ v → cond (not v) (meaning_among plan name) None ≡ Some m → IsUsed plan name m) [
            | true ↦ λ e l. cc
            | false ↦ λ free l. record { formed = formed; free = free; from = found_among plan name m l }
          ] refl k
    ] refl h

-- a known name means something
known_is : (plan : PlanView) (name : List ℕ) (m : Meaning) → known plan name ≡ Ok m → meaning_of plan name ≡ Some m
known_is plan name m h =
    elim (meaning_of plan name) as (λ v. meaning_of plan name ≡ v → option_map_or Ok v (Err UnknownName) ≡ Ok m → meaning_of plan name ≡ Some m) [
      | None ↦ λ e k. cc
      | Some n ↦ λ e k. let same : n ≡ m = cc in e ∙ ap Some same
    ] refl h

-- a file's name
file_case : (plan : PlanView) (name : List ℕ) (m : Meaning) (f : ℕ) → Found plan name m → as_file m ≡ Ok f → f < length plan.files
file_case plan name (File g) f (in_files e) h =
    let same : g ≡ f = cc in
    let within = place_within name (map (λ (x : FileView). x.name) plan.files) g e in
    let count = length-map plan.files (λ (x : FileView). x.name) in
    omega arith
file_case plan name (Object o) f (in_objects e) h = cc
file_case plan name (Strip a) f (in_strips e) h = cc
file_case plan name (Block b) f (in_blocks e) h = cc

pub file_within : (plan : PlanView) (name : List ℕ) (f : ℕ) → file plan name ≡ Ok f → f < length plan.files
file_within plan name f h =
    let k = follows as_file (known plan name) f h in
    file_case plan name k.0 f (found plan name k.0 (known_is plan name k.0 k.1)).from k.2

-- a block's name, which is not `main`
above_first : (name first : List ℕ) (names : List (List ℕ)) (i : ℕ) → bytes_eq name first ≡ false → slice_get names 0 ≡ Some first → place_of name names ≡ Some i → 0 < i
above_first name first [] i other h e = cc
above_first name first (x ∷ names) i other h e = let same : x ≡ first = cc in place_above name first names i other (subst (λ y. place_of name (y ∷ names) ≡ Some i) same e)

first_of_map : {X : Type 0} (f : X → List ℕ) (xs : List X) (name : List ℕ) → option_map f (slice_get xs 0) ≡ Some name → slice_get (map f xs) 0 ≡ Some name
first_of_map f [] name h = cc
first_of_map f (x ∷ xs) name h = h

block_case : (plan : PlanView) → IsPlan plan → (name : List ℕ) (m : Meaning) (b : Blk) → is_name name ≡ true → bytes_eq name (codes "main") ≡ false → Found plan name m → as_block m ≡ Ok b → is_declared plan b ≡ true
block_case plan valid name (File f) b formed other (in_files e) h = cc
block_case plan valid name (Object o) b formed other (in_objects e) h = cc
block_case plan valid name (Strip a) b formed other (in_strips e) h = cc
block_case plan valid name (Block c) b formed other (in_blocks e) h =
    let same : c ≡ b = cc in
    let names = map (λ (x : BlkView). x.name) plan.blocks in
    let first = first_of_map (λ (x : BlkView). x.name) plan.blocks (codes "main") valid.main in
    let within = place_within name names c.0 e in
    let count = length-map plan.blocks (λ (x : BlkView). x.name) in
    let above = above_first name (codes "main") names c.0 other first e in
    let at = slice_get_some plan.blocks c.0 (omega arith) in
    subst (λ d. is_declared plan d ≡ true) same
    (and_from (ltb 0 c.0) (ltb c.0 (length plan.blocks) && not (is_made plan c.0)) (lt-ltb 0 c.0 above)
    (and_from (ltb c.0 (length plan.blocks)) (not (is_made plan c.0)) (lt-ltb c.0 (length plan.blocks) (omega arith))
    (not_from_false (is_made plan c.0) (named_not_made plan valid c.0 at.0 at.1 (ap is_name (same_Some at.0.name name (sym (slice_get-map (λ (x : BlkView). x.name) plan.blocks c.0 ∙ ap (option_map (λ (x : BlkView). x.name)) at.1) ∙ place_stands name names c.0 e)) ∙ formed)))))

pub block_declared : (plan : PlanView) → IsPlan plan → (name : List ℕ) (b : Blk) → block plan name ≡ Ok b → is_declared plan b ≡ true
block_declared plan valid name b h =
    let k = follows as_block (known plan name) b h in
    let from = found plan name k.0 (known_is plan name k.0 k.1) in
    block_case plan valid name k.0 b from.formed from.free from.from k.2

-- a strip's name
strip_case : (plan : PlanView) (name : List ℕ) (m : Meaning) (a : ℕ) → Found plan name m → as_strip m ≡ Ok a → a < length plan.strips
strip_case plan name (File f) a (in_files e) h = cc
strip_case plan name (Object o) a (in_objects e) h = cc
strip_case plan name (Strip b) a (in_strips e) h =
    let same : b ≡ a = cc in
    let within = place_within name (map (λ (x : StripView). x.name) plan.strips) b e in
    let count = length-map plan.strips (λ (x : StripView). x.name) in
    omega arith
strip_case plan name (Block b) a (in_blocks e) h = cc

pub strip_within : (plan : PlanView) (name : List ℕ) (a : ℕ) → strip plan name ≡ Ok a → a < length plan.strips
strip_within plan name a h =
    let k = follows as_strip (known plan name) a h in
    strip_case plan name k.0 a (found plan name k.0 (known_is plan name k.0 k.1)).from k.2

-- an object's name
object_case : (plan : PlanView) (asked : Kind → Bool) (m : Meaning) (o : Obj) → as_object plan asked m ≡ Ok o → has_kind asked plan o.0 ≡ true
object_case plan asked (File f) o h = cc
object_case plan asked (Object p) o h =
    elim (has_kind asked plan p.0) as (λ t. has_kind asked plan p.0 ≡ t → cond t (Ok p) (Err OtherKind) ≡ Ok o → has_kind asked plan o.0 ≡ true) [
      | true ↦ λ e k. let same : p ≡ o = cc in subst (λ q. has_kind asked plan q.0 ≡ true) same e
      | false ↦ λ e k. cc
    ] refl h
object_case plan asked (Strip a) o h = cc
object_case plan asked (Block b) o h = cc

pub object_asked : (plan : PlanView) (asked : Kind → Bool) (name : List ℕ) (o : Obj) → object plan asked name ≡ Ok o → has_kind asked plan o.0 ≡ true
object_asked plan asked name o h = let k = follows (as_object plan asked) (known plan name) o h in object_case plan asked k.0 o k.2

pub object_above : (plan : PlanView) (asked : Kind → Bool) (name : List ℕ) (o : Obj) → object_but_root plan asked name ≡ Ok o → (ltb 0 o.0 ≡ true) × (has_kind asked plan o.0 ≡ true)
object_above plan asked name o h =
    let k = follows but_root (object plan asked name) o h in
    let p = k.0 in
    elim (ltb 0 p.0) as (λ t. ltb 0 p.0 ≡ t → cond t (Ok p) (Err OtherKind) ≡ Ok o → (ltb 0 o.0 ≡ true) × (has_kind asked plan o.0 ≡ true)) [
      | true ↦ λ e r.
          let same : p ≡ o = cc in
          subst (λ q. (ltb 0 q.0 ≡ true) × (has_kind asked plan q.0 ≡ true)) same (e, object_asked plan asked name p k.1)
      | false ↦ λ e r. cc
    ] refl k.2

-- One name more among the names of a plan.
use Rattle.std.proofs.Common.{ℕ, ◌≡◌, ◌≤◌, ◌+◌, Bool, true, false, not, ◌&&◌, cond, codes, List, [], ◌∷◌, ◌++◌, map, Option, Some, None, is_none, option_map, count_by, refl, sym, ap, ◌∙◌, subst, arith}
use Rattle.std.specs.List.{list_all}
use Rattle.std.specs.Option.{option_or}
use Rattle.std.specs.Str.{bytes_eq}
use Rattle.std.proofs.lemmas.Bool.{and_from, and_parts, not_from_false, not-true}
use Rattle.std.proofs.lemmas.List.{append_assoc, append-nil, map_push}
use Rattle.gcd_plan.specs.Names.{is_name}
use Rattle.gcd_plan.specs.PlanView.{PlanView, ObjView, BlkView, FileView, StripView}
use Rattle.gcd_plan.specs.Validity.{declared_names, names_of}
use Rattle.gcd_plan.proofs.Sums.{count_by-append, count_by-cons}
use Rattle.gcd_plan.proofs.Options.{none_from_is_none}
use Rattle.gcd_builder.specs.declared.meaning.Meaning.TheVariants.{File, Object, Block, Strip}
use Rattle.gcd_builder.specs.Names.{place_of, meaning_among, meaning_of, is_unused}
use Rattle.gcd_builder.specs.Changes.{with_file, with_object, with_block}
use Rattle.gcd_builder.proofs.Growth.{and_map}
use Rattle.gcd_builder.proofs.Places.{same_bytes, count_none}

-- the new list is the old one with y somewhere in it
pub record Inserts {X : Type 0} (y : X) (old new : List X) : Type 0 where
  pub front : List X
  pub back : List X
  pub before : old ≡ front ++ back
  pub after : new ≡ front ++ y ∷ back

all_inserted : {X : Type 0} (p : X → Bool) (front back : List X) (y : X) → p y ≡ true → list_all p (front ++ back) ≡ true → list_all p (front ++ y ∷ back) ≡ true
all_inserted p [] back y passes h = and_from (p y) (list_all p back) passes h
all_inserted p (x ∷ front) back y passes h = and_map (p x) (list_all p (front ++ back)) (p x) (list_all p (front ++ y ∷ back)) (λ k. k) (all_inserted p front back y passes) h

pub list_all_insert : {X : Type 0} (p : X → Bool) {y : X} {old new : List X} → Inserts y old new → p y ≡ true → list_all p old ≡ true → list_all p new ≡ true
list_all_insert p {y} i passes h =
    subst (λ xs. list_all p xs ≡ true) (sym i.after) (all_inserted p i.front i.back y passes (subst (λ xs. list_all p xs ≡ true) i.before h))

pub count_insert : {X : Type 0} (p : X → Bool) {y : X} {old new : List X} → Inserts y old new → count_by p new ≡ count_by p old + cond (p y) 1 0
count_insert p {y} i =
    let split = count_by-append p i.front (y ∷ i.back) in
    let cons = count_by-cons p y i.back in
    let old_split = count_by-append p i.front i.back in
    let before = ap (count_by p) i.before in
    let after = ap (count_by p) i.after in
    omega arith

-- more names behind both
pub inserts_before : {X : Type 0} {y : X} {old new : List X} → Inserts y old new → (more : List X) → Inserts y (old ++ more) (new ++ more)
inserts_before {y = y} i more = record {
  front = i.front;
  back = i.back ++ more;
  before = ap (λ xs. xs ++ more) i.before ∙ append_assoc i.front i.back more;
  after = ap (λ xs. xs ++ more) i.after ∙ append_assoc i.front (y ∷ i.back) more;
}

module _ (plan : PlanView) where
  abbrev pub file_names : List (List ℕ)
  file_names = map (λ f. f.name) plan.files

  abbrev pub object_names : List (List ℕ)
  object_names = map (λ o. o.name) plan.objects

  abbrev pub strip_names : List (List ℕ)
  strip_names = map (λ s. s.name) plan.strips

  abbrev pub block_names : List (List ℕ)
  block_names = map (λ b. b.name) plan.blocks

  pub file_inserts : (file : FileView) → Inserts file.name (declared_names plan) (declared_names (with_file file plan))
  file_inserts file = record {
    front = file_names;
    back = object_names ++ strip_names;
    before = refl;
    after = ap (λ xs. xs ++ (object_names ++ strip_names)) (map_push (λ f. f.name) plan.files file) ∙ append_assoc file_names (file.name ∷ []) (object_names ++ strip_names);
  }

  pub object_inserts : (object : ObjView) → Inserts object.name (declared_names plan) (declared_names (with_object object plan))
  object_inserts object = record {
    front = file_names ++ object_names;
    back = strip_names;
    before = sym (append_assoc file_names object_names strip_names);
    after =
        ap (λ xs. file_names ++ (xs ++ strip_names)) (map_push (λ o. o.name) plan.objects object)
        ∙ ap (λ xs. file_names ++ xs) (append_assoc object_names (object.name ∷ []) strip_names)
        ∙ sym (append_assoc file_names object_names (object.name ∷ strip_names));
  }

  pub strip_inserts : (s : StripView) → Inserts s.name (declared_names plan) (declared_names (record plan { strips = plan.strips ++ s ∷ [] }))
  strip_inserts s = record {
    front = file_names ++ (object_names ++ strip_names);
    back = [];
    before = sym (append-nil (file_names ++ (object_names ++ strip_names)));
    after =
        ap (λ xs. file_names ++ (object_names ++ xs)) (map_push (λ t. t.name) plan.strips s)
        ∙ ap (λ xs. file_names ++ xs) (sym (append_assoc object_names strip_names (s.name ∷ [])))
        ∙ sym (append_assoc file_names (object_names ++ strip_names) (s.name ∷ []));
  }

  pub block_inserts : (block : BlkView) → Inserts block.name (names_of plan) (names_of (with_block block plan))
  block_inserts block = record {
    front = declared_names plan ++ block_names;
    back = [];
    before = sym (append-nil (declared_names plan ++ block_names));
    after =
        ap (λ xs. declared_names plan ++ xs) (map_push (λ b. b.name) plan.blocks block)
        ∙ sym (append_assoc (declared_names plan) block_names (block.name ∷ []));
  }

  -- a name that may be declared
  pub record IsFit (name : List ℕ) : Type 0 where
    pub formed : is_name name ≡ true
    pub free : bytes_eq name (codes "main") ≡ false
    pub unknown : meaning_among plan name ≡ None

pub no_part : {X Y : Type 0} (f : X → Y) (o : Option X) (p : Option Y) → option_or (option_map f o) p ≡ None → (o ≡ None) × (p ≡ None)
no_part f None p h = (refl, h)
no_part f (Some x) p h = cc

pub no_map : {X Y : Type 0} (f : X → Y) (o : Option X) → option_map f o ≡ None → o ≡ None
no_map f None h = refl
no_map f (Some x) h = cc

pub fit_from : (plan : PlanView) (name : List ℕ) → is_unused plan name ≡ true → IsFit plan name
unfolding meaning_of
fit_from plan name h =
    let parts = and_parts (is_name name) (not (bytes_eq name (codes "main")) && is_none (meaning_of plan name)) h in
    let others = and_parts (not (bytes_eq name (codes "main"))) (is_none (meaning_of plan name)) parts.1 in
    let free = not-true (bytes_eq name (codes "main")) others.0 in
    let none = none_from_is_none (meaning_of plan name) others.1 in
    let usable : (is_name name && not (bytes_eq name (codes "main"))) ≡ true = and_from (is_name name) (not (bytes_eq name (codes "main"))) parts.0 others.0 in
    record {
      formed = parts.0;
      free = free;
      unknown = ap (λ r. cond r (meaning_among plan name) None) (sym usable) ∙ none;
    }

-- so it may be used
pub fit_usable : (plan : PlanView) (name : List ℕ) → IsFit plan name → (is_name name && not (bytes_eq name (codes "main"))) ≡ true
fit_usable plan name fit = and_from (is_name name) (not (bytes_eq name (codes "main"))) fit.formed (not_from_false (bytes_eq name (codes "main")) fit.free)

-- where it is not
pub record AbsentFrom (plan : PlanView) (name : List ℕ) : Type 0 where
  pub files : place_of name (file_names plan) ≡ None
  pub objects : place_of name (object_names plan) ≡ None
  pub strips : place_of name (strip_names plan) ≡ None
  pub blocks : place_of name (block_names plan) ≡ None

pub absent : (plan : PlanView) (name : List ℕ) → IsFit plan name → AbsentFrom plan name
absent plan name fit =
    let in_files = no_part File (place_of name (file_names plan)) _ fit.unknown in
    let in_objects = no_part (λ o. Object (record { 0 = o })) (place_of name (object_names plan)) _ in_files.1 in
    let in_strips = no_part Strip (place_of name (strip_names plan)) _ in_objects.1 in
    record {
      files = in_files.0;
      objects = in_objects.0;
      strips = in_strips.0;
      blocks = no_map (λ b. Block (record { 0 = b })) (place_of name (block_names plan)) in_strips.1;
    }

-- it is none of the plan's names
pub fit_is_new : (plan : PlanView) (name : List ℕ) → IsFit plan name → count_by (bytes_eq name) (names_of plan) ≡ 0
fit_is_new plan name fit =
    let none = absent plan name fit in
    let whole = count_by-append (bytes_eq name) (declared_names plan) (block_names plan) in
    let outer = count_by-append (bytes_eq name) (file_names plan) (object_names plan ++ strip_names plan) in
    let inner = count_by-append (bytes_eq name) (object_names plan) (strip_names plan) in
    let a = count_none name (file_names plan) none.files in
    let b = count_none name (object_names plan) none.objects in
    let c = count_none name (strip_names plan) none.strips in
    let d = count_none name (block_names plan) none.blocks in
    omega arith

-- so the names stay apart
pub apart_insert : (name : List ℕ) (old new : List (List ℕ)) → Inserts name old new → count_by (bytes_eq name) old ≡ 0 → ((q : List ℕ) → count_by (bytes_eq q) old ≤ 1) → (q : List ℕ) → count_by (bytes_eq q) new ≤ 1
apart_insert name old new i fresh apart q =
    let more = count_insert (bytes_eq q) i in
    elim (bytes_eq q name) as (λ v. bytes_eq q name ≡ v → count_by (bytes_eq q) new ≡ count_by (bytes_eq q) old + cond v 1 0 → count_by (bytes_eq q) new ≤ 1) [
      | true ↦ λ e more.
          let none = subst (λ n. count_by (bytes_eq n) old ≡ 0) (sym (same_bytes q name e)) fresh in
          omega arith
      | false ↦ λ e more. let few = apart q in omega arith
    ] refl more

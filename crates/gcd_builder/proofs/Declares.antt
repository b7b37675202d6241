-- How the meanings of names change with a plan.
use Rattle.std.proofs.Common.{ℕ, ◌≡◌, Bool, true, false, not, ◌&&◌, cond, codes, List, [], ◌∷◌, ◌++◌, length, map, Option, Some, None, option_map, refl, sym, ap, ◌∙◌}
use Rattle.std.specs.List.{list_all, list_any}
use Rattle.std.specs.Option.{option_or}
use Rattle.std.specs.Str.{bytes_eq}
use Rattle.std.proofs.lemmas.Bool.{and_parts, both_ways, false_from_ne_true, not-true, or_from}
use Rattle.std.proofs.lemmas.List.{map_push, map-append, length-map}
use Rattle.gcd_plan.specs.Names.{is_name}
use Rattle.gcd_plan.specs.PlanView.{PlanView, ObjView, BlkView, FileView, StripView}
use Rattle.gcd_plan.proofs.Options.{option_or-none}
use Rattle.gcd_builder.specs.declared.meaning.Meaning.{Meaning}
use Rattle.gcd_builder.specs.declared.meaning.Meaning.TheVariants.{File, Object, Block, Strip}
use Rattle.gcd_builder.specs.Changes.{with_file, with_object, with_block}
use Rattle.gcd_builder.specs.Names.{place_of, meaning_of}
use Rattle.gcd_builder.specs.Agreement.{Declares}
use Rattle.gcd_builder.proofs.Places.{same_bytes, bytes_same, place_push, place_before}
use Rattle.gcd_builder.proofs.Inserts.{IsFit, absent, fit_usable, file_names, object_names, strip_names, block_names}

other_way : (xs ys : List ℕ) → bytes_eq xs ys ≡ false → bytes_eq ys xs ≡ false
other_way xs ys h =
    elim (bytes_eq ys xs) as (λ v. bytes_eq ys xs ≡ v → v ≡ false) [
      | true ↦ λ e. let same = same_bytes ys xs e in sym (bytes_same ys) ∙ ap (λ zs. bytes_eq zs ys) same ∙ h
      | false ↦ λ e. refl
    ] refl

-- a name more at the end of a list of names
own_place : (name : List ℕ) (names : List (List ℕ)) → place_of name names ≡ None → place_of name (names ++ name ∷ []) ≡ Some (length names)
own_place name names none =
    place_push name names name
    ∙ ap (λ o. option_or o (cond (bytes_eq name name) (Some (length names)) None)) none
    ∙ ap (λ t. cond t (Some (length names)) None) (bytes_same name)

other_place : (q name : List ℕ) (names : List (List ℕ)) → bytes_eq name q ≡ false → place_of q (names ++ name ∷ []) ≡ place_of q names
other_place q name names other =
    place_push q names name
    ∙ ap (λ t. option_or (place_of q names) (cond t (Some (length names)) None)) (other_way name q other)
    ∙ option_or-none (place_of q names)

-- what a name means among these names of files, objects, strips and blocks
abbrev among : (q : List ℕ) → (files objects strips blocks : List (List ℕ)) → Option Meaning
among q files objects strips blocks =
    option_or (option_map File (place_of q files))
    (option_or (option_map (λ o. Object (record { 0 = o })) (place_of q objects))
    (option_or (option_map Strip (place_of q strips)) (option_map (λ b. Block (record { 0 = b })) (place_of q blocks))))

-- a name that a line may use
abbrev is_usable : List ℕ → Bool
is_usable q = is_name q && not (bytes_eq q (codes "main"))

abbrev among_all : (q : List ℕ) → (files objects strips blocks : List (List ℕ)) → Option Meaning
among_all q files objects strips blocks = cond (is_usable q) (among q files objects strips blocks) None

declares : (old new : List ℕ → Option Meaning) (name : List ℕ) (meaning : Meaning) → new name ≡ Some meaning → ((q : List ℕ) → bytes_eq name q ≡ false → new q ≡ old q) → Declares old new name meaning
declares old new name meaning own other q =
    elim (bytes_eq name q) as (λ v. bytes_eq name q ≡ v → new q ≡ cond v (Some meaning) (old q)) [
      | true ↦ λ e. ap new (sym (same_bytes name q e)) ∙ own
      | false ↦ λ e. other q e
    ] refl

module _ (plan : PlanView) where
  abbrev in_objects : Option ℕ → Option Meaning
  in_objects o = option_map (λ n. Object (record { 0 = n })) o

  abbrev in_blocks : List ℕ → Option Meaning
  in_blocks q = option_map (λ b. Block (record { 0 = b })) (place_of q (block_names plan))

  abbrev in_rest : List ℕ → Option Meaning
  in_rest q = option_or (option_map Strip (place_of q (strip_names plan))) (in_blocks q)

  pub file_declares : (file : FileView) → IsFit plan file.name → Declares (meaning_of plan) (meaning_of (with_file file plan)) file.name (File (length plan.files))
  unfolding meaning_of
  file_declares file fit =
      let name = file.name in
      let none = absent plan name fit in
      let rest = λ (q : List ℕ). option_or (in_objects (place_of q (object_names plan))) (in_rest q) in
      let looked = λ (q : List ℕ) (names : List (List ℕ)). among_all q names (object_names plan) (strip_names plan) (block_names plan) in
      let more : file_names (with_file file plan) ≡ file_names plan ++ name ∷ [] = map_push (λ f. f.name) plan.files file in
      declares (meaning_of plan) (meaning_of (with_file file plan)) name (File (length plan.files))
      (ap (looked name) more
      ∙ ap (λ t. cond t (option_or (option_map File (place_of name (file_names plan ++ name ∷ []))) (rest name)) None) (fit_usable plan name fit)
      ∙ ap (λ o. option_or (option_map File o) (rest name)) (own_place name (file_names plan) none.files)
      ∙ ap (λ n. Some (File n)) (length-map plan.files (λ (f : FileView). f.name)))
      (λ q other. ap (looked q) more ∙ ap (λ o. cond (is_usable q) (option_or (option_map File o) (rest q)) None) (other_place q name (file_names plan) other))

  pub object_declares : (object : ObjView) → IsFit plan object.name → Declares (meaning_of plan) (meaning_of (with_object object plan)) object.name (Object (record { 0 = length plan.objects }))
  unfolding meaning_of
  object_declares object fit =
      let name = object.name in
      let none = absent plan name fit in
      let looked = λ (q : List ℕ) (names : List (List ℕ)). among_all q (file_names plan) names (strip_names plan) (block_names plan) in
      let more : object_names (with_object object plan) ≡ object_names plan ++ name ∷ [] = map_push (λ o. o.name) plan.objects object in
      let own = place_of name (object_names plan ++ name ∷ []) in
      declares (meaning_of plan) (meaning_of (with_object object plan)) name (Object (record { 0 = length plan.objects }))
      (ap (looked name) more
      ∙ ap (λ t. cond t (option_or (option_map File (place_of name (file_names plan))) (option_or (in_objects own) (in_rest name))) None) (fit_usable plan name fit)
      ∙ ap (λ f. option_or (option_map File f) (option_or (in_objects own) (in_rest name))) none.files
      ∙ ap (λ o. option_or (in_objects o) (in_rest name)) (own_place name (object_names plan) none.objects)
      ∙ ap (λ n. Some (Object (record { 0 = n }))) (length-map plan.objects (λ (o : ObjView). o.name)))
      (λ q other. ap (looked q) more ∙ ap (λ o. cond (is_usable q) (option_or (option_map File (place_of q (file_names plan))) (option_or (in_objects o) (in_rest q))) None) (other_place q name (object_names plan) other))

  pub strip_declares : (s : StripView) → IsFit plan s.name → Declares (meaning_of plan) (meaning_of (record plan { strips = plan.strips ++ s ∷ [] })) s.name (Strip (length plan.strips))
  unfolding meaning_of
  strip_declares s fit =
      let name = s.name in
      let none = absent plan name fit in
      let looked = λ (q : List ℕ) (names : List (List ℕ)). among_all q (file_names plan) (object_names plan) names (block_names plan) in
      let more : strip_names (record plan { strips = plan.strips ++ s ∷ [] }) ≡ strip_names plan ++ name ∷ [] = map_push (λ t. t.name) plan.strips s in
      let own = place_of name (strip_names plan ++ name ∷ []) in
      let found = λ (o : Option ℕ) (q : List ℕ). option_or (option_map Strip o) (in_blocks q) in
      declares (meaning_of plan) (meaning_of (record plan { strips = plan.strips ++ s ∷ [] })) name (Strip (length plan.strips))
      (ap (looked name) more
      ∙ ap (λ t. cond t (option_or (option_map File (place_of name (file_names plan))) (option_or (in_objects (place_of name (object_names plan))) (found own name))) None) (fit_usable plan name fit)
      ∙ ap (λ f. option_or (option_map File f) (option_or (in_objects (place_of name (object_names plan))) (found own name))) none.files
      ∙ ap (λ o. option_or (in_objects o) (found own name)) none.objects
      ∙ ap (λ o. found o name) (own_place name (strip_names plan) none.strips)
      ∙ ap (λ n. Some (Strip n)) (length-map plan.strips (λ (t : StripView). t.name)))
      (λ q other. ap (looked q) more ∙ ap (λ o. cond (is_usable q) (option_or (option_map File (place_of q (file_names plan))) (option_or (in_objects (place_of q (object_names plan))) (found o q))) None) (other_place q name (strip_names plan) other))

  pub block_declares : (block : BlkView) → IsFit plan block.name → Declares (meaning_of plan) (meaning_of (with_block block plan)) block.name (Block (record { 0 = length plan.blocks }))
  unfolding meaning_of
  block_declares block fit =
      let name = block.name in
      let none = absent plan name fit in
      let found = λ (o : Option ℕ). option_map (λ n. Block (record { 0 = n })) o in
      let looked = λ (q : List ℕ) (names : List (List ℕ)). among_all q (file_names plan) (object_names plan) (strip_names plan) names in
      let more : block_names (with_block block plan) ≡ block_names plan ++ name ∷ [] = map_push (λ b. b.name) plan.blocks block in
      let own = place_of name (block_names plan ++ name ∷ []) in
      declares (meaning_of plan) (meaning_of (with_block block plan)) name (Block (record { 0 = length plan.blocks }))
      (ap (looked name) more
      ∙ ap (λ t. cond t (option_or (option_map File (place_of name (file_names plan))) (option_or (in_objects (place_of name (object_names plan))) (option_or (option_map Strip (place_of name (strip_names plan))) (found own)))) None) (fit_usable plan name fit)
      ∙ ap (λ f. option_or (option_map File f) (option_or (in_objects (place_of name (object_names plan))) (option_or (option_map Strip (place_of name (strip_names plan))) (found own)))) none.files
      ∙ ap (λ o. option_or (in_objects o) (option_or (option_map Strip (place_of name (strip_names plan))) (found own))) none.objects
      ∙ ap (λ o. option_or (option_map Strip o) (found own)) none.strips
      ∙ ap found (own_place name (block_names plan) none.blocks)
      ∙ ap (λ n. Some (Block (record { 0 = n }))) (length-map plan.blocks (λ (b : BlkView). b.name)))
      (λ q other. ap (looked q) more ∙ ap (λ o. cond (is_usable q) (option_or (option_map File (place_of q (file_names plan))) (option_or (in_objects (place_of q (object_names plan))) (option_or (option_map Strip (place_of q (strip_names plan))) (found o)))) None) (other_place q name (block_names plan) other))

-- names mean what they did where files, objects, strips and blocks keep their names
pub same_meanings : (old new : PlanView) → file_names old ≡ file_names new → object_names old ≡ object_names new → strip_names old ≡ strip_names new → block_names old ≡ block_names new → (q : List ℕ) → meaning_of old q ≡ meaning_of new q
unfolding meaning_of
same_meanings old new files objects strips blocks q =
    ap (λ fs. among_all q fs (object_names old) (strip_names old) (block_names old)) files
    ∙ ap (λ os. among_all q (file_names new) os (strip_names old) (block_names old)) objects
    ∙ ap (λ ss. among_all q (file_names new) (object_names new) ss (block_names old)) strips
    ∙ ap (among_all q (file_names new) (object_names new) (strip_names new)) blocks

-- and where blocks come that have no well-formed name
unnamed_others : (q : List ℕ) (made : List BlkView) → is_name q ≡ true → list_all (λ b. not (is_name b.name)) made ≡ true → list_any (bytes_eq q) (map (λ b. b.name) made) ≡ false
unnamed_others q [] named none = refl
unnamed_others q (b ∷ made) named none =
    let each = and_parts (not (is_name b.name)) (list_all (λ c. not (is_name c.name)) made) none in
    let other : bytes_eq q b.name ≡ false =
    false_from_ne_true (bytes_eq q b.name) (λ e. both_ways (is_name b.name) (not-true (is_name b.name) each.0) (ap is_name (sym (same_bytes q b.name e)) ∙ named))
    in
    or_from (bytes_eq q b.name) (list_any (bytes_eq q) (map (λ c. c.name) made)) other (unnamed_others q made named each.1)

pub unnamed_blocks : (plan : PlanView) (made : List BlkView) → list_all (λ b. not (is_name b.name)) made ≡ true → (q : List ℕ) → meaning_of (record plan { blocks = plan.blocks ++ made }) q ≡ meaning_of plan q
unfolding meaning_of
unnamed_blocks plan made none q =
    let names = map (λ (b : BlkView). b.name) (plan.blocks ++ made) in
    let found = λ (o : Option ℕ). option_or (option_map File (place_of q (file_names plan))) (option_or (option_map (λ o. Object (record { 0 = o })) (place_of q (object_names plan))) (option_or (option_map Strip (place_of q (strip_names plan))) (option_map (λ b. Block (record { 0 = b })) o))) in
    elim (is_name q) as (λ v. is_name q ≡ v → cond (v && not (bytes_eq q (codes "main"))) (found (place_of q names)) None ≡ cond (v && not (bytes_eq q (codes "main"))) (found (place_of q (block_names plan))) None) [
      | false ↦ λ e. refl
      | true ↦ λ e.
          ap (λ o. cond (not (bytes_eq q (codes "main"))) (found o) None)
          (ap (place_of q) (map-append (λ (b : BlkView). b.name) plan.blocks made)
          ∙ place_before q (block_names plan) (map (λ (b : BlkView). b.name) made) (unnamed_others q made e none))
    ] refl

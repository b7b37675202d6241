-- The names of a valid plan's blocks and sources have plain bytes, those that it makes for an intake and for strips too.
use Rattle.std.proofs.Common.{◌≡◌, ◌⊎◌, inl, inr, ℕ, zero, suc, ◌+◌, ◌-◌, ◌<◌, ◌≤◌, ◌==◌, ltb, leb, Bool, true, false, ◌||◌, List, [], ◌∷◌, ◌++◌, length, map, take, drop, Option, Some, None, codes, refl, ap, sym, ◌∙◌, arith}
use Rattle.std.specs.Fmt.{decimal}
use Rattle.std.specs.List.{slice_get, list_all, list_any, range_with_len}
use Rattle.std.specs.Option.{option_map, option_map_or, option_to_list}
use Rattle.std.proofs.lemmas.Bool.{and_parts, and_from, ltb-true, leb-true, lt-ltb, false≢true, eqb-true, false_from_ne_true}
use Rattle.std.proofs.lemmas.Option.{slice_get-map, slice_get-get_or}
use Rattle.std.proofs.lemmas.List.Folds.{list_all-append, list_any-append}
use Rattle.std.proofs.lemmas.List.FromFn.{get_or-map-range_with_len, length-map-range_with_len}
use Rattle.gcd_plan.specs.PlanView.{PlanView, BlkView, IntakeView, StripView, name_of_blk}
use Rattle.gcd_plan.specs.Kinds.{is_source_kind}
use Rattle.gcd_plan.specs.Limits.{max_blocks}
use Rattle.gcd_plan.specs.Made.{Span, is_within, is_made, is_of_intake, intake_span, strip_span, intake_block, strip_block}
use Rattle.gcd_plan.specs.Names.{is_name, is_name_byte, begins_with_letter}
use Rattle.gcd_plan.specs.Validity.{IsPlan, HasBlocks, is_among_blocks}
use Rattle.gcd_plan.specs.declared.numbers.Run.{Run}
use Rattle.gcd_plan.specs.declared.numbers.Run.TheVariants.{Block, Source}
use Rattle.gcd_plan.proofs.Places.{slice_get_some}
use Rattle.gcd_plan.proofs.Quantifiers.{list_all_get}
use Rattle.gcd_plan.proofs.MadeBlocks.{within_parts}
use Rattle.gcd_plan.proofs.Spans.{intake_of_plan}
use Rattle.gcd_plan.proofs.Strips.{strip_named}
use Rattle.gcd_plan.proofs.Within.{has_object}
use Rattle.gcd_refinement.proofs.Lists.Kept.{slice_get-drop}
use Rattle.gcd_history.specs.Permitted.{is_run_of}
use Rattle.gcd_history.specs.Report.{name_of_run}
use Rattle.gcd_journal.proofs.Cuts.{is_plain}
use Rattle.gcd_journal.proofs.Numbers.{plain_decimal}

-- a byte of a name is plain
other_byte : (c d : ℕ) → is_name_byte c ≡ true → is_name_byte d ≡ false → (c == d) ≡ false
other_byte c d h none = false_from_ne_true (c == d) (λ same. false≢true (sym none ∙ ap is_name_byte (sym (eqb-true c d same)) ∙ h))

plain_byte : (c : ℕ) → is_name_byte c ≡ true → is_plain c ≡ true
plain_byte c h = rw (other_byte c 32 h refl, other_byte c 10 h refl) refl

plain_bytes : (name : List ℕ) → list_all is_name_byte name ≡ true → list_all is_plain name ≡ true
plain_bytes [] h = refl
plain_bytes (c ∷ name) h =
    let parts = and_parts (is_name_byte c) (list_all is_name_byte name) h in
    rw (plain_byte c parts.0) (plain_bytes name parts.1)

-- a well-formed name is plain
plain_if_name : (name : List ℕ) → is_name name ≡ true → list_all is_plain name ≡ true
plain_if_name name is =
    let first = and_parts (begins_with_letter name) _ is in
    plain_bytes name (and_parts _ (list_all is_name_byte name) first.1).1

-- ## What stands at a span

slice_get-take : {A : Type 0} (xs : List A) (n i : ℕ) → i < n → slice_get (take n xs) i ≡ slice_get xs i
slice_get-take xs zero i within = absurd (omega arith)
slice_get-take [] (suc n) i within = refl
slice_get-take (x ∷ xs) (suc n) zero within = refl
slice_get-take (x ∷ xs) (suc n) (suc i) within = slice_get-take xs n i (omega arith)

-- what a function makes of numbers that follow one another
pub get_made : {A : Type 0} (f : ℕ → A) (a n i : ℕ) → i < n → slice_get (map f (range_with_len a n)) i ≡ Some (f (a + i))
get_made f a n i within =
    slice_get-get_or (map f (range_with_len a n)) i (f a) (let long = length-map-range_with_len f a n in omega (arith, long))
    ∙ ap Some (get_or-map-range_with_len f a n i (a + i) (f a) within refl)

-- the block at a number of a span, where the plan has these blocks there
pub block_at : (plan : PlanView) (span : Span) (f : ℕ → BlkView) (a b : ℕ) → is_within b span ≡ true → HasBlocks plan span (map f (range_with_len a span.count))
    → slice_get plan.blocks b ≡ Some (f (a + (b - span.first)))
block_at plan span f a b h has =
    let parts = within_parts b span h in
    let i = b - span.first in
    let short : i < span.count = omega (arith, parts.0, parts.1) in
    let place : b ≡ span.first + i = omega (arith, parts.0) in
    ap (slice_get plan.blocks) place
    ∙ sym (slice_get-drop plan.blocks span.first i)
    ∙ sym (slice_get-take (drop span.first plan.blocks) span.count i short)
    ∙ ap (λ l. slice_get l i) has
    ∙ get_made f a span.count i short

-- a span among the plan's blocks is short
span_end : (plan : PlanView) (span : Span) → is_among_blocks plan span ≡ true → span.first + span.count ≤ length plan.blocks
span_end plan span h = leb-true (span.first + span.count) (length plan.blocks) (and_parts (leb 1 span.first) _ h).1

-- ## Names that a plan makes

-- a test that is passed somewhere is passed at a place
any_place : {A B : Type 0} (p : B → Bool) (f : A → B) (xs : List A) → list_any p (map f xs) ≡ true → (i : ℕ) × (x : A) × (slice_get xs i ≡ Some x) × (p (f x) ≡ true)
any_place p f [] h = cc
any_place p f (x ∷ xs) h =
    elim (p (f x)) as (λ v. p (f x) ≡ v → (v || list_any p (map f xs)) ≡ true → (i : ℕ) × (y : _) × (slice_get (x ∷ xs) i ≡ Some y) × (p (f y) ≡ true)) [
      | true ↦ λ is k. (0, x, refl, is)
      | false ↦ λ is k. let rest = any_place p f xs k in (suc rest.0, rest.1, rest.2, rest.3)
    ] refl h

the_intake : (o : Option IntakeView) (i : ℕ) (v : IntakeView) → slice_get (option_to_list o) i ≡ Some v → o ≡ Some v
the_intake None i v h = cc
the_intake (Some w) zero v h = h
the_intake (Some w) (suc i) v h = cc

either : (x y : Bool) → (x || y) ≡ true → (x ≡ true) ⊎ (y ≡ true)
either true y h = inl refl
either false y h = inr h

module _ (plan : PlanView) (valid : IsPlan plan) where
  -- the names of an intake's blocks
  plain_of_intake : (b : ℕ) (v : IntakeView) → plan.intake ≡ Some v → is_within b (intake_span v) ≡ true → list_all is_plain (name_of_blk plan b) ≡ true
  plain_of_intake b v at within =
      let is = intake_of_plan plan valid v at in
      let parts = within_parts b (intake_span v) within in
      let end = span_end plan (intake_span v) is.among in
      let few : length plan.blocks ≤ max_blocks = valid.few_blocks in
      let k = 1 + (b - v.first) in
      ap (λ o. list_all is_plain (option_map_or (λ (c : BlkView). c.name) o [])) (block_at plan (intake_span v) intake_block 1 b within is.blocks)
      ∙ plain_decimal k (omega (arith, parts.0, parts.1, end, few))

  -- the names of a strip's blocks
  plain_of_strip : (b a : ℕ) (s : StripView) → slice_get plan.strips a ≡ Some s → is_within b (strip_span s) ≡ true → list_all is_plain (name_of_blk plan b) ≡ true
  plain_of_strip b a s at within =
      let is = valid.strips a s at in
      let parts = within_parts b (strip_span s) within in
      let end = span_end plan (strip_span s) is.among in
      let few : length plan.blocks ≤ max_blocks = valid.few_blocks in
      let k = 0 + (b - s.first) in
      ap (λ o. list_all is_plain (option_map_or (λ (c : BlkView). c.name) o [])) (block_at plan (strip_span s) (strip_block s) 0 b within is.blocks)
      ∙ list_all-append is_plain s.name (codes "." ++ decimal k)
      ∙ and_from (list_all is_plain s.name) _ (plain_if_name s.name (strip_named plan valid a s at)) (plain_decimal k (omega (arith, parts.0, parts.1, end, few)))

  -- the names of all blocks that the plan makes
  plain_if_made : (b : ℕ) → is_made plan b ≡ true → list_all is_plain (name_of_blk plan b) ≡ true
  plain_if_made b made =
      let intakes = map intake_span (option_to_list plan.intake) in
      let strips = map strip_span plan.strips in
      elim (either (list_any (is_within b) intakes) (list_any (is_within b) strips) (sym (list_any-append (is_within b) intakes strips) ∙ made)) [
        | inl first ↦
            let found = any_place (is_within b) intake_span (option_to_list plan.intake) first in
            plain_of_intake b found.1 (the_intake plan.intake found.0 found.1 found.2) found.3
        | inr second ↦
            let found = any_place (is_within b) strip_span plan.strips second in
            plain_of_strip b found.0 found.1 found.2 found.3
      ]

  -- the names of all blocks
  plain_block : (b : ℕ) → b < length plan.blocks → list_all is_plain (name_of_blk plan b) ≡ true
  plain_block b within =
      elim (either (is_made plan b) (is_name (name_of_blk plan b)) (valid.block_names b within)) [
        | inl made ↦ plain_if_made b made
        | inr name ↦ plain_if_name (name_of_blk plan b) name
      ]

  -- and of all objects
  plain_object : (o : ℕ) → o < length plan.objects → list_all is_plain (name_of_run plan (Source (record { 0 = o }))) ≡ true
  plain_object o within =
      let files = map (λ f. f.name) plan.files in
      let objects = map (λ o. o.name) plan.objects in
      let strips = map (λ s. s.name) plan.strips in
      let all = and_parts (list_all is_name files) (list_all is_name (objects ++ strips)) (sym (list_all-append is_name files (objects ++ strips)) ∙ valid.names) in
      let most = and_parts (list_all is_name objects) (list_all is_name strips) (sym (list_all-append is_name objects strips) ∙ all.1) in
      let found = slice_get_some plan.objects o within in
      ap (λ p. list_all is_plain (option_map_or (λ o. o.name) p [])) found.1
      ∙ plain_if_name found.0.name (list_all_get is_name objects o found.0.name most.0 (slice_get-map (λ o. o.name) plan.objects o ∙ ap (option_map (λ o. o.name)) found.1))

-- the name of a run is plain
pub plain_name : (plan : PlanView) (run : Run) → IsPlan plan → is_run_of plan run ≡ true → list_all is_plain (name_of_run plan run) ≡ true
plain_name plan (Block b) valid h = plain_block plan valid b.0 (ltb-true b.0 (length plan.blocks) h)
plain_name plan (Source s) valid h = plain_object plan valid s.0 (has_object is_source_kind plan s.0 h)

-- ## The blocks of an intake

-- a block of the intake is one of the plan's
pub block_of_intake : (plan : PlanView) (b : ℕ) → IsPlan plan → is_of_intake plan b ≡ true → ltb b (length plan.blocks) ≡ true
block_of_intake plan b valid h =
    elim plan.intake as (λ o. plan.intake ≡ o → option_map_or (λ i. is_within b (intake_span i)) o false ≡ true → ltb b (length plan.blocks) ≡ true) [
      | None ↦ λ at k. cc
      | Some i ↦ λ at k.
          let is = intake_of_plan plan valid i at in
          let parts = within_parts b (intake_span i) k in
          let end = span_end plan (intake_span i) is.among in
          lt-ltb b (length plan.blocks) (omega (arith, parts.1, end))
    ] refl h

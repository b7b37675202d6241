-- Names that do not stand before stand once in the plan, and one that does stands twice.
use Rattle.std.proofs.Common.{◌≡◌, ℕ, zero, suc, ◌+◌, ◌<◌, ◌≤◌, Bool, true, false, cond, ◌||◌, List, [], ◌∷◌, ◌++◌, length, map, take, drop, Option, None, Some, refl, ap, sym, ◌∙◌, subst, arith, string_bytes}
use Rattle.std.specs.List.{count_by, list_all, list_any, slice_get}
use Rattle.std.specs.Option.{option_map}
use Rattle.std.specs.Str.{bytes_eq}
use Rattle.std.proofs.lemmas.List.{append-nil, append_assoc, take-map}
use Rattle.std.proofs.lemmas.List.Folds.{list_all-append, list_all-map, list_any-append}
use Rattle.std.proofs.lemmas.Bool.{and_from}
use Rattle.std.proofs.lemmas.Option.{none-some, same_Some, slice_get-map, slice_get_within}
use Rattle.std.proofs.lemmas.Slice.Eq.{bytes_eq-Decides}
use Rattle.gcd_plan.specs.Breaks.{Has, names_before_file, names_before_object, names_before_strip, names_before_block}
use Rattle.gcd_plan.specs.Checked.{AllHave, IsNewName, IsNewBlock}
use Rattle.gcd_plan.specs.Names.{is_name}
use Rattle.gcd_plan.specs.PlanView.{PlanView, view_of, obj_view, blk_view, file_view, strip_view}
use Rattle.gcd_plan.specs.Validity.{declared_names, names_of, has_name}
use Rattle.gcd_plan.specs.declared.parts.Parts.{Parts}
use Rattle.gcd_plan.proofs.Having.{list_all-from_have}
use Rattle.gcd_plan.proofs.Sums.{count_by-append, count_by-cons, count_by_none, count_by_push, count_by_some}

-- ## The names of parts, as the plan's

any_seen : {A V : Type 0} (test : List ℕ → Bool) (view : A → V) (name : V → List ℕ) (xs : List A)
    → list_any test (map name (map view xs)) ≡ list_any (λ x. test (name (view x))) xs
any_seen test view name [] = refl
any_seen test view name (x ∷ xs) = ap (λ v. test (name (view x)) || v) (any_seen test view name xs)

any_seen_before : {A V : Type 0} (test : List ℕ → Bool) (view : A → V) (name : V → List ℕ) (xs : List A) (n : ℕ)
    → list_any test (take n (map name (map view xs))) ≡ list_any (λ x. test (name (view x))) (take n xs)
any_seen_before test view name xs n =
    ap (list_any test) (take-map name n (map view xs) ∙ ap (map name) (take-map view n xs)) ∙ any_seen test view name (take n xs)

pub before_file : (p : Parts) (test : List ℕ → Bool) (n : ℕ)
    → list_any test (names_before_file (view_of p) n) ≡ list_any (λ f. test (string_bytes f.name)) (take n p.files.items)
before_file p test n = any_seen_before test file_view (λ v. v.name) p.files.items n

pub before_object : (p : Parts) (test : List ℕ → Bool) (n : ℕ)
    → list_any test (names_before_object (view_of p) n)
    ≡ (list_any (λ f. test (string_bytes f.name)) p.files.items || list_any (λ o. test (string_bytes o.name)) (take n p.objects.items))
before_object p test n =
    let files = map (λ v. v.name) (map file_view p.files.items) in
    let objects = take n (map (λ v. v.name) (map obj_view p.objects.items)) in
    let f = any_seen test file_view (λ v. v.name) p.files.items in
    let o = any_seen_before test obj_view (λ v. v.name) p.objects.items n in
    list_any-append test files objects
    ∙ ap (λ v. v || list_any test objects) f
    ∙ ap (λ v. list_any (λ x. test (string_bytes x.name)) p.files.items || v) o

abbrev files_any : (p : Parts) (test : List ℕ → Bool) → Bool
files_any p test = list_any (λ f. test (string_bytes f.name)) p.files.items

abbrev objects_any : (p : Parts) (test : List ℕ → Bool) → Bool
objects_any p test = list_any (λ o. test (string_bytes o.name)) p.objects.items

-- the names of files and objects, and others behind them
three : (p : Parts) (test : List ℕ → Bool) (others : List (List ℕ))
    → list_any test (map (λ v. v.name) (view_of p).files ++ (map (λ v. v.name) (view_of p).objects ++ others))
    ≡ (files_any p test || (objects_any p test || list_any test others))
three p test others =
    let files = map (λ v. v.name) (map file_view p.files.items) in
    let objects = map (λ v. v.name) (map obj_view p.objects.items) in
    list_any-append test files (objects ++ others)
    ∙ ap (λ v. list_any test files || v) (list_any-append test objects others)
    ∙ ap (λ v. v || (list_any test objects || list_any test others)) (any_seen test file_view (λ v. v.name) p.files.items)
    ∙ ap (λ v. files_any p test || (v || list_any test others)) (any_seen test obj_view (λ v. v.name) p.objects.items)

pub before_strip : (p : Parts) (test : List ℕ → Bool) (n : ℕ)
    → list_any test (names_before_strip (view_of p) n)
    ≡ (list_any (λ f. test (string_bytes f.name)) p.files.items
    || (list_any (λ o. test (string_bytes o.name)) p.objects.items || list_any (λ s. test (string_bytes s.name)) (take n p.strips.items)))
before_strip p test n =
    let strips = take n (map (λ v. v.name) (map strip_view p.strips.items)) in
    three p test strips ∙ ap (λ v. files_any p test || (objects_any p test || v)) (any_seen_before test strip_view (λ v. v.name) p.strips.items n)

pub declared_seen : (p : Parts) (test : List ℕ → Bool)
    → list_any test (declared_names (view_of p))
    ≡ (list_any (λ f. test (string_bytes f.name)) p.files.items
    || (list_any (λ o. test (string_bytes o.name)) p.objects.items || list_any (λ s. test (string_bytes s.name)) p.strips.items))
declared_seen p test =
    let strips = map (λ v. v.name) (map strip_view p.strips.items) in
    three p test strips ∙ ap (λ v. files_any p test || (objects_any p test || v)) (any_seen test strip_view (λ v. v.name) p.strips.items)

pub before_block : (p : Parts) (test : List ℕ → Bool) (n : ℕ)
    → list_any test (names_before_block (view_of p) n)
    ≡ (list_any test (declared_names (view_of p)) || list_any (λ b. test b.name) (take n p.blocks.items))
before_block p test n =
    let declared = declared_names (view_of p) in
    list_any-append test declared (take n (map (λ v. v.name) (map blk_view p.blocks.items)))
    ∙ ap (λ v. list_any test declared || v) (any_seen_before test blk_view (λ v. v.name) p.blocks.items n)

-- ## Names that do not stand before

one_more : (before : List (List ℕ)) (x : List ℕ) → ((n : List ℕ) → count_by (bytes_eq n) before ≤ 1) → list_any (bytes_eq x) before ≡ false
    → (n : List ℕ) → count_by (bytes_eq n) (before ++ x ∷ []) ≤ 1
one_more before x few free n =
    elim (bytes_eq n x) as (λ v. bytes_eq n x ≡ v → count_by (bytes_eq n) (before ++ x ∷ []) ≡ count_by (bytes_eq n) before + cond v 1 0
    → count_by (bytes_eq n) (before ++ x ∷ []) ≤ 1) [
      | true ↦ λ e more.
          let same : n ≡ x = (bytes_eq-Decides n x).0 e in
          let none : count_by (bytes_eq n) before ≡ 0 = count_by_none (bytes_eq n) before (ap (λ m. list_any (bytes_eq m) before) same ∙ free) in
          omega arith
      | false ↦ λ e more. omega (arith, few n)
    ] refl (count_by_push (bytes_eq n) before x)

-- the names so far stand apart, and none of the others stands before itself
apart_more : (before xs : List (List ℕ)) → ((n : List ℕ) → count_by (bytes_eq n) before ≤ 1)
    → ((i : ℕ) (x : List ℕ) → slice_get xs i ≡ Some x → list_any (bytes_eq x) (before ++ take i xs) ≡ false)
    → (n : List ℕ) → count_by (bytes_eq n) (before ++ xs) ≤ 1
apart_more before [] few free n =
    let same : count_by (bytes_eq n) (before ++ []) ≡ count_by (bytes_eq n) before = ap (count_by (bytes_eq n)) (append-nil before) in
    omega (arith, same, few n)
apart_more before (x ∷ xs) few free n =
    let first : list_any (bytes_eq x) before ≡ false = ap (list_any (bytes_eq x)) (sym (append-nil before)) ∙ free 0 x refl in
    let rest : count_by (bytes_eq n) ((before ++ x ∷ []) ++ xs) ≤ 1 =
    apart_more (before ++ x ∷ []) xs (one_more before x few first)
    (λ i y at. ap (list_any (bytes_eq y)) (append_assoc before (x ∷ []) (take i xs)) ∙ free (suc i) y at) n in
    let same : count_by (bytes_eq n) ((before ++ x ∷ []) ++ xs) ≡ count_by (bytes_eq n) (before ++ (x ∷ xs)) =
    ap (count_by (bytes_eq n)) (append_assoc before (x ∷ []) xs) in
    omega (arith, rest, same)

-- the name of each of these stands before nowhere
abbrev AreFree : {V : Type 0} (name : V → List ℕ) (vs : List V) (before : ℕ → List (List ℕ)) → Type 0
AreFree name vs before = AllHave vs (λ i v. list_any (bytes_eq (name v)) (before i) ≡ false)

new_free : {V : Type 0} (name : V → List ℕ) (vs : List V) (before : ℕ → List (List ℕ)) → AllHave vs (λ i v. IsNewName (before i) (name v))
    → AreFree name vs before
new_free name vs before have i h = let one = have i h in record { element = one.element; stands = one.stands; holds = one.holds.free }

new_name : {V : Type 0} (name : V → List ℕ) (vs : List V) (before : ℕ → List (List ℕ)) → AreFree name vs before
    → (i : ℕ) (x : List ℕ) → slice_get (map name vs) i ≡ Some x → list_any (bytes_eq x) (before i) ≡ false
new_name name vs before have i x at =
    found (slice_get vs i) refl
  where
    found : (o : Option _) → slice_get vs i ≡ o → list_any (bytes_eq x) (before i) ≡ false
    found None is = absurd (none-some x (sym (ap (option_map name) is) ∙ sym (slice_get-map name vs i) ∙ at))
    found (Some v) is =
        let one = have i (slice_get_within vs i v is) in
        let same : one.element ≡ v = same_Some one.element v (sym one.stands ∙ is) in
        let named : x ≡ name one.element =
        sym (same_Some (name v) x (sym (ap (option_map name) is) ∙ sym (slice_get-map name vs i) ∙ at)) ∙ ap name (sym same) in
        ap (λ y. list_any (bytes_eq y) (before i)) named ∙ one.holds

formed : {V : Type 0} (name : V → List ℕ) (vs : List V) (before : ℕ → List (List ℕ)) → AllHave vs (λ i v. IsNewName (before i) (name v))
    → list_all is_name (map name vs) ≡ true
formed name vs before have =
    list_all-map is_name name vs
    ∙ list_all-from_have (λ v. is_name (name v)) vs
    (λ i h. let one = have i h in record { element = one.element; stands = one.stands; holds = one.holds.formed })

-- each name of the plan stands before nowhere, and is well formed but for those of made blocks
pub record AreNew (plan : PlanView) : Type 0 where
  pub files : AllHave plan.files (λ f v. IsNewName (names_before_file plan f) v.name)
  pub objects : AllHave plan.objects (λ o v. IsNewName (names_before_object plan o) v.name)
  pub strips : AllHave plan.strips (λ a v. IsNewName (names_before_strip plan a) v.name)
  pub blocks : AllHave plan.blocks (λ b v. IsNewBlock plan b v.name)

pub names_formed : (plan : PlanView) → AreNew plan → list_all is_name (declared_names plan) ≡ true
names_formed plan new =
    let files = map (λ v. v.name) plan.files in
    let objects = map (λ v. v.name) plan.objects in
    let strips = map (λ v. v.name) plan.strips in
    list_all-append is_name files (objects ++ strips)
    ∙ and_from _ _ (formed (λ v. v.name) plan.files (names_before_file plan) new.files)
    (list_all-append is_name objects strips
    ∙ and_from _ _ (formed (λ v. v.name) plan.objects (names_before_object plan) new.objects)
    (formed (λ v. v.name) plan.strips (names_before_strip plan) new.strips))

pub blocks_named : (plan : PlanView) → AreNew plan → (b : ℕ) → b < length plan.blocks → has_name plan b ≡ true
blocks_named plan new b within = (new.blocks b within).holds.named

blocks_free : (plan : PlanView) → AreNew plan → AreFree (λ v. v.name) plan.blocks (names_before_block plan)
blocks_free plan new i h = let one = new.blocks i h in record { element = one.element; stands = one.stands; holds = one.holds.free }

pub names_apart : (plan : PlanView) → AreNew plan → (n : List ℕ) → count_by (bytes_eq n) (names_of plan) ≤ 1
names_apart plan new n =
    let files = map (λ v. v.name) plan.files in
    let objects = map (λ v. v.name) plan.objects in
    let strips = map (λ v. v.name) plan.strips in
    let blocks = map (λ v. v.name) plan.blocks in
    let first : (m : List ℕ) → count_by (bytes_eq m) files ≤ 1 =
    apart_more [] files (λ m. omega arith)
    (new_name (λ v. v.name) plan.files (names_before_file plan) (new_free (λ v. v.name) plan.files (names_before_file plan) new.files)) in
    let second : (m : List ℕ) → count_by (bytes_eq m) (files ++ objects) ≤ 1 =
    apart_more files objects first
    (new_name (λ v. v.name) plan.objects (names_before_object plan) (new_free (λ v. v.name) plan.objects (names_before_object plan) new.objects)) in
    let third : (m : List ℕ) → count_by (bytes_eq m) ((files ++ objects) ++ strips) ≤ 1 =
    apart_more (files ++ objects) strips second
    (λ i x at. ap (list_any (bytes_eq x)) (append_assoc files objects (take i strips))
    ∙ new_name (λ v. v.name) plan.strips (names_before_strip plan) (new_free (λ v. v.name) plan.strips (names_before_strip plan) new.strips) i x at) in
    let declared : (m : List ℕ) → count_by (bytes_eq m) (declared_names plan) ≤ 1 =
    λ m. subst (λ l. count_by (bytes_eq m) l ≤ 1) (append_assoc files objects strips) (third m) in
    apart_more (declared_names plan) blocks declared
    (new_name (λ v. v.name) plan.blocks (names_before_block plan) (blocks_free plan new)) n

-- ## A name that stands before

split_at : {A : Type 0} (xs : List A) (i : ℕ) (x : A) → slice_get xs i ≡ Some x → xs ≡ take i xs ++ (x ∷ drop (suc i) xs)
split_at [] i x at = cc
split_at (y ∷ xs) zero x at = ap (λ z. z ∷ xs) (same_Some y x at)
split_at (y ∷ xs) (suc i) x at = ap (λ zs. y ∷ zs) (split_at xs i x at)

twice : (names front : List (List ℕ)) (x : List ℕ) (back : List (List ℕ)) → names ≡ front ++ (x ∷ back) → list_any (bytes_eq x) front ≡ true
    → ((n : List ℕ) → count_by (bytes_eq n) names ≤ 1) → ⊥
twice names front x back split before apart =
    let whole : count_by (bytes_eq x) names ≡ count_by (bytes_eq x) (front ++ (x ∷ back)) = ap (count_by (bytes_eq x)) split in
    let parts = count_by-append (bytes_eq x) front (x ∷ back) in
    let one = count_by_some (bytes_eq x) front before in
    let next = count_by-cons (bytes_eq x) x back in
    let own : ◌≡◌ {A = ℕ} (cond (bytes_eq x x) 1 0) 1 = ap (λ v. cond v 1 0) ((bytes_eq-Decides x x).1 refl) in
    let few = apart x in
    absurd (omega arith)

stands_named : {V : Type 0} (name : V → List ℕ) (vs : List V) (i : ℕ) (v : V) → slice_get vs i ≡ Some v → slice_get (map name vs) i ≡ Some (name v)
stands_named name vs i v at = slice_get-map name vs i ∙ ap (option_map name) at

-- a name that stands before its own place among these, behind others
twice_in : {V : Type 0} (name : V → List ℕ) (vs : List V) (i : ℕ) (names front back : List (List ℕ)) (v : V) → slice_get vs i ≡ Some v
    → names ≡ front ++ (map name vs ++ back) → list_any (bytes_eq (name v)) (front ++ take i (map name vs)) ≡ true
    → ((n : List ℕ) → count_by (bytes_eq n) names ≤ 1) → ⊥
twice_in name vs i names front back v at whole before apart =
    let xs = map name vs in
    let x = name v in
    let split = split_at xs i x (stands_named name vs i v at) in
    twice names (front ++ take i xs) x (drop (suc i) xs ++ back)
    (whole
    ∙ ap (λ l. front ++ (l ++ back)) split
    ∙ ap (λ l. front ++ l) (append_assoc (take i xs) (x ∷ drop (suc i) xs) back)
    ∙ sym (append_assoc front (take i xs) (x ∷ (drop (suc i) xs ++ back))))
    before apart

pub file_twice : (plan : PlanView) (f : ℕ) → Has plan.files f (λ v. list_any (bytes_eq v.name) (names_before_file plan f) ≡ true)
    → ((n : List ℕ) → count_by (bytes_eq n) (names_of plan) ≤ 1) → ⊥
file_twice plan f one =
    let files = map (λ v. v.name) plan.files in
    let objects = map (λ v. v.name) plan.objects in
    let strips = map (λ v. v.name) plan.strips in
    let blocks = map (λ v. v.name) plan.blocks in
    twice_in (λ v. v.name) plan.files f (names_of plan) [] ((objects ++ strips) ++ blocks) one.element one.stands
    (append_assoc files (objects ++ strips) blocks) one.holds

pub object_twice : (plan : PlanView) (o : ℕ) → Has plan.objects o (λ v. list_any (bytes_eq v.name) (names_before_object plan o) ≡ true)
    → ((n : List ℕ) → count_by (bytes_eq n) (names_of plan) ≤ 1) → ⊥
object_twice plan o one =
    let files = map (λ v. v.name) plan.files in
    let objects = map (λ v. v.name) plan.objects in
    let strips = map (λ v. v.name) plan.strips in
    let blocks = map (λ v. v.name) plan.blocks in
    twice_in (λ v. v.name) plan.objects o (names_of plan) files (strips ++ blocks) one.element one.stands
    (append_assoc files (objects ++ strips) blocks ∙ ap (λ l. files ++ l) (append_assoc objects strips blocks)) one.holds

pub strip_twice : (plan : PlanView) (a : ℕ) → Has plan.strips a (λ v. list_any (bytes_eq v.name) (names_before_strip plan a) ≡ true)
    → ((n : List ℕ) → count_by (bytes_eq n) (names_of plan) ≤ 1) → ⊥
strip_twice plan a one =
    let files = map (λ v. v.name) plan.files in
    let objects = map (λ v. v.name) plan.objects in
    let strips = map (λ v. v.name) plan.strips in
    let blocks = map (λ v. v.name) plan.blocks in
    twice_in (λ v. v.name) plan.strips a (names_of plan) (files ++ objects) blocks one.element one.stands
    (ap (λ l. l ++ blocks) (sym (append_assoc files objects strips)) ∙ append_assoc (files ++ objects) strips blocks)
    (ap (list_any (bytes_eq one.element.name)) (append_assoc files objects (take a strips)) ∙ one.holds)

pub block_twice : (plan : PlanView) (b : ℕ) → Has plan.blocks b (λ v. list_any (bytes_eq v.name) (names_before_block plan b) ≡ true)
    → ((n : List ℕ) → count_by (bytes_eq n) (names_of plan) ≤ 1) → ⊥
block_twice plan b one =
    let blocks = map (λ v. v.name) plan.blocks in
    twice_in (λ v. v.name) plan.blocks b (names_of plan) (declared_names plan) [] one.element one.stands
    (ap (λ l. declared_names plan ++ l) (sym (append-nil blocks))) one.holds

-- Walks along a chain: that they end, what stands on them, and what stays where a step changes.
use Rattle.std.proofs.Common.{◌≡◌, ◌≢◌, ℕ, zero, suc, ◌+◌, ◌-◌, ◌<◌, ◌≤◌, ◌==◌, Bool, true, false, cond, ◌||◌, inl, inr, List, [], ◌∷◌, length, get_or, refl, ap, sym, ◌∙◌, subst, arith, eqb}
use Rattle.std.specs.List.{list_any, count_by, IsDistinct, AllByRecursion, All}
use Rattle.std.proofs.lemmas.Bool.{false≢true, both_ways, ne_eqb, eq-eqb, eqb-true, cases_eq, false_from_ne_true, or_right, or_parts}
use Rattle.std.proofs.lemmas.List.Sums.{sum_by-cons}
use Rattle.std.proofs.lemmas.Map.Steps.{length-le_from_distinct_below}
use Rattle.gcd_plan.specs.Chains.{chain_by, is_in}
use Rattle.gcd_plan.proofs.Walks.{in_rest, in_longer, chain_agree}

-- ---- one step

-- at root a walk is root alone
pub chain_by-root : (f : ℕ → ℕ) (b o : ℕ) → o ≡ 0 → chain_by f (suc b) o ≡ o ∷ []
chain_by-root f b o at = let e : (o == 0) ≡ true = eq-eqb _ _ at in rw e refl

-- elsewhere it goes on
pub chain_by-away : (f : ℕ → ℕ) (b o : ℕ) → o ≢ 0 → chain_by f (suc b) o ≡ o ∷ chain_by f b (f o)
chain_by-away f b o away = let e : (o == 0) ≡ false = ne_eqb _ _ away in rw e refl

-- what is first in a list, and what is in its rest
is_in-first : (o x : ℕ) (xs : List ℕ) → x ≡ o → is_in o (x ∷ xs) ≡ true
is_in-first o x xs e = let t : (x == o) ≡ true = eq-eqb _ _ e in rw t refl

is_in-rest : (o x : ℕ) (xs : List ℕ) → is_in o xs ≡ true → is_in o (x ∷ xs) ≡ true
is_in-rest o x xs h = or_right (x == o) (is_in o xs) h

pub is_in-other : (o x : ℕ) (xs : List ℕ) → x ≢ o → is_in o (x ∷ xs) ≡ is_in o xs
is_in-other o x xs ne = let t : (x == o) ≡ false = ne_eqb _ _ ne in rw t refl

-- what is on a walk, by where the walk stands
data Stands (f : ℕ → ℕ) (b o x : ℕ) : Type 0 where
  here : o ≡ x → Stands f b o x
  later : o ≢ x → o ≢ 0 → is_in x (chain_by f b (f o)) ≡ true → Stands f b o x

stands : (f : ℕ → ℕ) (b o x : ℕ) → is_in x (chain_by f (suc b) o) ≡ true → Stands f b o x
stands f b o x h = elim (cases_eq o x) [
  | inl same ↦ here same
  | inr other ↦ elim (cases_eq o 0) [
    | inl at ↦ absurd (false≢true (sym (is_in-other x o [] other) ∙ sym (ap (is_in x) (chain_by-root f b o at)) ∙ h))
    | inr away ↦ later other away (sym (is_in-other x o (chain_by f b (f o)) other) ∙ sym (ap (is_in x) (chain_by-away f b o away)) ∙ h)
  ]
]

-- a walk is no longer than its bound
pub length_chain_by : (f : ℕ → ℕ) (b o : ℕ) → length (chain_by f b o) ≤ b
length_chain_by f zero o = omega arith
length_chain_by f (suc b) o = elim (cases_eq o 0) [
  | inl at ↦ let one = ap length (chain_by-root f b o at) in omega (arith, one)
  | inr away ↦ let more = ap length (chain_by-away f b o away) in let rest = length_chain_by f b (f o) in omega (arith, more, rest)
]

-- a walk has its start
pub is_in-start : (f : ℕ → ℕ) (b o x : ℕ) → o ≡ x → is_in x (chain_by f (suc b) o) ≡ true
is_in-start f b o x same = is_in-first x o (cond (o == 0) [] (chain_by f b (f o))) same

-- a walk that is not at its end goes on at the next object
pub walk_on : (f : ℕ → ℕ) (n i at x : ℕ) → i < n → at ≢ 0 → at ≢ x
    → is_in x (chain_by f (n - i) at) ≡ is_in x (chain_by f (n - (i + 1)) (f at))
walk_on f n i at x h away other =
    let more : n - i ≡ suc (n - (i + 1)) = omega arith in
    ap (λ b. is_in x (chain_by f b at)) more
    ∙ ap (is_in x) (chain_by-away f (n - (i + 1)) at away)
    ∙ is_in-other x at _ other

-- a walk at root has nothing else
at_root : (f : ℕ → ℕ) (b at x : ℕ) → at ≡ 0 → at ≢ x → is_in x (chain_by f b at) ≡ false
at_root f zero at x root other = refl
at_root f (suc b) at x root other = ap (is_in x) (chain_by-root f b at root) ∙ is_in-other x at [] other

pub walk_stops : (f : ℕ → ℕ) (n i at x : ℕ) → at ≡ 0 → at ≢ x → is_in x (chain_by f (n - i) at) ≡ false
walk_stops f n i at x root other = at_root f (n - i) at x root other

-- a walk meets where it stands
pub walk_meets : (f : ℕ → ℕ) (n i at x : ℕ) → i < n → at ≡ x → is_in x (chain_by f (n - i) at) ≡ true
walk_meets f n i at x h there =
    let more : n - i ≡ suc (n - (i + 1)) = omega arith in
    ap (λ b. is_in x (chain_by f b at)) more ∙ is_in-start f (n - (i + 1)) at x there

-- ---- walks that end at root

-- a walk that ends is the same within a larger bound
pub chain_by-more : (f : ℕ → ℕ) (b m o : ℕ) → is_in 0 (chain_by f b o) ≡ true → b ≤ m → chain_by f m o ≡ chain_by f b o
chain_by-more f zero m o h le = absurd (false≢true h)
chain_by-more f (suc b) zero o h le = absurd (omega arith)
chain_by-more f (suc b) (suc m) o h le = elim (stands f b o 0 h) [
  | here at ↦ chain_by-root f m o at ∙ sym (chain_by-root f b o at)
  | later away _ rest ↦
      chain_by-away f m o away ∙ ap (λ xs. o ∷ xs) (chain_by-more f b m (f o) rest (omega arith)) ∙ sym (chain_by-away f b o away)
]

-- from each object of a walk that ends the walk ends too, and is no longer
pub on_walk : (f : ℕ → ℕ) (b o x : ℕ) → is_in x (chain_by f b o) ≡ true → is_in 0 (chain_by f b o) ≡ true
    → (is_in 0 (chain_by f b x) ≡ true) × (length (chain_by f b x) ≤ length (chain_by f b o))
on_walk f zero o x h ends = absurd (false≢true h)
on_walk f (suc b) o x h ends = elim (stands f b o x h) [
  | here same ↦
      subst (λ y. (is_in 0 (chain_by f (suc b) y) ≡ true) × (length (chain_by f (suc b) y) ≤ length (chain_by f (suc b) o))) same
      (ends, omega arith)
  | later _ away rest ↦
      let goes_on : is_in 0 (chain_by f b (f o)) ≡ true = sym (is_in-other 0 o (chain_by f b (f o)) away) ∙ sym (ap (is_in 0) (chain_by-away f b o away)) ∙ ends in
      let further = on_walk f b (f o) x rest goes_on in
      let same : chain_by f (suc b) x ≡ chain_by f b x = chain_by-more f b (suc b) x further.0 (omega arith) in
      let longer : length (chain_by f (suc b) o) ≡ suc (length (chain_by f b (f o))) = ap length (chain_by-away f b o away) in
      (ap (is_in 0) same ∙ further.0, omega (arith, ap length same, longer, further.1))
]

-- a walk that ends does not come back
pub not_again : (f : ℕ → ℕ) (b o : ℕ) → o ≢ 0 → is_in 0 (chain_by f b (f o)) ≡ true → is_in o (chain_by f b (f o)) ≡ false
not_again f b o away ends = false_from_ne_true _ (λ again.
    let back = on_walk f b (f o) o again ends in
    let same : chain_by f (suc b) o ≡ chain_by f b o = chain_by-more f b (suc b) o back.0 (omega arith) in
    let longer : length (chain_by f (suc b) o) ≡ suc (length (chain_by f b (f o))) = ap length (chain_by-away f b o away) in
    omega (arith, ap length same, longer, back.1))

-- ---- each object stands once on a walk that ends

others_differ : (o : ℕ) (xs : List ℕ) → is_in o xs ≡ false → AllByRecursion (λ y. eqb o y ≡ false) xs
others_differ o [] h = tt
others_differ o (x ∷ xs) h =
    let parts = or_parts (x == o) (is_in o xs) h in
    (ne_eqb o x (λ same. both_ways _ parts.0 (eq-eqb x o (sym same))), others_differ o xs parts.1)

pub IsDistinct-chain_by : (f : ℕ → ℕ) (b o : ℕ) → is_in 0 (chain_by f b o) ≡ true → IsDistinct eqb (chain_by f b o)
unfolding IsDistinct
IsDistinct-chain_by f zero o h = absurd (false≢true h)
IsDistinct-chain_by f (suc b) o h = elim (stands f b o 0 h) [
  | here at ↦ subst (IsDistinct eqb) (sym (chain_by-root f b o at)) (tt, tt)
  | later away _ rest ↦ subst (IsDistinct eqb) (sym (chain_by-away f b o away))
      (others_differ o _ (not_again f b o away rest), IsDistinct-chain_by f b (f o) rest)
]

none_counted : (o : ℕ) (xs : List ℕ) → AllByRecursion (λ y. eqb o y ≡ false) xs → count_by (λ x. x == o) xs ≡ 0
none_counted o [] h = refl
none_counted o (x ∷ xs) h =
    let e : (x == o) ≡ false = ne_eqb x o (λ same. both_ways _ h.0 (eq-eqb o x (sym same))) in
    let one : ◌≡◌ {A = ℕ} (cond (x == o) 1 0) 0 = ap (λ v. cond v 1 0) e in
    sum_by-cons (λ y. cond (y == o) 1 0) x xs ∙ (let rest = none_counted o xs h.1 in omega arith)

count_first : (o x : ℕ) (xs : List ℕ) (b : Bool) → (x == o) ≡ b → AllByRecursion (λ y. eqb x y ≡ false) xs
    → ◌≡◌ {A = ℕ} (count_by (λ y. y == o) xs) (cond (is_in o xs) 1 0)
    → ◌≡◌ {A = ℕ} (cond b 1 0 + count_by (λ y. y == o) xs) (cond (b || is_in o xs) 1 0)
count_first o x xs true e apart rest =
    let none = none_counted o xs (subst (λ z. AllByRecursion (λ y. eqb z y ≡ false) xs) (eqb-true x o e) apart) in omega arith
count_first o x xs false e apart rest = omega arith

-- an object is counted once in a list without repetition that has it
pub count_by-distinct : (o : ℕ) (xs : List ℕ) → IsDistinct eqb xs → ◌≡◌ {A = ℕ} (count_by (λ x. x == o) xs) (cond (is_in o xs) 1 0)
unfolding IsDistinct
count_by-distinct o [] h = refl
count_by-distinct o (x ∷ xs) h =
    sum_by-cons (λ y. cond (y == o) 1 0) x xs
    ∙ count_first o x xs (x == o) refl h.0 (count_by-distinct o xs h.1)

-- an object is counted once on a walk that ends and has it
pub count_by-chain_by : (f : ℕ → ℕ) (b o x : ℕ) → is_in 0 (chain_by f b o) ≡ true
    → ◌≡◌ {A = ℕ} (count_by (λ y. y == x) (chain_by f b o)) (cond (is_in x (chain_by f b o)) 1 0)
count_by-chain_by f b o x ends = count_by-distinct x _ (IsDistinct-chain_by f b o ends)

-- ---- walks among the numbers below n

-- what is on a walk is in range
pub in_range : (f : ℕ → ℕ) (n b o x : ℕ) → ((y : ℕ) → y < n → f y < n) → o < n → is_in x (chain_by f b o) ≡ true → x < n
in_range f n zero o x fits lt h = absurd (false≢true h)
in_range f n (suc b) o x fits lt h = elim (stands f b o x h) [
  | here same ↦ subst (λ y. y < n) same lt
  | later _ _ rest ↦ in_range f n b (f o) x fits (fits o lt) rest
]

pub All_chain_by : (f : ℕ → ℕ) (n b o : ℕ) → ((y : ℕ) → y < n → f y < n) → o < n → All (λ x. x < n) (chain_by f b o)
All_chain_by f n zero o fits lt k d h = absurd (omega arith)
All_chain_by f n (suc b) o fits lt k d h = elim (cases_eq o 0) [
  | inl at ↦ subst (λ xs. k < length xs → get_or xs k d < n) (sym (chain_by-root f b o at)) (first k) h
  | inr away ↦ subst (λ xs. k < length xs → get_or xs k d < n) (sym (chain_by-away f b o away))
      (rest k (All_chain_by f n b (f o) fits (fits o lt))) h
]
  where
    first : (i : ℕ) → i < length (o ∷ []) → get_or (o ∷ []) i d < n
    first zero j = lt
    first (suc i) j = absurd (omega arith)

    rest : (i : ℕ) → All (λ x. x < n) (chain_by f b (f o)) → i < length (o ∷ chain_by f b (f o)) → get_or (o ∷ chain_by f b (f o)) i d < n
    rest zero all j = lt
    rest (suc i) all j = all i d (omega arith)

-- a walk that ends, ends within its length
ends_short : (f : ℕ → ℕ) (b m o : ℕ) → is_in 0 (chain_by f b o) ≡ true → length (chain_by f b o) ≤ m → is_in 0 (chain_by f m o) ≡ true
ends_short f zero m o h le = absurd (false≢true h)
ends_short f (suc b) zero o h le = absurd (omega arith)
ends_short f (suc b) (suc m) o h le = elim (stands f b o 0 h) [
  | here at ↦ is_in-start f m o 0 at
  | later away _ rest ↦
      let longer : length (chain_by f (suc b) o) ≡ suc (length (chain_by f b (f o))) = ap length (chain_by-away f b o away) in
      in_rest f m o 0 away (ends_short f b m (f o) rest (omega (arith, longer, le)))
]

found_alike : (q : ℕ) (xs : List ℕ) → list_any (eqb q) xs ≡ true → is_in q xs ≡ true
found_alike q [] h = h
found_alike q (x ∷ xs) h = elim (cases_eq x q) [
  | inl same ↦ is_in-first q x xs same
  | inr other ↦
      let e : eqb q x ≡ false = ne_eqb q x (λ same. other (sym same)) in
      is_in-rest q x xs (found_alike q xs (rw e at h))
]

-- a walk that ends, ends within n steps
pub ends_within : (f : ℕ → ℕ) (n b o : ℕ) → ((y : ℕ) → y < n → f y < n) → o < n → is_in 0 (chain_by f b o) ≡ true
    → is_in 0 (chain_by f n o) ≡ true
ends_within f n b o fits lt ends =
    ends_short f b n o ends
    (length-le_from_distinct_below _ n (IsDistinct-chain_by f b o ends) (λ q h. in_range f n b o q fits lt (found_alike q _ h)))

-- ---- where a step changes

-- with another step at p, from which the walk ends without meeting p, each walk that ended still ends
pub ends_redirected : (f g : ℕ → ℕ) (p b c m o : ℕ) → ((x : ℕ) → x ≢ p → g x ≡ f x)
    → is_in p (chain_by f b (g p)) ≡ false → is_in 0 (chain_by f b (g p)) ≡ true
    → is_in 0 (chain_by f c o) ≡ true → c + suc b ≤ m → is_in 0 (chain_by g m o) ≡ true
ends_redirected f g p b zero m o same apart ends h le = absurd (false≢true h)
ends_redirected f g p b (suc c) zero o same apart ends h le = absurd (omega arith)
ends_redirected f g p b (suc c) (suc m) o same apart ends h le = elim (stands f c o 0 h) [
  | here at ↦ is_in-start g m o 0 at
  | later away _ rest ↦ in_rest g m o 0 away (elim (cases_eq o p) [
    | inl there ↦
        let kept : chain_by g b (g p) ≡ chain_by f b (g p) = chain_agree f g b (g p)
        (λ x on. same x (λ e. both_ways _ apart (subst (λ y. is_in y (chain_by f b (g p)) ≡ true) e on))) in
        subst (λ y. is_in 0 (chain_by g m (g y)) ≡ true) (sym there) (in_longer g b m (g p) 0 (omega arith) (ap (is_in 0) kept ∙ ends))
    | inr elsewhere ↦
        subst (λ y. is_in 0 (chain_by g m y) ≡ true) (sym (same o elsewhere))
        (ends_redirected f g p b c m (f o) same apart ends rest (omega arith))
  ])
]

-- a walk by f meets o and the walk by g does not: at some object other than o, from which the walk by f meets o, they part
pub record Parting (f g : ℕ → ℕ) (b t o : ℕ) : Type 0 where
  pub at : ℕ
  pub elsewhere : at ≢ o
  pub on_it : is_in at (chain_by f b t) ≡ true
  pub before : is_in o (chain_by f b at) ≡ true
  pub apart : f at ≢ g at

pub parting : (f g : ℕ → ℕ) (b t o : ℕ) → is_in o (chain_by f b t) ≡ true → is_in o (chain_by g b t) ≡ false → Parting f g b t o
parting f g zero t o h none = absurd (false≢true h)
parting f g (suc b) t o h none = elim (stands f b t o h) [
  | here same ↦ absurd (both_ways _ none (is_in-start g b t o same))
  | later other away rest ↦ elim (cases_eq (f t) (g t)) [
    | inl together ↦
        let none_later : is_in o (chain_by g b (f t)) ≡ false =
        ap (λ y. is_in o (chain_by g b y)) together ∙ sym (is_in-other o t (chain_by g b (g t)) other) ∙ sym (ap (is_in o) (chain_by-away g b t away)) ∙ none in
        let p = parting f g b (f t) o rest none_later in
        record {
          at = p.at;
          elsewhere = p.elsewhere;
          on_it = in_rest f b t p.at away p.on_it;
          before = in_longer f b (suc b) p.at o (omega arith) p.before;
          apart = p.apart;
        }
    | inr here_apart ↦ record { at = t; elsewhere = other; on_it = is_in-start f b t t refl; before = h; apart = here_apart }
  ]
]

-- a walk that meets o, but does not begin there, has a step to o
pub record StepTo (f : ℕ → ℕ) (b m o : ℕ) : Type 0 where
  pub from : ℕ
  pub elsewhere : from ≢ o
  pub away : from ≢ 0
  pub on_it : is_in from (chain_by f b m) ≡ true
  pub steps : f from ≡ o

pub step_to : (f : ℕ → ℕ) (b m o : ℕ) → m ≢ o → is_in o (chain_by f b m) ≡ true → StepTo f b m o
step_to f zero m o ne h = absurd (false≢true h)
step_to f (suc b) m o ne h = elim (stands f b m o h) [
  | here same ↦ absurd (ne same)
  | later _ away rest ↦ elim (cases_eq (f m) o) [
    | inl there ↦ record { from = m; elsewhere = ne; away = away; on_it = is_in-start f b m m refl; steps = there }
    | inr further ↦
        let s = step_to f b (f m) o further rest in
        record { from = s.from; elsewhere = s.elsewhere; away = s.away; on_it = in_rest f b m s.from away s.on_it; steps = s.steps }
  ]
]

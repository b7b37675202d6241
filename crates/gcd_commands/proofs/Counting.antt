-- How many blocks are accepted of all senders, and of each where they are as many as there may be.
use Rattle.std.proofs.Common.{◌≡◌, ◌∙◌, ◌+◌, ◌*◌, ◌/◌, ◌<◌, ◌≤◌, ◌==◌, nat_le, nat_lt, ℕ, zero, suc, Bool, true, false, if◌then◌else◌, List, [], ◌∷◌, length, map, take, Some, None, slice_get, ap, refl, sym, subst, arith, ⊎_elim}
use Rattle.std.specs.List.{cons_option, filter_map, list_any, range_with_len}
use Rattle.std.specs.Option.{option_map_or}
use Rattle.std.proofs.lemmas.Bool.{and_from, eq-eqb, eqb-true, false≢true, ne_eqb, cases_lt, le-leb, lt-ltb, or_cases}
use Rattle.std.proofs.lemmas.List.FromFn.{get_or-map-range_with_len, take-map-range_with_len}
use Rattle.std.proofs.lemmas.Option.{get_or_from_slice_get, slice_get_within}
use Rattle.std.proofs.Math.Nat.{mul-div-le}
use Rattle.gcd_plan.specs.PlanView.{PlanView, IntakeView}
use Rattle.gcd_plan.specs.Made.{blocks_in, intake_blocks, intake_span, is_of_intake, is_within}
use Rattle.gcd_plan.specs.declared.numbers.Blk.{Blk}
use Rattle.gcd_event.specs.declared.event.Event.{Event}
use Rattle.gcd_event.specs.declared.event.Event.TheVariants.{Accept}
use Rattle.gcd_history.specs.History.{IsLawful}
use Rattle.gcd_history.specs.Intake.{accepted, accepts, blocks_of_sender}
use Rattle.gcd_history.proofs.Public.BlockLaws.{accepts_in_order}

-- ## Numbers, one for each sender

-- the numbers of the first n in one
abbrev total : ℕ → (ℕ → ℕ) → ℕ
total zero f = 0
total (suc n) f = total n f + f n

total_few : (n : ℕ) (f : ℕ → ℕ) (share : ℕ) → ((s : ℕ) → f s ≤ share) → total n f ≤ n * share
total_few zero f share few = omega arith
total_few (suc n) f share few =
    let before = total_few n f share few in
    let one = few n in
    let more : suc n * share ≡ n * share + share = grind arith in
    omega (arith, before, one, more)

-- where each is at most this share, and all in one are as many as they can be, each is the share
total_tight : (n : ℕ) (f : ℕ → ℕ) (share : ℕ) → ((s : ℕ) → f s ≤ share) → n * share ≤ total n f → (s : ℕ) → s < n → f s ≡ share
total_tight zero f share few many s below = absurd (omega (arith, below))
total_tight (suc n) f share few many s below =
    let before = total_few n f share few in
    let one = few n in
    let more : suc n * share ≡ n * share + share = grind arith in
    ⊎_elim
    (λ earlier. total_tight n f share few (omega (arith, many, more, one)) s earlier)
    (λ last. let is : s ≡ n = omega (arith, last, below) in subst (λ k. f k ≡ share) (sym is) (omega (arith, many, more, before, one)))
    (cases_lt s n)

total_same : (n : ℕ) (f g : ℕ → ℕ) → ((s : ℕ) → s < n → f s ≡ g s) → total n f ≡ total n g
total_same zero f g same = refl
total_same (suc n) f g same =
    let before = total_same n f g (λ s low. same s (omega (arith, low))) in
    let one = same n (omega arith) in
    omega (arith, before, one)

-- the number of sender t is one more
abbrev bump : (t s k : ℕ) → ℕ
bump t s k = if t == s then suc k else k

bump_other : (t s k : ℕ) → (t ≡ s → ⊥) → bump t s k ≡ k
bump_other t s k other = ap (λ c. if c then suc k else k) (ne_eqb t s other)

bump_same : (t s k : ℕ) → t ≡ s → bump t s k ≡ suc k
bump_same t s k same = ap (λ c. if c then suc k else k) (eq-eqb t s same)

total_none : (n : ℕ) → total n (λ s. 0) ≡ 0
total_none zero = refl
total_none (suc n) = let before = total_none n in omega (arith, before)

total_bump : (n t : ℕ) (f : ℕ → ℕ) → t < n → total n (λ s. bump t s (f s)) ≡ suc (total n f)
total_bump zero t f low = absurd (omega (arith, low))
total_bump (suc n) t f low =
    ⊎_elim
    (λ early.
    let before = total_bump n t f early in
    let other = bump_other t n (f n) (λ is. omega (arith, is, early)) in
    omega (arith, before, other))
    (λ late.
    let is : t ≡ n = omega (arith, late, low) in
    let before = total_same n (λ s. bump t s (f s)) f (λ s below. bump_other t s (f s) (λ same. omega (arith, same, is, below))) in
    let one = bump_same t n (f n) is in
    omega (arith, before, one))
    (cases_lt t n)

-- ## The blocks of senders

length_cons : (c : Bool) (b : Blk) (l : List Blk) → length (cons_option (if c then Some b else None) l) ≡ (if c then suc (length l) else length l)
length_cons true b l = refl
length_cons false b l = refl

-- an Accept is one block more of its sender
one_more : (b : Blk) (t : ℕ) (h : List Event) (s : ℕ)
    → length (blocks_of_sender (Accept b t ∷ h) s) ≡ bump t s (length (blocks_of_sender h s))
one_more b t h s = length_cons (t == s) b (blocks_of_sender h s)

-- of another sender the blocks are the same
others_same : (b : Blk) (t : ℕ) (h : List Event) (s : ℕ) → (t ≡ s → ⊥) → blocks_of_sender (Accept b t ∷ h) s ≡ blocks_of_sender h s
others_same b t h s other = ap (λ c. cons_option (if c then Some b else None) (blocks_of_sender h s)) (ne_eqb t s other)

-- an accepted block is of a sender below n, where none is of another
sender_below : (n : ℕ) (b : Blk) (t : ℕ) (h : List Event) → ((s : ℕ) → n ≤ s → blocks_of_sender (Accept b t ∷ h) s ≡ []) → t < n
sender_below n b t h none =
    ⊎_elim (λ low. low)
    (λ over.
    let some = one_more b t h t ∙ bump_same t t (length (blocks_of_sender h t)) refl in
    let no : length (blocks_of_sender (Accept b t ∷ h) t) ≡ 0 = ap length (none t over) in
    absurd (omega (arith, some, no)))
    (cases_lt t n)

-- the blocks of all senders in one are those that are accepted
count_all : (n : ℕ) (h : List Event) → ((s : ℕ) → n ≤ s → blocks_of_sender h s ≡ [])
    → total n (λ s. length (blocks_of_sender h s)) ≡ length (filter_map accepted h)
count_all n [] none = total_none n
count_all n (Accept b t ∷ h) none =
    let low = sender_below n b t h none in
    let before = count_all n h (λ s over. sym (others_same b t h s (λ is. omega (arith, is, low, over))) ∙ none s over) in
    let more = total_same n (λ s. length (blocks_of_sender (Accept b t ∷ h) s)) (λ s. bump t s (length (blocks_of_sender h s))) (λ s below. one_more b t h s) in
    more ∙ total_bump n t (λ s. length (blocks_of_sender h s)) low ∙ ap suc before
count_all n (e ∷ h) none = count_all n h none

-- ## All blocks of the intake

-- a block whose Accept stands is among those that are accepted
record IsAmong (b : ℕ) (blocks : List Blk) : Type 0 where
  place : ℕ
  blk : Blk
  at : slice_get blocks place ≡ Some blk
  is : blk.0 ≡ b

among : (b : ℕ) (h : List Event) → list_any (accepts b) h ≡ true → IsAmong b (filter_map accepted h)
among b [] any = absurd (false≢true any)
among b (Accept c s ∷ h) any =
    ⊎_elim
    (λ here. record { place = 0; blk = c; at = refl; is = eqb-true c.0 b here })
    (λ later. let a = among b h later in record { place = suc a.place; blk = a.blk; at = a.at; is = a.is })
    (or_cases (c.0 == b) (list_any (accepts b) h) any)
among b (e ∷ h) any = among b h any

-- the k-th of the first blocks of an intake
numbered : (first n m i : ℕ) (blk : Blk) → m ≤ n → i < m
    → slice_get (take m (map (λ b. record { 0 = b }) (range_with_len first n))) i ≡ Some blk → blk.0 ≡ first + i
numbered first n m i blk few low at =
    let f : ℕ → Blk = λ b. record { 0 = b } in
    let front : slice_get (map f (range_with_len first m)) i ≡ Some blk =
    subst (λ (l : List Blk). slice_get l i ≡ Some blk) (take-map-range_with_len f first n m few) at in
    ap (λ (b : Blk). b.0) (sym (get_or_from_slice_get (map f (range_with_len first m)) i blk blk front) ∙ get_or-map-range_with_len f first m i (first + i) blk low refl)

module _ (plan : PlanView) (intake : IntakeView) (h : List Event) (lawful : IsLawful plan h) (is : plan.intake ≡ Some intake) where
  blocks_are : intake_blocks plan ≡ blocks_in (intake_span intake)
  blocks_are = ap (λ o. option_map_or (λ i. blocks_in (intake_span i)) o []) is

  of_intake : (b : ℕ) → intake.first ≤ b → b < intake.first + intake.count → is_of_intake plan b ≡ true
  of_intake b low high =
      ap (λ o. option_map_or (λ i. is_within b (intake_span i)) o false) is
      ∙ and_from (nat_le intake.first b) (nat_lt b (intake.first + intake.count)) (le-leb intake.first b low) (lt-ltb b (intake.first + intake.count) high)

  -- where each block is accepted, there are as many Accepts as blocks
  all_many : ((b : ℕ) → is_of_intake plan b ≡ true → list_any (accepts b) h ≡ true) → intake.count ≤ length (filter_map accepted h)
  all_many all =
      let m = length (filter_map accepted h) in
      ⊎_elim
      (λ less.
      let b = intake.first + m in
      let a = among b h (all b (of_intake b (omega arith) (omega (arith, less)))) in
      let low : a.place < m = slice_get_within (filter_map accepted h) a.place a.blk a.at in
      let there = subst (λ (l : List Blk). slice_get l a.place ≡ Some a.blk)
      ((accepts_in_order plan h lawful).in_order ∙ ap (take m) blocks_are) a.at in
      let number = numbered intake.first intake.count m a.place a.blk (omega (arith, less)) low there in
      absurd (omega (arith, number, a.is, low)))
      (λ enough. enough)
      (cases_lt m intake.count)

  -- where each block is accepted, and of no sender more than its share, each has its share
  pub all_shares : (senders : ℕ) → ((s : ℕ) → senders ≤ s → blocks_of_sender h s ≡ [])
      → ((b : ℕ) → is_of_intake plan b ≡ true → list_any (accepts b) h ≡ true)
      → ((s : ℕ) → length (blocks_of_sender h s) ≤ intake.count / senders)
      → (s : ℕ) → s < senders → length (blocks_of_sender h s) ≡ intake.count / senders
  all_shares senders none all few =
      let whole = all_many all in
      let count = count_all senders h none in
      let room = mul-div-le intake.count senders in
      total_tight senders (λ s. length (blocks_of_sender h s)) (intake.count / senders) few (omega (arith, whole, count, room))

-- The arrays and the view of them.
use Rattle.std.proofs.Common.{◌≡◌, ◌≢◌, ℕ, ◌+◌, ◌-◌, ◌<◌, ◌≤◌, ◌^◌, min, Bool, true, false, cond, not, List, [], ◌∷◌, ◌++◌, length, map, get_or, set, slice_index, slice_range, nat_lt, nat_le, ◌==◌, refl, ap, sym, ◌∙◌, subst, inl, inr, arith, length-set, get_or-set_same, get_or-set_other}
use Rattle.std.specs.List.{range_with_len}
use Rattle.std.proofs.lemmas.Bool.{cases_eq, cases_lt}
use Rattle.std.proofs.lemmas.List.{ext_get_or, get_or_read}
use Rattle.std.proofs.lemmas.List.FromFn.{get_or-map-range_with_len, length-map-range_with_len}
use Rattle.gcd_sema.specs.SemasView.{SemasView, signals_at, room_at, expiries_at, waits_at, left_at, passes_at, is_expired_at, is_passed_at, has_value_at, with_signals, with_wait, with_expired}
use Rattle.gcd_sema.specs.Cells.{waits_in, room_in, IsNext, IsKept, AreCells}
use Rattle.gcd_sema.proofs.Ranges.{part_length, part_read, part_after, part_before, part_within, part_pushed}
use Rattle.gcd_sema.proofs.Waits.{waited, signalled, expired, some_left, few_left, passed_within, passed_beyond, passed_past, gt-leb, unreached}

-- what the arrays are seen as
abbrev pub seen_as : (firsts signals given bases : List ℕ) (expired : List Bool) → SemasView
seen_as firsts signals given bases expired = record {
  firsts = firsts;
  signals = signals;
  waits = map (waits_in expired bases given) (range_with_len 0 (length firsts));
  rooms = map (room_in bases) (range_with_len 0 (length firsts));
}

-- the same of all waits at once
abbrev with_all : (firsts signals : List ℕ) (waits : List (List Bool)) (bases : List ℕ) → SemasView
with_all firsts signals waits bases = record {
  firsts = firsts;
  signals = signals;
  waits = waits;
  rooms = map (room_in bases) (range_with_len 0 (length firsts));
}

-- arrays that hold the waits of a view
pub record Shows (firsts signals given left reached bases : List ℕ) (expired : List Bool) (v : SemasView) : Type 0 where
  pub cells : AreCells firsts signals given left reached bases expired
  pub seen : seen_as firsts signals given bases expired ≡ v

pub shown : {f sg g l r b : List ℕ} {e : List Bool} {v : SemasView} → AreCells f sg g l r b e → seen_as f sg g b e ≡ v → Shows f sg g l r b e v
shown cells seen = record { cells = cells; seen = seen }

-- one element of a list that is made of the numbers below n
made_changed : {X : Type 0} (d : X) (now before : ℕ → X) (n s : ℕ) (x : X) → s < n → now s ≡ x → ((t : ℕ) → t ≢ s → t < n → now t ≡ before t)
    → map now (range_with_len 0 n) ≡ set (map before (range_with_len 0 n)) s x
made_changed d now before n s x lt here others =
    let long = length-map-range_with_len before 0 n in
    let longer = length-map-range_with_len now 0 n in
    ext_get_or d _ _ (longer ∙ sym (length-set (map before (range_with_len 0 n)) s x ∙ long))
    (λ t within.
    let below : t < n = omega (arith, within, longer) in
    get_or-map-range_with_len now 0 n t t d below (omega arith)
    ∙ elim (cases_eq t s) [
      | inl at ↦
          ap now at ∙ here ∙ sym (get_or-set_same (map before (range_with_len 0 n)) s x d (omega (arith, lt, long)))
          ∙ ap (λ i. get_or (set (map before (range_with_len 0 n)) s x) i d) (sym at)
      | inr apart ↦
          others t apart below
          ∙ sym (get_or-map-range_with_len before 0 n t t d below (omega arith))
          ∙ sym (get_or-set_other (map before (range_with_len 0 n)) s t x d apart)
    ])

-- equal numbers and waits
pub kept_same : {p q g h l m r n : ℕ} {ws vs : List Bool} → p ≡ q → g ≡ h → l ≡ m → r ≡ n → ws ≡ vs → IsKept p g l r ws → IsKept q h m n vs
kept_same {p} {q} {g} {h} {l} {m} {r} {n} {ws} {vs} a b c d e k =
    subst (IsKept q h m n) e
    (subst (λ x. IsKept q h m x ws) d
    (subst (λ x. IsKept q h x r ws) c
    (subst (λ x. IsKept q x l r ws) b (subst (λ x. IsKept x g l r ws) a k))))

-- two lists that agree but at s
pub record Agree (s : ℕ) (before now : List ℕ) : Type 0 where
  pub long : length now ≡ length before
  pub others : (t : ℕ) → t ≢ s → slice_index now t ≡ slice_index before t

agree_same : (s : ℕ) (xs : List ℕ) → Agree s xs xs
agree_same s xs = record { long = refl; others = λ t apart. refl }

agree_set : (s : ℕ) (xs : List ℕ) (x : ℕ) → Agree s xs (set xs s x)
agree_set s xs x = record { long = length-set xs s x; others = λ t apart. get_or-set_other xs s t x 0 apart }

module _ {f sg g l r b : List ℕ} {e : List Bool} {v : SemasView} (sh : Shows f sg g l r b e v) (s : ℕ) (lt : s < length v.waits) where
  pub in_firsts : s < length f
  in_firsts = let long = length-map-range_with_len (waits_in e b g) 0 (length f) in let same = ap (λ w. length w.waits) sh.seen in omega (arith, lt, long, same)

  pub in_signals : s < length sg
  in_signals = omega (arith, in_firsts, sh.cells.signals_long)

  pub in_given : s < length g
  in_given = omega (arith, in_firsts, sh.cells.given_long)

  pub in_left : s < length l
  in_left = omega (arith, in_firsts, sh.cells.left_long)

  pub in_reached : s < length r
  in_reached = omega (arith, in_firsts, sh.cells.reached_long)

  pub in_bases : s < length b
  in_bases = omega (arith, in_firsts, sh.cells.bases_long)

  -- the cells of the semaphore end within the array
  pub cells_end : slice_index b s + slice_index g s ≤ length e
  cells_end =
      let rises = sh.cells.apart (s + 1) (length f) (omega (arith, in_firsts)) (omega arith) in
      let room = sh.cells.room s in_firsts in
      omega (arith, room, rises, sh.cells.whole)

  made_here : get_or (map (waits_in e b g) (range_with_len 0 (length f))) s [] ≡ waits_in e b g s
  made_here = get_or-map-range_with_len (waits_in e b g) 0 (length f) s s [] in_firsts (omega arith)

  pub waits_seen : waits_in e b g s ≡ expiries_at v s
  waits_seen = sym made_here ∙ ap (λ w. expiries_at w s) sh.seen

  pub room_seen : room_in b s ≡ room_at v s
  room_seen =
      sym (get_or-map-range_with_len (room_in b) 0 (length f) s s 0 in_firsts (omega arith))
      ∙ ap (λ w. room_at w s) sh.seen

  pub passes_seen : slice_index f s + slice_index sg s ≡ passes_at v s
  passes_seen = ap (λ w. passes_at w s) sh.seen

  pub signals_seen : slice_index sg s ≡ signals_at v s
  signals_seen = ap (λ w. signals_at w s) sh.seen

  pub kept_seen : IsKept (passes_at v s) (slice_index g s) (slice_index l s) (slice_index r s) (expiries_at v s)
  kept_seen = kept_same passes_seen refl refl refl waits_seen (sh.cells.kept s in_firsts)

  pub given_seen : slice_index g s ≡ waits_at v s
  given_seen = sym kept_seen.long

  pub left_seen : slice_index l s ≡ left_at v s
  left_seen = kept_seen.alive

  pub in_next : s + 1 < length b
  in_next = omega (arith, in_firsts, sh.cells.bases_long)

  module _ (base next : ℕ) (br : base ≡ get_or b s base) (xr : next ≡ get_or b (s + 1) next) where
    pub base_low : base ≤ next
    base_low =
        let rises = sh.cells.apart s (s + 1) (omega arith) (omega (arith, in_firsts)) in
        omega (arith, rises, get_or_read b s base in_bases br 0, get_or_read b (s + 1) next in_next xr 0)

    pub room_read : next - base ≡ room_at v s
    room_read =
        ap (λ n. n - base) (get_or_read b (s + 1) next in_next xr 0) ∙ ap (λ n. slice_index b (s + 1) - n) (get_or_read b s base in_bases br 0) ∙ room_seen

  pub room_left : waits_at v s < room_at v s → slice_index b s + slice_index g s < slice_index b (s + 1)
  room_left some = omega (arith, some, given_seen, room_seen)

  pub end_low : slice_index b (s + 1) ≤ length e
  end_low = let rises = sh.cells.apart (s + 1) (length f) (omega (arith, in_firsts)) (omega arith) in omega (arith, rises, sh.cells.whole)

  -- other arrays that agree but at s
  module _ {sg' g' l' r' : List ℕ} {e' : List Bool} (sga : Agree s sg sg') (ga : Agree s g g') (la : Agree s l l') (ra : Agree s r r')
      (long : length e' ≡ length e) (others : (t : ℕ) → t ≢ s → t < length f → waits_in e' b g' t ≡ waits_in e b g t)
      (room : slice_index b s + slice_index g' s ≤ slice_index b (s + 1))
      (kept : IsKept (slice_index f s + slice_index sg' s) (slice_index g' s) (slice_index l' s) (slice_index r' s) (waits_in e' b g' s)) where
    pub changed_cells : AreCells f sg' g' l' r' b e'
    changed_cells = record {
      signals_long = sga.long ∙ sh.cells.signals_long;
      given_long = ga.long ∙ sh.cells.given_long;
      left_long = la.long ∙ sh.cells.left_long;
      reached_long = ra.long ∙ sh.cells.reached_long;
      bases_long = sh.cells.bases_long;
      apart = sh.cells.apart;
      whole = omega (arith, sh.cells.whole, long);
      few = omega (arith, sh.cells.few, long);
      room = λ t below. elim (cases_eq t s) [
        | inl at ↦ subst (λ x. slice_index b x + slice_index g' x ≤ slice_index b (x + 1)) (sym at) room
        | inr apart ↦ let old = sh.cells.room t below in let same = ga.others t apart in omega (arith, old, same)
      ];
      kept = λ t below. elim (cases_eq t s) [
        | inl at ↦ subst (λ x. IsKept (slice_index f x + slice_index sg' x) (slice_index g' x) (slice_index l' x) (slice_index r' x) (waits_in e' b g' x)) (sym at) kept
        | inr apart ↦
            kept_same (ap (λ x. slice_index f t + x) (sym (sga.others t apart))) (sym (ga.others t apart)) (sym (la.others t apart)) (sym (ra.others t apart)) (sym (others t apart below)) (sh.cells.kept t below)
      ];
    }

  -- what stands in an array at the semaphore
  pub read_at : (xs : List ℕ) (w : ℕ) → s < length xs → w ≡ get_or xs s w → w ≡ slice_index xs s
  read_at xs w lt' read = get_or_read xs s w lt' read 0

  -- a cell of this semaphore is none of another
  apart_from : (place : ℕ) (y : Bool) → slice_index b s ≤ place → place < slice_index b (s + 1) → (t : ℕ) → t ≢ s → t < length f
      → waits_in (set e place y) b g t ≡ waits_in e b g t
  apart_from place y low high t apart below =
      elim (cases_lt t s) [
        | inl before ↦
            let rises = sh.cells.apart (t + 1) s (omega (arith, before)) (omega (arith, in_firsts)) in
            let room = sh.cells.room t below in
            part_before e y (slice_index b t) (slice_index b t + slice_index g t) place (omega arith) (omega (arith, rises, room, low))
        | inr behind ↦
            let rises = sh.cells.apart (s + 1) t (omega (arith, behind, apart)) (omega (arith, below)) in
            part_after e y (slice_index b t) (slice_index b t + slice_index g t) place (omega (arith, rises, high))
      ]

  -- the waits as they are seen, with other waits of this semaphore
  seen_with : (sg' g' : List ℕ) (e' : List Bool) (ws : List Bool) → waits_in e' b g' s ≡ ws
      → ((t : ℕ) → t ≢ s → t < length f → waits_in e' b g' t ≡ waits_in e b g t)
      → seen_as f sg' g' b e' ≡ with_all f sg' (set (map (waits_in e b g) (range_with_len 0 (length f))) s ws) b
  seen_with sg' g' e' ws here others =
      ap (λ all. with_all f sg' all b) (made_changed [] (waits_in e' b g') (waits_in e b g) (length f) s ws in_firsts here others)

  -- ---- a wait by its rank

  pub begun_seen : (rank n : ℕ) → n ≡ get_or g s n → rank ≤ n → rank ≤ waits_at v s
  begun_seen rank n nr le = omega (arith, le, read_at g n in_given nr, given_seen)

  module _ (rank : ℕ) (first : 1 ≤ rank) (begun : rank ≤ waits_at v s) where
    place_here : rank - 1 < slice_index g s
    place_here = omega (arith, first, begun, given_seen)

    module _ (base : ℕ) (br : base ≡ get_or b s base) where
      pub place_within : base + (rank - 1) < length e
      place_within = let base_is = read_at b base in_bases br in omega (arith, base_is, place_here, cells_end)

      pub flag_seen : (flag : Bool) → flag ≡ get_or e (base + (rank - 1)) flag → flag ≡ is_expired_at v s rank
      flag_seen flag read =
          get_or_read e (base + (rank - 1)) flag place_within read false
          ∙ ap (λ x. get_or e (x + (rank - 1)) false) (read_at b base in_bases br)
          ∙ sym (part_read e (slice_index b s) (slice_index g s) (rank - 1) false place_here)
          ∙ ap (λ xs. get_or xs (rank - 1) false) waits_seen

  -- ---- whether a wait passes

  module _ (n was : ℕ) (nr : n ≡ get_or g s n) (rr : was ≡ get_or r s was) where
    pub is_low : was ≤ n
    is_low = let low = kept_seen.low in omega (arith, low, read_at g n in_given nr, read_at r was in_reached rr)

    module _ (rank : ℕ) where
      pub past_seen : n < rank → (n == was) ≡ is_passed_at v s rank
      past_seen past =
          let n_is = read_at g n in_given nr in
          ap (λ x. x == was) n_is ∙ ap (λ x. slice_index g s == x) (read_at r was in_reached rr)
          ∙ passed_past kept_seen rank (omega (arith, past, n_is))

      pub beyond_seen : rank ≤ n → was < rank → nat_le rank was ≡ is_passed_at v s rank
      beyond_seen begun beyond =
          gt-leb rank was beyond
          ∙ passed_beyond kept_seen rank (omega (arith, beyond, read_at r was in_reached rr)) (omega (arith, begun, read_at g n in_given nr))

      pub within_seen : (base : ℕ) → base ≡ get_or b s base → 1 ≤ rank → rank ≤ n → (flag : Bool) → flag ≡ get_or e (base + (rank - 1)) flag → rank ≤ was
          → not flag ≡ is_passed_at v s rank
      within_seen base br first begun flag read low =
          ap not (flag_seen rank first (begun_seen rank n nr begun) base br flag read)
          ∙ passed_within kept_seen rank (omega (arith, low, read_at r was in_reached rr))

  -- the part of the array that the waits are
  module _ (base n : ℕ) (br : base ≡ get_or b s base) (nr : n ≡ get_or g s n) where
    pub part_fits : base + n ≤ length e
    part_fits = omega (arith, cells_end, read_at b base in_bases br, read_at g n in_given nr)

    pub part_long : (xs ys : List Bool) → length ys ≡ length e → xs ≡ slice_range ys base (base + n) → length xs ≡ n
    part_long xs ys same is = ap length is ∙ part_length ys base n (omega (arith, same, part_fits))

  -- ---- a wait more

  -- there is room
  module _ (some : waits_at v s < room_at v s) where
    pub rank_fits : (p : ℕ) → p ≡ get_or g s p → p + 1 < 2 ^ 32
    rank_fits p pr = omega (arith, room_left some, end_low, sh.cells.few, read_at g p in_given pr)

    pub left_fits : (last : ℕ) → last ≡ get_or l s last → last + 1 < 2 ^ 32
    left_fits last lr =
        let low = few_left (sh.cells.kept s in_firsts) in omega (arith, low, room_left some, end_low, sh.cells.few, read_at l last in_left lr)

    pub cell_within : (p base : ℕ) → p ≡ get_or g s p → base ≡ get_or b s base → base + p < length e
    cell_within p base pr br = omega (arith, room_left some, end_low, read_at g p in_given pr, read_at b base in_bases br)

  module _ (p base last was to : ℕ) (pr : p ≡ get_or g s p) (br : base ≡ get_or b s base) (lr : last ≡ get_or l s last) (rr : was ≡ get_or r s was)
      (tr : to ≡ cond (has_value_at v s) (p + 1) was) (some : waits_at v s < room_at v s) where
    p_is : p ≡ slice_index g s
    p_is = read_at g p in_given pr

    base_is : base ≡ slice_index b s
    base_is = read_at b base in_bases br

    waited_here : waits_in (set e (base + p) false) b (set g s (p + 1)) s ≡ waits_in e b g s ++ false ∷ []
    waited_here =
        let room = room_left some in
        ap (λ n. slice_range (set e (base + p) false) (slice_index b s) (slice_index b s + n)) (get_or-set_same g s (p + 1) 0 in_given)
        ∙ ap (λ n. slice_range (set e (n + p) false) (slice_index b s) (slice_index b s + (p + 1))) base_is
        ∙ part_pushed e false (slice_index b s) p (omega (arith, room, p_is, end_low))
        ∙ ap (λ n. slice_range e (slice_index b s) (slice_index b s + n) ++ false ∷ []) p_is

    waited_others : (t : ℕ) → t ≢ s → t < length f → waits_in (set e (base + p) false) b (set g s (p + 1)) t ≡ waits_in e b g t
    waited_others t apart below =
        ap (λ n. slice_range (set e (base + p) false) (slice_index b t) (slice_index b t + n)) (get_or-set_other g s t (p + 1) 0 apart)
        ∙ apart_from (base + p) false (omega (arith, base_is)) (let room = room_left some in omega (arith, room, p_is, base_is)) t apart below

    waited_to : cond (nat_lt (slice_index l s) (slice_index f s + slice_index sg s)) (slice_index g s + 1) (slice_index r s) ≡ to
    waited_to =
        ap (λ x. cond (nat_lt x (slice_index f s + slice_index sg s)) (slice_index g s + 1) (slice_index r s)) left_seen
        ∙ ap (λ x. cond (nat_lt (left_at v s) x) (slice_index g s + 1) (slice_index r s)) passes_seen
        ∙ ap (λ x. cond (has_value_at v s) (x + 1) (slice_index r s)) (sym p_is)
        ∙ ap (λ x. cond (has_value_at v s) (p + 1) x) (sym (read_at r was in_reached rr))
        ∙ sym tr

    pub waited_shows : Shows f sg (set g s (p + 1)) (set l s (last + 1)) (set r s to) b (set e (base + p) false) (with_wait v s)
    waited_shows = record {
      cells = changed_cells (agree_same s sg) (agree_set s g (p + 1)) (agree_set s l (last + 1)) (agree_set s r to)
          (length-set e (base + p) false) waited_others
          (let room = room_left some in let same = get_or-set_same g s (p + 1) 0 in_given in omega (arith, room, same, p_is))
          (kept_same refl
          (ap (λ n. n + 1) (sym p_is) ∙ sym (get_or-set_same g s (p + 1) 0 in_given))
          (ap (λ n. n + 1) (sym (read_at l last in_left lr)) ∙ sym (get_or-set_same l s (last + 1) 0 in_left))
          (waited_to ∙ sym (get_or-set_same r s to 0 in_reached)) (sym waited_here) (waited (sh.cells.kept s in_firsts)));
      seen = subst (λ w. seen_as f sg (set g s (p + 1)) b (set e (base + p) false) ≡ with_wait w s) sh.seen
          (seen_with sg _ _ _ (waited_here ∙ ap (λ ws. ws ++ false ∷ []) (sym made_here)) waited_others);
    }

  -- ---- a signal more

  module _ (x base n was from to : ℕ) (ws : List Bool) (xr : x ≡ get_or sg s x) (br : base ≡ get_or b s base) (nr : n ≡ get_or g s n)
      (rr : was ≡ get_or r s was) (fr : from ≡ min (was + 1) n) (wr : ws ≡ slice_range e base (base + n)) (next : IsNext ws from to) where
    pub signalled_shows : Shows f (set sg s (x + 1)) g l (set r s to) b e (with_signals v s (signals_at v s + 1))
    signalled_shows =
        let base_is = read_at b base in_bases br in
        let n_is = read_at g n in_given nr in
        let x_is = read_at sg x in_signals xr in
        let waits_is : ws ≡ waits_in e b g s =
        wr ∙ ap (λ i. slice_range e i (i + n)) base_is ∙ ap (λ i. slice_range e (slice_index b s) (slice_index b s + i)) n_is in
        let from_is : from ≡ min (slice_index r s + 1) (slice_index g s) =
        fr ∙ ap (λ i. min (i + 1) n) (read_at r was in_reached rr) ∙ ap (λ i. min (slice_index r s + 1) i) n_is in
        let next_is = subst (λ i. IsNext (waits_in e b g s) i to) from_is (subst (λ xs. IsNext xs from to) waits_is next) in
        let set_is = get_or-set_same sg s (x + 1) 0 in_signals in
        record {
          cells = changed_cells (agree_set s sg (x + 1)) (agree_same s g) (agree_same s l) (agree_set s r to) refl (λ t apart below. refl)
              (sh.cells.room s in_firsts)
              (kept_same (omega (arith, set_is, x_is)) refl refl (sym (get_or-set_same r s to 0 in_reached)) refl (signalled (sh.cells.kept s in_firsts) to next_is));
          seen = subst (λ w. seen_as f (set sg s (x + 1)) g b e ≡ with_signals w s (signals_at w s + 1)) sh.seen
              (ap (λ i. seen_as f (set sg s (i + 1)) g b e) x_is);
        }

  -- ---- a wait expires

  module _ (rank : ℕ) (first : 1 ≤ rank) (begun : rank ≤ waits_at v s) (base : ℕ) (br : base ≡ get_or b s base)
      (unexpired : is_expired_at v s rank ≡ false) where
    pub some_left_here : (last : ℕ) → last ≡ get_or l s last → 1 ≤ last
    some_left_here last lr = let some = some_left kept_seen (rank - 1) (place_here rank first begun) unexpired in omega (arith, some, read_at l last in_left lr)

    module _ (waiting : is_passed_at v s rank ≡ false) (last n was to : ℕ) (ws : List Bool) (lr : last ≡ get_or l s last) (nr : n ≡ get_or g s n)
        (rr : was ≡ get_or r s was) (wr : ws ≡ slice_range (set e (base + (rank - 1)) true) base (base + n)) (next : IsNext ws was to) where
      expired_others : (t : ℕ) → t ≢ s → t < length f → waits_in (set e (base + (rank - 1)) true) b g t ≡ waits_in e b g t
      expired_others t apart below =
          let base_is = read_at b base in_bases br in
          let room = sh.cells.room s in_firsts in
          apart_from (base + (rank - 1)) true (omega (arith, base_is)) (omega (arith, base_is, room, (place_here rank first begun))) t apart below

      expired_here : waits_in (set e (base + (rank - 1)) true) b g s ≡ set (waits_in e b g s) (rank - 1) true
      expired_here =
          ap (λ i. slice_range (set e (i + (rank - 1)) true) (slice_index b s) (slice_index b s + slice_index g s)) (read_at b base in_bases br)
          ∙ part_within e true (slice_index b s) (slice_index g s) (rank - 1) (place_here rank first begun)

      expired_next : IsNext (set (waits_in e b g s) (rank - 1) true) (slice_index r s) to
      expired_next =
          let waits_is : ws ≡ set (waits_in e b g s) (rank - 1) true =
          wr ∙ ap (λ i. slice_range (set e (base + (rank - 1)) true) i (i + n)) (read_at b base in_bases br)
          ∙ ap (λ i. slice_range (set e (base + (rank - 1)) true) (slice_index b s) (slice_index b s + i)) (read_at g n in_given nr)
          ∙ expired_here in
          subst (λ i. IsNext (set (waits_in e b g s) (rank - 1) true) i to) (read_at r was in_reached rr) (subst (λ xs. IsNext xs was to) waits_is next)

      expired_far : slice_index r s ≤ rank - 1
      expired_far = let lower = unreached kept_seen rank unexpired waiting in omega (arith, lower)

      pub expired_shows : Shows f sg g (set l s (last - 1)) (set r s to) b (set e (base + (rank - 1)) true) (with_expired v s rank)
      expired_shows = record {
        cells = changed_cells (agree_same s sg) (agree_same s g) (agree_set s l (last - 1)) (agree_set s r to)
            (length-set e (base + (rank - 1)) true) expired_others (sh.cells.room s in_firsts)
            (kept_same refl refl
            (ap (λ i. i - 1) (sym (read_at l last in_left lr)) ∙ sym (get_or-set_same l s (last - 1) 0 in_left))
            (sym (get_or-set_same r s to 0 in_reached)) (sym expired_here)
            (expired (sh.cells.kept s in_firsts) (rank - 1) to expired_far (place_here rank first begun)
            (ap (λ xs. get_or xs (rank - 1) false) waits_seen ∙ unexpired) expired_next));
        seen = subst (λ w. seen_as f sg g b (set e (base + (rank - 1)) true) ≡ with_expired w s rank) sh.seen
            (seen_with sg _ _ _ (expired_here ∙ ap (λ xs. set xs (rank - 1) true) (sym made_here)) expired_others);
      }

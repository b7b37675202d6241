-- How much room the waits have, and that the arrays show a plan's semaphores before the first event.
use Rattle.std.proofs.Common.{◌≡◌, ℕ, zero, suc, ◌+◌, ◌-◌, ◌<◌, ◌≤◌, Bool, false, List, [], ◌∷◌, ◌++◌, length, map, get_or, take, drop, replicate, slice_index, count_by, refl, ap, sym, ◌∙◌, subst, inl, inr, arith, append_assoc, length-append}
use Rattle.std.specs.List.{slice_get, flat_map, range_with_len}
use Rattle.std.specs.Option.{option_map_or}
use Rattle.std.proofs.lemmas.Bool.{cases_lt}
use Rattle.std.proofs.lemmas.List.{ext_get_or, get_or_read, get_or_past, get_or-replicate, length-replicate, length-map, append-nil}
use Rattle.std.proofs.lemmas.List.Concat.{length-flat_map}
use Rattle.std.proofs.lemmas.List.FromFn.{get_or-map-range_with_len, length-map-range_with_len}
use Rattle.std.proofs.lemmas.List.Sums.{count_by-le-length, sum_by-take-le}
use Rattle.gcd_plan.specs.Limits.{max_acts, max_objects}
use Rattle.gcd_plan.specs.KindValues.{first_value_of}
use Rattle.gcd_plan.specs.PlanView.{PlanView, ObjView, BlkView}
use Rattle.gcd_plan.specs.Validity.{IsPlan, waits_on}
use Rattle.gcd_plan.specs.declared.act.Act.{Act}
use Rattle.gcd_plan.proofs.Sums.{count_by-append}
use Rattle.gcd_sema.specs.SemasView.{SemasView, wait_acts, semas_of}
use Rattle.gcd_sema.specs.Rooms.{AreRooms, Rise}
use Rattle.gcd_sema.specs.Cells.{waits_in, room_in, AreCells}
use Rattle.gcd_sema.proofs.Cells.{Shows, kept_same}
use Rattle.gcd_sema.proofs.Waits.{none_kept}

-- ---- the acts of the blocks so far

flat_more : {X Y : Type 0} (f : X → List Y) (xs : List X) (i : ℕ) (ys : List Y) → i < length xs → ys ≡ option_map_or f (slice_get xs i) []
    → flat_map f (take (i + 1) xs) ≡ flat_map f (take i xs) ++ ys
flat_more f [] i ys lt is = absurd (omega (arith, lt))
flat_more f (x ∷ xs) zero ys lt is = append-nil (f x) ∙ sym is
flat_more f (x ∷ xs) (suc i) ys lt is =
    let e : suc i + 1 ≡ suc (i + 1) = omega arith in
    ap (λ n. flat_map f (take n (x ∷ xs))) e ∙ ap (λ zs. f x ++ zs) (flat_more f xs i ys (omega (arith, lt)) is)
    ∙ sym (append_assoc (f x) (flat_map f (take i xs)) ys)

abbrev acts_before : PlanView → ℕ → List Act
acts_before plan n = flat_map (λ (b : BlkView). b.acts) (take n plan.blocks)

module _ (plan : PlanView) (valid : IsPlan plan) where
  few_before : (n : ℕ) → length (acts_before plan n) ≤ max_acts
  few_before n =
      let long = length-flat_map (λ (b : BlkView). b.acts) (take n plan.blocks) in
      let low = sum_by-take-le (λ (b : BlkView). length b.acts) plan.blocks n in
      omega (arith, long, low, valid.few_acts)

  few_acts : (s : ℕ) → wait_acts plan s ≤ max_acts
  few_acts s =
      let long = length-flat_map (λ (b : BlkView). b.acts) plan.blocks in
      let low = count_by-le-length (waits_on s) (flat_map (λ (b : BlkView). b.acts) plan.blocks) in
      omega (arith, long, low, valid.few_acts)

  -- no object has more room than there may be acts
  pub low_rooms : (rooms : List ℕ) → AreRooms plan rooms → (s : ℕ) → slice_index rooms s ≤ max_acts
  low_rooms rooms are s =
      elim (cases_lt s (length rooms)) [
        | inl lt ↦ let low = few_acts s in omega (arith, low, are.counted s lt)
        | inr past ↦ let none = get_or_past rooms s 0 past in omega (arith, none)
      ]

  module _ (counts : List ℕ) (b : ℕ) (acts : List Act) (lt : b < length plan.blocks)
      (is : acts ≡ option_map_or (λ (blk : BlkView). blk.acts) (slice_get plan.blocks b) []) where
    one_more : acts_before plan (b + 1) ≡ acts_before plan b ++ acts
    one_more = flat_more (λ (blk : BlkView). blk.acts) plan.blocks b acts lt is

    pub counted_more : (s : ℕ) → count_by (waits_on s) (acts_before plan (b + 1)) ≡ count_by (waits_on s) (acts_before plan b) + count_by (waits_on s) acts
    counted_more s = ap (count_by (waits_on s)) one_more ∙ count_by-append (waits_on s) (acts_before plan b) acts

    pub room_for : length counts ≡ length plan.objects
        → ((s : ℕ) → s < length plan.objects → slice_index counts s ≡ count_by (waits_on s) (acts_before plan b))
        → (s : ℕ) → slice_index counts s + length acts ≤ max_acts
    room_for long counted s =
        let all = few_before (b + 1) in
        let parts = ap length one_more in
        let joined = length-append (acts_before plan b) acts in
        elim (cases_lt s (length counts)) [
          | inl within ↦
              let low = count_by-le-length (waits_on s) (acts_before plan b) in
              omega (arith, all, parts, joined, low, counted s (omega (arith, within, long)))
          | inr past ↦ let none = get_or_past counts s 0 past in omega (arith, all, parts, joined, none)
        ]

-- ---- before the first event

rising : (rooms bases : List ℕ) (n : ℕ) → Rise rooms bases n → (s d : ℕ) → s + d ≤ n → slice_index bases s ≤ slice_index bases (s + d)
rising rooms bases n r s zero le = let e : s + 0 ≡ s = omega arith in let same = ap (slice_index bases) e in omega (arith, same)
rising rooms bases n r s (suc d) le =
    let e : s + suc d ≡ s + d + 1 = omega arith in
    let before = rising rooms bases n r s d (omega (arith, le)) in
    let step = r.next (s + d) (omega (arith, le)) in
    let same = ap (slice_index bases) e in
    omega (arith, before, step, same)

abbrev lists : (firsts signals : List ℕ) (waits : List (List Bool)) (rooms : List ℕ) → SemasView
lists firsts signals waits rooms = record { firsts = firsts; signals = signals; waits = waits; rooms = rooms }

module _ (plan : PlanView) (rooms bases firsts signals given left reached : List ℕ) (expired : List Bool) (n end : ℕ) (are : AreRooms plan rooms)
    (rise : Rise rooms bases (length rooms)) (objects : n ≡ length plan.objects) (few : n ≤ max_objects) (ends : end ≡ get_or bases n end)
    (firsts_are : firsts ≡ map (λ (o : ObjView). first_value_of o.kind) plan.objects) (signals_are : signals ≡ replicate n 0) (given_are : given ≡ replicate n 0)
    (left_are : left ≡ replicate n 0) (reached_are : reached ≡ replicate n 0) (expired_are : expired ≡ replicate end false) where
  long : length firsts ≡ n
  long = ap length firsts_are ∙ length-map plan.objects (λ (o : ObjView). first_value_of o.kind) ∙ sym objects

  zeros_long : (xs : List ℕ) → xs ≡ replicate n 0 → length xs ≡ length firsts
  zeros_long xs is = ap length is ∙ length-replicate n 0 ∙ sym long

  zero_at : (xs : List ℕ) → xs ≡ replicate n 0 → (s : ℕ) → s < length firsts → slice_index xs s ≡ 0
  zero_at xs is s lt = ap (λ ys. get_or ys s 0) is ∙ get_or-replicate n s 0 0 (omega (arith, lt, long))

  no_waits : (s : ℕ) → s < length firsts → waits_in expired bases given s ≡ []
  no_waits s lt =
      let none : slice_index bases s + slice_index given s - slice_index bases s ≡ 0 = omega (arith, zero_at given given_are s lt) in
      ap (λ m. take m (drop (slice_index bases s) expired)) none

  fresh_cells : AreCells firsts signals given left reached bases expired
  fresh_cells = record {
    signals_long = zeros_long signals signals_are;
    given_long = zeros_long given given_are;
    left_long = zeros_long left left_are;
    reached_long = zeros_long reached reached_are;
    bases_long = omega (arith, rise.long, are.long, objects, long);
    apart = λ s t le within.
        let e : s + (t - s) ≡ t = omega (arith, le) in
        let low : s + (t - s) ≤ length rooms = omega (arith, le, within, are.long, objects, long) in
        subst (λ x. slice_index bases s ≤ slice_index bases x) e (rising rooms bases (length rooms) rise s (t - s) low);
    whole =
        let has = ap length expired_are ∙ length-replicate end false in
        let at = ap (slice_index bases) long in
        let is = get_or_read bases n end (omega (arith, rise.long, are.long, objects)) ends 0 in
        omega (arith, has, at, is);
    few =
        let has = ap length expired_are ∙ length-replicate end false in
        let at = ap (slice_index bases) (are.long ∙ sym objects) in
        let is = get_or_read bases n end (omega (arith, rise.long, are.long, objects)) ends 0 in
        omega (arith, has, at, is, rise.low, few, are.long, objects);
    room = λ s lt. let step = rise.next s (omega (arith, lt, are.long, objects, long)) in omega (arith, step, zero_at given given_are s lt);
    kept = λ s lt.
        kept_same refl (sym (zero_at given given_are s lt)) (sym (zero_at left left_are s lt)) (sym (zero_at reached reached_are s lt))
        (sym (no_waits s lt)) (none_kept (slice_index firsts s + slice_index signals s));
  }

  waits_are : map (waits_in expired bases given) (range_with_len 0 (length firsts)) ≡ replicate (length plan.objects) []
  waits_are =
      let made = length-map-range_with_len (waits_in expired bases given) 0 (length firsts) in
      ext_get_or [] _ _ (made ∙ long ∙ objects ∙ sym (length-replicate (length plan.objects) []))
      (λ s lt.
      get_or-map-range_with_len (waits_in expired bases given) 0 (length firsts) s s [] (omega (arith, lt, made)) (omega arith)
      ∙ no_waits s (omega (arith, lt, made))
      ∙ sym (get_or-replicate (length plan.objects) s [] [] (omega (arith, lt, made, long, objects))))

  rooms_are : map (room_in bases) (range_with_len 0 (length firsts)) ≡ map (wait_acts plan) (range_with_len 0 (length plan.objects))
  rooms_are =
      let made = length-map-range_with_len (room_in bases) 0 (length firsts) in
      let other = length-map-range_with_len (wait_acts plan) 0 (length plan.objects) in
      ext_get_or 0 _ _ (made ∙ long ∙ objects ∙ sym other)
      (λ s lt.
      let within : s < length rooms = omega (arith, lt, made, long, objects, are.long) in
      let room : room_in bases s ≡ wait_acts plan s = omega (arith, rise.next s within, are.counted s within) in
      get_or-map-range_with_len (room_in bases) 0 (length firsts) s s 0 (omega (arith, lt, made)) (omega arith)
      ∙ room
      ∙ sym (get_or-map-range_with_len (wait_acts plan) 0 (length plan.objects) s s 0 (omega (arith, within, are.long)) (omega arith)))

  pub fresh_shows : Shows firsts signals given left reached bases expired (semas_of plan)
  fresh_shows = record {
    cells = fresh_cells;
    seen =
        let zeros : signals ≡ replicate (length plan.objects) 0 = signals_are ∙ ap (λ m. replicate m 0) objects in
        let waits = map (waits_in expired bases given) (range_with_len 0 (length firsts)) in
        let some = map (room_in bases) (range_with_len 0 (length firsts)) in
        let values = map (λ (o : ObjView). first_value_of o.kind) plan.objects in
        let zero = replicate (length plan.objects) 0 in
        ap (λ xs. lists xs signals waits some) firsts_are
        ∙ ap (λ xs. lists values xs waits some) zeros
        ∙ ap (λ xs. lists values zero xs some) waits_are
        ∙ ap (λ xs. lists values zero (replicate (length plan.objects) []) xs) rooms_are;
  }

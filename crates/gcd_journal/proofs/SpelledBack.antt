-- The event that fields spell has a line, and its fields are these.
use Rattle.std.proofs.Common.{◌≡◌, ℕ, ◌-◌, ◌<◌, ◌≤◌, ◌==◌, Bool, true, false, List, [], ◌∷◌, Option, Some, None, option_and_then, refl, ap, sym, ◌∙◌, subst, arith, if◌then◌else◌, inl, inr, ◌⊎◌, codes}
use Rattle.std.specs.Fmt.{decimal}
use Rattle.std.specs.Str.{bytes_eq}
use Rattle.std.proofs.lemmas.Bool.{eqb-true, eqb-false}
use Rattle.std.proofs.lemmas.Slice.Eq.{bytes_eq-Decides}
use Rattle.gcd_plan.specs.Limits.{max_workers, max_senders, max_acts, max_time, max_value}
use Rattle.gcd_plan.specs.PlanView.{PlanView, name_of_blk, name_of_obj}
use Rattle.gcd_plan.specs.Validity.{IsPlan}
use Rattle.gcd_plan.specs.declared.numbers.Blk.{Blk}
use Rattle.gcd_plan.specs.declared.numbers.Obj.{Obj}
use Rattle.gcd_plan.specs.declared.numbers.Run.{Run}
use Rattle.gcd_plan.specs.declared.numbers.Run.TheVariants.{Block, Source}
use Rattle.gcd_event.specs.declared.event.Event.{Event}
use Rattle.gcd_event.specs.declared.event.Event.TheVariants.{Start, Act as Acted, Wake, End, Deliver, DeliverEnd, Tick, Ready, FeedEnd, Misuse, Halt, Expire, Accept, Shut}
use Rattle.gcd_history.specs.Permitted.{is_run_of}
use Rattle.gcd_history.specs.Report.{name_of_run}
use Rattle.gcd_history.proofs.Permitted.Fitting.{run_fits}
use Rattle.gcd_journal.specs.Spoken.{IsSpoken}
use Rattle.gcd_journal.specs.Spelling.{Look, number_in, worker_in, index_in, sender_in, time_in, bytes_in, code_in, block_of_run, block_in, other_block_of_run, other_block_in, source_of_run, source_in, of_both, worker_event, turn_in, by_one, by_two, by_three, by_four, by_five, event_in}
use Rattle.gcd_journal.proofs.Numbers.{read_back}
use Rattle.gcd_journal.proofs.Spelled.{fields_of_event}

both_there : {A B C : Type 0} (f : A → B → C) (a : Option A) (b : Option B) (c : C) → of_both f a b ≡ Some c → (x : A) × (y : B) × (a ≡ Some x) × (b ≡ Some y) × (f x y ≡ c)
both_there f None b c h = cc
both_there f (Some x) None c h = cc
both_there f (Some x) (Some y) c h = (x, y, refl, refl, cc)

then_there : {A C : Type 0} (f : A → Option C) (a : Option A) (c : C) → option_and_then f a ≡ Some c → (x : A) × (a ≡ Some x) × (f x ≡ Some c)
then_there f None c h = cc
then_there f (Some x) c h = (x, refl, h)

guarded : (t : Bool) (x y : Option Event) (e : Event) → (if t then x else y) ≡ Some e → ((t ≡ true) × (x ≡ Some e)) ⊎ ((t ≡ false) × (y ≡ Some e))
guarded true x y e h = inl (refl, h)
guarded false x y e h = inr (refl, h)

is_source_name : (o : Option Run) (s : Obj) → option_and_then source_of_run o ≡ Some s → o ≡ Some (Source s)
is_source_name None s h = cc
is_source_name (Some (Block c)) s h = cc
is_source_name (Some (Source t)) s h = let same : t ≡ s = cc in ap (λ d. Some (Source d)) same

is_block_name : (o : Option Run) (b : Blk) → option_and_then block_of_run o ≡ Some b → o ≡ Some (Block b)
is_block_name None b h = cc
is_block_name (Some (Block c)) b h = let same : c ≡ b = cc in ap (λ d. Some (Block d)) same
is_block_name (Some (Source t)) b h = cc

is_other_name : (o : Option Run) (b : Blk) → option_and_then other_block_of_run o ≡ Some b → (o ≡ Some (Block b)) × (1 ≤ b.0)
is_other_name None b h = cc
is_other_name (Some (Block c)) b h = of_main (c.0 == 0) refl h
  where
    of_main : (t : Bool) → (c.0 == 0) ≡ t → (if t then None else Some c) ≡ Some b → (Some (Block c) ≡ Some (Block b)) × (1 ≤ b.0)
    of_main true is at = cc
    of_main false is at =
        let same : c ≡ b = cc in
        let other = eqb-false c.0 0 is in
        (ap (λ d. Some (Block d)) same, subst (λ (d : Blk). 1 ≤ d.0) same (omega (arith, other)))
is_other_name (Some (Source t)) b h = cc

is_code : (field : List ℕ) (k : ℕ) → code_in field ≡ Some k → (field ≡ 77 ∷ decimal k) × (1 ≤ k) × (k ≤ 8)
is_code [] k h = cc
is_code (c ∷ digits) k h = of_first (c == 77) refl h
  where
    of_first : (t : Bool) → (c == 77) ≡ t → (if t then number_in 1 8 digits else None) ≡ Some k → (c ∷ digits ≡ 77 ∷ decimal k) × (1 ≤ k) × (k ≤ 8)
    of_first true is at =
        let back = read_back 1 8 digits k at in
        (ap (λ d. d ∷ digits) (eqb-true c 77 is) ∙ ap (λ ds. 77 ∷ ds) back.0, back.1, back.2)
    of_first false is at = cc

-- the fields spell the event
abbrev pub Spells : PlanView → Event → List (List ℕ) → Type 0
Spells plan e fields = IsSpoken plan e × (fields_of_event plan e ≡ fields)

same_text : (kind word : List ℕ) → bytes_eq kind word ≡ true → word ≡ kind
same_text kind word h = sym ((bytes_eq-Decides kind word).0 h)

module _ (plan : PlanView) (look : Look) (valid : IsPlan plan) (sound : (name : List ℕ) (run : Run) → look name ≡ Some run → (is_run_of plan run ≡ true) × (name_of_run plan run ≡ name)) where
  is_worker : (field : List ℕ) (w : ℕ) → worker_in field ≡ Some w → (field ≡ decimal w) × (w < max_workers)
  is_worker field w h = let back = read_back 0 (max_workers - 1) field w h in (back.0, omega (arith, back.2))

  is_index : (field : List ℕ) (i : ℕ) → index_in field ≡ Some i → (field ≡ decimal i) × (i < max_acts)
  is_index field i h = let back = read_back 0 (max_acts - 1) field i h in (back.0, omega (arith, back.2))

  is_sender : (field : List ℕ) (s : ℕ) → sender_in field ≡ Some s → (field ≡ decimal s) × (s < max_senders)
  is_sender field s h = let back = read_back 0 (max_senders - 1) field s h in (back.0, omega (arith, back.2))

  -- a worker and a run
  run_turn : (a b : List ℕ) (turn : ℕ × Run) → turn_in look a b ≡ Some turn → (a ≡ decimal turn.0) × (turn.0 < max_workers) × (is_run_of plan turn.1 ≡ true) × (name_of_run plan turn.1 ≡ b)
  run_turn a b turn h =
      let parts = both_there (λ (w : ℕ) (r : Run). (w, r)) (worker_in a) (look b) turn h in
      let worker = is_worker a parts.0 parts.2 in
      let named = sound b parts.1 parts.3 in
      let w : parts.0 ≡ turn.0 = ap (λ (t : ℕ × Run). t.0) parts.4 in
      let r : parts.1 ≡ turn.1 = ap (λ (t : ℕ × Run). t.1) parts.4 in
      (worker.0 ∙ ap decimal w, subst (λ n. n < max_workers) w worker.1, ap (is_run_of plan) (sym r) ∙ named.0, ap (name_of_run plan) (sym r) ∙ named.1)

  one_back : (kind : List ℕ) (e : Event) → by_one kind ≡ Some e → Spells plan e (kind ∷ [])
  one_back kind e h = elim (guarded (bytes_eq kind (codes "halt")) (Some Halt) _ e h) [
    | inl is ↦
        let same : Halt ≡ e = cc in
        subst (λ f. Spells plan f (kind ∷ [])) same (record { fits = tt; named = tt }, ap (λ k. k ∷ []) (same_text kind (codes "halt") is.0))
    | inr other ↦ elim (guarded (bytes_eq kind (codes "shut")) (Some Shut) None e other.1) [
      | inl is ↦
          let same : Shut ≡ e = let made = is.1 in cc in
          subst (λ f. Spells plan f (kind ∷ [])) same (record { fits = tt; named = tt }, ap (λ k. k ∷ []) (same_text kind (codes "shut") is.0))
      | inr none ↦ let never = none.1 in cc
    ]
  ]

  two_back : (kind a : List ℕ) (e : Event) → by_two look kind a ≡ Some e → Spells plan e (kind ∷ a ∷ [])
  two_back kind a e h = elim (guarded (bytes_eq kind (codes "tick")) _ _ e h) [
    | inl is ↦
        let parts = then_there (λ t. Some (Tick t)) (time_in a) e is.1 in
        let back = read_back 1 max_time a parts.0 parts.1 in
        let same : Tick parts.0 ≡ e = cc in
        let word = same_text kind (codes "tick") is.0 in
        subst (λ f. Spells plan f (kind ∷ a ∷ [])) same (record { fits = (back.1, back.2); named = tt }, ap (λ k. k ∷ decimal parts.0 ∷ []) word ∙ ap (λ f. kind ∷ f ∷ []) (sym back.0))
    | inr other ↦ elim (guarded (bytes_eq kind (codes "feed_end")) _ _ e other.1) [
      | inl is ↦
          let parts = then_there (λ s. Some (FeedEnd s)) (source_in look a) e is.1 in
          let named = sound a (Source parts.0) (is_source_name (look a) parts.0 parts.1) in
          let same : FeedEnd parts.0 ≡ e = cc in
          let word = same_text kind (codes "feed_end") is.0 in
          subst (λ f. Spells plan f (kind ∷ a ∷ [])) same
          (record { fits = run_fits plan (Source parts.0) valid named.0; named = named.0 }, ap (λ k. k ∷ name_of_obj plan parts.0.0 ∷ []) word ∙ ap (λ f. kind ∷ f ∷ []) named.1)
      | inr more ↦ elim (guarded (bytes_eq kind (codes "expire")) _ None e more.1) [
        | inl is ↦
            let parts = then_there (λ b. Some (Expire b)) (block_in look a) e is.1 in
            let named = sound a (Block parts.0) (is_block_name (look a) parts.0 parts.1) in
            let same : Expire parts.0 ≡ e = cc in
            let word = same_text kind (codes "expire") is.0 in
            subst (λ f. Spells plan f (kind ∷ a ∷ [])) same
            (record { fits = run_fits plan (Block parts.0) valid named.0; named = named.0 }, ap (λ k. k ∷ name_of_blk plan parts.0.0 ∷ []) word ∙ ap (λ f. kind ∷ f ∷ []) named.1)
        | inr none ↦ cc
      ]
    ]
  ]

  three_fields : (k1 k2 a1 a2 b1 b2 : List ℕ) → k1 ≡ k2 → a1 ≡ a2 → b1 ≡ b2 → (k1 ∷ a1 ∷ b1 ∷ []) ≡ (k2 ∷ a2 ∷ b2 ∷ [])
  three_fields k1 k2 a1 a2 b1 b2 k a b = cc

  -- what a worker's line of a block spells, and of a source
  block_back : (make : ℕ → Blk → Event) (word kind a b : List ℕ) (e : Event) → ((w : ℕ) (c : Blk) → w < max_workers → is_run_of plan (Block c) ≡ true → IsSpoken plan (make w c))
      → ((w : ℕ) (c : Blk) → fields_of_event plan (make w c) ≡ word ∷ decimal w ∷ name_of_blk plan c.0 ∷ [])
      → bytes_eq kind word ≡ true → of_both make (worker_in a) (block_in look b) ≡ Some e → Spells plan e (kind ∷ a ∷ b ∷ [])
  block_back make word kind a b e spoken fields is h =
      let parts = both_there make (worker_in a) (block_in look b) e h in
      let worker = is_worker a parts.0 parts.2 in
      let named = sound b (Block parts.1) (is_block_name (look b) parts.1 parts.3) in
      subst (λ f. Spells plan f (kind ∷ a ∷ b ∷ [])) parts.4
      (spoken parts.0 parts.1 worker.1 named.0, fields parts.0 parts.1 ∙ three_fields _ _ _ _ _ _ (same_text kind word is) (sym worker.0) named.1)

  source_back : (make : ℕ → Obj → Event) (word kind a b : List ℕ) (e : Event) → ((w : ℕ) (s : Obj) → w < max_workers → is_run_of plan (Source s) ≡ true → IsSpoken plan (make w s))
      → ((w : ℕ) (s : Obj) → fields_of_event plan (make w s) ≡ word ∷ decimal w ∷ name_of_obj plan s.0 ∷ [])
      → bytes_eq kind word ≡ true → of_both make (worker_in a) (source_in look b) ≡ Some e → Spells plan e (kind ∷ a ∷ b ∷ [])
  source_back make word kind a b e spoken fields is h =
      let parts = both_there make (worker_in a) (source_in look b) e h in
      let worker = is_worker a parts.0 parts.2 in
      let named = sound b (Source parts.1) (is_source_name (look b) parts.1 parts.3) in
      subst (λ f. Spells plan f (kind ∷ a ∷ b ∷ [])) parts.4
      (spoken parts.0 parts.1 worker.1 named.0, fields parts.0 parts.1 ∙ three_fields _ _ _ _ _ _ (same_text kind word is) (sym worker.0) named.1)

  worker_back : (kind a b : List ℕ) (e : Event) → worker_event look kind a b ≡ Some e → Spells plan e (kind ∷ a ∷ b ∷ [])
  worker_back kind a b e h = elim (guarded (bytes_eq kind (codes "start")) _ _ e h) [
    | inl is ↦ block_back (λ w x. Start w x) (codes "start") kind a b e (λ w x few has. record { fits = (few, run_fits plan (Block x) valid has); named = has }) (λ w x. refl) is.0 is.1
    | inr n0 ↦ elim (guarded (bytes_eq kind (codes "end")) _ _ e n0.1) [
      | inl is ↦ block_back (λ w x. End w x) (codes "end") kind a b e (λ w x few has. record { fits = (few, run_fits plan (Block x) valid has); named = has }) (λ w x. refl) is.0 is.1
      | inr n1 ↦ elim (guarded (bytes_eq kind (codes "wake")) _ _ e n1.1) [
        | inl is ↦ block_back (λ w x. Wake w x) (codes "wake") kind a b e (λ w x few has. record { fits = (few, run_fits plan (Block x) valid has); named = has }) (λ w x. refl) is.0 is.1
        | inr n2 ↦ elim (guarded (bytes_eq kind (codes "deliver")) _ _ e n2.1) [
          | inl is ↦ source_back (λ w x. Deliver w x) (codes "deliver") kind a b e (λ w x few has. record { fits = (few, run_fits plan (Source x) valid has); named = has }) (λ w x. refl) is.0 is.1
          | inr n3 ↦ elim (guarded (bytes_eq kind (codes "deliver_end")) _ None e n3.1) [
            | inl is ↦ source_back (λ w x. DeliverEnd w x) (codes "deliver_end") kind a b e (λ w x few has. record { fits = (few, run_fits plan (Source x) valid has); named = has }) (λ w x. refl) is.0 is.1
            | inr none ↦ let never = none.1 in cc
          ]
        ]
      ]
    ]
  ]

  three_back : (kind a b : List ℕ) (e : Event) → by_three look kind a b ≡ Some e → Spells plan e (kind ∷ a ∷ b ∷ [])
  three_back kind a b e h = elim (guarded (bytes_eq kind (codes "ready")) _ _ e h) [
    | inl is ↦
        let parts = both_there (λ s n. Ready s n) (source_in look a) (bytes_in b) e is.1 in
        let named = sound a (Source parts.0) (is_source_name (look a) parts.0 parts.2) in
        let back = read_back 1 max_value b parts.1 parts.3 in
        subst (λ f. Spells plan f (kind ∷ a ∷ b ∷ [])) parts.4
        (record { fits = (run_fits plan (Source parts.0) valid named.0, back.1, back.2); named = named.0 }, three_fields _ _ _ _ _ _ (same_text kind (codes "ready") is.0) named.1 (sym back.0))
    | inr other ↦ elim (guarded (bytes_eq kind (codes "accept")) _ _ e other.1) [
      | inl is ↦
          let parts = both_there (λ c s. Accept c s) (other_block_in look a) (sender_in b) e is.1 in
          let block = is_other_name (look a) parts.0 parts.2 in
          let named = sound a (Block parts.0) block.0 in
          let sender = is_sender b parts.1 parts.3 in
          subst (λ f. Spells plan f (kind ∷ a ∷ b ∷ [])) parts.4
          (record { fits = (block.1, run_fits plan (Block parts.0) valid named.0, sender.1); named = named.0 }, three_fields _ _ _ _ _ _ (same_text kind (codes "accept") is.0) named.1 (sym sender.0))
      | inr more ↦ worker_back kind a b e more.1
    ]
  ]

  four_back : (kind a b c : List ℕ) (e : Event) → by_four look kind a b c ≡ Some e → Spells plan e (kind ∷ a ∷ b ∷ c ∷ [])
  four_back kind a b c e h = elim (guarded (bytes_eq kind (codes "act")) _ None e h) [
    | inl is ↦
        let parts = both_there (λ (turn : ℕ × Run) (i : ℕ). Acted turn.0 turn.1 i) (turn_in look a b) (index_in c) e is.1 in
        let turn = run_turn a b parts.0 parts.2 in
        let index = is_index c parts.1 parts.3 in
        let word = same_text kind (codes "act") is.0 in
        subst (λ f. Spells plan f (kind ∷ a ∷ b ∷ c ∷ [])) parts.4
        (record { fits = (turn.1, run_fits plan parts.0.1 valid turn.2, index.1); named = turn.2 }, cc (word, turn.0, turn.3, index.0))
    | inr none ↦ cc
  ]

  five_back : (kind a b c d : List ℕ) (e : Event) → by_five look kind a b c d ≡ Some e → Spells plan e (kind ∷ a ∷ b ∷ c ∷ d ∷ [])
  five_back kind a b c d e h = elim (guarded (bytes_eq kind (codes "misuse")) _ None e h) [
    | inl is ↦
        let parts = both_there (λ (turn : ℕ × Run) (what : ℕ × ℕ). Misuse turn.0 what.1 turn.1 what.0) (turn_in look a b) (of_both (λ (i : ℕ) (k : ℕ). (i, k)) (index_in c) (code_in d)) e is.1 in
        let turn = run_turn a b parts.0 parts.2 in
        let what = both_there (λ (i : ℕ) (k : ℕ). (i, k)) (index_in c) (code_in d) parts.1 parts.3 in
        let index = is_index c what.0 what.2 in
        let code = is_code d what.1 what.3 in
        let i : what.0 ≡ parts.1.0 = ap (λ (t : ℕ × ℕ). t.0) what.4 in
        let k : what.1 ≡ parts.1.1 = ap (λ (t : ℕ × ℕ). t.1) what.4 in
        let word = same_text kind (codes "misuse") is.0 in
        subst (λ f. Spells plan f (kind ∷ a ∷ b ∷ c ∷ d ∷ [])) parts.4 (
          record { fits = (turn.1, run_fits plan parts.0.1 valid turn.2, subst (λ n. n < max_acts) i index.1, subst (λ n. 1 ≤ n) k code.1, subst (λ n. n ≤ 8) k code.2); named = turn.2 },
          cc (word, turn.0, turn.3, index.0, code.0, i, k),
        )
    | inr none ↦ cc
  ]

  pub spelled_back : (fields : List (List ℕ)) (e : Event) → event_in look fields ≡ Some e → Spells plan e fields
  spelled_back [] e h = cc
  spelled_back (kind ∷ []) e h = one_back kind e h
  spelled_back (kind ∷ a ∷ []) e h = two_back kind a e h
  spelled_back (kind ∷ a ∷ b ∷ []) e h = three_back kind a b e h
  spelled_back (kind ∷ a ∷ b ∷ c ∷ []) e h = four_back kind a b c e h
  spelled_back (kind ∷ a ∷ b ∷ c ∷ d ∷ []) e h = five_back kind a b c d e h
  spelled_back (kind ∷ a ∷ b ∷ c ∷ d ∷ f ∷ more) e h = cc

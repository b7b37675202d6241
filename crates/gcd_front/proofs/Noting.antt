-- Each step on the notes stays their rule.
use Rattle.std.proofs.Common.{◌≡◌, ◌≢◌, ℕ, zero, suc, ◌+◌, ◌<◌, ◌≤◌, ◌⊎◌, inl, inr, ⊎_elim, true, eqb, List, [], ◌∷◌, length, map, get_or, set, replicate, sym, refl, ap, ◌∙◌, subst, arith, length-set, get_or-set_same, get_or-set_other}
use Rattle.std.specs.Prelude.{Option, Some, None, IfSome}
use Rattle.std.proofs.lemmas.Option.{none-some, same_Some}
use Rattle.std.proofs.lemmas.List.{set-get_or, length-replicate}
use mathlib.Core.Logic.{dite}
use mathlib.Core.Option.{some, none, some-injective}
use mathlib.Core.Option as maybe
use native.Mathlib.Decide.{ℕ_discrete}
use prog.Atomic.{either}
use lib.ListN.{get_elem?}
use Rattle.atomic_table.specs.Table.{State, opening, Act, Valid, carried_after, rest, takes, gives, keeps, Allows, Splits, stepped, step}
use Rattle.atomic_table.specs.Seated.{TableId}
use Rattle.atomic_table.proofs.Lists.{at_set, set_here, set_else, at_longer, exchanged}
use Rattle.gcd_facts.proofs.Elements.{at_end, only_at, in_range}
use Rattle.gcd_facts.proofs.Truth.{not_both}
use Rattle.gcd_front.specs.declared.notes.Sight.{Sight}
use Rattle.gcd_front.specs.Notes.{Note, Mine, sight, listening, handed_over, relieved, hearing_next, finding_open, IsNote, HasNote, HasMouth, KnowsNotes, AtNotes, MakingTells, LayingTells, LookingTells}

-- what is told of a sender is told of each that has the word
told_at : (P : ℕ → Type 0) (s : ℕ) → P s → (t : ℕ) → s + 1 ≡ t + 1 → P t
told_at P s p t e = subst P (omega arith) p

zeros : (n i : ℕ) → get_or {A = ℕ} (replicate n 0) i 0 ≡ 0
zeros zero i = refl
zeros (suc n) zero = refl
zeros (suc n) (suc i) = zeros n i

length_of : {A : Type 0} (n : ℕ) (x : A) → length (map some (replicate n x)) ≡ n
length_of zero x = refl
length_of (suc n) x = ap suc (length_of n x)

-- what holds anyway holds where there is something
pub in_any : {A P : Type 0} (o : Option A) → P → IfSome o (λ _. P)
in_any None p = tt
in_any (Some a) p = p

-- the first of a list is one thing
pub same_first : {A : Type 0} (s : ℕ) (x y : A) (l m : List (ℕ × A)) → (s, x) ∷ l ≡ (s, y) ∷ m → x ≡ y
same_first {A} s x y l m e = ap (λ (k : List (ℕ × A)). (get_or k 0 (s, x)).1) e

module _ {S : Type 0} where
  knows_as : {queue : TableId} {listener next heard i j : ℕ} {v w : Sight S} → i ≡ j → v ≡ w → KnowsNotes queue listener next heard i v → KnowsNotes queue listener next heard j w
  knows_as {queue} {listener} {next} {heard} a b k = subst (λ (y : ℕ × Sight S). KnowsNotes queue listener next heard y.0 y.1) (λ i. (a i, b i)) k

  -- a mouth stays open where the one seat that changes stays that of its sender
  mouth_kept : (views : List (Sight S)) (id t : ℕ) (v w : Sight S) → get_elem? views id ≡ some v → (v.sender ≡ Some t → w.sender ≡ Some t) → HasMouth views t → HasMouth (set views id w) t
  mouth_kept views id t v w at stays m = dite (ℕ_discrete m.0 id)
      (λ same. (id, w, set_here views id w (in_range views id v at), stays (ap (λ (x : Sight S). x.sender) (some-injective v m.1 (sym at ∙ ap (get_elem? views) (sym same) ∙ m.2)) ∙ m.3)))
      (λ ne. (m.0, m.1, set_else views id m.0 w ne ∙ m.2, m.3))

  module _ (queue : TableId) (slots id s : ℕ) (v : Sight S) (near : s < slots) (st : State (Option (Note S)) (Sight S)) (r : AtNotes queue st) (wide : length st.homes ≡ slots) (at : get_elem? st.views id ≡ some v) where
    in_homes : s < length st.homes
    in_homes = omega (arith, wide)

    in_words : s + 1 < length st.words
    in_words = omega (arith, wide, r.size)

    -- the word and the slot of sender s change, and what the seat knows
    changed : (n next heard : ℕ) (h : maybe.Option (Option (Note S))) (w : Sight S) → r.next ≤ next → s < next → r.heard ≤ heard
        → ((t : ℕ) → t ≢ s → t < next → t < r.next)
        → (heard ≤ s → (n ≡ 1) ⊎ (n ≡ 2))
        → KnowsNotes queue r.listener next heard id w
        → (n ≡ 2 → (note : Note S) × (h ≡ some (Some note)) × IsNote queue s note)
        → (n ≡ 1 → w.sender ≡ Some s)
        → ((t : ℕ) → t ≢ s → v.sender ≡ Some t → w.sender ≡ Some t)
        → ((j : ℕ) (u : Sight S) → j ≢ id → get_elem? st.views j ≡ some u → KnowsNotes queue r.listener next heard j u)
        → AtNotes queue (record { words = set st.words (s + 1) n; homes = set st.homes s h; views = set st.views id w })
    changed n next heard h w grows below later made waits mine note mouth stays others = record {
      listener = r.listener;
      next = next;
      heard = heard;
      size = length-set st.words (s + 1) n ∙ r.size ∙ ap (λ (k : ℕ). k + 1) (sym (length-set st.homes s h));
      unmade = λ t above inside. let ne : t ≢ s = λ e. absurd (omega (arith, above, below)) in let old = r.unmade t (omega (arith, above, grows)) (omega (arith, inside, length-set st.homes s h)) in
          (other t ne ∙ old.0, set_else st.homes s t h ne ∙ old.1);
      unheard = λ t from to. dite (ℕ_discrete t s)
          (λ same. subst (λ (k : ℕ). (get_or (set st.words (s + 1) n) (k + 1) 0 ≡ 1) ⊎ (get_or (set st.words (s + 1) n) (k + 1) 0 ≡ 2)) (sym same)
          (subst (λ (k : ℕ). (k ≡ 1) ⊎ (k ≡ 2)) (sym here) (waits (omega (arith, from, same)))))
          (λ ne. subst (λ (k : ℕ). (k ≡ 1) ⊎ (k ≡ 2)) (sym (other t ne)) (r.unheard t (omega (arith, from, later)) (made t ne to)));
      notes = λ t is. dite (ℕ_discrete t s)
          (λ same. let two : n ≡ 2 = sym here ∙ subst (λ (k : ℕ). get_or (set st.words (s + 1) n) (k + 1) 0 ≡ 2) same is in let x = note two in
          subst (λ (k : ℕ). HasNote queue (set st.homes s h) k) (sym same) (x.0, set_here st.homes s h in_homes ∙ ap some x.1, x.2))
          (λ ne. let x = r.notes t (sym (other t ne) ∙ is) in (x.0, set_else st.homes s t h ne ∙ x.1, x.2));
      mouths = λ t is. dite (ℕ_discrete t s)
          (λ same. let one : n ≡ 1 = sym here ∙ subst (λ (k : ℕ). get_or (set st.words (s + 1) n) (k + 1) 0 ≡ 1) same is in
          subst (λ (k : ℕ). HasMouth (set st.views id w) k) (sym same) (id, w, set_here st.views id w (in_range st.views id v at), mouth one))
          (λ ne. mouth_kept st.views id t v w at (stays t ne) (r.mouths t (sym (other t ne) ∙ is)));
      knows = λ j u e. ⊎_elim
          (λ (t : (j ≡ id) × (w ≡ u)). knows_as (sym t.0) t.1 mine)
          (λ (t : (j ≢ id) × (get_elem? st.views j ≡ some u)). others j u t.0 t.1)
          (at_set st.views id j w u e);
    } where
      here : get_or (set st.words (s + 1) n) (s + 1) 0 ≡ n
      here = get_or-set_same st.words (s + 1) n 0 in_words

      other : (t : ℕ) → t ≢ s → get_or (set st.words (s + 1) n) (t + 1) 0 ≡ get_or st.words (t + 1) 0
      other t ne = get_or-set_other st.words (s + 1) (t + 1) n 0 (λ e. ne (omega arith))

    -- only what the seat knows changes
    viewed : (w : Sight S) → KnowsNotes queue r.listener r.next r.heard id w → ((t : ℕ) → v.sender ≡ Some t → w.sender ≡ Some t) → AtNotes queue (record { words = st.words; homes = st.homes; views = set st.views id w })
    viewed w mine stays = record {
      listener = r.listener;
      next = r.next;
      heard = r.heard;
      size = r.size;
      unmade = r.unmade;
      unheard = r.unheard;
      notes = r.notes;
      mouths = λ t is. mouth_kept st.views id t v w at (stays t) (r.mouths t is);
      knows = λ j u e. ⊎_elim
          (λ (t : (j ≡ id) × (w ≡ u)). knows_as (sym t.0) t.1 mine)
          (λ (t : (j ≢ id) × (get_elem? st.views j ≡ some u)). r.knows j u t.1)
          (at_set st.views id j w u e);
    }

  makes_at : (queue : TableId) (slots id s : ℕ) (me : Mine S) → s < slots → me.0.listens ≡ true → me.0.next ≡ s → me.0.sender ≡ None → Allows (AtNotes queue) slots id me (s + 1) (λ _. 1) (λ _. MakingTells (step slots (s + 1) 1 0 none) me 1)
  makes_at queue slots id s me near may next nobody st r wide at _ = let v = me.0 in let k = r.knows id v at in let m = k.listens may in let is : r.next ≡ s = sym m.1 ∙ next in
      let empty = r.unmade s (omega (arith, is)) (omega (arith, wide)) in let w = sight v.queue v.listens (s + 1) v.heard v.opens (Some s) in (
        w,
        takes s None,
        empty.1,
        changed queue slots id s v near st r wide at 1 (s + 1) r.heard none w (omega (arith, is)) (omega arith) (omega arith) (λ t ne below. omega (arith, is, ne, below)) (λ _. inl refl)
            (record { queue_is = k.queue_is; listens = λ _. (m.0, refl, m.2); sender = λ t h. let e : s ≡ t = same_Some s t h in omega (arith, e) })
            (λ two. absurd (omega arith))
            (λ _. refl)
            (λ t ne h. absurd (none-some t (sym nobody ∙ h)))
            (λ j u ne e. let f = r.knows j u e in record { queue_is = f.queue_is; listens = λ h. absurd (ne ((f.listens h).0 ∙ sym m.0)); sender = λ t h. let l = f.sender t h in omega (arith, is, l) }),
        told_at (λ (t : ℕ). (w ≡ sight me.0.queue me.0.listens (t + 1) me.0.heard me.0.opens (Some t)) × ((s, None) ∷ me.1 ≡ (t, None) ∷ me.1)) s (refl, refl),
      )

  pub makes : (queue : TableId) (slots id s i : ℕ) (me : Mine S) → i ≡ s + 1 → s < slots → me.0.listens ≡ true → me.0.next ≡ s → me.0.sender ≡ None → Allows (AtNotes queue) slots id me i (λ _. 1) (λ _. MakingTells (step slots i 1 0 none) me 1)
  makes queue slots id s i me e near may next nobody = subst (λ (j : ℕ). Allows (AtNotes queue) slots id me j (λ _. 1) (λ _. MakingTells (step slots j 1 0 none) me 1)) (sym e) (makes_at queue slots id s me near may next nobody)

  lays_at : (queue : TableId) (slots id s : ℕ) (note : Note S) (me : Mine S) → s < slots → me.0.sender ≡ Some s → me.1 ≡ (s, Some note) ∷ [] → IsNote me.0.queue.table_id s note
      → Allows (AtNotes queue) slots id me (s + 1) (λ _. 2) (λ _. LayingTells (step slots (s + 1) 2 0 none) me 2)
  lays_at queue slots id s note me near mine slot is st r wide at _ = let v = me.0 in let k = r.knows id v at in let w = relieved v in (
    w,
    gives,
    tt,
    subst (λ (c : List (ℕ × Option (Note S))). AtNotes queue (stepped st (s + 1) 2 id c w gives)) (sym slot)
        (changed queue slots id s v near st r wide at 2 r.next r.heard (some (Some note)) w (omega arith) (k.sender s mine) (omega arith) (λ t ne below. below) (λ _. inr refl)
        (record { queue_is = k.queue_is; listens = k.listens; sender = λ t h. absurd (none-some t h) })
        (λ _. (note, refl, subst (λ (t : TableId). IsNote t s note) k.queue_is is))
        (λ one. absurd (omega arith))
        (λ t ne h. absurd (ne (sym (same_Some s t (sym mine ∙ h)))))
        (λ j u ne e. r.knows j u e)),
    (refl, ap rest slot),
  )

  pub lays : (queue : TableId) (slots id s i : ℕ) (note : Note S) (me : Mine S) → i ≡ s + 1 → s < slots → me.0.sender ≡ Some s → me.1 ≡ (s, Some note) ∷ [] → IsNote me.0.queue.table_id s note
      → Allows (AtNotes queue) slots id me i (λ _. 2) (λ _. LayingTells (step slots i 2 0 none) me 2)
  lays queue slots id s i note me e near mine slot is = subst (λ (j : ℕ). Allows (AtNotes queue) slots id me j (λ _. 2) (λ _. LayingTells (step slots j 2 0 none) me 2)) (sym e) (lays_at queue slots id s note me near mine slot is)

  -- what looking tells, of the seat before, the number found and the seat after
  abbrev Looked : (me : Mine S) (s found : ℕ) → Mine S → ℕ → Type 0
  Looked me s found n t = (found ≡ 2 → (n.0 ≡ hearing_next me.0) × ((note : Note S) × (n.1 ≡ (t, Some note) ∷ me.1) × IsNote me.0.queue.table_id t note)) × (found ≢ 2 → (found ≡ 1) × (n.0 ≡ finding_open t me.0) × (n.1 ≡ me.1))

  looks_at : (queue : TableId) (slots id s : ℕ) (me : Mine S) → s < slots → me.0.listens ≡ true → me.0.heard ≡ s → me.0.next ≡ slots → Allows (AtNotes queue) slots id me (s + 1) (λ n. either (eqb n 2) 3 n) (LookingTells (step slots (s + 1) 2 3 none) me)
  looks_at queue slots id s me near may next made st r wide at _ = let v = me.0 in let k = r.knows id v at in let m = k.listens may in let n = get_or st.words (s + 1) 0 in
      let upto : r.heard ≡ s = sym m.2 ∙ next in let all : r.next ≡ slots = sym m.1 ∙ made in
      let F : ℕ → Type 0 = λ x. (w : Sight S) × (a : Act (Option (Note S))) × Valid st.homes me.1 a × AtNotes queue (stepped st (s + 1) x id me.1 w a) × LookingTells (step slots (s + 1) 2 3 none) me n (w, carried_after me.1 a) in
      exchanged n 2 3 F
      (λ two. let x = r.notes s two in let w = hearing_next v in (
        w,
        takes s (Some x.0),
        x.1,
        changed queue slots id s v near st r wide at 3 r.next (r.heard + 1) none w (omega arith) (omega (arith, all, near)) (omega arith) (λ t ne below. below) (λ from. absurd (omega (arith, upto, from)))
            (record { queue_is = k.queue_is; listens = λ _. (m.0, m.1, ap (λ (h : ℕ). h + 1) m.2); sender = k.sender })
            (λ e. absurd (omega arith))
            (λ one. absurd (omega arith))
            (λ t ne h. h)
            (λ j u ne e. let f = r.knows j u e in record { queue_is = f.queue_is; listens = λ h. absurd (ne ((f.listens h).0 ∙ sym m.0)); sender = f.sender }),
        told_at (Looked me s n (w, (s, Some x.0) ∷ me.1)) s
            ((λ _. (refl, (x.0, refl, subst (λ (t : TableId). IsNote t s x.0) (sym k.queue_is) x.2))), λ ne. absurd (ne two)),
      ))
      (λ ne. let w = finding_open s v in let one : n ≡ 1 = ⊎_elim (λ (e : n ≡ 1). e) (λ (e : n ≡ 2). absurd (ne e)) (r.unheard s (omega (arith, upto)) (omega (arith, all, near))) in (
        w,
        keeps,
        tt,
        subst (λ (y : List ℕ). AtNotes queue (record { words = y; homes = st.homes; views = set st.views id w })) (sym (set-get_or st.words (s + 1) 0))
            (viewed queue slots id s v near st r wide at w (record { queue_is = k.queue_is; listens = k.listens; sender = k.sender }) (λ t h. h)),
        told_at (Looked me s n (w, me.1)) s ((λ two. absurd (ne two)), λ _. (one, refl, refl)),
      ))

  pub looks : (queue : TableId) (slots id s i : ℕ) (me : Mine S) → i ≡ s + 1 → s < slots → me.0.listens ≡ true → me.0.heard ≡ s → me.0.next ≡ slots → Allows (AtNotes queue) slots id me i (λ n. either (eqb n 2) 3 n) (LookingTells (step slots i 2 3 none) me)
  looks queue slots id s i me e near may next made = subst (λ (j : ℕ). Allows (AtNotes queue) slots id me j (λ n. either (eqb n 2) 3 n) (LookingTells (step slots j 2 3 none) me)) (sym e) (looks_at queue slots id s me near may next made)

  -- the slot goes with the mouth, and the intake has a seat of its own
  pub parts : (queue : TableId) (id : ℕ) (v : Sight S) → v.listens ≡ true → Splits (AtNotes queue) id v (handed_over v) (relieved v)
  parts queue id v may st r at = let k = r.knows id v at in let m = k.listens may in let left = handed_over v in let right = relieved v in let cut : List (Sight S) = set st.views id left in record {
    listener = length cut;
    next = r.next;
    heard = r.heard;
    size = r.size;
    unmade = r.unmade;
    unheard = r.unheard;
    notes = r.notes;
    mouths = λ t is. let x = mouth_kept st.views id t v left at (λ h. h) (r.mouths t is) in (x.0, x.1, at_longer cut (right ∷ []) x.0 x.1 x.2, x.3);
    knows = λ j u e. ⊎_elim
        (λ (was : get_elem? cut j ≡ some u). ⊎_elim
        (λ (t : (j ≡ id) × (left ≡ u)). knows_as refl t.1 (record { queue_is = k.queue_is; listens = λ h. not_both h refl; sender = k.sender }))
        (λ (t : (j ≢ id) × (get_elem? st.views j ≡ some u)). let f = r.knows j u t.1 in record { queue_is = f.queue_is; listens = λ h. absurd (t.0 ((f.listens h).0 ∙ sym m.0)); sender = f.sender })
        (at_set st.views id j left u was))
        (λ (t : (j ≡ length cut) × (right ≡ u)). knows_as refl t.1 (record { queue_is = k.queue_is; listens = λ _. (t.0, m.1, m.2); sender = λ s h. absurd (none-some s h) }))
        (at_end cut right u j e);
  }

  pub noted : (t : TableId) (s : ℕ) (x : Note S) (o : Option (Note S)) → Some x ≡ o → IsNote t s x → IfSome o (IsNote t s)
  noted t s x o e is = subst (λ (y : Option (Note S)). IfSome y (IsNote t s)) e is

  -- the notes before a sender is made
  all_empty : (n s : ℕ) → s < n → get_elem? (map some (replicate {A = Option (Note S)} n None)) s ≡ some (some None)
  all_empty zero s h = absurd (omega arith)
  all_empty (suc n) zero h = refl
  all_empty (suc n) (suc s) h = all_empty n s (omega arith)

  pub opens : (note : Note S) (n : ℕ) (words : List ℕ) → words ≡ replicate (n + 1) 0 → AtNotes note.table_id (opening words (replicate n None) (listening note 0 0 [] None))
  opens note n words are = let v : Sight S = listening note 0 0 [] None in let none : (i : ℕ) → get_or words i 0 ≡ 0 = λ i. ap (λ (l : List ℕ). get_or l i 0) are ∙ zeros (n + 1) i in
      let wide : length (map some (replicate {A = Option (Note S)} n None)) ≡ n = length_of n None in record {
        listener = 0;
        next = 0;
        heard = 0;
        size = ap length are ∙ length-replicate (n + 1) 0 ∙ ap (λ (k : ℕ). k + 1) (sym wide);
        unmade = λ s m inside. (none (s + 1), all_empty n s (omega (arith, inside, wide)));
        unheard = λ s from to. absurd (omega (arith, to));
        notes = λ s two. let z = none (s + 1) in absurd (omega (arith, two));
        mouths = λ s one. let z = none (s + 1) in absurd (omega (arith, one));
        knows = λ j u e. let t = only_at v u j e in knows_as (sym t.0) t.1 (record { queue_is = refl; listens = λ _. (refl, refl, refl); sender = λ s h. absurd (none-some s h) });
      }

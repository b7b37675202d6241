-- Each step on the sleeping places keeps their rule.
use Rattle.std.proofs.Common.{◌≡◌, ◌≢◌, ℕ, zero, suc, ◌+◌, ◌<◌, ⊎_elim, Bool, true, false, cond, eqb, eq-eqb, ne_eqb, List, [], ◌∷◌, ◌++◌, map, length, get_or, set, replicate, sym, refl, ap, ◌∙◌, subst, arith, length-set, get_or-set_same, get_or-set_other}
use Rattle.std.specs.Prelude.{MatchBool}
use Rattle.std.proofs.lemmas.List.{map-append, length_push}
use mathlib.Core.Logic.{dite}
use mathlib.Core.Option.{Option, none, some, some-injective, some-ne-none}
use native.Mathlib.Decide.{ℕ_discrete}
use lib.ListN.{get_elem?}
use Rattle.atomic_table.specs.Table.{State, rest, takes, gives, keeps, Allows, Splits, opening, stepped, step}
use Rattle.atomic_table.proofs.Lists.{at_set, set_here, set_else, set_again, some_there}
use Rattle.gcd_facts.proofs.Elements.{only_at, at_end, in_range}
use Rattle.gcd_facts.proofs.Truth.{not_both}
use Rattle.gcd_steal.specs.declared.places.Change.{Change}
use Rattle.gcd_steal.specs.declared.places.Sight.{Sight}
use Rattle.gcd_steal.specs.Tokens.{Token, IsTokenOf, AreTokens}
use Rattle.gcd_steal.specs.Places.{History, change, sleeps_after, Since, sight, newcomer, Log, changes_of, made_by, flag, HasToken, HoldsSlot, SawBegin, Knows, Rests, Takes, Misses, Gives, Mine, WakingTells, LayingTells}

-- ---- histories

sleeps_same : (h : History) (k j : ℕ) (b : Bool) → k ≡ j → sleeps_after (change k b ∷ h) j ≡ b
sleeps_same h k j b e = ap (λ (t : Bool). cond t b (sleeps_after h j)) (eq-eqb k j e)

sleeps_other : (h : History) (k j : ℕ) (b : Bool) → k ≢ j → sleeps_after (change k b ∷ h) j ≡ sleeps_after h j
sleeps_other h k j b ne = ap (λ (t : Bool). cond t b (sleeps_after h j)) (ne_eqb k j ne)

flag_one : (b : Bool) → flag b ≡ 1 → b ≡ true
flag_one true e = refl
flag_one false e = absurd (omega arith)

flag_not : (b : Bool) → flag b ≢ 1 → b ≡ false
flag_not true e = absurd (e refl)
flag_not false e = refl

pub since_self : (h : History) → Since h h
since_self h = ([], refl)

made_here : (seat : ℕ) (c : Change) (log : Log) → made_by seat ((seat, c) ∷ log) ≡ made_by seat log + 1
made_here seat c log = let e = ap (λ (t : Bool). cond t 1 0 + made_by seat log) (eq-eqb seat seat refl) in omega (arith, e)

made_else : (by seat : ℕ) (c : Change) (log : Log) → by ≢ seat → made_by seat ((by, c) ∷ log) ≡ made_by seat log
made_else by seat c log ne = let e = ap (λ (t : Bool). cond t 1 0 + made_by seat log) (ne_eqb by seat ne) in omega (arith, e)

-- the writes of a seat among the later ones are some of all
made_later : (seat : ℕ) (later earlier : Log) → made_by seat (later ++ earlier) ≡ 0 → made_by seat later ≡ 0
made_later seat [] earlier zero_made = refl
made_later seat (e ∷ later) earlier zero_made = let one : ℕ = cond (eqb e.0 seat) 1 0 in let rest = made_later seat later earlier (omega arith) in omega (arith, rest)

-- ---- what seats have seen

-- the history goes on from what a seat has seen
since_seen : (log : Log) (seat : ℕ) (seen : History) → SawBegin log seat seen → Since (changes_of log) seen
since_seen log seat seen s = (changes_of s.0, ap changes_of s.2 ∙ map-append (λ e. e.1) s.0 s.1 ∙ ap (λ (h : History). changes_of s.0 ++ h) s.3)

-- the seat of the newest write has seen all
saw_all : (log : Log) (seat : ℕ) → SawBegin log seat (changes_of log)
saw_all log seat = ([], log, refl, refl, refl)

-- a write of another seat is a later one
saw_more : (log : Log) (seat by : ℕ) (c : Change) (seen : History) → by ≢ seat → SawBegin log seat seen → SawBegin ((by, c) ∷ log) seat seen
saw_more log seat by c seen ne s = ((by, c) ∷ s.0, s.1, ap (λ (l : Log). (by, c) ∷ l) s.2, s.3, made_else by seat c s.0 ne ∙ s.4)

-- a seat that made no write has seen what any has
saw_too : (log : Log) (seat other : ℕ) (seen : History) → made_by other log ≡ 0 → SawBegin log seat seen → SawBegin log other seen
saw_too log seat other seen zero_made s = (s.0, s.1, s.2, s.3, made_later other s.0 s.1 (ap (made_by other) (sym s.2) ∙ zero_made))

-- ---- splitting

knows_as : {key : Token} {log : Log} {i j : ℕ} {v w : Sight} → i ≡ j → v ≡ w → Knows key log i v → Knows key log j w
knows_as {key} {log} a b k = subst (λ (y : ℕ × Sight). Knows key log y.0 y.1) (λ i. (a i, b i)) k

pub twins : (key : Token) (id : ℕ) (v : Sight) → Splits (Rests key) id v v (newcomer v)
twins key id v s r at = let mine = r.knows id v at in let new = newcomer v in let cut : List Sight = set s.views id v in
    let unmade : made_by (length cut) r.log ≡ 0 = r.seated (length cut) (omega (arith, length-set s.views id v)) in record {
      log = r.log;
      size = r.size;
      words = r.words;
      tokens = r.tokens;
      knows = λ j u e. ⊎_elim
          (λ (t : get_elem? cut j ≡ some u). r.knows j u (subst (λ (l : List Sight). get_elem? l j ≡ some u) (set_again s.views id v at) t))
          (λ (t : (j ≡ length cut) × (new ≡ u)). knows_as (sym t.0) t.1 (record { tokens = mine.tokens; seen = saw_too r.log id (length cut) v.seen unmade mine.seen; did = sym unmade }))
          (at_end cut new u j e);
      seated = λ j above. r.seated j (omega (arith, above, length-set s.views id v, length_push cut new));
    }

-- ---- a write to a node's word

module _ (key : Token) (slots id node : ℕ) (v : Sight) (near : node < slots) (s : State Token Sight) (r : Rests key s) (wide : length s.homes ≡ slots) (at : get_elem? s.views id ≡ some v) where
  in_homes : node < length s.homes
  in_homes = omega (arith, wide)

  in_words : node + 8 < length s.words
  in_words = omega (arith, wide, r.size)

  mine : Knows key r.log id v
  mine = r.knows id v at

  abbrev log_with : Bool → Log
  log_with b = (id, change node b) ∷ r.log

  abbrev grown : Bool → Sight
  grown b = sight v.tokens (change node b ∷ changes_of r.log) (v.did + 1)

  -- the word of the node changes, and maybe its slot, and the history has one more write
  written : (b : Bool) (homes : List (Option Token)) → length homes ≡ length s.homes
      → ((j : ℕ) → j < length s.homes → sleeps_after (changes_of (log_with b)) j ≡ true → HasToken key homes j)
      → Rests key (record { words = set s.words (node + 8) (flag b); homes = homes; views = set s.views id (grown b) })
  written b homes as_many has = record {
    log = log_with b;
    size = length-set s.words (node + 8) (flag b) ∙ r.size ∙ ap (λ (n : ℕ). n + 8) (sym as_many);
    words = λ j near_j. let in_old : j < length s.homes = omega (arith, as_many) in dite (ℕ_discrete node j)
        (λ same. subst (λ (i : ℕ). get_or (set s.words (node + 8) (flag b)) (i + 8) 0 ≡ flag (sleeps_after (changes_of (log_with b)) i)) same
        (get_or-set_same s.words (node + 8) (flag b) 0 in_words ∙ ap flag (sym (sleeps_same (changes_of r.log) node node b refl))))
        (λ ne. get_or-set_other s.words (node + 8) (j + 8) (flag b) 0 (λ e. ne (omega arith)) ∙ r.words j in_old ∙ ap flag (sym (sleeps_other (changes_of r.log) node j b ne)));
    tokens = λ j near_j sleeps. has j (omega (arith, as_many)) sleeps;
    knows = λ j u e. ⊎_elim
        (λ (t : (j ≡ id) × (grown b ≡ u)). knows_as (sym t.0) t.1 (record { tokens = mine.tokens; seen = saw_all (log_with b) id; did = ap (λ (n : ℕ). n + 1) mine.did ∙ sym (made_here id (change node b) r.log) }))
        (λ (t : (j ≢ id) × (get_elem? s.views j ≡ some u)). let k = r.knows j u t.1 in let ne : id ≢ j = λ e. t.0 (sym e) in record { tokens = k.tokens; seen = saw_more r.log j id (change node b) u.seen ne k.seen; did = k.did ∙ sym (made_else id j (change node b) r.log ne) })
        (at_set s.views id j (grown b) u e);
    seated = λ j above. let l = length-set s.views id (grown b) in let i = in_range s.views id v at in made_else id j (change node b) r.log (λ e. absurd (omega (arith, above))) ∙ r.seated j (omega (arith, above));
  }

  -- the slot of the node changes too: it comes home with the token where the Drain sleeps from then on
  moved : (b : Bool) (h : Option Token) → (b ≡ true → (x : Token) × (h ≡ some x) × IsTokenOf key.table_id node x)
      → Rests key (record { words = set s.words (node + 8) (flag b); homes = set s.homes node h; views = set s.views id (grown b) })
  moved b h fits = written b (set s.homes node h) (length-set s.homes node h) (λ j in_old sleeps. dite (ℕ_discrete node j)
      (λ same. let x = fits (sym (sleeps_same (changes_of r.log) node j b same) ∙ sleeps) in
      (x.0, subst (λ (i : ℕ). get_elem? (set s.homes node h) i ≡ some (some x.0)) same (set_here s.homes node h in_homes ∙ ap some x.1), subst (λ (i : ℕ). IsTokenOf key.table_id i x.0) same x.2))
      (λ ne. let x = r.tokens j in_old (sym (sleeps_other (changes_of r.log) node j b ne) ∙ sleeps) in (x.0, set_else s.homes node j h (λ e. ne (sym e)) ∙ x.1, x.2)))

  -- the place is empty, as it was
  looked : Rests key (record { words = set s.words (node + 8) 0; homes = s.homes; views = set s.views id (grown false) })
  looked = written false s.homes refl (λ j in_old sleeps. dite (ℕ_discrete node j)
      (λ same. not_both sleeps (sleeps_same (changes_of r.log) node j false same))
      (λ ne. r.tokens j in_old (sym (sleeps_other (changes_of r.log) node j false ne) ∙ sleeps)))

-- the token of a table is one of the table that the view names
same_tokens : (key : Token) (log : Log) (id node : ℕ) (v : Sight) (t : Token) → Knows key log id v → IsTokenOf key.table_id node t → IsTokenOf v.tokens.table_id node t
same_tokens key log id node v t k is = subst (λ (x : Token). IsTokenOf x.table_id node t) (sym k.tokens) is

-- what is told of a node is told of each node that has the word
told_at : (P : ℕ → Type 0) (node : ℕ) → P node → (n : ℕ) → node + 8 ≡ n + 8 → P n
told_at P node p n e = subst P (omega arith) p

wakes_at : (key : Token) (slots id node : ℕ) (me : Mine) → node < slots → me.1 ≡ [] → Allows (Rests key) slots id me (node + 8) (λ _. 0) (WakingTells (step slots (node + 8) 0 0 none) me)
wakes_at key slots id node me near free s r wide at _ = let v = me.0 in let n = get_or s.words (node + 8) 0 in let in_range : node < length s.homes = omega (arith, wide) in let is = r.words node in_range in let k = r.knows id v at in
    let since = since_seen r.log id v.seen k.seen in let w = sight v.tokens (change node false ∷ changes_of r.log) (v.did + 1) in
    dite (ℕ_discrete n 1)
    (λ full. let up = flag_one (sleeps_after (changes_of r.log) node) (sym is ∙ full) in let b = r.tokens node in_range up in
    let m : Mine = (w, (node, b.0) ∷ me.1) in (
      w,
      takes node b.0,
      b.1,
      moved key slots id node v near s r wide at false none (λ e. not_both e refl),
      told_at (λ (j : ℕ). (n ≡ 1 → Takes j me.0 w × HoldsSlot me.0.tokens j m.1) × (n ≢ 1 → Misses j me.0 w × (m.1 ≡ []))) node
          ((λ _. ((changes_of r.log, refl, since, up), (b.0, ap (λ (l : List (ℕ × Token)). (node, b.0) ∷ l) free, same_tokens key r.log id node v b.0 k b.2))), λ ne. absurd (ne full)),
    ))
    (λ not_full. let down = flag_not (sleeps_after (changes_of r.log) node) (λ e. not_full (is ∙ e)) in
    let m : Mine = (w, me.1) in (
      w,
      keeps,
      tt,
      looked key slots id node v near s r wide at,
      told_at (λ (j : ℕ). (n ≡ 1 → Takes j me.0 w × HoldsSlot me.0.tokens j m.1) × (n ≢ 1 → Misses j me.0 w × (m.1 ≡ []))) node
          ((λ e. absurd (not_full e)), λ _. ((changes_of r.log, refl, since, down), free)),
    ))

-- a swap of the node's word takes its slot where the Drain sleeps
pub wakes : (key : Token) (slots id node i : ℕ) (me : Mine) → i ≡ node + 8 → node < slots → me.1 ≡ [] → Allows (Rests key) slots id me i (λ _. 0) (WakingTells (step slots i 0 0 none) me)
wakes key slots id node i me e near free = subst (λ (j : ℕ). Allows (Rests key) slots id me j (λ _. 0) (WakingTells (step slots j 0 0 none) me)) (sym e) (wakes_at key slots id node me near free)

lies_at : (key : Token) (slots id node : ℕ) (me : Mine) → node < slots → HoldsSlot me.0.tokens node me.1
    → Allows (Rests key) slots id me (node + 8) (λ _. 1) (λ _. LayingTells (step slots (node + 8) 1 0 none) me 1)
lies_at key slots id node me near slot s r wide at _ = let v = me.0 in let k = r.knows id v at in let w = sight v.tokens (change node true ∷ changes_of r.log) (v.did + 1) in (
  w,
  gives,
  tt,
  subst (λ (c : List (ℕ × Token)). Rests key (stepped s (node + 8) 1 id c w gives)) (sym slot.1)
      (moved key slots id node v near s r wide at true (some slot.0) (λ _. (slot.0, refl, subst (λ (x : Token). IsTokenOf x.table_id node slot.0) k.tokens slot.2))),
  told_at (λ (j : ℕ). Gives j me.0 w × (rest me.1 ≡ [])) node ((changes_of r.log, refl, since_seen r.log id v.seen k.seen), ap rest slot.1),
)

-- a store to the node's word gives its slot back
pub lies : (key : Token) (slots id node i : ℕ) (me : Mine) → i ≡ node + 8 → node < slots → HoldsSlot me.0.tokens node me.1
    → Allows (Rests key) slots id me i (λ _. 1) (λ _. LayingTells (step slots i 1 0 none) me 1)
lies key slots id node i me e near slot = subst (λ (j : ℕ). Allows (Rests key) slots id me j (λ _. 1) (λ _. LayingTells (step slots j 1 0 none) me 1)) (sym e) (lies_at key slots id node me near slot)

-- what was found decides the test
pub tested : (n m : ℕ) (P Q : Type 0) → (n ≡ m → P) × (n ≢ m → Q) → MatchBool (eqb n m) P Q
tested n m P Q told = dite (ℕ_discrete n m)
    (λ same. subst (λ (b : Bool). MatchBool b P Q) (sym (eq-eqb n m same)) (told.0 same))
    (λ ne. subst (λ (b : Bool). MatchBool b P Q) (sym (ne_eqb n m ne)) (told.1 ne))

-- ---- a seat with one slot

pub first_of : (k : ℕ) (c : List (ℕ × Token)) → map (λ x. x.0) c ≡ k ∷ [] → (b : Token) × (c ≡ (k, b) ∷ rest c)
first_of k [] e = absurd (omega (arith, ap length e))
first_of k ((j, b) ∷ l) e = (b, λ i. (ap (λ (l : List ℕ). get_or l 0 0) e i, b) ∷ l)

pub none_else : (k : ℕ) (c : List (ℕ × Token)) → map (λ x. x.0) c ≡ k ∷ [] → rest c ≡ []
none_else k [] e = refl
none_else k (x ∷ []) e = refl
none_else k (x ∷ y ∷ l) e = absurd (omega (arith, ap length e))

-- ---- the opening

unmapped : {A : Type 0} (l : List A) (k : ℕ) (a : A) → get_elem? (map some l) k ≡ some (some a) → get_elem? l k ≡ some a
unmapped [] k a e = absurd (some-ne-none (some a) (sym e))
unmapped (x ∷ l) zero a e = some-injective (some x) (some a) e
unmapped (x ∷ l) (suc k) a e = unmapped l k a e

wide : (l : List (Token)) → length (map some l) ≡ length l
wide [] = refl
wide (x ∷ l) = ap suc (wide l)

pub ones : (n i : ℕ) → i < n → get_or (replicate {A = ℕ} n 1) i 0 ≡ 1
ones zero i near = absurd (omega arith)
ones (suc n) zero near = refl
ones (suc n) (suc i) near = ones n i (omega arith)

-- at the start each Drain sleeps
pub all_sleep : (key : Token) (words : List ℕ) (each : List Token) → length words ≡ length each + 8 → ((i : ℕ) → i < length words → get_or words i 0 ≡ 1) → AreTokens key.table_id each → Rests key (opening words each (sight key [] 0))
all_sleep key words each same up are = record {
  log = [];
  size = same ∙ ap (λ (n : ℕ). n + 8) (sym (wide each));
  words = λ k near. up (k + 8) (omega (arith, wide each, same));
  tokens = λ k near _. let t = some_there each k (omega (arith, wide each)) in (t.0, t.1, are k t.0 (unmapped each k t.0 t.1));
  knows = λ j v e. knows_as (sym (only_at (sight key [] 0) v j e).0) (only_at (sight key [] 0) v j e).1 (record { tokens = refl; seen = saw_all [] 0; did = refl });
  seated = λ j above. refl;
}

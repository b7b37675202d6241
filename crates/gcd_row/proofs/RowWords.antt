-- The words of a ring: what lies in the cell of the next event, one more event, a cell of an event that was seen.
use Rattle.std.proofs.Common.{◌≡◌, ◌≢◌, ℕ, zero, suc, ◌+◌, ◌-◌, ◌*◌, ◌/◌, ◌%◌, ◌<◌, ◌≤◌, ◌⊎◌, inl, inr, ⊎_elim, Bool, true, false, cond, List, [], ◌∷◌, ◌++◌, length, map, get_or, set, sym, refl, ap, ◌∙◌, subst, arith, length-append, length-set, get_or-set_other, get_or-set_same, None, eqb, eq-eqb, ne_eqb, lt-ltb, le-ltb}
use mathlib.Core.Logic.{dite}
use native.Mathlib.Decide.{ℕ_discrete, dec_le}
use Rattle.gcd_plan.specs.PlanView.{PlanView}
use Rattle.gcd_plan.specs.Validity.{IsPlan}
use Rattle.gcd_event.specs.declared.event.Event.{Event}
use Rattle.gcd_event.specs.Fits.{IsFitting}
use Rattle.gcd_event.specs.Words.{word_of}
use Rattle.gcd_event.proofs.WordLemmas.{word_bounds}
use Rattle.gcd_history.specs.History.{why, IsLawful}
use Rattle.gcd_history.proofs.Permitted.Lawful.{lawful_next}
use Rattle.gcd_history.proofs.Permitted.Fitting.{permitted_fits}
use Rattle.gcd_history.specs.Facts.{AllFit}
use Rattle.gcd_history.proofs.Public.Facts.{all_fit}
use Rattle.gcd_history.specs.Team.{StartsWith}
use Rattle.gcd_row.specs.Ring.{IsRing, IsWord, is_news, lap, under, passed_word}
use Rattle.gcd_row.proofs.Fronts.{starts_next}

-- what is at a place of a beginning, and behind it
pub at_front : (h r : List ℕ) (i : ℕ) → i < length h → get_or (h ++ r) i 0 ≡ get_or h i 0
at_front [] r i lt = absurd (omega arith)
at_front (x ∷ h) r zero lt = refl
at_front (x ∷ h) r (suc i) lt = at_front h r i (omega arith)

pub at_next : (h : List ℕ) (e : ℕ) (r : List ℕ) → get_or (h ++ e ∷ r) (length h) 0 ≡ e
at_next [] e r = refl
at_next (x ∷ h) e r = at_next h e r

-- the word of event n is news in its cell
pub is_its : (n e : ℕ) → IsWord e → is_news n (e + lap n) ≡ true
is_its n e fits =
    let bit : ℕ = n / 4096 % 2 in
    let low : bit < 2 = omega arith in
    let same : (e + bit * 9223372036854775808) / 9223372036854775808 ≡ bit = omega (arith, fits, low) in
    let some_word : e + bit * 9223372036854775808 ≢ 0 = λ is. omega (arith, fits, is) in
    ap (λ (b : Bool). cond b false (eqb ((e + bit * 9223372036854775808) / 9223372036854775808) bit)) (ne_eqb (e + bit * 9223372036854775808) 0 some_word)
    ∙ eq-eqb ((e + bit * 9223372036854775808) / 9223372036854775808) bit same

-- that of the event a lap ago is not
pub is_old : (n e : ℕ) → 4096 ≤ n → IsWord e → is_news n (e + lap (n - 4096)) ≡ false
is_old n e le fits =
    let bit : ℕ = n / 4096 % 2 in
    let old : ℕ = (n - 4096) / 4096 % 2 in
    let low : old < 2 = omega arith in
    let other : old ≢ bit = λ is. omega (arith, le, is) in
    let same : (e + old * 9223372036854775808) / 9223372036854775808 ≡ old = omega (arith, fits, low) in
    let some_word : e + old * 9223372036854775808 ≢ 0 = λ is. omega (arith, fits, is) in
    ap (λ (b : Bool). cond b false (eqb ((e + old * 9223372036854775808) / 9223372036854775808) bit)) (ne_eqb (e + old * 9223372036854775808) 0 some_word)
    ∙ ne_eqb ((e + old * 9223372036854775808) / 9223372036854775808) bit (λ is. other (sym same ∙ is))

pub under_first : (h : List ℕ) → length h < 4096 → under h ≡ 0
under_first h lt = ap (λ (b : Bool). cond {A = ℕ} b 0 (get_or h (length h - 4096) 0 + lap (length h - 4096))) (lt-ltb (length h) 4096 lt)

pub under_later : (h : List ℕ) → 4096 ≤ length h → under h ≡ get_or h (length h - 4096) 0 + lap (length h - 4096)
under_later h le = ap (λ (b : Bool). cond {A = ℕ} b 0 (get_or h (length h - 4096) 0 + lap (length h - 4096))) (le-ltb (length h) 4096 le)

abbrev pub AllWords : List ℕ → Type 0
AllWords h = (i : ℕ) → i < length h → IsWord (get_or h i 0)

-- what lies in the cell of the next event, where there is none yet
pub past_all : (most : ℕ) (words ws : List ℕ) → IsRing most words ws → AllWords ws → (is_news (length ws) (get_or words (suc (length ws % 4096)) 0) ≡ false) × (get_or words (suc (length ws % 4096)) 0 ≡ under ws)
past_all most words ws ring fit = dite (dec_le 4096 (length ws))
    (λ le. let n : ℕ = length ws in
    let there : n - 4096 < length ws = omega arith in
    let near_old : length ws ≤ n - 4096 + 4096 = omega arith in
    let place : (n - 4096) % 4096 ≡ n % 4096 = omega arith in
    let is : get_or words (suc (n % 4096)) 0 ≡ get_or ws (n - 4096) 0 + lap (n - 4096) = subst (λ (j : ℕ). get_or words (suc j) 0 ≡ get_or ws (n - 4096) 0 + lap (n - 4096)) place (ring.held (n - 4096) there near_old) in
    (ap (is_news n) is ∙ is_old n (get_or ws (n - 4096) 0) le (fit (n - 4096) there), is ∙ sym (under_later ws le)))
    (λ not. let n : ℕ = length ws in
    let lt : n < 4096 = omega arith in
    let len : length ws ≤ n = omega arith in
    let place : n % 4096 ≡ n = omega arith in
    let is : get_or words (suc (n % 4096)) 0 ≡ 0 = ap (λ (j : ℕ). get_or words (suc j) 0) place ∙ ring.blank n len lt in
    (ap (is_news n) is, is ∙ sym (under_first ws lt)))

-- one more event in its cell
places_word : (most : ℕ) (words h : List ℕ) (e : ℕ) → IsRing most words h → length h < most → IsRing most (set words (suc (length h % 4096)) (e + lap (length h))) (h ++ e ∷ [])
places_word most words h e ring room =
    let n : ℕ = length h in
    let i : ℕ = suc (n % 4096) in
    let x : ℕ = e + lap n in
    let size : length words ≡ 4161 = ring.size in
    let longer : length (h ++ e ∷ []) ≡ suc n = omega (arith, length-append h (e ∷ [])) in
    record {
      first = get_or-set_other words i 0 x 0 (λ k. omega arith) ∙ ring.first;
      size = length-set words i x ∙ size;
      room = omega (arith, longer);
      held = λ j lt near. dite (ℕ_discrete j n)
          (λ is. subst (λ (k : ℕ). get_or (set words i x) (suc (k % 4096)) 0 ≡ get_or (h ++ e ∷ []) k 0 + lap k) (sym is)
          (get_or-set_same words i x 0 (omega (arith, size)) ∙ ap (λ (y : ℕ). y + lap n) (sym (at_next h e []))))
          (λ ne. let low : j < n = omega (arith, lt, longer) in
          let apart : suc (j % 4096) ≢ i = λ is. omega (arith, is, low, near, longer) in
          let near' : length h ≤ j + 4096 = omega (arith, near, longer) in
          get_or-set_other words i (suc (j % 4096)) x 0 apart ∙ ring.held j low near' ∙ ap (λ (y : ℕ). y + lap j) (sym (at_front h (e ∷ []) j low)));
      blank = λ j le lt. let past : n ≤ j = omega (arith, le, longer) in
          let apart : suc j ≢ i = λ is. omega (arith, is, le, lt, longer) in
          get_or-set_other words i (suc j) x 0 apart ∙ ring.blank j past lt;
    }

-- a word behind the cells is no matter
pub behind : (most : ℕ) (words h : List ℕ) (k x : ℕ) → IsRing most words h → IsRing most (set words (4097 + k) x) h
behind most words h k x ring = record {
  first = get_or-set_other words (4097 + k) 0 x 0 (λ is. omega (arith, is)) ∙ ring.first;
  size = length-set words (4097 + k) x ∙ ring.size;
  room = ring.room;
  held = λ j lt near. get_or-set_other words (4097 + k) (suc (j % 4096)) x 0 (λ is. omega (arith, is)) ∙ ring.held j lt near;
  blank = λ j le lt. get_or-set_other words (4097 + k) (suc j) x 0 (λ is. omega (arith, is, lt)) ∙ ring.blank j le lt;
}

-- what lay there before is not news
pub under_is_old : (h : List ℕ) → AllWords h → is_news (length h) (under h) ≡ false
under_is_old h fit = dite (dec_le 4096 (length h))
    (λ le. ap (is_news (length h)) (under_later h le) ∙ is_old (length h) (get_or h (length h - 4096) 0) le (fit (length h - 4096) (omega arith)))
    (λ not. ap (is_news (length h)) (under_first h (omega arith)))

-- a word of the cells is no passed word
pub apart_passed : (words : List ℕ) (n x k : ℕ) → passed_word (set words (suc (n % 4096)) x) k ≡ passed_word words k
apart_passed words n x k = get_or-set_other words (suc (n % 4096)) (4097 + k) x 0 (λ is. omega (arith, is))

-- ## The words of events

pub words_length : (h : List Event) → length (map word_of h) ≡ length h
words_length [] = refl
words_length (x ∷ h) = ap suc (words_length h)

words_append : (g h : List Event) → map word_of (g ++ h) ≡ map word_of g ++ map word_of h
words_append [] h = refl
words_append (x ∷ g) h = ap (λ (l : List ℕ). word_of x ∷ l) (words_append g h)

pub event_word : (e : Event) → IsFitting e → IsWord (word_of e)
event_word e fits = let b = word_bounds e fits in (b.0, omega (arith, b.1))

words_fit : (h : List Event) → AllFit h → AllWords (map word_of h)
words_fit [] ok i lt = absurd (omega arith)
words_fit (x ∷ h) ok zero lt = event_word x (ok 0 x refl)
words_fit (x ∷ h) ok (suc i) lt = words_fit h (λ j e at. ok (suc j) e at) i (omega arith)

-- the words of a lawful history are words of events
pub all_words : (p : PlanView) (h : List Event) → IsPlan p → IsLawful p h → AllWords (map word_of h)
all_words p h valid law = words_fit h (all_fit p h valid law)

-- the word in the cell of the next event tells whether there is one
pub finds : (p : PlanView) (most : ℕ) (words : List ℕ) (log seen : List Event) → IsPlan p → IsRing most words (map word_of log) → IsLawful p log → StartsWith log seen → length log ≤ length seen + 4096
    → ((is_news (length seen) (get_or words (suc (length seen % 4096)) 0) ≡ false) × (seen ≡ log) × (get_or words (suc (length seen % 4096)) 0 ≡ under (map word_of seen)))
    ⊎ ((e : Event) × (rest : List Event) × (is_news (length seen) (get_or words (suc (length seen % 4096)) 0) ≡ true) × (log ≡ seen ++ e ∷ rest) × (get_or words (suc (length seen % 4096)) 0 ≡ word_of e + lap (length seen)) × (why p seen e ≡ None))
finds p most words log seen valid ring law begins near = ⊎_elim
    (λ (all : seen ≡ log).
    let len : length (map word_of log) ≡ length seen = words_length log ∙ ap length (sym all) in
    let z = past_all most words (map word_of log) ring (all_words p log valid law) in
    inl (subst (λ (n : ℕ). is_news n (get_or words (suc (n % 4096)) 0) ≡ false) len z.0, all, subst (λ (n : ℕ). get_or words (suc (n % 4096)) 0 ≡ under (map word_of log)) len z.1 ∙ ap (λ (h : List Event). under (map word_of h)) (sym all)))
    (λ (t : (e : Event) × (rest : List Event) × (log ≡ seen ++ e ∷ rest)).
    let n : ℕ = length seen in
    let len : length (map word_of seen) ≡ n = words_length seen in
    let parts : map word_of log ≡ map word_of seen ++ word_of t.0 ∷ map word_of t.1 = ap (map word_of) t.2 ∙ words_append seen (t.0 ∷ t.1) in
    let there : n < length (map word_of log) = omega (arith, words_length log, ap length t.2, length-append seen (t.0 ∷ t.1)) in
    let close : length (map word_of log) ≤ n + 4096 = omega (arith, words_length log, near) in
    let event : get_or (map word_of log) n 0 ≡ word_of t.0 = subst (λ (k : ℕ). get_or (map word_of log) k 0 ≡ word_of t.0) len (ap (λ (l : List ℕ). get_or l (length (map word_of seen)) 0) parts ∙ at_next (map word_of seen) (word_of t.0) (map word_of t.1)) in
    let is : get_or words (suc (n % 4096)) 0 ≡ word_of t.0 + lap n = ring.held n there close ∙ ap (λ (x : ℕ). x + lap n) event in
    let next : why p seen t.0 ≡ None = lawful_next p seen t.0 t.1 (subst (IsLawful p) t.2 law) in
    inr (t.0, t.1, ap (is_news n) is ∙ is_its n (word_of t.0) (event_word t.0 (permitted_fits p seen t.0 valid next)), t.2, is, next))
    (starts_next log seen begins)

-- the cell of an event that was seen and is no more than a lap ago
pub rereads : (most : ℕ) (words : List ℕ) (log seen : List Event) (n : ℕ) → IsRing most words (map word_of log) → StartsWith log seen → n < length seen → length log ≤ n + 4096 → get_or words (suc (n % 4096)) 0 ≡ get_or (map word_of seen) n 0 + lap n
rereads most words log seen n ring begins lt near =
    let parts : map word_of log ≡ map word_of seen ++ map word_of begins.0 = ap (map word_of) begins.1 ∙ words_append seen begins.0 in
    let there : n < length (map word_of log) = omega (arith, words_length log, ap length begins.1, length-append seen begins.0, lt) in
    ring.held n there (omega (arith, words_length log, near)) ∙ ap (λ (x : ℕ). x + lap n) (ap (λ (l : List ℕ). get_or l n 0) parts ∙ at_front (map word_of seen) (map word_of begins.0) n (omega (arith, words_length seen, lt)))

-- one more event in its cell
pub places : (most : ℕ) (words : List ℕ) (log : List Event) (e : Event) → IsRing most words (map word_of log) → length log < most → IsRing most (set words (suc (length log % 4096)) (word_of e + lap (length log))) (map word_of (log ++ e ∷ []))
places most words log e ring room =
    let len = words_length log in
    subst (IsRing most (set words (suc (length log % 4096)) (word_of e + lap (length log)))) (sym (words_append log (e ∷ [])))
    (subst (λ (n : ℕ). IsRing most (set words (suc (n % 4096)) (word_of e + lap n)) (map word_of log ++ word_of e ∷ [])) len
    (places_word most words (map word_of log) (word_of e) ring (omega (arith, len, room))))

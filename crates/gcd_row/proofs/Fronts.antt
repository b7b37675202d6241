-- Beginnings of histories.
use Rattle.std.proofs.Common.{◌≡◌, ◌≢◌, ℕ, ◌≤◌, ◌⊎◌, inl, inr, Bool, cond, List, [], ◌∷◌, ◌++◌, length, sym, refl, ap, ◌∙◌, arith, length-append, append_assoc, append-nil, eq-eqb, ne_eqb}
use Rattle.std.proofs.lemmas.List.{nil_from_length}
use Rattle.std.proofs.lemmas.List.Elements.{filter-append}
use Rattle.std.specs.List.{filter}
use Rattle.gcd_event.specs.declared.event.Event.{Event}
use Rattle.gcd_history.specs.Choice.{worker_of}
use Rattle.gcd_history.specs.Held.{is_of}
use Rattle.gcd_history.specs.Team.{of_worker, StartsWith}

pub starts_refl : (h : List Event) → StartsWith h h
starts_refl h = ([], sym (append-nil h))

pub starts_nil : (h : List Event) → StartsWith h []
starts_nil h = (h, refl)

pub starts_trans : (a b c : List Event) → StartsWith a b → StartsWith b c → StartsWith a c
starts_trans a b c s t = (t.0 ++ s.0, s.1 ∙ ap (λ (l : List Event). l ++ s.0) t.1 ∙ append_assoc c t.0 s.0)

pub starts_more : (h : List Event) (e : Event) → StartsWith (h ++ e ∷ []) h
starts_more h e = (e ∷ [], refl)

pub starts_length : (a b : List Event) → StartsWith a b → length b ≤ length a
starts_length a b s = omega (arith, ap length s.1, length-append b s.0)

-- a beginning that is as long is the whole
pub starts_whole : (a b : List Event) → StartsWith a b → length a ≤ length b → b ≡ a
starts_whole a b s h = let none : length s.0 ≡ 0 = omega (arith, ap length s.1, length-append b s.0) in
    sym (s.1 ∙ ap (λ (l : List Event). b ++ l) (nil_from_length s.0 none) ∙ append-nil b)

-- a beginning is the whole, or one event follows it
pub starts_next : (a b : List Event) → StartsWith a b → (b ≡ a) ⊎ ((e : Event) × (rest : List Event) × (a ≡ b ++ e ∷ rest))
starts_next a b s = go s.0 s.1
  where
    go : (l : List Event) → a ≡ b ++ l → (b ≡ a) ⊎ ((e : Event) × (rest : List Event) × (a ≡ b ++ e ∷ rest))
    go [] is = inl (sym (is ∙ append-nil b))
    go (e ∷ rest) is = inr (e, rest, is)

-- the shorter of two beginnings begins the longer
pub starts_shorter : (w a b : List Event) → StartsWith w a → StartsWith w b → length a ≤ length b → StartsWith b a
starts_shorter w a b s t h = go a b s.0 t.0 (sym s.1 ∙ t.1) h
  where
    go : (a b x y : List Event) → a ++ x ≡ b ++ y → length a ≤ length b → StartsWith b a
    go [] b x y e h = (b, refl)
    go (u ∷ a) [] x y e h = absurd (omega arith)
    go (u ∷ a) (v ∷ b) x y e h = let same : u ≡ v = cc in let tails : a ++ x ≡ b ++ y = cc in let r = go a b x y tails (omega arith) in (r.0, λ i. sym same i ∷ r.1 i)

-- where a beginning has all events of a worker, so has each longer one
pub between : (w : ℕ) (a b c : List Event) → StartsWith a b → StartsWith b c → of_worker w a ≡ of_worker w c → of_worker w a ≡ of_worker w b
unfolding of_worker
between w a b c s t e =
    let p : Event → Bool = is_of w in
    let up : filter p a ≡ filter p b ++ filter p s.0 = ap (filter p) s.1 ∙ filter-append p b s.0 in
    let down : filter p b ≡ filter p c ++ filter p t.0 = ap (filter p) t.1 ∙ filter-append p c t.0 in
    let none : length (filter p s.0) ≡ 0 = omega (arith, ap length up, ap length down, ap length e, length-append (filter p b) (filter p s.0), length-append (filter p c) (filter p t.0)) in
    up ∙ ap (λ (l : List Event). filter p b ++ l) (nil_from_length (filter p s.0) none) ∙ append-nil (filter p b)

-- one more event, of this worker or of another
pub own_more : (w : ℕ) (h : List Event) (e : Event) → worker_of e ≡ w → of_worker w (h ++ e ∷ []) ≡ of_worker w h ++ e ∷ []
unfolding of_worker
own_more w h e is = let p : Event → Bool = is_of w in
    filter-append p h (e ∷ []) ∙ ap (λ (b : Bool). filter p h ++ cond b (e ∷ []) []) (eq-eqb (worker_of e) w is)

pub own_same : (w : ℕ) (h : List Event) (e : Event) → worker_of e ≢ w → of_worker w (h ++ e ∷ []) ≡ of_worker w h
unfolding of_worker
own_same w h e is = let p : Event → Bool = is_of w in
    filter-append p h (e ∷ []) ∙ ap (λ (b : Bool). filter p h ++ cond b (e ∷ []) []) (ne_eqb (worker_of e) w is) ∙ append-nil (filter p h)

-- where a history has no event of a worker, no beginning has one
pub own_none : (w : ℕ) (a b : List Event) → StartsWith a b → of_worker w a ≡ [] → of_worker w b ≡ []
unfolding of_worker
own_none w a b s e = let p : Event → Bool = is_of w in
    let up : filter p a ≡ filter p b ++ filter p s.0 = ap (filter p) s.1 ∙ filter-append p b s.0 in
    nil_from_length (filter p b) (omega (arith, ap length up, ap length e, length-append (filter p b) (filter p s.0)))

-- one more event of a worker is not none
pub own_differs : (w : ℕ) (h : List Event) (e : Event) → worker_of e ≡ w → of_worker w (h ++ e ∷ []) ≡ of_worker w h → ⊥
own_differs w h e is same = omega (arith, ap length (sym (own_more w h e is) ∙ same), length-append (of_worker w h) (e ∷ []))

pub own_nothing : (w : ℕ) → of_worker w [] ≡ []
unfolding of_worker
own_nothing w = refl

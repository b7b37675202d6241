-- Benches and passes that come one by one.
use Rattle.std.proofs.Common.{◌≡◌, ◌≢◌, ℕ, ◌+◌, ◌<◌, List, [], ◌∷◌, ◌++◌, length, get_or, set, sym, refl, ap, ◌∙◌, subst, arith, length-set, get_or-set_same, get_or-set_other}
use Rattle.std.proofs.lemmas.List.{get_or_append_left, get_or_push, get_or_default, length_push}
use mathlib.Core.Logic.{dite}
use native.Mathlib.Decide.{ℕ_discrete}
use Rattle.crossbeam_deque.specs.Handles.{worker_deque, IsPassOf}
use Rattle.atomic_table.specs.Seated.{TableId}
use Rattle.gcd_steal.specs.declared.bench.Bench.{Bench}
use Rattle.gcd_steal.specs.declared.deque.RackId.{RackId}
use Rattle.gcd_steal.specs.Racks.{DequeStealer, DequePass, own_account}
use Rattle.gcd_steal.specs.Making.{IsOpened, AreOpened, KnowRack, SameButPasses, SameBench, AreSame, IsNewPass, AreNewPasses, HavePasses}

module _ {A : Type 0} where
  -- what holds of each element and of one more
  pub each_more : (P : ℕ → A → Type 0) (l : List A) (a : A) (n : ℕ) → length l ≡ n → ((k : ℕ) (d : A) → k < n → P k (get_or l k d)) → P n a → (k : ℕ) (d : A) → k < n + 1 → P k (get_or (l ++ a ∷ []) k d)
  each_more P l a n wide each last k d near = dite (ℕ_discrete k n)
      (λ same. subst (λ (x : ℕ × A). P x.0 x.1) (λ i. (sym same i, sym (get_or_push l a d k (wide ∙ sym same)) i)) last)
      (λ ne. subst (P k) (sym (get_or_append_left l (a ∷ []) d k (omega arith))) (each k d (omega arith)))

  -- what holds of each element and of the one that is written
  pub each_set : (P : ℕ → A → Type 0) (l : List A) (i : ℕ) (a : A) (n : ℕ) → i < length l → ((k : ℕ) (d : A) → k < n → k ≢ i → P k (get_or l k d)) → P i a → (k : ℕ) (d : A) → k < n → P k (get_or (set l i a) k d)
  each_set P l i a n within each here k d near = dite (ℕ_discrete k i)
      (λ same. subst (λ (j : ℕ). P j (get_or (set l i a) j d)) (sym same) (subst (P i) (sym (get_or-set_same l i a d within)) here))
      (λ ne. subst (P k) (sym (get_or-set_other l i k a d ne)) (each k d near ne))

-- ---- opening

pub opened_more : (places : TableId) (rack : RackId) (most : ℕ) (thieves : List DequeStealer) (benches : List Bench) (t : DequeStealer) (b : Bench) (n : ℕ) → length thieves ≡ n → length benches ≡ n
    → AreOpened places rack most thieves benches → IsOpened places rack most n t b → AreOpened places rack most (thieves ++ t ∷ []) (benches ++ b ∷ [])
opened_more places rack most thieves benches t b n wide_t wide_b each last k x y near =
    each_more (λ j u. (z : Bench) → IsOpened places rack most j u (get_or (benches ++ b ∷ []) j z)) thieves t n wide_t
    (λ j u below z. each_more (λ i c. (v : DequeStealer) → i < n → IsOpened places rack most i (get_or thieves i v) c) benches b n wide_b (λ i c under v _. each i v c (omega (arith, wide_b))) (λ v bad. absurd (omega arith)) j z (omega arith) u below)
    (λ z. subst (IsOpened places rack most n t) (sym (get_or_push benches b z n wide_b)) last)
    k x (omega (arith, length_push benches b)) y

-- ---- staying the same

but_then : (a b c : Bench) → SameButPasses a b → SameButPasses b c → SameButPasses a c
but_then a b c f g = record { number = g.number ∙ f.number; seat = g.seat ∙ f.seat; deque = g.deque ∙ f.deque; known = g.known ∙ f.known; pushed = g.pushed ∙ f.pushed; most = g.most ∙ f.most }

but_self : (a : Bench) → SameButPasses a a
but_self a = record { number = refl; seat = refl; deque = refl; known = refl; pushed = refl; most = refl }

bench_then : (a b c : Bench) → SameBench a b → SameBench b c → SameBench a c
bench_then a b c f g = record { but_passes = but_then a b c f.but_passes g.but_passes; passes = g.passes ∙ f.passes }

all_then : (R : Bench → Bench → Type 0) → ((a b c : Bench) → R a b → R b c → R a c) → (l m n : List Bench) → AreSame R l m → AreSame R m n → AreSame R l n
all_then R then l m n f g = record { count = g.count ∙ f.count; each = λ k b c near. then (get_or l k b) (get_or m k b) (get_or n k c) (f.each k b b near) (g.each k b c (omega (arith, f.count))) }

all_set : (R : Bench → Bench → Type 0) → ((a : Bench) → R a a) → (l : List Bench) (i : ℕ) (x y : Bench) → i < length l → x ≡ get_or l i x → R x y → AreSame R l (set l i y)
all_set R self l i x y within at step = record {
  count = length-set l i y;
  each = λ k b c near. each_set (λ j z. (d : Bench) → R (get_or l j d) z) l i y (length l) within
      (λ j z below _ d. subst (R (get_or l j d)) (get_or_default l j d z below) (self (get_or l j d)))
      (λ d. subst (λ (z : Bench). R z y) (at ∙ get_or_default l i x d within) step) k c near b;
}

-- one more bench was asked for a pass
pub same_more : (old now : List Bench) (i : ℕ) (x y : Bench) → AreSame SameBench old now → i < length now → x ≡ get_or now i x → SameBench x y → AreSame SameBench old (set now i y)
same_more old now i x y same within at step = all_then SameBench bench_then old now (set now i y) same (all_set SameBench (λ a. record { but_passes = but_self a; passes = refl }) now i x y within at step)

pub but_passes_of : (old new : List Bench) → AreSame SameBench old new → AreSame SameButPasses old new
but_passes_of old new same = record { count = same.count; each = λ k b c near. (same.each k b c near).but_passes }

-- one more bench was given its passes
pub given_more : (old now next : List Bench) (i : ℕ) (x y : Bench) → AreSame SameButPasses old now → AreSame SameBench now next → i < length next → x ≡ get_or next i x → SameButPasses x y → AreSame SameButPasses old (set next i y)
given_more old now next i x y same asked within at step = all_then SameButPasses but_then old next (set next i y) (all_then SameButPasses but_then old now next same (but_passes_of now next asked)) (all_set SameButPasses but_self next i x y within at step)

-- no bench was given its passes
pub given_none : (old now next : List Bench) → AreSame SameButPasses old now → AreSame SameBench now next → AreSame SameButPasses old next
given_none old now next same asked = all_then SameButPasses but_then old now next same (but_passes_of now next asked)

pub know_still : (rack : RackId) (old new : List Bench) → KnowRack rack old → AreSame SameButPasses old new → KnowRack rack new
know_still rack old new knows same k b near = ap (λ a. a.rack) (same.each k b b (omega (arith, same.count))).known ∙ knows k b (omega (arith, same.count))

pub knows_at : (rack : RackId) (old now : List Bench) (i : ℕ) (x : Bench) → KnowRack rack old → AreSame SameBench old now → i < length now → x ≡ get_or now i x → (own_account x).rack ≡ rack
knows_at rack old now i x knows same within at = ap (λ z. (own_account z).rack) at ∙ know_still rack old now knows (but_passes_of old now same) i x within

-- ---- passes

new_still : (rack : RackId) (b c : Bench) (p : DequePass) → SameButPasses b c → IsNewPass rack b p → IsNewPass rack c p
new_still rack b c p same new = (subst (λ d. IsPassOf d p) (sym same.deque) new.0, new.1)

passes_still : (rack : RackId) (old new : List Bench) (passes : List DequePass) → AreSame SameButPasses old new → AreNewPasses rack old passes → AreNewPasses rack new passes
passes_still rack old new passes same are = record {
  count = are.count ∙ sym same.count;
  each = λ k b p near. new_still rack (get_or old k b) (get_or new k b) (get_or passes k p) (same.each k b b (omega (arith, same.count))) (are.each k b p (omega (arith, same.count)));
}

-- a pass of a bench's deque as it stands is one of that bench's deque at the start
pub made_one : (rack : RackId) (old now : List Bench) (i : ℕ) (x : Bench) (p : DequePass) → AreSame SameBench old now → i < length now → x ≡ get_or now i x → IsNewPass rack x p → (b : Bench) → IsNewPass rack (get_or old i b) p
made_one rack old now i x p same within at new b = let eq = (same.each i b x (omega (arith, same.count))).but_passes.deque in (subst (λ d. IsPassOf d p) (ap (λ z. worker_deque z.deque.worker) at ∙ eq) new.0, new.1)

pub made_more : (rack : RackId) (benches : List Bench) (passes : List DequePass) (p : DequePass) (n : ℕ) → length passes ≡ n
    → ((k : ℕ) (b : Bench) (q : DequePass) → k < n → IsNewPass rack (get_or benches k b) (get_or passes k q)) → ((b : Bench) → IsNewPass rack (get_or benches n b) p)
    → (k : ℕ) (b : Bench) (q : DequePass) → k < n + 1 → IsNewPass rack (get_or benches k b) (get_or (passes ++ p ∷ []) k q)
made_more rack benches passes p n wide each last k b q near = each_more (λ j r. (c : Bench) → IsNewPass rack (get_or benches j c) r) passes p n wide (λ j r below c. each j c r below) last k q near b

pub have_more : (rack : RackId) (now next : List Bench) (passes : List DequePass) (i : ℕ) (x y : Bench) → AreSame SameBench now next → HavePasses rack now i → AreNewPasses rack now passes
    → i < length next → x ≡ get_or next i x → SameButPasses x y → y.passes.items ≡ passes → HavePasses rack (set next i y) (i + 1)
have_more rack now next passes i x y asked have new within at step given = let last = set next i y in
    let still : AreSame SameButPasses now last = all_then SameButPasses but_then now next last (but_passes_of now next asked) (all_set SameButPasses but_self next i x y within at step) in
    each_set (λ j z. AreNewPasses rack last z.passes.items) next i y (i + 1) within
    (λ j z below ne. let same = asked.each j z z (omega (arith, asked.count)) in subst (λ l. AreNewPasses rack last l) (sym (ap (λ v. v.items) same.passes)) (passes_still rack now last (get_or now j z).passes.items still (have j z (omega arith))))
    (subst (λ l. AreNewPasses rack last l) (sym given) (passes_still rack now last passes still new))

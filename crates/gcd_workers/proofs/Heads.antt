-- What worker 0's pass has given out, a number on.
use Rattle.std.proofs.Common.{◌≡◌, ◌≢◌, ◌<◌, ◌≤◌, ◌+◌, ◌∙◌, ℕ, suc, List, [], ◌∷◌, Option, Some, None, refl, ap, sym, subst, arith, ⊎_elim, eq-eqb}
use Rattle.std.proofs.lemmas.Bool.{cases_lt}
use Rattle.gcd_history.specs.Choice.{worker_of}
use Rattle.gcd_history.specs.Held.{is_of}
use Rattle.gcd_history.specs.Ends.{HasEnded}
use Rattle.gcd_history.specs.Team.{of_worker}
use Rattle.gcd_row.specs.Plays.{KnowsFresh}
use Rattle.gcd_row.specs.Views.{standing_of, lending, knowing}
use Rattle.gcd_row.specs.declared.view.PassMarks.{PassMarks}
use Rattle.gcd_row.specs.declared.view.Standing.{Standing}
use Rattle.gcd_row.specs.declared.view.Standing.TheVariants.{Out, Back}
use Rattle.gcd_row.specs.declared.view.View.{View}
use Rattle.gcd_row.proofs.Parting.{standing_other, standing_same, back_out}
use Rattle.gcd_workers.specs.Teams.{AreOut, HasLent, IsHead, HasLed}
use Rattle.gcd_workers.proofs.Places.{none_at}

none_is_home : (o : Option Standing) → o ≡ None → o ≢ Some Out
none_is_home None is out = cc
none_is_home (Some x) is out = cc

back_is_home : (o : Option Standing) → o ≡ Some Back → o ≢ Some Out
back_is_home o back out = back_out (sym back ∙ out)

-- nothing is out at first
pub head_first : {S : Type 0} → (v : View S) → v.worker ≡ 0 → v.hands ≡ [] → IsHead 1 1 v
head_first v worker none = record {
  worker = worker;
  out = record {
    none = λ w low. ap (λ (h : List (ℕ × Standing)). standing_of h w) none;
    home = λ w low. none_is_home (standing_of v.hands w) (ap (λ (h : List (ℕ × Standing)). standing_of h w) none);
  };
}

-- what was lent to before, and what is lent to now
pub lent_on : {S : Type 0} → (v w x : View S) → HasLent v w → HasLent w x → HasLent v x
lent_on {S} v w x first later = later ∙ ap (λ (y : View S). record y { hands = x.hands }) first

-- a number is given out
pub head_out : {S : Type 0} → (n : ℕ) (v : View S) → 0 < n → IsHead 1 n v → IsHead 1 (n + 1) (lending v n)
head_out n v some head = record {
  worker = head.worker;
  out = record {
    none = λ w high.
        let differ : n ≢ w = λ same. omega (arith, high, same) in
        standing_other v.hands n Out w differ ∙ head.out.none w (omega (arith, high));
    home = λ w low out.
        let differ : n ≢ w = λ same. omega (arith, low, some, same) in
        head.out.home w low (sym (standing_other v.hands n Out w differ) ∙ out);
  };
}

-- a hand comes back
pub head_back : {S : Type 0} → (m n : ℕ) (v u : View S) → m < n → IsHead m n v → u.worker ≡ 0 → u.hands ≡ (m, Back) ∷ v.hands → IsHead (suc m) n u
head_back m n v u low head worker hands = record {
  worker = worker;
  out = record {
    none = λ w high.
        let differ : m ≢ w = λ same. omega (arith, high, low, same) in
        ap (λ (h : List (ℕ × Standing)). standing_of h w) hands ∙ standing_other v.hands m Back w differ ∙ head.out.none w high;
    home = λ w below.
        ⊎_elim
        (λ (under : w < m).
        let differ : m ≢ w = λ same. omega (arith, under, same) in
        λ out. head.out.home w under (sym (standing_other v.hands m Back w differ) ∙ sym (ap (λ (h : List (ℕ × Standing)). standing_of h w) hands) ∙ out))
        (λ (over : m ≤ w).
        let same : m ≡ w = omega (arith, over, below) in
        back_is_home (standing_of u.hands w) (ap (λ (h : List (ℕ × Standing)). standing_of h w) hands ∙ subst (λ (k : ℕ). standing_of ((m, Back) ∷ v.hands) k ≡ Some Back) same (standing_same v.hands m Back m refl)))
        (cases_lt w m);
  };
}

-- nothing but its number and what it has given out matters
pub head_same : {S : Type 0} → (m n : ℕ) (v u : View S) → u.worker ≡ v.worker → u.hands ≡ v.hands → IsHead m n v → IsHead m n u
head_same m n v u worker hands head = record {
  worker = worker ∙ head.worker;
  out = subst (AreOut m n) (sym hands) head.out;
}

pub head_knowing : {S : Type 0} → (m n : ℕ) (v u : View S) (k : PassMarks) → u ≡ knowing v u.seen k → IsHead m n v → IsHead m n u
head_knowing {S} m n v u k is head = head_same m n v u (ap (λ (x : View S). x.worker) is) (ap (λ (x : View S). x.hands) is) head

-- all hands are back, and no event is of a number that was never given out
pub has_led : {S : Type 0} → (n : ℕ) (v : View S) → 0 < n → IsHead n n v → KnowsFresh v → HasEnded v.terms.limits.most v.terms.plan v.seen → HasLed n v
unfolding of_worker
has_led n v some head fresh ended = record {
  worker = head.worker;
  home = λ w.
      ⊎_elim
      (λ (under : w < n). head.out.home w under)
      (λ (over : n ≤ w). none_is_home (standing_of v.hands w) (head.out.none w over))
      (cases_lt w n);
  ended = ended;
  by = λ i e at.
      ⊎_elim
      (λ (under : worker_of e < n). under)
      (λ (over : n ≤ worker_of e).
      let some_one : worker_of e ≢ 0 = λ none. omega (arith, over, some, none) in
      absurd (none_at (is_of (worker_of e)) v.seen i e (fresh head.worker (worker_of e) some_one (head.out.none (worker_of e) over)) at (eq-eqb (worker_of e) (worker_of e) refl)))
      (cases_lt (worker_of e) n);
}

-- what some workers have led is led by more
pub led_by_more : {S : Type 0} → (m n : ℕ) (v : View S) → m ≤ n → HasLed m v → HasLed n v
led_by_more m n v more led = record {
  worker = led.worker;
  home = led.home;
  ended = led.ended;
  by = λ i e at. let low = led.by i e at in omega (arith, more, low);
}

-- A view that is cut in two, and two views that are joined, keep what the passes know.
use Rattle.std.proofs.Common.{◌≡◌, ◌≢◌, ℕ, ◌<◌, ◌≤◌, ⊎_elim, Bool, true, false, cond, ltb, List, [], ◌∷◌, ◌++◌, length, set, sym, ap, ◌∙◌, subst, arith, eq-eqb, ne_eqb, lt-ltb, le-ltb}
use mathlib.Core.Logic.{dite}
use mathlib.Core.Option.{some}
use native.Mathlib.Decide.{ℕ_discrete, dec_le}
use lib.ListN.{get_elem?}
use Rattle.atomic_table.proofs.Lists.{at_set, set_here, set_else, at_longer}
use Rattle.std.specs.Prelude.{Some, None, Option}
use Rattle.std.proofs.lemmas.Bool.{both_ways}
use Rattle.gcd_facts.proofs.Elements.{in_range, at_end}
use Rattle.gcd_event.specs.declared.event.Event.{Event}
use Rattle.gcd_history.specs.Team.{of_worker, StartsWith}
use Rattle.gcd_row.specs.declared.view.View.{View}
use Rattle.gcd_row.specs.declared.view.Terms.{Terms}
use Rattle.gcd_row.specs.declared.view.Standing.{Standing}
use Rattle.gcd_row.specs.declared.view.Standing.TheVariants.{Out, Back}
use Rattle.gcd_row.specs.Rule.{Fits, Heads, Knows}
use Rattle.gcd_row.specs.Views.{standing_of, spent_view, lending, newcomer, longer, merging}
use Rattle.gcd_row.proofs.Fronts.{starts_refl, starts_nil, starts_length, starts_whole, starts_shorter, between}
use Rattle.gcd_row.proofs.Seen.{at_once}

pub standing_same : (l : List (ℕ × Standing)) (w : ℕ) (s : Standing) (n : ℕ) → w ≡ n → standing_of ((w, s) ∷ l) n ≡ Some s
standing_same l w s n e = ap (λ (b : Bool). cond b (Some s) (standing_of l n)) (eq-eqb w n e)

pub standing_other : (l : List (ℕ × Standing)) (w : ℕ) (s : Standing) (n : ℕ) → w ≢ n → standing_of ((w, s) ∷ l) n ≡ standing_of l n
standing_other l w s n e = ap (λ (b : Bool). cond b (Some s) (standing_of l n)) (ne_eqb w n e)

pub back_out : Some Back ≡ Some Out → ⊥
back_out is = cc

pub some_not_none : (o : Option Standing) (s : Standing) → o ≡ Some s → o ≡ None → ⊥
some_not_none o s it gone = cc

module _ {S : Type 0} (p : Terms S) (log : List Event) (views : List (View S)) (id : ℕ) (v : View S) (n : ℕ) (at : get_elem? views id ≡ some v) (k : Knows p log views)
    (live : v.spent ≡ false) (head_is : v.worker ≡ 0) (not_zero : n ≢ 0) (unused : standing_of v.hands n ≡ None) where
  abbrev cut : List (View S)
  cut = set views id (lending v n) ++ newcomer v n ∷ []

  heads : Heads log views v
  heads = k.head id v at live head_is

  -- an entry afterwards: the pass itself, the new one, or another that stays
  cases : (Q : Type 0) (j : ℕ) (u : View S) → get_elem? cut j ≡ some u → ((j ≡ id) → (lending v n ≡ u) → Q) → ((j ≡ length (set views id (lending v n))) → (newcomer v n ≡ u) → Q) → ((j ≢ id) → get_elem? views j ≡ some u → Q) → Q
  cases Q j u e here new else = ⊎_elim
      (λ (was : get_elem? (set views id (lending v n)) j ≡ some u). ⊎_elim (λ (t : (j ≡ id) × (lending v n ≡ u)). here t.0 t.1) (λ (t : (j ≢ id) × (get_elem? views j ≡ some u)). else t.0 t.1) (at_set views id j (lending v n) u was))
      (λ (t : (j ≡ length (set views id (lending v n))) × (newcomer v n ≡ u)). new t.0 t.1)
      (at_end (set views id (lending v n)) (newcomer v n) u j e)

  -- no other pass is of worker 0 or of the new number
  not_head : (j : ℕ) (u : View S) → j ≢ id → get_elem? views j ≡ some u → u.spent ≡ false → u.worker ≢ 0
  not_head j u ne e alive zero_is = ne (k.alone j id u v e at alive live (zero_is ∙ sym head_is))

  not_new : (j : ℕ) (u : View S) → j ≢ id → get_elem? views j ≡ some u → u.spent ≡ false → u.worker ≢ n
  not_new j u ne e alive same = let out = heads.out j u e alive (not_head j u ne e alive) in absurd (some_not_none (standing_of v.hands n) Out (sym (ap (λ (x : ℕ). standing_of v.hands x) same) ∙ out) unused)

  cut_heads : Heads log cut (lending v n)
  cut_heads = record {
    fresh = λ x nz none. dite (ℕ_discrete n x) (λ same. absurd (some_not_none (standing_of (lending v n).hands x) Out (standing_same v.hands n Out x same) none)) (λ ne. heads.fresh x nz (sym (standing_other v.hands n Out x ne) ∙ none));
    home = λ x not_out. dite (ℕ_discrete n x) (λ same. absurd (not_out (standing_same v.hands n Out x same))) (λ ne. heads.home x (λ one. not_out (standing_other v.hands n Out x ne ∙ one)));
    out = λ j u e alive nz. cases (standing_of (lending v n).hands u.worker ≡ Some Out) j u e
        (λ _ is. absurd (nz (ap (λ (x : View S). x.worker) (sym is) ∙ head_is)))
        (λ _ is. standing_same v.hands n Out u.worker (ap (λ (x : View S). x.worker) is))
        (λ ne was. standing_other v.hands n Out u.worker (λ same. not_new j u ne was alive (sym same)) ∙ heads.out j u was alive nz);
  }

  pub cuts : Knows p log cut
  cuts = let f = k.fits id v at live in record {
    seen = λ j u e. cases (StartsWith log u.seen) j u e (λ _ is. subst (λ (x : View S). StartsWith log x.seen) is (k.seen id v at)) (λ _ is. subst (λ (x : View S). StartsWith log x.seen) is (k.seen id v at)) (λ _ was. k.seen j u was);
    relayed = λ j u e. cases (StartsWith log u.relayed) j u e (λ _ is. subst (λ (x : View S). StartsWith log x.relayed) is (k.relayed id v at)) (λ _ is. subst (λ (x : View S). StartsWith log x.relayed) is (starts_nil log)) (λ _ was. k.relayed j u was);
    fits = λ j u e alive. cases (Fits p log u) j u e
        (λ _ is. subst (λ (x : View S). Fits p log x) is (record { terms = f.terms; own = f.own }))
        (λ _ is. subst (λ (x : View S). Fits p log x) is (record { terms = f.terms; own = heads.home n (λ one. some_not_none (standing_of v.hands n) Out one unused) }))
        (λ _ was. k.fits j u was alive);
    alone = λ i j a b at_a at_b live_a live_b same. cases (i ≡ j) i a at_a
        (λ here is_a. cases (i ≡ j) j b at_b (λ there _. here ∙ sym there)
        (λ _ is_b. absurd (not_zero (ap (λ (x : View S). x.worker) is_b ∙ sym same ∙ ap (λ (x : View S). x.worker) (sym is_a) ∙ head_is)))
        (λ ne was. absurd (not_head j b ne was live_b (sym same ∙ ap (λ (x : View S). x.worker) (sym is_a) ∙ head_is))))
        (λ here is_a. cases (i ≡ j) j b at_b
        (λ _ is_b. absurd (not_zero (ap (λ (x : View S). x.worker) is_a ∙ same ∙ ap (λ (x : View S). x.worker) (sym is_b) ∙ head_is)))
        (λ there _. here ∙ sym there)
        (λ ne was. absurd (not_new j b ne was live_b (sym same ∙ ap (λ (x : View S). x.worker) (sym is_a)))))
        (λ ne_a was_a. cases (i ≡ j) j b at_b
        (λ _ is_b. absurd (not_head i a ne_a was_a live_a (same ∙ ap (λ (x : View S). x.worker) (sym is_b) ∙ head_is)))
        (λ _ is_b. absurd (not_new i a ne_a was_a live_a (same ∙ ap (λ (x : View S). x.worker) (sym is_b))))
        (λ ne_b was_b. k.alone i j a b was_a was_b live_a live_b same));
    head = λ j u e alive zero_is. cases (Heads log cut u) j u e
        (λ _ is. subst (λ (x : View S). Heads log cut x) is cut_heads)
        (λ _ is. absurd (not_zero (ap (λ (x : View S). x.worker) is ∙ zero_is)))
        (λ ne was. absurd (not_head j u ne was alive zero_is));
    whole = let old = k.whole in let far = at_longer (set views id (lending v n)) (newcomer v n ∷ []) in dite (ℕ_discrete old.0 id)
        (λ is. let mine : old.1 ≡ v = at_once views id old.1 v (subst (λ (x : ℕ). get_elem? views x ≡ some old.1) is old.2) at in
        (id, lending v n, far id (lending v n) (set_here views id (lending v n) (in_range views id v at)), live, ap (λ (x : View S). x.seen) (sym mine) ∙ old.4))
        (λ ne. (old.0, old.1, far old.0 old.1 (set_else views id old.0 (lending v n) ne ∙ old.2), old.3, old.4));
  }

pub longer_left : (w a b : List Event) → StartsWith w a → StartsWith w b → StartsWith (longer a b) a
longer_left w a b s t = dite (dec_le (length b) (length a))
    (λ le. subst (λ (c : Bool). StartsWith (cond c b a) a) (sym (le-ltb (length a) (length b) le)) (starts_refl a))
    (λ not. let lt : length a < length b = omega arith in let le : length a ≤ length b = omega arith in subst (λ (c : Bool). StartsWith (cond c b a) a) (sym (lt-ltb (length a) (length b) lt)) (starts_shorter w a b s t le))

longer_right : (w a b : List Event) → StartsWith w a → StartsWith w b → StartsWith (longer a b) b
longer_right w a b s t = dite (dec_le (length b) (length a))
    (λ le. subst (λ (c : Bool). StartsWith (cond c b a) b) (sym (le-ltb (length a) (length b) le)) (starts_shorter w b a t s le))
    (λ not. let lt : length a < length b = omega arith in subst (λ (c : Bool). StartsWith (cond c b a) b) (sym (lt-ltb (length a) (length b) lt)) (starts_refl b))

longer_front : (w a b : List Event) → StartsWith w a → StartsWith w b → StartsWith w (longer a b)
longer_front w a b s t = go (ltb (length a) (length b))
  where
    go : (c : Bool) → StartsWith w (cond c b a)
    go true = t
    go false = s

module _ {S : Type 0} (p : Terms S) (log : List Event) (views : List (View S)) (id : ℕ) (v : View S) (at : get_elem? views id ≡ some v) (k : Knows p log views) (live : v.spent ≡ false) (head_is : v.worker ≡ 0)
    (far : ℕ) (u : View S) (apart : ¬ (far ≡ id)) (at_far : get_elem? views far ≡ some u) (alive : u.spent ≡ false) where
  abbrev both : View S
  both = merging v u

  abbrev joined : List (View S)
  joined = set (set views id both) far spent_view

  hd : Heads log views v
  hd = k.head id v at live head_is

  all_of : StartsWith log both.seen
  all_of = longer_front log v.seen u.seen (k.seen id v at) (k.seen far u at_far)

  left : StartsWith both.seen v.seen
  left = longer_left log v.seen u.seen (k.seen id v at) (k.seen far u at_far)

  right : StartsWith both.seen u.seen
  right = longer_right log v.seen u.seen (k.seen id v at) (k.seen far u at_far)

  -- an entry that is not spent: the pass itself, or another that stays
  which : (Q : Type 0) (j : ℕ) (x : View S) → get_elem? joined j ≡ some x → (spent_view ≡ x → Q) → ((j ≡ id) → (both ≡ x) → Q) → ((j ≢ id) → (j ≢ far) → get_elem? views j ≡ some x → Q) → Q
  which Q j x e gone here else = ⊎_elim
      (λ (t : (j ≡ far) × (spent_view ≡ x)). gone t.1)
      (λ (t : (j ≢ far) × (get_elem? (set views id both) j ≡ some x)).
      ⊎_elim (λ (r : (j ≡ id) × (both ≡ x)). here r.0 r.1) (λ (r : (j ≢ id) × (get_elem? views j ≡ some x)). else r.0 t.0 r.1) (at_set views id j both x t.1))
      (at_set (set views id both) far j spent_view x e)

  alive_which : (Q : Type 0) (j : ℕ) (x : View S) → get_elem? joined j ≡ some x → x.spent ≡ false → ((j ≡ id) → (both ≡ x) → Q) → ((j ≢ id) → (j ≢ far) → get_elem? views j ≡ some x → Q) → Q
  alive_which Q j x e fine here else = which Q j x e (λ is. absurd (both_ways x.spent fine (ap (λ (y : View S). y.spent) (sym is)))) here else

  other_head : (j : ℕ) (x : View S) → j ≢ id → get_elem? views j ≡ some x → x.spent ≡ false → x.worker ≢ 0
  other_head j x ne e fine zero_is = ne (k.alone j id x v e at fine live (zero_is ∙ sym head_is))

  joined_heads : Heads log joined both
  joined_heads = record {
    fresh = λ n nz none. dite (ℕ_discrete u.worker n) (λ same. absurd (some_not_none (standing_of both.hands n) Back (standing_same v.hands u.worker Back n same) none)) (λ ne. hd.fresh n nz (sym (standing_other v.hands u.worker Back n ne) ∙ none));
    home = λ n not_out. dite (ℕ_discrete u.worker n)
        (λ same. subst (λ (y : ℕ). of_worker y log ≡ of_worker y both.seen) same (between u.worker log both.seen u.seen all_of right (k.fits far u at_far alive).own))
        (λ ne. between n log both.seen v.seen all_of left (hd.home n (λ one. not_out (standing_other v.hands u.worker Back n ne ∙ one))));
    out = λ j x e fine nz. alive_which (standing_of both.hands x.worker ≡ Some Out) j x e fine
        (λ _ is. absurd (nz (ap (λ (y : View S). y.worker) (sym is) ∙ head_is)))
        (λ ne_id ne_far was. standing_other v.hands u.worker Back x.worker (λ same. ne_far (k.alone j far x u was at_far fine alive (sym same))) ∙ hd.out j x was fine nz);
  }

  -- it has seen no event more of its own
  pub both_own : of_worker v.worker both.seen ≡ of_worker v.worker v.seen
  both_own = let own = (k.fits id v at live).own in sym (between v.worker log both.seen v.seen all_of left own) ∙ own

  stands : get_elem? joined id ≡ some both
  stands = set_else (set views id both) far id spent_view (λ e. apart (sym e)) ∙ set_here views id both (in_range views id v at)

  pub joins_known : Knows p log joined
  joins_known = let f = k.fits id v at live in record {
    seen = λ j x e. which (StartsWith log x.seen) j x e (λ is. subst (λ (y : View S). StartsWith log y.seen) is (starts_nil log)) (λ _ is. subst (λ (y : View S). StartsWith log y.seen) is all_of) (λ _ _ was. k.seen j x was);
    relayed = λ j x e. which (StartsWith log x.relayed) j x e (λ is. subst (λ (y : View S). StartsWith log y.relayed) is (starts_nil log)) (λ _ is. subst (λ (y : View S). StartsWith log y.relayed) is (k.relayed id v at)) (λ _ _ was. k.relayed j x was);
    fits = λ j x e fine. alive_which (Fits p log x) j x e fine
        (λ _ is. subst (λ (y : View S). Fits p log y) is (record { terms = f.terms; own = between v.worker log both.seen v.seen all_of left f.own }))
        (λ _ _ was. k.fits j x was fine);
    alone = λ i j a b at_a at_b live_a live_b same. alive_which (i ≡ j) i a at_a live_a
        (λ here is_a. alive_which (i ≡ j) j b at_b live_b (λ there _. here ∙ sym there)
        (λ ne _ was. absurd (other_head j b ne was live_b (sym same ∙ ap (λ (y : View S). y.worker) (sym is_a) ∙ head_is))))
        (λ ne_a _ was_a. alive_which (i ≡ j) j b at_b live_b
        (λ _ is_b. absurd (other_head i a ne_a was_a live_a (same ∙ ap (λ (y : View S). y.worker) (sym is_b) ∙ head_is)))
        (λ _ _ was_b. k.alone i j a b was_a was_b live_a live_b same));
    head = λ j x e fine zero_is. alive_which (Heads log joined x) j x e fine
        (λ _ is. subst (λ (y : View S). Heads log joined y) is joined_heads)
        (λ ne _ was. absurd (other_head j x ne was fine zero_is));
    whole = let old = k.whole in
        let whole_if : (y : View S) → y.seen ≡ log → StartsWith both.seen y.seen → both.seen ≡ log = λ y all begins. starts_whole log both.seen all_of (omega (arith, ap length all, starts_length both.seen y.seen begins)) in
        dite (ℕ_discrete old.0 id)
        (λ is. let mine : old.1 ≡ v = at_once views id old.1 v (subst (λ (n : ℕ). get_elem? views n ≡ some old.1) is old.2) at in (id, both, stands, live, whole_if v (ap (λ (y : View S). y.seen) (sym mine) ∙ old.4) left))
        (λ ne_id. dite (ℕ_discrete old.0 far)
        (λ is. let mine : old.1 ≡ u = at_once views far old.1 u (subst (λ (n : ℕ). get_elem? views n ≡ some old.1) is old.2) at_far in (id, both, stands, live, whole_if u (ap (λ (y : View S). y.seen) (sym mine) ∙ old.4) right))
        (λ ne_far. (old.0, old.1, set_else (set views id both) far old.0 spent_view ne_far ∙ set_else views id old.0 both ne_id ∙ old.2, old.3, old.4)));
  }

-- a note is added, which only says what a pass has seen
pub noted : {S : Type 0} (p : Terms S) (log : List Event) (views : List (View S)) (x : View S) → Knows p log views → x.spent ≡ true → StartsWith log x.seen → StartsWith log x.relayed → Knows p log (views ++ x ∷ [])
noted {S} p log views x k gone s t =
    let cases : (Q : Type 0) (j : ℕ) (u : View S) → get_elem? (views ++ x ∷ []) j ≡ some u → (x ≡ u → Q) → (get_elem? views j ≡ some u → Q) → Q =
    λ Q j u e new old. ⊎_elim (λ (was : get_elem? views j ≡ some u). old was) (λ (r : (j ≡ length views) × (x ≡ u)). new r.1) (at_end views x u j e) in
    let dead : (Q : Type 0) (u : View S) → x ≡ u → u.spent ≡ false → Q = λ Q u is alive. absurd (both_ways u.spent alive (ap (λ (y : View S). y.spent) (sym is) ∙ gone)) in
    record {
      seen = λ j u e. cases (StartsWith log u.seen) j u e (λ is. subst (λ (y : View S). StartsWith log y.seen) is s) (λ was. k.seen j u was);
      relayed = λ j u e. cases (StartsWith log u.relayed) j u e (λ is. subst (λ (y : View S). StartsWith log y.relayed) is t) (λ was. k.relayed j u was);
      fits = λ j u e alive. cases (Fits p log u) j u e (λ is. dead (Fits p log u) u is alive) (λ was. k.fits j u was alive);
      alone = λ i j a b at_a at_b live_a live_b same. cases (i ≡ j) i a at_a (λ is. dead (i ≡ j) a is live_a) (λ was_a. cases (i ≡ j) j b at_b (λ is. dead (i ≡ j) b is live_b) (λ was_b. k.alone i j a b was_a was_b live_a live_b same));
      head = λ j u e alive zero_is. cases (Heads log (views ++ x ∷ []) u) j u e (λ is. dead (Heads log (views ++ x ∷ []) u) u is alive)
          (λ was. let h = k.head j u was alive zero_is in
          record { fresh = h.fresh; home = h.home; out = λ i y at_y fine nz. cases (standing_of u.hands y.worker ≡ Some Out) i y at_y (λ is. dead (standing_of u.hands y.worker ≡ Some Out) y is fine) (λ there. h.out i y there fine nz) });
      whole = let old = k.whole in (old.0, old.1, at_longer views (x ∷ []) old.0 old.1 old.2, old.3, old.4);
    }

-- a spent view is replaced
pub wiped : {S : Type 0} (p : Terms S) (log : List Event) (views : List (View S)) (far : ℕ) (u : View S) → Knows p log views → get_elem? views far ≡ some u → u.spent ≡ true → Knows p log (set views far spent_view)
wiped {S} p log views far u k at gone =
    let later : List (View S) = set views far spent_view in
    let cases : (Q : Type 0) (j : ℕ) (x : View S) → get_elem? later j ≡ some x → (spent_view ≡ x → Q) → (get_elem? views j ≡ some x → Q) → Q =
    λ Q j x e new old. ⊎_elim (λ (r : (j ≡ far) × (spent_view ≡ x)). new r.1) (λ (r : (j ≢ far) × (get_elem? views j ≡ some x)). old r.1) (at_set views far j spent_view x e) in
    let dead : (Q : Type 0) (x : View S) → spent_view ≡ x → x.spent ≡ false → Q = λ Q x is alive. absurd (both_ways x.spent alive (ap (λ (y : View S). y.spent) (sym is))) in
    record {
      seen = λ j x e. cases (StartsWith log x.seen) j x e (λ is. subst (λ (y : View S). StartsWith log y.seen) is (starts_nil log)) (λ was. k.seen j x was);
      relayed = λ j x e. cases (StartsWith log x.relayed) j x e (λ is. subst (λ (y : View S). StartsWith log y.relayed) is (starts_nil log)) (λ was. k.relayed j x was);
      fits = λ j x e alive. cases (Fits p log x) j x e (λ is. dead (Fits p log x) x is alive) (λ was. k.fits j x was alive);
      alone = λ i j a b at_a at_b live_a live_b same. cases (i ≡ j) i a at_a (λ is. dead (i ≡ j) a is live_a) (λ was_a. cases (i ≡ j) j b at_b (λ is. dead (i ≡ j) b is live_b) (λ was_b. k.alone i j a b was_a was_b live_a live_b same));
      head = λ j x e alive zero_is. cases (Heads log later x) j x e (λ is. dead (Heads log later x) x is alive)
          (λ was. let h = k.head j x was alive zero_is in
          record { fresh = h.fresh; home = h.home; out = λ i y at_y fine nz. cases (standing_of x.hands y.worker ≡ Some Out) i y at_y (λ is. dead (standing_of x.hands y.worker ≡ Some Out) y is fine) (λ there. h.out i y there fine nz) });
      whole = let old = k.whole in (old.0, old.1, set_else views far old.0 spent_view (λ is. both_ways u.spent (ap (λ (y : View S). y.spent) (at_once views far u old.1 at (subst (λ (n : ℕ). get_elem? views n ≡ some old.1) is old.2)) ∙ old.3) gone) ∙ old.2, old.3, old.4);
    }

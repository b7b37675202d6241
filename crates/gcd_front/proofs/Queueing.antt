-- Each step on the queue of jobs from outside keeps its rule.
use Rattle.std.proofs.Common.{◌≡◌, ◌≢◌, ℕ, zero, suc, ◌+◌, ◌<◌, ◌⊎◌, inl, inr, ⊎_elim, Bool, true, cond, eqb, eq-eqb, ne_eqb, List, [], ◌∷◌, ◌++◌, length, set, sym, refl, ap, ◌∙◌, subst, arith, append_assoc}
use Rattle.std.specs.Prelude.{Option, Some, None}
use Rattle.std.proofs.lemmas.List.{append-nil}
use Rattle.std.proofs.lemmas.Option.{none-some, same_Some}
use mathlib.Core.Logic.{dite}
use mathlib.Core.Option.{some}
use native.Mathlib.Decide.{ℕ_discrete}
use lib.ListN.{get_elem?}
use Rattle.crossbeam_queue.specs.Fifo.{Pushes, Pops, Forks, Merges, Learns as Learnt}
use Rattle.atomic_table.proofs.Lists.{at_set, set_again}
use Rattle.gcd_facts.proofs.Elements.{only_at, at_end, none_there}
use Rattle.gcd_facts.proofs.Truth.{not_both}
use Rattle.gcd_front.specs.declared.ledger.Parcel.{Parcel}
use Rattle.gcd_front.specs.declared.ledger.Account.{Account}
use Rattle.gcd_front.specs.declared.ledger.Ledger.{Ledger}
use Rattle.gcd_front.specs.Queue.{jobs_of, Numbered, ledger, opening, told, lending, newcomer, account_of, shutting, hearing, Knows, InTurn, Sends, Takes, Saw, TakenFirst, AllTaken, Learns}

some_is : {A : Type 0} {x y : A} → Some x ≡ Some y → x ≡ y
some_is {A} {x} {y} e = same_Some x y e

-- an element of two lists is of the one or of the other
pub in_either : {A : Type 0} (xs ys : List A) (i : ℕ) (a : A) → get_elem? (xs ++ ys) i ≡ some a → (get_elem? xs i ≡ some a) ⊎ ((j : ℕ) × (get_elem? ys j ≡ some a))
in_either [] ys i a e = inr (i, e)
in_either (x ∷ xs) ys zero a e = inl e
in_either (x ∷ xs) ys (suc i) a e = ⊎_elim (λ (t : get_elem? xs i ≡ some a). inl t) (λ (t : (j : ℕ) × (get_elem? ys j ≡ some a)). inr t) (in_either xs ys i a e)

module _ {S : Type 0} where
  -- ---- the jobs of one sender

  jobs_split : (s : ℕ) (ps qs : List (Parcel S)) → jobs_of s (ps ++ qs) ≡ jobs_of s ps ++ jobs_of s qs
  jobs_split s [] qs = refl
  jobs_split s (p ∷ ps) qs = dite (ℕ_discrete p.sender s)
      (λ same. ap (λ (b : Bool). cond b (p.job ∷ jobs_of s (ps ++ qs)) (jobs_of s (ps ++ qs))) (eq-eqb p.sender s same) ∙ ap (λ (l : List S). p.job ∷ l) (jobs_split s ps qs)
      ∙ ap (λ (b : Bool). cond b (p.job ∷ jobs_of s ps) (jobs_of s ps) ++ jobs_of s qs) (sym (eq-eqb p.sender s same)))
      (λ ne. ap (λ (b : Bool). cond b (p.job ∷ jobs_of s (ps ++ qs)) (jobs_of s (ps ++ qs))) (ne_eqb p.sender s ne) ∙ jobs_split s ps qs
      ∙ ap (λ (b : Bool). cond b (p.job ∷ jobs_of s ps) (jobs_of s ps) ++ jobs_of s qs) (sym (ne_eqb p.sender s ne)))

  jobs_mine : (s : ℕ) (ps : List (Parcel S)) (p : Parcel S) → p.sender ≡ s → jobs_of s (ps ++ p ∷ []) ≡ jobs_of s ps ++ p.job ∷ []
  jobs_mine s ps p same = jobs_split s ps (p ∷ []) ∙ ap (λ (b : Bool). jobs_of s ps ++ cond b (p.job ∷ []) []) (eq-eqb p.sender s same)

  jobs_other : (s : ℕ) (ps : List (Parcel S)) (p : Parcel S) → p.sender ≢ s → jobs_of s (ps ++ p ∷ []) ≡ jobs_of s ps
  jobs_other s ps p ne = jobs_split s ps (p ∷ []) ∙ ap (λ (b : Bool). jobs_of s ps ++ cond b (p.job ∷ []) []) (ne_eqb p.sender s ne) ∙ append-nil (jobs_of s ps)

  numbered_more : (before items : List (Parcel S)) (p : Parcel S) → Numbered before items → p.number ≡ length (jobs_of p.sender (before ++ items)) + 1 → Numbered before (items ++ p ∷ [])
  numbered_more before [] p n is = (is ∙ ap (λ (l : List (Parcel S)). length (jobs_of p.sender l) + 1) (append-nil before), tt)
  numbered_more before (q ∷ qs) p n is = (n.0, numbered_more (before ++ q ∷ []) qs p n.1 (is ∙ ap (λ (l : List (Parcel S)). length (jobs_of p.sender l) + 1) (sym (append_assoc before (q ∷ []) qs))))

  -- ---- what passes know

  known_as : {taken items : List (Parcel S)} {taker made : ℕ} {mouth : ℕ → Option ℕ} {i j : ℕ} {v w : Ledger S} → i ≡ j → v ≡ w → Knows taken items taker made mouth i v → Knows taken items taker made mouth j w
  known_as {taken} {items} {taker} {made} {mouth} a b k = subst (λ (y : ℕ × Ledger S). Knows taken items taker made mouth y.0 y.1) (λ i. (a i, b i)) k

  pub begins : InTurn [] (opening {S = S} ∷ [])
  begins = record {
    taken = [];
    taker = 0;
    made = 0;
    mouth = λ s. None;
    numbers = tt;
    unmade = λ s m. refl;
    senders = λ i p e. none_there i p e;
    knows = λ j u e. let t = only_at opening u j e in known_as (sym t.0) t.1 (record { takes = λ _. (refl, refl, refl); sends = λ s h. absurd (none-some s h); shut = λ i a h. none_there i a h });
  }

  -- a sender's next job
  pub sends : (n port : ℕ) (v : Ledger S) (p : Parcel S) → v.sends ≡ Some p.sender → p.number ≡ length v.sent + 1 → Pushes InTurn n port v p (Sends v p)
  sends n port v p mine next items views room r at = let k = r.knows port v at in let my = k.sends p.sender mine in let all = r.taken ++ items in
      let w = ledger v.takes v.taken v.made v.sends (v.sent ++ p.job ∷ []) v.shut in
      let grown : (s : ℕ) → jobs_of s (r.taken ++ (items ++ p ∷ [])) ≡ jobs_of s (all ++ p ∷ []) = λ s. ap (jobs_of s) (sym (append_assoc r.taken items (p ∷ []))) in
      let else : (s : ℕ) → p.sender ≢ s → jobs_of s (r.taken ++ (items ++ p ∷ [])) ≡ jobs_of s all = λ s ne. grown s ∙ jobs_other s all p ne in
      let known : (j : ℕ) (u : Ledger S) → Knows r.taken items r.taker r.made r.mouth j u → ((s : ℕ) → u.sends ≡ Some s → p.sender ≢ s) → Knows r.taken (items ++ p ∷ []) r.taker r.made r.mouth j u
      = λ j u f apart. record { takes = f.takes; sends = λ s h. let x = f.sends s h in (x.0, x.1, x.2 ∙ sym (else s (apart s h))); shut = λ i a h. let x = f.shut i a h in (x.0, x.1, x.2 ∙ sym (else a.sender (λ e. none-some port (sym x.0 ∙ ap r.mouth (sym e) ∙ my.0)))) } in (
        w,
        record {
          taken = r.taken;
          taker = r.taker;
          made = r.made;
          mouth = r.mouth;
          numbers = numbered_more r.taken items p r.numbers (next ∙ ap (λ (l : List S). length l + 1) my.2);
          unmade = λ s m. else s (λ e. let h = my.1 in absurd (omega (arith, e))) ∙ r.unmade s m;
          senders = λ i q e. ⊎_elim (λ (t : get_elem? items i ≡ some q). r.senders i q t) (λ (t : (i ≡ length items) × (p ≡ q)). subst (λ (x : Parcel S). x.sender < r.made) t.1 my.1) (at_end items p q i e);
          knows = λ j u e. ⊎_elim
              (λ (t : (j ≡ port) × (w ≡ u)). known_as (sym t.0) t.1 (record {
                takes = k.takes;
                sends = λ s h. let x = k.sends s h in let same : p.sender ≡ s = some_is (sym mine ∙ h) in (x.0, x.1, ap (λ (l : List S). l ++ p.job ∷ []) x.2 ∙ sym (jobs_mine s all p same) ∙ sym (grown s));
                shut = λ i a h. let x = k.shut i a h in (x.0, x.1, x.2 ∙ sym (else a.sender (λ e. none-some port (sym x.0 ∙ ap r.mouth (sym e) ∙ my.0))));
              }))
              (λ (t : (j ≢ port) × (get_elem? views j ≡ some u)). let f = r.knows j u t.1 in known j u f (λ s h same. t.0 (some_is (sym (f.sends s h).0 ∙ ap r.mouth (sym same) ∙ my.0))))
              (at_set views port j w u e);
        },
        refl,
      )

  pub saw : (port : ℕ) (v : Ledger S) → Learnt InTurn port v (Saw v)
  saw port v items views r at = record { views = views; pass = port; rule = r; here = at }

  -- the first parcel is taken
  pub takes : (port : ℕ) (v : Ledger S) → v.takes ≡ true → Pops InTurn port v (Takes v)
  takes port v may p items views r at = let k = r.knows port v at in let my = k.takes may in let w = ledger v.takes (v.taken ++ p ∷ []) v.made v.sends v.sent v.shut in
      let same : (s : ℕ) → jobs_of s ((r.taken ++ p ∷ []) ++ items) ≡ jobs_of s (r.taken ++ (p ∷ items)) = λ s. ap (jobs_of s) (append_assoc r.taken (p ∷ []) items) in (
        w,
        record {
          taken = r.taken ++ p ∷ [];
          taker = r.taker;
          made = r.made;
          mouth = r.mouth;
          numbers = r.numbers.1;
          unmade = λ s m. same s ∙ r.unmade s m;
          senders = λ i q e. r.senders (suc i) q e;
          knows = λ j u e. ⊎_elim
              (λ (t : (j ≡ port) × (w ≡ u)). known_as (sym t.0) t.1 (record {
                takes = λ _. (my.0, ap (λ (l : List (Parcel S)). l ++ p ∷ []) my.1, my.2);
                sends = λ s h. let x = k.sends s h in (x.0, x.1, x.2 ∙ sym (same s));
                shut = λ i a h. let x = k.shut i a h in (x.0, x.1, x.2 ∙ sym (same a.sender));
              }))
              (λ (t : (j ≢ port) × (get_elem? views j ≡ some u)). let f = r.knows j u t.1 in record {
                takes = λ h. absurd (t.0 ((f.takes h).0 ∙ sym my.0));
                sends = λ s h. let x = f.sends s h in (x.0, x.1, x.2 ∙ sym (same s));
                shut = λ i a h. let x = f.shut i a h in (x.0, x.1, x.2 ∙ sym (same a.sender));
              })
              (at_set views port j w u e);
        },
        record { view = refl; number = r.numbers.0 ∙ ap (λ (l : List (Parcel S)). length (jobs_of p.sender l) + 1) (sym my.1); sender = subst (λ (m : ℕ). p.sender < m) (sym my.2) (r.senders 0 p refl) },
      )

  pub learns : (port : ℕ) (v : Ledger S) → v.takes ≡ true → Learnt InTurn port v (Learns v)
  learns port v may items views r at = let k = r.knows port v at in (
    record { views = views; pass = port; rule = r; here = at },
    λ i a h. (k.shut i a h).2 ∙ ap (λ (l : List (Parcel S)). jobs_of a.sender (l ++ items)) (sym (k.takes may).1),
  )

  -- of an empty queue all was taken
  pub all_taken : (v : Ledger S) (items : List (Parcel S)) → length items ≡ 0 → Learns v items → AllTaken v.taken v.shut
  all_taken v [] none l i a h = l.1 i a h ∙ ap (jobs_of a.sender) (append-nil v.taken)
  all_taken v (p ∷ items) none l i a h = absurd (omega arith)

  pub taken_first : (v : Ledger S) (items : List (Parcel S)) → Learns v items → TakenFirst v.taken v.shut
  taken_first v items l i a h = (jobs_of a.sender items, l.1 i a h ∙ jobs_split a.sender v.taken items)

  -- ---- passes

  -- the next mouth
  pub makes : (port : ℕ) (v : Ledger S) → v.takes ≡ true → Forks InTurn port v (lending v) (newcomer v)
  makes port v may items views r at = let k = r.knows port v at in let my = k.takes may in let left = lending v in let right = newcomer v in let cut : List (Ledger S) = set views port left in
      let mouth : ℕ → Option ℕ = λ s. cond (eqb s r.made) (Some (length cut)) (r.mouth s) in
      let as_was : (s : ℕ) → s < r.made → mouth s ≡ r.mouth s = λ s h. ap (λ (b : Bool). cond b (Some (length cut)) (r.mouth s)) (ne_eqb s r.made (λ e. absurd (omega (arith, h, e)))) in
      let sent : (j : ℕ) (u : Ledger S) → Knows r.taken items r.taker r.made r.mouth j u → (s : ℕ) → u.sends ≡ Some s → (mouth s ≡ Some j) × (s < r.made + 1) × (u.sent ≡ jobs_of s (r.taken ++ items))
      = λ j u f s h. let x = f.sends s h in let l = x.1 in (as_was s l ∙ x.0, omega (arith, l), x.2) in
      let told_of : (j : ℕ) (u : Ledger S) → Knows r.taken items r.taker r.made r.mouth j u → (i : ℕ) (a : Account S) → get_elem? u.shut i ≡ some a → (mouth a.sender ≡ None) × (a.sender < r.made + 1) × (a.sent ≡ jobs_of a.sender (r.taken ++ items))
      = λ j u f i a h. let x = f.shut i a h in let l = x.1 in (as_was a.sender l ∙ x.0, omega (arith, l), x.2) in record {
        taken = r.taken;
        taker = r.taker;
        made = r.made + 1;
        mouth = mouth;
        numbers = r.numbers;
        unmade = λ s m. r.unmade s (omega (arith, m));
        senders = λ i p e. let h = r.senders i p e in omega (arith, h);
        knows = λ j u e. ⊎_elim
            (λ (was : get_elem? cut j ≡ some u). ⊎_elim
            (λ (t : (j ≡ port) × (left ≡ u)). known_as (sym t.0) t.1 (record { takes = λ _. (my.0, my.1, ap (λ (n : ℕ). n + 1) my.2); sends = sent port v k; shut = told_of port v k }))
            (λ (t : (j ≢ port) × (get_elem? views j ≡ some u)). let f = r.knows j u t.1 in record { takes = λ h. absurd (t.0 ((f.takes h).0 ∙ sym my.0)); sends = sent j u f; shut = told_of j u f })
            (at_set views port j left u was))
            (λ (t : (j ≡ length cut) × (right ≡ u)). known_as (sym t.0) t.1 (record {
              takes = λ h. not_both h refl;
              sends = λ s h. let same : s ≡ r.made = sym (some_is h) ∙ my.2 in (ap (λ (b : Bool). cond b (Some (length cut)) (r.mouth s)) (eq-eqb s r.made same), omega (arith, same), sym (r.unmade s (omega (arith, same))));
              shut = λ i a h. none_there i a h;
            }))
            (at_end cut right u j e);
      }

  -- a mouth is shut
  pub shuts : (port : ℕ) (v : Ledger S) (s : ℕ) → v.sends ≡ Some s → Forks InTurn port v (shutting v) (shutting v)
  shuts port v s mine items views r at = let k = r.knows port v at in let my = k.sends s mine in let half = shutting v in let cut : List (Ledger S) = set views port half in
      let mouth : ℕ → Option ℕ = λ t. cond (eqb t s) None (r.mouth t) in
      let closed : (t : ℕ) → r.mouth t ≡ None → mouth t ≡ None = λ t h. dite (ℕ_discrete t s)
      (λ same. ap (λ (b : Bool). cond b None (r.mouth t)) (eq-eqb t s same))
      (λ ne. ap (λ (b : Bool). cond b None (r.mouth t)) (ne_eqb t s ne) ∙ h) in
      let whole : told (account_of (Some s) v.sent) ≡ half = ap (λ (o : Option ℕ). told (account_of o v.sent)) (sym mine) in
      let both : (j : ℕ) → Knows r.taken items r.taker r.made mouth j (told (account_of (Some s) v.sent)) = λ j. record {
        takes = λ h. not_both h refl;
        sends = λ t h. absurd (none-some t h);
        shut = λ i a h. let o = only_at (record { sender = s; sent = v.sent }) a i h in
            subst (λ (b : Account S). (mouth b.sender ≡ None) × (b.sender < r.made) × (b.sent ≡ jobs_of b.sender (r.taken ++ items))) o.1 (ap (λ (b : Bool). cond b None (r.mouth s)) (eq-eqb s s refl), my.1, my.2);
      } in record {
        taken = r.taken;
        taker = r.taker;
        made = r.made;
        mouth = mouth;
        numbers = r.numbers;
        unmade = r.unmade;
        senders = r.senders;
        knows = λ j u e. ⊎_elim
            (λ (was : get_elem? cut j ≡ some u). ⊎_elim
            (λ (t : (j ≡ port) × (half ≡ u)). known_as refl (whole ∙ t.1) (both j))
            (λ (t : (j ≢ port) × (get_elem? views j ≡ some u)). let f = r.knows j u t.1 in record {
              takes = f.takes;
              sends = λ q h. let x = f.sends q h in let ne : q ≢ s = λ same. t.0 (some_is (sym x.0 ∙ ap r.mouth same ∙ my.0)) in (ap (λ (b : Bool). cond b None (r.mouth q)) (ne_eqb q s ne) ∙ x.0, x.1, x.2);
              shut = λ i a h. let x = f.shut i a h in (closed a.sender x.0, x.1, x.2);
            })
            (at_set views port j half u was))
            (λ (t : (j ≡ length cut) × (half ≡ u)). known_as refl (whole ∙ t.1) (both j))
            (at_end cut half u j e);
      }

  -- what a pass was told of is told on
  pub tells : (port : ℕ) (v : Ledger S) → Forks InTurn port v v (told v.shut)
  tells port v items views r at = let k = r.knows port v at in let right = told v.shut in let cut : List (Ledger S) = set views port v in record {
    taken = r.taken;
    taker = r.taker;
    made = r.made;
    mouth = r.mouth;
    numbers = r.numbers;
    unmade = r.unmade;
    senders = r.senders;
    knows = λ j u e. ⊎_elim
        (λ (was : get_elem? cut j ≡ some u). r.knows j u (subst (λ (l : List (Ledger S)). get_elem? l j ≡ some u) (set_again views port v at) was))
        (λ (t : (j ≡ length cut) × (right ≡ u)). known_as refl t.1 (record { takes = λ h. not_both h refl; sends = λ s h. absurd (none-some s h); shut = k.shut }))
        (at_end cut right u j e);
  }

  -- a pass is told
  pub hears : (port : ℕ) (v : Ledger S) (other : ℕ) (w : Ledger S) → Merges InTurn port v other w (hearing v w) (told [])
  hears port v other w items views r at two at' = let k = r.knows port v at in let both = hearing v w in let cut : List (Ledger S) = set views port both in let none : Ledger S = told [] in
      let was : get_elem? views other ≡ some w = ⊎_elim (λ x. absurd (two x.0)) (λ x. x.1) (at_set views port other both w at') in let theirs = r.knows other w was in record {
        taken = r.taken;
        taker = r.taker;
        made = r.made;
        mouth = r.mouth;
        numbers = r.numbers;
        unmade = r.unmade;
        senders = r.senders;
        knows = λ j u e. ⊎_elim
            (λ (t : (j ≡ other) × (none ≡ u)). known_as refl t.1 (record { takes = λ h. not_both h refl; sends = λ s h. absurd (none-some s h); shut = λ i a h. none_there i a h }))
            (λ (t : (j ≢ other) × (get_elem? cut j ≡ some u)). ⊎_elim
            (λ (q : (j ≡ port) × (both ≡ u)). known_as (sym q.0) q.1 (record { takes = k.takes; sends = k.sends; shut = λ i a h. ⊎_elim (λ (x : get_elem? v.shut i ≡ some a). k.shut i a x) (λ (x : (m : ℕ) × (get_elem? w.shut m ≡ some a)). theirs.shut x.0 a x.1) (in_either v.shut w.shut i a h) }))
            (λ (q : (j ≢ port) × (get_elem? views j ≡ some u)). r.knows j u q.1)
            (at_set views port j both u t.1))
            (at_set cut other j none u e);
      }

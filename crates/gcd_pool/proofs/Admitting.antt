-- What worker 0 took of outside callers, a step on.
use Rattle.std.proofs.Common.{◌||◌, not, ◌≡◌, ◌<◌, ◌==◌, ◌∙◌, ◌++◌, ◌⊎◌, ⊎_elim, inl, inr, ℕ, Bool, true, false, List, [], ◌∷◌, Some, None, length, ap, sym, subst, refl, arith, append-nil, append_assoc, length-append, if◌then◌else◌, eq-eqb, ne_eqb}
use Rattle.std.specs.List.{AllZip, cons_option, filter_map, list_all, list_any}
use Rattle.std.proofs.lemmas.Bool.{and_from, and_parts, both_ways, not-true, or_parts}
use Rattle.std.proofs.lemmas.List.Elements.{filter_map-append}
use Rattle.std.proofs.lemmas.List.Folds.{list_any-append}
use Rattle.std.proofs.Math.Bool.{or-false}
use Rattle.gcd_plan.specs.PlanView.{PlanView}
use Rattle.gcd_plan.specs.Made.{is_of_intake}
use Rattle.gcd_plan.specs.declared.numbers.Blk.{Blk}
use Rattle.gcd_event.specs.declared.event.Event.{Event}
use Rattle.gcd_event.specs.declared.event.Event.TheVariants.{Accept, Shut}
use Rattle.gcd_history.specs.Choice.{is_work}
use Rattle.gcd_history.specs.History.{IsLawful}
use Rattle.gcd_history.proofs.Permitted.Lawful.{lawful_next}
use Rattle.gcd_history.proofs.Lists.{any_left}
use Rattle.gcd_history.proofs.MadeBlocks.AcceptsStay.{uncalled_accepts_none}
use Rattle.gcd_turn.proofs.HistoryMore.{unhalted_before}
use Rattle.gcd_history.specs.Facts.{is_of_callers}
use Rattle.gcd_history.specs.Intake.{accepted, accepts, accepted_of, shuts, AllAccepted, blocks_of_sender}
use Rattle.gcd_front.specs.Queue.{jobs_of, parcel}
use Rattle.gcd_front.specs.Fronts.{KnowsAll, TookAll}
use Rattle.gcd_front.specs.Views.{FrontView, IntakeView}
use Rattle.gcd_front.specs.declared.ledger.Parcel.{Parcel}
use Rattle.gcd_row.specs.Jobs.{Jobs, May, job_of, jobs_of as row_jobs, placed_at, placed_jobs}
use Rattle.gcd_row.proofs.Jobs.{intake_job, placed_else, placed_here, same_job, same_may}
use Rattle.gcd_row.specs.declared.view.Terms.{Terms}
use Rattle.gcd_row.specs.declared.view.Handed.{Handed}
use Rattle.gcd_row.specs.declared.view.View.{View}
use Rattle.gcd_loop.specs.Recorded.{Grows, IsPlaced, Says}
use Rattle.gcd_machine.specs.declared.put.Put.{Put}
use Rattle.gcd_machine.specs.declared.put.Put.TheVariants.{Placed, Barred, Held, Full}
use Rattle.gcd_row.proofs.AfterPut.{handed_by}
use Rattle.gcd_pool.specs.Admitted.{AddsNoCall, Admitted, AreTakenFor, BeginWithTaken, HandedOn, IsTakenFor, IsUnderWay}

-- a block that is accepted stays so
accepted_on : (h k : List Event) (b : ℕ) → AddsNoCall h k → list_any (accepts b) h ≡ true → list_any (accepts b) k ≡ true
accepted_on h k b a is = ap (list_any (accepts b)) a.split ∙ any_left (accepts b) h a.rest is

-- ## Events that are not of outside callers

uncalled_of : (s : ℕ) (e : Event) → is_of_callers e ≡ false → accepted_of s e ≡ None
uncalled_of s (Accept b t) uncalled = cc
uncalled_of s e uncalled = refl

uncalled_shuts : (e : Event) → is_of_callers e ≡ false → shuts e ≡ false
uncalled_shuts Shut uncalled = cc
uncalled_shuts e uncalled = refl

none_of : (s : ℕ) (rest : List Event) → list_any is_of_callers rest ≡ false → filter_map (accepted_of s) rest ≡ []
none_of s [] none = refl
none_of s (e ∷ rest) none =
    let parts = or_parts (is_of_callers e) (list_any is_of_callers rest) none in
    rw (uncalled_of s e parts.0) (none_of s rest parts.1)

none_shut : (rest : List Event) → list_any is_of_callers rest ≡ false → list_any shuts rest ≡ false
none_shut [] none = refl
none_shut (e ∷ rest) none =
    let parts = or_parts (is_of_callers e) (list_any is_of_callers rest) none in
    rw (uncalled_shuts e parts.0) (none_shut rest parts.1)

-- the blocks that are accepted of a sender are as they were
pub blocks_same : (h k : List Event) (s : ℕ) → AddsNoCall h k → blocks_of_sender k s ≡ blocks_of_sender h s
blocks_same h k s a =
    ap (filter_map (accepted_of s)) a.split ∙ filter_map-append (accepted_of s) h a.rest
    ∙ ap (λ (l : List Blk). blocks_of_sender h s ++ l) (none_of s a.rest a.none) ∙ append-nil (blocks_of_sender h s)

-- so is whether a Shut stands
pub shut_same : (h k : List Event) → AddsNoCall h k → list_any shuts k ≡ list_any shuts h
shut_same h k a =
    ap (list_any shuts) a.split ∙ list_any-append shuts h a.rest
    ∙ ap (λ (b : Bool). list_any shuts h || b) (none_shut a.rest a.none) ∙ or-false (list_any shuts h)

-- a history that is under way was so before
pub under_way_before : (most : ℕ) (plan : PlanView) (h k rest : List Event) → k ≡ h ++ rest → IsLawful plan k → IsUnderWay most k → IsUnderWay most h
under_way_before most plan h k [] split lawful on = subst (IsUnderWay most) (split ∙ append-nil h) on
under_way_before most plan h k (e ∷ rest) split lawful on = record {
  unhalted = unhalted_before plan h e (lawful_next plan h e rest (subst (IsLawful plan) split lawful));
  room = let room = on.room in omega (arith, ap length split ∙ length-append h (e ∷ rest), room);
}

-- ## Lists, place by place

zip_last : {A B : Type 0} (P : A → B → Type 0) (xs : List A) (ys : List B) (x : A) (y : B) → AllZip P xs ys → P x y → AllZip P (xs ++ x ∷ []) (ys ++ y ∷ [])
zip_last P [] [] x y z last = (last, tt)
zip_last P [] (w ∷ ys) x y z last = absurd z
zip_last P (v ∷ xs) [] x y z last = absurd z
zip_last P (v ∷ xs) (w ∷ ys) x y z last = (z.0, zip_last P xs ys x y z.1 last)

module _ {S X : Type 0} (gives : S → ℕ → Type 0) (sent : X → ℕ → Type 0) (f : FrontView) where
  jobs_same : (v w : View S) → w.terms ≡ v.terms → w.handed.placed ≡ v.handed.placed → placed_jobs w ≡ placed_jobs v
  jobs_same v w terms placed =
      ap (λ (t : Terms S). row_jobs t (placed_at w.handed.placed)) terms ∙ ap (λ (l : List (ℕ × S)). row_jobs v.terms (placed_at l)) placed

  -- what is taken of a sender is taken for the same blocks
  taken_same : (v w : View S) (jobs : List X) (s : ℕ) → w.terms ≡ v.terms → w.handed.placed ≡ v.handed.placed → blocks_of_sender w.seen s ≡ blocks_of_sender v.seen s
      → AreTakenFor gives sent v jobs s → AreTakenFor gives sent w jobs s
  taken_same v w jobs s terms placed blocks taken =
      subst (λ (l : List Blk). AllZip (IsTakenFor gives sent w) jobs l) (sym blocks)
      (subst (λ (t : Jobs S). AllZip (λ x b. (n : ℕ) → May gives t b.0 n → sent x n) jobs (blocks_of_sender v.seen s)) (sym (jobs_same v w terms placed)) taken)

  begin_same : (v w : View S) (jobs : List X) (s : ℕ) → w.terms ≡ v.terms → w.handed.placed ≡ v.handed.placed → blocks_of_sender w.seen s ≡ blocks_of_sender v.seen s
      → BeginWithTaken gives sent v jobs s → BeginWithTaken gives sent w jobs s
  begin_same v w jobs s terms placed blocks b = record {
    front = b.front;
    rest = b.rest;
    split = b.split;
    taken = taken_same v w b.front s terms placed blocks b.taken;
  }

  all_begin : (v : View S) (jobs : List X) (s : ℕ) → AreTakenFor gives sent v jobs s → BeginWithTaken gives sent v jobs s
  all_begin v jobs s taken = record { front = jobs; rest = []; split = sym (append-nil jobs); taken = taken }

  -- before the first event of outside callers, where nothing was taken
  pub none_admitted : (v : View S) (i : IntakeView X) → list_any is_of_callers v.seen ≡ false → i.taken ≡ [] → Admitted gives sent f v i
  none_admitted v i uncalled untaken =
      let added : AddsNoCall [] v.seen = record { rest = v.seen; split = refl; none = uncalled } in
      let none : (s : ℕ) → blocks_of_sender v.seen s ≡ [] = λ s. blocks_same [] v.seen s added in
      let unshut : list_any shuts v.seen ≡ false = shut_same [] v.seen added in
      let all : (s : ℕ) → AreTakenFor gives sent v (jobs_of s i.taken) s = λ s.
      subst (λ (l : List X). AllZip (IsTakenFor gives sent v) l (blocks_of_sender v.seen s)) (sym (ap (jobs_of s) untaken))
      (subst (λ (l : List Blk). AllZip (IsTakenFor gives sent v) [] l) (sym (none s)) tt) in
      record {
        first = λ s. all_begin v (jobs_of s i.taken) s (all s);
        all = λ under s. all s;
        senders = λ s high. none s;
        shut = λ stands s. all s;
        why_shut = λ stands. absurd (both_ways (list_any shuts v.seen) unshut stands);
      }

  -- a step by which nothing of outside callers came
  pub admitted_on : (v w : View S) (i : IntakeView X) → w.terms ≡ v.terms → w.handed.placed ≡ v.handed.placed → AddsNoCall v.seen w.seen → IsLawful w.terms.plan w.seen
      → Admitted gives sent f v i → Admitted gives sent f w i
  admitted_on v w i terms placed a lawful old =
      let shut : list_any shuts w.seen ≡ true → list_any shuts v.seen ≡ true = λ is. sym (shut_same v.seen w.seen a) ∙ is in
      record {
        first = λ s. begin_same v w (jobs_of s i.taken) s terms placed (blocks_same v.seen w.seen s a) (old.first s);
        all = λ on s.
            taken_same v w (jobs_of s i.taken) s terms placed (blocks_same v.seen w.seen s a)
            (old.all (subst (λ (t : Terms S). IsUnderWay t.limits.most v.seen) terms (under_way_before w.terms.limits.most w.terms.plan v.seen w.seen a.rest a.split lawful on)) s);
        senders = λ s high. blocks_same v.seen w.seen s a ∙ old.senders s high;
        shut = λ is s. taken_same v w (jobs_of s i.taken) s terms placed (blocks_same v.seen w.seen s a) (old.shut (shut is) s);
        why_shut = λ is. ⊎_elim
            (λ (all : AllAccepted v.terms.plan v.seen). inl (λ b of. accepted_on v.seen w.seen b a (all b (subst (λ (t : Terms S). is_of_intake t.plan b ≡ true) terms of))))
            (λ (both : KnowsAll f i × TookAll i). inr both)
            (old.why_shut (shut is));
      }

  -- the intake learnt of shut mouths, while no Shut stands
  pub admitted_learns : (v : View S) (i j : IntakeView X) → list_any shuts v.seen ≡ false → j.taken ≡ i.taken → Admitted gives sent f v i → Admitted gives sent f v j
  admitted_learns v i j still_open taken old = record {
    first = λ s. subst (λ (t : List (Parcel X)). BeginWithTaken gives sent v (jobs_of s t) s) (sym taken) (old.first s);
    all = λ on s. subst (λ (t : List (Parcel X)). AreTakenFor gives sent v (jobs_of s t) s) (sym taken) (old.all on s);
    senders = old.senders;
    shut = λ is. absurd (both_ways (list_any shuts v.seen) still_open is);
    why_shut = λ is. absurd (both_ways (list_any shuts v.seen) still_open is);
  }

  -- ## Steps of the intake

  shut_blocks : (v w : View S) (h : List Event) (s : ℕ) → AddsNoCall v.seen h → w.seen ≡ h ++ Shut ∷ [] → blocks_of_sender w.seen s ≡ blocks_of_sender v.seen s
  shut_blocks v w h s a is =
      ap (filter_map (accepted_of s)) is ∙ filter_map-append (accepted_of s) h (Shut ∷ []) ∙ append-nil (blocks_of_sender h s) ∙ blocks_same v.seen h s a

  -- a Shut was placed, for this reason
  pub admitted_shut : (v w : View S) (i : IntakeView X) (h : List Event) → w.terms ≡ v.terms → w.handed.placed ≡ v.handed.placed → AddsNoCall v.seen h → w.seen ≡ h ++ Shut ∷ []
      → IsUnderWay v.terms.limits.most v.seen → AllAccepted v.terms.plan v.seen ⊎ (KnowsAll f i × TookAll i) → Admitted gives sent f v i → Admitted gives sent f w i
  admitted_shut v w i h terms placed a is on reason old =
      let all : (s : ℕ) → AreTakenFor gives sent w (jobs_of s i.taken) s = λ s.
      taken_same v w (jobs_of s i.taken) s terms placed (shut_blocks v w h s a is) (old.all on s) in
      record {
        first = λ s. all_begin w (jobs_of s i.taken) s (all s);
        all = λ under s. all s;
        senders = λ s high. shut_blocks v w h s a is ∙ old.senders s high;
        shut = λ stands s. all s;
        why_shut = λ stands. ⊎_elim
            (λ (each : AllAccepted v.terms.plan v.seen). inl (λ b of.
            ap (list_any (accepts b)) is
            ∙ any_left (accepts b) h (Shut ∷ []) (accepted_on v.seen h b a (each b (subst (λ (t : Terms S). is_of_intake t.plan b ≡ true) terms of)))))
            (λ (both : KnowsAll f i × TookAll i). inr both)
            reason;
      }

  -- the jobs of a sender, with one parcel more
  own_job : ℕ → Parcel X → List X
  own_job s p = if p.sender == s then p.job ∷ [] else []

  jobs_more : (s : ℕ) (taken : List (Parcel X)) (p : Parcel X) → jobs_of s (taken ++ p ∷ []) ≡ jobs_of s taken ++ own_job s p
  unfolding own_job
  jobs_more s [] p = elim (p.sender == s) as (λ b. (if b then p.job ∷ [] else []) ≡ [] ++ (if b then p.job ∷ [] else [])) [ true ↦ refl | false ↦ refl ]
  jobs_more s (q ∷ taken) p = elim (q.sender == s) as (λ b. (if b then q.job ∷ jobs_of s (taken ++ p ∷ []) else jobs_of s (taken ++ p ∷ []))
      ≡ (if b then q.job ∷ jobs_of s taken else jobs_of s taken) ++ own_job s p) [
        | true ↦ ap (λ (l : List X). q.job ∷ l) (jobs_more s taken p)
        | false ↦ jobs_more s taken p
      ]

  -- a job was taken, and its Accept was not placed: the run is halted or full, and no Shut stands
  pub admitted_lost : (v : View S) (i j : IntakeView X) (p : Parcel X) → j.taken ≡ i.taken ++ p ∷ [] → (IsUnderWay v.terms.limits.most v.seen → ⊥) → list_any shuts v.seen ≡ false
      → Admitted gives sent f v i → Admitted gives sent f v j
  admitted_lost v i j p taken over still_open old = record {
    first = λ s. let was = old.first s in record {
      front = was.front;
      rest = was.rest ++ own_job s p;
      split = ap (jobs_of s) taken ∙ jobs_more s i.taken p ∙ ap (λ (l : List X). l ++ own_job s p) was.split ∙ append_assoc was.front was.rest (own_job s p);
      taken = was.taken;
    };
    all = λ under. absurd (over under);
    senders = old.senders;
    shut = λ is. absurd (both_ways (list_any shuts v.seen) still_open is);
    why_shut = λ is. absurd (both_ways (list_any shuts v.seen) still_open is);
  }

  -- ## An Accept

  -- the blocks that were accepted of a sender are none that is not accepted
  apart : (b s : ℕ) (h : List Event) → list_any (accepts b) h ≡ false → list_all (λ (c : Blk). not (c.0 == b)) (blocks_of_sender h s) ≡ true
  apart b s [] none = refl
  apart b s (Accept c t ∷ h) none =
      let parts = or_parts (c.0 == b) (list_any (accepts b) h) none in
      elim (t == s) as (λ own. list_all (λ (d : Blk). not (d.0 == b)) (cons_option (if own then Some c else None) (blocks_of_sender h s)) ≡ true) [
        | true ↦ and_from (not (c.0 == b)) (list_all (λ (d : Blk). not (d.0 == b)) (blocks_of_sender h s)) (ap not parts.0) (apart b s h parts.1)
        | false ↦ apart b s h parts.1
      ]
  apart b s (e ∷ h) none = apart b s h none

  module _ (v w : View S) (terms : w.terms ≡ v.terms) (b : Blk) (c : S) (placed : w.handed.placed ≡ (b.0, c) ∷ v.handed.placed) where
    -- the job of another block is as it was
    else_same : (d : Blk) → (d.0 == b.0) ≡ false → (n : ℕ) → May gives (placed_jobs w) d.0 n → May gives (placed_jobs v) d.0 n
    else_same d other n may =
        same_may gives (placed_jobs w) (placed_jobs v) d.0 n
        (ap (λ (t : Terms S). job_of t (placed_at w.handed.placed) d.0) terms
        ∙ same_job v.terms (placed_at w.handed.placed) (placed_at v.handed.placed) d.0
        (ap (λ (l : List (ℕ × S)). placed_at l d.0) placed ∙ placed_else b.0 d.0 c v.handed.placed (λ same. both_ways (d.0 == b.0) other (eq-eqb d.0 b.0 (sym same)))))
        may

    zip_else : (xs : List X) (ds : List Blk) → list_all (λ (d : Blk). not (d.0 == b.0)) ds ≡ true → AllZip (IsTakenFor gives sent v) xs ds → AllZip (IsTakenFor gives sent w) xs ds
    zip_else [] [] apart z = tt
    zip_else [] (d ∷ ds) apart z = absurd z
    zip_else (x ∷ xs) [] apart z = absurd z
    zip_else (x ∷ xs) (d ∷ ds) apart z =
        let parts = and_parts (not (d.0 == b.0)) (list_all (λ (k : Blk). not (k.0 == b.0)) ds) apart in
        (λ n may. z.0 n (else_same d (not-true (d.0 == b.0) parts.0) n may), zip_else xs ds parts.1 z.1)

    -- the job that was laid there is that of the block
    here_taken : (job : X) → is_of_intake v.terms.plan b.0 ≡ true → ((n : ℕ) → gives c n → sent job n) → IsTakenFor gives sent w job b
    here_taken job of that = λ n may.
        that n (may c
        (ap (λ (t : Terms S). job_of t (placed_at w.handed.placed) b.0) terms
        ∙ intake_job v.terms (placed_at w.handed.placed) b.0 of ∙ ap (λ (l : List (ℕ × S)). placed_at l b.0) placed ∙ placed_here b.0 c v.handed.placed))

  -- a job of a sender was taken, and it is that of the block whose Accept was placed
  module _ (v w : View S) (i j : IntakeView X) (h : List Event) (b : Blk) (s n : ℕ) (job : X) (c : S) (terms : w.terms ≡ v.terms) (placed : w.handed.placed ≡ (b.0, c) ∷ v.handed.placed)
      (a : AddsNoCall v.seen h) (is : w.seen ≡ h ++ Accept b s ∷ []) (took : j.taken ≡ i.taken ++ parcel s n job ∷ []) (on : IsUnderWay v.terms.limits.most v.seen)
      (of : is_of_intake v.terms.plan b.0 ≡ true) (new : list_any (accepts b.0) v.seen ≡ false) (that : (m : ℕ) → gives c m → sent job m) (old : Admitted gives sent f v i) where
    accept_blocks : (t : ℕ) → blocks_of_sender w.seen t ≡ blocks_of_sender v.seen t ++ filter_map (accepted_of t) (Accept b s ∷ [])
    accept_blocks t =
        ap (filter_map (accepted_of t)) is ∙ filter_map-append (accepted_of t) h (Accept b s ∷ [])
        ∙ ap (λ (l : List Blk). l ++ filter_map (accepted_of t) (Accept b s ∷ [])) (blocks_same v.seen h t a)

    was_taken : (t : ℕ) → AllZip (IsTakenFor gives sent w) (jobs_of t i.taken) (blocks_of_sender v.seen t)
    was_taken t = zip_else v w terms b c placed (jobs_of t i.taken) (blocks_of_sender v.seen t) (apart b.0 t v.seen new) (old.all on t)

    one_taken : (t : ℕ) → AllZip (IsTakenFor gives sent w) (jobs_of t i.taken ++ own_job t (parcel s n job)) (blocks_of_sender v.seen t ++ filter_map (accepted_of t) (Accept b s ∷ []))
    unfolding own_job
    one_taken t = elim (s == t) as (λ own. AllZip (IsTakenFor gives sent w) (jobs_of t i.taken ++ (if own then job ∷ [] else [])) (blocks_of_sender v.seen t ++ cons_option (if own then Some b else None) [])) [
      | true ↦ zip_last (IsTakenFor gives sent w) (jobs_of t i.taken) (blocks_of_sender v.seen t) job b (was_taken t) (here_taken v w terms b c placed job of that)
      | false ↦ subst (λ (l : List X). AllZip (IsTakenFor gives sent w) l (blocks_of_sender v.seen t ++ [])) (sym (append-nil (jobs_of t i.taken)))
          (subst (λ (l : List Blk). AllZip (IsTakenFor gives sent w) (jobs_of t i.taken) l) (sym (append-nil (blocks_of_sender v.seen t))) (was_taken t))
    ]

    all_taken : (t : ℕ) → AreTakenFor gives sent w (jobs_of t j.taken) t
    all_taken t =
        subst (λ (l : List X). AreTakenFor gives sent w l t) (sym (ap (jobs_of t) took ∙ jobs_more t i.taken (parcel s n job)))
        (subst (λ (l : List Blk). AllZip (IsTakenFor gives sent w) (jobs_of t i.taken ++ own_job t (parcel s n job)) l) (sym (accept_blocks t)) (one_taken t))

    pub admitted_accepted : list_any shuts v.seen ≡ false → s < f.senders → Admitted gives sent f w j
    admitted_accepted still_open low =
        let unshut : list_any shuts w.seen ≡ false =
        ap (list_any shuts) is ∙ list_any-append shuts h (Accept b s ∷ []) ∙ ap (λ (k : Bool). k || false) (shut_same v.seen h a ∙ still_open) in
        record {
          first = λ t. all_begin w (jobs_of t j.taken) t (all_taken t);
          all = λ under t. all_taken t;
          senders = λ t high.
              accept_blocks t ∙ ap (λ (l : List Blk). l ++ filter_map (accepted_of t) (Accept b s ∷ [])) (old.senders t high)
              ∙ ap (λ (own : Bool). cons_option (if own then Some b else None) []) (ne_eqb s t (λ same. absurd (omega (arith, same, low, high))));
          shut = λ stands t. all_taken t;
          why_shut = λ stands. absurd (both_ways (list_any shuts w.seen) unshut stands);
        }

-- ## What was put

work_uncalled : (e : Event) → is_work e ≡ true → is_of_callers e ≡ false
work_uncalled (Accept b s) work = cc
work_uncalled Shut work = cc
work_uncalled e work = refl

pub works_uncalled : (rest : List Event) → list_all is_work rest ≡ true → list_any is_of_callers rest ≡ false
works_uncalled [] work = refl
works_uncalled (e ∷ rest) work =
    let parts = and_parts (is_work e) (list_all is_work rest) work in
    rw (work_uncalled e parts.0) (works_uncalled rest parts.1)

-- where events of workers alone have come, none of outside callers has
pub grows_no_call : (h k : List Event) → Grows h k → AddsNoCall h k
grows_no_call h k g = record { rest = g.rest; split = g.split; none = works_uncalled g.rest g.work }

-- an event of poller or clock behind them is none either
pub outside_no_call : (h k : List Event) (n : ℕ) (e : Event) → is_of_callers e ≡ false → IsPlaced n e h k → AddsNoCall h k
outside_no_call h k n e uncalled p = record {
  rest = p.grown.rest ++ e ∷ [];
  split = p.is ∙ ap (λ (l : List Event). l ++ e ∷ []) p.grown.split ∙ append_assoc h p.grown.rest (e ∷ []);
  none = list_any-append is_of_callers p.grown.rest (e ∷ []) ∙ rw (works_uncalled p.grown.rest p.grown.work, uncalled) refl;
}

module _ {S X : Type 0} (gives : S → ℕ → Type 0) (sent : X → ℕ → Type 0) (f : FrontView) (most : ℕ) (plan : PlanView) (v w : View S) (i : IntakeView X) (terms : w.terms ≡ v.terms) (lawful : IsLawful w.terms.plan w.seen) where
  placed_of : w.handed ≡ v.handed → w.handed.placed ≡ v.handed.placed
  placed_of same = ap (λ (n : Handed S). n.placed) same

  pub quiet : Grows v.seen w.seen → w.handed ≡ v.handed → Admitted gives sent f v i → Admitted gives sent f w i
  quiet g same old = admitted_on gives sent f v w i terms (placed_of same) (grows_no_call v.seen w.seen g) lawful old

  -- an event of poller or clock
  pub put_keeps : (e : Event) (r : Put) → is_of_callers e ≡ false → Says most plan e v.seen w.seen r → HandedOn e v w r → Admitted gives sent f v i → Admitted gives sent f w i
  put_keeps e (Placed n) uncalled said handed old =
      admitted_on gives sent f v w i terms (placed_of (handed_by (accepted e) v.handed w.handed (uncalled_accepts_none e uncalled) handed))
      (outside_no_call v.seen w.seen n e uncalled said) lawful old
  put_keeps e (Barred at y) uncalled said handed old = quiet said.0 handed old
  put_keeps e (Held by passed) uncalled said handed old = absurd handed
  put_keeps e Full uncalled said handed old = quiet said.0 handed.0 old

  -- a Shut
  pub shut_keeps : (r : Put) → Says most plan Shut v.seen w.seen r → HandedOn Shut v w r → IsUnderWay v.terms.limits.most v.seen → AllAccepted v.terms.plan v.seen ⊎ (KnowsAll f i × TookAll i)
      → Admitted gives sent f v i → Admitted gives sent f w i
  shut_keeps (Placed n) said handed on reason old =
      admitted_shut gives sent f v w i said.front terms (placed_of handed) (grows_no_call v.seen said.front said.grown) said.is on reason old
  shut_keeps (Barred at y) said handed on reason old = quiet said.0 handed old
  shut_keeps (Held by passed) said handed on reason old = absurd handed
  shut_keeps Full said handed on reason old = quiet said.0 handed.0 old

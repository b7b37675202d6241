-- Which job a block has, as the rule and as passes know it.
use Rattle.std.proofs.Common.{◌≡◌, ◌≢◌, ℕ, ⊎_elim, Bool, true, false, cond, List, [], ◌∷◌, ◌++◌, Some, None, Option, length, set, sym, refl, ap, ◌∙◌, subst, eq-eqb, ne_eqb}
use Rattle.std.specs.Prelude.{slice_get}
use Rattle.std.proofs.lemmas.Option.{same_Some}
use Rattle.std.proofs.lemmas.Bool.{both_ways}
use mathlib.Core.Option.{some}
use lib.ListN.{get_elem?}
use Rattle.atomic_table.proofs.Lists.{at_set}
use Rattle.gcd_facts.proofs.Elements.{at_end}
use Rattle.gcd_plan.specs.Made.{is_of_intake}
use Rattle.gcd_plan.specs.declared.numbers.Blk.{Blk}
use Rattle.gcd_plan.specs.declared.numbers.Run.TheVariants.{Block}
use Rattle.gcd_history.specs.Team.{held_by}
use Rattle.gcd_row.specs.Shapes.{Shape}
use Rattle.gcd_row.specs.Jobs.{Jobs, May, placed_at, job_of, jobs_of, held_jobs}
use Rattle.gcd_row.specs.Lying.{BodyLies}
use Rattle.gcd_row.specs.Rule.{KnowsJobs}
use Rattle.gcd_row.specs.declared.view.Handed.{Handed}
use Rattle.gcd_row.specs.declared.view.Terms.{Terms}
use Rattle.gcd_row.specs.declared.view.View.{View}

-- ## Jobs

module _ {S : Type 0} where
  pub placed_here : (b : ℕ) (c : S) (placed : List (ℕ × S)) → placed_at ((b, c) ∷ placed) b ≡ Some c
  placed_here b c placed = ap (λ (v : Bool). cond v (Some c) (placed_at placed b)) (eq-eqb b b refl)

  pub placed_else : (k b : ℕ) (c : S) (placed : List (ℕ × S)) → k ≢ b → placed_at ((k, c) ∷ placed) b ≡ placed_at placed b
  placed_else k b c placed ne = ap (λ (v : Bool). cond v (Some c) (placed_at placed b)) (ne_eqb k b ne)

  -- the job of a block of the intake, and of another
  pub intake_job : (t : Terms S) (jobs : ℕ → Option S) (b : ℕ) → is_of_intake t.plan b ≡ true → job_of t jobs b ≡ jobs b
  unfolding job_of
  intake_job t jobs b of = ap (λ (v : Bool). cond v (jobs b) (slice_get t.cells b)) of

  pub plain_job : (t : Terms S) (jobs : ℕ → Option S) (b : ℕ) → is_of_intake t.plan b ≡ false → job_of t jobs b ≡ slice_get t.cells b
  unfolding job_of
  plain_job t jobs b other = ap (λ (v : Bool). cond v (jobs b) (slice_get t.cells b)) other

  pub same_job : (t : Terms S) (one two : ℕ → Option S) (b : ℕ) → one b ≡ two b → job_of t one b ≡ job_of t two b
  unfolding job_of
  same_job t one two b same = ap (λ (o : Option S). cond (is_of_intake t.plan b) o (slice_get t.cells b)) same

-- an equal job may give the same
pub same_may : {S : Type 0} (gives : S → ℕ → Type 0) (t u : Jobs S) (b v : ℕ) → t.job b ≡ u.job b → May gives t b v → May gives u b v
same_may gives t u b v same may job at = may job (same ∙ at)

module _ {S : Type 0} (shape : S → Shape) (gives : S → ℕ → Type 0) where
  -- what lies where less may be given lies where more may be
  pub lies_more : (one two : ℕ → Type 0) (ended cancelled : Bool) (c : S) → ((v : ℕ) → one v → two v) → BodyLies shape gives one ended cancelled c → BodyLies shape gives two ended cancelled c
  lies_more one two false cancelled c more lies = (lies.0, λ v may. more v (lies.1 v may))
  lies_more one two true false c more lies = (lies.0, lies.1, more lies.0 lies.2)
  lies_more one two true true c more lies = lies

  module _ (t : Terms S) (jobs : ℕ → Option S) (b : ℕ) (c : S) where
    abbrev pub found : Jobs S
    found = jobs_of t (λ k. Some c)

    -- the body that lies in a slot may give only what the block's job may
    pub found_gives : ((v : ℕ) → gives c v → May gives (jobs_of t jobs) b v) → (v : ℕ) → May gives found b v → May gives (jobs_of t jobs) b v
    found_gives lies v may = elim (is_of_intake t.plan b) as (λ of. is_of_intake t.plan b ≡ of → May gives (jobs_of t jobs) b v) [
      | true ↦ λ of. lies v (may c (intake_job t (λ k. Some c) b of))
      | false ↦ λ other. same_may gives found (jobs_of t jobs) b v (plain_job t (λ k. Some c) b other ∙ sym (plain_job t jobs b other)) may
    ] refl

    -- as one that finds it there knows it, it is the block's job
    pub found_lies : (cancelled : Bool) → BodyLies shape gives (May gives (jobs_of t jobs) b) false cancelled c → BodyLies shape gives (May gives found b) false cancelled c
    found_lies cancelled lies = (
      lies.0,
      λ v may job at. elim (is_of_intake t.plan b) as (λ of. is_of_intake t.plan b ≡ of → gives job v) [
        | true ↦ λ of. subst (λ (x : S). gives x v) (same_Some c job (sym (intake_job t (λ k. Some c) b of) ∙ at)) may
        | false ↦ λ other. lies.1 v may job (plain_job t jobs b other ∙ sym (plain_job t (λ k. Some c) b other) ∙ at)
      ] refl,
    )

-- ## What passes know of them

-- what is so of each pass that is not spent
abbrev pub Live : {S : Type 0} → (View S → Type 0) → List (View S) → Type 0
Live {S} P views = (by : ℕ) (v : View S) → get_elem? views by ≡ some v → v.spent ≡ false → P v

module _ {S : Type 0} (P : View S → Type 0) where
  pub live_set : (views : List (View S)) (id : ℕ) (w : View S) → (w.spent ≡ false → P w) → Live P views → Live P (set views id w)
  live_set views id w here old by v at live = ⊎_elim
      (λ (t : (by ≡ id) × (w ≡ v)). subst P t.1 (here (ap (λ (x : View S). x.spent) t.1 ∙ live)))
      (λ (t : (by ≢ id) × (get_elem? views by ≡ some v)). old by v t.1 live)
      (at_set views id by w v at)

  pub live_more : (views : List (View S)) (w : View S) → (w.spent ≡ false → P w) → Live P views → Live P (views ++ w ∷ [])
  live_more views w here old by v at live = ⊎_elim
      (λ (was : get_elem? views by ≡ some v). old by v was live)
      (λ (t : (by ≡ length views) × (w ≡ v)). subst P t.1 (here (ap (λ (x : View S). x.spent) t.1 ∙ live)))
      (at_end views w v by at)

  -- one that is spent says nothing
  pub spent_says : (w : View S) → w.spent ≡ true → w.spent ≡ false → P w
  spent_says w is live = absurd (both_ways w.spent live is)

-- another pass after one of them has changed
pub live_else : {S : Type 0} (P Q : View S → Type 0) (views : List (View S)) (id : ℕ) (w : View S) → (w.spent ≡ false → Q w) → ((by : ℕ) (v : View S) → by ≢ id → get_elem? views by ≡ some v → v.spent ≡ false → P v → Q v) → Live P views → Live Q (set views id w)
live_else {S} P Q views id w here else old by v at live = ⊎_elim
    (λ (t : (by ≡ id) × (w ≡ v)). subst Q t.1 (here (ap (λ (x : View S). x.spent) t.1 ∙ live)))
    (λ (t : (by ≢ id) × (get_elem? views by ≡ some v)). else by v t.0 t.1 live (old by v t.1 live))
    (at_set views id by w v at)

module _ {S : Type 0} (gives : S → ℕ → Type 0) (t : Terms S) (n : Handed S) where
  -- a pass that holds what it held, and has noted nothing
  pub knows_on : (v w : View S) → w.worker ≡ v.worker → w.terms ≡ v.terms → w.first ≡ v.first → w.handed ≡ v.handed → held_by t.plan w.seen w.worker ≡ held_by t.plan v.seen v.worker → KnowsJobs gives t n v → KnowsJobs gives t n w
  knows_on v w worker terms first handed held old = record {
    mine = λ zero_is. handed ∙ old.mine (sym worker ∙ zero_is);
    held = λ b is x may. old.held b (sym held ∙ is) x (same_may gives (held_jobs w) (held_jobs v) b.0 x (λ i. job_of (terms i) (λ k. first i) b.0) may);
  }

  -- a pass that holds nothing, and has nothing to hand in
  pub knows_none : (w : View S) → w.worker ≢ 0 → held_by t.plan w.seen w.worker ≡ None → KnowsJobs gives t n w
  knows_none w helper none = record {
    mine = λ zero_is. absurd (helper zero_is);
    held = λ b is. absurd (none_some (sym none ∙ is));
  }
    where
      none_some : {A : Type 0} {a : A} → None ≡ Some a → ⊥
      none_some z = cc

  -- a helper's, where worker 0 has handed in more for blocks that the helper does not hold
  pub knows_else : (m : Handed S) (v : View S) → v.worker ≢ 0 → ((b : Blk) → held_by t.plan v.seen v.worker ≡ Some (Block b) → placed_at n.placed b.0 ≡ placed_at m.placed b.0) → KnowsJobs gives t n v → KnowsJobs gives t m v
  knows_else m v helper same old = record {
    mine = λ zero_is. absurd (helper zero_is);
    held = λ b is x may. same_may gives (jobs_of t (placed_at n.placed)) (jobs_of t (placed_at m.placed)) b.0 x (same_job t (placed_at n.placed) (placed_at m.placed) b.0 (same b is)) (old.held b is x may);
  }

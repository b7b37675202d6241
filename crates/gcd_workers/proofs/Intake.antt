-- The blocks of the intake: no act cancels one, and one that has ended was accepted of a sender.
use Rattle.std.proofs.Common.{◌≡◌, ◌<◌, ◌==◌, ◌∙◌, ◌||◌, ℕ, zero, suc, Bool, true, false, List, [], ◌∷◌, Option, Some, None, refl, ap, sym, take, eq-eqb, eqb-true, if◌then◌else◌}
use Rattle.std.specs.List.{AllZip, cons_option, filter_map, list_any}
use Rattle.std.specs.Prelude.{length, slice_get}
use Rattle.std.proofs.lemmas.Bool.{both_ways}
use Rattle.gcd_plan.specs.Made.{is_of_intake}
use Rattle.gcd_plan.specs.PlanView.{PlanView}
use Rattle.gcd_plan.specs.Validity.{IsPlan}
use Rattle.gcd_plan.specs.declared.numbers.Blk.{Blk}
use Rattle.gcd_event.specs.declared.event.Event.{Event}
use Rattle.gcd_event.specs.declared.event.Event.TheVariants.{Accept}
use Rattle.gcd_history.specs.History.{IsLawful, is_block_cancelled, is_ended}
use Rattle.gcd_history.specs.Intake.{accepted, accepted_of, accepts, AcceptsNone, blocks_of_sender}
use Rattle.gcd_history.proofs.Blocks.CancelledStays.{begun_where_ended}
use Rattle.gcd_history.proofs.MadeBlocks.Spans.{intake_inside, intake_is_made}
use Rattle.gcd_history.proofs.Blocks.Uncancelled.{uncancelled}
use Rattle.gcd_row.proofs.Accepted.{accept_is_next, accepts_nothing, begun_accepted, next_of}

-- ## No act cancels one

pub never_cancelled : (plan : PlanView) (h : List Event) (b : ℕ) → IsPlan plan → is_of_intake plan b ≡ true → is_block_cancelled plan h b ≡ false
never_cancelled plan h b valid of = uncancelled plan h b valid (intake_is_made plan b of)

-- ## What is accepted

-- where each sender has no Accept, there is none
pub none_of_any : (h : List Event) → ((s : ℕ) → blocks_of_sender h s ≡ []) → AcceptsNone h
none_of_any [] none i f at = absurd (cc)
none_of_any (e ∷ h) none zero f at = ap accepted (same_event e f at) ∙ head e none
  where
    same_event : (x y : Event) → Some x ≡ Some y → y ≡ x
    same_event x y is = cc

    some_left : {b : Blk} {bs : List Blk} → b ∷ bs ≡ [] → ⊥
    some_left is = cc

    head : (x : Event) → ((s : ℕ) → filter_map (accepted_of s) (x ∷ h) ≡ []) → accepted x ≡ None
    head (Accept b s) nothing = absurd (some_left (sym (ap (λ v. cons_option (if v then Some b else None) (filter_map (accepted_of s) h)) (eq-eqb s s refl)) ∙ nothing s))
    head x nothing = refl
none_of_any (e ∷ h) none (suc i) f at = none_of_any h (λ s. rest (accepted_of s e) (filter_map (accepted_of s) h) (none s)) i f at
  where
    rest : (o : Option Blk) (bs : List Blk) → cons_option o bs ≡ [] → bs ≡ []
    rest None bs is = is
    rest (Some b) bs is = absurd (cc)

-- where nothing is accepted, nothing is accepted of a sender
pub blocks_of_none : (h : List Event) (s : ℕ) → AcceptsNone h → blocks_of_sender h s ≡ []
blocks_of_none [] s none = refl
blocks_of_none (e ∷ h) s none =
    ap (λ o. cons_option o (filter_map (accepted_of s) h)) (no_block e (none zero e refl)) ∙ blocks_of_none h s (λ i f at. none (suc i) f at)
  where
    no_block : (x : Event) → accepted x ≡ None → accepted_of s x ≡ None
    no_block (Accept b t) is = absurd (cc)
    no_block x is = refl

pub none_accepted_in : (h : List Event) (b : ℕ) → AcceptsNone h → list_any (accepts b) h ≡ false
none_accepted_in [] b none = refl
none_accepted_in (e ∷ h) b none =
    ap (λ v. v || list_any (accepts b) h) (accepts_nothing e b (none zero e refl)) ∙ none_accepted_in h b (λ i f at. none (suc i) f at)

-- where nothing is accepted, a block that has ended is not of the intake
pub ended_elsewhere : (plan : PlanView) (h : List Event) (b : ℕ) → IsPlan plan → IsLawful plan h → AcceptsNone h → is_ended h b ≡ true → is_of_intake plan b ≡ false
ended_elsewhere plan h b valid lawful none ended = by_intake (is_of_intake plan b) refl
  where
    by_intake : (v : Bool) → is_of_intake plan b ≡ v → is_of_intake plan b ≡ false
    by_intake false at = at
    by_intake true at =
        absurd (both_ways (list_any (accepts b) h) (none_accepted_in h b none) (begun_accepted plan h b valid lawful at (begun_where_ended plan h b lawful ended)))

-- a block that is accepted is of the intake, and so of the plan
pub accepted_of_intake : (plan : PlanView) (h : List Event) (i : ℕ) (b : Blk) (s : ℕ) → IsLawful plan h → slice_get h i ≡ Some (Accept b s) → is_of_intake plan b.0 ≡ true
unfolding IsLawful
accepted_of_intake plan h i b s lawful at = next_of plan (take i h) b (accept_is_next plan (take i h) b s (lawful i (Accept b s) at))

pub accepted_within : (plan : PlanView) (b : Blk) → IsPlan plan → is_of_intake plan b.0 ≡ true → b.0 < length plan.blocks
accepted_within plan b valid of = (intake_inside plan b.0 valid of).within

-- ## The blocks of a sender, place by place

module _ {X : Type 0} (P Q : X → Blk → Type 0) where
  zip_step : (own : Bool) (b : Blk) (bs : List Blk) → (own ≡ true → (x : X) → P x b → Q x b) → ((ys : List X) → AllZip P ys bs → AllZip Q ys bs)
      → (xs : List X) → AllZip P xs (cons_option (if own then Some b else None) bs) → AllZip Q xs (cons_option (if own then Some b else None) bs)
  zip_step true b bs here rest [] z = absurd z
  zip_step true b bs here rest (x ∷ xs) z = (here refl x z.0, rest xs z.1)
  zip_step false b bs here rest xs z = rest xs z

  -- what holds of each job and the block accepted for it gives what follows of the two
  pub zip_accepted : (s : ℕ) (h : List Event) → ((i : ℕ) (b : Blk) → slice_get h i ≡ Some (Accept b s) → (x : X) → P x b → Q x b)
      → (xs : List X) → AllZip P xs (blocks_of_sender h s) → AllZip Q xs (blocks_of_sender h s)
  zip_accepted s [] each [] z = tt
  zip_accepted s [] each (x ∷ xs) z = absurd z
  zip_accepted s (Accept b t ∷ h) each xs z =
      zip_step (t == s) b (blocks_of_sender h s) (λ own. each zero b (ap (λ k. Some (Accept b k)) (eqb-true t s own)))
      (zip_accepted s h (λ i c at. each (suc i) c at)) xs z
  zip_accepted s (e ∷ h) each xs z = zip_accepted s h (λ i c at. each (suc i) c at) xs z

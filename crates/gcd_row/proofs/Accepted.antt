-- The next block of the intake, and the blocks that are accepted, the oldest event first.
use Rattle.std.proofs.Common.{◌≡◌, ◌≢◌, ℕ, ◌<◌, ◌≤◌, ◌+◌, leb, ltb, Bool, true, false, not, ◌&&◌, ◌||◌, cond, List, [], ◌∷◌, ◌++◌, reverse, find, Option, Some, None, is_some, refl, ap, sym, ◌∙◌, subst}
use Rattle.std.specs.List.{list_any}
use Rattle.std.specs.Option.{option_map_or}
use Rattle.std.proofs.lemmas.Bool.{and_from, both_ways, not-true, eq-eqb, ne_eqb, le-leb, lt-ltb}
use Rattle.std.proofs.lemmas.Option.{same_Some}
use Rattle.gcd_plan.specs.PlanView.{PlanView, IntakeView, IsRun}
use Rattle.gcd_plan.specs.Validity.{IsPlan}
use Rattle.gcd_plan.specs.Made.{is_of_intake, is_within, blocks_in, intake_span, intake_blocks}
use Rattle.gcd_plan.specs.declared.numbers.Blk.{Blk}
use Rattle.gcd_plan.specs.declared.numbers.Run.{Run}
use Rattle.gcd_plan.specs.declared.numbers.Run.TheVariants.{Block}
use Rattle.gcd_event.specs.declared.event.Event.{Event}
use Rattle.gcd_event.specs.declared.event.Event.TheVariants.{Accept, Shut}
use Rattle.gcd_history.specs.Choice.{worker_of}
use Rattle.gcd_history.specs.Facts.{is_of_callers}
use Rattle.gcd_history.specs.History.{why, IsLawful, is_started, is_ended, next_of_intake}
use Rattle.gcd_history.specs.Intake.{accepts, accepted, is_accepted, shuts, is_intake_open, next_of_intake as next_after}
use Rattle.gcd_history.proofs.Blocks.CancelledStays.{begun_where_ended}
use Rattle.gcd_history.proofs.MadeBlocks.IntakeBlocks.{started_accepted}
use Rattle.gcd_history.proofs.Permitted.Lawful.{lawful_after, lawful_more}
use Rattle.gcd_history.proofs.Lists.{any_left, any_right, found_is, list_any-filter, list_any-reverse, reverse_push}
use Rattle.gcd_history.proofs.MadeBlocks.Spans.{first_of_span, intake_inside}
use Rattle.gcd_history.proofs.MadeBlocks.OpenIntake.{next_is_first, none_next}
use Rattle.gcd_history.proofs.Permitted.Reasons.{at_accept}
use Rattle.gcd_history.specs.Held.{is_of, taken, given}
use Rattle.gcd_history.specs.Team.{of_worker, held_by}
use Rattle.gcd_history.specs.TeamFacts.{IsNobodys}
use Rattle.gcd_history.proofs.HeldRuns.Cancelled.{begun_where_held}
use Rattle.gcd_history.proofs.HeldRuns.Holders.{what_is_held_after}
use Rattle.gcd_history.proofs.MadeBlocks.AcceptsStay.{next_kept}

-- ## What is accepted

-- the Accept of block b stands
abbrev pub accepted_in : List Event → ℕ → Bool
accepted_in h b = list_any (accepts b) h

-- a block of the intake that has begun is accepted
pub begun_accepted : (plan : PlanView) (h : List Event) (b : ℕ) → IsPlan plan → IsLawful plan h → is_of_intake plan b ≡ true → is_started h b ≡ true → accepted_in h b ≡ true
unfolding is_started
begun_accepted plan h b valid lawful of begun = sym (list_any-reverse (accepts b) h) ∙ started_accepted plan (reverse h) valid (lawful_after plan h lawful) b of begun

-- one that a worker holds
pub held_accepted : (plan : PlanView) (h : List Event) (w : ℕ) (b : Blk) → IsPlan plan → IsLawful plan h → is_of_intake plan b.0 ≡ true → held_by plan h w ≡ Some (Block b) → accepted_in h b.0 ≡ true
held_accepted plan h w b valid lawful of held = begun_accepted plan h b.0 valid lawful of (begun_where_held plan h w b lawful held)

pub accepted_more : (h later : List Event) (b : ℕ) → accepted_in h b ≡ true → accepted_in (h ++ later) b ≡ true
accepted_more h later b is = any_left (accepts b) h later is

pub accepted_now : (h : List Event) (b : Blk) (s : ℕ) → accepted_in (h ++ Accept b s ∷ []) b.0 ≡ true
accepted_now h b s = any_right (accepts b.0) h (Accept b s ∷ []) (ap (λ v. v || false) (eq-eqb b.0 b.0 refl))

-- what another event does not accept was so before
pub accepted_before : (h : List Event) (e : Event) (b : ℕ) → accepts b e ≡ false → accepted_in (h ++ e ∷ []) b ≡ true → accepted_in h b ≡ true
accepted_before [] e b other is = absurd (both_ways (accepts b e || false) (ap (λ v. v || false) other) is)
accepted_before (x ∷ h) e b other is = elim (accepts b x) as (λ v. (v || accepted_in (h ++ e ∷ []) b) ≡ true → (v || accepted_in h b) ≡ true) [
  | true ↦ λ k. refl
  | false ↦ λ k. accepted_before h e b other k
] is

-- ## Events that are not of callers

pub taken_not_callers : (e : Event) (r : Run) → taken e ≡ Some r → is_of_callers e ≡ false
taken_not_callers (Accept b s) r is = cc
taken_not_callers Shut r is = cc
taken_not_callers e r is = refl

pub given_not_callers : (plan : PlanView) (e : Event) (r : Run) → given plan e ≡ Some r → is_of_callers e ≡ false
given_not_callers plan (Accept b s) r is = cc
given_not_callers plan Shut r is = cc
given_not_callers plan e r is = refl

pub accepts_none : (e : Event) (b : ℕ) → is_of_callers e ≡ false → accepts b e ≡ false
accepts_none (Accept c s) b is = cc
accepts_none e b is = refl

pub callers_first : (e : Event) → is_of_callers e ≡ true → worker_of e ≡ 0
callers_first (Accept b s) is = refl
callers_first Shut is = refl
callers_first e is = cc

-- a block of the intake that an event takes is accepted before it
pub taken_accepted : (plan : PlanView) (h : List Event) (e : Event) (b : Blk) → IsPlan plan → IsLawful plan h → why plan h e ≡ None → is_of_intake plan b.0 ≡ true → taken e ≡ Some (Block b) → accepted_in h b.0 ≡ true
taken_accepted plan h e b valid lawful may of is =
    accepted_before h e b.0 (accepts_none e b.0 (taken_not_callers e (Block b) is))
    (held_accepted plan (h ++ e ∷ []) (worker_of e) b valid (lawful_more plan h e lawful may) of ((what_is_held_after plan h e).took (Block b) is))

-- ## The next block

record IsNext (plan : PlanView) (h : List Event) (b : Blk) : Type 0 where
  of_intake : is_of_intake plan b.0 ≡ true
  unaccepted : accepted_in h b.0 ≡ false

within_span : (plan : PlanView) (i : IntakeView) (b : ℕ) → plan.intake ≡ Some i → i.first ≤ b → b < i.first + i.count → is_of_intake plan b ≡ true
within_span plan i b at low high =
    ap (λ o. option_map_or (λ j. is_within b (intake_span j)) o false) at ∙ and_from (leb i.first b) (ltb b (i.first + i.count)) (le-leb i.first b low) (lt-ltb b (i.first + i.count) high)

next_facts : (plan : PlanView) (h : List Event) (b : Blk) → next_of_intake plan h ≡ Some b → IsNext plan h b
unfolding next_of_intake
next_facts plan h b is =
    let found = (next_is_first plan (reverse h) b is).1 in
    record {
      of_intake = elim plan.intake as (λ o. plan.intake ≡ o → is_of_intake plan b.0 ≡ true) [
        | None ↦ λ none. absurd (none_found (subst (λ l. find (λ c. not (is_accepted (reverse h) c.0)) l ≡ Some b) (ap (λ o. option_map_or (λ j. blocks_in (intake_span j)) o []) none) found))
        | Some i ↦ λ at.
            let first = first_of_span (λ k. not (is_accepted (reverse h) k)) i.first i.count b (subst (λ l. find (λ c. not (is_accepted (reverse h) c.0)) l ≡ Some b) (ap (λ o. option_map_or (λ j. blocks_in (intake_span j)) o []) at) found) in
            within_span plan i b.0 at first.low first.high
      ] refl;
      unaccepted = sym (list_any-reverse (accepts b.0) h) ∙ not-true (is_accepted (reverse h) b.0) (found_is (λ c. not (is_accepted (reverse h) c.0)) (intake_blocks plan) b found);
    }
  where
    none_found : {A : Type 0} {a : A} → None ≡ Some a → ⊥
    none_found z = cc

pub next_of : (plan : PlanView) (h : List Event) (b : Blk) → next_of_intake plan h ≡ Some b → is_of_intake plan b.0 ≡ true
next_of plan h b is = (next_facts plan h b is).of_intake

pub next_unaccepted : (plan : PlanView) (h : List Event) (b : Blk) → next_of_intake plan h ≡ Some b → accepted_in h b.0 ≡ true → ⊥
next_unaccepted plan h b is already = both_ways (accepted_in h b.0) (next_facts plan h b is).unaccepted already

pub next_known : (plan : PlanView) (h : List Event) (b : Blk) → IsPlan plan → next_of_intake plan h ≡ Some b → IsRun plan (Block b)
next_known plan h b valid is = (intake_inside plan b.0 valid (next_of plan h b is)).within

-- it has not begun, so nobody holds it, and it has not ended
pub next_nobodys : (plan : PlanView) (h : List Event) (b : Blk) → IsPlan plan → IsLawful plan h → next_of_intake plan h ≡ Some b → IsNobodys plan h (Block b)
next_nobodys plan h b valid lawful is w held = next_unaccepted plan h b is (held_accepted plan h w b valid lawful (next_of plan h b is) held)

pub next_unended : (plan : PlanView) (h : List Event) (b : Blk) → IsPlan plan → IsLawful plan h → next_of_intake plan h ≡ Some b → is_ended h b.0 ≡ false
next_unended plan h b valid lawful is = by_end (is_ended h b.0) refl
  where
    by_end : (v : Bool) → is_ended h b.0 ≡ v → is_ended h b.0 ≡ false
    by_end false at = at
    by_end true at = absurd (next_unaccepted plan h b is (begun_accepted plan h b.0 valid lawful (next_of plan h b is) (begun_where_ended plan h b.0 lawful at)))

pub next_stays : (plan : PlanView) (h : List Event) (e : Event) → is_of_callers e ≡ false → next_of_intake plan (h ++ e ∷ []) ≡ next_of_intake plan h
unfolding next_of_intake
next_stays plan h e other = ap (next_after plan) (reverse_push h e) ∙ next_kept plan e (reverse h) other

-- and after a Shut none comes
shut_closes : (plan : PlanView) (past : List Event) → is_intake_open plan (Shut ∷ past) ≡ false
unfolding is_intake_open
shut_closes plan past = elim (is_some plan.intake) as (λ v. (v && false) ≡ false) [ true ↦ refl | false ↦ refl ]

pub none_after_shut : (plan : PlanView) (h : List Event) → next_of_intake plan (h ++ Shut ∷ []) ≡ None
unfolding next_of_intake
none_after_shut plan h = ap (next_after plan) (reverse_push h Shut) ∙ none_next plan (Shut ∷ reverse h) (shut_closes plan (reverse h))

-- an Accept is of it
pub accept_is_next : (plan : PlanView) (h : List Event) (b : Blk) (s : ℕ) → why plan h (Accept b s) ≡ None → next_of_intake plan h ≡ Some b
unfolding why next_of_intake
accept_is_next plan h b s may = at_accept plan (reverse h) b s may

-- it is told from the events of worker 0
own_any : (p : Event → Bool) → ((e : Event) → (is_of 0 e && p e) ≡ p e) → (h : List Event) → list_any p (reverse h) ≡ list_any p (of_worker 0 h)
unfolding of_worker
own_any p own h = list_any-reverse p h ∙ sym (list_any-filter p (is_of 0) h ∙ ap (λ q. list_any q h) (λ i e. own e i))

own_accepts : (b : ℕ) (e : Event) → (is_of 0 e && accepts b e) ≡ accepts b e
own_accepts b (Accept c s) = refl
own_accepts b e = elim (is_of 0 e) as (λ v. (v && false) ≡ false) [ true ↦ refl | false ↦ refl ]

own_shuts : (e : Event) → (is_of 0 e && shuts e) ≡ shuts e
own_shuts Shut = refl
own_shuts e = elim (is_of 0 e) as (λ v. (v && false) ≡ false) [ true ↦ refl | false ↦ refl ]

pub next_by_own : (plan : PlanView) (g h : List Event) → of_worker 0 g ≡ of_worker 0 h → next_of_intake plan g ≡ next_of_intake plan h
unfolding next_of_intake next_after is_intake_open
next_by_own plan g h same =
    let N : Bool → (ℕ → Bool) → Option Blk = λ s a. cond (is_some plan.intake && not s) (find (λ b. not (a b.0)) (intake_blocks plan)) None in
    let one : list_any shuts (reverse g) ≡ list_any shuts (reverse h) = own_any shuts own_shuts g ∙ (ap (list_any shuts) same ∙ sym (own_any shuts own_shuts h)) in
    let two : (b : ℕ) → list_any (accepts b) (reverse g) ≡ list_any (accepts b) (reverse h) =
    λ b. own_any (accepts b) (own_accepts b) g ∙ (ap (list_any (accepts b)) same ∙ sym (own_any (accepts b) (own_accepts b) h)) in
    λ i. N (one i) (λ b. two b i)

-- ## An Accept

accept_is : (e : Event) (b : Blk) → accepted e ≡ Some b → (s : ℕ) × (e ≡ Accept b s)
accept_is (Accept c s) b is = (s, ap (λ k. Accept k s) (same_Some c b is))
accept_is e b is = cc

pub accepts_nothing : (e : Event) (b : ℕ) → accepted e ≡ None → accepts b e ≡ false
accepts_nothing (Accept c s) b is = cc
accepts_nothing e b is = refl

pub accepts_another : (e : Event) (b : Blk) (k : ℕ) → accepted e ≡ Some b → b.0 ≢ k → accepts k e ≡ false
accepts_another e b k is ne = let it = accept_is e b is in ap (accepts k) it.1 ∙ ne_eqb b.0 k ne

-- where an event accepts nothing, the block that comes next came next before
pub next_was : (plan : PlanView) (h : List Event) (e : Event) (b : Blk) → accepted e ≡ None → next_of_intake plan (h ++ e ∷ []) ≡ Some b → next_of_intake plan h ≡ Some b
next_was plan h (Accept c s) b none is = cc
next_was plan h Shut b none is = absurd (none_some (sym (none_after_shut plan h) ∙ is))
  where
    none_some : {A : Type 0} {a : A} → None ≡ Some a → ⊥
    none_some z = cc
next_was plan h e b none is = sym (next_stays plan h e refl) ∙ is

pub accept_next : (plan : PlanView) (h : List Event) (e : Event) (b : Blk) → accepted e ≡ Some b → why plan h e ≡ None → next_of_intake plan h ≡ Some b
accept_next plan h e b is may = let it = accept_is e b is in accept_is_next plan h b it.0 (subst (λ x. why plan h x ≡ None) it.1 may)

pub accept_counts : (h : List Event) (e : Event) (b : Blk) → accepted e ≡ Some b → accepted_in (h ++ e ∷ []) b.0 ≡ true
accept_counts h e b is = let it = accept_is e b is in subst (λ x. accepted_in (h ++ x ∷ []) b.0 ≡ true) (sym it.1) (accepted_now h b it.0)

pub accept_callers : (e : Event) (b : Blk) → accepted e ≡ Some b → is_of_callers e ≡ true
accept_callers e b is = ap is_of_callers (accept_is e b is).1

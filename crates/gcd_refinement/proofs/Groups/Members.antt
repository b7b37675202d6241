-- The members of a group: each block is one of one group at most, and its end takes it off the count.
use Rattle.std.proofs.Common.{◌≡◌, ℕ, ◌+◌, ◌==◌, Bool, true, false, not, ◌||◌, cond, List, [], ◌∷◌, ◌++◌, length, Option, Some, None, is_some, refl, ap, sym, ◌∙◌, subst, arith, ⊎_elim, eq-eqb, ne_eqb}
use Rattle.std.specs.List.{count_by, cons_option, filter_map, list_any, flat_map, range_with_len}
use Rattle.std.specs.Option.{option_map_or, option_or}
use Rattle.std.proofs.lemmas.Bool.{cases_eq, both_ways, false_from_ne_true}
use Rattle.gcd_plan.specs.PlanView.{PlanView}
use Rattle.gcd_plan.specs.Validity.{IsPlan}
use Rattle.gcd_plan.specs.declared.act.Act.{Act}
use Rattle.gcd_plan.specs.declared.act.Act.TheVariants.{GroupAsync}
use Rattle.gcd_plan.specs.declared.numbers.Obj.{Obj}
use Rattle.gcd_event.specs.declared.event.Event.{Event}
use Rattle.gcd_history.specs.declared.submission.Submission.{Submission}
use Rattle.gcd_history.specs.Runs.{act_of, is_ended}
use Rattle.gcd_history.specs.Groups.{member_of}
use Rattle.gcd_history.specs.Submitted.{submitted, submission_of, new_submissions, submitted_by, accepted_by, at_cancel, at_end, at_empty, cancels}
use Rattle.gcd_history.specs.Permitted.{IsLawful}
use Rattle.gcd_history.proofs.Lists.{find_from_any, any_from_find, any_left, any_right}
use Rattle.gcd_plan.proofs.Sums.{count_by-cons, count_by-append, count_by_some}
use Rattle.gcd_plan.proofs.Options.{some_from_is_some}
use Rattle.gcd_history.proofs.Blocks.StartedOnce.{submission_of-kept, submitted_from_started, started_from_ended}
use Rattle.gcd_history.proofs.Blocks.SubmittedOnce.{submitted_once}
use Rattle.gcd_refinement.specs.Sleepers.{grouped, group_of}

-- the blocks that were submitted as members of group g
abbrev pub members : PlanView → List Event → ℕ → List ℕ
members plan past g = filter_map (λ e. member_of g (act_of plan e)) past

-- the group is g
abbrev pub is_group : ℕ → Option Obj → Bool
is_group g o = option_map_or (λ h. h.0 == g) o false

-- ## A block is a member once

is_of : ℕ → Submission → Bool
is_of b s = s.blk.0 == b

-- what a grouping act submits
grouped_any : (plan : PlanView) (b : ℕ) (act : Option Act) → is_some (grouped b act) ≡ true → list_any (λ s. s.blk.0 == b) (submitted_by plan act) ≡ true
grouped_any plan b (Some (GroupAsync g q c)) h =
    elim (c.0 == b) as (λ v. is_some (cond v (Some g) None) ≡ true → (v || false) ≡ true) [ true ↦ λ k. refl | false ↦ λ k. cc ] h
grouped_any plan b _ h = cc

-- what the act itself submits is among what its event does
pub own_any : (plan : PlanView) (past : List Event) (e : Event) (p : Submission → Bool) → list_any p (submitted_by plan (act_of plan e)) ≡ true → list_any p (new_submissions plan past e) ≡ true
own_any plan past e p h =
    let own = submitted_by plan (act_of plan e) in
    let one = own ++ accepted_by plan e in
    let two = one ++ at_cancel plan past (cancels plan e) in
    let three = two ++ flat_map (at_end plan past e) (range_with_len 0 (length plan.blocks)) in
    any_left p three (flat_map (at_empty plan past e) (range_with_len 0 (length plan.objects)))
    (any_left p two (flat_map (at_end plan past e) (range_with_len 0 (length plan.blocks)))
    (any_left p one (at_cancel plan past (cancels plan e)) (any_left p own (accepted_by plan e) h)))

submits_any : (plan : PlanView) (past : List Event) (e : Event) (b : ℕ) → is_some (grouped b (act_of plan e)) ≡ true → list_any (λ s. s.blk.0 == b) (new_submissions plan past e) ≡ true
submits_any plan past e b h = own_any plan past e (λ s. s.blk.0 == b) (grouped_any plan b (act_of plan e) h)

-- a member is submitted
pub member_submitted : (plan : PlanView) (past : List Event) (b : ℕ) → is_some (group_of plan past b) ≡ true → is_some (submission_of plan past b) ≡ true
member_submitted plan [] b h = cc
member_submitted plan (e ∷ past) b h =
    elim (grouped b (act_of plan e)) as (λ o. grouped b (act_of plan e) ≡ o → is_some (option_or o (group_of plan past b)) ≡ true → is_some (submission_of plan (e ∷ past) b) ≡ true) [
      | Some g ↦ λ at k.
          find_from_any (λ s. s.blk.0 == b) (submitted plan past ++ new_submissions plan past e)
          (any_right (λ s. s.blk.0 == b) (submitted plan past) (new_submissions plan past e) (submits_any plan past e b (ap is_some at)))
      | None ↦ λ at k.
          let s = some_from_is_some (submission_of plan past b) (member_submitted plan past b k) in ap is_some (submission_of-kept plan e past b s.0 s.1)
    ] refl h

-- where an act groups a block, that was in no group
pub ungrouped : (plan : PlanView) (past : List Event) (e : Event) (b : ℕ) → IsPlan plan → IsLawful plan (e ∷ past) → is_some (grouped b (act_of plan e)) ≡ true → group_of plan past b ≡ None
ungrouped plan past e b valid lawful h =
    elim (group_of plan past b) as (λ o. group_of plan past b ≡ o → o ≡ None) [
      | None ↦ λ at. refl
      | Some g ↦ λ at.
          let was = count_by_some (λ s. s.blk.0 == b) (submitted plan past) (any_from_find (λ s. s.blk.0 == b) (submitted plan past) (member_submitted plan past b (ap is_some at))) in
          let new = count_by_some (λ s. s.blk.0 == b) (new_submissions plan past e) (submits_any plan past e b h) in
          let all = count_by-append (λ s. s.blk.0 == b) (submitted plan past) (new_submissions plan past e) in
          let once = submitted_once plan (e ∷ past) valid lawful b in
          absurd (omega (arith, was, new, all, once))
    ] refl

by_two : (u v : Bool) (c b : ℕ) (h : Obj) (g : ℕ) (xs : List ℕ) (o : Option Obj) → (c == b) ≡ v → (h.0 == g) ≡ u → (v ≡ true → o ≡ None)
    → count_by (λ k. k == b) xs ≡ cond {A = ℕ} (is_group g o) 1 0
    → count_by (λ k. k == b) (cons_option (cond u (Some c) None) xs) ≡ cond {A = ℕ} (is_group g (option_or (cond v (Some h) None) o)) 1 0
by_two true true c b h g xs o cb hg none e =
    let z : count_by (λ k. k == b) xs ≡ 0 = e ∙ ap (λ p. cond {A = ℕ} (is_group g p) 1 0) (none refl) in
    count_by-cons (λ k. k == b) c xs ∙ (rw (cb, hg) (omega (arith, z)))
by_two true false c b h g xs o cb hg none e = count_by-cons (λ k. k == b) c xs ∙ (rw cb (omega (arith, e)))
by_two false true c b h g xs o cb hg none e = e ∙ (ap (λ p. cond {A = ℕ} (is_group g p) 1 0) (none refl) ∙ rw hg refl)
by_two false false c b h g xs o cb hg none e = e

by_act : (act : Option Act) (b g : ℕ) (xs : List ℕ) (o : Option Obj) → (is_some (grouped b act) ≡ true → o ≡ None) → count_by (λ k. k == b) xs ≡ cond {A = ℕ} (is_group g o) 1 0
    → count_by (λ k. k == b) (cons_option (member_of g act) xs) ≡ cond {A = ℕ} (is_group g (option_or (grouped b act) o)) 1 0
by_act (Some (GroupAsync h q c)) b g xs o none e =
    by_two (h.0 == g) (c.0 == b) c.0 b h g xs o refl refl (λ k. none (ap (λ v. is_some (cond v (Some h) None)) k)) e
by_act _ b g xs o none e = e

-- a block is a member of its group once, and of no other
pub member_once : (plan : PlanView) (past : List Event) (b g : ℕ) → IsPlan plan → IsLawful plan past → count_by (λ k. k == b) (members plan past g) ≡ cond {A = ℕ} (is_group g (group_of plan past b)) 1 0
member_once plan [] b g valid lawful = refl
member_once plan (e ∷ past) b g valid lawful =
    by_act (act_of plan e) b g (members plan past g) (group_of plan past b) (ungrouped plan past e b valid lawful) (member_once plan past b g valid lawful.0)

-- where an act groups a block, that was not submitted
pub unsubmitted : (plan : PlanView) (past : List Event) (e : Event) (b : ℕ) → IsPlan plan → IsLawful plan (e ∷ past) → is_some (grouped b (act_of plan e)) ≡ true → is_some (submission_of plan past b) ≡ false
unsubmitted plan past e b valid lawful h =
    false_from_ne_true (is_some (submission_of plan past b)) (λ there.
    let was = count_by_some (λ s. s.blk.0 == b) (submitted plan past) (any_from_find (λ s. s.blk.0 == b) (submitted plan past) there) in
    let new = count_by_some (λ s. s.blk.0 == b) (new_submissions plan past e) (submits_any plan past e b h) in
    let all = count_by-append (λ s. s.blk.0 == b) (submitted plan past) (new_submissions plan past e) in
    let once = submitted_once plan (e ∷ past) valid lawful b in
    absurd (omega (arith, was, new, all, once)))

-- nor has it ended
pub unended : (plan : PlanView) (past : List Event) (e : Event) (b : ℕ) → IsPlan plan → IsLawful plan (e ∷ past) → is_some (grouped b (act_of plan e)) ≡ true → is_ended past b ≡ false
unended plan past e b valid lawful h =
    false_from_ne_true (is_ended past b) (λ ended.
    both_ways (is_some (submission_of plan past b)) (unsubmitted plan past e b valid lawful h)
    (submitted_from_started plan past lawful.0 b (started_from_ended plan past lawful.0 b ended)))

-- ## An end

-- those that go on, once b has ended too
pub without : (ended : ℕ → Bool) (xs : List ℕ) (b : ℕ) → ended b ≡ false
    → count_by (λ c. not (b == c || ended c)) xs + count_by (λ c. c == b) xs ≡ count_by (λ c. not (ended c)) xs
without ended [] b h = refl
without ended (x ∷ xs) b h =
    let a = count_by-cons (λ c. not (b == c || ended c)) x xs in
    let d = count_by-cons (λ c. c == b) x xs in
    let e = count_by-cons (λ c. not (ended c)) x xs in
    let rest = without ended xs b h in
    ⊎_elim
    (λ (same : b ≡ x).
    let one : (b == x) ≡ true = eq-eqb b x same in
    let two : (x == b) ≡ true = eq-eqb x b (sym same) in
    let three : ended x ≡ false = subst (λ n. ended n ≡ false) same h in
    let k = ap (λ v. cond {A = ℕ} (not (v || ended x)) 1 0) one in
    let l = ap (λ v. cond {A = ℕ} v 1 0) two in
    let m = ap (λ v. cond {A = ℕ} (not v) 1 0) three in
    omega (arith, a, d, e, rest, k, l, m))
    (λ (other : b ≡ x → ⊥).
    let one : (b == x) ≡ false = ne_eqb b x other in
    let two : (x == b) ≡ false = ne_eqb x b (λ q. other (sym q)) in
    let k = ap (λ v. cond {A = ℕ} (not (v || ended x)) 1 0) one in
    let l = ap (λ v. cond {A = ℕ} v 1 0) two in
    omega (arith, a, d, e, rest, k, l))
    (cases_eq b x)

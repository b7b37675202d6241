-- A report, line by line.
use Rattle.std.proofs.Common.{◌≡◌, ℕ, ◌+◌, ◌==◌, Bool, true, List, [], ◌∷◌, ◌++◌, reverse, Option, Some, None, is_some, option_and_then, refl, ap, sym, ◌∙◌, subst, append_assoc}
use Rattle.std.specs.List.{flat_map, range_with_len, slice_get}
use Rattle.std.specs.Prelude.{find}
use Rattle.std.specs.Borrow.{Bor}
use Rattle.std.specs.Option.{option_map_or}
use Rattle.std.proofs.lemmas.Bool.{eqb-true}
use Rattle.std.proofs.lemmas.List.{append-nil}
use Rattle.gcd_facts.proofs.Ranges.{flat_range_more}
use Rattle.gcd_plan.specs.PlanView.{PlanView}
use Rattle.gcd_plan.specs.Kinds.{is_node}
use Rattle.gcd_plan.specs.Validity.{IsPlan}
use Rattle.gcd_plan.specs.declared.numbers.Obj.{Obj}
use Rattle.gcd_event.specs.declared.event.Event.{Event}
use Rattle.gcd_history.specs.declared.submission.Submission.{Submission}
use Rattle.gcd_history.specs.History.{is_submitted, node_of}
use Rattle.gcd_history.specs.Submitted.{submitted, submission_of, main_submission, new_submissions}
use Rattle.gcd_history.proofs.Lists.{found_passes}
use Rattle.gcd_history.proofs.Blocks.SubmittedOnNodes.{submitted_fit, on_a_node}

-- a text that has grown by the lines so far, and by one more
pub line_more : (f : ℕ → List ℕ) (n : ℕ) (began old new : List ℕ) → old ≡ began ++ flat_map f (range_with_len 0 n) → new ≡ old ++ f n → new ≡ began ++ flat_map f (range_with_len 0 (n + 1))
line_more f n began old new before now =
    now ∙ ap (λ l. l ++ f n) before ∙ append_assoc began (flat_map f (range_with_len 0 n)) (f n) ∙ ap (λ l. began ++ l) (sym (flat_range_more f n))

-- by none, and by all
pub lines_none : (f : ℕ → List ℕ) (began : List ℕ) → began ≡ began ++ flat_map f (range_with_len 0 0)
lines_none f began = sym (append-nil began)

pub lines_all : (f : ℕ → List ℕ) (n m : ℕ) (began now : List ℕ) → n ≡ m → now ≡ began ++ flat_map f (range_with_len 0 n) → now ≡ began ++ flat_map f (range_with_len 0 m)
lines_all f n m began now same is = subst (λ k. now ≡ began ++ flat_map f (range_with_len 0 k)) same is

-- a text that has grown by two parts
pub two_parts : (began mid now a b : List ℕ) → mid ≡ began ++ a → now ≡ mid ++ b → now ≡ began ++ (a ++ b)
two_parts began mid now a b first second = second ∙ ap (λ l. l ++ b) first ∙ append_assoc began a b

-- `main` is submitted from the outset
main_first : (plan : PlanView) (past : List Event) → (more : List Submission) × (submitted plan past ≡ main_submission ∷ more)
main_first plan [] = ([], refl)
main_first plan (e ∷ past) =
    let t = main_first plan past in
    (t.0 ++ new_submissions plan past e, ap (λ l. l ++ new_submissions plan past e) t.1)

pub main_submitted : (plan : PlanView) (h : List Event) → is_submitted plan h 0 ≡ true
unfolding is_submitted
main_submitted plan h = ap (λ l. is_some (find (λ s. s.blk.0 == 0) l)) (main_first plan (reverse h)).1

-- and another block is where it has a node
on_node_is : (plan : PlanView) (past : List Event) (b : ℕ) (o : Option Submission) → IsPlan plan → (b ≡ 0 → ⊥) → submission_of plan past b ≡ o → is_some (option_and_then (λ s. s.node) o) ≡ is_some o
on_node_is plan past b None valid other at = refl
on_node_is plan past b (Some s) valid other at =
    let found = found_passes (λ t. t.blk.0 == b) (on_a_node plan) (submitted plan past) s at (submitted_fit plan past valid) in
    has_node s.node (s.blk.0 == 0) found.1 (λ main. other (sym (eqb-true s.blk.0 b found.0) ∙ eqb-true s.blk.0 0 main))
  where
    has_node : (node : Option Obj) (main : Bool) → option_map_or (λ o. is_node plan o.0) node main ≡ true → (main ≡ true → ⊥) → is_some node ≡ true
    has_node None main h not_main = absurd (not_main h)
    has_node (Some o) main h not_main = refl

pub others_submitted : (plan : PlanView) (h : List Event) (b : ℕ) → IsPlan plan → (b ≡ 0 → ⊥) → is_some (node_of plan h b) ≡ is_submitted plan h b
unfolding is_submitted node_of
others_submitted plan h b valid other = on_node_is plan (reverse h) b (submission_of plan (reverse h) b) valid other refl

-- a text that has grown by three parts
pub three_parts : (began one two now a b c : List ℕ) → one ≡ began ++ a → two ≡ one ++ b → now ≡ two ++ c → now ≡ began ++ (a ++ (b ++ c))
three_parts began one two now a b c first second third =
    two_parts began one now a (b ++ c) first (two_parts one two now b c second third)

-- the item that a slice gives stands there
pub last_there : {A : Type 0} (xs : List A) (i : ℕ) (e : Bor A) → Some e.now ≡ slice_get xs i → slice_get xs i ≡ Some e.now
last_there xs i e at = sym at

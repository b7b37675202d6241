-- What is wrong with a line, by the form of its first word.
use Rattle.std.proofs.Common.{◌≡◌, ℕ, ◌<◌, ◌≤◌, ◌==◌, Bool, true, false, if◌then◌else◌, List, [], ◌∷◌, length, Option, Some, None, Result, Ok, Err, IfErr, refl, ap, ◌∙◌, arith, codes}
use Rattle.std.specs.Str.{bytes_eq}
use Rattle.std.proofs.lemmas.Bool.{ne_eqb}
use Rattle.std.proofs.lemmas.Slice.Eq.{bytes_eq-Decides}
use Rattle.gcd_event.specs.declared.event.Event.{Event}
use Rattle.gcd_text.specs.Fields.{fields_of}
use Rattle.gcd_journal.specs.declared.cause.Field.{Field}
use Rattle.gcd_journal.specs.declared.cause.Field.TheVariants.{Worker, Block, OtherBlock, Source, Run, Index, Sender, Time, Bytes, Code}
use Rattle.gcd_journal.specs.declared.cause.JournalCause.{JournalCause}
use Rattle.gcd_journal.specs.declared.cause.JournalCause.TheVariants.{NoForm}
use Rattle.gcd_journal.specs.Forms.{form_of, misfit_from, fault_by, fault_in}
use Rattle.gcd_journal.specs.Spelling.{Look}
use Rattle.gcd_journal.proofs.Cuts.{some_field}

-- the texts do not fit the form of the word
pub of_form : (look : Look) (word name : List ℕ) (form : List Field) (texts : List (List ℕ)) (r : Result Event JournalCause) → bytes_eq word name ≡ true → form_of name ≡ Some form
    → (length form == length texts) ≡ true → IfErr r (λ why. misfit_from look 2 form texts ≡ Some why) → IfErr r (λ why. fault_in look (word ∷ texts) ≡ Some why)
unfolding fault_in
of_form look word name form texts (Ok e) is has long wrong = tt
of_form look word name form texts (Err why) is has long wrong =
    let same : form_of word ≡ Some form = ap form_of ((bytes_eq-Decides word name).0 is) ∙ has in
    rw (same, long) wrong

-- a line of each word, whose texts do not fit its form
pub tick_unfit : (look : Look) (word a : List ℕ) (r : Result Event JournalCause) → bytes_eq word (codes "tick") ≡ true → IfErr r (λ why. misfit_from look 2 (Time ∷ []) (a ∷ []) ≡ Some why)
    → IfErr r (λ why. fault_in look (word ∷ a ∷ []) ≡ Some why)
unfolding form_of
tick_unfit look word a r is wrong = of_form look word (codes "tick") (Time ∷ []) (a ∷ []) r is refl refl wrong

pub feed_end_unfit : (look : Look) (word a : List ℕ) (r : Result Event JournalCause) → bytes_eq word (codes "feed_end") ≡ true → IfErr r (λ why. misfit_from look 2 (Source ∷ []) (a ∷ []) ≡ Some why)
    → IfErr r (λ why. fault_in look (word ∷ a ∷ []) ≡ Some why)
unfolding form_of
feed_end_unfit look word a r is wrong = of_form look word (codes "feed_end") (Source ∷ []) (a ∷ []) r is refl refl wrong

pub expire_unfit : (look : Look) (word a : List ℕ) (r : Result Event JournalCause) → bytes_eq word (codes "expire") ≡ true → IfErr r (λ why. misfit_from look 2 (Block ∷ []) (a ∷ []) ≡ Some why)
    → IfErr r (λ why. fault_in look (word ∷ a ∷ []) ≡ Some why)
unfolding form_of
expire_unfit look word a r is wrong = of_form look word (codes "expire") (Block ∷ []) (a ∷ []) r is refl refl wrong

pub ready_unfit : (look : Look) (word a b : List ℕ) (r : Result Event JournalCause) → bytes_eq word (codes "ready") ≡ true → IfErr r (λ why. misfit_from look 2 (Source ∷ Bytes ∷ []) (a ∷ b ∷ []) ≡ Some why)
    → IfErr r (λ why. fault_in look (word ∷ a ∷ b ∷ []) ≡ Some why)
unfolding form_of
ready_unfit look word a b r is wrong = of_form look word (codes "ready") (Source ∷ Bytes ∷ []) (a ∷ b ∷ []) r is refl refl wrong

pub accept_unfit : (look : Look) (word a b : List ℕ) (r : Result Event JournalCause) → bytes_eq word (codes "accept") ≡ true → IfErr r (λ why. misfit_from look 2 (OtherBlock ∷ Sender ∷ []) (a ∷ b ∷ []) ≡ Some why)
    → IfErr r (λ why. fault_in look (word ∷ a ∷ b ∷ []) ≡ Some why)
unfolding form_of
accept_unfit look word a b r is wrong = of_form look word (codes "accept") (OtherBlock ∷ Sender ∷ []) (a ∷ b ∷ []) r is refl refl wrong

pub start_unfit : (look : Look) (word a b : List ℕ) (r : Result Event JournalCause) → bytes_eq word (codes "start") ≡ true → IfErr r (λ why. misfit_from look 2 (Worker ∷ Block ∷ []) (a ∷ b ∷ []) ≡ Some why)
    → IfErr r (λ why. fault_in look (word ∷ a ∷ b ∷ []) ≡ Some why)
unfolding form_of
start_unfit look word a b r is wrong = of_form look word (codes "start") (Worker ∷ Block ∷ []) (a ∷ b ∷ []) r is refl refl wrong

pub end_unfit : (look : Look) (word a b : List ℕ) (r : Result Event JournalCause) → bytes_eq word (codes "end") ≡ true → IfErr r (λ why. misfit_from look 2 (Worker ∷ Block ∷ []) (a ∷ b ∷ []) ≡ Some why)
    → IfErr r (λ why. fault_in look (word ∷ a ∷ b ∷ []) ≡ Some why)
unfolding form_of
end_unfit look word a b r is wrong = of_form look word (codes "end") (Worker ∷ Block ∷ []) (a ∷ b ∷ []) r is refl refl wrong

pub wake_unfit : (look : Look) (word a b : List ℕ) (r : Result Event JournalCause) → bytes_eq word (codes "wake") ≡ true → IfErr r (λ why. misfit_from look 2 (Worker ∷ Block ∷ []) (a ∷ b ∷ []) ≡ Some why)
    → IfErr r (λ why. fault_in look (word ∷ a ∷ b ∷ []) ≡ Some why)
unfolding form_of
wake_unfit look word a b r is wrong = of_form look word (codes "wake") (Worker ∷ Block ∷ []) (a ∷ b ∷ []) r is refl refl wrong

pub deliver_unfit : (look : Look) (word a b : List ℕ) (r : Result Event JournalCause) → bytes_eq word (codes "deliver") ≡ true → IfErr r (λ why. misfit_from look 2 (Worker ∷ Source ∷ []) (a ∷ b ∷ []) ≡ Some why)
    → IfErr r (λ why. fault_in look (word ∷ a ∷ b ∷ []) ≡ Some why)
unfolding form_of
deliver_unfit look word a b r is wrong = of_form look word (codes "deliver") (Worker ∷ Source ∷ []) (a ∷ b ∷ []) r is refl refl wrong

pub deliver_end_unfit : (look : Look) (word a b : List ℕ) (r : Result Event JournalCause) → bytes_eq word (codes "deliver_end") ≡ true → IfErr r (λ why. misfit_from look 2 (Worker ∷ Source ∷ []) (a ∷ b ∷ []) ≡ Some why)
    → IfErr r (λ why. fault_in look (word ∷ a ∷ b ∷ []) ≡ Some why)
unfolding form_of
deliver_end_unfit look word a b r is wrong = of_form look word (codes "deliver_end") (Worker ∷ Source ∷ []) (a ∷ b ∷ []) r is refl refl wrong

pub act_unfit : (look : Look) (word a b c : List ℕ) (r : Result Event JournalCause) → bytes_eq word (codes "act") ≡ true → IfErr r (λ why. misfit_from look 2 (Worker ∷ Run ∷ Index ∷ []) (a ∷ b ∷ c ∷ []) ≡ Some why)
    → IfErr r (λ why. fault_in look (word ∷ a ∷ b ∷ c ∷ []) ≡ Some why)
unfolding form_of
act_unfit look word a b c r is wrong = of_form look word (codes "act") (Worker ∷ Run ∷ Index ∷ []) (a ∷ b ∷ c ∷ []) r is refl refl wrong

pub misuse_unfit : (look : Look) (word a b c d : List ℕ) (r : Result Event JournalCause) → bytes_eq word (codes "misuse") ≡ true → IfErr r (λ why. misfit_from look 2 (Worker ∷ Run ∷ Index ∷ Code ∷ []) (a ∷ b ∷ c ∷ d ∷ []) ≡ Some why)
    → IfErr r (λ why. fault_in look (word ∷ a ∷ b ∷ c ∷ d ∷ []) ≡ Some why)
unfolding form_of
misuse_unfit look word a b c d r is wrong = of_form look word (codes "misuse") (Worker ∷ Run ∷ Index ∷ Code ∷ []) (a ∷ b ∷ c ∷ d ∷ []) r is refl refl wrong

-- what holds of the form of each word, and of a word without one, holds of the word's
either : (P : Option (List Field) → Type 0) (t : Bool) (x y : Option (List Field)) → (t ≡ true → P x) → P y → P (if t then x else y)
either P true x y p q = p refl
either P false x y p q = q

pub form_cases : (P : Option (List Field) → Type 0) (word : List ℕ)
    → (bytes_eq word (codes "halt") ≡ true → P (Some []))
    → (bytes_eq word (codes "shut") ≡ true → P (Some []))
    → (bytes_eq word (codes "tick") ≡ true → P (Some (Time ∷ [])))
    → (bytes_eq word (codes "feed_end") ≡ true → P (Some (Source ∷ [])))
    → (bytes_eq word (codes "expire") ≡ true → P (Some (Block ∷ [])))
    → (bytes_eq word (codes "ready") ≡ true → P (Some (Source ∷ Bytes ∷ [])))
    → (bytes_eq word (codes "accept") ≡ true → P (Some (OtherBlock ∷ Sender ∷ [])))
    → (bytes_eq word (codes "start") ≡ true → P (Some (Worker ∷ Block ∷ [])))
    → (bytes_eq word (codes "end") ≡ true → P (Some (Worker ∷ Block ∷ [])))
    → (bytes_eq word (codes "wake") ≡ true → P (Some (Worker ∷ Block ∷ [])))
    → (bytes_eq word (codes "deliver") ≡ true → P (Some (Worker ∷ Source ∷ [])))
    → (bytes_eq word (codes "deliver_end") ≡ true → P (Some (Worker ∷ Source ∷ [])))
    → (bytes_eq word (codes "act") ≡ true → P (Some (Worker ∷ Run ∷ Index ∷ [])))
    → (bytes_eq word (codes "misuse") ≡ true → P (Some (Worker ∷ Run ∷ Index ∷ Code ∷ [])))
    → P None → P (form_of word)
unfolding form_of
form_cases P word if_halt if_shut if_tick if_feed_end if_expire if_ready if_accept if_start if_end if_wake if_deliver if_deliver_end if_act if_misuse none =
    either P (bytes_eq word (codes "halt")) _ _ if_halt (
    either P (bytes_eq word (codes "shut")) _ _ if_shut (
    either P (bytes_eq word (codes "tick")) _ _ if_tick (
    either P (bytes_eq word (codes "feed_end")) _ _ if_feed_end (
    either P (bytes_eq word (codes "expire")) _ _ if_expire (
    either P (bytes_eq word (codes "ready")) _ _ if_ready (
    either P (bytes_eq word (codes "accept")) _ _ if_accept (
    either P (bytes_eq word (codes "start")) _ _ if_start (
    either P (bytes_eq word (codes "end")) _ _ if_end (
    either P (bytes_eq word (codes "wake")) _ _ if_wake (
    either P (bytes_eq word (codes "deliver")) _ _ if_deliver (
    either P (bytes_eq word (codes "deliver_end")) _ _ if_deliver_end (
    either P (bytes_eq word (codes "act")) _ _ if_act (
    either P (bytes_eq word (codes "misuse")) _ _ if_misuse none)))))))))))))

-- a line of a word that has no form of so many fields
pub one_unformed : (look : Look) (word : List ℕ) → bytes_eq word (codes "halt") ≡ false → bytes_eq word (codes "shut") ≡ false → fault_in look (word ∷ []) ≡ Some NoForm
unfolding fault_in
one_unformed look word not_halt not_shut =
    form_cases (λ form. fault_by look form ([]) ≡ Some NoForm) word
    (λ is. cc) (λ is. cc) (λ is. refl) (λ is. refl) (λ is. refl) (λ is. refl) (λ is. refl) (λ is. refl) (λ is. refl) (λ is. refl) (λ is. refl) (λ is. refl) (λ is. refl) (λ is. refl) refl

pub two_unformed : (look : Look) (word a : List ℕ) → bytes_eq word (codes "tick") ≡ false → bytes_eq word (codes "feed_end") ≡ false → bytes_eq word (codes "expire") ≡ false → fault_in look (word ∷ a ∷ []) ≡ Some NoForm
unfolding fault_in
two_unformed look word a not_tick not_feed_end not_expire =
    form_cases (λ form. fault_by look form (a ∷ []) ≡ Some NoForm) word
    (λ is. refl) (λ is. refl) (λ is. cc) (λ is. cc) (λ is. cc) (λ is. refl) (λ is. refl) (λ is. refl) (λ is. refl) (λ is. refl) (λ is. refl) (λ is. refl) (λ is. refl) (λ is. refl) refl

pub three_unformed : (look : Look) (word a b : List ℕ) → bytes_eq word (codes "ready") ≡ false → bytes_eq word (codes "accept") ≡ false → bytes_eq word (codes "start") ≡ false → bytes_eq word (codes "end") ≡ false → bytes_eq word (codes "wake") ≡ false → bytes_eq word (codes "deliver") ≡ false → bytes_eq word (codes "deliver_end") ≡ false → fault_in look (word ∷ a ∷ b ∷ []) ≡ Some NoForm
unfolding fault_in
three_unformed look word a b not_ready not_accept not_start not_end not_wake not_deliver not_deliver_end =
    form_cases (λ form. fault_by look form (a ∷ b ∷ []) ≡ Some NoForm) word
    (λ is. refl) (λ is. refl) (λ is. refl) (λ is. refl) (λ is. refl) (λ is. cc) (λ is. cc) (λ is. cc) (λ is. cc) (λ is. cc) (λ is. cc) (λ is. cc) (λ is. refl) (λ is. refl) refl

pub four_unformed : (look : Look) (word a b c : List ℕ) → bytes_eq word (codes "act") ≡ false → fault_in look (word ∷ a ∷ b ∷ c ∷ []) ≡ Some NoForm
unfolding fault_in
four_unformed look word a b c not_act =
    form_cases (λ form. fault_by look form (a ∷ b ∷ c ∷ []) ≡ Some NoForm) word
    (λ is. refl) (λ is. refl) (λ is. refl) (λ is. refl) (λ is. refl) (λ is. refl) (λ is. refl) (λ is. refl) (λ is. refl) (λ is. refl) (λ is. refl) (λ is. refl) (λ is. cc) (λ is. refl) refl

pub five_unformed : (look : Look) (word a b c d : List ℕ) → bytes_eq word (codes "misuse") ≡ false → fault_in look (word ∷ a ∷ b ∷ c ∷ d ∷ []) ≡ Some NoForm
unfolding fault_in
five_unformed look word a b c d not_misuse =
    form_cases (λ form. fault_by look form (a ∷ b ∷ c ∷ d ∷ []) ≡ Some NoForm) word
    (λ is. refl) (λ is. refl) (λ is. refl) (λ is. refl) (λ is. refl) (λ is. refl) (λ is. refl) (λ is. refl) (λ is. refl) (λ is. refl) (λ is. refl) (λ is. refl) (λ is. refl) (λ is. cc) refl

-- six fields and more
pub six_unformed : (look : Look) (word a b c d rest : List ℕ) → fault_in look (word ∷ a ∷ b ∷ c ∷ d ∷ fields_of rest) ≡ Some NoForm
unfolding fault_in
six_unformed look word a b c d rest =
    let t = some_field rest in
    let many : 5 ≤ length (a ∷ b ∷ c ∷ d ∷ fields_of rest) = let is = ap length t.2 in omega arith in
    let other : (n : ℕ) → n < 5 → (n == length (a ∷ b ∷ c ∷ d ∷ fields_of rest)) ≡ false = λ n few. ne_eqb n _ (λ same. omega arith) in
    form_cases (λ form. fault_by look form (a ∷ b ∷ c ∷ d ∷ fields_of rest) ≡ Some NoForm) word
    (λ is. rw (other 0 (omega arith)) refl) (λ is. rw (other 0 (omega arith)) refl) (λ is. rw (other 1 (omega arith)) refl) (λ is. rw (other 1 (omega arith)) refl) (λ is. rw (other 1 (omega arith)) refl) (λ is. rw (other 2 (omega arith)) refl) (λ is. rw (other 2 (omega arith)) refl) (λ is. rw (other 2 (omega arith)) refl) (λ is. rw (other 2 (omega arith)) refl) (λ is. rw (other 2 (omega arith)) refl) (λ is. rw (other 2 (omega arith)) refl) (λ is. rw (other 2 (omega arith)) refl) (λ is. rw (other 3 (omega arith)) refl) (λ is. rw (other 4 (omega arith)) refl) refl

-- A line at fault has one cause.
use Rattle.std.proofs.Common.{◌≡◌, ℕ, ◌^◌, ◌<◌, List, ◌∷◌, ◌++◌, Option, Some, None, refl, ap, sym, ◌∙◌, subst}
use Rattle.std.proofs.Math.Path.{fun_ext}
use Rattle.gcd_plan.specs.PlanView.{PlanView}
use Rattle.gcd_plan.specs.Validity.{IsPlan}
use Rattle.gcd_plan.specs.declared.numbers.Run.{Run}
use Rattle.gcd_event.specs.declared.event.Event.{Event}
use Rattle.gcd_history.specs.JournalText.{event_line}
use Rattle.gcd_text.specs.Fields.{IsWithout, fields_of}
use Rattle.gcd_journal.specs.Causes.{IsCauseAt, IsCausedBy}
use Rattle.gcd_journal.specs.Forms.{fault_in}
use Rattle.gcd_journal.specs.Journals.{BeginsWith}
use Rattle.gcd_journal.specs.Named.{IsLookUp}
use Rattle.gcd_journal.specs.Spelling.{Look}
use Rattle.gcd_journal.specs.Spoken.{IsSpoken}
use Rattle.gcd_journal.specs.declared.cause.JournalCause.{JournalCause}
use Rattle.gcd_journal.proofs.Cuts.{without_line, no_line, cut_one_way}
use Rattle.gcd_journal.proofs.OneWay.{text_line, read_text, line_and_rest, one_place}
use Rattle.gcd_journal.proofs.Spelled.{text_of, faultless}

-- the look-up of a plan's names is one function
known_as : (plan : PlanView) (l m : Look) → IsLookUp plan l → IsLookUp plan m → (name : List ℕ) (run : Run) → l name ≡ Some run → m name ≡ Some run
known_as plan l m one other name run at =
    let is = one.sound name run at in
    subst (λ n. m n ≡ Some run) is.1 (other.known run is.0)

looks_agree : (plan : PlanView) (l m : Look) → IsLookUp plan l → IsLookUp plan m → l ≡ m
looks_agree plan l m one other = fun_ext (λ name. at name (l name) (m name) refl refl)
  where
    at : (name : List ℕ) (o p : Option Run) → l name ≡ o → m name ≡ p → o ≡ p
    at name None None is was = refl
    at name (Some run) p is was = sym (known_as plan l m one other name run is) ∙ was
    at name None (Some run) is was = sym is ∙ known_as plan m l other one name run was

module _ (plan : PlanView) (valid : IsPlan plan) where
  -- an event's line has an end, and nothing is wrong with it
  event_ends : (rest : List ℕ) (e : Event) → BeginsWith rest (event_line plan e) → IsWithout 10 rest → ⊥
  event_ends rest e begins without = no_line rest (text_of plan e) begins.rest without (begins.whole ∙ line_and_rest plan valid e begins.rest)

  event_right : (rest line more : List ℕ) (look : Look) (e : Event) (cause : JournalCause) → IsSpoken plan e → BeginsWith rest (event_line plan e) → rest ≡ line ++ 10 ∷ more → IsWithout 10 line
      → IsLookUp plan look → fault_in look (fields_of line) ≡ Some cause → ⊥
  event_right rest line more look e cause spoken begins cut without knows wrong =
      let same = (cut_one_way line (text_of plan e) more begins.rest (without_line line without) (text_line plan valid e spoken) (sym cut ∙ begins.whole ∙ line_and_rest plan valid e begins.rest)).0 in
      let right = ap (λ l. fault_in look (fields_of l)) same ∙ ap (fault_in look) (read_text plan valid e spoken) ∙ faultless plan look knows.known e spoken in
      let never : None ≡ Some cause = sym right ∙ wrong in
      cc

  causes_agree : (rest : List ℕ) (c d : JournalCause) → IsCauseAt plan rest c → IsCauseAt plan rest d → c ≡ d
  causes_agree rest c d (IsCauseAt.endless without is) (IsCauseAt.endless without' is') = is ∙ sym is'
  causes_agree rest c d (IsCauseAt.endless without is) (IsCauseAt.full e spoken begins is') = absurd (event_ends rest e begins without)
  causes_agree rest c d (IsCauseAt.endless without is) (IsCauseAt.odd line more look cut alone knows wrong) = absurd (no_line rest line more without cut)
  causes_agree rest c d (IsCauseAt.full e spoken begins is) (IsCauseAt.endless without is') = absurd (event_ends rest e begins without)
  causes_agree rest c d (IsCauseAt.full e spoken begins is) (IsCauseAt.full e' spoken' begins' is') = is ∙ sym is'
  causes_agree rest c d (IsCauseAt.full e spoken begins is) (IsCauseAt.odd line more look cut alone knows wrong) =
      absurd (event_right rest line more look e d spoken begins cut alone knows wrong)
  causes_agree rest c d (IsCauseAt.odd line more look cut alone knows wrong) (IsCauseAt.endless without is') = absurd (no_line rest line more without cut)
  causes_agree rest c d (IsCauseAt.odd line more look cut alone knows wrong) (IsCauseAt.full e spoken begins is') =
      absurd (event_right rest line more look e c spoken begins cut alone knows wrong)
  causes_agree rest c d (IsCauseAt.odd line more look cut alone knows wrong) (IsCauseAt.odd line' more' look' cut' alone' knows' wrong') =
      let same = (cut_one_way line line' more more' (without_line line alone) (without_line line' alone') (sym cut ∙ cut')).0 in
      let both = ap (λ l. fault_in look (fields_of l)) same ∙ ap (λ l. fault_in l (fields_of line')) (looks_agree plan look look' knows knows') in
      let equal : Some c ≡ Some d = sym wrong ∙ both ∙ wrong' in
      cc

  pub one_cause : (most : ℕ) → most < 2 ^ 64 → (text : List ℕ) (a b : ℕ) (c d : JournalCause) → IsCausedBy most plan text a c → IsCausedBy most plan text b d → c ≡ d
  one_cause most small text a b c d one other =
      let same = (one_place plan valid most small text a b one.refused other.refused).1 in
      causes_agree other.refused.rest c d (subst (λ rest. IsCauseAt plan rest c) same one.why) other.why

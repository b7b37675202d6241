-- A line has no fault exactly if it is an event's, and a line that is refused has a cause.
use Rattle.std.proofs.Common.{◌≡◌, ℕ, ◌==◌, Bool, not, true, false, List, [], ◌∷◌, ◌++◌, Option, Some, None, ◌⊎◌, inl, inr, refl, ap, sym, ◌∙◌}
use Rattle.std.proofs.lemmas.Bool.{and_from, eqb-true}
use Rattle.gcd_plan.specs.PlanView.{PlanView}
use Rattle.gcd_plan.specs.Validity.{IsPlan}
use Rattle.gcd_event.specs.declared.event.Event.{Event}
use Rattle.gcd_history.specs.JournalText.{event_line}
use Rattle.gcd_text.specs.Fields.{IsWithout, fields_of}
use Rattle.gcd_journal.specs.Causes.{IsCauseAt, IsCausedBy}
use Rattle.gcd_journal.specs.Forms.{fault_in}
use Rattle.gcd_journal.specs.Journals.{IsRefusedAt}
use Rattle.gcd_journal.specs.Named.{IsLookUp}
use Rattle.gcd_journal.specs.Spelling.{Look}
use Rattle.gcd_journal.specs.Spoken.{IsSpoken}
use Rattle.gcd_journal.specs.declared.cause.JournalCause.{JournalCause}
use Rattle.gcd_journal.specs.declared.cause.JournalCause.TheVariants.{NoEnd, TooMany}
use Rattle.gcd_journal.proofs.Cuts.{is_line, without_line, cut_one_way}
use Rattle.gcd_journal.proofs.Faultless.{faultless_spells}
use Rattle.gcd_journal.proofs.LookUp.{run_named, named_look}
use Rattle.gcd_journal.proofs.NextLines.{alone, line_is_its}
use Rattle.gcd_journal.proofs.OneWay.{text_line, read_text, line_and_rest}
use Rattle.gcd_journal.proofs.Spelled.{text_of, line_of_text, faultless}

-- the first line of a text
record FirstLine (text : List ℕ) : Type 0 where
  pub line : List ℕ
  pub more : List ℕ
  pub cut : text ≡ line ++ 10 ∷ more
  pub own : is_line line ≡ true

first_line : (text : List ℕ) → (is_line text ≡ true) ⊎ FirstLine text
first_line [] = inl refl
first_line (c ∷ text) = at (c == 10) refl (first_line text)
  where
    at : (t : Bool) → (c == 10) ≡ t → (is_line text ≡ true) ⊎ FirstLine text → (is_line (c ∷ text) ≡ true) ⊎ FirstLine (c ∷ text)
    at true is found = inr (record { line = []; more = text; cut = ap (λ d. d ∷ text) (eqb-true c 10 is); own = refl })
    at false is (inl own) = inl (and_from (not (c == 10)) (is_line text) (ap not is) own)
    at false is (inr found) = inr (record {
      line = c ∷ found.line;
      more = found.more;
      cut = ap (λ l. c ∷ l) found.cut;
      own = and_from (not (c == 10)) (is_line found.line) (ap not is) found.own;
    })

module _ (plan : PlanView) (valid : IsPlan plan) where
  pub faultless_line : (look : Look) (line : List ℕ) → IsLookUp plan look → fault_in look (fields_of line) ≡ None
      → (e : Event) × IsSpoken plan e × (event_line plan e ≡ line ++ 10 ∷ [])
  faultless_line look line knows none =
      let spelled = faultless_spells look (fields_of line) none in
      let its = line_is_its 0 plan look valid knows line spelled.0 spelled.1 in
      (spelled.0, its.0, line_of_text plan spelled.0 ∙ ap (λ l. l ++ 10 ∷ []) its.1)

  pub event_faultless : (look : Look) (line : List ℕ) (e : Event) → IsLookUp plan look → IsWithout 10 line → IsSpoken plan e → event_line plan e ≡ line ++ 10 ∷ []
      → fault_in look (fields_of line) ≡ None
  event_faultless look line e knows without spoken is =
      let same = (cut_one_way line (text_of plan e) [] [] (without_line line without) (text_line plan valid e spoken) (sym is ∙ line_of_text plan e)).0 in
      ap (λ l. fault_in look (fields_of l)) same ∙ ap (fault_in look) (read_text plan valid e spoken) ∙ faultless plan look knows.known e spoken

  cause_of_line : (rest line more : List ℕ) (why : Option JournalCause) → rest ≡ line ++ 10 ∷ more → is_line line ≡ true → fault_in (run_named plan) (fields_of line) ≡ why
      → (cause : JournalCause) × IsCauseAt plan rest cause
  cause_of_line rest line more (Some cause) cut own is =
      (cause, IsCauseAt.odd line more (run_named plan) cut (alone line own) (named_look plan valid) is)
  cause_of_line rest line more None cut own is =
      let spelled = faultless_spells (run_named plan) (fields_of line) is in
      let its = line_is_its 0 plan (run_named plan) valid (named_look plan valid) line spelled.0 spelled.1 in (
        TooMany,
        IsCauseAt.full spelled.0 its.0
            (record { rest = more; whole = cut ∙ ap (λ l. l ++ 10 ∷ more) (sym its.1) ∙ sym (line_and_rest plan valid spelled.0 more) }) refl,
      )

  some_cause_at : (rest : List ℕ) → (cause : JournalCause) × IsCauseAt plan rest cause
  some_cause_at rest = elim (first_line rest) [
    | inl own ↦ (NoEnd, IsCauseAt.endless (alone rest own) refl)
    | inr found ↦ cause_of_line rest found.line found.more (fault_in (run_named plan) (fields_of found.line)) found.cut found.own refl
  ]

  pub some_cause : (most : ℕ) (text : List ℕ) (line : ℕ) → IsRefusedAt most plan text line → (cause : JournalCause) × IsCausedBy most plan text line cause
  some_cause most text line refused =
      let found = some_cause_at refused.rest in
      (found.0, record { refused = refused; why = found.1 })

-- How a text is read, line by line.
use Rattle.std.proofs.Common.{ℕ, ◌≡◌, ◌+◌, Bool, true, false, cond, List, [], ◌∷◌, Option, Some, None, subst, Result, Ok, Err, option_map, refl, sym, ap, ◌∙◌}
use Rattle.std.specs.Option.{option_map_or}
use Rattle.std.specs.Result.{result_err}
use Rattle.gcd_plan.specs.PlanView.{PlanView}
use Rattle.gcd_plan.specs.Validity.{IsPlan}
use Rattle.gcd_script.specs.declared.fault.ParseFault.{ParseFault}
use Rattle.gcd_script.specs.declared.fault.ParseFault.TheVariants.{Refused, Memory}
use Rattle.gcd_script.specs.declared.line.Line.{Line}
use Rattle.gcd_script.specs.declared.refusal.Refusal.{Refusal}
use Rattle.gcd_script.specs.declared.refusal.Refusal.TheVariants.{NoForm, NotOneMain}
use Rattle.gcd_script.specs.Changes.{change, after}
use Rattle.gcd_script.specs.Codes.{refusal_code}
use Rattle.gcd_script.specs.Drafts.{DraftView, empty_draft, counted}
use Rattle.gcd_script.specs.Faults.{is_mark, is_skipped, line_meant, after_line, going_on, draft_after, ended, script_of, fault_of, IsScriptOf}
use Rattle.gcd_script.specs.Judged.{line_of}
use Rattle.gcd_script.specs.Lines.{lines_of, words_of, is_printable}
use Rattle.gcd_script.specs.Meant.{Meant, meant}
use Rattle.gcd_script.specs.Refusals.{IsRefusal, IsLineRefusal}
use Rattle.gcd_script.specs.Sound.{IsDraft, IsRight}
use Rattle.gcd_script.proofs.Inversions.{made_of, passed}
use Rattle.gcd_script.proofs.RightLines.{line_right, change_sound, empty_sound}

-- a line that is not skipped means what its words mean
meant_line : (d : DraftView) (words : List (List ℕ)) (line : Line (List ℕ)) → cond (is_skipped words) (Ok None) (meant Some (line_of d words)) ≡ Ok (Some line) → line_of d words ≡ Ok line
meant_line d words line h =
    elim (is_skipped words) as (λ t. cond t (Ok None) (meant Some (line_of d words)) ≡ Ok (Some line) → line_of d words ≡ Ok line) [
      | true ↦ λ k. cc
      | false ↦ λ k. made (line_of d words) k
    ] h
  where
    made : (m : Meant (Line (List ℕ))) → meant Some m ≡ Ok (Some line) → m ≡ Ok line
    made (Ok l) k = let same : l ≡ line = cc in ap Ok same
    made (Err p) k = cc

-- and is right
pub read_right : (d : DraftView) → IsDraft d → (bytes : List ℕ) (line : Line (List ℕ)) → line_meant d bytes ≡ Ok (Some line) → IsRight d line
read_right d sound bytes line h =
    line_right d sound (words_of bytes) line
    (meant_line d (words_of bytes) line
    (passed (is_printable bytes) (cond (is_skipped (words_of bytes)) (Ok None) (meant Some (line_of d (words_of bytes)))) (Some line) h))

-- where its words are of no form, it means nothing
pub no_line : (d : DraftView) (bytes : List ℕ) (first : List ℕ) (words : List (List ℕ)) → is_printable bytes ≡ true → words_of bytes ≡ first ∷ words → is_mark first ≡ false → line_of d (first ∷ words) ≡ Err NoForm → line_meant d bytes ≡ Err NoForm
no_line d bytes first words printed cut unmarked none =
    ap (λ t. cond t (cond (is_skipped (words_of bytes)) (Ok None) (meant Some (line_of d (words_of bytes)))) (Err NoForm)) printed
    ∙ ap (λ ws. cond (is_skipped ws) (Ok None) (meant Some (line_of d ws))) cut
    ∙ ap (λ t. cond t (Ok None) (meant Some (line_of d (first ∷ words)))) unmarked
    ∙ ap (meant Some) none

-- a count of the line keeps a draft sound
pub counted_sound : (d : DraftView) → IsDraft d → IsDraft (counted d)
counted_sound d sound = record { valid = sound.valid; body = sound.body; marks = sound.marks }

-- so a line that is read keeps a draft sound
next_sound : (d : DraftView) → IsDraft d → (bytes : List ℕ) (right : Option (Line (List ℕ))) → line_meant d bytes ≡ Ok right → IsDraft (option_map_or (λ l. after l d) right (counted d))
next_sound d sound bytes None h = counted_sound d sound
next_sound d sound bytes (Some line) h = counted_sound (change line d) (change_sound d sound line (read_right d sound bytes line h))

pub line_sound : (d : DraftView) → IsDraft d → (bytes : List ℕ) (next : DraftView) → after_line d bytes ≡ Ok next → IsDraft next
line_sound d sound bytes next h =
    let m = made_of (λ right. option_map_or (λ l. after l d) right (counted d)) (line_meant d bytes) next h in
    subst IsDraft m.2 (next_sound d sound bytes m.0 m.1)

-- and so do many
pub lines_sound : (lines : List (List ℕ)) (d e : DraftView) → IsDraft d → draft_after d lines ≡ Ok e → IsDraft e
lines_sound [] d e sound h = let same : d ≡ e = cc in subst IsDraft same sound
lines_sound (line ∷ lines) d e sound h =
    elim (after_line d line) as (λ m. after_line d line ≡ m → going_on (d.lines + 1) (λ next. draft_after next lines) m ≡ Ok e → IsDraft e) [
      | Ok next ↦ λ is k. lines_sound lines next e (line_sound d sound line next is) k
      | Err why ↦ λ is k. cc
    ] refl h

-- the lines of a text that are left lead where all of them lead
abbrev pub Leads : (bytes : List ℕ) → DraftView → (rest : List ℕ) → Type 0
Leads bytes d rest = draft_after d (lines_of rest) ≡ draft_after empty_draft (lines_of bytes)

module _ (bytes rest : List ℕ) (d : DraftView) (leads : Leads bytes d rest) where
  module _ (line more : List ℕ) (next : lines_of rest ≡ line ∷ lines_of more) where
    stepped : going_on (d.lines + 1) (λ e. draft_after e (lines_of more)) (after_line d line) ≡ draft_after empty_draft (lines_of bytes)
    stepped = ap (draft_after d) (sym next) ∙ leads

    -- a right line was read
    pub leads_on : (new : DraftView) → after_line d line ≡ Ok new → Leads bytes new more
    leads_on new after = ap (going_on (d.lines + 1) (λ e. draft_after e (lines_of more))) (sym after) ∙ stepped

    at_fault : (m : Meant DraftView) (code : ℕ) → after_line d line ≡ m → option_map refusal_code (result_err m) ≡ Some code → fault_of bytes ≡ Some (d.lines + 1, code)
    at_fault (Ok new) code is h = cc
    at_fault (Err why) code is h =
        let told : script_of bytes ≡ Err (d.lines + 1, why) = ap ended (sym stepped ∙ ap (going_on (d.lines + 1) (λ e. draft_after e (lines_of more))) is) in
        let same : refusal_code why ≡ code = cc in
        ap (λ r. option_map (λ fault. (fault.0, refusal_code fault.1)) (result_err r)) told ∙ ap (λ n. Some (d.lines + 1, n)) same

    -- a line at fault was met
    pub refusal : (fault : ParseFault) → IsLineRefusal d line fault → IsRefusal bytes fault
    refusal (Refused at code why) h = at_fault (after_line d line) code refl h.1 ∙ ap (λ n. Some (n, code)) (sym h.0)
    refusal Memory h = tt

  module _ (end : lines_of rest ≡ []) where
    whole : script_of bytes ≡ ended (Ok d)
    whole = ap ended (sym (ap (draft_after d) (sym end) ∙ leads))

    -- the whole text was read, and `main` stands
    pub is_script : d.has_main ≡ true → IsScriptOf bytes d.plan
    is_script has_main = whole ∙ ap (λ t. cond t (Ok d.plan) (Err (d.lines + 1, NotOneMain))) has_main

    -- the whole text was read, and no `main` stands
    pub lacks_main : d.has_main ≡ false → fault_of bytes ≡ Some (d.lines + 1, 9)
    lacks_main has_main =
        ap (λ r. option_map (λ fault. (fault.0, refusal_code fault.1)) (result_err r))
        (whole ∙ ap (λ t. cond t (Ok d.plan) (Err (d.lines + 1, NotOneMain))) has_main)

-- the plan of a script is valid
ended_case : (test : Bool) (d : DraftView) (plan : PlanView) → IsPlan d.plan → ◌≡◌ {A = Result PlanView (ℕ × Refusal)} (cond test (Ok d.plan) (Err (d.lines + 1, NotOneMain))) (Ok plan) → IsPlan plan
ended_case true d plan valid h = let same : d.plan ≡ plan = cc in subst IsPlan same valid
ended_case false d plan valid h = cc

ended_valid : (r : Result DraftView (ℕ × Refusal)) (plan : PlanView) → ((d : DraftView) → r ≡ Ok d → IsDraft d) → ended r ≡ Ok plan → IsPlan plan
ended_valid (Ok d) plan sound h = ended_case d.has_main d plan (sound d refl).valid h
ended_valid (Err fault) plan sound h = cc

pub declares_valid : (bytes : List ℕ) (plan : PlanView) → IsScriptOf bytes plan → IsPlan plan
declares_valid bytes plan h =
    ended_valid (draft_after empty_draft (lines_of bytes)) plan (λ d is. lines_sound (lines_of bytes) empty_draft d empty_sound is) h

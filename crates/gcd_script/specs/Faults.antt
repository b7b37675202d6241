-- Which texts are scripts, and where and why another is refused.
use Rattle.std.specs.Prelude.{◌≡◌, ℕ, ◌+◌, ◌==◌, Bool, true, false, if◌then◌else◌, List, [], ◌∷◌, Option, Some, None, Result, Ok, Err, option_map, slice_get}
use Rattle.std.specs.Option.{option_map_or}
use Rattle.std.specs.Result.{result_err}
use Rattle.gcd_plan.specs.PlanView.{PlanView}
use Rattle.gcd_script.specs.declared.line.Line.{Line}
use Rattle.gcd_script.specs.declared.refusal.Refusal.{Refusal}
use Rattle.gcd_script.specs.declared.refusal.Refusal.TheVariants.{NotOneMain}
use Rattle.gcd_script.specs.Changes.{after}
use Rattle.gcd_script.specs.Codes.{refusal_code}
use Rattle.gcd_script.specs.Drafts.{DraftView, empty_draft, counted}
use Rattle.gcd_script.specs.Judged.{line_of}
use Rattle.gcd_script.specs.Lines.{lines_of, words_of, is_printable}
use Rattle.gcd_script.specs.Meant.{Meant, meant, given}

-- the word begins with `#`
abbrev pub is_mark : List ℕ → Bool
is_mark word = option_map_or (λ c. c == 35) (slice_get word 0) false

-- the words are those of a line that is skipped: none, or the first begins with `#`
abbrev pub is_skipped : List (List ℕ) → Bool
is_skipped [] = true
is_skipped (first ∷ words) = is_mark first

-- what a line means; None where it is skipped
abbrev pub line_meant : DraftView → List ℕ → Meant (Option (Line (List ℕ)))
line_meant d line =
    given (is_printable line) (if is_skipped (words_of line) then Ok None else meant Some (line_of d (words_of line)))

-- the draft after one line more
abbrev pub after_line : DraftView → List ℕ → Meant DraftView
after_line d line = meant (λ right. option_map_or (λ l. after l d) right (counted d)) (line_meant d line)

-- what follows a line of this number: the next draft goes on, and a refusal is told with the number
abbrev pub going_on : (number : ℕ) → (DraftView → Result DraftView (ℕ × Refusal)) → Meant DraftView → Result DraftView (ℕ × Refusal)
going_on number next (Ok d) = next d
going_on number next (Err why) = Err (number, why)

-- the draft after these lines; where one is at fault, the number of the first and why
abbrev pub draft_after : DraftView → List (List ℕ) → Result DraftView (ℕ × Refusal)
draft_after d [] = Ok d
draft_after d (line ∷ lines) = going_on (d.lines + 1) (λ next. draft_after next lines) (after_line d line)

-- the plan at the end; where no line is `main`, the line after the last is at fault
abbrev pub ended : Result DraftView (ℕ × Refusal) → Result PlanView (ℕ × Refusal)
ended (Ok d) = if d.has_main then Ok d.plan else Err (d.lines + 1, NotOneMain)
ended (Err fault) = Err fault

-- the plan of a text, or its first line at fault and why
abbrev pub script_of : List ℕ → Result PlanView (ℕ × Refusal)
script_of bytes = ended (draft_after empty_draft (lines_of bytes))

-- the text is a script, and declares the plan
abbrev pub IsScriptOf : List ℕ → PlanView → Type 0
IsScriptOf bytes plan = script_of bytes ≡ Ok plan

-- the first line at fault of a text, and its code; None where it is a script
abbrev pub fault_of : List ℕ → Option (ℕ × ℕ)
fault_of bytes = option_map (λ fault. (fault.0, refusal_code fault.1)) (result_err (script_of bytes))

use Rattle.std.proofs.Common.{◌≡◌, Option, Some, Ok, List, ℕ, option_map, sym, ap, ◌∙◌}
use Rattle.gcd_script.specs.declared.line.Line.{Line}
use Rattle.gcd_script.specs.Changes.{change}
use Rattle.gcd_script.specs.Faults.{line_meant}
use Rattle.gcd_script.specs.Meant.{Meant}
use Rattle.gcd_script.specs.Views.{draft_view, line_view}
use Rattle.gcd_script.proofs.Reading.{read_right, counted_sound}
use Rattle.gcd_script.proofs.RightLines.{change_sound}
use Rattle.gcd_script.proofs.parser.take_line.Goals as goal

pub add-requires-clause-right : goal.add-requires-clause-right
add-requires-clause-right c =
    let d = draft_view c.args.draft.now in
    let line = line_view c.in-Ok-Some.line in
    let meant : ◌≡◌ {A = Meant (Option (Line (List ℕ)))} (line_meant d c.args.line.now) (Ok (Some line)) =
    sym c.in-Ok-Some.ensures ∙ ap (λ o. Ok (option_map line_view o)) c.in-Ok-Some.field-0-is
    in
    read_right d c.requires.sound c.args.line.now line meant

pub returns-in_ok-add-in-Ok-Some-clause-sound : goal.returns-in_ok-add-in-Ok-Some-clause-sound
returns-in_ok-add-in-Ok-Some-clause-sound c =
    let d = draft_view c.args.draft.now in
    let line = line_view c.in-Ok-Some.line in
    let meant : ◌≡◌ {A = Meant (Option (Line (List ℕ)))} (line_meant d c.args.line.now) (Ok (Some line)) =
    sym c.in-Ok-Some.ensures ∙ ap (λ o. Ok (option_map line_view o)) c.in-Ok-Some.field-0-is
    in
    let right = read_right d c.requires.sound c.args.line.now line meant in
    rw c.in_ok-add-in-Ok-Some.ensures.view (counted_sound (change line d) (change_sound d c.requires.sound line right))

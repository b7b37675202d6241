use Rattle.std.proofs.Common.{◌<◌, length, sym, ◌∙◌, arith}
use Rattle.std.proofs.lemmas.List.{take_rest, length-drop}
use Rattle.gcd_text.proofs.FirstLines.{first_line, only_line, has_length}
use Rattle.gcd_text.proofs.lines.next_line.Goals as goal

pub returns-in-Some : goal.returns-in-Some
returns-in-Some c =
    let cut = first_line c.args.text.now c.in-Some.end (sym c.end_of_line.ensures ∙ c.in-Some.is) in
    rw take_rest (cut.0, rw length-drop (omega arith))

pub returns-in-None : goal.returns-in-None
returns-in-None c =
    let some : 0 < length c.args.text.now = has_length c.args.text.now (sym c.if-is_empty.ensures) in
    (only_line c.args.text.now (sym c.end_of_line.ensures ∙ c.in-None.is) some, some)

use Rattle.std.proofs.Common.{ap, sym, subst, refl, arith}
use Rattle.std.proofs.lemmas.Result.{err_from_is_err_and}
use Rattle.gcd_script.specs.Drafts.{DraftView}
use Rattle.gcd_script.specs.Sound.{IsDraft}
use Rattle.gcd_script.specs.Views.{draft_view}
use Rattle.gcd_script.proofs.Reading.{Leads, refusal}
use Rattle.gcd_script.proofs.RightLines.{empty_sound}
use Rattle.gcd_script.proofs.parser.parse.Goals as goal

pub loop-line-init : goal.loop-line-init
loop-line-init c =
    let is = c.in_ok-draft.ensures.view in
    let none = ap (λ (d : DraftView). d.lines) is in
    record {
      leads = subst (λ d. Leads c.args.bytes.now d c.args.bytes.now) (sym is) refl;
      agrees = c.in_ok-draft.ensures.agrees;
      sound = subst IsDraft (sym is) empty_sound;
      short = omega arith;
    }

pub returns-in_err-take_line-clause-refused : goal.returns-in_err-take_line-clause-refused
returns-in_err-take_line-clause-refused c =
    let p = err_from_is_err_and c.from_residual-in_err-take_line.result c.from_residual-in_err-take_line.ensures.1 in
    rw (p.1, p.2)
    (refusal c.args.bytes.now c.loop-line.rest.now (draft_view c.loop-line.draft) c.loop-line.invariant.leads
    c.in-Some.line.now c.in-Some.more.now c.in-Some.ensures.0 c.in_err-take_line.field-0.0 c.in_err-take_line.ensures.refused)

pub returns-in_err-take_line-clause-cause : goal.returns-in_err-take_line-clause-cause
returns-in_err-take_line-clause-cause c =
    let p = err_from_is_err_and c.from_residual-in_err-take_line.result c.from_residual-in_err-take_line.ensures.1 in
    rw (p.1, p.2) c.in_err-take_line.ensures.cause

use Rattle.std.proofs.Common.{◌∙◌, append-nil, refl, sym, inl}
use Rattle.std.proofs.lemmas.Result.{IfOk-weaker}
use Rattle.gcd_commands.specs.Calls.{only_loads}
use Rattle.gcd_commands.proofs.Hearing.{quiet}
use Rattle.gcd_commands.proofs.Loading.{on_any_err, on_err_map}
use Rattle.gcd_run.proofs.Words.{calls_of_words, hands_of_words, ok_anyhow, taken_asks, told_of_words}
use Rattle.gcd_words.specs.Requests.{asked_of}
use Rattle.gcd_run.proofs.top.tell.Goals as goal

pub returns-in_err-read_words-clause-wanting : goal.returns-in_err-read_words-clause-wanting
returns-in_err-read_words-clause-wanting g c = on_any_err c.from_residual.result
    (record {
      calls = only_loads 0;
      made = record { loads = λ _. refl; listens = quiet g.P.Poller.tells (g.P.Poller.state c.args.poller.now) };
      is = inl refl;
    })

pub returns-in-None-clause-reported : goal.returns-in-None-clause-reported
returns-in-None-clause-reported g c =
    let asked = rw (c.in-None.is) at c.in_ok-read_words.ensures.exact in
    IfOk-weaker c.usage.result _ _
    (λ s is. record {
      calls = only_loads 0;
      made = record { loads = λ _. refl; listens = quiet g.P.Poller.tells (g.P.Poller.state c.args.poller.now) };
      is = told_of_words _ _ _ _ _ asked (refl, is);
    })
    c.usage.ensures.told

pub returns-in-None-clause-wanting : goal.returns-in-None-clause-wanting
returns-in-None-clause-wanting g c = on_any_err c.usage.result
    (record {
      calls = only_loads 0;
      made = record { loads = λ _. refl; listens = quiet g.P.Poller.tells (g.P.Poller.state c.args.poller.now) };
      is = inl refl;
    })

pub returns-in-Some-Run-clause-reported : goal.returns-in-Some-Run-clause-reported
returns-in-Some-Run-clause-reported g c =
    let asked = rw (c.in-Some-Run.is, c.in-Some-Run.field-0-is) at c.in_ok-read_words.ensures.exact in
    IfOk-weaker c.tell_run.result _ _
    (λ s t. record { calls = t.calls; made = t.made; is = told_of_words _ _ _ _ _ asked t.is })
    c.tell_run.ensures.reported

pub returns-in-Some-Run-clause-wanting : goal.returns-in-Some-Run-clause-wanting
returns-in-Some-Run-clause-wanting g c =
    let asked = rw (c.in-Some-Run.is, c.in-Some-Run.field-0-is) at c.in_ok-read_words.ensures.exact in
    on_err_map c.tell_run.result
    (λ t. record { calls = t.calls; made = t.made; is = calls_of_words _ _ _ _ asked t.is })
    c.tell_run.ensures.wanting

pub returns-in-Some-Check-clause-reported : goal.returns-in-Some-Check-clause-reported
returns-in-Some-Check-clause-reported g c =
    let asked = rw (c.in-Some-Check.is, c.in-Some-Check.field-0-is) at c.in_ok-read_words.ensures.exact in
    IfOk-weaker c.tell_check.result _ _
    (λ s t. record {
      calls = only_loads t.loads;
      made = record { loads = t.made; listens = quiet g.P.Poller.tells (g.P.Poller.state c.args.poller.now) };
      is = told_of_words _ _ _ _ _ asked (record { loads = t.loads; calls_are = refl; ends = t.is });
    })
    c.tell_check.ensures.reported

pub returns-in-Some-Check-clause-wanting : goal.returns-in-Some-Check-clause-wanting
returns-in-Some-Check-clause-wanting g c =
    let asked = rw (c.in-Some-Check.is, c.in-Some-Check.field-0-is) at c.in_ok-read_words.ensures.exact in
    on_err_map c.tell_check.result
    (λ t. record {
      calls = only_loads t.loads;
      made = record { loads = t.made; listens = quiet g.P.Poller.tells (g.P.Poller.state c.args.poller.now) };
      is = calls_of_words _ _ _ _ asked (record { loads = t.loads; calls_are = refl; few = t.is });
    })
    c.tell_check.ensures.wanting

pub returns-in-Some-Big-clause-reported : goal.returns-in-Some-Big-clause-reported
returns-in-Some-Big-clause-reported g c =
    let asked = rw (c.in-Some-Big.is, c.in-Some-Big.field-0-is) at c.in_ok-read_words.ensures.exact in
    IfOk-weaker c.tell_large.result _ _
    (λ s t. record {
      calls = only_loads 0;
      made = record {
        loads = λ _. refl;
        listens = record { listens = c.tell_large.ensures.kept.listens; added = λ yes. c.tell_large.ensures.kept.addresses yes ∙ sym (append-nil _) };
      };
      is = told_of_words _ _ _ _ _ asked (refl, t);
    })
    c.tell_large.ensures.reported

pub returns-in-Some-Big-clause-wanting : goal.returns-in-Some-Big-clause-wanting
returns-in-Some-Big-clause-wanting g c = on_any_err c.tell_large.result
    (record {
      calls = only_loads 0;
      made = record {
        loads = λ _. refl;
        listens = record { listens = c.tell_large.ensures.kept.listens; added = λ yes. c.tell_large.ensures.kept.addresses yes ∙ sym (append-nil _) };
      };
      is = inl refl;
    })

pub returns-in-None-clause-taken : goal.returns-in-None-clause-taken
returns-in-None-clause-taken g c = ok_anyhow _ c.usage.result (taken_asks asked_of _ _ c.in_ok-read_words.ensures.exact c.in_ok-read_words.ensures.taken)

pub returns-in-Some-Run-clause-taken : goal.returns-in-Some-Run-clause-taken
returns-in-Some-Run-clause-taken g c = ok_anyhow _ c.tell_run.result (taken_asks asked_of _ _ c.in_ok-read_words.ensures.exact c.in_ok-read_words.ensures.taken)

pub returns-in-Some-Check-clause-taken : goal.returns-in-Some-Check-clause-taken
returns-in-Some-Check-clause-taken g c = ok_anyhow _ c.tell_check.result (taken_asks asked_of _ _ c.in_ok-read_words.ensures.exact c.in_ok-read_words.ensures.taken)

pub returns-in-Some-Big-clause-taken : goal.returns-in-Some-Big-clause-taken
returns-in-Some-Big-clause-taken g c = ok_anyhow _ c.tell_large.result (taken_asks asked_of _ _ c.in_ok-read_words.ensures.exact c.in_ok-read_words.ensures.taken)

pub returns-in-Some-Front-clause-reported : goal.returns-in-Some-Front-clause-reported
returns-in-Some-Front-clause-reported g c =
    let asked = rw (c.in-Some-Front.is, c.in-Some-Front.field-0-is) at c.in_ok-read_words.ensures.exact in
    IfOk-weaker c.tell_front.result _ _
    (λ s t. record {
      calls = only_loads t.loads;
      made = record {
        loads = t.made;
        listens = record { listens = c.tell_front.ensures.kept.listens; added = λ yes. c.tell_front.ensures.kept.addresses yes ∙ sym (append-nil _) };
      };
      is = told_of_words _ _ _ _ _ asked (record { loads = t.loads; calls_are = refl; ends = t.is });
    })
    c.tell_front.ensures.told

pub returns-in-Some-Front-clause-wanting : goal.returns-in-Some-Front-clause-wanting
returns-in-Some-Front-clause-wanting g c =
    let asked = rw (c.in-Some-Front.is, c.in-Some-Front.field-0-is) at c.in_ok-read_words.ensures.exact in
    on_err_map c.tell_front.result
    (λ t. record {
      calls = only_loads t.loads;
      made = record {
        loads = t.made;
        listens = record { listens = c.tell_front.ensures.kept.listens; added = λ yes. c.tell_front.ensures.kept.addresses yes ∙ sym (append-nil _) };
      };
      is = calls_of_words _ _ _ _ asked (record { loads = t.loads; calls_are = refl; few = t.is });
    })
    c.tell_front.ensures.wanting

pub returns-in-Some-Front-clause-taken : goal.returns-in-Some-Front-clause-taken
returns-in-Some-Front-clause-taken g c = ok_anyhow _ c.tell_front.result (taken_asks asked_of _ _ c.in_ok-read_words.ensures.exact c.in_ok-read_words.ensures.taken)

pub returns-in-None-clause-found : goal.returns-in-None-clause-found
returns-in-None-clause-found g c =
    let asked = rw (c.in-None.is) at c.in_ok-read_words.ensures.exact in
    IfOk-weaker c.usage.result _ _ (λ s is. hands_of_words _ _ _ _ _ asked is) c.usage.ensures.found

pub returns-in-Some-Run-clause-found : goal.returns-in-Some-Run-clause-found
returns-in-Some-Run-clause-found g c =
    let asked = rw (c.in-Some-Run.is, c.in-Some-Run.field-0-is) at c.in_ok-read_words.ensures.exact in
    IfOk-weaker c.tell_run.result _ _ (λ s is. hands_of_words _ _ _ _ _ asked is) c.tell_run.ensures.found

pub returns-in-Some-Check-clause-found : goal.returns-in-Some-Check-clause-found
returns-in-Some-Check-clause-found g c =
    let asked = rw (c.in-Some-Check.is, c.in-Some-Check.field-0-is) at c.in_ok-read_words.ensures.exact in
    IfOk-weaker c.tell_check.result _ _ (λ s is. hands_of_words _ _ _ _ _ asked is) c.tell_check.ensures.found

pub returns-in-Some-Big-clause-found : goal.returns-in-Some-Big-clause-found
returns-in-Some-Big-clause-found g c =
    let asked = rw (c.in-Some-Big.is, c.in-Some-Big.field-0-is) at c.in_ok-read_words.ensures.exact in
    IfOk-weaker c.tell_large.result _ _ (λ s is. hands_of_words _ _ _ _ _ asked is) c.tell_large.ensures.found

pub returns-in-Some-Front-clause-found : goal.returns-in-Some-Front-clause-found
returns-in-Some-Front-clause-found g c =
    let asked = rw (c.in-Some-Front.is, c.in-Some-Front.field-0-is) at c.in_ok-read_words.ensures.exact in
    IfOk-weaker c.tell_front.result _ _ (λ s is. hands_of_words _ _ _ _ _ asked is) c.tell_front.ensures.found

use Rattle.std.proofs.Common.{◌≡◌, ◌+◌, length, subst, arith}
use Rattle.gcd_history.specs.JournalText.{count_line}
use Rattle.gcd_journal.specs.Journals.{BeginsWith}
use Rattle.gcd_journal.specs.Named.{look_of}
use Rattle.gcd_journal.specs.NextLine.{IsFault}
use Rattle.gcd_journal.proofs.NextLines.{nothing_read, one_more_read, spelled_fits, whole_journal, fault_is_refused, fault_is_caused, line_length}
use Rattle.gcd_journal.proofs.reader.read_journal.Goals as goal

pub lines-init : goal.lines-init
lines-init c = rw c.new-events.ensures.items (nothing_read c.args.most c.args.plan.now c.args.bytes.now)

pub lines-smaller : goal.lines-smaller
lines-smaller c = line_length (look_of c.in_ok-names.names.runs) c.lines.rest.now c.in-Spoken.more.now c.in-Spoken.e c.in-Spoken.ensures.0

pub add-requires : goal.add-requires
add-requires c =
    spelled_fits c.args.most c.args.plan.now (look_of c.in_ok-names.names.runs) c.in_ok-names.ensures.valid c.in_ok-names.ensures.known
    c.lines.rest.now c.in-Spoken.more.now c.in-Spoken.e c.in-Spoken.ensures.0

pub lines-preserved : goal.lines-preserved
lines-preserved c =
    rw c.in_ok-add-in-Spoken.ensures
    (one_more_read c.args.most c.args.plan.now (look_of c.in_ok-names.names.runs) c.in_ok-names.ensures.valid c.in_ok-names.ensures.known
    c.args.bytes.now c.lines.events.items c.lines.rest.now c.in-Spoken.more.now c.in-Spoken.e c.lines.invariant c.in-Spoken.ensures.0 (omega (arith, c.in-Spoken.ensures.1)))

pub returns-in-Count-clause-journal : goal.returns-in-Count-clause-journal
returns-in-Count-clause-journal c =
    let same : c.len.result ≡ length c.lines.events.items = omega arith in
    whole_journal c.args.most c.args.plan.now (look_of c.in_ok-names.names.runs) c.in_ok-names.ensures.valid c.in_ok-names.ensures.known
    c.args.bytes.now c.lines.events.items c.lines.rest.now c.lines.invariant (subst (λ n. BeginsWith c.lines.rest.now (count_line n)) same c.in-Count.ensures)

pub returns-in-Fault-clause-fault : goal.returns-in-Fault-clause-fault
returns-in-Fault-clause-fault c =
    let same : c.len.result ≡ length c.lines.events.items = omega arith in
    fault_is_refused c.args.most c.args.plan.now (look_of c.in_ok-names.names.runs) c.in_ok-names.ensures.valid c.in_ok-names.ensures.known
    c.args.bytes.now c.lines.events.items c.lines.rest.now (c.len-in-Fault.result + 1) c.in-Fault.cause c.lines.invariant
    (subst (λ n. IsFault c.args.most (look_of c.in_ok-names.names.runs) c.lines.rest.now n c.in-Fault.cause) same c.in-Fault.ensures) (omega arith)

pub returns-in-Fault-clause-cause : goal.returns-in-Fault-clause-cause
returns-in-Fault-clause-cause c =
    let same : c.len.result ≡ length c.lines.events.items = omega arith in
    fault_is_caused c.args.most c.args.plan.now (look_of c.in_ok-names.names.runs) c.in_ok-names.ensures.valid c.in_ok-names.ensures.known
    c.args.bytes.now c.lines.events.items c.lines.rest.now (c.len-in-Fault.result + 1) c.in-Fault.cause c.lines.invariant
    (subst (λ n. IsFault c.args.most (look_of c.in_ok-names.names.runs) c.lines.rest.now n c.in-Fault.cause) same c.in-Fault.ensures) (omega arith)

pub returns-in-Fault-clause-near : goal.returns-in-Fault-clause-near
returns-in-Fault-clause-near c = let near = c.lines.invariant.near in omega arith

use Rattle.std.proofs.Common.{◌≡◌, ◌∙◌, ◌++◌, ap, sym, arith}
use Rattle.std.specs.List.{flat_map, range_with_len}
use Rattle.gcd_facts.proofs.Ranges.{flat_range_more}
use Rattle.gcd_history.specs.Report.{last_line}
use Rattle.gcd_commands.specs.Fronts.{sender_text}
use Rattle.gcd_commands.proofs.Lines.{text_is}
use Rattle.gcd_commands.proofs.front.text_of.Goals as goal

pub add_sender-requires : goal.add_sender-requires
add_sender-requires c = record { few = c.requires.few c.loop-sender.sender }

pub loop-sender-preserved : goal.loop-sender-preserved
loop-sender-preserved c =
    let line = sender_text c.args.values.now c.args.journal.now in
    c.in_ok-add_sender.ensures ∙ ap (λ l. l ++ line c.loop-sender.sender) c.loop-sender.invariant ∙ sym (flat_range_more line c.loop-sender.sender)

pub returns : goal.returns
returns c =
    let line = sender_text c.args.values.now c.args.journal.now in
    let all : c.loop-sender.sender ≡ c.args.senders = omega arith in
    c.in_ok-write_last_line.ensures.ok
    ∙ ap (λ l. l ++ last_line c.args.plan.now c.args.state c.args.journal.now) (c.loop-sender.invariant ∙ ap (λ n. flat_map line (range_with_len 0 n)) all)
    ∙ text_is c.args.values.now c.args.journal.now c.requires.others c.args.plan.now c.args.senders c.args.state

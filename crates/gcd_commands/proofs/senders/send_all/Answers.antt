use Rattle.std.proofs.Common.{◌≡◌, ◌∙◌, ◌+◌, ◌*◌, length, ap, sym, arith}
use Rattle.std.proofs.lemmas.List.FromFn.{length-map-range_with_len}
use Rattle.gcd_front.specs.Views.{MouthView, mouth_of, with_job}
use Rattle.gcd_commands.specs.Senders.{told}
use Rattle.gcd_commands.proofs.Sending.{told_more}
use Rattle.gcd_commands.proofs.senders.send_all.Goals as goal

pub send-requires-clause-count : goal.send-requires-clause-count
send-requires-clause-count g c =
    let sender = c.args.mouth.now.sender in
    let count : length c.loop-k.mouth.sent ≡ c.loop-k.k =
    ap (λ (m : MouthView _). length m.sent) c.loop-k.invariant ∙ length-map-range_with_len (told sender) 1 c.loop-k.k in
    omega (arith, count)

pub loop-k-preserved : goal.loop-k-preserved
loop-k-preserved g c =
    let m = c.args.mouth.now in
    let k = c.loop-k.k in
    let value : 1000 * c.from-first.result + c.from.result ≡ 1000 * m.sender + (k + 1) = omega (arith, c.from-first.ensures, c.from.ensures, c.sender.ensures) in
    c.send.ensures
    ∙ ap (λ n. with_job c.loop-k.mouth (record { 0 = n })) value
    ∙ ap (λ v. with_job v (told m.sender (k + 1))) c.loop-k.invariant
    ∙ ap (mouth_of m.front m.sender) (sym (told_more m.sender k))

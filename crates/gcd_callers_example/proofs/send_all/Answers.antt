use Rattle.std.proofs.Common.{rules, ◌≡◌, ◌≤◌, ◌∙◌, ◌++◌, [], List, ℕ, ap, arith, length, subst, sym, take}
use Rattle.std.proofs.Math.Seq.{take-append_seam}
use Rattle.std.proofs.lemmas.List.{append-nil, take_all}
use Rattle.gcd_front.specs.Views.{mouth_of}
use Rattle.gcd_callers_example.specs.declared.Line.{Line}
use Rattle.gcd_callers_example.proofs.send_all.Goals as goal

-- what was sent, if nothing is left
pub returns-in_default : goal.returns-in_default
returns-in_default g c =
    let was = c.loop.invariant in
    let m = c.args.mouth.now in
    let none : c.loop.lines.items ≡ [] = search rules in
    let all : c.loop.mouth.sent ≡ c.args.lines.now.items =
    sym (append-nil c.loop.mouth.sent) ∙ ap (λ (l : List Line). c.loop.mouth.sent ++ l) (sym none) ∙ was.split in
    let count = was.count in
    let end = c.loop.auto.counter-end in
    let few : length c.args.lines.now.items ≤ 4096 = let long = ap length all in omega (arith, count, long, end) in
    was.mouth ∙ ap (mouth_of m.front m.sender) (all ∙ sym (take_all 4096 c.args.lines.now.items few))

-- what was sent, if more may be left
pub returns : goal.returns
returns g c =
    let was = c.loop.invariant in
    let m = c.args.mouth.now in
    let count = was.count in
    let end = c.loop.auto.counter-end in
    let full : length c.loop.mouth.sent ≡ 4096 = omega (arith, count, end, c.loop-test.false) in
    let first : take 4096 (c.loop.mouth.sent ++ c.loop.lines.items) ≡ c.loop.mouth.sent =
    subst (λ (n : ℕ). take n (c.loop.mouth.sent ++ c.loop.lines.items) ≡ c.loop.mouth.sent) full (take-append_seam c.loop.mouth.sent c.loop.lines.items) in
    was.mouth ∙ ap (mouth_of m.front m.sender) (sym first ∙ ap (take 4096) was.split)

use Rattle.std.proofs.Common.{◌≡◌, ◌+◌, ◌*◌, ◌%◌, ◌∙◌, map, ap, arith}
use Rattle.std.specs.List.{range_with_len}
use Rattle.gcd_commands.specs.End.{large_file}
use Rattle.gcd_commands.proofs.large.large_bytes.Goals as goal

pub returns : goal.returns
unfolding large_file
returns c =
    let all : c.loop-i.i ≡ 4096 = omega arith in
    c.loop-i.invariant.bytes ∙ ap (λ n. map (λ i. (7 * i + 3) % 256) (range_with_len 0 n)) all

use Rattle.std.proofs.Common.{◌≡◌, ◌+◌, ◌++◌, length, ap, ◌∙◌, arith}
use Rattle.std.specs.List.{flat_map}
use Rattle.gcd_script.specs.BigScript.{big_block, big_act, ended_line}
use Rattle.gcd_script.specs.Faults.{fault_of}
use Rattle.gcd_script.proofs.BigText.{with_acts, one_block, one_act}
use Rattle.gcd_script.proofs.BigDrafts.{big_is_script}
use Rattle.gcd_script.proofs.BigLength.{big_few_bytes}
use Rattle.gcd_script.specs.BigScript.{big_script}
use Rattle.gcd_script.proofs.big.big_text.Goals as goal

pub loop-k-preserved : goal.loop-k-preserved
loop-k-preserved c =
    c.in_ok-push_block.ensures ∙ ap (λ t. t ++ ended_line (big_block (c.loop-k.k + 1))) c.loop-k.invariant ∙ one_block c.loop-k.k

pub loop-k-2-preserved : goal.loop-k-2-preserved
loop-k-2-preserved c =
    c.in_ok-push_act.ensures ∙ ap (λ t. t ++ ended_line (big_act (c.loop-k-2.k + 1))) c.loop-k-2.invariant ∙ one_act c.args.n c.loop-k-2.k

pub returns-clause-script : goal.returns-clause-script
returns-clause-script c =
    let all : c.loop-k-2.k ≡ c.args.n = omega arith in
    ap fault_of (c.loop-k-2.invariant ∙ ap (λ k. flat_map ended_line (with_acts c.args.n k)) all) ∙ big_is_script c.args.n c.requires.few

pub returns-clause-few_bytes : goal.returns-clause-few_bytes
returns-clause-few_bytes c =
    let all : c.loop-k-2.k ≡ c.args.n = omega arith in
    let text : c.loop-k-2.text.items ≡ big_script c.args.n = c.loop-k-2.invariant ∙ ap (λ k. flat_map ended_line (with_acts c.args.n k)) all in
    let few = big_few_bytes c.args.n c.requires.few in
    let same = ap length text in
    omega arith

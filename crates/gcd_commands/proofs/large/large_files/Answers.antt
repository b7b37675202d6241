use Rattle.std.proofs.Common.{◌≡◌, ◌∙◌, length, replicate, ap, sym, arith, rules}
use Rattle.std.proofs.lemmas.List.{length-map, map-append}
use Rattle.gcd_plan.specs.PlanView.{file_view}
use Rattle.gcd_commands.specs.End.{large_file}
use Rattle.gcd_commands.proofs.Totals.{all_same, one_more}
use Rattle.gcd_commands.proofs.large.large_files.Goals as goal

pub loop-preserved : goal.loop-preserved
loop-preserved c = record {
  files = rw (c.in_ok-push.ensures.items, map-append, c.loop.invariant.files, c.in_ok-large_bytes.ensures) (sym (one_more c.loop.counter large_file));
  within = search rules;
}

pub returns : goal.returns
returns c =
    let count : length c.files-end.result.now ≡ length c.args.plan.now.files =
    sym (length-map c.files-end.result.now file_view) ∙ ap length c.files-end.ensures.files in
    let all : c.loop.counter ≡ length c.files-end.result.now = omega (arith, c.loop.invariant.within) in
    c.loop.invariant.files ∙ ap (λ n. replicate n large_file) (all ∙ count) ∙ sym (all_same large_file c.args.plan.now.files)

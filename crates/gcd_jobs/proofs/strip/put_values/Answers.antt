use Rattle.std.proofs.Common.{arith, ◌-◌, ◌++◌, [], ◌∷◌, length, ap, sym, ◌∙◌, append_assoc}
use Rattle.std.proofs.lemmas.List.{length-append}
use Rattle.std.specs.Option.{option_map_or}
use Rattle.gcd_history.specs.Values.{work_value}
use Rattle.gcd_jobs.specs.Contents.{contents}
use Rattle.gcd_jobs.specs.StripValues.{values_from}
use Rattle.gcd_jobs.proofs.StripValues.{value_is, values_more}
use Rattle.gcd_jobs.proofs.strip.put_values.Goals as goal

pub loop-b-preserved : goal.loop-b-preserved
loop-b-preserved c =
    let plan = c.args.plan.now in
    let files = contents c.args.files.now in
    let base = c.args.into.now.items in
    let first = c.args.first in
    let low = c.loop-b.invariant.low in
    let room = c.loop-b.invariant.room in
    let value = c.run.ensures ∙ (c.new.ensures ∙ (ap (λ w. option_map_or (work_value files) w 0) c.work.ensures ∙ value_is plan files c.loop-b.b)) in
    let long = ap length c.push_reserved.ensures.items ∙ length-append c.loop-b.into.items (c.run.result ∷ []) in
    let capacity = c.push_reserved.ensures.capacity in
    record {
      values =
          c.push_reserved.ensures.items
          ∙ (ap (λ xs. xs ++ c.run.result ∷ []) c.loop-b.invariant.values
          ∙ (append_assoc base (values_from plan files first (c.loop-b.b - first)) (c.run.result ∷ [])
          ∙ (ap (λ x. base ++ (values_from plan files first (c.loop-b.b - first) ++ x ∷ [])) value
          ∙ ap (λ xs. base ++ xs) (sym (values_more plan files first c.loop-b.b low)))));
      low = omega (arith, low);
      room = omega (arith, long, room, capacity, c.loop-b-test.true);
    }

use Rattle.std.proofs.Common.{ℕ, List, Bor, map, sym, arith}
use Rattle.std.proofs.lemmas.Bool.{ltb-true, ltb-false, leb-true, leb-false}
use Rattle.std.proofs.lemmas.List.{length-map}
use Rattle.gcd_plan.specs.PlanView.{view_of}
use Rattle.gcd_script.proofs.Others.{block_none, block_two, block_many}
use Rattle.gcd_script.proofs.draft.Draft.block_line.Goals as goal
use Rattle.gcd_script.proofs.draft.Draft.block_line.Goals.{in_default-via-then-words-lt1, in_default-via-else-words-lt1+else-words-lt2+then-words-lt3, in_default-via-else-words-lt1+else-words-lt2+else-words-lt3+else-words-lt4+else-words-lt5+else-words-lt6+else-words-lt7}

pub returns-in_default : goal.returns-in_default
returns-in_default c =
    let words = c.args.words.now in
    let plan = view_of c.args.self.now.plan.parts in
    let texts = map (λ (w : Bor (List ℕ)). w.now) words in
    let count = length-map words (λ (w : Bor (List ℕ)). w.now) in
    elim c.in_default.branch [
      | in_default-via-then-words-lt1 w ↦ sym (block_none plan texts (omega (arith, ltb-true, ltb-false, leb-true, leb-false)))
      | in_default-via-else-words-lt1+else-words-lt2+then-words-lt3 w ↦ sym (block_two plan texts (omega (arith, ltb-true, ltb-false, leb-true, leb-false)) (omega (arith, ltb-true, ltb-false, leb-true, leb-false)))
      | in_default-via-else-words-lt1+else-words-lt2+else-words-lt3+else-words-lt4+else-words-lt5+else-words-lt6+else-words-lt7 w ↦ sym (block_many plan texts (omega (arith, ltb-true, ltb-false, leb-true, leb-false)))
    ]

use Rattle.std.proofs.Common.{ℕ, List, Bor, map, inl, inr, sym, arith}
use Rattle.std.proofs.lemmas.List.{length-map}
use Rattle.gcd_plan.specs.PlanView.{view_of}
use Rattle.gcd_script.proofs.Others.{group_other}
use Rattle.gcd_script.proofs.draft.Draft.group_submit_act.Goals as goal

pub returns-in_default : goal.returns-in_default
returns-in_default c =
    let words = c.args.words.now in
    let count = length-map words (λ (w : Bor (List ℕ)). w.now) in
    sym (group_other (view_of c.args.self.now.plan.parts) c.args.how (map (λ (w : Bor (List ℕ)). w.now) words) (inl (omega arith)))

pub returns-in_default-2 : goal.returns-in_default-2
returns-in_default-2 c =
    let words = c.args.words.now in
    let count = length-map words (λ (w : Bor (List ℕ)). w.now) in
    sym (group_other (view_of c.args.self.now.plan.parts) c.args.how (map (λ (w : Bor (List ℕ)). w.now) words) (inr (omega arith)))

use Rattle.std.proofs.Common.{◌≡◌, ◌++◌, ◌∷◌, ◌∙◌, ℕ, Bool, if◌then◌else◌, List, [], refl, ap}
use Rattle.gcd_plan.specs.PlanView.{PlanView}
use Rattle.gcd_plan.specs.declared.numbers.Blk.{Blk}
use Rattle.gcd_event.specs.declared.event.Event.{Event}
use Rattle.gcd_event.specs.declared.event.Event.TheVariants.{End}
use Rattle.gcd_history.specs.History.{IsLawful}
use Rattle.gcd_history.specs.Values.{value_of}
use Rattle.gcd_history.proofs.Blocks.CancelledStays.{cancelled_without_act}
use Rattle.gcd_history.proofs.Permitted.Lawful.{lawful_front}
use Rattle.gcd_jobs.specs.BlockValues.{value_at_end}
use Rattle.gcd_jobs.specs.Contents.{contents}
use Rattle.gcd_jobs.proofs.ValuesMore.{ended_block, none_ended, source_ended, values_ended, values_same}
use Rattle.gcd_machine.specs.Stands.{StandsFor}
use Rattle.gcd_machine.proofs.Views.Calls.{lawful_stands}
use Rattle.gcd_refinement.specs.MachineView.{MachineView}
use Rattle.gcd_workers.proofs.list_run.note_end.Goals as goal

pub value_at_end-requires-clause-within : goal.value_at_end-requires-clause-within
value_at_end-requires-clause-within c =
    let end = ended_block c.args.e c.in-Some-Block.blk (rw c.in-Some-Block.field-0-is at c.in-Some-Block.ensures) in
    rw end.1 at c.requires.ends

-- an End cancels no block
worth_kept : (plan : PlanView) (files : List (List ℕ)) (h : List Event) (w : ℕ) (c : Blk) (b : ℕ)
    → value_at_end plan files (h ++ End w c ∷ []) b ≡ value_at_end plan files h b
worth_kept plan files h w c b = ap (λ (t : Bool). if t then 0 else value_of plan files b) (cancelled_without_act plan h (End w c) b refl)

-- what came before is lawful
before : (plan : PlanView) (h : List Event) (e : Event) (m : MachineView) → StandsFor m plan (h ++ e ∷ []) → IsLawful plan h
before plan h e m stands = lawful_front plan h (e ∷ []) (lawful_stands m plan (h ++ e ∷ []) stands)

pub returns-in-Some-Block : goal.returns-in-Some-Block
returns-in-Some-Block c =
    let plan = c.args.plan.now in
    let files = contents c.args.files.now in
    let blk = c.in-Some-Block.blk in
    let end = ended_block c.args.e blk (rw c.in-Some-Block.field-0-is at c.in-Some-Block.ensures) in
    record {
      values = λ h stands are.
          rw end.1
          (values_ended plan files h end.0 blk c.args.values.now.items c.value_at_end.result (rw end.1 at c.requires.ends)
          (c.value_at_end.ensures (h ++ c.args.e ∷ []) stands
          ∙ (ap (λ (x : Event). value_at_end plan files (h ++ x ∷ []) blk.0) end.1 ∙ worth_kept plan files h end.0 blk blk.0)) are);
    }

pub returns-in-Some-Source : goal.returns-in-Some-Source
returns-in-Some-Source c = record {
  values = λ h stands are.
      values_same c.args.plan.now (contents c.args.files.now) h c.args.e c.args.values.now.items (before c.args.plan.now h c.args.e c.args.machine.now stands)
      (source_ended c.args.e c.in-Some-Source.field-0-0 (rw c.in-Some-Source.field-0-is at c.in-Some-Source.ensures)) are;
}

pub returns-in-None : goal.returns-in-None
returns-in-None c = record {
  values = λ h stands are.
      values_same c.args.plan.now (contents c.args.files.now) h c.args.e c.args.values.now.items (before c.args.plan.now h c.args.e c.args.machine.now stands)
      (none_ended c.args.e c.in-None.ensures) are;
}

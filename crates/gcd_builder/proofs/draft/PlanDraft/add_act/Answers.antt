use Rattle.std.proofs.Common.{◌<◌, ◌≤◌, ◌+◌, List, Bool, false, length, IfSome, sym, ap, ◌∙◌, subst}
use Rattle.std.specs.Option.{option_map_or}
use Rattle.gcd_plan.specs.Breaks.{Has}
use Rattle.gcd_plan.specs.Made.{is_of_strip}
use Rattle.gcd_plan.specs.PlanView.{view_of}
use Rattle.gcd_plan.specs.Validity.{block_of, strip_of}
use Rattle.gcd_builder.specs.Agreement.{AreSetToo, flags_with, look_up}
use Rattle.gcd_builder.proofs.Agreement.{act_agrees, body_runs, flag_stands, blocks_stand, length_flags}
use Rattle.gcd_builder.proofs.draft.PlanDraft.add_act.Goals as goal

pub mark-requires : goal.mark-requires
mark-requires c =
    let old = c.args.self.now in
    rw c.block.ensures
    (subst (λ n. IfSome (block_of c.args.act) (λ b. b.0 < n)) (sym old.submitted.ok.0)
    (flag_stands (look_up old.meanings) old.submitted.items old.applied.items old.acts (view_of old.parts) c.requires.agrees c.requires.valid c.args.act c.requires.fits))

pub mark_strip_blocks-requires : goal.mark_strip_blocks-requires
mark_strip_blocks-requires c =
    let old = c.args.self.now in
    let plan = view_of old.parts in
    let size = c.mark.new.flags.ok.0 ∙ ap length c.mark.ensures ∙ length_flags old.submitted.items c.block.result in
    rw c.strip.ensures
    (subst (λ n. IfSome (strip_of c.args.act) (λ a. Has plan.strips a (λ s. s.first + s.count ≤ n))) (sym size)
    (blocks_stand (look_up old.meanings) old.submitted.items old.applied.items old.acts plan c.requires.agrees c.requires.valid c.args.act c.requires.fits))

pub push_act-requires : goal.push_act-requires
push_act-requires c =
    let plan = view_of c.args.self.now.parts in
    body_runs plan c.args.run c.requires.body

pub returns-clause-agrees : goal.returns-clause-agrees
returns-clause-agrees c =
    let old = c.args.self.now in
    let plan = view_of old.parts in
    let flags : List Bool = c.mark_strip_blocks.new.flags.items in
    let marked : AreSetToo (flags_with old.submitted.items (block_of c.args.act)) flags (λ q. option_map_or (λ s. is_of_strip plan s q) (strip_of c.args.act) false) =
    subst (λ o. AreSetToo (flags_with old.submitted.items (block_of c.args.act)) flags (λ q. option_map_or (λ s. is_of_strip plan s q) o false)) c.strip.ensures
    (subst (λ l. AreSetToo l flags (λ q. option_map_or (λ s. is_of_strip plan s q) c.strip.result false)) (c.mark.ensures ∙ ap (flags_with old.submitted.items) c.block.ensures) c.mark_strip_blocks.ensures)
    in
    rw (c.mark_strip.ensures, c.strip-2.ensures, c.in_ok-push_act.ensures)
    (act_agrees (look_up old.meanings) old.submitted.items old.applied.items old.acts plan c.requires.agrees c.requires.valid
    c.args.act c.requires.fits flags marked c.args.run c.requires.body c.requires.allowed)

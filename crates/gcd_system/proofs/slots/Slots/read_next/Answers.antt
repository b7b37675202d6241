use Rattle.std.proofs.Common.{rules, ◌≡◌, Some, None, arith}
use Rattle.std.specs.List.{slice_get}
use Rattle.std.proofs.lemmas.Option.{slice_get_read}
use Rattle.std.proofs.lemmas.Result.{IfOk-weaker, IfErr-weaker}
use Rattle.gcd_outer.specs.declared.limits.TheConstants.{MAX_FEEDS}
use Rattle.gcd_system.proofs.SlotLemmas.{read-slot}
use Rattle.gcd_system.proofs.slots.Slots.read_next.Goals as goal

pub returns-clause-ok : goal.returns-clause-ok
returns-clause-ok c =
    let found : slice_get c.args.self.now.slots.items c.args.self.now.first ≡ Some c.index_mut.result.now =
    slice_get_read c.args.self.now.slots.items MAX_FEEDS c.args.self.now.first c.index_mut.result.now (search rules) (omega arith) c.index_mut.ensures.value in
    IfOk-weaker c.read.result _ _ (λ told tells. read-slot _ _ _ _ told found c.read.ensures.source tells) c.read.ensures.tells

pub returns-clause-err : goal.returns-clause-err
returns-clause-err c =
    let found : slice_get c.args.self.now.slots.items c.args.self.now.first ≡ Some c.index_mut.result.now =
    slice_get_read c.args.self.now.slots.items MAX_FEEDS c.args.self.now.first c.index_mut.result.now (search rules) (omega arith) c.index_mut.ensures.value in
    IfErr-weaker c.read.result _ _ (λ error same. read-slot _ _ _ _ None found c.read.ensures.source same) c.read.ensures.err

use Rattle.std.proofs.Common.{◌≡◌, get_or, subst}
use Rattle.gcd_machine.proofs.Conditions.KeptAtEnds.{may_tell, may_end_waits, may_leave, end_is}
use Rattle.gcd_machine.proofs.registers.Registers.end.Goals as goal

pub tell-requires : goal.tell-requires
tell-requires c = may_tell c.args.self.now c.close_block.ensures c.requires

pub end_waits-requires : goal.end_waits-requires
end_waits-requires c =
    let read = c.index-cell.result.now in
    let is = subst (λ m. read ≡ get_or m.blocks c.args.blk.0 read) c.self.view_is c.index-cell.ensures in
    rw c.caller.ensures (may_end_waits c.args.self.now is c.close_block.ensures c.tell.ensures.told c.requires)

pub leave_group-requires : goal.leave_group-requires
leave_group-requires c =
    let read = c.index-cell.result.now in
    let is = subst (λ m. read ≡ get_or m.blocks c.args.blk.0 read) c.self.view_is c.index-cell.ensures in
    rw c.group.ensures (may_leave c.args.self.now is c.close_block.ensures c.tell.ensures.leaves (rw c.caller.ensures at c.end_waits.ensures) c.requires)

pub returns : goal.returns
returns c =
    let read = c.index-cell.result.now in
    let is = subst (λ m. read ≡ get_or m.blocks c.args.blk.0 read) c.self.view_is c.index-cell.ensures in
    end_is c.args.self.now is c.close_block.ensures c.tell.ensures.told (rw c.caller.ensures at c.end_waits.ensures) (rw c.group.ensures at c.leave_group.ensures) c.requires

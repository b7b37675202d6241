use Rattle.gcd_machine.proofs.Conditions.KeptAtEnds.{may_let_waiters_go, may_end_in_strip}
use Rattle.gcd_machine.proofs.registers.Registers.end_waits.Goals as goal

pub let_waiters_go-requires : goal.let_waiters_go-requires
let_waiters_go-requires c = may_let_waiters_go c.args.self.now c.args.blk c.args.caller c.let_caller_go.ensures c.requires

pub end_in_strip-requires : goal.end_in_strip-requires
end_in_strip-requires c = may_end_in_strip c.args.self.now c.args.blk c.args.caller c.let_caller_go.ensures c.let_waiters_go.ensures c.requires

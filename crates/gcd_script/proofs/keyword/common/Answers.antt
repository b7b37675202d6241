use Rattle.std.proofs.Common.{ap}
use Rattle.gcd_script.specs.Keywords.{keyword_of}
use Rattle.gcd_script.proofs.keyword.common.Goals as goal

pub returns-then-is_async : goal.returns-then-is_async
returns-then-is_async c = ap keyword_of (c.is_async.ensures c.if-is_async.true)

pub returns-then-is_block : goal.returns-then-is_block
returns-then-is_block c = ap keyword_of (c.is_block.ensures c.if-is_block.true)

pub returns-then-is_queue : goal.returns-then-is_queue
returns-then-is_queue c = ap keyword_of (c.is_queue.ensures c.if-is_queue.true)

pub returns-then-is_sync : goal.returns-then-is_sync
returns-then-is_sync c = ap keyword_of (c.is_sync.ensures c.if-is_sync.true)

-- How what a block has come to stands in 12 bytes. No contract of a public call cites this.
use Rattle.std.specs.Prelude.{◌≡◌, ℕ, zero, suc, Option, Some, None, refl}
use Rattle.gcd_plan.specs.declared.numbers.Blk.{Blk}
use Rattle.gcd_plan.specs.declared.numbers.Obj.{Obj}
use Rattle.gcd_refinement.specs.declared.progress.BlockProgress.{BlockProgress}
use Rattle.gcd_machine.specs.declared.registers.cell.BlockCell.TheInside.{Inside}

-- the object that a code stands for
abbrev pub object_of_code : ℕ → Option Obj
object_of_code zero = None
object_of_code (suc o) = Some (record { 0 = o })

-- the block that a code stands for
abbrev pub block_of_code : ℕ → Option Blk
block_of_code zero = None
block_of_code (suc b) = Some (record { 0 = b })

-- the code that stands for an object
abbrev pub object_code : Option Obj → ℕ
object_code None = 0
object_code (Some o) = suc o.0

-- the code that stands for a block
abbrev pub block_code : Option Blk → ℕ
block_code None = 0
block_code (Some b) = suc b.0

object_code_of : (n : ℕ) → object_code (object_of_code n) ≡ n
object_code_of zero = refl
object_code_of (suc o) = refl

block_code_of : (n : ℕ) → block_code (block_of_code n) ≡ n
block_code_of zero = refl
block_code_of (suc b) = refl

-- what the block of a cell has come to
abbrev pub progress_of : Inside → BlockProgress
progress_of c = record {
  node = object_of_code c.node;
  barrier = c.barrier;
  started = c.started;
  done = c.done;
  group = object_of_code c.group;
  home = record { 0 = c.home };
  caller = block_of_code c.caller;
}

-- the cell of such a block
abbrev pub cell_of : BlockProgress → Inside
cell_of p = record {
  node = object_code p.node;
  group = object_code p.group;
  caller = block_code p.caller;
  home = p.home.0;
  done = p.done;
  barrier = p.barrier;
  started = p.started;
}

pub cell_of_progress : (c : Inside) → cell_of (progress_of c) ≡ c
cell_of_progress c = rw (object_code_of c.node, object_code_of c.group, block_code_of c.caller) refl

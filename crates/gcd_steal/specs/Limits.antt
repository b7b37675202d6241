-- How much a bench may do.
use Rattle.std.specs.Prelude.{ℕ}

-- pushes of one bench in all, for which its deque has room from the start
abbrev pub max_pushes : ℕ
max_pushes = 65536

-- How many may send.
use Rattle.std.specs.Prelude.{ℕ}

-- the senders of a front, at most
abbrev pub max_senders : ℕ
max_senders = 64

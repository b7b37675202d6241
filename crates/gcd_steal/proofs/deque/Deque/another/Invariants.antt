use Rattle.gcd_steal.proofs.deque.Deque.another.Given as goal

abbrev pub ghosts-split_pass : goal.ghosts-split_pass
ghosts-split_pass a = record { rack = a._rack.now }

use Rattle.gcd_row.proofs.board.RowBoard.split.Given as goal

abbrev pub ghosts-cut : goal.ghosts-cut
ghosts-cut g a = record { number = a._worker }

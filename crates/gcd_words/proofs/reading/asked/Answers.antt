use Rattle.std.proofs.Common.{rules}
use Rattle.clap.specs.Words.{found_of, rows_of}
use Rattle.gcd_words.proofs.Requests.{as_run, as_check, as_big, as_front, asked_at}
use Rattle.gcd_words.proofs.reading.asked.Goals as goal

pub returns-then-eq-clause-asked : goal.returns-then-eq-clause-asked
returns-then-eq-clause-asked c = asked_at _ _ _ _ _ c.in_ok-name.ensures.name c.in_ok-name.ensures.rows
    (c.run.ensures.asked) (as_run c.in_ok-name.name.now (rows_of (found_of c.in_ok-name.found.now)) (search rules))

pub returns-then-eq-2-clause-asked : goal.returns-then-eq-2-clause-asked
returns-then-eq-2-clause-asked c = asked_at _ _ _ _ _ c.in_ok-name.ensures.name c.in_ok-name.ensures.rows
    (c.check.ensures.asked) (as_check c.in_ok-name.name.now (rows_of (found_of c.in_ok-name.found.now)) (search rules) (search rules))

pub returns-then-eq-3-clause-asked : goal.returns-then-eq-3-clause-asked
returns-then-eq-3-clause-asked c = asked_at _ _ _ _ _ c.in_ok-name.ensures.name c.in_ok-name.ensures.rows
    (c.big.ensures.asked) (as_big c.in_ok-name.name.now (rows_of (found_of c.in_ok-name.found.now)) (search rules) (search rules) (search rules))

pub returns-clause-asked : goal.returns-clause-asked
returns-clause-asked c = asked_at _ _ _ _ _ c.in_ok-name.ensures.name c.in_ok-name.ensures.rows
    (c.front.ensures.asked) (as_front c.in_ok-name.name.now (rows_of (found_of c.in_ok-name.found.now)) (search rules) (search rules) (search rules))

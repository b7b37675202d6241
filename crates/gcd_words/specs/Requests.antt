-- A request of the code as what is asked.
use Rattle.std.specs.Prelude.{option_map}
use Rattle.gcd_words.specs.Asked.{Asked, RunAsked, run, check, big, front}
use Rattle.gcd_words.specs.declared.request.Request.{Request}
use Rattle.gcd_words.specs.declared.request.Request.TheVariants.{Run, Check, Big, Front}
use Rattle.gcd_words.specs.declared.request.RunRequest.{RunRequest}

-- what a request to run asks for
abbrev pub run_asked : RunRequest → RunAsked
run_asked r = record { script = r.script.now; workers = r.workers; journal = r.journal; most = r.most; listen = option_map (λ t. t.now) r.listen }

-- what a request asks for
abbrev pub asked_of : Request → Asked
asked_of (Run r) = run (run_asked r)
asked_of (Check c) = check c.script.now c.journal.now
asked_of (Big b) = big b.count b.workers
asked_of (Front f) = front f.script.now f.senders

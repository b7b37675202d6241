-- The poller over the system tells nothing, so what is said of those that tell is said of none.
use Rattle.std.proofs.Common.{refl, rules}
use Rattle.std.proofs.lemmas.Bool.{false≢true}
use Rattle.gcd_system.proofs.net_poller.NetPollerPoller.TheImpl.Goals as goal

pub listen-tells : goal.listen-tells
listen-tells g c = record {
  watched = search rules;
  ended = search rules;
  answers = λ told. refl;
  watched_at = λ feed told. refl;
  watches = λ told. refl;
  listens = λ told. absurd (false≢true told);
  address = λ told. absurd (false≢true told);
  no_address = λ told. absurd (false≢true told);
  ok = search rules;
  failed = search rules;
  faults = search rules;
}

pub watch-tells : goal.watch-tells
watch-tells g c = record {
  watches_it = search rules;
  begins = search rules;
  others = search rules;
  others_ended = search rules;
  unwatched = search rules;
  unended = search rules;
  answers = λ told. refl;
  at = λ told. absurd (false≢true told);
  others_at = λ other told differs. refl;
  no_at = λ told. absurd (false≢true told);
  path = λ told. absurd (false≢true told);
  no_path = λ told. absurd (false≢true told);
  listens = λ told. refl;
  addresses = λ told. refl;
  ok = search rules;
  failed = search rules;
  faults = search rules;
}

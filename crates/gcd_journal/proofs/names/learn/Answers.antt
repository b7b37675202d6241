use Rattle.std.proofs.Common.{◌∙◌, Some, ap, if◌then◌else◌}
use Rattle.std.specs.Str.{bytes_eq}
use Rattle.std.proofs.lemmas.Map.Text.{hash_map_updates_str}
use Rattle.gcd_journal.specs.Named.{look_of}
use Rattle.gcd_journal.proofs.names.learn.Goals as goal

pub returns : goal.returns
returns c = λ other.
    hash_map_updates_str c.as_bytes.result.now c.args.runs.now c.insert.new.self (Some c.args.run) c.in_ok-insert.ensures.updates other
    ∙ ap (λ name. if bytes_eq name other then Some c.args.run else look_of c.args.runs.now other) c.as_bytes.ensures.value

use Rattle.std.proofs.Common.{append-nil, refl, rules, sym}
use Rattle.gcd_run.specs.Ends.CallEnds.{reported, wanting}
use Rattle.gcd_commands.specs.Stories.{end_of}
use Rattle.gcd_commands.specs.declared.status.Status.TheVariants.{NoCommand}
use Rattle.gcd_run.proofs.Always.{always}
use Rattle.gcd_run.proofs.Statuses.{says}
use Rattle.gcd_run.proofs.Words.{hands_on_of, none_taken}
use Rattle.gcd_run.proofs.top.account_of.Goals as goal

pub returns-in-Ok-clause-ended : goal.returns-in-Ok-clause-ended
returns-in-Ok-clause-ended g c =
    let t = c.in-Ok.ensures.reported in
    reported (end_of c.in-Ok.story) t.calls t.made t.is c.write_story.ensures.written

pub returns-in-Err-clause-ended : goal.returns-in-Err-clause-ended
returns-in-Err-clause-ended g c =
    let t = c.in-Err.ensures.wanting in
    wanting t.calls t.made t.is
    (record { status_is = search rules; nothing = λ _. sym (append-nil _); journal_is = search rules; at_is = refl })

pub returns-in-Ok-clause-named : goal.returns-in-Ok-clause-named
returns-in-Ok-clause-named g c = λ status words_taken.
    let t = c.in-Ok.ensures.reported in
    let usage = says _ _ _ _ (reported (end_of c.in-Ok.story) t.calls t.made t.is c.write_story.ensures.written) NoCommand status in
    none_taken usage.no_command (c.in-Ok.ensures.taken words_taken)

pub returns-in-Err-clause-named : goal.returns-in-Err-clause-named
returns-in-Err-clause-named g c = λ status words_taken. cc

pub returns-in-Ok-clause-says : goal.returns-in-Ok-clause-says
returns-in-Ok-clause-says g c = says _ _ _ _ (returns-in-Ok-clause-ended g c)

pub returns-in-Ok-clause-always : goal.returns-in-Ok-clause-always
returns-in-Ok-clause-always g c = always _ _ _ _ (returns-in-Ok-clause-ended g c)

pub returns-in-Err-clause-says : goal.returns-in-Err-clause-says
returns-in-Err-clause-says g c = says _ _ _ _ (returns-in-Err-clause-ended g c)

pub returns-in-Err-clause-always : goal.returns-in-Err-clause-always
returns-in-Err-clause-always g c = always _ _ _ _ (returns-in-Err-clause-ended g c)

pub returns-in-Ok-clause-found : goal.returns-in-Ok-clause-found
returns-in-Ok-clause-found g c =
    let story = c.in-Ok.story in
    hands_on_of _ _ _ (end_of story) story.found c.write_story.ensures.written c.write_story.ensures.found c.in-Ok.ensures.found

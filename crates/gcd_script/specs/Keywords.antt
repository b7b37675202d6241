-- The first words of lines, and the words that choose a kind or what a work counts.
use Rattle.std.specs.Prelude.{ℕ, if◌then◌else◌, List, [], ◌∷◌, Option, Some, None, option_map, codes}
use Rattle.std.specs.Option.{option_or}
use Rattle.std.specs.Str.{bytes_eq}
use Rattle.gcd_plan.specs.declared.kind.Kind.{Kind}
use Rattle.gcd_plan.specs.declared.kind.Kind.TheVariants.{Serial, Concurrent, Add, Or, Replace}
use Rattle.gcd_plan.specs.declared.work.How.{How}
use Rattle.gcd_plan.specs.declared.work.How.TheVariants.{Bytes, Lines, Words, Sum}
use Rattle.gcd_script.specs.declared.keyword.Keyword.{Keyword}
use Rattle.gcd_script.specs.declared.keyword.Keyword.TheVariants.{File, Queue, Group, Semaphore, Source, Cancelled, Until, Block, Handler, Main, Submit, GroupSubmit, OneObject, Limited, Target, Merge, Intake, Strip, Apply, OneBlock, NotifyBlock}
use Rattle.gcd_script.specs.declared.keyword.BlockAct.TheVariants.{CancelBlock, WaitBlock}
use Rattle.gcd_script.specs.declared.keyword.Submission.TheVariants.{Async, Barrier, Sync, BarrierSync}
use Rattle.gcd_script.specs.declared.keyword.GroupSubmission.TheVariants.{GroupAsync, Notify}
use Rattle.gcd_script.specs.declared.keyword.LimitedWait.TheVariants.{WaitFor, GroupWaitFor}
use Rattle.gcd_script.specs.declared.keyword.ObjectAct.{ObjectAct}
use Rattle.gcd_script.specs.declared.keyword.ObjectAct.TheVariants.{Enter, Leave, GroupWait, Signal, Wait, Suspend, Resume, Activate, Cancel, Retain, Release}

-- what the table has beside the word
abbrev pub pick : {A : Type 0} → List (List ℕ × A) → List ℕ → Option A
pick [] word = None
pick (row ∷ rows) word = if bytes_eq word row.0 then Some row.1 else pick rows word

-- the first words of declarations
abbrev pub declarations : List (List ℕ × Keyword)
declarations =
    (codes "file", File)
    ∷ (codes "queue", Queue)
    ∷ (codes "group", Group)
    ∷ (codes "semaphore", Semaphore)
    ∷ (codes "source", Source)
    ∷ (codes "cancelled", Cancelled)
    ∷ (codes "until", Until)
    ∷ (codes "block", Block)
    ∷ (codes "handler", Handler)
    ∷ (codes "main", Main)
    ∷ (codes "intake", Intake)
    ∷ (codes "strip", Strip)
    ∷ []

-- the first words of acts on more than one thing
abbrev pub acts : List (List ℕ × Keyword)
acts =
    (codes "async", Submit Async)
    ∷ (codes "barrier", Submit Barrier)
    ∷ (codes "sync", Submit Sync)
    ∷ (codes "barrier_sync", Submit BarrierSync)
    ∷ (codes "group_async", GroupSubmit GroupAsync)
    ∷ (codes "notify", GroupSubmit Notify)
    ∷ (codes "wait_for", Limited WaitFor)
    ∷ (codes "group_wait_for", Limited GroupWaitFor)
    ∷ (codes "target", Target)
    ∷ (codes "merge", Merge)
    ∷ (codes "apply", Apply)
    ∷ (codes "cancel_block", OneBlock CancelBlock)
    ∷ (codes "wait_block", OneBlock WaitBlock)
    ∷ (codes "notify_block", NotifyBlock)
    ∷ []

-- the first words of acts on one object
abbrev pub object_acts : List (List ℕ × ObjectAct)
object_acts =
    (codes "enter", Enter)
    ∷ (codes "leave", Leave)
    ∷ (codes "group_wait", GroupWait)
    ∷ (codes "signal", Signal)
    ∷ (codes "wait", Wait)
    ∷ (codes "suspend", Suspend)
    ∷ (codes "resume", Resume)
    ∷ (codes "activate", Activate)
    ∷ (codes "cancel", Cancel)
    ∷ (codes "retain", Retain)
    ∷ (codes "release", Release)
    ∷ []

-- what kind of line the word begins
abbrev pub keyword_of : List ℕ → Option Keyword
keyword_of word =
    option_or (pick declarations word) (option_or (pick acts word) (option_map OneObject (pick object_acts word)))

-- the words that choose the kind of a queue
abbrev pub queue_kinds : List (List ℕ × Kind)
queue_kinds = (codes "serial", Serial) ∷ (codes "concurrent", Concurrent) ∷ []

-- the words that choose the kind of a source of merged values
abbrev pub merge_kinds : List (List ℕ × Kind)
merge_kinds = (codes "add", Add) ∷ (codes "or", Or) ∷ (codes "replace", Replace) ∷ []

-- the words that choose what a work counts, but for `count V`
abbrev pub counts : List (List ℕ × How)
counts = (codes "bytes", Bytes) ∷ (codes "lines", Lines) ∷ (codes "words", Words) ∷ (codes "sum", Sum) ∷ []

-- The command line, as `clap` reads it: its subcommands, their arguments and options, and the ranges of numbers.
use Rattle.std.specs.Prelude.{ℕ, Some, [], ◌-◌, true, pos, codes}
use Rattle.clap.specs.Words.{App, Rule, Text, new_app, new_rule, with_rule, with_subcommand}
use Rattle.clap.specs.declared.builder.action.ArgAction.TheVariants.{SetTrue}
use Rattle.gcd_plan.specs.Limits.{max_workers, max_blocks, max_events}
use Rattle.clap.specs.declared.builder.value_parser.ValueParser.TheVariants as vp

-- an argument that stands by its place and has to be there
abbrev pub required_rule : Text → Rule
required_rule id = record (new_rule id) { required = true }

-- an option with a value, by its name
abbrev pub option_rule : Text → Rule
option_rule id = record (new_rule id) { long = Some id }

-- the most blocks of the large script: `main` is none of them
abbrev pub max_big : ℕ
max_big = max_blocks - 1

-- an option with a number of workers
abbrev pub workers_rule : Rule
workers_rule = record (option_rule (codes "workers")) { parser = Some (vp.Signed (pos 1) (pos max_workers)) }

-- an option with a limit of events
abbrev pub most_rule : Rule
most_rule = record (option_rule (codes "most")) { parser = Some (vp.Signed (pos 1) (pos max_events)) }

-- the number of blocks of the large script
abbrev pub count_rule : Rule
count_rule = record (required_rule (codes "N")) { parser = Some (vp.Signed (pos 1) (pos max_big)) }

-- the most senders of jobs beside a run
abbrev pub max_front_senders : ℕ
max_front_senders = 8

-- the number of senders of jobs beside a run
abbrev pub senders_rule : Rule
senders_rule = record (required_rule (codes "SENDERS")) { parser = Some (vp.Signed (pos 1) (pos max_front_senders)) }

-- an option without a value
abbrev pub journal_rule : Rule
journal_rule = record (option_rule (codes "journal")) { action = Some SetTrue }

-- `run SCRIPT [--workers N] [--journal] [--most N] [--listen ADDR]`
unfoldable pub run_app : App
run_app =
    with_rule (with_rule (with_rule (with_rule (with_rule (new_app (codes "run"))
    (required_rule (codes "SCRIPT"))) workers_rule) journal_rule) most_rule) (option_rule (codes "listen"))

-- `check SCRIPT JOURNAL`
unfoldable pub check_app : App
check_app = with_rule (with_rule (new_app (codes "check")) (required_rule (codes "SCRIPT"))) (required_rule (codes "JOURNAL"))

-- `big N [--workers W]`
unfoldable pub big_app : App
big_app = with_rule (with_rule (new_app (codes "big")) count_rule) workers_rule

-- `front SCRIPT SENDERS`
unfoldable pub front_app : App
front_app = with_rule (with_rule (new_app (codes "front")) (required_rule (codes "SCRIPT"))) senders_rule

-- the command line without commands; no word is the program's name
abbrev pub bare_app : App
bare_app = record { top = record (new_app (codes "gcd")).top { no_binary_name = true }; subs = [] }

-- the whole command line: these four commands
unfoldable pub gcd_app : App
gcd_app =
    with_subcommand (with_subcommand (with_subcommand (with_subcommand bare_app run_app.top) check_app.top) big_app.top) front_app.top

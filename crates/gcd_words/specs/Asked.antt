-- What the words after the program's name ask for.
use Rattle.std.specs.Prelude.{◌≡◌, ◌<◌, ◌≤◌, is_some, min, max, ℕ, Bool, List, Option, None, [], ◌∷◌, ◌&&◌, true, if◌then◌else◌, codes, option_map, unwrap_or, length, nat_lt}
use Rattle.std.specs.List.{list_all}
use Rattle.std.specs.Option.{option_map_or}
use Rattle.std.specs.Str.{bytes_eq}
use Rattle.std.specs.Str.Parse.{digits_value, without_leading_plus}
use Rattle.std.specs.Char.{digit_value}
use Rattle.gcd_plan.specs.Limits.{max_workers, max_events}
use Rattle.clap.specs.Words.{Row, Text, first_of, subcommand_of, fault_of, Kinds, takes}
use Rattle.gcd_words.specs.CommandLine.{gcd_app, max_big, max_front_senders}

-- a run of the script of this name, by so many workers and of at most so many events; with its journal or not; with the address to
-- listen at, if any
pub record RunAsked : Type 0 where
  pub script : Text
  pub workers : ℕ
  pub journal : Bool
  pub most : ℕ
  pub listen : Option Text

-- what is asked: a run, the judgement of a journal, a run of the large script, or a run beside so many senders of jobs
pub data Asked : Type 0 where
  run : RunAsked → Asked
  check : (script journal : Text) → Asked
  big : (count workers : ℕ) → Asked
  front : (script : Text) (senders : ℕ) → Asked

-- the text is a number below 2 ^ 32
abbrev pub is_number : Text → Bool
is_number ds = nat_lt 0 (length ds) && list_all (λ d. nat_lt (digit_value d) 10) ds && nat_lt (digits_value 10 ds) 4294967296

-- the number that a text spells, or 0 where it spells none below 2 ^ 32; `clap` has refused such a text
unfoldable pub number_or_zero : Text → ℕ
number_or_zero text =
    let ds = without_leading_plus text in
    if is_number ds then digits_value 10 ds else 0

-- the first value of an argument, or nothing; `clap` has refused words that lack a required one
abbrev pub value_in : (id : Text) → List Row → Text
value_in id rows = unwrap_or (first_of id rows) []

-- a number that `clap` has found in the range from 1 on
abbrev pub within : (most : ℕ) → Text → ℕ
within most text = min (max (number_or_zero text) 1) most

-- how many workers: one where the option is absent
abbrev pub workers_in : List Row → ℕ
workers_in rows = option_map_or (within max_workers) (first_of (codes "workers") rows) 1

-- how many events a run may have: as many as a run can have where the option is absent
abbrev pub most_in : List Row → ℕ
most_in rows = option_map_or (within max_events) (first_of (codes "most") rows) max_events

-- what `run` asks for
abbrev pub run_in : List Row → Asked
run_in rows = run (record {
  script = value_in (codes "SCRIPT") rows;
  workers = workers_in rows;
  journal = bytes_eq (value_in (codes "journal") rows) (codes "true");
  most = most_in rows;
  listen = first_of (codes "listen") rows;
})

-- what `check` asks for
abbrev pub check_in : List Row → Asked
check_in rows = check (value_in (codes "SCRIPT") rows) (value_in (codes "JOURNAL") rows)

-- what `big` asks for
abbrev pub big_in : List Row → Asked
big_in rows = big (within max_big (value_in (codes "N") rows)) (workers_in rows)

-- what `front` asks for
abbrev pub front_in : List Row → Asked
front_in rows = front (value_in (codes "SCRIPT") rows) (within max_front_senders (value_in (codes "SENDERS") rows))

-- what a command of this name with these values asks for
unfoldable pub asked_by : Text × List Row → Asked
asked_by (name, rows) =
    if bytes_eq name (codes "run") then run_in rows
    else if bytes_eq name (codes "check") then check_in rows
    else if bytes_eq name (codes "big") then big_in rows else front_in rows

-- its numbers are in their ranges
abbrev pub IsInRange : Asked → Type 0
IsInRange (run asked) = (0 < asked.workers) × (asked.workers ≤ max_workers) × (0 < asked.most) × (asked.most ≤ max_events)
IsInRange (check script journal) = Unit {0}
IsInRange (big count workers) = (0 < count) × (count ≤ max_big) × (0 < workers) × (workers ≤ max_workers)
IsInRange (front script senders) = (0 < senders) × (senders ≤ max_front_senders)

-- nothing where there is a fault
abbrev pub unless_faulty : Kinds → Option Asked → Option Asked
unless_faulty [] asked = asked
unless_faulty (kind ∷ kinds) asked = None

-- what the words ask for: None exactly where `clap` finds a fault in them, or they name no command
unfoldable pub request_of : List Text → Option Asked
request_of words = unless_faulty (fault_of gcd_app words) (option_map asked_by (subcommand_of gcd_app words))

-- `clap` takes the words, and they name a command
pub record AreTaken (words : List Text) : Type 0 where
  pub taken : takes gcd_app words ≡ true
  pub named : is_some (subcommand_of gcd_app words) ≡ true

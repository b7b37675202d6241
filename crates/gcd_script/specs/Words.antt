-- What a form asks of one word.
use Rattle.std.specs.Prelude.{ℕ, ◌&&◌, nat_le, nat_lt, Bool, if◌then◌else◌, List, Ok, Err, decimal}
use Rattle.std.specs.Option.{option_map_or}
use Rattle.std.specs.Str.{bytes_eq}
use Rattle.std.specs.Str.Parse.{digits_value}
use Rattle.gcd_plan.specs.Kinds.{has_kind, is_queue_kind, is_source_kind}
use Rattle.gcd_plan.specs.Names.{is_path}
use Rattle.gcd_plan.specs.PlanView.{PlanView}
use Rattle.gcd_plan.specs.declared.kind.Kind.{Kind}
use Rattle.gcd_plan.specs.declared.numbers.Blk.{Blk}
use Rattle.gcd_plan.specs.declared.numbers.Obj.{Obj}
use Rattle.gcd_builder.specs.declared.meaning.Meaning.{Meaning}
use Rattle.gcd_builder.specs.declared.meaning.Meaning.TheVariants.{File, Object, Block, Strip}
use Rattle.gcd_script.specs.declared.refusal.Refusal.TheVariants.{NoForm, BadName, UnknownName, OtherKind, BadNumber}
use Rattle.gcd_script.specs.Meant.{Meant, must, then_meant}
use Rattle.gcd_builder.specs.Names.{meaning_of, is_unused}

-- that it is a new name
abbrev pub new_name : PlanView → List ℕ → Meant (Unit {0})
new_name plan word = must (is_unused plan word) BadName

-- that it is a path
abbrev pub path : List ℕ → Meant (Unit {0})
path word = must (is_path word) NoForm

-- the word writes a number from low to high: in decimal, with no sign and no leading zero
abbrev pub is_number : (low high : ℕ) → List ℕ → Bool
is_number low high word =
    bytes_eq word (decimal (digits_value 10 word)) && (nat_le low (digits_value 10 word) && nat_le (digits_value 10 word) high)

-- that number
abbrev pub number : (low high : ℕ) → List ℕ → Meant ℕ
number low high word = if is_number low high word then Ok (digits_value 10 word) else Err BadNumber

-- a known name
abbrev pub known : PlanView → List ℕ → Meant Meaning
known plan word = option_map_or Ok (meaning_of plan word) (Err UnknownName)

-- that it is a file's
abbrev pub as_file : Meaning → Meant ℕ
as_file (File f) = Ok f
as_file (Object o) = Err OtherKind
as_file (Block b) = Err OtherKind
as_file (Strip a) = Err OtherKind

-- that it is a block's
abbrev pub as_block : Meaning → Meant Blk
as_block (File f) = Err OtherKind
as_block (Object o) = Err OtherKind
as_block (Block b) = Ok b
as_block (Strip a) = Err OtherKind

-- that it is a strip's
abbrev pub as_strip : Meaning → Meant ℕ
as_strip (File f) = Err OtherKind
as_strip (Object o) = Err OtherKind
as_strip (Block b) = Err OtherKind
as_strip (Strip a) = Ok a

-- that it is an object's, of such a kind
abbrev pub as_object : PlanView → (Kind → Bool) → Meaning → Meant Obj
as_object plan asked (File f) = Err OtherKind
as_object plan asked (Object o) = if has_kind asked plan o.0 then Ok o else Err OtherKind
as_object plan asked (Block b) = Err OtherKind
as_object plan asked (Strip a) = Err OtherKind

-- a file's name
abbrev pub file : PlanView → List ℕ → Meant ℕ
file plan word = then_meant as_file (known plan word)

-- a block's name
abbrev pub block : PlanView → List ℕ → Meant Blk
block plan word = then_meant as_block (known plan word)

-- a strip's name
abbrev pub strip : PlanView → List ℕ → Meant ℕ
strip plan word = then_meant as_strip (known plan word)

-- the name of an object of such a kind
abbrev pub object : PlanView → (Kind → Bool) → List ℕ → Meant Obj
object plan asked word = then_meant (as_object plan asked) (known plan word)

-- that it is not root
abbrev pub but_root : Obj → Meant Obj
but_root o = if nat_lt 0 o.0 then Ok o else Err OtherKind

-- the same of an object other than root
abbrev pub object_but_root : PlanView → (Kind → Bool) → List ℕ → Meant Obj
object_but_root plan asked word = then_meant but_root (object plan asked word)

-- a queue's name
abbrev pub queue : PlanView → List ℕ → Meant Obj
queue plan word = object plan is_queue_kind word

-- a source's name
abbrev pub source : PlanView → List ℕ → Meant Obj
source plan word = object plan is_source_kind word

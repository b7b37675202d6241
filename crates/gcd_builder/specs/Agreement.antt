-- When what a draft holds beside its plan agrees with it: the meanings of names, which blocks are submitted and which strips
-- are applied, and how many acts there are.
use Rattle.std.specs.Prelude.{◌≡◌, ℕ, ◌+◌, ◌==◌, ◌||◌, Bool, List, length, true, false, slice_set, if◌then◌else◌, Option, Some, None}
use Rattle.std.specs.HashMap.{HashMap, get_by}
use Rattle.std.specs.Borrow.{Bor}
use Rattle.std.specs.List.{list_any, slice_index_or}
use Rattle.std.specs.Str.{bytes_eq}
use Rattle.gcd_plan.specs.declared.numbers.Blk.{Blk}
use Rattle.gcd_plan.specs.PlanView.{PlanView, view_of}
use Rattle.gcd_plan.specs.Validity.{IsPlan, submitted_blocks, act_count}
use Rattle.gcd_builder.specs.declared.draft.PlanDraft.{PlanDraft}
use Rattle.gcd_builder.specs.declared.meaning.Meaning.{Meaning}
use Rattle.gcd_builder.specs.Taken.{applied_strips}
use Rattle.gcd_builder.specs.Names.{meaning_of}

-- what the code's map from names has at a name
abbrev pub look_up : {S : Type 0} → HashMap (Bor (List ℕ)) Meaning S → List ℕ → Option Meaning
look_up meanings name = get_by (λ key. bytes_eq name key.now) meanings

-- the new look-up finds the meaning at the name, and what the old one finds at each other name
abbrev pub Declares : (old new : List ℕ → Option Meaning) → List ℕ → Meaning → Type 0
Declares old new name meaning = (q : List ℕ) → new q ≡ (if bytes_eq name q then Some meaning else old q)

-- meanings of names, flags of submitted blocks and of applied strips, and a number of acts agree with a plan
pub record AgreeWithPlan (meanings : List ℕ → Option Meaning) (submitted applied : List Bool) (acts : ℕ) (plan : PlanView) : Type 0 where
  pub means : (name : List ℕ) → meanings name ≡ meaning_of plan name
  pub flags : length submitted ≡ length plan.blocks
  pub blocks : (b : ℕ) → slice_index_or submitted b false ≡ list_any (λ c. c.0 == b) (submitted_blocks plan)
  pub marks : length applied ≡ length plan.strips
  pub strips : (a : ℕ) → slice_index_or applied a false ≡ list_any (λ c. c == a) (applied_strips plan)
  pub count : acts ≡ act_count plan

-- flags of submitted blocks after one submission more, or none
abbrev pub flags_with : List Bool → Option Blk → List Bool
flags_with flags None = flags
flags_with flags (Some b) = slice_set flags b.0 true

-- flags of applied strips after one strip more, or none
abbrev pub marks_with : List Bool → Option ℕ → List Bool
marks_with flags None = flags
marks_with flags (Some a) = slice_set flags a true

-- the new flags are as many, and set where the old ones are and where the test holds
pub record AreSetToo (old new : List Bool) (test : ℕ → Bool) : Type 0 where
  pub size : length new ≡ length old
  pub each : (q : ℕ) → slice_index_or new q false ≡ (slice_index_or old q false || test q)

-- so many flags more that are not set
pub record AreMore (old new : List Bool) (count : ℕ) : Type 0 where
  pub size : length new ≡ length old + count
  pub each : (q : ℕ) → slice_index_or new q false ≡ slice_index_or old q false

-- what a draft holds beside its plan agrees with the plan
abbrev pub Agrees : PlanDraft → Type 0
Agrees d = AgreeWithPlan (look_up d.meanings) d.submitted.items d.applied.items d.acts (view_of d.parts)

-- the plan so far is valid, and what the draft holds beside it agrees with it
pub record IsSound (d : PlanDraft) : Type 0 where
  pub valid : IsPlan (view_of d.parts)
  pub agrees : Agrees d

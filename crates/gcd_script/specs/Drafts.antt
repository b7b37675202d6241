-- What the lines of a script declare so far: the plan, and the body that is open.
use Rattle.std.specs.Prelude.{ℕ, ◌+◌, Bool, false, List, [], ◌∷◌, Option, None}
use Rattle.gcd_plan.specs.PlanView.{PlanView}
use Rattle.gcd_plan.specs.declared.numbers.Run.{Run}
use Rattle.gcd_builder.specs.Changes.{empty_plan}

-- what the lines so far declare
pub record DraftView : Type 0 where
  -- how many lines there are, skipped ones too
  pub lines : ℕ
  -- the plan so far, with root and main
  pub plan : PlanView
  -- whose body is open: a block's or a source's
  pub body : Option Run
  -- a line `main` stands
  pub has_main : Bool
  -- a line `until` stands
  pub has_until : Bool
  -- for each object, whether a line opens its handler
  pub handlers : List Bool

-- before the first line: root and main alone
abbrev pub empty_draft : DraftView
empty_draft = record {
  lines = 0;
  plan = empty_plan;
  body = None;
  has_main = false;
  has_until = false;
  handlers = false ∷ [];
}

-- one line more
abbrev pub counted : DraftView → DraftView
counted draft = record draft { lines = draft.lines + 1 }

-- What names mean: all names of a plan share one space.
use Rattle.std.specs.Prelude.{ℕ, not, ◌&&◌, Bool, if◌then◌else◌, List, map, Option, None, is_none, option_map, codes}
use Rattle.std.specs.List.{position_from}
use Rattle.std.specs.Option.{option_or}
use Rattle.std.specs.Str.{bytes_eq}
use Rattle.gcd_plan.specs.Names.{is_name}
use Rattle.gcd_plan.specs.PlanView.{PlanView}
use Rattle.gcd_builder.specs.declared.meaning.Meaning.{Meaning}
use Rattle.gcd_builder.specs.declared.meaning.Meaning.TheVariants.{File, Object, Block, Strip}

-- the place of the first of these that is the name
abbrev pub place_of : List ℕ → List (List ℕ) → Option ℕ
place_of name names = position_from (bytes_eq name) 0 names

-- what is called so among the files, objects, strips and blocks of a plan
abbrev pub meaning_among : PlanView → List ℕ → Option Meaning
meaning_among plan name =
    option_or (option_map File (place_of name (map (λ f. f.name) plan.files)))
    (option_or (option_map (λ o. Object (record { 0 = o })) (place_of name (map (λ o. o.name) plan.objects)))
    (option_or (option_map Strip (place_of name (map (λ s. s.name) plan.strips)))
    (option_map (λ b. Block (record { 0 = b })) (place_of name (map (λ b. b.name) plan.blocks)))))

-- what a used name means: `root` is object 0, and `main` is never known; nor are the blocks of the intake and of strips, whose
-- names no line may give
unfoldable pub meaning_of : PlanView → List ℕ → Option Meaning
meaning_of plan name = if is_name name && not (bytes_eq name (codes "main")) then meaning_among plan name else None

-- a line may declare the name: it is a name, not `main`, and not known
abbrev pub is_unused : PlanView → List ℕ → Bool
is_unused plan name = is_name name && (not (bytes_eq name (codes "main")) && is_none (meaning_of plan name))

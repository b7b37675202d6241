-- Lines with another number of words than their forms have.
use Rattle.std.proofs.Common.{ℕ, ◌≡◌, ◌<◌, ◌≤◌, ◌⊎◌, List, [], ◌∷◌, length, Option, Some, None, Err, refl, ap, ⊎_elim, arith}
use Rattle.std.specs.Option.{option_map_or}
use Rattle.gcd_plan.specs.PlanView.{PlanView}
use Rattle.gcd_plan.specs.declared.numbers.Run.{Run}
use Rattle.gcd_script.specs.declared.keyword.Keyword.{Keyword}
use Rattle.gcd_script.specs.declared.keyword.Keyword.TheVariants.{File, Queue, Group, Semaphore, Source, Cancelled, Until, Block, Handler, Main, Submit, GroupSubmit, OneObject, Limited, Target, Merge, Intake, Strip, Apply, OneBlock, NotifyBlock}
use Rattle.gcd_script.specs.declared.keyword.GroupSubmission.{GroupSubmission}
use Rattle.gcd_script.specs.declared.refusal.Refusal.TheVariants.{NoForm}
use Rattle.gcd_script.specs.Acts.{act_line, group_submit_act}
use Rattle.gcd_script.specs.Declarations.{queue_line, source_line, block_line, strip_line}
use Rattle.gcd_script.specs.Drafts.{DraftView}
use Rattle.gcd_script.specs.Forms.{line_by}
use Rattle.gcd_script.specs.Judged.{judged, line_of}
use Rattle.gcd_script.specs.Keywords.{keyword_of}
use Rattle.gcd_script.specs.Meant.{then_meant}

pub queue_other : (plan : PlanView) (words : List (List ℕ)) → (length words < 2) ⊎ (6 ≤ length words) → queue_line plan words ≡ Err NoForm
queue_other plan [] other = refl
queue_other plan (a ∷ []) other = refl
queue_other plan (a ∷ b ∷ []) other = ⊎_elim (λ (l : 2 < 2). absurd (omega arith)) (λ (m : 6 ≤ 2). absurd (omega arith)) other
queue_other plan (a ∷ b ∷ c ∷ []) other = ⊎_elim (λ (l : 3 < 2). absurd (omega arith)) (λ (m : 6 ≤ 3). absurd (omega arith)) other
queue_other plan (a ∷ b ∷ c ∷ e ∷ []) other = ⊎_elim (λ (l : 4 < 2). absurd (omega arith)) (λ (m : 6 ≤ 4). absurd (omega arith)) other
queue_other plan (a ∷ b ∷ c ∷ e ∷ f ∷ []) other = ⊎_elim (λ (l : 5 < 2). absurd (omega arith)) (λ (m : 6 ≤ 5). absurd (omega arith)) other
queue_other plan (a ∷ b ∷ c ∷ e ∷ f ∷ g ∷ more) other = refl

pub source_other : (plan : PlanView) (words : List (List ℕ)) → (length words < 4) ⊎ (7 ≤ length words) → source_line plan words ≡ Err NoForm
source_other plan [] other = refl
source_other plan (a ∷ []) other = refl
source_other plan (a ∷ b ∷ []) other = refl
source_other plan (a ∷ b ∷ c ∷ []) other = refl
source_other plan (a ∷ b ∷ c ∷ e ∷ []) other = ⊎_elim (λ (l : 4 < 4). absurd (omega arith)) (λ (m : 7 ≤ 4). absurd (omega arith)) other
source_other plan (a ∷ b ∷ c ∷ e ∷ f ∷ []) other = ⊎_elim (λ (l : 5 < 4). absurd (omega arith)) (λ (m : 7 ≤ 5). absurd (omega arith)) other
source_other plan (a ∷ b ∷ c ∷ e ∷ f ∷ g ∷ []) other = ⊎_elim (λ (l : 6 < 4). absurd (omega arith)) (λ (m : 7 ≤ 6). absurd (omega arith)) other
source_other plan (a ∷ b ∷ c ∷ e ∷ f ∷ g ∷ h ∷ more) other = refl

pub block_none : (plan : PlanView) (words : List (List ℕ)) → length words < 1 → block_line plan words ≡ Err NoForm
block_none plan [] none = refl
block_none plan (a ∷ words) none = absurd (omega arith)

pub block_two : (plan : PlanView) (words : List (List ℕ)) → 2 ≤ length words → length words < 3 → block_line plan words ≡ Err NoForm
block_two plan [] more less = absurd (omega arith)
block_two plan (a ∷ []) more less = absurd (omega arith)
block_two plan (a ∷ b ∷ []) more less = refl
block_two plan (a ∷ b ∷ c ∷ words) more less = absurd (omega arith)

pub block_many : (plan : PlanView) (words : List (List ℕ)) → 7 ≤ length words → block_line plan words ≡ Err NoForm
block_many plan [] many = refl
block_many plan (a ∷ []) many = absurd (omega arith)
block_many plan (a ∷ b ∷ []) many = refl
block_many plan (a ∷ b ∷ c ∷ []) many = absurd (omega arith)
block_many plan (a ∷ b ∷ c ∷ e ∷ []) many = absurd (omega arith)
block_many plan (a ∷ b ∷ c ∷ e ∷ f ∷ []) many = absurd (omega arith)
block_many plan (a ∷ b ∷ c ∷ e ∷ f ∷ g ∷ []) many = absurd (omega arith)
block_many plan (a ∷ b ∷ c ∷ e ∷ f ∷ g ∷ h ∷ more) many = refl

pub strip_other : (plan : PlanView) (words : List (List ℕ)) → (length words < 5) ⊎ (6 ≤ length words) → strip_line plan words ≡ Err NoForm
strip_other plan [] other = refl
strip_other plan (a ∷ []) other = refl
strip_other plan (a ∷ b ∷ []) other = refl
strip_other plan (a ∷ b ∷ c ∷ []) other = refl
strip_other plan (a ∷ b ∷ c ∷ e ∷ []) other = refl
strip_other plan (a ∷ b ∷ c ∷ e ∷ f ∷ []) other = ⊎_elim (λ (l : 5 < 5). absurd (omega arith)) (λ (m : 6 ≤ 5). absurd (omega arith)) other
strip_other plan (a ∷ b ∷ c ∷ e ∷ f ∷ g ∷ more) other = refl

pub group_other : (plan : PlanView) (how : GroupSubmission) (words : List (List ℕ)) → (length words < 3) ⊎ (4 ≤ length words) → group_submit_act plan how words ≡ Err NoForm
group_other plan how [] other = refl
group_other plan how (a ∷ []) other = refl
group_other plan how (a ∷ b ∷ []) other = refl
group_other plan how (a ∷ b ∷ c ∷ []) other = ⊎_elim (λ (l : 3 < 3). absurd (omega arith)) (λ (m : 4 ≤ 3). absurd (omega arith)) other
group_other plan how (a ∷ b ∷ c ∷ e ∷ more) other = refl

-- an act that is of no form
no_act : (body : Option Run) → act_line body (Err NoForm) ≡ Err NoForm
no_act None = refl
no_act (Some run) = refl

-- seven words after the first are of no form
seven : (d : DraftView) (keyword : Keyword) (a b c e f g h : List ℕ) (more : List (List ℕ)) → line_by d (a ∷ b ∷ c ∷ e ∷ f ∷ g ∷ h ∷ more) keyword ≡ Err NoForm
seven d File a b c e f g h more = refl
seven d Queue a b c e f g h more = refl
seven d Group a b c e f g h more = refl
seven d Semaphore a b c e f g h more = refl
seven d Source a b c e f g h more = refl
seven d Cancelled a b c e f g h more = refl
seven d Until a b c e f g h more = refl
seven d Block a b c e f g h more = refl
seven d Handler a b c e f g h more = refl
seven d Main a b c e f g h more = refl
seven d (Submit how) a b c e f g h more = no_act d.body
seven d (GroupSubmit how) a b c e f g h more = no_act d.body
seven d (OneObject what) a b c e f g h more = no_act d.body
seven d (Limited what) a b c e f g h more = no_act d.body
seven d Target a b c e f g h more = no_act d.body
seven d Merge a b c e f g h more = no_act d.body
seven d Intake a b c e f g h more = refl
seven d Strip a b c e f g h more = refl
seven d Apply a b c e f g h more = no_act d.body
seven d (OneBlock what) a b c e f g h more = no_act d.body
seven d NotifyBlock a b c e f g h more = no_act d.body

many_words : (d : DraftView) (keyword : Keyword) (words : List (List ℕ)) → 6 < length words → line_by d words keyword ≡ Err NoForm
many_words d keyword [] many = absurd (omega arith)
many_words d keyword (a ∷ []) many = absurd (omega arith)
many_words d keyword (a ∷ b ∷ []) many = absurd (omega arith)
many_words d keyword (a ∷ b ∷ c ∷ []) many = absurd (omega arith)
many_words d keyword (a ∷ b ∷ c ∷ e ∷ []) many = absurd (omega arith)
many_words d keyword (a ∷ b ∷ c ∷ e ∷ f ∷ []) many = absurd (omega arith)
many_words d keyword (a ∷ b ∷ c ∷ e ∷ f ∷ g ∷ []) many = absurd (omega arith)
many_words d keyword (a ∷ b ∷ c ∷ e ∷ f ∷ g ∷ h ∷ more) many = seven d keyword a b c e f g h more

-- so a line with more words than any form has means nothing
pub too_many : (d : DraftView) (first : List ℕ) (words : List (List ℕ)) → 6 < length words → line_of d (first ∷ words) ≡ Err NoForm
too_many d first words many =
    elim (keyword_of first) as (λ o. then_meant (judged d) (option_map_or (line_by d words) o (Err NoForm)) ≡ Err NoForm) [
      | None ↦ refl
      | Some keyword ↦ ap (then_meant (judged d)) (many_words d keyword words many)
    ]

-- Holds, and which objects are free (dispatch_suspend(3), dispatch_activate(3)).
use Rattle.std.specs.Prelude.{ℕ, ◌+◌, ◌-◌, ◌==◌, Bool, not, ◌&&◌, ◌||◌, if◌then◌else◌, List, [], ◌∷◌, Option, is_some}
use Rattle.gcd_plan.specs.Effects.{effects_of, acts_on}
use Rattle.gcd_plan.specs.PlanView.{PlanView, starts_active}
use Rattle.gcd_plan.specs.Kinds.{is_source}
use Rattle.gcd_plan.specs.declared.act.Act.{Act}
use Rattle.gcd_event.specs.declared.event.Event.{Event}
use Rattle.gcd_history.specs.Runs.{act_of}
use Rattle.gcd_history.specs.Tree.{is_moving}

-- object o's hold after the act
abbrev pub hold_after : ℕ → Option Act → ℕ → ℕ
hold_after o act hold =
    if acts_on o (effects_of act).suspends then hold + 1 else if acts_on o (effects_of act).resumes then hold - 1 else hold

-- suspends less resumes; a resume at hold 0 is one that activates, and is not counted (`-` stops at 0)
-- (dispatch_suspend(3), dispatch_resume(3))
abbrev pub hold : PlanView → List Event → ℕ → ℕ
hold plan [] o = 0
hold plan (e ∷ past) o = hold_after o (act_of plan e) (hold plan past o)

-- the act activates object o: an Activate, or a Resume, where a Resume may (dispatch_activate(3), dispatch_resume(3))
abbrev pub activates : ℕ → (resumes : Bool) → Option Act → Bool
activates o resumes act =
    if is_some (effects_of act).activates then acts_on o (effects_of act).activates else acts_on o (effects_of act).resumes && resumes

-- created active, or an Activate stands, or a Resume of a source at hold 0 (dispatch_activate(3))
abbrev pub is_active : PlanView → List Event → ℕ → Bool
is_active plan [] o = starts_active plan o
is_active plan (e ∷ past) o =
    is_active plan past o || activates o (is_source plan o && hold plan past o == 0) (act_of plan e)

-- active, with hold 0, and not moving (dispatch_suspend(3), dispatch_activate(3), dispatch_set_target_queue(3))
unfoldable pub is_free : PlanView → List Event → ℕ → Bool
is_free plan past o = is_active plan past o && (hold plan past o == 0 && not (is_moving plan past o))

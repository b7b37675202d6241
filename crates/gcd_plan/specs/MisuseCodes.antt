-- The number of each code of misuse (dispatch_resume(3), dispatch_group_leave(3), dispatch_set_target_queue(3),
-- dispatch_object(3), dispatch_semaphore_create(3); 4 and 5 dispatch/object.h and dispatch/queue.h).
use Rattle.std.specs.Prelude.{ℕ}
use Rattle.gcd_plan.specs.declared.misuse_code.MisuseCode.{MisuseCode}
use Rattle.gcd_plan.specs.declared.misuse_code.MisuseCode.TheVariants.{OverResume, UnbalancedLeave, TargetCycle, TargetAfterActivation, TargetWhileTargeted, UseAfterRelease, ReleaseWhileSuspended, ReleaseBelowFirstValue}

abbrev pub code_of : MisuseCode → ℕ
code_of OverResume = 1
code_of UnbalancedLeave = 2
code_of TargetCycle = 3
code_of TargetAfterActivation = 4
code_of TargetWhileTargeted = 5
code_of UseAfterRelease = 6
code_of ReleaseWhileSuspended = 7
code_of ReleaseBelowFirstValue = 8

-- the last code: they are numbered from 1 on, without a gap
abbrev pub last_code : ℕ
last_code = code_of ReleaseBelowFirstValue

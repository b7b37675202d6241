-- The jobs of a board.
use Rattle.std.proofs.Common.{◌≡◌, ◌<◌, ◌≤◌, ◌+◌, ◌∙◌, ℕ, zero, suc, List, [], ◌∷◌, ◌++◌, length, map, Option, Some, ap, sym, arith, ⊎_elim}
use Rattle.std.specs.Option.{option_map_or}
use Rattle.std.specs.Prelude.{slice_get}
use Rattle.std.proofs.lemmas.Bool.{cases_lt}
use Rattle.std.proofs.lemmas.List.{length_push}
use Rattle.std.proofs.lemmas.Option.{same_Some, slice_get_within}
use Rattle.gcd_plan.specs.PlanView.{PlanView, work_of}
use Rattle.gcd_plan.specs.declared.work.Work.{Work}
use Rattle.gcd_plan.proofs.Places.{slice_get-append_left, slice_get-append_seam}
use Rattle.gcd_history.specs.Values.{value_of, work_value}
use Rattle.gcd_jobs.specs.Jobs.{job_value}
use Rattle.gcd_jobs.specs.declared.file_job.FileJob.{FileJob}
use Rattle.gcd_row.specs.declared.cell.Cell.{Cell}
use Rattle.gcd_row.specs.declared.cell.Cell.TheVariants.{Body}
use Rattle.gcd_workers.specs.Works.{AreJobs}

pub jobs_push : (plan : PlanView) (files : List (List ℕ)) (n : ℕ) (jobs : List FileJob) (job : FileJob) → job_value job ≡ value_of plan files n
    → AreJobs plan files n jobs → AreJobs plan files (n + 1) (jobs ++ job ∷ [])
jobs_push plan files n jobs job is are =
    let count = are.count in
    let long = length_push jobs job in
    record {
      count = omega (arith, count, long);
      works = λ b j at.
          let within = slice_get_within (jobs ++ job ∷ []) b j at in
          ⊎_elim
          (λ (early : b < length jobs). are.works b j (sym (slice_get-append_left jobs (job ∷ []) b early) ∙ at))
          (λ (late : length jobs ≤ b).
          let same : length jobs ≡ b = omega (arith, long, within, late) in
          let it : job ≡ j = same_Some job j (sym (slice_get-append_seam jobs job []) ∙ ap (slice_get (jobs ++ job ∷ [])) same ∙ at) in
          let place : n ≡ b = sym count ∙ same in
          ap job_value (sym it) ∙ is ∙ ap (value_of plan files) place)
          (cases_lt b (length jobs));
    }

pub body_at : {J H : Type 0} (jobs : List J) (rest : List (Cell J H)) (b : ℕ) (job : J) → slice_get jobs b ≡ Some job
    → slice_get (map (λ j. Body j) jobs ++ rest) b ≡ Some (Body job)
body_at [] rest b job at = absurd (cc)
body_at {J} {H} (j ∷ jobs) rest zero job at = ap (λ (x : J). let cell : Cell J H = Body x in Some cell) (same_Some j job at)
body_at (j ∷ jobs) rest (suc b) job at = body_at jobs rest b job at

-- the job of a block's work gives its value
pub job_is : (plan : PlanView) (files : List (List ℕ)) (b : ℕ) (work : Option Work) (job : FileJob) → work ≡ work_of plan b
    → job_value job ≡ option_map_or (work_value files) work 0 → job_value job ≡ value_of plan files b
unfolding value_of
job_is plan files b work job here is = is ∙ ap (λ (w : Option Work). option_map_or (work_value files) w 0) here

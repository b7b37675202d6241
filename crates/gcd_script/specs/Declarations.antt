-- What the lines that declare something mean, by the words after the first. Each definition has
-- an equation for each number of words that its form may have; words of another number are no form.
use Rattle.std.specs.Prelude.{ℕ, ◌-◌, ◌&&◌, not, Bool, true, false, if◌then◌else◌, List, [], ◌∷◌, Some, None, is_none, Ok, Err, codes}
use Rattle.std.specs.Option.{option_map_or}
use Rattle.std.specs.Str.{bytes_eq}
use Rattle.gcd_plan.specs.Limits.{max_value, max_time, max_file_bytes, max_intake, max_blocks}
use Rattle.gcd_plan.specs.PlanView.{PlanView}
use Rattle.gcd_plan.specs.declared.kind.Kind.{Kind}
use Rattle.gcd_plan.specs.declared.kind.Kind.TheVariants.{Group, Semaphore, Timer, Read}
use Rattle.gcd_plan.specs.declared.numbers.Obj.{Obj}
use Rattle.gcd_plan.specs.declared.work.How.{How}
use Rattle.gcd_plan.specs.declared.work.How.TheVariants.{Count}
use Rattle.gcd_plan.specs.declared.work.Work.{Work}
use Rattle.gcd_script.specs.declared.line.Line.{Line}
use Rattle.gcd_script.specs.declared.line.Line.TheVariants.{DeclareFile, DeclareObject, DeclareBlock, SetUntil, SetCancel, OpenHandler, OpenMain, DeclareIntake, DeclareStrip}
use Rattle.gcd_script.specs.declared.refusal.Refusal.TheVariants.{NoForm, BadName, NotOneMain}
use Rattle.gcd_script.specs.Keywords.{pick, queue_kinds, merge_kinds, counts}
use Rattle.gcd_script.specs.Meant.{Meant, meant, both, given, must}
use Rattle.gcd_script.specs.Words.{new_name, path, number, file, block, queue, source}

-- one of the words of a table
abbrev pub one_of : {A : Type 0} → List (List ℕ × A) → List ℕ → Meant A
one_of rows word = option_map_or Ok (pick rows word) (Err NoForm)

-- the queue root
abbrev pub root : Obj
root = record { 0 = 0 }

-- `file F PATH`
abbrev pub file_line : PlanView → List (List ℕ) → Meant (Line (List ℕ))
file_line plan (f ∷ p ∷ []) = meant (λ fits. DeclareFile f p) (both (new_name plan f) (path p))
file_line plan _ = Err NoForm

-- an object with a new name
abbrev pub object_line : PlanView → (name : List ℕ) → Meant (Kind × Obj) → Bool → (path : List ℕ) → Meant (Line (List ℕ))
object_line plan name what active feed =
    meant (λ (fits, (kind, target)). DeclareObject name kind target active feed) (both (new_name plan name) what)

-- `queue Q K`, `queue Q K inactive`, `queue Q K on T`, `queue Q K on T inactive`
abbrev pub queue_line : PlanView → List (List ℕ) → Meant (Line (List ℕ))
queue_line plan (q ∷ k ∷ []) = object_line plan q (both (one_of queue_kinds k) (Ok root)) true []
queue_line plan (q ∷ k ∷ i ∷ []) =
    given (bytes_eq i (codes "inactive")) (object_line plan q (both (one_of queue_kinds k) (Ok root)) false [])
queue_line plan (q ∷ k ∷ on ∷ t ∷ []) =
    given (bytes_eq on (codes "on")) (object_line plan q (both (one_of queue_kinds k) (queue plan t)) true [])
queue_line plan (q ∷ k ∷ on ∷ t ∷ i ∷ []) =
    given (bytes_eq on (codes "on") && bytes_eq i (codes "inactive"))
    (object_line plan q (both (one_of queue_kinds k) (queue plan t)) false [])
queue_line plan _ = Err NoForm

-- `group G`
abbrev pub group_line : PlanView → List (List ℕ) → Meant (Line (List ℕ))
group_line plan (g ∷ []) = object_line plan g (Ok (Group, root)) true []
group_line plan _ = Err NoForm

-- `semaphore S N`
abbrev pub semaphore_line : PlanView → List (List ℕ) → Meant (Line (List ℕ))
semaphore_line plan (s ∷ n ∷ []) =
    object_line plan s (meant (λ value. (Semaphore value, root)) (number 0 max_value n)) true []
semaphore_line plan _ = Err NoForm

-- `source S add on T`, `source S or on T`, `source S replace on T`, `source S read PATH on T`, `source S timer START EVERY on T`
abbrev pub source_line : PlanView → List (List ℕ) → Meant (Line (List ℕ))
source_line plan (s ∷ k ∷ on ∷ t ∷ []) =
    given (bytes_eq on (codes "on")) (object_line plan s (both (one_of merge_kinds k) (queue plan t)) false [])
source_line plan (s ∷ read ∷ p ∷ on ∷ t ∷ []) =
    given (bytes_eq read (codes "read") && bytes_eq on (codes "on"))
    (object_line plan s (meant (λ (fits, target). (Read, target)) (both (path p) (queue plan t))) false p)
source_line plan (s ∷ timer ∷ start ∷ every ∷ on ∷ t ∷ []) =
    given (bytes_eq timer (codes "timer") && bytes_eq on (codes "on"))
    (object_line plan s
    (both (meant (λ (m, n). Timer m n) (both (number 1 max_time start) (number 1 max_time every))) (queue plan t)) false [])
source_line plan _ = Err NoForm

-- `cancelled S B`
abbrev pub cancelled_line : PlanView → List (List ℕ) → Meant (Line (List ℕ))
cancelled_line plan (s ∷ b ∷ []) = meant (λ (o, c). SetCancel o c) (both (source plan s) (block plan b))
cancelled_line plan _ = Err NoForm

-- `until MS`; a second one is refused as a name that is taken
abbrev pub until_line : (has_until : Bool) → List (List ℕ) → Meant (Line (List ℕ))
until_line has_until (ms ∷ []) =
    meant (λ (first, n). SetUntil n) (both (must (not has_until) BadName) (number 1 max_time ms))
until_line has_until _ = Err NoForm

-- the range of a work: where it starts, and how many bytes it has at most
abbrev pub range : (from len : List ℕ) → Meant (ℕ × ℕ)
range from len = both (number 0 max_file_bytes from) (number 0 max_file_bytes len)

-- a whole file
abbrev pub whole : ℕ × ℕ
whole = (0, max_file_bytes)

-- a work: what it counts, and over which part of a file
abbrev pub work : Meant How → (file : Meant ℕ) → (part : Meant (ℕ × ℕ)) → Meant Work
work how file part =
    meant (λ (h, (f, (from, len))). record { how = h; file = f; start = from; len = len }) (both how (both file part))

-- a block with a new name and a work
abbrev pub work_line : PlanView → (name : List ℕ) → Meant Work → Meant (Line (List ℕ))
work_line plan name what = meant (λ (fits, w). DeclareBlock name (Some w)) (both (new_name plan name) what)

-- the work that counts the bytes of a value
abbrev pub counting : List ℕ → Meant How
counting value = meant Count (number 0 255 value)

-- `block B`, `block B W F`, `block B count V F`, `block B W F FROM LEN`, `block B count V F FROM LEN`
abbrev pub block_line : PlanView → List (List ℕ) → Meant (Line (List ℕ))
block_line plan (b ∷ []) = meant (λ fits. DeclareBlock b None) (new_name plan b)
block_line plan (b ∷ w ∷ f ∷ []) = work_line plan b (work (one_of counts w) (file plan f) (Ok whole))
block_line plan (b ∷ count ∷ v ∷ f ∷ []) =
    given (bytes_eq count (codes "count")) (work_line plan b (work (counting v) (file plan f) (Ok whole)))
block_line plan (b ∷ w ∷ f ∷ from ∷ len ∷ []) = work_line plan b (work (one_of counts w) (file plan f) (range from len))
block_line plan (b ∷ count ∷ v ∷ f ∷ from ∷ len ∷ []) =
    given (bytes_eq count (codes "count")) (work_line plan b (work (counting v) (file plan f) (range from len)))
block_line plan _ = Err NoForm

-- `intake Q N`; a second one is refused as a name that is taken
abbrev pub intake_line : PlanView → List (List ℕ) → Meant (Line (List ℕ))
intake_line plan (q ∷ n ∷ []) =
    meant (λ (first, (o, count)). DeclareIntake o count)
    (both (must (is_none plan.intake) BadName) (both (queue plan q) (number 1 max_intake n)))
intake_line plan _ = Err NoForm

-- `strip A W F LEN N` (dispatch_apply(3))
abbrev pub strip_line : PlanView → List (List ℕ) → Meant (Line (List ℕ))
strip_line plan (a ∷ w ∷ f ∷ len ∷ n ∷ []) =
    meant (λ (fits, (how, (from, (bytes, count)))). DeclareStrip a how from bytes count)
    (both (new_name plan a)
    (both (one_of counts w) (both (file plan f) (both (number 1 max_file_bytes len) (number 0 (max_blocks - 1) n)))))
strip_line plan _ = Err NoForm

-- `handler S`
abbrev pub handler_line : PlanView → List (List ℕ) → Meant (Line (List ℕ))
handler_line plan (s ∷ []) = meant OpenHandler (source plan s)
handler_line plan _ = Err NoForm

-- `main`
abbrev pub main_line : (has_main : Bool) → List (List ℕ) → Meant (Line (List ℕ))
main_line has_main [] = if has_main then Err NotOneMain else Ok OpenMain
main_line has_main _ = Err NoForm

-- The words of a line that mean something name what is there: what each form gives fits the draft.
use Rattle.std.proofs.Common.{ℕ, ◌≡◌, Bool, true, false, not, ◌&&◌, ltb, leb, List, [], ◌∷◌, length, Some, None, Ok, codes, refl, subst, ◌-◌, is_none}
use Rattle.std.specs.Str.{bytes_eq}
use Rattle.std.proofs.lemmas.Bool.{and_parts, and_from, lt-ltb, leb-true}
use Rattle.gcd_plan.specs.Kinds.{is_queue, is_queue_kind, is_source_kind, is_merge_kind}
use Rattle.gcd_plan.specs.Limits.{max_blocks, max_intake, max_value, max_time, max_file_bytes}
use Rattle.gcd_plan.specs.Names.{is_path}
use Rattle.gcd_plan.specs.PlanView.{PlanView}
use Rattle.gcd_plan.specs.Validity.{is_object, is_strip_how, is_work}
use Rattle.gcd_plan.specs.declared.kind.Kind.{Kind}
use Rattle.gcd_plan.specs.declared.kind.Kind.TheVariants.{Group, Semaphore, Timer, Read}
use Rattle.gcd_plan.specs.declared.numbers.Obj.{Obj}
use Rattle.gcd_plan.specs.declared.work.How.{How}
use Rattle.gcd_plan.specs.declared.work.Work.{Work}
use Rattle.gcd_plan.proofs.Within.{root_is_queue}
use Rattle.gcd_script.specs.declared.line.Line.{Line}
use Rattle.gcd_script.specs.declared.line.Line.TheVariants.{DeclareFile, DeclareObject, DeclareBlock, SetUntil, SetCancel, OpenHandler, OpenMain, DeclareIntake, DeclareStrip}
use Rattle.gcd_script.specs.declared.refusal.Refusal.TheVariants.{NoForm, BadName}
use Rattle.gcd_builder.specs.Changes.{new_object}
use Rattle.gcd_script.specs.Declarations.{root, one_of, file_line, object_line, queue_line, group_line, semaphore_line, source_line, cancelled_line, until_line, work, work_line, range, whole, counting, block_line, intake_line, strip_line, handler_line, main_line}
use Rattle.gcd_script.specs.Drafts.{DraftView}
use Rattle.gcd_script.specs.Keywords.{queue_kinds, merge_kinds, counts}
use Rattle.gcd_script.specs.Meant.{Meant, meant, both, must}
use Rattle.gcd_builder.specs.Names.{is_unused}
use Rattle.gcd_script.specs.Sound.{IsDraft, Fits}
use Rattle.gcd_script.specs.Words.{new_name, path, number, file, block, queue, source}
use Rattle.gcd_builder.proofs.ObjectKinds.{queue_object, merge_object, read_object, timer_object}
use Rattle.gcd_script.proofs.Inversions.{made_of, both_are, held, passed, in_range, one_is}
use Rattle.gcd_script.proofs.Known.{file_within, block_declared, object_asked}

-- a line `main`
main_case : (d : DraftView) (has_main : Bool) (line : Line (List ℕ)) → main_line has_main [] ≡ Ok line → Fits d line
main_case d true line h = cc
main_case d false line h = let same : OpenMain ≡ line = cc in subst (Fits d) same tt

-- what the parts of an object's line are
module _ (d : DraftView) (sound : IsDraft d) where
  root_queue : is_queue d.plan 0 ≡ true
  root_queue = root_is_queue d.plan sound.valid.root

  object_fits : (name : List ℕ) (what : Meant (Kind × Obj)) (active : Bool) (feed : List ℕ) (line : Line (List ℕ)) → ((kind : Kind) (target : Obj) → what ≡ Ok (kind, target) → is_object d.plan (new_object name kind target active feed) ≡ true) → object_line d.plan name what active feed ≡ Ok line → Fits d line
  object_fits name what active feed line is h =
      let m = made_of (λ (fits, (kind, target)). DeclareObject name kind target active feed) (both (new_name d.plan name) what) line h in
      let b = both_are (new_name d.plan name) what m.0.0 m.0.1 m.1 in
      subst (Fits d) m.2 (held (is_unused d.plan name) BadName m.0.0 b.0, is m.0.1.0 m.0.1.1 b.1)

  pub file_fits : (words : List (List ℕ)) (line : Line (List ℕ)) → file_line d.plan words ≡ Ok line → Fits d line
  file_fits (f ∷ p ∷ []) line h =
      let m = made_of (λ fits. DeclareFile f p) (both (new_name d.plan f) (path p)) line h in
      let b = both_are (new_name d.plan f) (path p) m.0.0 m.0.1 m.1 in
      subst (Fits d) m.2 (held (is_unused d.plan f) BadName m.0.0 b.0, held (is_path p) NoForm m.0.1 b.1)
  file_fits _ line h = cc

  -- a queue's kind and target
  queue_on_root : (name k : List ℕ) (active : Bool) (kind : Kind) (target : Obj) → both (one_of queue_kinds k) (Ok root) ≡ Ok (kind, target) → is_object d.plan (new_object name kind target active []) ≡ true
  queue_on_root name k active kind target h =
      let b = both_are (one_of queue_kinds k) (Ok root) kind target h in
      let on : root ≡ target = let r : ◌≡◌ {A = Meant Obj} (Ok root) (Ok target) = b.1 in cc in
      queue_object d.plan name kind target active (one_is (λ a. is_queue_kind a ≡ true) queue_kinds k kind (refl, (refl, tt)) b.0)
      (subst (λ t. is_queue d.plan t.0 ≡ true) on root_queue)

  queue_on : (name k t : List ℕ) (active : Bool) (kind : Kind) (target : Obj) → both (one_of queue_kinds k) (queue d.plan t) ≡ Ok (kind, target) → is_object d.plan (new_object name kind target active []) ≡ true
  queue_on name k t active kind target h =
      let b = both_are (one_of queue_kinds k) (queue d.plan t) kind target h in
      queue_object d.plan name kind target active (one_is (λ a. is_queue_kind a ≡ true) queue_kinds k kind (refl, (refl, tt)) b.0)
      (object_asked d.plan is_queue_kind t target b.1)

  pub queue_fits : (words : List (List ℕ)) (line : Line (List ℕ)) → queue_line d.plan words ≡ Ok line → Fits d line
  queue_fits (q ∷ k ∷ []) line h = object_fits q _ true [] line (queue_on_root q k true) h
  queue_fits (q ∷ k ∷ i ∷ []) line h =
      object_fits q _ false [] line (queue_on_root q k false)
      (passed (bytes_eq i (codes "inactive")) (object_line d.plan q (both (one_of queue_kinds k) (Ok root)) false []) line h)
  queue_fits (q ∷ k ∷ on ∷ t ∷ []) line h =
      object_fits q _ true [] line (queue_on q k t true)
      (passed (bytes_eq on (codes "on")) (object_line d.plan q (both (one_of queue_kinds k) (queue d.plan t)) true []) line h)
  queue_fits (q ∷ k ∷ on ∷ t ∷ i ∷ []) line h =
      object_fits q _ false [] line (queue_on q k t false)
      (passed (bytes_eq on (codes "on") && bytes_eq i (codes "inactive")) (object_line d.plan q (both (one_of queue_kinds k) (queue d.plan t)) false []) line h)
  queue_fits _ line h = cc

  -- a group and a semaphore have nothing beside their kind
  pub group_fits : (words : List (List ℕ)) (line : Line (List ℕ)) → group_line d.plan words ≡ Ok line → Fits d line
  group_fits (g ∷ []) line h =
      object_fits g (Ok (Group, root)) true [] line
      (λ kind target e.
      let same : ◌≡◌ {A = Kind × Obj} (Group, root) (kind, target) = cc in
      subst (λ (p : Kind × Obj). is_object d.plan (new_object g p.0 p.1 true []) ≡ true) same refl)
      h
  group_fits _ line h = cc

  pub semaphore_fits : (words : List (List ℕ)) (line : Line (List ℕ)) → semaphore_line d.plan words ≡ Ok line → Fits d line
  semaphore_fits (s ∷ n ∷ []) line h =
      object_fits s (meant {B = Kind × Obj} (λ value. (Semaphore value, root)) (number 0 max_value n)) true [] line
      (λ kind target e.
      let m = made_of {B = Kind × Obj} (λ value. (Semaphore value, root)) (number 0 max_value n) (kind, target) e in
      let low = and_parts (leb 0 m.0) (leb m.0 max_value) (in_range 0 max_value n m.0 m.1) in
      subst (λ (p : Kind × Obj). is_object d.plan (new_object s p.0 p.1 true []) ≡ true) m.2 (and_from (leb m.0 max_value) true low.1 refl))
      h
  semaphore_fits _ line h = cc

  -- a source of merged values
  merge_on : (name k t : List ℕ) (kind : Kind) (target : Obj) → both (one_of merge_kinds k) (queue d.plan t) ≡ Ok (kind, target) → is_object d.plan (new_object name kind target false []) ≡ true
  merge_on name k t kind target h =
      let b = both_are (one_of merge_kinds k) (queue d.plan t) kind target h in
      merge_object d.plan name kind target (one_is (λ a. is_merge_kind a ≡ true) merge_kinds k kind (refl, (refl, (refl, tt))) b.0)
      (object_asked d.plan is_queue_kind t target b.1)

  -- a read source
  read_on : (name p t : List ℕ) (kind : Kind) (target : Obj) → meant {B = Kind × Obj} (λ (fits, on). (Read, on)) (both (path p) (queue d.plan t)) ≡ Ok (kind, target) → is_object d.plan (new_object name kind target false p) ≡ true
  read_on name p t kind target h =
      let m = made_of {B = Kind × Obj} (λ (fits, on). (Read, on)) (both (path p) (queue d.plan t)) (kind, target) h in
      let b = both_are (path p) (queue d.plan t) m.0.0 m.0.1 m.1 in
      let on = object_asked d.plan is_queue_kind t m.0.1 b.1 in
      subst (λ (q : Kind × Obj). is_object d.plan (new_object name q.0 q.1 false p) ≡ true) m.2
      (read_object d.plan name p m.0.1 (held (is_path p) NoForm m.0.0 b.0) on)

  -- a timer
  timer_on : (name start every t : List ℕ) (kind : Kind) (target : Obj) → both (meant (λ (m, n). Timer m n) (both (number 1 max_time start) (number 1 max_time every))) (queue d.plan t) ≡ Ok (kind, target) → is_object d.plan (new_object name kind target false []) ≡ true
  timer_on name start every t kind target h =
      let times = both (number 1 max_time start) (number 1 max_time every) in
      let b = both_are (meant (λ (m, n). Timer m n) times) (queue d.plan t) kind target h in
      let m = made_of {B = Kind} (λ (m, n). Timer m n) times kind b.0 in
      let n = both_are (number 1 max_time start) (number 1 max_time every) m.0.0 m.0.1 m.1 in
      subst (λ (k : Kind). is_object d.plan (new_object name k target false []) ≡ true) m.2
      (timer_object d.plan name m.0.0 m.0.1 target (in_range 1 max_time start m.0.0 n.0) (in_range 1 max_time every m.0.1 n.1)
      (object_asked d.plan is_queue_kind t target b.1))

  pub source_fits : (words : List (List ℕ)) (line : Line (List ℕ)) → source_line d.plan words ≡ Ok line → Fits d line
  source_fits (s ∷ k ∷ on ∷ t ∷ []) line h =
      object_fits s _ false [] line (merge_on s k t)
      (passed (bytes_eq on (codes "on")) (object_line d.plan s (both (one_of merge_kinds k) (queue d.plan t)) false []) line h)
  source_fits (s ∷ read ∷ p ∷ on ∷ t ∷ []) line h =
      object_fits s _ false p line (read_on s p t)
      (passed (bytes_eq read (codes "read") && bytes_eq on (codes "on"))
      (object_line d.plan s (meant {B = Kind × Obj} (λ (fits, target). (Read, target)) (both (path p) (queue d.plan t))) false p) line h)
  source_fits (s ∷ timer ∷ start ∷ every ∷ on ∷ t ∷ []) line h =
      object_fits s _ false [] line (timer_on s start every t)
      (passed (bytes_eq timer (codes "timer") && bytes_eq on (codes "on"))
      (object_line d.plan s (both (meant (λ (m, n). Timer m n) (both (number 1 max_time start) (number 1 max_time every))) (queue d.plan t)) false [])
      line h)
  source_fits _ line h = cc

  pub cancelled_fits : (words : List (List ℕ)) (line : Line (List ℕ)) → cancelled_line d.plan words ≡ Ok line → Fits d line
  cancelled_fits (s ∷ b ∷ []) line h =
      let m = made_of (λ (o, c). SetCancel o c) (both (source d.plan s) (block d.plan b)) line h in
      let p = both_are (source d.plan s) (block d.plan b) m.0.0 m.0.1 m.1 in
      subst (Fits d) m.2 (object_asked d.plan is_source_kind s m.0.0 p.0, block_declared d.plan sound.valid b m.0.1 p.1)
  cancelled_fits _ line h = cc

  pub until_fits : (words : List (List ℕ)) (line : Line (List ℕ)) → until_line d.has_until words ≡ Ok line → Fits d line
  until_fits (ms ∷ []) line h =
      let m = made_of (λ (first, n). SetUntil n) (both (must (not d.has_until) BadName) (number 1 max_time ms)) line h in
      let p = both_are (must (not d.has_until) BadName) (number 1 max_time ms) m.0.0 m.0.1 m.1 in
      subst (Fits d) m.2 (in_range 1 max_time ms m.0.1 p.1)
  until_fits _ line h = cc

  -- a work over a part of a file
  work_fits : (name : List ℕ) (how : Meant How) (f : List ℕ) (part : Meant (ℕ × ℕ)) (line : Line (List ℕ)) → ((from len : ℕ) → part ≡ Ok (from, len) → (leb from max_file_bytes && leb len max_file_bytes) ≡ true) → work_line d.plan name (work how (file d.plan f) part) ≡ Ok line → Fits d line
  work_fits name how f part line fits h =
      let m = made_of (λ (u, w). DeclareBlock name (Some w)) (both (new_name d.plan name) (work how (file d.plan f) part)) line h in
      let outer = both_are (new_name d.plan name) (work how (file d.plan f) part) m.0.0 m.0.1 m.1 in
      let w = made_of {B = Work} (λ (h, (f, (from, len))). record { how = h; file = f; start = from; len = len }) (both how (both (file d.plan f) part)) m.0.1 outer.1 in
      let inner = both_are how (both (file d.plan f) part) w.0.0 w.0.1 w.1 in
      let last = both_are (file d.plan f) part w.0.1.0 w.0.1.1 inner.1 in
      let made : Work = record { how = w.0.0; file = w.0.1.0; start = w.0.1.1.0; len = w.0.1.1.1 } in
      let readable : is_work d.plan made ≡ true =
      and_from (ltb made.file (length d.plan.files)) (leb made.start max_file_bytes && leb made.len max_file_bytes)
      (lt-ltb made.file (length d.plan.files) (file_within d.plan f made.file last.0)) (fits made.start made.len last.1)
      in
      subst (Fits d) m.2 (held (is_unused d.plan name) BadName m.0.0 outer.0, subst (λ v. is_work d.plan v ≡ true) w.2 readable)

  whole_fits : (from len : ℕ) → ◌≡◌ {A = Meant (ℕ × ℕ)} (Ok whole) (Ok (from, len)) → (leb from max_file_bytes && leb len max_file_bytes) ≡ true
  whole_fits from len h =
      let same : ◌≡◌ {A = ℕ × ℕ} whole (from, len) = cc in
      subst (λ (p : ℕ × ℕ). (leb p.0 max_file_bytes && leb p.1 max_file_bytes) ≡ true) same refl

  range_fits : (f l : List ℕ) (from len : ℕ) → range f l ≡ Ok (from, len) → (leb from max_file_bytes && leb len max_file_bytes) ≡ true
  range_fits f l from len h =
      let b = both_are (number 0 max_file_bytes f) (number 0 max_file_bytes l) from len h in
      let first = and_parts (leb 0 from) (leb from max_file_bytes) (in_range 0 max_file_bytes f from b.0) in
      let second = and_parts (leb 0 len) (leb len max_file_bytes) (in_range 0 max_file_bytes l len b.1) in
      and_from (leb from max_file_bytes) (leb len max_file_bytes) first.1 second.1

  pub block_fits : (words : List (List ℕ)) (line : Line (List ℕ)) → block_line d.plan words ≡ Ok line → Fits d line
  block_fits (b ∷ []) line h =
      let m = made_of (λ fits. DeclareBlock b None) (new_name d.plan b) line h in
      subst (Fits d) m.2 (held (is_unused d.plan b) BadName m.0 m.1, refl)
  block_fits (b ∷ w ∷ f ∷ []) line h = work_fits b (one_of counts w) f (Ok whole) line whole_fits h
  block_fits (b ∷ count ∷ v ∷ f ∷ []) line h =
      work_fits b (counting v) f (Ok whole) line whole_fits
      (passed (bytes_eq count (codes "count")) (work_line d.plan b (work (counting v) (file d.plan f) (Ok whole))) line h)
  block_fits (b ∷ w ∷ f ∷ from ∷ len ∷ []) line h = work_fits b (one_of counts w) f (range from len) line (range_fits from len) h
  block_fits (b ∷ count ∷ v ∷ f ∷ from ∷ len ∷ []) line h =
      work_fits b (counting v) f (range from len) line (range_fits from len)
      (passed (bytes_eq count (codes "count")) (work_line d.plan b (work (counting v) (file d.plan f) (range from len))) line h)
  block_fits _ line h = cc

  pub intake_fits : (words : List (List ℕ)) (line : Line (List ℕ)) → intake_line d.plan words ≡ Ok line → Fits d line
  intake_fits (q ∷ n ∷ []) line h =
      let what = both (queue d.plan q) (number 1 max_intake n) in
      let m = made_of (λ (first, (o, count)). DeclareIntake o count) (both (must (is_none d.plan.intake) BadName) what) line h in
      let outer = both_are (must (is_none d.plan.intake) BadName) what m.0.0 m.0.1 m.1 in
      let inner = both_are (queue d.plan q) (number 1 max_intake n) m.0.1.0 m.0.1.1 outer.1 in
      let range = and_parts (leb 1 m.0.1.1) (leb m.0.1.1 max_intake) (in_range 1 max_intake n m.0.1.1 inner.1) in
      subst (Fits d) m.2
      (held (is_none d.plan.intake) BadName m.0.0 outer.0, object_asked d.plan is_queue_kind q m.0.1.0 inner.0, leb-true 1 m.0.1.1 range.0, leb-true m.0.1.1 max_intake range.1)
  intake_fits _ line h = cc

  pub strip_fits : (words : List (List ℕ)) (line : Line (List ℕ)) → strip_line d.plan words ≡ Ok line → Fits d line
  strip_fits (a ∷ w ∷ f ∷ len ∷ n ∷ []) line h =
      let numbers = both (number 1 max_file_bytes len) (number 0 (max_blocks - 1) n) in
      let rest = both (file d.plan f) numbers in
      let what = both (one_of counts w) rest in
      let m = made_of (λ (fits, (how, (from, (bytes, count)))). DeclareStrip a how from bytes count) (both (new_name d.plan a) what) line h in
      let outer = both_are (new_name d.plan a) what m.0.0 m.0.1 m.1 in
      let second = both_are (one_of counts w) rest m.0.1.0 m.0.1.1 outer.1 in
      let third = both_are (file d.plan f) numbers m.0.1.1.0 m.0.1.1.1 second.1 in
      let last = both_are (number 1 max_file_bytes len) (number 0 (max_blocks - 1) n) m.0.1.1.1.0 m.0.1.1.1.1 third.1 in
      let range = and_parts (leb 1 m.0.1.1.1.0) (leb m.0.1.1.1.0 max_file_bytes) (in_range 1 max_file_bytes len m.0.1.1.1.0 last.0) in
      subst (Fits d) m.2 (
        held (is_unused d.plan a) BadName m.0.0 outer.0,
        one_is (λ how. is_strip_how how ≡ true) counts w m.0.1.0 (refl, (refl, (refl, (refl, tt)))) second.0,
        file_within d.plan f m.0.1.1.0 third.0,
        leb-true 1 m.0.1.1.1.0 range.0,
        leb-true m.0.1.1.1.0 max_file_bytes range.1,
      )
  strip_fits _ line h = cc

  pub handler_fits : (words : List (List ℕ)) (line : Line (List ℕ)) → handler_line d.plan words ≡ Ok line → Fits d line
  handler_fits (s ∷ []) line h =
      let m = made_of OpenHandler (source d.plan s) line h in
      subst (Fits d) m.2 (object_asked d.plan is_source_kind s m.0 m.1)
  handler_fits _ line h = cc

  pub main_fits : (words : List (List ℕ)) (line : Line (List ℕ)) → main_line d.has_main words ≡ Ok line → Fits d line
  main_fits [] line h = main_case d d.has_main line h
  main_fits _ line h = cc

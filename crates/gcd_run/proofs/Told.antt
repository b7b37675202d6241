-- What a shelf that tells gives, and what was seen of it.
use Rattle.std.proofs.Common.{◌≡◌, ◌⊎◌, ◌∙◌, ℕ, zero, suc, true, List, [], ◌∷◌, Option, Some, None, length, take, slice_get, unwrap_or, ap, refl, sym, subst, arith, inl, inr}
use Rattle.std.specs.Prelude.{Result, Ok, Err}
use Rattle.std.proofs.lemmas.Bool.{lt-ltb, le-ltb}
use Rattle.gcd_plan.specs.Limits.{max_events, max_file_bytes}
use Rattle.gcd_plan.specs.PlanView.{PlanView, FileView}
use Rattle.gcd_plan.specs.Validity.{IsPlan}
use Rattle.gcd_event.specs.declared.event.Event.{Event}
use Rattle.gcd_journal.specs.Journals.{IsJournal, IsRefusedAt}
use Rattle.gcd_journal.proofs.OneWay.{journals_agree, journals_stand, faults_agree}
use Rattle.gcd_outer.specs.Outside.{Bytes, ShelfFailed, Seen, ShelfState}
use Rattle.gcd_script.specs.Causes.{cause_code}
use Rattle.gcd_script.specs.Faults.{fault_of, script_of, IsScriptOf}
use Rattle.gcd_commands.specs.End.{no_journal_end, read_fault, refused_end, stop_end}
use Rattle.gcd_run.specs.Always.{HoldsJournal, HoldsScript, IsNoJournal, IsNoScript, files_at, within_limit}
use Rattle.gcd_run.specs.Always.IsNoJournal.{unloaded as no_journal_unloaded, refused as no_journal_refused}
use Rattle.gcd_run.specs.Always.IsNoScript.{unloaded as no_script_unloaded, refused as no_script_refused}
use Rattle.gcd_commands.specs.Checks.{IsJournalAt, StopsJournal}
use Rattle.gcd_commands.specs.Checks.StopsJournal.{unloaded as journal_unloaded, refused as journal_refused, wanting as journal_wanting}
use Rattle.gcd_commands.specs.Loads.{AreLoaded, IsLoaded, IsScript, StopsFile, StopsLoad, StopsScript, long_file}
use Rattle.gcd_commands.specs.Loads.StopsLoad.{unread, long, wanting}
use Rattle.gcd_commands.specs.Loads.StopsScript.{unloaded, refused, wanting as script_wanting}
use Rattle.gcd_commands.specs.declared.stop.Stop.{Stop}
use Rattle.gcd_commands.specs.declared.stop.Stop.TheVariants.{Memory}

-- what became of a load that has to go so: the shelf failed, memory ran out, or it went so
abbrev pub Fate : Seen ShelfState → Stop → Type 0 → Type 0
Fate shelf stop expected = (ShelfFailed shelf × (stop_end stop ≡ Some read_fault)) ⊎ ((stop ≡ Memory) ⊎ expected)

pub fate_map : {A B : Type 0} (shelf : Seen ShelfState) (stop : Stop) → (A → B) → Fate shelf stop A → Fate shelf stop B
fate_map shelf stop f (inl failed) = inl failed
fate_map shelf stop f (inr (inl wants)) = inr (inl wants)
fate_map shelf stop f (inr (inr is)) = inr (inr (f is))

module _ (shelf : Seen ShelfState) (tells : shelf.tells ≡ true) where
  pub loaded_within : (name : Bytes) (most line : ℕ) (longer : Stop) (bytes : Bytes) → IsLoaded shelf name most bytes
      → within_limit line longer most (shelf.before.content name) ≡ Ok bytes
  loaded_within name most line longer bytes loaded = rw (loaded.holds tells, le-ltb most (length bytes) loaded.fits) refl

  pub load_stops : (name : Bytes) (most line : ℕ) (longer stop : Stop) → StopsLoad shelf name most line longer stop
      → Fate shelf stop (within_limit line longer most (shelf.before.content name) ≡ Err stop)
  load_stops name most line longer stop (unread (inl failed) is) = inl (failed, ap stop_end is)
  load_stops name most line longer stop (unread (inr lacks) is) = inr (inr (rw (lacks.nothing, is) refl))
  load_stops name most line longer stop (long is_long is) =
      let found = is_long tells in
      inr (inr (rw (found.1, lt-ltb most (length found.0) found.2, is) refl))
  load_stops name most line longer stop (wanting is) = inr (inl is)

  pub script_stops : (name : Bytes) (stop : Stop) → StopsScript shelf name stop → Fate shelf stop (IsNoScript shelf.before.content name stop)
  script_stops name stop (unloaded why) = fate_map shelf stop (λ is. no_script_unloaded is) (load_stops name _ _ _ stop why)
  script_stops name stop (refused script line cause loaded fault is) =
      inr (inr (no_script_refused script line cause (loaded_within name _ _ _ script loaded) fault is))
  script_stops name stop (script_wanting is) = inr (inl is)

  pub script_held : (name : Bytes) (plan : PlanView) → IsScript shelf name plan → HoldsScript shelf.before.content name plan
  script_held name plan is = record { bytes = is.script; held = loaded_within name _ _ _ is.script is.loaded; declares = is.declares }

  pub journal_stops : (name : Bytes) (plan : PlanView) (stop : Stop) → StopsJournal shelf name plan stop
      → Fate shelf stop (IsNoJournal shelf.before.content name plan stop)
  journal_stops name plan stop (journal_unloaded why) = fate_map shelf stop (λ is. no_journal_unloaded is) (load_stops name _ _ _ stop why)
  journal_stops name plan stop (journal_refused text line cause loaded caused is) =
      inr (inr (no_journal_refused text line cause (loaded_within name _ _ _ text loaded) caused.refused is))
  journal_stops name plan stop (journal_wanting is) = inr (inl is)

  pub journal_held : (name : Bytes) (plan : PlanView) (h : List Event) → IsJournalAt shelf name plan h
      → HoldsJournal shelf.before.content name plan h
  journal_held name plan h is = record { text = is.text; held = loaded_within name _ _ _ is.text is.loaded; journal_is = is.journal_is }

  pub files_held : (files : List FileView) (contents : List Bytes) → AreLoaded shelf files contents → files_at shelf.before.content files ≡ Ok contents
  files_held [] [] loaded = refl
  files_held (file ∷ files) (bytes ∷ contents) loaded =
      rw (files_at, loaded_within file.path max_file_bytes file.line (long_file file.line) bytes loaded.0, files_held files contents loaded.1) refl
  files_held [] (bytes ∷ contents) loaded = absurd loaded
  files_held (file ∷ files) [] loaded = absurd loaded

  -- the files from the one that was not loaded on, after those that were
  files_stop_from : (files : List FileView) (f : ℕ) (file : FileView) (contents : List Bytes) (stop : Stop) → slice_get files f ≡ Some file
      → AreLoaded shelf (take f files) contents
      → within_limit file.line (long_file file.line) max_file_bytes (shelf.before.content file.path) ≡ Err stop
      → files_at shelf.before.content files ≡ Err stop
  files_stop_from [] f file contents stop at before is = absurd cc
  files_stop_from (one ∷ files) zero file contents stop at before is =
      let same : file ≡ one = cc in
      rw (files_at, subst (λ (x : FileView). within_limit x.line (long_file x.line) max_file_bytes (shelf.before.content x.path) ≡ Err stop) same is) refl
  files_stop_from (one ∷ files) (suc f) file [] stop at before is = absurd before
  files_stop_from (one ∷ files) (suc f) file (bytes ∷ contents) stop at before is =
      rw (files_at, loaded_within one.path max_file_bytes one.line (long_file one.line) bytes before.0, files_stop_from files f file contents stop at before.1 is) refl

  pub file_stops : (files : List FileView) (f : ℕ) (stop : Stop) → StopsFile shelf files f stop
      → Fate shelf stop (files_at shelf.before.content files ≡ Err stop)
  file_stops files f stop stops = fate_map shelf stop
      (λ is. files_stop_from files f stops.file stops.next.contents stop stops.next.next stops.next.before is)
      (load_stops stops.file.path max_file_bytes _ _ stop stops.unloaded)

-- ## What is told is one

pub same_ok : {T E : Type 0} {x y : T} {r : Result T E} → r ≡ Ok x → r ≡ Ok y → x ≡ y
same_ok e f = cc

pub same_err : {T E : Type 0} {x y : E} {r : Result T E} → r ≡ Err x → r ≡ Err y → x ≡ y
same_err e f = cc

pub no_both : {T E : Type 0} {x : T} {y : E} {r : Result T E} → r ≡ Ok x → r ≡ Err y → ⊥
no_both e f = absurd cc

module _ (content : Bytes → Option Bytes) (name : Bytes) where
  pub one_plan : (plan other : PlanView) → HoldsScript content name plan → HoldsScript content name other → plan ≡ other
  one_plan plan other a b =
      let same : a.bytes ≡ b.bytes = same_ok a.held b.held in
      same_ok (ap script_of (sym same) ∙ a.declares) b.declares

  -- a script has no fault
  no_fault : (bytes : Bytes) (plan : PlanView) (at : ℕ × ℕ) → IsScriptOf bytes plan → fault_of bytes ≡ Some at → ⊥
  no_fault bytes plan at is fault = let none : fault_of bytes ≡ None = rw is refl in absurd cc

  pub no_plan : (plan : PlanView) (stop : Stop) → HoldsScript content name plan → IsNoScript content name stop → ⊥
  no_plan plan stop held (no_script_unloaded is) = no_both held.held is
  no_plan plan stop held (no_script_refused bytes line cause is fault stop_is) =
      let same : bytes ≡ held.bytes = same_ok is held.held in
      no_fault held.bytes plan (line, cause_code cause) held.declares (ap fault_of (sym same) ∙ fault)

  -- two stops at one script tell the same, whatever their causes
  pub one_stop : (stop other : Stop) → IsNoScript content name stop → IsNoScript content name other → stop_end stop ≡ stop_end other
  one_stop stop other (no_script_unloaded a) (no_script_unloaded b) = ap stop_end (same_err a b)
  one_stop stop other (no_script_unloaded a) (no_script_refused bytes line cause is fault stop_is) = absurd (no_both is a)
  one_stop stop other (no_script_refused bytes line cause is fault stop_is) (no_script_unloaded b) = absurd (no_both is b)
  one_stop stop other (no_script_refused bytes line cause is fault stop_is) (no_script_refused bytes' line' cause' is' fault' stop_is') =
      let same : bytes ≡ bytes' = same_ok is is' in
      let at : Some (line, cause_code cause) ≡ Some (line', cause_code cause') = sym fault ∙ ap fault_of same ∙ fault' in
      ap stop_end stop_is
      ∙ ap (λ (o : Option (ℕ × ℕ)). Some (refused_end (unwrap_or o (0, 0)).0 (unwrap_or o (0, 0)).1)) at
      ∙ sym (ap stop_end stop_is')

-- ## One journal

module _ (content : Bytes → Option Bytes) (name : Bytes) (plan : PlanView) (valid : IsPlan plan) where
  pub one_journal : (h k : List Event) → HoldsJournal content name plan h → HoldsJournal content name plan k → h ≡ k
  one_journal h k a b =
      let same : a.text ≡ b.text = same_ok a.held b.held in
      journals_agree plan valid max_events (omega arith) b.text h k (subst (λ (t : Bytes). IsJournal max_events plan t h) same a.journal_is) b.journal_is

  pub no_journal : (h : List Event) (stop : Stop) → HoldsJournal content name plan h → IsNoJournal content name plan stop → ⊥
  no_journal h stop held (no_journal_unloaded is) = no_both held.held is
  no_journal h stop held (no_journal_refused text line cause is fault stop_is) =
      let same : text ≡ held.text = same_ok is held.held in
      journals_stand plan valid max_events (omega arith) held.text h line held.journal_is (subst (λ (t : Bytes). IsRefusedAt max_events plan t line) same fault)

  -- two stops at one journal tell the same, whatever their causes
  pub one_journal_stop : (stop other : Stop) → IsNoJournal content name plan stop → IsNoJournal content name plan other
      → stop_end stop ≡ stop_end other
  one_journal_stop stop other (no_journal_unloaded a) (no_journal_unloaded b) = ap stop_end (same_err a b)
  one_journal_stop stop other (no_journal_unloaded a) (no_journal_refused text line cause is fault stop_is) = absurd (no_both is a)
  one_journal_stop stop other (no_journal_refused text line cause is fault stop_is) (no_journal_unloaded b) = absurd (no_both is b)
  one_journal_stop stop other (no_journal_refused text line cause is fault stop_is) (no_journal_refused text' line' cause' is' fault' stop_is') =
      let same : text ≡ text' = same_ok is is' in
      let one : line ≡ line' = faults_agree plan valid max_events (omega arith) text' line line' (subst (λ (t : Bytes). IsRefusedAt max_events plan t line) same fault) fault' in
      ap stop_end stop_is ∙ ap (λ (n : ℕ). Some (no_journal_end n)) one ∙ sym (ap stop_end stop_is')

-- What one load saw of a shelf, said of all loads of a call; and how many loads were made.
use Rattle.std.proofs.Common.{None, ◌≡◌, ◌≤◌, ◌<◌, ◌∙◌, ℕ, zero, suc, List, [], ◌∷◌, ◌++◌, ◌+◌, length, map, take, get_or, Vec, Global, Option, Some, option_map, refl, ap, sym, inl, inr, arith, zero-add}
use Rattle.std.specs.Prelude.{Result, Ok, Err, OnErr}
use Rattle.std.specs.String.{string_bytes}
use Rattle.std.proofs.lemmas.List.{take_more, take-map, map-append, length-map}
use Rattle.std.proofs.lemmas.Option.{slice_get-map, slice_get-get_or, slice_get_within}
use Rattle.gcd_plan.specs.Limits.{max_file_bytes, max_script_bytes}
use Rattle.gcd_plan.specs.declared.parts.FilePart.{FilePart}
use Rattle.gcd_plan.specs.PlanView.{PlanView, FileView, file_view}
use Rattle.gcd_outer.specs.Outside.{Bytes, Seen, ShelfState, IsUnread, IsLonger, next_count}
use Rattle.gcd_commands.specs.Calls.{MadeLoads, count_after}
use Rattle.gcd_commands.specs.Checks.{StopsJournal}
use Rattle.gcd_commands.specs.Checks.StopsJournal.{unloaded as journal_unloaded, refused as journal_refused, wanting as journal_wanting}
use Rattle.gcd_commands.specs.Loads.{IsLoaded, AreLoaded, IsNextFile, IsPlanOf, StopsFile, StopsLoad, StopsScript}
use Rattle.gcd_commands.specs.Loads.StopsLoad.{unread, long, wanting}
use Rattle.gcd_commands.specs.Loads.StopsScript.{unloaded as script_unloaded, refused as script_refused, wanting as script_wanting}
use Rattle.gcd_commands.specs.declared.stop.Stop.{Stop}

-- two views of one shelf that tells the same
pub record SameShelf (s t : Seen ShelfState) : Type 0 where
  pub tells : s.tells ≡ t.tells
  pub content : s.before.content ≡ t.before.content

same_content : (s t : Seen ShelfState) → SameShelf s t → (name : Bytes) → s.before.content name ≡ t.before.content name
same_content s t same name = ap (λ (f : Bytes → Option Bytes). f name) same.content

pub loaded_same : (s t : Seen ShelfState) → SameShelf s t → (name : Bytes) (most : ℕ) (bytes : Bytes) → IsLoaded s name most bytes
    → IsLoaded t name most bytes
loaded_same s t same name most bytes loaded = record {
  holds = λ tells. sym (same_content s t same name) ∙ loaded.holds (same.tells ∙ tells);
  fits = loaded.fits;
}

pub are_loaded_same : (s t : Seen ShelfState) → SameShelf s t → (files : List FileView) (contents : List Bytes)
    → AreLoaded s files contents → AreLoaded t files contents
are_loaded_same s t same [] [] loaded = tt
are_loaded_same s t same (file ∷ files) (bytes ∷ contents) loaded =
    (loaded_same s t same file.path max_file_bytes bytes loaded.0, are_loaded_same s t same files contents loaded.1)
are_loaded_same s t same [] (bytes ∷ contents) loaded = loaded
are_loaded_same s t same (file ∷ files) [] loaded = loaded

pub are_loaded_push : (s : Seen ShelfState) (files : List FileView) (contents : List Bytes) (file : FileView) (bytes : Bytes)
    → AreLoaded s files contents → IsLoaded s file.path max_file_bytes bytes
    → AreLoaded s (files ++ file ∷ []) (contents ++ bytes ∷ [])
are_loaded_push s [] [] file bytes loaded one = (one, tt)
are_loaded_push s (f ∷ files) (c ∷ contents) file bytes loaded one =
    (loaded.0, are_loaded_push s files contents file bytes loaded.1 one)
are_loaded_push s [] (c ∷ contents) file bytes loaded one = absurd loaded
are_loaded_push s (f ∷ files) [] file bytes loaded one = absurd loaded

-- a fault of a later load is a fault of the call
pub unread_same : (s t : Seen ShelfState) → SameShelf s t → t.before.faults ≤ s.before.faults → s.after.faults ≤ t.after.faults → (name : Bytes)
    → IsUnread s name → IsUnread t name
unread_same s t same before after name (inl failed) = inl (omega arith)
unread_same s t same before after name (inr lacks) = inr (record {
  tells = sym same.tells ∙ lacks.tells;
  nothing = sym (same_content s t same name) ∙ lacks.nothing;
})

pub longer_same : (s t : Seen ShelfState) → SameShelf s t → (name : Bytes) (most : ℕ) → IsLonger s name most → IsLonger t name most
longer_same s t same name most longer tells =
    let found = longer (same.tells ∙ tells) in
    (found.0, sym (same_content s t same name) ∙ found.1, found.2)

-- one more file of a list was loaded
pub loaded_more : (s : Seen ShelfState) (files : List FilePart) (i : ℕ) (item : FilePart) (contents after : List (Vec ℕ Global)) (bytes : Vec ℕ Global)
    → i < length files → item ≡ get_or files i item → after ≡ contents ++ bytes ∷ []
    → AreLoaded s (map file_view (take i files)) (map (λ c. c.items) contents)
    → IsLoaded s (string_bytes item.path) max_file_bytes bytes.items
    → AreLoaded s (map file_view (take (i + 1) files)) (map (λ c. c.items) after)
loaded_more s files i item contents after bytes within is more loaded one =
    let front : take (i + 1) files ≡ take i files ++ item ∷ [] =
    take_more files i item within ∙ ap (λ x. take i files ++ x ∷ []) (sym is) in
    rw (front, more, map-append, map-append)
    (are_loaded_push s (map file_view (take i files)) (map (λ c. c.items) contents) (file_view item) bytes.items loaded one)

-- the file at a place of a list is the next
pub next_file : (s : Seen ShelfState) (files : List FilePart) (i : ℕ) (item : FilePart) (contents : List (Vec ℕ Global))
    → i < length files → item ≡ get_or files i item
    → AreLoaded s (map file_view (take i files)) (map (λ c. c.items) contents)
    → IsNextFile s (map file_view files) i (file_view item)
next_file s files i item contents within is loaded = record {
  contents = map (λ c. c.items) contents;
  before = rw take-map loaded;
  next = slice_get-map file_view files i ∙ ap (option_map file_view) (slice_get-get_or files i item within ∙ ap Some (sym is));
}

-- as many contents as files
pub loaded_count : (s : Seen ShelfState) (files : List FileView) (contents : List Bytes) → AreLoaded s files contents → length contents ≡ length files
loaded_count s [] [] loaded = refl
loaded_count s (file ∷ files) (bytes ∷ contents) loaded = ap (λ n. suc n) (loaded_count s files contents loaded.1)
loaded_count s [] (bytes ∷ contents) loaded = absurd loaded
loaded_count s (file ∷ files) [] loaded = absurd loaded

-- what a part of a call saw, said of the whole call
module _ (s t : Seen ShelfState) (same : SameShelf s t) (before : t.before.faults ≤ s.before.faults) (after : s.after.faults ≤ t.after.faults) where
  pub load_since : (name : Bytes) (most line : ℕ) (longer stop : Stop) → StopsLoad s name most line longer stop → StopsLoad t name most line longer stop
  load_since name most line longer stop (unread why is) = unread (unread_same s t same before after name why) is
  load_since name most line longer stop (long why is) = long (longer_same s t same name most why) is
  load_since name most line longer stop (wanting is) = wanting is

  next_since : (files : List FileView) (f : ℕ) (file : FileView) → IsNextFile s files f file → IsNextFile t files f file
  next_since files f file next = record {
    contents = next.contents;
    before = are_loaded_same s t same (take f files) next.contents next.before;
    next = next.next;
  }

  pub file_since : (files : List FileView) (f : ℕ) (stop : Stop) → StopsFile s files f stop → StopsFile t files f stop
  file_since files f stop stops = record {
    file = stops.file;
    next = next_since files f stops.file stops.next;
    unloaded = load_since stops.file.path max_file_bytes _ _ stop stops.unloaded;
  }

  pub script_since : (name : Bytes) (stop : Stop) → StopsScript s name stop → StopsScript t name stop
  script_since name stop (script_unloaded why) = script_unloaded (load_since name max_script_bytes _ _ stop why)
  script_since name stop (script_refused script line cause loaded fault is) =
      script_refused script line cause (loaded_same s t same name max_script_bytes script loaded) fault is
  script_since name stop (script_wanting is) = script_wanting is

  pub plan_since : (name : Bytes) (plan : PlanView) → IsPlanOf s name plan → IsPlanOf t name plan
  plan_since name plan is = record {
    valid = is.valid;
    script = record {
      script = is.script.script;
      loaded = loaded_same s t same name max_script_bytes is.script.script is.script.loaded;
      declares = is.script.declares;
    };
  }

  pub journal_since : (name : Bytes) (plan : PlanView) (stop : Stop) → StopsJournal s name plan stop → StopsJournal t name plan stop
  journal_since name plan stop (journal_unloaded why) = journal_unloaded (load_since name max_file_bytes _ _ stop why)
  journal_since name plan stop (journal_refused text line cause loaded at is) =
      journal_refused text line cause (loaded_same s t same name max_file_bytes text loaded) at is
  journal_since name plan stop (journal_wanting is) = journal_wanting is

-- ## Counts of loads

-- one load more
pub count_more : (n count : ℕ) → next_count (count_after n count) ≡ count_after (n + 1) count
count_more n count = let e : suc n ≡ n + 1 = omega arith in ap (λ k. count_after k count) e

-- loads after loads
pub count_sum : (m n count : ℕ) → count_after m (count_after n count) ≡ count_after (m + n) count
count_sum zero n count = ap (λ k. count_after k count) (sym (zero-add n))
count_sum (suc m) n count =
    let e : suc (m + n) ≡ suc m + n = omega arith in
    ap next_count (count_sum m n count) ∙ ap (λ k. count_after k count) e

-- the first load of a call, and the loads after it
pub made_later : (first later whole : Seen ShelfState) → whole.tells ≡ first.tells → whole.tells ≡ later.tells
    → whole.before.loads ≡ first.before.loads → first.after.loads ≡ later.before.loads → later.after.loads ≡ whole.after.loads
    → (n : ℕ) → MadeLoads first 1 → MadeLoads later n → MadeLoads whole (n + 1)
made_later first later whole own same before between after n one more tells =
    sym after
    ∙ more (sym same ∙ tells)
    ∙ ap (count_after n) (sym between ∙ one (sym own ∙ tells) ∙ ap (count_after 1) (sym before))
    ∙ count_sum n 1 whole.before.loads

-- one load for each file so far, and one more
pub at_most : (i : ℕ) (files : List FilePart) → i < length files → i + 1 ≤ length (map file_view files)
at_most i files within = omega (arith, length-map files file_view, within)

-- a file that is next is among the files
pub file_within : (shelf : Seen ShelfState) (files : List FileView) (f : ℕ) (stop : Stop) → StopsFile shelf files f stop → f < length files
file_within shelf files f stop stops = omega (arith, slice_get_within files f stops.file stops.next.next)

-- ## Errors that are handed on

-- where something holds anyway, it holds at each error
pub on_any_err : {T E Q : Type 0} (r : Result T E) → Q → OnErr r Q
on_any_err (Ok x) holds = tt
on_any_err (Err e) holds = holds

pub on_err_map : {T E A B : Type 0} (r : Result T E) → (A → B) → OnErr r A → OnErr r B
on_err_map (Ok x) f holds = tt
on_err_map (Err e) f holds = f holds

-- what is no Some is None
pub none_of : {X : Type 0} (o : Option X) → ((x : X) → o ≡ Some x → ⊥) → o ≡ None
none_of None other = refl
none_of (Some x) other = absurd (other x refl)

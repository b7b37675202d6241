-- A look-up of a valid plan's names, over lists.
use Rattle.std.proofs.Common.{◌≡◌, ℕ, ◌<◌, ◌&&◌, Bool, true, false, List, [], ◌++◌, length, map, Some, None, refl, ap, sym, ◌∙◌, arith, find, ◌⊎◌, inl, inr, ◌+◌, if◌then◌else◌}
use Rattle.std.specs.List.{range_with_len, list_any}
use Rattle.std.proofs.lemmas.Bool.{cases_Bool, both_ways, cases_eq, lt-ltb}
use Rattle.std.specs.Str.{bytes_eq}
use Rattle.std.proofs.lemmas.Bool.{and_parts, and_from, ltb-true}
use Rattle.std.proofs.lemmas.Slice.Eq.{bytes_eq-Decides}
use Rattle.gcd_plan.specs.PlanView.{PlanView, name_of_blk, name_of_obj}
use Rattle.gcd_plan.specs.Kinds.{is_source, is_source_kind}
use Rattle.gcd_plan.specs.Validity.{IsPlan}
use Rattle.gcd_plan.specs.declared.numbers.Run.{Run}
use Rattle.gcd_plan.specs.declared.numbers.Run.TheVariants.{Block, Source}
use Rattle.gcd_plan.proofs.Options.{some_from_is_some}
use Rattle.gcd_plan.proofs.Quantifiers.{list_any_in_range}
use Rattle.gcd_plan.proofs.Numbered.{same_blk, same_obj}
use Rattle.gcd_plan.proofs.Within.{has_object}
use Rattle.gcd_history.specs.Permitted.{is_run_of}
use Rattle.gcd_history.specs.Report.{name_of_run}
use Rattle.gcd_history.proofs.Lists.{found_is, find_from_any, any_left, any_right, any_map}
use Rattle.std.specs.Option.{option_map_or}
use Rattle.gcd_plan.specs.PlanView.{kind_of}
use Rattle.gcd_plan.specs.declared.kind.Kind.{Kind}
use Rattle.gcd_journal.specs.Named.{IsLookUp, Runs, look_of}
use Rattle.gcd_journal.specs.Spelling.{Look}
use Rattle.gcd_journal.proofs.NamesApart.{runs_apart}

block_run : ℕ → Run
block_run b = Block (record { 0 = b })

source_run : ℕ → Run
source_run s = Source (record { 0 = s })

-- each number as a block's, and as an object's
all_runs : PlanView → List Run
all_runs plan = map block_run (range_with_len 0 (length plan.blocks)) ++ map source_run (range_with_len 0 (length plan.objects))

-- the plan's run has the name
has_name : PlanView → List ℕ → Run → Bool
has_name plan name run = is_run_of plan run && bytes_eq name (name_of_run plan run)

-- the plan's run of a name
pub run_named : PlanView → Look
run_named plan name = find (has_name plan name) (all_runs plan)

own_name : (plan : PlanView) (run : Run) → is_run_of plan run ≡ true → has_name plan (name_of_run plan run) run ≡ true
unfolding has_name
own_name plan run h =
    let name = name_of_run plan run in
    and_from (is_run_of plan run) (bytes_eq name name) h ((bytes_eq-Decides name name).1 refl)

among : (plan : PlanView) (p : Run → Bool) (run : Run) → is_run_of plan run ≡ true → p run ≡ true → list_any p (all_runs plan) ≡ true
unfolding all_runs block_run source_run
among plan p (Block b) h passes =
    any_left p (map block_run (range_with_len 0 (length plan.blocks))) (map source_run (range_with_len 0 (length plan.objects)))
    (any_map p block_run (range_with_len 0 (length plan.blocks))
    (list_any_in_range (λ n. p (block_run n)) (length plan.blocks) b.0 (ltb-true b.0 (length plan.blocks) h) passes))
among plan p (Source s) h passes =
    any_right p (map block_run (range_with_len 0 (length plan.blocks))) (map source_run (range_with_len 0 (length plan.objects)))
    (any_map p source_run (range_with_len 0 (length plan.objects))
    (list_any_in_range (λ n. p (source_run n)) (length plan.objects) s.0 (has_object is_source_kind plan s.0 h) passes))

named_sound : (plan : PlanView) (name : List ℕ) (run : Run) → run_named plan name ≡ Some run → (is_run_of plan run ≡ true) × (name_of_run plan run ≡ name)
unfolding run_named has_name
named_sound plan name run at =
    let parts = and_parts (is_run_of plan run) (bytes_eq name (name_of_run plan run)) (found_is (has_name plan name) (all_runs plan) run at) in
    (parts.0, sym ((bytes_eq-Decides name (name_of_run plan run)).0 parts.1))

named_known : (plan : PlanView) (run : Run) → IsPlan plan → is_run_of plan run ≡ true → run_named plan (name_of_run plan run) ≡ Some run
unfolding run_named
named_known plan run valid h =
    let name = name_of_run plan run in
    let any = among plan (has_name plan name) run h (own_name plan run h) in
    let found = some_from_is_some (run_named plan name) (find_from_any (has_name plan name) (all_runs plan) any) in
    let is = named_sound plan name found.0 found.1 in
    found.1 ∙ ap Some (runs_apart plan found.0 run valid is.0 h is.1)

-- it is a look-up
pub named_look : (plan : PlanView) → IsPlan plan → IsLookUp plan (run_named plan)
named_look plan valid = record { sound = named_sound plan; known = λ run h. named_known plan run valid h }

-- ## A look-up that is made name by name

-- the run is of one of the first blocks or objects
abbrev pub is_seen : (blocks objects : ℕ) → Run → Type 0
is_seen blocks objects (Block b) = b.0 < blocks
is_seen blocks objects (Source s) = s.0 < objects

-- what the look-up gives so far
pub record KnowsUpTo (plan : PlanView) (look : Look) (blocks objects : ℕ) : Type 0 where
  pub sound : (name : List ℕ) (run : Run) → look name ≡ Some run → (is_run_of plan run ≡ true) × (name_of_run plan run ≡ name)
  pub known : (run : Run) → is_run_of plan run ≡ true → is_seen blocks objects run → look (name_of_run plan run) ≡ Some run

-- one run more
abbrev pub Learns : (old new : Look) (name : List ℕ) → Run → Type 0
Learns old new name run = (other : List ℕ) → new other ≡ (if bytes_eq name other then Some run else old other)

pub knows_none : (plan : PlanView) (look : Look) → ((name : List ℕ) → look name ≡ None) → KnowsUpTo plan look 0 0
knows_none plan look none = record {
  sound = λ name run at. let no = none name in cc;
  known = λ run h seen. unseen run seen;
}
  where
    unseen : (run : Run) → is_seen 0 0 run → look (name_of_run plan run) ≡ Some run
    unseen (Block b) seen = absurd (omega arith)
    unseen (Source s) seen = absurd (omega arith)

module _ (plan : PlanView) (old new : Look) (run : Run) (valid : IsPlan plan) (has : is_run_of plan run ≡ true) (learns : Learns old new (name_of_run plan run) run) where
  learned_sound : ((name : List ℕ) (r : Run) → old name ≡ Some r → (is_run_of plan r ≡ true) × (name_of_run plan r ≡ name))
      → (name : List ℕ) (r : Run) → new name ≡ Some r → (is_run_of plan r ≡ true) × (name_of_run plan r ≡ name)
  learned_sound sound name r at =
      elim (cases_Bool (bytes_eq (name_of_run plan run) name)) [
        | inl same ↦
            let is : new name ≡ Some run = learns name ∙ ap (λ b. if b then Some run else old name) same in
            let equal : run ≡ r = cc in
            (ap (is_run_of plan) (sym equal) ∙ has, ap (name_of_run plan) (sym equal) ∙ (bytes_eq-Decides (name_of_run plan run) name).0 same)
        | inr other ↦
            let is : new name ≡ old name = learns name ∙ ap (λ b. if b then Some run else old name) other in
            sound name r (sym is ∙ at)
      ]

  learned_known : (r : Run) → is_run_of plan r ≡ true → (r ≡ run) ⊎ (old (name_of_run plan r) ≡ Some r) → new (name_of_run plan r) ≡ Some r
  learned_known r h known =
      elim (cases_Bool (bytes_eq (name_of_run plan run) (name_of_run plan r))) [
        | inl same ↦
            learns (name_of_run plan r) ∙ ap (λ b. if b then Some run else old (name_of_run plan r)) same
            ∙ ap Some (runs_apart plan run r valid has h ((bytes_eq-Decides (name_of_run plan run) (name_of_run plan r)).0 same))
        | inr other ↦ elim known [
          | inl equal ↦ absurd (both_ways (bytes_eq (name_of_run plan run) (name_of_run plan r)) other ((bytes_eq-Decides (name_of_run plan run) (name_of_run plan r)).1 (ap (name_of_run plan) (sym equal))))
          | inr before ↦ learns (name_of_run plan r) ∙ ap (λ b. if b then Some run else old (name_of_run plan r)) other ∙ before
        ]
      ]

-- a block's name more
pub knows_block : (plan : PlanView) (old new : Look) (b : ℕ) (name : List ℕ) → IsPlan plan → b < length plan.blocks → KnowsUpTo plan old b 0 → name ≡ name_of_blk plan b
    → Learns old new name (Block (record { 0 = b })) → KnowsUpTo plan new (b + 1) 0
knows_block plan old new b name valid within knows is learns =
    let run : Run = Block (record { 0 = b }) in
    let has : is_run_of plan run ≡ true = lt-ltb b (length plan.blocks) within in
    let so : Learns old new (name_of_run plan run) run = λ other. learns other ∙ ap (λ n. if bytes_eq n other then Some run else old other) is in
    record {
      sound = learned_sound plan old new run valid has so knows.sound;
      known = λ r h seen. learned_known plan old new run valid has so r h (before r h seen);
    }
  where
    before : (r : Run) → is_run_of plan r ≡ true → is_seen (b + 1) 0 r → (r ≡ Block (record { 0 = b })) ⊎ (old (name_of_run plan r) ≡ Some r)
    before (Block c) h seen = elim (cases_eq c.0 b) [
      | inl same ↦ inl (ap Block (same_blk c (record { 0 = b }) same))
      | inr other ↦ inr (knows.known (Block c) h (omega arith))
    ]
    before (Source s) h seen = absurd (omega arith)

-- a source's name more
pub knows_source : (plan : PlanView) (old new : Look) (o : ℕ) (name : List ℕ) → IsPlan plan → is_source plan o ≡ true → KnowsUpTo plan old (length plan.blocks) o → name ≡ name_of_obj plan o
    → Learns old new name (Source (record { 0 = o })) → KnowsUpTo plan new (length plan.blocks) (o + 1)
knows_source plan old new o name valid source knows is learns =
    let run : Run = Source (record { 0 = o }) in
    let so : Learns old new (name_of_run plan run) run = λ other. learns other ∙ ap (λ n. if bytes_eq n other then Some run else old other) is in
    record {
      sound = learned_sound plan old new run valid source so knows.sound;
      known = λ r h seen. learned_known plan old new run valid source so r h (before r h seen);
    }
  where
    before : (r : Run) → is_run_of plan r ≡ true → is_seen (length plan.blocks) (o + 1) r → (r ≡ Source (record { 0 = o })) ⊎ (old (name_of_run plan r) ≡ Some r)
    before (Block c) h seen = inr (knows.known (Block c) h seen)
    before (Source s) h seen = elim (cases_eq s.0 o) [
      | inl same ↦ inl (ap Source (same_obj s (record { 0 = o }) same))
      | inr other ↦ inr (knows.known (Source s) h (omega arith))
    ]

-- an object more that is no source
pub knows_other : (plan : PlanView) (look : Look) (o : ℕ) → is_source plan o ≡ false → KnowsUpTo plan look (length plan.blocks) o → KnowsUpTo plan look (length plan.blocks) (o + 1)
knows_other plan look o other knows = record { sound = knows.sound; known = λ r h seen. known r h seen }
  where
    known : (r : Run) → is_run_of plan r ≡ true → is_seen (length plan.blocks) (o + 1) r → look (name_of_run plan r) ≡ Some r
    known (Block c) h seen = knows.known (Block c) h seen
    known (Source s) h seen = elim (cases_eq s.0 o) [
      | inl same ↦ absurd (both_ways (is_source plan o) other (ap (is_source plan) (sym same) ∙ h))
      | inr apart ↦ knows.known (Source s) h (omega arith)
    ]

-- all names
pub knows_all : (plan : PlanView) (look : Look) → KnowsUpTo plan look (length plan.blocks) (length plan.objects) → IsLookUp plan look
knows_all plan look knows = record { sound = knows.sound; known = λ r h. knows.known r h (all r h) }
  where
    all : (r : Run) → is_run_of plan r ≡ true → is_seen (length plan.blocks) (length plan.objects) r
    all (Block b) h = ltb-true b.0 (length plan.blocks) h
    all (Source s) h = has_object is_source_kind plan s.0 h

-- a map that is empty finds nothing
pub finds_nothing : (runs : Runs) → runs.entries ≡ [] → (name : List ℕ) → look_of runs name ≡ None
finds_nothing runs none name = rw none refl

-- whether the kind of an object is a source's
pub source_known : (plan : PlanView) (o : ℕ) (kind : Kind) → kind_of plan o ≡ Some kind → (told b : Bool) → told ≡ is_source_kind kind → told ≡ b → is_source plan o ≡ b
source_known plan o kind at told b says is = ap (λ k. option_map_or is_source_kind k false) at ∙ sym says ∙ is

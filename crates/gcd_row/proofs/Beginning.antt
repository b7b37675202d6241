-- The rule holds of a board whose row begins with a history.
use Rattle.std.proofs.Common.{◌≡◌, ◌≢◌, ◌+◌, ◌<◌, ◌≤◌, inl, inr, Bool, ℕ, zero, suc, List, [], ◌∷◌, length, map, sym, refl, ap, ◌∙◌, subst, arith, true, false, Some, None, Option}
use Rattle.std.specs.List.{list_any}
use Rattle.std.specs.Prelude.{slice_get}
use Rattle.std.proofs.lemmas.Bool.{both_ways}
use mathlib.Core.Logic.{dite}
use native.Mathlib.Decide.{dec_le}
use mathlib.Core.Option.{some, some-injective, some-ne-none}
use lib.ListN.{get_elem?}
use Rattle.atomic_table.specs.Table.{opening}
use Rattle.atomic_table.proofs.Lists.{at_map}
use Rattle.gcd_plan.specs.Made.{is_of_intake}
use Rattle.gcd_plan.specs.PlanView.{IsRun, PlanView}
use Rattle.gcd_plan.specs.Validity.{IsPlan}
use Rattle.gcd_plan.specs.declared.numbers.Run.{Run}
use Rattle.gcd_plan.specs.declared.numbers.Run.TheVariants.{Block, Source}
use Rattle.gcd_event.specs.declared.event.Event.{Event}
use Rattle.gcd_event.specs.Words.{word_of}
use Rattle.gcd_history.specs.History.{IsLawful, is_block_cancelled, is_ended}
use Rattle.gcd_history.specs.Intake.{accepts}
use Rattle.gcd_history.proofs.Permitted.Lawful.{lawful_none}
use Rattle.gcd_history.specs.Team.{StartsWith, held_by, of_worker}
use Rattle.gcd_history.proofs.Public.TeamLaws.{nothing_is_held_first}
use Rattle.gcd_machine.specs.Stands.{StandsFor}
use Rattle.gcd_row.specs.Ring.{AreFirstWords, passed_word, gone}
use Rattle.gcd_row.specs.Shapes.{Shape, done}
use Rattle.gcd_row.specs.Jobs.{Jobs, May, placed_at, jobs_of, held_jobs}
use Rattle.gcd_row.specs.Lying.{slots_of, slot_of, source_shape, BodyLies, Lies, HasSlots}
use Rattle.gcd_row.specs.Views.{IsBack, given_terms, none_handed, opening_view, held_run}
use Rattle.gcd_row.specs.Opening.{first_shape, AreFirst, Opens}
use Rattle.gcd_row.specs.Rule.{Fits, Heads, KnowsJobs, Holds, Rests}
use Rattle.gcd_row.specs.Passes.{AtRest, IsPassOf, MayRead, view, slots, terms_of}
use Rattle.gcd_row.specs.declared.view.Copies.{Copies}
use Rattle.gcd_row.specs.declared.view.Terms.{Terms}
use Rattle.gcd_row.specs.declared.view.View.{View}
use Rattle.gcd_row.specs.declared.board.RowBoard.{RowBoard}
use Rattle.gcd_row.specs.declared.pass.RowPass.{RowPass}
use Rattle.gcd_row.proofs.Fronts.{starts_nil, starts_refl, own_nothing}
use Rattle.gcd_row.proofs.Jobs.{intake_job, plain_job}
use Rattle.gcd_row.proofs.Landing.{first_laid}
use Rattle.gcd_row.proofs.Running.{none_some}
use Rattle.gcd_row.proofs.RowWords.{words_length}
use Rattle.gcd_row.proofs.Passing.{nothing_beneath}

not_ended : (b : ℕ) → is_ended [] b ≡ false
unfolding is_ended
not_ended b = refl

module _ {S : Type 0} where
  one : (v u : View S) (by : ℕ) → get_elem? (v ∷ []) by ≡ some u → (by ≡ 0) × (v ≡ u)
  one v u zero e = (refl, some-injective v u e)
  one v u (suc by) e = absurd (some-ne-none u (sym e))

  length-map : (xs : List S) → length (map some xs) ≡ length xs
  length-map [] = refl
  length-map (x ∷ xs) = ap suc (length-map xs)

  value_or : S → Option S → S
  value_or d None = d
  value_or d (Some x) = x

  -- there is a cell at each slot
  pub cell_at : (cells : List S) (k : ℕ) → k < length cells → (c : S) × (get_elem? cells k ≡ some c)
  cell_at [] k lt = absurd (omega arith)
  cell_at (x ∷ xs) zero lt = (x, refl)
  cell_at (x ∷ xs) (suc k) lt = cell_at xs k (omega arith)

  -- the cell at a slot is the first cell there
  pub same_cell : (cells : List S) (k : ℕ) (c first : S) → get_elem? cells k ≡ some c → slice_get cells k ≡ Some first → c ≡ first
  unfolding value_or
  same_cell [] k c first e f = absurd (some-ne-none c (sym e))
  same_cell (x ∷ xs) zero c first e f = sym (some-injective x c e) ∙ ap (value_or x) f
  same_cell (x ∷ xs) (suc k) c first e f = same_cell xs k c first e f

module _ {S : Type 0} (shape : S → Shape) (gives : S → ℕ → Type 0) where
  -- the values of a cell are those that its job may give, where the job of its block is the cell itself
  pub may_itself : (t : Terms S) (b : ℕ) (c : S) → get_elem? t.cells b ≡ some c → (v : ℕ) → gives c v → May gives (jobs_of t (λ k. None)) b v
  may_itself t b c at v may job job_at = elim (is_of_intake t.plan b) as (λ of. is_of_intake t.plan b ≡ of → gives job v) [
    | true ↦ λ of. absurd (none_is (sym (intake_job t (λ k. None) b of) ∙ job_at))
    | false ↦ λ other. subst (λ (x : S). gives x v) (same_cell t.cells b c job at (sym (plain_job t (λ k. None) b other) ∙ job_at)) may
  ] refl
    where
      none_is : {A : Type 0} {a : A} → None ≡ Some a → ⊥
      none_is z = cc

  first_lies : (t : Terms S) (r : Run) (c : S) → get_elem? t.cells (slot_of t.plan r) ≡ some c → shape c ≡ first_shape t.plan r → Lies shape gives (jobs_of t (λ k. None)) [] r c
  first_lies t (Block b) c at is =
      subst (λ (n : Bool). BodyLies shape gives (May gives (jobs_of t (λ k. None)) b.0) n (is_block_cancelled t.plan [] b.0) c) (sym (not_ended b.0)) (is, may_itself t b.0 c at)
  first_lies t (Source s) c at is = is

  -- what lies in a slot lies there still, where the cell itself is the block's job from then on
  lies_itself : (t : Terms S) (j : Jobs S) (h : List Event) (r : Run) (c : S) → ((v : ℕ) → shape c ≡ done v → gives c v) → j.plan ≡ t.plan → get_elem? t.cells (slot_of t.plan r) ≡ some c → Lies shape gives j h r c → Lies shape gives (jobs_of t (λ k. None)) h r c
  lies_itself t j h (Block b) c given same at lies = by_end (is_ended h b.0) (is_block_cancelled t.plan h b.0)
      (subst (λ (p : PlanView). BodyLies shape gives (May gives j b.0) (is_ended h b.0) (is_block_cancelled p h b.0) c) same lies)
    where
      by_end : (ended cancelled : Bool) → BodyLies shape gives (May gives j b.0) ended cancelled c → BodyLies shape gives (May gives (jobs_of t (λ k. None)) b.0) ended cancelled c
      by_end false cancelled l = (l.0, may_itself t b.0 c at)
      by_end true false l = (l.0, l.1, may_itself t b.0 c at l.0 (given l.0 l.1))
      by_end true true l = l
  lies_itself t j h (Source s) c given same at lies = subst (λ (p : PlanView). shape c ≡ source_shape p h s.0) same lies

  -- a board that was closed after such a history can be opened again
  pub opens_again : (t : Terms S) (j : Jobs S) (h : List Event) → ((c : S) (v : ℕ) → shape c ≡ done v → gives c v) → j.plan ≡ t.plan → IsLawful t.plan h → length h ≤ t.limits.most → ((w : ℕ) → w ≢ 0 → of_worker w h ≡ []) → held_by t.plan h 0 ≡ None
      → ((b : ℕ) → list_any (accepts b) h ≡ false) → AtRest shape gives j h t.cells → Opens shape gives t h
  opens_again t j h given same lawful room others none uncalled rest = record {
    lawful = lawful;
    room = room;
    others = others;
    holds_none = none;
    accepts_none = uncalled;
    cells = record {
      width = subst (λ (p : PlanView). length t.cells ≡ slots_of p) same rest.width;
      lie = λ r c known free at. lies_itself t j h r c (given c) same at
          (rest.lie r c (subst (λ (p : PlanView). IsRun p r) (sym same) known) (λ w is. free w (subst (λ (p : PlanView). held_by p h w ≡ Some r) same is)) (subst (λ (p : PlanView). get_elem? t.cells (slot_of p r) ≡ some c) (sym same) at));
      job = λ b _ is. absurd (both_ways (list_any (accepts b) h) (uncalled b) is);
    };
  }

  -- of the cells of a new board
  pub opens_first : (t : Terms S) → AreFirst shape t.plan t.cells → Opens shape gives t []
  opens_first t first = record {
    lawful = lawful_none t.plan;
    room = omega arith;
    others = λ w _. own_nothing w;
    holds_none = nothing_is_held_first t.plan 0;
    accepts_none = λ b. refl;
    cells = record {
      width = first.width;
      lie = λ r c known _ at. let it = first.first r known in first_lies t r c at (ap shape (some-injective c it.0 (sym at ∙ it.1)) ∙ it.2);
      job = λ b _ is. absurd (cc);
    };
  }

  pub opens_as : (t u : Terms S) (h k : List Event) → t ≡ u → h ≡ k → Opens shape gives t h → Opens shape gives u k
  opens_as t u h k same is o = subst (λ (x : Terms S). Opens shape gives x k) same (subst (Opens shape gives t) is o)

  -- the slot of a run is one of the slots
  slot_within : (plan : PlanView) (r : Run) → IsRun plan r → slot_of plan r < slots_of plan
  slot_within plan (Block b) known = omega (arith, known)
  slot_within plan (Source s) known = omega (arith, known)

  pub opens : (key : Copies S) (words : List ℕ) (cells : List S) → key.cells.value.items ≡ cells → IsPlan key.plan.value → Opens shape gives (given_terms key) key.history.value.items → 0 < key.limits.workers → key.limits.workers ≤ 64 → key.limits.most < 4294967296 → AreFirstWords key.limits.most key.limits.workers words (map word_of key.history.value.items) → Holds shape gives key (opening words cells (opening_view key))
  opens key words cells are valid o some_workers few_workers few_events fresh =
      let v : View S = opening_view key in
      let t : Terms S = given_terms key in
      let h : List Event = key.history.value.items in
      let all_passed : (k : ℕ) → k < t.limits.workers → passed_word words k ≡ length h = λ k lt. fresh.passed k lt ∙ words_length h in record {
        history = h;
        valid = valid;
        bounds = (some_workers, few_workers, few_events);
        ring = fresh.ring;
        passed = record {
          slow = λ k lt. dite (dec_le t.limits.workers k) (λ le. omega (arith, fresh.beyond k le lt, o.room, few_events)) (λ not. omega (arith, all_passed k (omega (arith, not))));
          rests = λ k lt. dite (dec_le t.limits.workers k) (λ le. inl (fresh.beyond k le lt)) (λ not. inr (inl (all_passed k (omega (arith, not)))));
          mine = λ by u e live. subst (λ (x : View S). passed_word words x.worker ≡ x.marks.passed) (one v u by e).1 (all_passed 0 some_workers);
          pair = λ by u e k lt. subst (λ (x : View S). x.marks.floor ≤ passed_word words k) (one v u by e).1 (above k (subst (λ (x : View S). k < x.marks.upto) (sym (one v u by e).1) lt) fresh all_passed);
          begin = λ by u e live zero_is k nz lt none. all_passed k lt;
          beyond = fresh.beyond;
        };
        lawful = o.lawful;
        handed = none_handed;
        jobs = λ by u e live. subst (KnowsJobs gives t none_handed) (one v u by e).1 (record { mine = λ _. refl; held = λ b is. absurd (none_some (held_by t.plan h 0) (Block b) o.holds_none is) });
        slots = record {
          width = length-map cells ∙ ap length (sym are) ∙ o.cells.width;
          laid = λ b c _ is. first_laid is;
          placed = λ b c is. absurd (cc);
          accepted = λ b is. absurd (both_ways (list_any (accepts b) h) (o.accepts_none b) is);
          home = λ r known free _.
              let it = cell_at t.cells (slot_of t.plan r) (subst (λ (n : ℕ). slot_of t.plan r < n) (sym o.cells.width) (slot_within t.plan r known)) in
              (it.0, at_map some cells (slot_of t.plan r) it.0 (subst (λ (l : List S). get_elem? l (slot_of t.plan r) ≡ some it.0) are it.1), o.cells.lie r it.0 known free it.1);
        };
        knows = record {
          seen = λ by u e. subst (λ (x : View S). StartsWith h x.seen) (one v u by e).1 (starts_refl h);
          relayed = λ by u e. subst (λ (x : View S). StartsWith h x.relayed) (one v u by e).1 (starts_nil h);
          fits = λ by u e live. subst (Fits t h) (one v u by e).1 (record { terms = refl; own = refl });
          alone = λ i j a b at_a at_b _ _ _. (one v a i at_a).0 ∙ sym (one v b j at_b).0;
          head = λ by u e live zero_is. subst (Heads h (v ∷ [])) (one v u by e).1 (record {
            fresh = λ w nz none_given. o.others w nz;
            home = λ w ne. refl;
            out = λ j x at_x fine nz. absurd (nz (ap (λ (y : View S). y.worker) (sym (one v x j at_x).1)));
          });
          whole = (0, v, refl, refl, refl);
        };
      }
    where
      above : (k : ℕ) → k < 64 → AreFirstWords key.limits.most key.limits.workers words (map word_of key.history.value.items) → ((j : ℕ) → j < key.limits.workers → passed_word words j ≡ length key.history.value.items) → length key.history.value.items ≤ passed_word words k
      above k lt first all = dite (dec_le key.limits.workers k) (λ le. omega (arith, first.beyond k le lt, o.room, few_events)) (λ not. omega (arith, all k (omega (arith, not))))

  -- the first pass is one of the board
  pub first_pass : (b : RowBoard S) (p : RowPass S) (h : List Event) → b.table.shared.key.history.value.items ≡ h → p.seat.table_id ≡ b.table.shared.table_id → p.seat.me ≡ (opening_view b.table.shared.key, []) → p.number ≡ 0 → p.passed ≡ length h → p.floor ≡ length h → p.upto ≡ 64 → p.beneath ≡ None
      → Opens shape gives (terms_of b) h → StandsFor p.machine (terms_of b).plan h → IsPassOf shape gives b p
  first_pass b p h begun table me number passed floor upto beneath o stands =
      let is : view p ≡ opening_view b.table.shared.key = ap (λ m. m.0) me in
      let seen : (view p).seen ≡ h = ap (λ (x : View S). x.seen) is ∙ begun in
      record {
        table = table;
        terms = ap (λ (x : View S). x.terms) is;
        may_read = subst (λ (x : View S). MayRead x) (sym is) (record { unspent = refl; number = omega arith; passed = omega arith });
        passed = passed ∙ ap length (sym begun) ∙ sym (ap (λ (x : View S). x.marks.passed) is);
        floor = floor ∙ ap length (sym begun) ∙ sym (ap (λ (x : View S). x.marks.floor) is);
        upto = upto ∙ sym (ap (λ (x : View S). x.marks.upto) is);
        beneath = nothing_beneath p.beneath (map word_of (view p).seen) beneath;
        number = number ∙ sym (ap (λ (x : View S). x.worker) is);
        few = subst (λ (x : View S). length x.seen ≤ x.terms.limits.most) (sym is) (subst (λ (l : List Event). length l ≤ (terms_of b).limits.most) (sym begun) o.room);
        began = subst (λ (x : View S). x.terms.opened ≤ length x.seen) (sym is) (omega arith);
        has = subst (λ (x : View S). HasSlots shape gives (held_jobs x) x.seen (held_run x) (slots p)) (sym is)
            (subst (λ (l : List Event). HasSlots shape gives (jobs_of (terms_of b) (λ k. None)) l (held_by (terms_of b).plan l 0) (slots p)) (sym begun)
            (subst (λ (q : Option Run). HasSlots shape gives (jobs_of (terms_of b) (λ k. None)) h q (slots p)) (sym o.holds_none) (ap (λ m. m.1) me)));
        back = subst (λ (x : View S). IsBack x.handed.next) (sym is) tt;
        stands = subst (λ (x : View S). StandsFor p.machine x.terms.plan x.seen) (sym is) (subst (λ (l : List Event). StandsFor p.machine (terms_of b).plan l) (sym begun) stands);
      }

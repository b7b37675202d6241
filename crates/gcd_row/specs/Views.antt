-- What passes know, and how it changes.
use Rattle.std.specs.Prelude.{ℕ, suc, min, ◌==◌, Bool, cond, nat_lt, true, false, List, [], ◌∷◌, ◌++◌, length, Option, Some, None}
use Rattle.gcd_plan.specs.declared.numbers.Run.{Run}
use Rattle.gcd_event.specs.declared.event.Event.{Event}
use Rattle.gcd_history.specs.History.{is_block_cancelled}
use Rattle.gcd_history.specs.Team.{held_by}
use Rattle.gcd_row.specs.declared.view.Copies.{Copies}
use Rattle.gcd_row.specs.declared.view.Handed.{Handed}
use Rattle.gcd_row.specs.declared.view.Limits.{Limits}
use Rattle.gcd_row.specs.declared.view.PassMarks.{PassMarks}
use Rattle.gcd_row.specs.declared.view.Next.{Next}
use Rattle.gcd_row.specs.declared.view.Next.TheVariants.{First, Out as NextOut, Laid}
use Rattle.gcd_row.specs.declared.view.Terms.{Terms}
use Rattle.gcd_row.specs.declared.view.Standing.{Standing}
use Rattle.gcd_row.specs.declared.view.Standing.TheVariants.{Out, Back}
use Rattle.gcd_row.specs.declared.view.View.{View}

-- where the pass of worker w is: None where the number was never given out
abbrev pub standing_of : List (ℕ × Standing) → ℕ → Option Standing
standing_of [] w = None
standing_of (x ∷ xs) w = cond (x.0 == w) (Some x.1) (standing_of xs w)

abbrev pub longer : List Event → List Event → List Event
longer a b = cond (nat_lt (length a) (length b)) b a

-- what a pass knows of the passed words at first: that they are at least this
abbrev pub first_marks : ℕ → PassMarks
first_marks n = record { passed = n; floor = n; upto = 64; loads = 0; held = None; looks = 0; looked = n }

abbrev pub no_marks : PassMarks
no_marks = record { passed = 0; floor = 0; upto = 0; loads = 0; held = None; looks = 0; looked = 0 }

-- where the passed word of worker k is x, and those below it are known: x lets the next event be written, or it does not
abbrev pub asked : Limits → PassMarks → ℕ → ℕ → Bool → PassMarks
asked l m k x true = record { passed = m.passed; floor = cond (k == 0) x (min m.floor x); upto = cond (suc k == l.workers) 64 (suc k); loads = suc m.loads; held = None; looks = m.looks; looked = m.looked }
asked l m k x false = record { passed = m.passed; floor = m.floor; upto = k; loads = suc m.loads; held = Some (k, x); looks = m.looks; looked = m.looked }

-- where the pass's own is x
abbrev pub passing : PassMarks → ℕ → PassMarks
passing m x = record { passed = x; floor = m.floor; upto = m.upto; loads = m.loads; held = m.held; looks = m.looks; looked = m.looked }

-- where a load told that the row was these n events
abbrev pub looking : PassMarks → ℕ → PassMarks
looking m n = record { passed = m.passed; floor = m.floor; upto = m.upto; loads = m.loads; held = m.held; looks = suc m.looks; looked = n }

module _ {S : Type 0} where
  -- nothing was handed in
  abbrev pub none_handed : Handed S
  none_handed = record { placed = []; next = First }

  -- worker 0 does not have the slot of the next block
  abbrev pub IsBack : Next S → Type 0
  IsBack First = Unit {0}
  IsBack NextOut = ⊥
  IsBack (Laid c) = Unit {0}

  -- the terms of what was copied
  abbrev pub given_terms : Copies S → Terms S
  given_terms k = record { plan = k.plan.value; cells = k.cells.value.items; limits = k.limits; opened = length k.history.value.items }

  -- what worker 0's first pass knows of a board with these terms whose row begins with this history
  abbrev pub first_view : Terms S → List Event → View S
  first_view t h = record { terms = t; spent = false; worker = 0; seen = h; relayed = []; hands = []; marks = first_marks (length h); first = None; handed = none_handed }

  -- the same of what was copied
  abbrev pub opening_view : Copies S → View S
  opening_view k = first_view (given_terms k) k.history.value.items

  -- what a pass that was joined is left with
  abbrev pub spent_view : View S
  spent_view = record {
    terms = record { plan = record { objects = []; blocks = []; files = []; until = 0; intake = None; strips = [] }; cells = []; limits = record { workers = 0; most = 0 }; opened = 0 };
    spent = true;
    worker = 0;
    seen = [];
    relayed = [];
    hands = [];
    marks = no_marks;
    first = None;
    handed = none_handed;
  }

  -- the run that the pass holds: open, not parked, and started, woken or delivered last by its worker
  abbrev pub held_run : View S → Option Run
  held_run v = held_by v.terms.plan v.seen v.worker

  -- a cancel_block of block b stands before its Start, as far as the pass has seen
  abbrev pub knows_cancelled : View S → ℕ → Bool
  knows_cancelled v b = is_block_cancelled v.terms.plan v.seen b

  -- a pass that has seen this history, and knows this of the passed words
  abbrev pub knowing : View S → List Event → PassMarks → View S
  knowing v h m = record { terms = v.terms; spent = v.spent; worker = v.worker; seen = h; relayed = v.relayed; hands = v.hands; marks = m; first = v.first; handed = v.handed }

  -- its own passed word as v knows it, and what w knows of the others
  abbrev pub known : View S → View S → PassMarks
  known v w = passing w.marks v.marks.passed

  -- a pass that has seen this history
  abbrev pub seeing : View S → List Event → View S
  seeing v h = knowing v h v.marks

  -- a pass that has seen one event more
  abbrev pub saw : View S → Event → View S
  saw v e = seeing v (v.seen ++ e ∷ [])

  -- a pass that has found this in the slot that it took last, and has handed in this
  abbrev pub noting : View S → Option S → Handed S → View S
  noting v c n = record { terms = v.terms; spent = v.spent; worker = v.worker; seen = v.seen; relayed = v.relayed; hands = v.hands; marks = v.marks; first = c; handed = n }

  -- worker 0's pass, of which this is true of the slot of the next block
  abbrev pub turning : View S → Next S → View S
  turning v next = noting v v.first (record { placed = v.handed.placed; next = next })

  -- worker 0's pass, which has given out the number w
  abbrev pub lending : View S → ℕ → View S
  lending v w = record { terms = v.terms; spent = v.spent; worker = v.worker; seen = v.seen; relayed = v.relayed; hands = (w, Out) ∷ v.hands; marks = v.marks; first = v.first; handed = v.handed }

  -- the new pass of worker w, which begins with what worker 0's has seen, and has passed what the row began with
  abbrev pub newcomer : View S → ℕ → View S
  newcomer v w = record { terms = v.terms; spent = false; worker = w; seen = v.seen; relayed = []; hands = []; marks = passing v.marks v.terms.opened; first = None; handed = none_handed }

  -- a pass to which another relayed what it has seen
  abbrev pub hearing : View S → View S → View S
  hearing v u = record { terms = v.terms; spent = v.spent; worker = v.worker; seen = v.seen; relayed = u.seen; hands = v.hands; marks = v.marks; first = v.first; handed = v.handed }

  -- worker 0's pass, which has taken in another
  abbrev pub merging : View S → View S → View S
  merging v u = record { terms = v.terms; spent = v.spent; worker = v.worker; seen = longer v.seen u.seen; relayed = v.relayed; hands = (u.worker, Back) ∷ v.hands; marks = v.marks; first = v.first; handed = v.handed }

  -- what a pass has seen, and nothing else
  abbrev pub note : View S → View S
  note v = record { terms = v.terms; spent = true; worker = v.worker; seen = v.seen; relayed = []; hands = []; marks = no_marks; first = None; handed = none_handed }

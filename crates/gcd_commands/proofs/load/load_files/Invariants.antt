use Rattle.std.proofs.Common.{◌≡◌, ◌≤◌, true, map, take}
use Rattle.gcd_plan.specs.PlanView.{file_view}
use Rattle.gcd_outer.specs.Outside.{seen}
use Rattle.gcd_commands.specs.Loads.{AreLoaded}
use Rattle.gcd_commands.specs.Calls.{count_after}
use Rattle.gcd_commands.proofs.load.load_files.Given as goal

abbrev pub invariant-loop-file : goal.invariant-loop-file
invariant-loop-file g l = record {
  same : (g.S.Shelf.state l.shelf).content ≡ (g.S.Shelf.state l.initial.shelf).content;
  loaded : AreLoaded
      (seen g.S.Shelf.tells g.S.Shelf.state l.initial.shelf l.initial.shelf)
      (map file_view (take l.file-index l.files))
      (map (λ c. c.items) l.contents.items);
  faults : (g.S.Shelf.state l.initial.shelf).faults ≤ (g.S.Shelf.state l.shelf).faults;
  loads : g.S.Shelf.tells ≡ true → (g.S.Shelf.state l.shelf).loads ≡ count_after l.file-index (g.S.Shelf.state l.initial.shelf).loads;
}

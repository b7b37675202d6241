use Rattle.std.proofs.Common.{◌∙◌, map, refl, ap, arith, rules}
use Rattle.std.proofs.lemmas.List.{take_all}
use Rattle.gcd_plan.specs.Limits.{max_file_bytes}
use Rattle.gcd_plan.specs.PlanView.{file_view}
use Rattle.gcd_outer.specs.Outside.{Seen, ShelfState, seen, next_count}
use Rattle.gcd_commands.specs.Loads.{StopsFile, StopsFiles}
use Rattle.gcd_commands.specs.Loads.StopsLoad.{wanting}
use Rattle.gcd_builder.proofs.Refused.{handed_on}
use Rattle.gcd_commands.proofs.Loading.{SameShelf, loaded_same, are_loaded_same, loaded_more, next_file, file_since, count_more}
use Rattle.gcd_commands.proofs.load.load_files.Goals as goal

pub loop-file-preserved : goal.loop-file-preserved
loop-file-preserved g c =
    let between : g.row.S.Denot → g.row.S.Denot → Seen ShelfState = seen g.S.Shelf.tells g.S.Shelf.state in
    let before = c.args.shelf.now in
    let one = loaded_same (between c.loop-file.shelf c.load_whole.new.shelf) (between before before)
    (record { tells = refl; content = c.loop-file.invariant.same }) c.as_str-path.result.now max_file_bytes c.in_ok-bytes.bytes.items c.in_ok-bytes.ensures.loaded in
    record {
      same = search rules;
      loaded = loaded_more (between before before) c.args.files.now c.loop-file.file-index c.file-item.result c.loop-file.contents.items
          c.push.new.self.items c.in_ok-bytes.bytes (search rules) c.file-item.is (search rules) c.loop-file.invariant.loaded
          (rw c.as_str-path.ensures.value at one);
      faults = search rules;
      loads = λ tells. c.load_whole.ensures.loads tells ∙ ap next_count (c.loop-file.invariant.loads tells)
          ∙ count_more c.loop-file.file-index (g.S.Shelf.state before).loads;
    }

pub returns-clause-loaded : goal.returns-clause-loaded
returns-clause-loaded g c =
    let between : g.row.S.Denot → g.row.S.Denot → Seen ShelfState = seen g.S.Shelf.tells g.S.Shelf.state in
    let before = c.args.shelf.now in
    let all = rw (take_all c.loop-file.file-index c.args.files.now (omega arith)) at c.loop-file.invariant.loaded in
    are_loaded_same (between before before) (between before c.loop-file.shelf) (record { tells = refl; content = refl }) _ _ all

pub returns-in_err-bytes-clause-stopped : goal.returns-in_err-bytes-clause-stopped
returns-in_err-bytes-clause-stopped g c =
    let between : g.row.S.Denot → g.row.S.Denot → Seen ShelfState = seen g.S.Shelf.tells g.S.Shelf.state in
    let before = c.args.shelf.now in
    let one = between c.loop-file.shelf c.load_whole.new.shelf in
    let whole = between before c.load_whole.new.shelf in
    let same : SameShelf one whole = record { tells = refl; content = c.loop-file.invariant.same } in
    let loaded = are_loaded_same (between before before) one (record { tells = refl; content = search rules }) _ _ c.loop-file.invariant.loaded in
    let stop = c.in_err-bytes.field-0.0 in
    let stops : StopsFile one (map file_view c.args.files.now) c.loop-file.file-index stop = record {
      file = file_view c.file-item.result;
      next = next_file one c.args.files.now c.loop-file.file-index c.file-item.result c.loop-file.contents.items (search rules) c.file-item.is loaded;
      unloaded = rw (c.as_str-path.ensures.value) at c.in_err-bytes.ensures.stopped;
    } in
    let all : StopsFiles whole (map file_view c.args.files.now) stop = record {
      f = c.loop-file.file-index;
      at = file_since one whole same (omega arith) (omega arith) _ _ stop stops;
      loads = λ tells. c.load_whole.ensures.loads tells ∙ ap next_count (c.loop-file.invariant.loads tells)
          ∙ count_more c.loop-file.file-index (g.S.Shelf.state before).loads;
    } in
    handed_on _ c.from_residual.result stop c.from_residual.ensures.1 all

pub returns-then-is_err-clause-stopped : goal.returns-then-is_err-clause-stopped
returns-then-is_err-clause-stopped g c =
    let between : g.row.S.Denot → g.row.S.Denot → Seen ShelfState = seen g.S.Shelf.tells g.S.Shelf.state in
    let before = c.args.shelf.now in
    let whole = between before c.load_whole.new.shelf in
    let loaded = are_loaded_same (between before before) whole (record { tells = refl; content = refl }) _ _ c.loop-file.invariant.loaded in
    record {
      f = c.loop-file.file-index;
      at = record {
        file = file_view c.file-item.result;
        next = next_file whole c.args.files.now c.loop-file.file-index c.file-item.result c.loop-file.contents.items (search rules) c.file-item.is loaded;
        unloaded = wanting refl;
      };
      loads = λ tells. c.load_whole.ensures.loads tells ∙ ap next_count (c.loop-file.invariant.loads tells)
          ∙ count_more c.loop-file.file-index (g.S.Shelf.state before).loads;
    }

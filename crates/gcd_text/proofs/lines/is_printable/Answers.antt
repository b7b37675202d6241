use Rattle.std.proofs.Common.{◌-◌, ◌&&◌, length, take, drop, sym, ap, ◌∙◌, arith}
use Rattle.std.proofs.Math.Bool.{and_assoc}
use Rattle.gcd_text.proofs.Pieces.{one_piece_more, behind_one_more, overlapping}
use Rattle.gcd_text.specs.Lines.{is_printable}
use Rattle.gcd_text.proofs.lines.is_printable.Goals as goal

pub loop-piece-preserved : goal.loop-piece-preserved
loop-piece-preserved c =
    let line = c.args.line.now in
    let rest = c.loop-piece.rest.now in
    let more = c.in-Some-split_first_chunk.more.now in
    let inv = c.loop-piece.invariant in
    let cut = c.in-Some-split_first_chunk.ensures.cases in
    let place = length line - length rest in
    let last = is_printable (drop (length line - 16) line) in
    let piece =
    c.is_piece_printable-so_far-in-Some-split_first_chunk.ensures
    ∙ ap is_printable (cut.0 ∙ ap (take 16) inv.rest) in
    record {
      inside = let less = cut.2 in let low = inv.inside in omega arith;
      rest = cut.1 ∙ ap (drop 16) inv.rest ∙ behind_one_more line place 16 (length line - length more) (let less = cut.2 in let low = inv.inside in omega arith);
      tested =
          ap (λ t. t && c.is_piece_printable-so_far-in-Some-split_first_chunk.result) inv.tested
          ∙ and_assoc last (is_printable (take place line)) c.is_piece_printable-so_far-in-Some-split_first_chunk.result
          ∙ ap (λ t. last && (is_printable (take place line) && t)) piece
          ∙ ap (λ t. last && t) (sym (one_piece_more line place 16 (length line - length more) (let less = cut.2 in let low = inv.inside in omega arith)));
    }

pub returns : goal.returns
returns c =
    let line = c.args.line.now in
    let inv = c.loop-piece.invariant in
    let few = c.in_default-split_first_chunk.ensures.cases in
    inv.tested ∙ overlapping line (length line - 16) (length line - length c.loop-piece.rest.now) (let low = inv.inside in omega arith)

use Rattle.std.proofs.Common.{◌∙◌, ap, sym, drop}
use Rattle.std.proofs.lemmas.List.{drop-drop}
use Rattle.gcd_turn.proofs.news.News.settle.Goals as goal

pub returns-then-self-len : goal.returns-then-self-len
returns-then-self-len c = sym (drop-drop 1 c.self.inside.next c.self.inside.pieces.items) ∙ ap (drop 1) c.self.view_is

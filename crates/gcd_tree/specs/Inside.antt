-- What the fields of a tree are seen as.
use Rattle.gcd_tree.specs.TreeView.{TreeView}
use Rattle.gcd_tree.specs.declared.tree.Tree.TheInside.{Inside}

-- the lists that a tree keeps
abbrev pub view_of : Inside → TreeView
view_of t = record { targets = t.targets.items; requests = t.requests.items; open_on = t.open_on.items; nodes = t.nodes.items }

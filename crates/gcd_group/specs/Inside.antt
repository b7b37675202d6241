-- What the fields of the groups are seen as.
use Rattle.gcd_group.specs.GroupsView.{GroupsView}
use Rattle.gcd_group.specs.CountsAgree.{CountsAgree}
use Rattle.gcd_group.specs.declared.groups.Groups.TheInside.{Inside}

-- the lists that the groups keep
abbrev pub view_of : Inside → GroupsView
view_of g = record {
  counts = g.counts.items;
  entered = g.entered.items;
  emptied = g.emptied.items;
  notify = g.notify;
  due = g.due.items;
}

-- their counts agree with the lists of notify blocks
abbrev pub InsideAgrees : Inside → Type 0
InsideAgrees g = CountsAgree (view_of g) g.registered.items

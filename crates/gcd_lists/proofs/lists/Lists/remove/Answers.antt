use Rattle.std.proofs.Common.{◌∙◌, sym, arith}
use Rattle.gcd_lists.proofs.Seen.{shown, hold, waits_within, shows_front, shows_last, shows_past, before_within, behind_within, gone_from}
use Rattle.gcd_lists.proofs.lists.Lists.remove.Goals as goal

pub index-behind-requires : goal.index-behind-requires
index-behind-requires c =
    let s = shown c.self.invariant c.self.view_is in
    omega (arith, waits_within s c.args.node.0 c.args.blk.0 c.requires.waits, c.self.inside.next.ok.0)

pub index_mut-requires : goal.index_mut-requires
index_mut-requires c =
    let s = shown c.self.invariant c.self.view_is in
    omega (arith, waits_within s c.args.node.0 c.args.blk.0 c.requires.waits, c.self.inside.places.ok.0, (hold s).places_long)

-- the first block leaves
pub invariant_of-self : goal.invariant_of-self
invariant_of-self c =
    let s = shown c.self.invariant c.self.view_is in
    rw c.get.ensures (shows_front s c.args.node c.args.blk c.index-behind.result.now c.requires.node c.requires.waits (sym c.before_of-before.ensures ∙ c.in_default.is) c.index-behind.ensures).are

pub returns-in_default-clause-rest : goal.returns-in_default-clause-rest
returns-in_default-clause-rest c =
    let s = shown c.self.invariant c.self.view_is in
    rw c.get.ensures (shows_front s c.args.node c.args.blk c.index-behind.result.now c.requires.node c.requires.waits (sym c.before_of-before.ensures ∙ c.in_default.is) c.index-behind.ensures).seen

pub returns-in_default-clause-gone : goal.returns-in_default-clause-gone
returns-in_default-clause-gone c =
    let s = shown c.self.invariant c.self.view_is in
    rw c.get.ensures
    (gone_from c.self.inside.places.items c.args.blk.0 (shows_front s c.args.node c.args.blk c.index-behind.result.now c.requires.node c.requires.waits (sym c.before_of-before.ensures ∙ c.in_default.is) c.index-behind.ensures)
    (omega (arith, waits_within s c.args.node.0 c.args.blk.0 c.requires.waits, (hold s).places_long)))

-- another leaves
pub index_mut-requires-2 : goal.index_mut-requires-2
index_mut-requires-2 c =
    let s = shown c.self.invariant c.self.view_is in
    let before = sym c.before_of-before.ensures ∙ c.in-Some.is in
    omega (
      arith,
      before_within s c.args.node c.in-Some.before c.args.blk c.index-behind.result.now c.requires.node c.requires.waits before c.index-behind.ensures,
      c.self.inside.next.ok.0,
    )

pub invariant_of-self-in-None : goal.invariant_of-self-in-None
invariant_of-self-in-None c =
    let s = shown c.self.invariant c.self.view_is in
    let before = sym c.before_of-before.ensures ∙ c.in-Some.is in
    (shows_last s c.args.node c.in-Some.before c.args.blk c.index-behind.result.now c.requires.node c.requires.waits before c.index-behind.ensures
    (sym c.get-2.ensures ∙ c.in-None.is)).are

pub returns-in-None-clause-rest : goal.returns-in-None-clause-rest
returns-in-None-clause-rest c =
    let s = shown c.self.invariant c.self.view_is in
    let before = sym c.before_of-before.ensures ∙ c.in-Some.is in
    (shows_last s c.args.node c.in-Some.before c.args.blk c.index-behind.result.now c.requires.node c.requires.waits before c.index-behind.ensures
    (sym c.get-2.ensures ∙ c.in-None.is)).seen

pub returns-in-None-clause-gone : goal.returns-in-None-clause-gone
returns-in-None-clause-gone c =
    let s = shown c.self.invariant c.self.view_is in
    let before = sym c.before_of-before.ensures ∙ c.in-Some.is in
    gone_from c.self.inside.places.items c.args.blk.0
    (shows_last s c.args.node c.in-Some.before c.args.blk c.index-behind.result.now c.requires.node c.requires.waits before c.index-behind.ensures
    (sym c.get-2.ensures ∙ c.in-None.is))
    (omega (arith, waits_within s c.args.node.0 c.args.blk.0 c.requires.waits, (hold s).places_long))

pub of-requires : goal.of-requires
of-requires c =
    let s = shown c.self.invariant c.self.view_is in
    let before = sym c.before_of-before.ensures ∙ c.in-Some.is in
    omega (
      arith,
      before_within s c.args.node c.in-Some.before c.args.blk c.index-behind.result.now c.requires.node c.requires.waits before c.index-behind.ensures,
      c.self.invariant.few_blocks,
    )

pub index_mut-requires-in-Some-get : goal.index_mut-requires-in-Some-get
index_mut-requires-in-Some-get c =
    let s = shown c.self.invariant c.self.view_is in
    let before = sym c.before_of-before.ensures ∙ c.in-Some.is in
    omega (
      arith,
      behind_within s c.args.node c.in-Some.before c.args.blk c.index-behind.result.now c.requires.node c.requires.waits before c.index-behind.ensures
          c.in-Some-get.behind (sym c.get-2.ensures ∙ c.in-Some-get.is),
      c.self.inside.before.ok.0,
    )

pub invariant_of-self-in-Some-get : goal.invariant_of-self-in-Some-get
invariant_of-self-in-Some-get c =
    let s = shown c.self.invariant c.self.view_is in
    let before = sym c.before_of-before.ensures ∙ c.in-Some.is in
    rw c.of.ensures
    (shows_past s c.args.node c.in-Some.before c.args.blk c.index-behind.result.now c.requires.node c.requires.waits before c.index-behind.ensures
    c.in-Some-get.behind (sym c.get-2.ensures ∙ c.in-Some-get.is)).are

pub returns-in-Some-get-clause-rest : goal.returns-in-Some-get-clause-rest
returns-in-Some-get-clause-rest c =
    let s = shown c.self.invariant c.self.view_is in
    let before = sym c.before_of-before.ensures ∙ c.in-Some.is in
    (shows_past s c.args.node c.in-Some.before c.args.blk c.index-behind.result.now c.requires.node c.requires.waits before c.index-behind.ensures
    c.in-Some-get.behind (sym c.get-2.ensures ∙ c.in-Some-get.is)).seen

pub returns-in-Some-get-clause-gone : goal.returns-in-Some-get-clause-gone
returns-in-Some-get-clause-gone c =
    let s = shown c.self.invariant c.self.view_is in
    let before = sym c.before_of-before.ensures ∙ c.in-Some.is in
    gone_from c.self.inside.places.items c.args.blk.0
    (shows_past s c.args.node c.in-Some.before c.args.blk c.index-behind.result.now c.requires.node c.requires.waits before c.index-behind.ensures
    c.in-Some-get.behind (sym c.get-2.ensures ∙ c.in-Some-get.is))
    (omega (arith, waits_within s c.args.node.0 c.args.blk.0 c.requires.waits, (hold s).places_long))

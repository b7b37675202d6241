use Rattle.std.proofs.Common.{◌≡◌, [], None, replicate, rules}
use Rattle.gcd_lists.proofs.Seen.{Shows, shows_nothing}
use Rattle.gcd_lists.proofs.lists.Lists.of.Goals as goal

shows : (c : goal.In_ok-vec-5) → Shows c.in_ok-vec.field-0.items c.in_ok-vec-2.field-0.items c.in_ok-vec-3.field-0.items c.in_ok-vec-4.field-0.items
    c.in_ok-vec-5.field-0.items (record { lists = replicate c.args.lists []; blocks = c.args.blocks })
shows c =
    let links : c.in_ok-vec.field-0.items ≡ replicate c.args.blocks None = c.in_ok-vec.ensures.items_if_clones_equal (λ y same. search rules) in
    let befores : c.in_ok-vec-2.field-0.items ≡ replicate c.args.blocks None = c.in_ok-vec-2.ensures.items_if_clones_equal (λ y same. search rules) in
    let places : c.in_ok-vec-3.field-0.items ≡ replicate c.args.blocks None = c.in_ok-vec-3.ensures.items_if_clones_equal (λ y same. search rules) in
    let heads : c.in_ok-vec-4.field-0.items ≡ replicate c.args.lists None = c.in_ok-vec-4.ensures.items_if_clones_equal (λ y same. search rules) in
    let lasts = c.in_ok-vec-5.ensures.items_if_clones_equal (λ y same. same) in
    shows_nothing c.args.lists c.args.blocks links befores places heads lasts c.requires.few_blocks c.requires.few_lists

pub invariant_of-result : goal.invariant_of-result
invariant_of-result c = (shows c).are

pub returns : goal.returns
returns c = (shows c).seen

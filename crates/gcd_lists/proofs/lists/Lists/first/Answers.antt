use Rattle.std.proofs.Common.{◌∙◌, sym, arith}
use Rattle.gcd_lists.proofs.Seen.{shown, few_wait, head_read, place_read, first_within, first_waits, none_waits, first_listed}
use Rattle.gcd_lists.proofs.lists.Lists.first.Goals as goal

pub returns-in_err-blk-clause-value : goal.returns-in_err-blk-clause-value
returns-in_err-blk-clause-value c =
    let s = shown c.self.invariant c.self.view_is in
    let head = head_read s c.args.node.0 c.index.result.now c.requires c.index.ensures ∙ c.in_err-blk.was in
    c.from_residual.ensures ∙ none_waits s c.args.node.0 head

pub returns-in_err-blk-clause-few : goal.returns-in_err-blk-clause-few
returns-in_err-blk-clause-few c = few_wait (shown c.self.invariant c.self.view_is) c.args.node.0

pub index-requires-2 : goal.index-requires-2
index-requires-2 c =
    let s = shown c.self.invariant c.self.view_is in
    let head = head_read s c.args.node.0 c.index.result.now c.requires c.index.ensures ∙ c.in_ok-blk.was in
    omega (arith, first_within s c.args.node.0 c.in_ok-blk.blk head, c.self.inside.places.ok.0)

pub returns : goal.returns
returns c =
    let s = shown c.self.invariant c.self.view_is in
    let head = head_read s c.args.node.0 c.index.result.now c.requires c.index.ensures ∙ c.in_ok-blk.was in
    let within = first_within s c.args.node.0 c.in_ok-blk.blk head in
    let place = place_read s c.in_ok-blk.blk.0 c.index-2.result.now within c.index-2.ensures ∙ sym c.get.ensures ∙ c.in_ok-barrier.was in
    record {
      value = first_waits s c.args.node.0 c.in_ok-blk.blk _ c.in_ok-barrier.barrier head place;
      few = few_wait s c.args.node.0;
      within = first_listed s c.args.node.0 c.in_ok-blk.blk head;
    }

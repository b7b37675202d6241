use Rattle.std.proofs.Common.{◌∙◌, sym}
use Rattle.gcd_lists.proofs.Seen.{shown, place_is, place_read, places_reach}
use Rattle.gcd_lists.proofs.lists.Lists.place.Goals as goal

pub returns : goal.returns
returns c =
    let s = shown c.self.invariant c.self.view_is in
    c.get.ensures ∙ sym (place_read s c.args.blk.0 c.index.result.now (places_reach s c.args.blk.0 c.requires) c.index.ensures) ∙ place_is s c.args.blk.0

use Rattle.std.proofs.Common.{◌≡◌, ◌<◌, ◌≤◌, ◌+◌, ◌||◌, false, get_or, sym, ap, ◌∙◌, subst}
use Rattle.std.specs.Vec.{vec_len}
use Rattle.std.specs.Option.{option_map_or}
use Rattle.std.proofs.lemmas.List.{length-map}
use Rattle.std.proofs.lemmas.Option.{same_Some, slice_get_within}
use Rattle.gcd_plan.specs.Made.{is_within, strip_span}
use Rattle.gcd_plan.specs.PlanView.{StripView, view_of, strip_view}
use Rattle.gcd_builder.proofs.flags.mark_strip_at.Goals as goal

pub strip_at-s-requires : goal.strip_at-s-requires
strip_at-s-requires c =
    let plan = view_of c.args.parts.now in
    subst (λ n. c.args.a < n) (length-map c.args.parts.now.strips.items strip_view) (slice_get_within plan.strips c.args.a c.requires.element c.requires.stands)

pub mark_blocks-requires : goal.mark_blocks-requires
mark_blocks-requires c =
    let same : c.requires.element ≡ strip_view c.strip_at-s.result.now =
    same_Some c.requires.element (strip_view c.strip_at-s.result.now) (sym c.requires.stands ∙ c.strip_at-s.ensures) in
    subst (λ (t : StripView). t.first + t.count ≤ vec_len c.args.flags.now) same c.requires.holds

pub returns : goal.returns
returns c =
    record {
      size = c.mark_blocks.ensures.size;
      each = λ q.
          c.mark_blocks.ensures.each q
          ∙ ap (λ v. get_or c.args.flags.now.items q false || v) (sym (ap (λ o. option_map_or (λ s. is_within q (strip_span s)) o false) c.strip_at-s.ensures));
    }

-- What was seen stays a beginning, so a journal of what was passed stays one as the pass sees more.
use Rattle.std.proofs.Common.{◌≡◌, ℕ, ◌≤◌, List, length, take, sym, ap, ◌∙◌, subst, arith}
use Rattle.std.proofs.lemmas.List.{take-append-le, take_all}
use Rattle.gcd_event.specs.declared.event.Event.{Event}
use Rattle.gcd_history.specs.Team.{StartsWith}
use Rattle.gcd_row.specs.Passes.{IsGathered, MayRead, Says}
use Rattle.gcd_row.specs.Views.{knowing, passing}
use Rattle.gcd_machine.specs.declared.put.Put.{Put}
use Rattle.gcd_machine.specs.declared.put.Put.TheVariants.{Placed, Barred, Held, Full}
use Rattle.gcd_row.specs.declared.view.View.{View}
use Rattle.gcd_row.proofs.AfterPut.{same_numbers}
use Rattle.gcd_row.proofs.Fronts.{starts_more, starts_trans}

module _ {S : Type 0} where
  pub gathered_on : (v w : View S) (journal : List Event) → IsGathered v journal → v.marks.passed ≤ length v.seen → StartsWith w.seen v.seen → w.marks.passed ≡ v.marks.passed → IsGathered w journal
  gathered_on v w journal is low more same =
      is ∙ sym (take-append-le v.marks.passed v.seen more.0 low) ∙ ap (take v.marks.passed) (sym more.1) ∙ ap (λ (n : ℕ). take n w.seen) (sym same)

  -- where the rest was added, and all is passed
  pub gathered_whole : (v w : View S) (journal : List Event) → journal ≡ v.seen → w ≡ knowing v v.seen (passing v.marks (length v.seen)) → IsGathered w journal
  gathered_whole v w journal is now = is ∙ sym (take_all (length v.seen) v.seen (omega arith)) ∙ ap (λ (y : View S). take y.marks.passed y.seen) (sym now)

  pub seen_after : (e : Event) (v w : View S) (r : Put) → Says e v w r → StartsWith w.seen v.seen
  seen_after e v w (Placed n) says = subst (λ (h : List Event). StartsWith h v.seen) (sym (ap (λ (x : View S). x.seen) says.is)) (starts_trans _ says.history v.seen (starts_more says.history e) says.ahead.more)
  seen_after e v w (Barred at y) says = says.0.sees.ahead.more
  seen_after e v w (Held by passed) says = says.0.sees.ahead.more
  seen_after e v w Full says = says.1.more

  -- and so through every answer of `put`
  pub gathered_after : (e : Event) (v w : View S) (r : Put) → Says e v w r → MayRead v → (journal : List Event) → IsGathered v journal → IsGathered w journal
  gathered_after e v w r says ok journal is = gathered_on v w journal is ok.passed (seen_after e v w r says) (same_numbers e v w r says).passed

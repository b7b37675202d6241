-- The lines of senders, one by one.
use Rattle.std.proofs.Common.{◌≡◌, ◌∙◌, ◌+◌, ◌<◌, ◌++◌, ℕ, Bool, true, false, if◌then◌else◌, List, [], ◌∷◌, length, map, sum, sum_by, take, get_or, Option, ap, refl, sym, codes}
use Rattle.std.specs.Prelude.{option_to_list}
use Rattle.std.specs.Fmt.{decimal}
use Rattle.std.specs.List.{filter_map, flat_map, range_with_len}
use Rattle.std.proofs.lemmas.List.{map-append, take_more}
use Rattle.std.proofs.lemmas.List.Sums.{sum-map}
use Rattle.std.proofs.Math.Path.{fun_ext}
use Rattle.std.proofs.lemmas.List.Elements.{filter_map-append}
use Rattle.gcd_facts.proofs.Options.{cons_option-nil}
use Rattle.gcd_plan.specs.PlanView.{PlanView}
use Rattle.gcd_plan.specs.declared.numbers.Blk.{Blk}
use Rattle.gcd_event.specs.declared.event.Event.{Event}
use Rattle.gcd_history.specs.History.{is_ended}
use Rattle.gcd_history.specs.Intake.{accepted_of, blocks_of_sender}
use Rattle.gcd_history.specs.Report.{ended_value, front_text, last_line, line_end, sender_line}
use Rattle.gcd_history.specs.declared.state.State.{State}
use Rattle.gcd_commands.specs.Fronts.{sender_text, value_or_0, values_at}

-- ## The values of a sender

-- one event more
pub values_more : (values : List (Option ℕ)) (journal : List Event) (s i : ℕ) (d : Event) (made after : List ℕ) → i < length journal
    → made ≡ map (λ b. value_or_0 values b.0) (blocks_of_sender (take i journal) s) → after ≡ made ++ values_at values s (get_or journal i d)
    → after ≡ map (λ b. value_or_0 values b.0) (blocks_of_sender (take (i + 1) journal) s)
values_more values journal s i d made after within before more =
    let value : Blk → ℕ = λ b. value_or_0 values b.0 in
    let event : Event = get_or journal i d in
    let blocks : blocks_of_sender (take (i + 1) journal) s ≡ blocks_of_sender (take i journal) s ++ option_to_list (accepted_of s event) =
    ap (filter_map (accepted_of s)) (take_more journal i d within) ∙ filter_map-append (accepted_of s) (take i journal) (event ∷ [])
    ∙ ap (λ l. blocks_of_sender (take i journal) s ++ l) (cons_option-nil (accepted_of s event)) in
    more ∙ ap (λ l. l ++ values_at values s event) before
    ∙ sym (map-append value (blocks_of_sender (take i journal) s) (option_to_list (accepted_of s event))) ∙ ap (map value) (sym blocks)

-- ## Lines

lines_same : (f g : ℕ → List ℕ) → ((n : ℕ) → f n ≡ g n) → (ns : List ℕ) → flat_map f ns ≡ flat_map g ns
lines_same f g same [] = refl
lines_same f g same (n ∷ ns) = ap (λ l. l ++ flat_map f ns) (same n) ∙ ap (λ l. g n ++ l) (lines_same f g same ns)

-- ## A block that has not ended has no value

module _ (values : List (Option ℕ)) (h : List Event) (others : (b : ℕ) → is_ended h b ≡ false → value_or_0 values b ≡ 0) where
  value_by : (b : Blk) (ended : Bool) → is_ended h b.0 ≡ ended → value_or_0 values b.0 ≡ (if ended then value_or_0 values b.0 else 0)
  value_by b true is = refl
  value_by b false is = others b.0 is

  total_is : (blocks : List Blk) → sum (map (λ b. value_or_0 values b.0) blocks) ≡ sum_by (ended_value (value_or_0 values) h) blocks
  total_is blocks = sum-map (λ b. value_or_0 values b.0) blocks ∙ ap (λ f. sum_by f blocks) (fun_ext (λ b. value_by b (is_ended h b.0) refl))

  line_is : (s : ℕ) → sender_text values h s ≡ sender_line (value_or_0 values) h s
  line_is s = ap (λ t. codes "sender " ++ (decimal s ++ (codes " accepted " ++ (decimal (length (blocks_of_sender h s)) ++ (codes " total " ++ (decimal t ++ line_end))))))
      (total_is (blocks_of_sender h s))

  -- the lines of the senders, and the end
  pub text_is : (plan : PlanView) (senders : ℕ) (state : State)
      → flat_map (sender_text values h) (range_with_len 0 senders) ++ last_line plan state h ≡ front_text plan senders (value_or_0 values) state h
  unfolding front_text
  text_is plan senders state =
      ap (λ l. l ++ last_line plan state h) (lines_same (sender_text values h) (sender_line (value_or_0 values) h) line_is (range_with_len 0 senders))

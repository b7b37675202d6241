use Rattle.std.proofs.Common.{◌≡◌, ℕ, true, false, not, Some, slice_get, refl, ap}
use Rattle.std.proofs.lemmas.Bool.{and_from}
use Rattle.gcd_history.specs.History.{is_block_cancelled, is_ended}
use Rattle.gcd_history.specs.Values.{value_of}
use Rattle.gcd_commands.proofs.running.text_of.Goals as goal

pub returns : goal.returns
returns c = λ contents state has values.
    let journal = rw (c.deref.ensures.value) at c.in_ok-add_journal.ensures in
    let written = rw (c.deref-2.ensures.value, c.deref-3.ensures.value) at c.in_ok-write_report_by.ensures.ok in
    let plan = c.args.plan.now in
    let h = c.args.run.now.journal.items in
    let given : (b : ℕ) → is_ended h b ≡ true → is_block_cancelled plan h b ≡ false → slice_get c.args.run.now.values.items b ≡ Some (value_of plan contents b) =
    λ b ended active. values b (and_from (is_ended h b) (not (is_block_cancelled plan h b)) ended (ap not active)) in
    let report = written (value_of plan contents) state has given in
    rw (report, journal, c.new-text.ensures.items) refl

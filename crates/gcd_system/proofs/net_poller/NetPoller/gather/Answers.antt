use Rattle.std.proofs.Common.{◌≡◌, ◌∙◌, List, [], length, sym}
use Rattle.std.proofs.lemmas.Bool.{eqb-true}
use Rattle.std.proofs.lemmas.List.{nil_from_length}
use Rattle.gcd_outer.specs.declared.tell.Tell.{Tell}
use Rattle.gcd_system.proofs.SlotLemmas.{read-after_none}
use Rattle.gcd_system.proofs.net_poller.NetPoller.gather.Goals as goal

pub returns-in_err-read-2-clause-told : goal.returns-in_err-read-2-clause-told
returns-in_err-read-2-clause-told g c =
    let first : List Tell = c.read.new.told in
    let none : first ≡ [] = nil_from_length first (eqb-true (length first) 0 (sym c.is_empty.ensures ∙ c.if-is_empty.true)) in
    read-after_none _ _ _ first _ none c.in_ok-read.ensures.told (rw c.in_ok-wait.ensures.slots at c.in_err-read-2.ensures.told)

pub returns-in_ok-read-2-clause-told : goal.returns-in_ok-read-2-clause-told
returns-in_ok-read-2-clause-told g c =
    let first : List Tell = c.read.new.told in
    let none : first ≡ [] = nil_from_length first (eqb-true (length first) 0 (sym c.is_empty.ensures ∙ c.if-is_empty.true)) in
    read-after_none _ _ _ first _ none c.in_ok-read.ensures.told (rw c.in_ok-wait.ensures.slots at c.in_ok-read-2.ensures.told)

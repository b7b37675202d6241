-- What is told at words, by the request that they name.
use Rattle.std.proofs.Common.{◌≡◌, ◌∙◌, true, is_some, List, Option, None, Result, Ok, Err, option_map, ap, sym, subst, inr}
use Rattle.std.specs.Prelude.{IfOk}
use Rattle.std.proofs.lemmas.Bool.{both_ways}
use Rattle.gcd_facts.proofs.Options.{is_some-option_map}
use Rattle.gcd_outer.specs.Outside.{Bytes}
use Rattle.gcd_words.specs.Asked.{AreTaken, Asked, request_of}
use Rattle.gcd_commands.specs.Calls.{Calls, InputsSeen}
use Rattle.gcd_commands.specs.End.{End}
use Rattle.gcd_commands.specs.declared.found.Found.{Found}
use Rattle.gcd_run.specs.Hands.{AskedHands, HandsOn}
use Rattle.gcd_run.specs.Hands.HandsOn.{reported as hands_on}
use Rattle.gcd_run.specs.declared.ended.Account.{Account}
use Rattle.gcd_run.specs.Ends.{AskedCalls, AskedEnds, IsWritten, OutsideSeen, WordsCall, WordsEnd}

-- what is told of a request, said of the words that ask for it
pub told_of_words : (seen : InputsSeen) (words : List Bytes) (o : Option Asked) (calls : Calls) (end : End) → o ≡ request_of words
    → AskedEnds seen o calls end → WordsEnd seen words calls end
told_of_words seen words o calls end asked reported = subst (λ (p : Option Asked). AskedEnds seen p calls end) asked reported

pub calls_of_words : (seen : InputsSeen) (words : List Bytes) (o : Option Asked) (calls : Calls) → o ≡ request_of words
    → AskedCalls seen o calls → WordsCall seen words calls
calls_of_words seen words o calls asked is = inr (subst (λ (p : Option Asked). AskedCalls seen p calls) asked is)

pub hands_of_words : (seen : InputsSeen) (words : List Bytes) (o : Option Asked) (end : End) (found : Found) → o ≡ request_of words
    → AskedHands seen o end found → AskedHands seen (request_of words) end found
hands_of_words seen words o end found asked is = subst (λ (p : Option Asked). AskedHands seen p end found) asked is

-- what a command hands on, the call hands on
pub hands_on_of : (outside : OutsideSeen) (words : List Bytes) (result : Account) (end : End) (found : Found) → IsWritten outside.sink end result.ended
    → result.found ≡ found → AskedHands outside.inputs (request_of words) end found → HandsOn outside words result
hands_on_of outside words result end found written same hands =
    hands_on end written (subst (λ (f : Found). AskedHands outside.inputs (request_of words) end f) (sym same) hands)

-- words that are taken ask for something
pub taken_asks : {R : Type 0} (of : R → Asked) (r : Option R) (words : List Bytes) → option_map of r ≡ request_of words
    → (AreTaken words → is_some r ≡ true) → AreTaken words → is_some (request_of words) ≡ true
taken_asks of r words exact taken words_taken = sym (ap is_some exact) ∙ is_some-option_map of r ∙ taken words_taken

pub none_taken : {o : Option Asked} → o ≡ None → is_some o ≡ true → ⊥
none_taken none some = both_ways _ (ap is_some none) some

-- what holds anyhow holds at Ok
pub ok_anyhow : {T E : Type 0} (P : Type 0) (r : Result T E) → P → IfOk r (λ x. P)
ok_anyhow P (Ok x) p = p
ok_anyhow P (Err e) p = tt

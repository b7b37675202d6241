-- The fields of an event's line spell the event, and nothing else spells it.
use Rattle.std.proofs.Common.{◌≡◌, ℕ, ◌-◌, ◌==◌, ◌^◌, ◌<◌, ◌≤◌, true, false, List, [], ◌∷◌, ◌++◌, Some, None, refl, ap, arith, codes, append_assoc}
use Rattle.std.specs.List.{join_with_byte, list_all}
use Rattle.std.specs.Fmt.{decimal}
use Rattle.std.proofs.lemmas.Bool.{and_from, ne_eqb}
use Rattle.gcd_plan.specs.Limits.{max_workers, max_senders, max_acts, max_time, max_value}
use Rattle.gcd_plan.specs.PlanView.{PlanView, name_of_blk, name_of_obj}
use Rattle.gcd_plan.specs.Validity.{IsPlan}
use Rattle.gcd_plan.specs.declared.numbers.Blk.{Blk}
use Rattle.gcd_plan.specs.declared.numbers.Obj.{Obj}
use Rattle.gcd_plan.specs.declared.numbers.Run.{Run}
use Rattle.gcd_plan.specs.declared.numbers.Run.TheVariants.{Block, Source}
use Rattle.gcd_event.specs.declared.event.Event.{Event}
use Rattle.gcd_event.specs.declared.event.Event.TheVariants.{Start, Act as Acted, Wake, End, Deliver, DeliverEnd, Tick, Ready, FeedEnd, Misuse, Halt, Expire, Accept, Shut}
use Rattle.gcd_history.specs.Permitted.{is_run_of}
use Rattle.gcd_history.specs.Report.{name_of_run}
use Rattle.gcd_history.specs.JournalText.{event_line}
use Rattle.gcd_journal.specs.Spoken.{IsSpoken}
use Rattle.gcd_journal.specs.Forms.{form_of, fault_in}
use Rattle.gcd_journal.specs.Spelling.{Look, number_in, worker_in, event_in}
use Rattle.gcd_text.specs.Fields.{fields_of}
use Rattle.gcd_journal.proofs.Cuts.{is_plain, some_field}
use Rattle.gcd_journal.proofs.PlainNames.{plain_name}
use Rattle.gcd_journal.proofs.Numbers.{reads, plain_decimal}

-- the fields of an event's line
abbrev pub fields_of_event : PlanView → Event → List (List ℕ)
fields_of_event plan (Start w b) = codes "start" ∷ decimal w ∷ name_of_blk plan b.0 ∷ []
fields_of_event plan (Acted w run i) = codes "act" ∷ decimal w ∷ name_of_run plan run ∷ decimal i ∷ []
fields_of_event plan (Wake w b) = codes "wake" ∷ decimal w ∷ name_of_blk plan b.0 ∷ []
fields_of_event plan (End w b) = codes "end" ∷ decimal w ∷ name_of_blk plan b.0 ∷ []
fields_of_event plan (Deliver w s) = codes "deliver" ∷ decimal w ∷ name_of_obj plan s.0 ∷ []
fields_of_event plan (DeliverEnd w s) = codes "deliver_end" ∷ decimal w ∷ name_of_obj plan s.0 ∷ []
fields_of_event plan (Tick t) = codes "tick" ∷ decimal t ∷ []
fields_of_event plan (Ready s n) = codes "ready" ∷ name_of_obj plan s.0 ∷ decimal n ∷ []
fields_of_event plan (FeedEnd s) = codes "feed_end" ∷ name_of_obj plan s.0 ∷ []
fields_of_event plan (Misuse w c run i) = codes "misuse" ∷ decimal w ∷ name_of_run plan run ∷ decimal i ∷ (77 ∷ decimal c) ∷ []
fields_of_event plan Halt = codes "halt" ∷ []
fields_of_event plan (Expire b) = codes "expire" ∷ name_of_blk plan b.0 ∷ []
fields_of_event plan (Accept b s) = codes "accept" ∷ name_of_blk plan b.0 ∷ decimal s ∷ []
fields_of_event plan Shut = codes "shut" ∷ []

-- the text of a line is its fields, joined by spaces
abbrev pub text_of : PlanView → Event → List ℕ
text_of plan e = join_with_byte 32 (fields_of_event plan e)

-- and its line is that text with an end
pub line_of_text : (plan : PlanView) (e : Event) → event_line plan e ≡ text_of plan e ++ 10 ∷ []
line_of_text plan (Start w b) = simp append_assoc
line_of_text plan (Acted w run i) = simp append_assoc
line_of_text plan (Wake w b) = simp append_assoc
line_of_text plan (End w b) = simp append_assoc
line_of_text plan (Deliver w s) = simp append_assoc
line_of_text plan (DeliverEnd w s) = simp append_assoc
line_of_text plan (Tick t) = refl
line_of_text plan (Ready s n) = simp append_assoc
line_of_text plan (FeedEnd s) = refl
line_of_text plan (Misuse w c run i) = simp append_assoc
line_of_text plan Halt = refl
line_of_text plan (Expire b) = refl
line_of_text plan (Accept b s) = simp append_assoc
line_of_text plan Shut = refl

-- the fields are plain
all_plain : (a : List ℕ) (more : List (List ℕ)) → list_all is_plain a ≡ true → list_all (list_all is_plain) more ≡ true → list_all (list_all is_plain) (a ∷ more) ≡ true
all_plain a more p q = and_from (list_all is_plain a) (list_all (list_all is_plain) more) p q

plain_turn : (plan : PlanView) (kind : List ℕ) (w : ℕ) (run : Run) (more : List (List ℕ)) → IsPlan plan → list_all is_plain kind ≡ true → w < 2 ^ 64 → is_run_of plan run ≡ true → list_all (list_all is_plain) more ≡ true
    → list_all (list_all is_plain) (kind ∷ decimal w ∷ name_of_run plan run ∷ more) ≡ true
plain_turn plan kind w run more valid k fits h rest =
    all_plain kind (decimal w ∷ name_of_run plan run ∷ more) k
    (all_plain (decimal w) (name_of_run plan run ∷ more) (plain_decimal w fits) (all_plain (name_of_run plan run) more (plain_name plan run valid h) rest))

pub plain_fields : (plan : PlanView) (e : Event) → IsPlan plan → IsSpoken plan e → list_all (list_all is_plain) (fields_of_event plan e) ≡ true
plain_fields plan (Start w b) valid spoken = plain_turn plan (codes "start") w (Block b) [] valid refl (let f = spoken.fits in omega arith) spoken.named refl
plain_fields plan (Acted w run i) valid spoken =
    plain_turn plan (codes "act") w run (decimal i ∷ []) valid refl (let f = spoken.fits in omega arith) spoken.named
    (all_plain (decimal i) [] (plain_decimal i (let f = spoken.fits in omega arith)) refl)
plain_fields plan (Wake w b) valid spoken = plain_turn plan (codes "wake") w (Block b) [] valid refl (let f = spoken.fits in omega arith) spoken.named refl
plain_fields plan (End w b) valid spoken = plain_turn plan (codes "end") w (Block b) [] valid refl (let f = spoken.fits in omega arith) spoken.named refl
plain_fields plan (Deliver w s) valid spoken = plain_turn plan (codes "deliver") w (Source s) [] valid refl (let f = spoken.fits in omega arith) spoken.named refl
plain_fields plan (DeliverEnd w s) valid spoken = plain_turn plan (codes "deliver_end") w (Source s) [] valid refl (let f = spoken.fits in omega arith) spoken.named refl
plain_fields plan (Tick t) valid spoken = all_plain (codes "tick") (decimal t ∷ []) refl (all_plain (decimal t) [] (plain_decimal t (let f = spoken.fits in omega arith)) refl)
plain_fields plan (Ready s n) valid spoken =
    all_plain (codes "ready") (name_of_obj plan s.0 ∷ decimal n ∷ []) refl
    (all_plain (name_of_obj plan s.0) (decimal n ∷ []) (plain_name plan (Source s) valid spoken.named)
    (all_plain (decimal n) [] (plain_decimal n (let f = spoken.fits in omega arith)) refl))
plain_fields plan (FeedEnd s) valid spoken =
    all_plain (codes "feed_end") (name_of_obj plan s.0 ∷ []) refl (all_plain (name_of_obj plan s.0) [] (plain_name plan (Source s) valid spoken.named) refl)
plain_fields plan (Misuse w c run i) valid spoken =
    plain_turn plan (codes "misuse") w run (decimal i ∷ (77 ∷ decimal c) ∷ []) valid refl (let f = spoken.fits in omega arith) spoken.named
    (all_plain (decimal i) ((77 ∷ decimal c) ∷ []) (plain_decimal i (let f = spoken.fits in omega arith))
    (all_plain (77 ∷ decimal c) [] (plain_decimal c (let f = spoken.fits in omega arith)) refl))
plain_fields plan Halt valid spoken = refl
plain_fields plan (Expire b) valid spoken =
    all_plain (codes "expire") (name_of_blk plan b.0 ∷ []) refl (all_plain (name_of_blk plan b.0) [] (plain_name plan (Block b) valid spoken.named) refl)
plain_fields plan (Accept b s) valid spoken =
    all_plain (codes "accept") (name_of_blk plan b.0 ∷ decimal s ∷ []) refl
    (all_plain (name_of_blk plan b.0) (decimal s ∷ []) (plain_name plan (Block b) valid spoken.named)
    (all_plain (decimal s) [] (plain_decimal s (let f = spoken.fits in omega arith)) refl))
plain_fields plan Shut valid spoken = refl

-- ## What the fields of an event spell

number_read : (low high n : ℕ) → low ≤ n → n ≤ high → high < 2 ^ 64 → number_in low high (decimal n) ≡ Some n
number_read low high n above below few = reads low high (decimal n) n (omega arith) refl above below

module _ (plan : PlanView) (look : Look) (known : (run : Run) → is_run_of plan run ≡ true → look (name_of_run plan run) ≡ Some run) where
  worker_read : (w : ℕ) → w < max_workers → worker_in (decimal w) ≡ Some w
  worker_read w few = number_read 0 (max_workers - 1) w (omega arith) (omega arith) (omega arith)

  block_read : (b : Blk) → is_run_of plan (Block b) ≡ true → look (name_of_blk plan b.0) ≡ Some (Block b)
  block_read b h = known (Block b) h

  source_read : (s : Obj) → is_run_of plan (Source s) ≡ true → look (name_of_obj plan s.0) ≡ Some (Source s)
  source_read s h = known (Source s) h

  pub spells : (e : Event) → IsSpoken plan e → event_in look (fields_of_event plan e) ≡ Some e
  spells (Start w b) spoken = rw (worker_read w spoken.fits.0, block_read b spoken.named) refl
  spells (Acted w run i) spoken =
      rw (worker_read w spoken.fits.0, known run spoken.named, number_read 0 (max_acts - 1) i (omega arith) (let f = spoken.fits in omega arith) (omega arith)) refl
  spells (Wake w b) spoken = rw (worker_read w spoken.fits.0, block_read b spoken.named) refl
  spells (End w b) spoken = rw (worker_read w spoken.fits.0, block_read b spoken.named) refl
  spells (Deliver w s) spoken = rw (worker_read w spoken.fits.0, source_read s spoken.named) refl
  spells (DeliverEnd w s) spoken = rw (worker_read w spoken.fits.0, source_read s spoken.named) refl
  spells (Tick t) spoken = rw (number_read 1 max_time t spoken.fits.0 spoken.fits.1 (omega arith)) refl
  spells (Ready s n) spoken = rw (source_read s spoken.named, number_read 1 max_value n spoken.fits.1 spoken.fits.2 (omega arith)) refl
  spells (FeedEnd s) spoken = rw (source_read s spoken.named) refl
  spells (Misuse w c run i) spoken =
      rw (worker_read w spoken.fits.0, known run spoken.named, number_read 0 (max_acts - 1) i (omega arith) (let f = spoken.fits in omega arith) (omega arith), number_read 1 8 c spoken.fits.3 spoken.fits.4 (omega arith)) refl
  spells Halt spoken = refl
  spells (Expire b) spoken = rw (block_read b spoken.named) refl
  spells (Accept b s) spoken =
      let other : (b.0 == 0) ≡ false = ne_eqb b.0 0 (λ main. let f = spoken.fits in omega arith) in
      rw (block_read b spoken.named, other, number_read 0 (max_senders - 1) s (omega arith) (let f = spoken.fits in omega arith) (omega arith)) refl
  spells Shut spoken = refl

  -- and nothing is wrong with them
  pub faultless : (e : Event) → IsSpoken plan e → fault_in look (fields_of_event plan e) ≡ None
  unfolding fault_in form_of
  faultless (Start w b) spoken = rw (worker_read w spoken.fits.0, block_read b spoken.named) refl
  faultless (Acted w run i) spoken =
      rw (worker_read w spoken.fits.0, known run spoken.named, number_read 0 (max_acts - 1) i (omega arith) (let f = spoken.fits in omega arith) (omega arith)) refl
  faultless (Wake w b) spoken = rw (worker_read w spoken.fits.0, block_read b spoken.named) refl
  faultless (End w b) spoken = rw (worker_read w spoken.fits.0, block_read b spoken.named) refl
  faultless (Deliver w s) spoken = rw (worker_read w spoken.fits.0, source_read s spoken.named) refl
  faultless (DeliverEnd w s) spoken = rw (worker_read w spoken.fits.0, source_read s spoken.named) refl
  faultless (Tick t) spoken = rw (number_read 1 max_time t spoken.fits.0 spoken.fits.1 (omega arith)) refl
  faultless (Ready s n) spoken = rw (source_read s spoken.named, number_read 1 max_value n spoken.fits.1 spoken.fits.2 (omega arith)) refl
  faultless (FeedEnd s) spoken = rw (source_read s spoken.named) refl
  faultless (Misuse w c run i) spoken =
      rw (worker_read w spoken.fits.0, known run spoken.named, number_read 0 (max_acts - 1) i (omega arith) (let f = spoken.fits in omega arith) (omega arith), number_read 1 8 c spoken.fits.3 spoken.fits.4 (omega arith)) refl
  faultless Halt spoken = refl
  faultless (Expire b) spoken = rw (block_read b spoken.named) refl
  faultless (Accept b s) spoken =
      let other : (b.0 == 0) ≡ false = ne_eqb b.0 0 (λ main. let f = spoken.fits in omega arith) in
      rw (block_read b spoken.named, other, number_read 0 (max_senders - 1) s (omega arith) (let f = spoken.fits in omega arith) (omega arith)) refl
  faultless Shut spoken = refl

-- six fields and more spell nothing
pub six_spell_nothing : (look : Look) (kind a b c d rest : List ℕ) → event_in look (kind ∷ a ∷ b ∷ c ∷ d ∷ fields_of rest) ≡ None
six_spell_nothing look kind a b c d rest =
    let t = some_field rest in
    ap (λ fields. event_in look (kind ∷ a ∷ b ∷ c ∷ d ∷ fields)) t.2

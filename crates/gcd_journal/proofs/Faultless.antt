-- The fields of a line with which nothing is wrong spell an event.
use Rattle.std.proofs.Common.{◌≡◌, ℕ, ◌==◌, Bool, true, false, if◌then◌else◌, List, [], ◌∷◌, length, Option, Some, None, refl, ap, ◌∙◌, arith, codes}
use Rattle.std.specs.Option.{is_some}
use Rattle.std.specs.Str.{bytes_eq}
use Rattle.std.proofs.lemmas.Bool.{ne_eqb}
use Rattle.std.proofs.lemmas.Slice.Eq.{bytes_eq-Decides}
use Rattle.gcd_event.specs.declared.event.Event.{Event}
use Rattle.gcd_event.specs.declared.event.Event.TheVariants.{Start, Act as Acted, Wake, End, Deliver, DeliverEnd, Tick, Ready, FeedEnd, Misuse, Halt, Expire, Accept, Shut}
use Rattle.gcd_journal.specs.declared.cause.Field.TheVariants.{Worker, Block, OtherBlock, Source, Run, Index, Sender, Time, Bytes, Code}
use Rattle.gcd_journal.specs.declared.cause.JournalCause.{JournalCause}
use Rattle.gcd_journal.specs.Forms.{fault_by, fault_in}
use Rattle.gcd_journal.specs.Spelling.{Look, worker_in, index_in, sender_in, time_in, bytes_in, code_in, block_in, other_block_in, source_in, event_in}
use Rattle.gcd_journal.proofs.Formed.{form_cases}

-- the first field fits, and nothing is wrong with the others
fitting : (t : Bool) (later : Option JournalCause) (why : JournalCause) → (if t then later else Some why) ≡ None → (t ≡ true) × (later ≡ None)
fitting true later why none = (refl, none)
fitting false later why none = cc

with_some : {A P : Type 0} (o : Option A) → is_some o ≡ true → ((x : A) → o ≡ Some x → P) → P
with_some None some then_is = cc
with_some (Some x) some then_is = then_is x refl

-- the fields spell an event
abbrev Spells : Look → List (List ℕ) → Type 0
Spells look fields = (e : Event) × (event_in look fields ≡ Some e)

as_word : (look : Look) (word name : List ℕ) (texts : List (List ℕ)) (e : Event) → bytes_eq word name ≡ true → event_in look (name ∷ texts) ≡ Some e → Spells look (word ∷ texts)
as_word look word name texts e is at = (e, ap (λ w. event_in look (w ∷ texts)) ((bytes_eq-Decides word name).0 is) ∙ at)

-- the fields of a line of each word
tick_fits : (look : Look) (word a : List ℕ) → bytes_eq word (codes "tick") ≡ true → fault_by look (Some (Time ∷ [])) (a ∷ []) ≡ None → Spells look (word ∷ a ∷ [])
tick_fits look word a is none =
    let f0 = fitting (is_some (time_in a)) _ _ none in
    with_some (time_in a) f0.0 (λ x p0.
    as_word look word (codes "tick") (a ∷ []) (Tick x) is (rw p0 refl))

feed_end_fits : (look : Look) (word a : List ℕ) → bytes_eq word (codes "feed_end") ≡ true → fault_by look (Some (Source ∷ [])) (a ∷ []) ≡ None → Spells look (word ∷ a ∷ [])
feed_end_fits look word a is none =
    let f0 = fitting (is_some (source_in look a)) _ _ none in
    with_some (source_in look a) f0.0 (λ x p0.
    as_word look word (codes "feed_end") (a ∷ []) (FeedEnd x) is (rw p0 refl))

expire_fits : (look : Look) (word a : List ℕ) → bytes_eq word (codes "expire") ≡ true → fault_by look (Some (Block ∷ [])) (a ∷ []) ≡ None → Spells look (word ∷ a ∷ [])
expire_fits look word a is none =
    let f0 = fitting (is_some (block_in look a)) _ _ none in
    with_some (block_in look a) f0.0 (λ x p0.
    as_word look word (codes "expire") (a ∷ []) (Expire x) is (rw p0 refl))

ready_fits : (look : Look) (word a b : List ℕ) → bytes_eq word (codes "ready") ≡ true → fault_by look (Some (Source ∷ Bytes ∷ [])) (a ∷ b ∷ []) ≡ None → Spells look (word ∷ a ∷ b ∷ [])
ready_fits look word a b is none =
    let f0 = fitting (is_some (source_in look a)) _ _ none in
    with_some (source_in look a) f0.0 (λ x p0.
    let f1 = fitting (is_some (bytes_in b)) _ _ f0.1 in
    with_some (bytes_in b) f1.0 (λ y p1.
    as_word look word (codes "ready") (a ∷ b ∷ []) (Ready x y) is (rw (p0, p1) refl)))

accept_fits : (look : Look) (word a b : List ℕ) → bytes_eq word (codes "accept") ≡ true → fault_by look (Some (OtherBlock ∷ Sender ∷ [])) (a ∷ b ∷ []) ≡ None → Spells look (word ∷ a ∷ b ∷ [])
accept_fits look word a b is none =
    let f0 = fitting (is_some (other_block_in look a)) _ _ none in
    with_some (other_block_in look a) f0.0 (λ x p0.
    let f1 = fitting (is_some (sender_in b)) _ _ f0.1 in
    with_some (sender_in b) f1.0 (λ y p1.
    as_word look word (codes "accept") (a ∷ b ∷ []) (Accept x y) is (rw (p0, p1) refl)))

start_fits : (look : Look) (word a b : List ℕ) → bytes_eq word (codes "start") ≡ true → fault_by look (Some (Worker ∷ Block ∷ [])) (a ∷ b ∷ []) ≡ None → Spells look (word ∷ a ∷ b ∷ [])
start_fits look word a b is none =
    let f0 = fitting (is_some (worker_in a)) _ _ none in
    with_some (worker_in a) f0.0 (λ x p0.
    let f1 = fitting (is_some (block_in look b)) _ _ f0.1 in
    with_some (block_in look b) f1.0 (λ y p1.
    as_word look word (codes "start") (a ∷ b ∷ []) (Start x y) is (rw (p0, p1) refl)))

end_fits : (look : Look) (word a b : List ℕ) → bytes_eq word (codes "end") ≡ true → fault_by look (Some (Worker ∷ Block ∷ [])) (a ∷ b ∷ []) ≡ None → Spells look (word ∷ a ∷ b ∷ [])
end_fits look word a b is none =
    let f0 = fitting (is_some (worker_in a)) _ _ none in
    with_some (worker_in a) f0.0 (λ x p0.
    let f1 = fitting (is_some (block_in look b)) _ _ f0.1 in
    with_some (block_in look b) f1.0 (λ y p1.
    as_word look word (codes "end") (a ∷ b ∷ []) (End x y) is (rw (p0, p1) refl)))

wake_fits : (look : Look) (word a b : List ℕ) → bytes_eq word (codes "wake") ≡ true → fault_by look (Some (Worker ∷ Block ∷ [])) (a ∷ b ∷ []) ≡ None → Spells look (word ∷ a ∷ b ∷ [])
wake_fits look word a b is none =
    let f0 = fitting (is_some (worker_in a)) _ _ none in
    with_some (worker_in a) f0.0 (λ x p0.
    let f1 = fitting (is_some (block_in look b)) _ _ f0.1 in
    with_some (block_in look b) f1.0 (λ y p1.
    as_word look word (codes "wake") (a ∷ b ∷ []) (Wake x y) is (rw (p0, p1) refl)))

deliver_fits : (look : Look) (word a b : List ℕ) → bytes_eq word (codes "deliver") ≡ true → fault_by look (Some (Worker ∷ Source ∷ [])) (a ∷ b ∷ []) ≡ None → Spells look (word ∷ a ∷ b ∷ [])
deliver_fits look word a b is none =
    let f0 = fitting (is_some (worker_in a)) _ _ none in
    with_some (worker_in a) f0.0 (λ x p0.
    let f1 = fitting (is_some (source_in look b)) _ _ f0.1 in
    with_some (source_in look b) f1.0 (λ y p1.
    as_word look word (codes "deliver") (a ∷ b ∷ []) (Deliver x y) is (rw (p0, p1) refl)))

deliver_end_fits : (look : Look) (word a b : List ℕ) → bytes_eq word (codes "deliver_end") ≡ true → fault_by look (Some (Worker ∷ Source ∷ [])) (a ∷ b ∷ []) ≡ None → Spells look (word ∷ a ∷ b ∷ [])
deliver_end_fits look word a b is none =
    let f0 = fitting (is_some (worker_in a)) _ _ none in
    with_some (worker_in a) f0.0 (λ x p0.
    let f1 = fitting (is_some (source_in look b)) _ _ f0.1 in
    with_some (source_in look b) f1.0 (λ y p1.
    as_word look word (codes "deliver_end") (a ∷ b ∷ []) (DeliverEnd x y) is (rw (p0, p1) refl)))

act_fits : (look : Look) (word a b c : List ℕ) → bytes_eq word (codes "act") ≡ true → fault_by look (Some (Worker ∷ Run ∷ Index ∷ [])) (a ∷ b ∷ c ∷ []) ≡ None → Spells look (word ∷ a ∷ b ∷ c ∷ [])
act_fits look word a b c is none =
    let f0 = fitting (is_some (worker_in a)) _ _ none in
    with_some (worker_in a) f0.0 (λ x p0.
    let f1 = fitting (is_some (look b)) _ _ f0.1 in
    with_some (look b) f1.0 (λ y p1.
    let f2 = fitting (is_some (index_in c)) _ _ f1.1 in
    with_some (index_in c) f2.0 (λ z p2.
    as_word look word (codes "act") (a ∷ b ∷ c ∷ []) (Acted x y z) is (rw (p0, p1, p2) refl))))

misuse_fits : (look : Look) (word a b c d : List ℕ) → bytes_eq word (codes "misuse") ≡ true → fault_by look (Some (Worker ∷ Run ∷ Index ∷ Code ∷ [])) (a ∷ b ∷ c ∷ d ∷ []) ≡ None → Spells look (word ∷ a ∷ b ∷ c ∷ d ∷ [])
misuse_fits look word a b c d is none =
    let f0 = fitting (is_some (worker_in a)) _ _ none in
    with_some (worker_in a) f0.0 (λ x p0.
    let f1 = fitting (is_some (look b)) _ _ f0.1 in
    with_some (look b) f1.0 (λ y p1.
    let f2 = fitting (is_some (index_in c)) _ _ f1.1 in
    with_some (index_in c) f2.0 (λ z p2.
    let f3 = fitting (is_some (code_in d)) _ _ f2.1 in
    with_some (code_in d) f3.0 (λ u p3.
    as_word look word (codes "misuse") (a ∷ b ∷ c ∷ d ∷ []) (Misuse x u y z) is (rw (p0, p1, p2, p3) refl)))))

-- nothing is wrong with the fields, so they spell an event
pub faultless_spells : (look : Look) (fields : List (List ℕ)) → fault_in look fields ≡ None → Spells look fields
unfolding fault_in
faultless_spells look [] none = cc
faultless_spells look (word ∷ []) none =
    form_cases (λ form. fault_by look form ([]) ≡ None → Spells look (word ∷ [])) word
    (λ is fine. as_word look word (codes "halt") [] Halt is refl)
    (λ is fine. as_word look word (codes "shut") [] Shut is refl)
    (λ is fine. cc)
    (λ is fine. cc)
    (λ is fine. cc)
    (λ is fine. cc)
    (λ is fine. cc)
    (λ is fine. cc)
    (λ is fine. cc)
    (λ is fine. cc)
    (λ is fine. cc)
    (λ is fine. cc)
    (λ is fine. cc)
    (λ is fine. cc)
    (λ fine. cc) none
faultless_spells look (word ∷ a ∷ []) none =
    form_cases (λ form. fault_by look form (a ∷ []) ≡ None → Spells look (word ∷ a ∷ [])) word
    (λ is fine. cc)
    (λ is fine. cc)
    (tick_fits look word a)
    (feed_end_fits look word a)
    (expire_fits look word a)
    (λ is fine. cc)
    (λ is fine. cc)
    (λ is fine. cc)
    (λ is fine. cc)
    (λ is fine. cc)
    (λ is fine. cc)
    (λ is fine. cc)
    (λ is fine. cc)
    (λ is fine. cc)
    (λ fine. cc) none
faultless_spells look (word ∷ a ∷ b ∷ []) none =
    form_cases (λ form. fault_by look form (a ∷ b ∷ []) ≡ None → Spells look (word ∷ a ∷ b ∷ [])) word
    (λ is fine. cc)
    (λ is fine. cc)
    (λ is fine. cc)
    (λ is fine. cc)
    (λ is fine. cc)
    (ready_fits look word a b)
    (accept_fits look word a b)
    (start_fits look word a b)
    (end_fits look word a b)
    (wake_fits look word a b)
    (deliver_fits look word a b)
    (deliver_end_fits look word a b)
    (λ is fine. cc)
    (λ is fine. cc)
    (λ fine. cc) none
faultless_spells look (word ∷ a ∷ b ∷ c ∷ []) none =
    form_cases (λ form. fault_by look form (a ∷ b ∷ c ∷ []) ≡ None → Spells look (word ∷ a ∷ b ∷ c ∷ [])) word
    (λ is fine. cc)
    (λ is fine. cc)
    (λ is fine. cc)
    (λ is fine. cc)
    (λ is fine. cc)
    (λ is fine. cc)
    (λ is fine. cc)
    (λ is fine. cc)
    (λ is fine. cc)
    (λ is fine. cc)
    (λ is fine. cc)
    (λ is fine. cc)
    (act_fits look word a b c)
    (λ is fine. cc)
    (λ fine. cc) none
faultless_spells look (word ∷ a ∷ b ∷ c ∷ d ∷ []) none =
    form_cases (λ form. fault_by look form (a ∷ b ∷ c ∷ d ∷ []) ≡ None → Spells look (word ∷ a ∷ b ∷ c ∷ d ∷ [])) word
    (λ is fine. cc)
    (λ is fine. cc)
    (λ is fine. cc)
    (λ is fine. cc)
    (λ is fine. cc)
    (λ is fine. cc)
    (λ is fine. cc)
    (λ is fine. cc)
    (λ is fine. cc)
    (λ is fine. cc)
    (λ is fine. cc)
    (λ is fine. cc)
    (λ is fine. cc)
    (misuse_fits look word a b c d)
    (λ fine. cc) none
faultless_spells look (word ∷ a ∷ b ∷ c ∷ d ∷ f ∷ more) none =
    form_cases (λ form. fault_by look form (a ∷ b ∷ c ∷ d ∷ f ∷ more) ≡ None → Spells look (word ∷ a ∷ b ∷ c ∷ d ∷ f ∷ more)) word
    (λ is fine. let other : (0 == length (a ∷ b ∷ c ∷ d ∷ f ∷ more)) ≡ false = ne_eqb 0 _ (λ same. omega arith) in cc)
    (λ is fine. let other : (0 == length (a ∷ b ∷ c ∷ d ∷ f ∷ more)) ≡ false = ne_eqb 0 _ (λ same. omega arith) in cc)
    (λ is fine. let other : (1 == length (a ∷ b ∷ c ∷ d ∷ f ∷ more)) ≡ false = ne_eqb 1 _ (λ same. omega arith) in cc)
    (λ is fine. let other : (1 == length (a ∷ b ∷ c ∷ d ∷ f ∷ more)) ≡ false = ne_eqb 1 _ (λ same. omega arith) in cc)
    (λ is fine. let other : (1 == length (a ∷ b ∷ c ∷ d ∷ f ∷ more)) ≡ false = ne_eqb 1 _ (λ same. omega arith) in cc)
    (λ is fine. let other : (2 == length (a ∷ b ∷ c ∷ d ∷ f ∷ more)) ≡ false = ne_eqb 2 _ (λ same. omega arith) in cc)
    (λ is fine. let other : (2 == length (a ∷ b ∷ c ∷ d ∷ f ∷ more)) ≡ false = ne_eqb 2 _ (λ same. omega arith) in cc)
    (λ is fine. let other : (2 == length (a ∷ b ∷ c ∷ d ∷ f ∷ more)) ≡ false = ne_eqb 2 _ (λ same. omega arith) in cc)
    (λ is fine. let other : (2 == length (a ∷ b ∷ c ∷ d ∷ f ∷ more)) ≡ false = ne_eqb 2 _ (λ same. omega arith) in cc)
    (λ is fine. let other : (2 == length (a ∷ b ∷ c ∷ d ∷ f ∷ more)) ≡ false = ne_eqb 2 _ (λ same. omega arith) in cc)
    (λ is fine. let other : (2 == length (a ∷ b ∷ c ∷ d ∷ f ∷ more)) ≡ false = ne_eqb 2 _ (λ same. omega arith) in cc)
    (λ is fine. let other : (2 == length (a ∷ b ∷ c ∷ d ∷ f ∷ more)) ≡ false = ne_eqb 2 _ (λ same. omega arith) in cc)
    (λ is fine. let other : (3 == length (a ∷ b ∷ c ∷ d ∷ f ∷ more)) ≡ false = ne_eqb 3 _ (λ same. omega arith) in cc)
    (λ is fine. let other : (4 == length (a ∷ b ∷ c ∷ d ∷ f ∷ more)) ≡ false = ne_eqb 4 _ (λ same. omega arith) in cc)
    (λ fine. cc) none

-- A text is a journal in one way.
use Rattle.std.proofs.Common.{◌≡◌, ℕ, zero, suc, ◌+◌, ◌^◌, ◌<◌, ◌≤◌, true, List, [], ◌∷◌, ◌++◌, length, Some, None, refl, ap, sym, ◌∙◌, subst, arith, codes, append_assoc}
use Rattle.std.specs.List.{join_with_byte, list_all, flat_map}
use Rattle.std.specs.Fmt.{decimal}
use Rattle.std.proofs.lemmas.Bool.{and_from}
use Rattle.gcd_plan.specs.PlanView.{PlanView}
use Rattle.gcd_plan.specs.Validity.{IsPlan}
use Rattle.gcd_event.specs.declared.event.Event.{Event}
use Rattle.gcd_event.specs.declared.event.Event.TheVariants.{Start, Act as Acted, Wake, End, Deliver, DeliverEnd, Tick, Ready, FeedEnd, Misuse, Halt, Expire, Accept, Shut}
use Rattle.gcd_history.specs.JournalText.{event_line, count_line, journal_text}
use Rattle.gcd_text.specs.Fields.{fields_of}
use Rattle.gcd_journal.specs.Spoken.{IsSpoken, AreSpoken}
use Rattle.gcd_journal.specs.Journals.{BeginsWith, IsJournal, IsRefusedAt}
use Rattle.gcd_journal.specs.Spelling.{event_in}
use Rattle.gcd_journal.proofs.Cuts.{is_plain, is_line, fields_joined, joined_line, cut_one_way}
use Rattle.gcd_journal.proofs.LookUp.{run_named, named_look}
use Rattle.gcd_journal.proofs.Numbers.{plain_decimal}
use Rattle.gcd_journal.proofs.Spelled.{fields_of_event, text_of, line_of_text, plain_fields, spells}

-- the fields of an event's text are the event's
fields_of_text : (plan : PlanView) (e : Event) → list_all (list_all is_plain) (fields_of_event plan e) ≡ true → fields_of (text_of plan e) ≡ fields_of_event plan e
fields_of_text plan (Start w b) plain = fields_joined _ _ plain
fields_of_text plan (Acted w run i) plain = fields_joined _ _ plain
fields_of_text plan (Wake w b) plain = fields_joined _ _ plain
fields_of_text plan (End w b) plain = fields_joined _ _ plain
fields_of_text plan (Deliver w s) plain = fields_joined _ _ plain
fields_of_text plan (DeliverEnd w s) plain = fields_joined _ _ plain
fields_of_text plan (Tick t) plain = fields_joined _ _ plain
fields_of_text plan (Ready s n) plain = fields_joined _ _ plain
fields_of_text plan (FeedEnd s) plain = fields_joined _ _ plain
fields_of_text plan (Misuse w c run i) plain = fields_joined _ _ plain
fields_of_text plan Halt plain = fields_joined _ _ plain
fields_of_text plan (Expire b) plain = fields_joined _ _ plain
fields_of_text plan (Accept b s) plain = fields_joined _ _ plain
fields_of_text plan Shut plain = fields_joined _ _ plain

-- the text of the line `events N`
abbrev pub count_text : ℕ → List ℕ
count_text n = join_with_byte 32 (codes "events" ∷ decimal n ∷ [])

pub plain_count : (n : ℕ) → n < 2 ^ 64 → list_all (list_all is_plain) (codes "events" ∷ decimal n ∷ []) ≡ true
plain_count n few = and_from (list_all is_plain (decimal n)) true (plain_decimal n few) refl

module _ (plan : PlanView) (valid : IsPlan plan) where
  pub text_line : (e : Event) → IsSpoken plan e → is_line (text_of plan e) ≡ true
  text_line e spoken = joined_line (fields_of_event plan e) (plain_fields plan e valid spoken)

  pub read_text : (e : Event) → IsSpoken plan e → fields_of (text_of plan e) ≡ fields_of_event plan e
  read_text e spoken = fields_of_text plan e (plain_fields plan e valid spoken)

  -- what follows an event's line
  pub line_and_rest : (e : Event) (x : List ℕ) → event_line plan e ++ x ≡ text_of plan e ++ 10 ∷ x
  line_and_rest e x = ap (λ l. l ++ x) (line_of_text plan e) ∙ append_assoc (text_of plan e) (10 ∷ []) x

  pub count_and_rest : (n : ℕ) (x : List ℕ) → count_line n ++ x ≡ count_text n ++ 10 ∷ x
  count_and_rest n x = append_assoc (count_text n) (10 ∷ []) x

  one_event : (e f : Event) → IsSpoken plan e → IsSpoken plan f → text_of plan e ≡ text_of plan f → e ≡ f
  one_event e f one other same =
      let look = run_named plan in
      let known = (named_look plan valid).known in
      let fields : fields_of_event plan e ≡ fields_of_event plan f = sym (read_text e one) ∙ ap fields_of same ∙ read_text f other in
      let equal : Some e ≡ Some f = sym (spells plan look known e one) ∙ ap (event_in look) fields ∙ spells plan look known f other in
      cc

  -- one line of an event is one event's
  same_line : (e f : Event) (x y : List ℕ) → IsSpoken plan e → IsSpoken plan f → event_line plan e ++ x ≡ event_line plan f ++ y → (e ≡ f) × (x ≡ y)
  same_line e f x y one other same =
      let cut = cut_one_way (text_of plan e) (text_of plan f) x y (text_line e one) (text_line f other) (sym (line_and_rest e x) ∙ same ∙ line_and_rest f y) in
      (one_event e f one other cut.0, cut.1)

  -- the line `events N` is no event's
  no_event_counts : (e : Event) (n : ℕ) (x y : List ℕ) → IsSpoken plan e → n < 2 ^ 64 → count_line n ++ x ≡ event_line plan e ++ y → ⊥
  no_event_counts e n x y spoken few same =
      let look = run_named plan in
      let known = (named_look plan valid).known in
      let cut = cut_one_way (count_text n) (text_of plan e) x y (joined_line (codes "events" ∷ decimal n ∷ []) (plain_count n few)) (text_line e spoken) (sym (count_and_rest n x) ∙ same ∙ line_and_rest e y) in
      let fields : (codes "events" ∷ decimal n ∷ []) ≡ fields_of_event plan e = sym (fields_joined (codes "events") (decimal n ∷ []) (plain_count n few)) ∙ ap fields_of cut.0 ∙ read_text e spoken in
      let equal : event_in look (codes "events" ∷ decimal n ∷ []) ≡ Some e = ap (event_in look) fields ∙ spells plan look known e spoken in
      let none : None ≡ Some e = equal in
      cc

  later : (e : Event) (h : List Event) → AreSpoken plan (e ∷ h) → AreSpoken plan h
  later e h spoken = λ i f at. spoken (suc i) f at

  first : (e : Event) (h : List Event) → AreSpoken plan (e ∷ h) → IsSpoken plan e
  first e h spoken = spoken zero e refl

  front : (e : Event) (h : List Event) (x : List ℕ) → flat_map (event_line plan) (e ∷ h) ++ x ≡ event_line plan e ++ (flat_map (event_line plan) h ++ x)
  front e h x = append_assoc (event_line plan e) (flat_map (event_line plan) h) x

  -- two journals of one text
  one_journal : (h k : List Event) (a b : ℕ) (x y : List ℕ) → AreSpoken plan h → AreSpoken plan k → a < 2 ^ 64 → b < 2 ^ 64
      → flat_map (event_line plan) h ++ (count_line a ++ x) ≡ flat_map (event_line plan) k ++ (count_line b ++ y) → h ≡ k
  one_journal [] [] a b x y p q m n same = refl
  one_journal [] (f ∷ k) a b x y p q m n same =
      absurd (no_event_counts f a x (flat_map (event_line plan) k ++ (count_line b ++ y)) (first f k q) m (same ∙ front f k (count_line b ++ y)))
  one_journal (e ∷ h) [] a b x y p q m n same =
      absurd (no_event_counts e b y (flat_map (event_line plan) h ++ (count_line a ++ x)) (first e h p) n (sym same ∙ front e h (count_line a ++ x)))
  one_journal (e ∷ h) (f ∷ k) a b x y p q m n same =
      let heads = same_line e f _ _ (first e h p) (first f k q) (sym (front e h (count_line a ++ x)) ∙ same ∙ front f k (count_line b ++ y)) in
      ap (λ g. g ∷ h) heads.0 ∙ ap (λ l. f ∷ l) (one_journal h k a b x y (later e h p) (later f k q) m n heads.1)

  -- a journal has no line at fault
  no_fault : (most : ℕ) → most < 2 ^ 64 → (done : ℕ) (h k : List Event) (n : ℕ) (x rest : List ℕ) → AreSpoken plan h → AreSpoken plan k → n ≡ done + length h → n ≤ most
      → ((e : Event) → IsSpoken plan e → BeginsWith rest (event_line plan e) → done + length k ≡ most)
      → (BeginsWith rest (count_line (done + length k)) → ⊥)
      → flat_map (event_line plan) h ++ (count_line n ++ x) ≡ flat_map (event_line plan) k ++ rest → ⊥
  no_fault most small done [] [] n x rest p q long few event count same =
      let is : n ≡ done + 0 = omega arith in
      count (record { rest = x; whole = sym same ∙ ap (λ m. count_line m ++ x) is })
  no_fault most small done [] (f ∷ k) n x rest p q long few event count same =
      no_event_counts f n x (flat_map (event_line plan) k ++ rest) (first f k q) (omega arith) (same ∙ front f k rest)
  no_fault most small done (e ∷ h) [] n x rest p q long few event count same =
      let full = event e (first e h p) (record { rest = flat_map (event_line plan) h ++ (count_line n ++ x); whole = sym same ∙ front e h (count_line n ++ x) }) in
      omega arith
  no_fault most small done (e ∷ h) (f ∷ k) n x rest p q long few event count same =
      let heads = same_line e f _ _ (first e h p) (first f k q) (sym (front e h (count_line n ++ x)) ∙ same ∙ front f k rest) in
      let more : (done + 1) + length k ≡ done + length (f ∷ k) = omega arith in
      no_fault most small (done + 1) h k n x rest (later e h p) (later f k q) (omega arith) few
      (λ g spoken begins. more ∙ event g spoken begins)
      (λ begins. count (subst (λ m. BeginsWith rest (count_line m)) more begins))
      heads.1

  -- two lines at fault are one
  one_fault : (most : ℕ) → most < 2 ^ 64 → (done : ℕ) (h k : List Event) (x y : List ℕ) → AreSpoken plan h → AreSpoken plan k → done + length h ≤ most → done + length k ≤ most
      → ((e : Event) → IsSpoken plan e → BeginsWith x (event_line plan e) → done + length h ≡ most)
      → ((e : Event) → IsSpoken plan e → BeginsWith y (event_line plan e) → done + length k ≡ most)
      → flat_map (event_line plan) h ++ x ≡ flat_map (event_line plan) k ++ y → (length h ≡ length k) × (x ≡ y)
  one_fault most small done [] [] x y p q few short one other same = (refl, same)
  one_fault most small done [] (f ∷ k) x y p q few short one other same =
      let full = one f (first f k q) (record { rest = flat_map (event_line plan) k ++ y; whole = same ∙ front f k y }) in
      absurd (omega arith)
  one_fault most small done (e ∷ h) [] x y p q few short one other same =
      let full = other e (first e h p) (record { rest = flat_map (event_line plan) h ++ x; whole = sym same ∙ front e h x }) in
      absurd (omega arith)
  one_fault most small done (e ∷ h) (f ∷ k) x y p q few short one other same =
      let heads = same_line e f _ _ (first e h p) (first f k q) (sym (front e h x) ∙ same ∙ front f k y) in
      let more_h : (done + 1) + length h ≡ done + length (e ∷ h) = omega arith in
      let more_k : (done + 1) + length k ≡ done + length (f ∷ k) = omega arith in
      let rest = one_fault most small (done + 1) h k x y (later e h p) (later f k q) (omega arith) (omega arith)
      (λ g spoken begins. more_h ∙ one g spoken begins) (λ g spoken begins. more_k ∙ other g spoken begins) heads.1 in
      (ap suc rest.0, rest.1)

  -- the text of a journal, with what follows it
  whole : (most : ℕ) (text : List ℕ) (h : List Event) (journal : IsJournal most plan text h) → text ≡ flat_map (event_line plan) h ++ (count_line (length h) ++ journal.begins.rest)
  unfolding journal_text
  whole most text h journal = journal.begins.whole ∙ append_assoc (flat_map (event_line plan) h) (count_line (length h)) journal.begins.rest

  pub journals_agree : (most : ℕ) → most < 2 ^ 64 → (text : List ℕ) (h k : List Event) → IsJournal most plan text h → IsJournal most plan text k → h ≡ k
  journals_agree most small text h k one other =
      let few = one.few in
      let short = other.few in
      one_journal h k (length h) (length k) one.begins.rest other.begins.rest one.spoken other.spoken (omega arith) (omega arith) (sym (whole most text h one) ∙ whole most text k other)

  pub journals_stand : (most : ℕ) → most < 2 ^ 64 → (text : List ℕ) (h : List Event) (line : ℕ) → IsJournal most plan text h → IsRefusedAt most plan text line → ⊥
  journals_stand most small text h line journal refused =
      let e : 0 + length refused.events ≡ length refused.events = omega arith in
      no_fault most small 0 h refused.events (length h) journal.begins.rest refused.rest journal.spoken refused.spoken (omega arith) journal.few
      (λ f spoken begins. e ∙ refused.no_event f spoken begins)
      (λ begins. refused.no_count (subst (λ m. BeginsWith refused.rest (count_line m)) e begins))
      (sym (whole most text h journal) ∙ refused.front)

  -- two faults of a text are one, and what is left of the text there is the same
  pub one_place : (most : ℕ) → most < 2 ^ 64 → (text : List ℕ) (a b : ℕ) (one : IsRefusedAt most plan text a) (other : IsRefusedAt most plan text b) → (a ≡ b) × (one.rest ≡ other.rest)
  one_place most small text a b one other =
      let e : 0 + length one.events ≡ length one.events = omega arith in
      let f : 0 + length other.events ≡ length other.events = omega arith in
      let few = one.few in
      let short = other.few in
      let is = one.line_is in
      let at = other.line_is in
      let same = one_fault most small 0 one.events other.events one.rest other.rest one.spoken other.spoken (omega arith) (omega arith)
      (λ g spoken begins. e ∙ one.no_event g spoken begins) (λ g spoken begins. f ∙ other.no_event g spoken begins) (sym one.front ∙ other.front) in
      (omega (arith, same.0), same.1)

  pub faults_agree : (most : ℕ) → most < 2 ^ 64 → (text : List ℕ) (a b : ℕ) → IsRefusedAt most plan text a → IsRefusedAt most plan text b → a ≡ b
  faults_agree most small text a b one other = (one_place most small text a b one other).0

-- What each step of a turn keeps of one feed.
use Rattle.std.proofs.Common.{◌≡◌, ◌+◌, ◌∙◌, ◌++◌, ◌||◌, ◌&&◌, ◌==◌, ◌⊎◌, ℕ, Bool, true, false, List, [], ◌∷◌, None, if◌then◌else◌, length, ap, sym, subst, refl, arith, append-nil, append_assoc, eq-eqb, ⊎_elim, inl, inr}
use Rattle.std.specs.Prelude.{Contains}
use Rattle.std.specs.List.{list_any}
use Rattle.std.proofs.lemmas.Bool.{both_ways, eqb-true, or_parts, or_right}
use Rattle.std.proofs.lemmas.Grind.{flat_map-append}
use Rattle.std.proofs.lemmas.List.{get_or-append-add, length-append}
use Rattle.std.proofs.lemmas.List.Elements.{Contains-push_cases}
use Rattle.gcd_plan.specs.PlanView.{PlanView}
use Rattle.gcd_event.specs.declared.event.Event.{Event}
use Rattle.gcd_event.specs.declared.event.Event.TheVariants.{Ready, FeedEnd}
use Rattle.gcd_history.specs.History.{is_active, why}
use Rattle.gcd_outer.specs.Tells.{PollerState, has_end, is_end_told, is_named, tell_bytes, told_in, told_of}
use Rattle.gcd_outer.proofs.ToldLemmas.{unnamed_tells_nothing, unnamed_told_nothing}
use Rattle.gcd_outer.specs.declared.tell.Tell.{Tell}
use Rattle.gcd_turn.specs.Hearing.{FeedHeard, MayEnd}
use Rattle.gcd_turn.specs.Promises.{Begins, FeedEnds, WasSilent, readies_of, ready_by}
use Rattle.gcd_turn.specs.Promises.FeedEnds.{told, silent}
use Rattle.gcd_turn.proofs.HistoryMore.{active_more, ended_is_cancelled, ended_may_not_end, live_facts, may_end_at_feed_end, may_end_at_ready, may_end_before}

-- ## Fronts

pub begins_more : (numbers front more : List ℕ) → Begins numbers front → Begins (numbers ++ more) front
begins_more numbers front more begins =
    record { rest = begins.rest ++ more; split = ap (λ (ns : List ℕ). ns ++ more) begins.split ∙ append_assoc front begins.rest more }

pub begins_through : (numbers middle front : List ℕ) → Begins numbers middle → Begins middle front → Begins numbers front
begins_through numbers middle front outer inner =
    record { rest = inner.rest ++ outer.rest; split = outer.split ∙ ap (λ (ns : List ℕ). ns ++ outer.rest) inner.split ∙ append_assoc front inner.rest outer.rest }

-- ## Readys

pub readies_more : (s : ℕ) (placed : List Event) (e : Event) → readies_of s (placed ++ e ∷ []) ≡ readies_of s placed ++ ready_by s e
readies_more s placed e = flat_map-append (ready_by s) placed (e ∷ []) ∙ ap (λ (ns : List ℕ). readies_of s placed ++ ns) (append-nil (ready_by s e))

pub silent_more : (before now : PollerState) (A : List (List Tell)) (had more : List ℕ) (s : ℕ) → WasSilent before now A had s → WasSilent before now A (had ++ more) s
silent_more before now A had more s was = record {
  earlier = was.earlier;
  quiet = was.quiet;
  later = was.later;
  split = was.split;
  watched = was.watched;
  long = was.long;
  empty = was.empty;
  had_all = begins_more had (told_of s was.earlier) more was.had_all;
}

-- ## The first of the news

-- of feed s the news says the same
pub record SameFor (s : ℕ) (news later : List Tell) : Type 0 where
  pub told : told_in s later ≡ told_in s news
  pub ends : has_end s later ≡ has_end s news
  pub named : is_named s news ≡ false → is_named s later ≡ false

pub same_news : (s : ℕ) (news : List Tell) → SameFor s news news
same_news s news = record { told = refl; ends = refl; named = λ h. h }

-- what is said first of another feed says nothing of s
pub same_for_others : (s : ℕ) (t : Tell) (rest : List Tell) → (t.feed == s) ≡ false → SameFor s (t ∷ rest) rest
same_for_others s t rest other = record {
  told = sym (ap (λ (b : Bool). if b then tell_bytes t ++ (if t.ended then [] else told_in s rest) else told_in s rest) other);
  ends = sym (ap (λ (b : Bool). (b && t.ended) || has_end s rest) other);
  named = λ h. sym (ap (λ (b : Bool). b || is_named s rest) other) ∙ h;
}

-- ## An event that says nothing of the feed

pub more_at : (stood placed : List Event) (e : Event) → stood ++ (placed ++ e ∷ []) ≡ (stood ++ placed) ++ e ∷ []
more_at stood placed e = sym (append_assoc stood placed (e ∷ []))

unnamed_later : (news later : List Tell) (A : List (List Tell)) (s : ℕ) → (is_named s news ≡ false → is_named s later ≡ false)
    → list_any (is_named s) (news ∷ A) ≡ false → list_any (is_named s) (later ∷ A) ≡ false
unnamed_later news later A s named h =
    let parts = or_parts (is_named s news) (list_any (is_named s) A) h in
    ap (λ (b : Bool). b || list_any (is_named s) A) (named parts.0) ∙ parts.1

-- what was told is recorded or news, where a FeedEnd might come if the source is active
whole_after : (plan : PlanView) (stood placed : List Event) (before now : PollerState) (A : List (List Tell)) (news later : List Tell) (s : ℕ)
    → SameFor s news later → FeedHeard plan stood placed before now A news s
    → (is_active plan (stood ++ placed) s ≡ true → MayEnd plan (stood ++ placed) s)
    → told_of s A ≡ readies_of s placed ++ told_in s later
whole_after plan stood placed before now A news later s same f may =
    elim (now.watched s) as (λ v. now.watched s ≡ v → told_of s A ≡ readies_of s placed ++ told_in s later) [
      | true ↦ λ w. f.whole (may (f.active w)) ∙ ap (λ (ns : List ℕ). readies_of s placed ++ ns) (sym same.told)
      | false ↦ λ w.
          let named = or_parts (is_named s news) (list_any (is_named s) A) (f.unnamed w) in
          (unnamed_told_nothing s A named.1).0
          ∙ sym (ap (λ (ns : List ℕ). ns ++ told_in s later) (f.unread w) ∙ (unnamed_tells_nothing s later (same.named named.0)).0)
    ] refl

unended_after : (plan : PlanView) (stood placed : List Event) (before now : PollerState) (A : List (List Tell)) (news : List Tell) (s : ℕ)
    → FeedHeard plan stood placed before now A news s
    → (is_active plan (stood ++ placed) s ≡ true → MayEnd plan (stood ++ placed) s)
    → is_end_told s A ≡ true → has_end s news ≡ true
unended_after plan stood placed before now A news s f may ended =
    elim (now.watched s) as (λ v. now.watched s ≡ v → has_end s news ≡ true) [
      | true ↦ λ w. f.unended (may (f.active w)) ended
      | false ↦ λ w.
          let named = or_parts (is_named s news) (list_any (is_named s) A) (f.unnamed w) in
          absurd (both_ways _ (unnamed_told_nothing s A named.1).1 ended)
    ] refl

-- a FeedEnd that stands where the last event is none stood before
earlier_end : (placed : List Event) (e x : Event) → (e ≡ x → ⊥) → Contains (placed ++ e ∷ []) x → Contains placed x
earlier_end placed e x other stands =
    ⊎_elim (λ (c : Contains placed x). c) (λ (same : e ≡ x). absurd (other same)) (Contains-push_cases placed e x stands)

pub feed_other : (plan : PlanView) (stood placed : List Event) (e : Event) (before now : PollerState) (A : List (List Tell)) (news later : List Tell) (s : ℕ)
    → ready_by s e ≡ [] → (e ≡ FeedEnd (record { 0 = s }) → ⊥) → why plan (stood ++ placed) e ≡ None → SameFor s news later
    → FeedHeard plan stood placed before now A news s → FeedHeard plan stood (placed ++ e ∷ []) before now A later s
feed_other plan stood placed e before now A news later s quiet other permitted same f =
    let h : List Event = stood ++ placed in
    let more : stood ++ (placed ++ e ∷ []) ≡ h ++ e ∷ [] = more_at stood placed e in
    let had : List ℕ = readies_of s placed in
    let readies : readies_of s (placed ++ e ∷ []) ≡ had = readies_more s placed e ∙ ap (λ (ns : List ℕ). had ++ ns) quiet ∙ append-nil had in
    let back : MayEnd plan (stood ++ (placed ++ e ∷ [])) s → is_active plan h s ≡ true → MayEnd plan h s =
    λ may active. may_end_before plan h e s permitted active (subst (λ (k : List Event). MayEnd plan k s) more may) in
    record {
      active = λ w. subst (λ (k : List Event). is_active plan k s ≡ true) (sym more) (active_more plan h e s (f.active w));
      since = f.since;
      unnamed = λ w. unnamed_later news later A s same.named (f.unnamed w);
      unread = λ w. readies ∙ f.unread w;
      front = subst (λ (ns : List ℕ). Begins (told_of s A) ns) (sym readies) f.front;
      whole = λ may.
          whole_after plan stood placed before now A news later s same f (back may)
          ∙ ap (λ (ns : List ℕ). ns ++ told_in s later) (sym readies);
      unended = λ may ended. same.ends ∙ unended_after plan stood placed before now A news s f (back may) ended;
      due = λ ends.
          subst (λ (ns : List ℕ). (is_end_told s A ≡ true) ⊎ WasSilent before now A ns s) (sym readies) (f.due (sym same.ends ∙ ends));
      ends = λ stands.
          subst (λ (ns : List ℕ). FeedEnds before now A ns s) (sym readies)
          (f.ends (earlier_end placed e (FeedEnd (record { 0 = s })) other stands));
    }

-- ## The feed's own news

contains_behind : (stood placed : List Event) (x : Event) → Contains placed x → Contains (stood ++ placed) x
contains_behind stood placed x (k, within, at) =
    (length stood + k, omega (arith, length-append stood placed, within), get_or-append-add stood placed k x ∙ at)

-- where the feed is named in the news it is watched
named_first : (s : ℕ) (t : Tell) (rest : List Tell) (A : List (List Tell)) → (t.feed == s) ≡ true → list_any (is_named s) ((t ∷ rest) ∷ A) ≡ false → ⊥
named_first s t rest A named h =
    let outer = or_parts (is_named s (t ∷ rest)) (list_any (is_named s) A) h in
    let inner = or_parts (t.feed == s) (is_named s rest) outer.0 in
    both_ways _ inner.0 named

bytes_told : (s : ℕ) (t : Tell) (rest : List Tell) → (t.feed == s) ≡ true → t.ended ≡ false → (t.bytes == 0) ≡ false
    → told_in s (t ∷ rest) ≡ t.bytes ∷ told_in s rest
bytes_told s t rest named unended some = rw (named, some, unended) refl

bytes_end_nothing : (s : ℕ) (t : Tell) (rest : List Tell) → (t.feed == s) ≡ true → t.ended ≡ false → has_end s (t ∷ rest) ≡ has_end s rest
bytes_end_nothing s t rest named unended = rw (named, unended) refl

end_told : (s : ℕ) (t : Tell) (rest : List Tell) → (t.feed == s) ≡ true → t.ended ≡ true → (t.bytes == 0) ≡ true → told_in s (t ∷ rest) ≡ []
end_told s t rest named ended none = rw (named, none, ended) refl

end_has_end : (s : ℕ) (t : Tell) (rest : List Tell) → (t.feed == s) ≡ true → t.ended ≡ true → has_end s (t ∷ rest) ≡ true
end_has_end s t rest named ended = rw (named, ended) refl

-- a Ready of the first of the news
pub feed_ready : (plan : PlanView) (stood placed : List Event) (before now : PollerState) (A : List (List Tell)) (t : Tell) (rest : List Tell) (s : ℕ)
    → (t.feed == s) ≡ true → t.ended ≡ false → (t.bytes == 0) ≡ false → why plan (stood ++ placed) (Ready (record { 0 = s }) t.bytes) ≡ None
    → FeedHeard plan stood placed before now A (t ∷ rest) s → FeedHeard plan stood (placed ++ Ready (record { 0 = s }) t.bytes ∷ []) before now A rest s
feed_ready plan stood placed before now A t rest s named unended some permitted f =
    let e : Event = Ready (record { 0 = s }) t.bytes in
    let h : List Event = stood ++ placed in
    let more : stood ++ (placed ++ e ∷ []) ≡ h ++ e ∷ [] = more_at stood placed e in
    let had : List ℕ = readies_of s placed in
    let own : ready_by s e ≡ t.bytes ∷ [] = ap (λ (b : Bool). if b then t.bytes ∷ [] else []) (eq-eqb s s refl) in
    let readies : readies_of s (placed ++ e ∷ []) ≡ had ++ t.bytes ∷ [] = readies_more s placed e ∙ ap (λ (ns : List ℕ). had ++ ns) own in
    let may : MayEnd plan h s = may_end_at_ready plan h (record { 0 = s }) t.bytes permitted in
    let all : told_of s A ≡ readies_of s (placed ++ e ∷ []) ++ told_in s rest =
    f.whole may
    ∙ ap (λ (ns : List ℕ). had ++ ns) (bytes_told s t rest named unended some)
    ∙ sym (append_assoc had (t.bytes ∷ []) (told_in s rest))
    ∙ ap (λ (ns : List ℕ). ns ++ told_in s rest) (sym readies) in
    let same : has_end s (t ∷ rest) ≡ has_end s rest = bytes_end_nothing s t rest named unended in
    record {
      active = λ w. subst (λ (k : List Event). is_active plan k s ≡ true) (sym more) (active_more plan h e s (f.active w));
      since = f.since;
      unnamed = λ w. absurd (named_first s t rest A named (f.unnamed w));
      unread = λ w. absurd (named_first s t rest A named (f.unnamed w));
      front = record { rest = told_in s rest; split = all };
      whole = λ later. all;
      unended = λ later ended. sym same ∙ f.unended may ended;
      due = λ ends.
          ⊎_elim (λ (told : is_end_told s A ≡ true). inl told)
          (λ (was : WasSilent before now A had s).
          inr (subst (λ (ns : List ℕ). WasSilent before now A ns s) (sym readies) (silent_more before now A had (t.bytes ∷ []) s was)))
          (f.due (same ∙ ends));
      ends = λ stands.
          let before_it : Contains placed (FeedEnd (record { 0 = s })) = earlier_end placed e (FeedEnd (record { 0 = s })) (λ (x : e ≡ FeedEnd (record { 0 = s })). cc) stands in
          let cancelled = ended_is_cancelled plan h (record { 0 = s }) (contains_behind stood placed (FeedEnd (record { 0 = s })) before_it) in
          absurd (both_ways _ (live_facts plan h s may.live).uncancelled cancelled);
    }

-- a FeedEnd of the first of the news
pub feed_ended : (plan : PlanView) (stood placed : List Event) (before now : PollerState) (A : List (List Tell)) (t : Tell) (rest : List Tell) (s : ℕ)
    → (t.feed == s) ≡ true → t.ended ≡ true → (t.bytes == 0) ≡ true → why plan (stood ++ placed) (FeedEnd (record { 0 = s })) ≡ None
    → FeedHeard plan stood placed before now A (t ∷ rest) s → FeedHeard plan stood (placed ++ FeedEnd (record { 0 = s }) ∷ []) before now A rest s
feed_ended plan stood placed before now A t rest s named ended none permitted f =
    let e : Event = FeedEnd (record { 0 = s }) in
    let h : List Event = stood ++ placed in
    let more : stood ++ (placed ++ e ∷ []) ≡ h ++ e ∷ [] = more_at stood placed e in
    let had : List ℕ = readies_of s placed in
    let readies : readies_of s (placed ++ e ∷ []) ≡ had = readies_more s placed e ∙ append-nil had in
    let may : MayEnd plan h s = may_end_at_feed_end plan h (record { 0 = s }) permitted in
    let over : MayEnd plan (stood ++ (placed ++ e ∷ [])) s → ⊥ =
    λ later. ended_may_not_end plan h (record { 0 = s }) (subst (λ (k : List Event). MayEnd plan k s) more later) in
    let cause : (is_end_told s A ≡ true) ⊎ WasSilent before now A had s = f.due (end_has_end s t rest named ended) in
    record {
      active = λ w. subst (λ (k : List Event). is_active plan k s ≡ true) (sym more) (active_more plan h e s (f.active w));
      since = f.since;
      unnamed = λ w. absurd (named_first s t rest A named (f.unnamed w));
      unread = λ w. absurd (named_first s t rest A named (f.unnamed w));
      front = subst (λ (ns : List ℕ). Begins (told_of s A) ns) (sym readies) f.front;
      whole = λ later. absurd (over later);
      unended = λ later was. absurd (over later);
      due = λ ends. subst (λ (ns : List ℕ). (is_end_told s A ≡ true) ⊎ WasSilent before now A ns s) (sym readies) cause;
      ends = λ stands.
          subst (λ (ns : List ℕ). FeedEnds before now A ns s) (sym readies)
          (⊎_elim
          (λ (was : is_end_told s A ≡ true).
          told was (f.whole may ∙ ap (λ (ns : List ℕ). had ++ ns) (end_told s t rest named ended none) ∙ append-nil had))
          (λ (was : WasSilent before now A had s). silent was) cause);
    }

-- ## The first of the news is dropped

-- it is of this feed, and may not be recorded
feed_barred : (plan : PlanView) (stood placed : List Event) (before now : PollerState) (A : List (List Tell)) (t : Tell) (rest : List Tell) (s : ℕ)
    → (t.feed == s) ≡ true → (MayEnd plan (stood ++ placed) s → ⊥)
    → FeedHeard plan stood placed before now A (t ∷ rest) s → FeedHeard plan stood placed before now A rest s
feed_barred plan stood placed before now A t rest s named barred f = record {
  active = f.active;
  since = f.since;
  unnamed = λ w. absurd (named_first s t rest A named (f.unnamed w));
  unread = f.unread;
  front = f.front;
  whole = λ may. absurd (barred may);
  unended = λ may ended. absurd (barred may);
  due = λ ends. f.due (or_right (t.feed == s && t.ended) (has_end s rest) ends);
  ends = f.ends;
}

-- it is of another
feed_passed : (plan : PlanView) (stood placed : List Event) (before now : PollerState) (A : List (List Tell)) (news later : List Tell) (s : ℕ)
    → SameFor s news later → FeedHeard plan stood placed before now A news s → FeedHeard plan stood placed before now A later s
feed_passed plan stood placed before now A news later s same f = record {
  active = f.active;
  since = f.since;
  unnamed = λ w. unnamed_later news later A s same.named (f.unnamed w);
  unread = f.unread;
  front = f.front;
  whole = λ may. f.whole may ∙ ap (λ (ns : List ℕ). readies_of s placed ++ ns) (sym same.told);
  unended = λ may ended. same.ends ∙ f.unended may ended;
  due = λ ends. f.due (sym same.ends ∙ ends);
  ends = f.ends;
}

pub feed_dropped : (plan : PlanView) (stood placed : List Event) (before now : PollerState) (A : List (List Tell)) (t : Tell) (rest : List Tell) (s : ℕ)
    → (MayEnd plan (stood ++ placed) t.feed → ⊥)
    → FeedHeard plan stood placed before now A (t ∷ rest) s → FeedHeard plan stood placed before now A rest s
feed_dropped plan stood placed before now A t rest s barred f =
    elim (t.feed == s) as (λ v. (t.feed == s) ≡ v → FeedHeard plan stood placed before now A rest s) [
      | true ↦ λ named.
          feed_barred plan stood placed before now A t rest s named
          (λ (may : MayEnd plan (stood ++ placed) s). barred (subst (λ (k : ℕ). MayEnd plan (stood ++ placed) k) (sym (eqb-true t.feed s named)) may)) f
      | false ↦ λ other. feed_passed plan stood placed before now A (t ∷ rest) rest s (same_for_others s t rest other) f
    ] refl

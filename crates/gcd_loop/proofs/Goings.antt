-- What each step of a turn keeps of what poller and clock said.
use Rattle.std.proofs.Common.{◌≡◌, ◌≤◌, ◌<◌, ◌+◌, ◌∙◌, ◌++◌, ◌⊎◌, inl, inr, ℕ, Bool, true, false, List, [], ◌∷◌, Some, None, length, ap, sym, subst, refl, arith, append-nil, append_assoc, length-append, drop}
use Rattle.std.specs.List.{list_all}
use Rattle.std.proofs.lemmas.Bool.{and_parts, both_ways}
use Rattle.std.proofs.lemmas.List.{length_push}
use Rattle.gcd_plan.specs.PlanView.{PlanView}
use Rattle.gcd_plan.specs.declared.numbers.Blk.{Blk}
use Rattle.gcd_event.specs.declared.event.Event.{Event}
use Rattle.gcd_event.specs.declared.event.Event.TheVariants.{Tick, Halt, Expire}
use Rattle.gcd_history.specs.Choice.{is_work}
use Rattle.gcd_history.specs.Ends.{is_halted}
use Rattle.gcd_history.specs.History.{why, IsLawful}
use Rattle.gcd_history.proofs.Permitted.Lawful.{lawful_front, lawful_next}
use Rattle.gcd_machine.specs.declared.put.Put.{Put}
use Rattle.gcd_machine.specs.declared.put.Put.TheVariants.{Placed, Barred, Held, Full}
use Rattle.gcd_outer.specs.Outside.{ClockState}
use Rattle.gcd_outer.specs.Tells.{PollerState}
use Rattle.gcd_turn.specs.Asked.{HasFailed, KeepsListens}
use Rattle.gcd_turn.specs.Hearing.{Heard}
use Rattle.gcd_turn.specs.Timing.{TimeKept}
use Rattle.gcd_turn.specs.Turns.{OutlookView, first_event}
use Rattle.gcd_turn.proofs.FeedSteps.{more_at}
use Rattle.gcd_turn.proofs.HeardSteps.{heard_barred, heard_grown, heard_told, is_told}
use Rattle.gcd_turn.proofs.Promised.{faults_halted, faults_more, faults_same}
use Rattle.gcd_turn.proofs.TimeSteps.{time_more}
use Rattle.gcd_loop.specs.Going.{IsGoing}
use Rattle.gcd_loop.specs.Recorded.{Grows, IsAdmitted, IsPlaced, Says, after_put}
use Rattle.gcd_loop.proofs.Events.{called_is_plain, first_is_told, halt_barred, refused, tick_time, untold}

pub keeps_same : (tells : Bool) (p : PollerState) → KeepsListens tells p p
keeps_same tells p = record { faults = omega arith; listens = λ told. refl; addresses = λ told. refl }

pub keeps_through : (tells : Bool) (a b c : PollerState) → KeepsListens tells a b → KeepsListens tells b c → KeepsListens tells a c
keeps_through tells a b c first second = record {
  faults = let low = first.faults in let high = second.faults in omega (arith, low, high);
  listens = λ told. second.listens told ∙ first.listens told;
  addresses = λ told. second.addresses told ∙ first.addresses told;
}

module _ (most : ℕ) (pt ct : Bool) (plan : PlanView) (stood : List Event) (before : PollerState) (early : ClockState) where
  -- what a call of the outlook at the history h does
  pub record Listens (h : List Event) (p q : PollerState) (c d : ClockState) (o u : OutlookView) : Type 0 where
    pub heard : (placed : List Event) → h ≡ stood ++ placed → pt ≡ true → Heard plan stood placed before p o → Heard plan stood placed before q u
    pub timely : (placed : List Event) → h ≡ stood ++ placed → TimeKept ct plan stood placed early c o.start → TimeKept ct plan stood placed early d u.start
    pub kept : KeepsListens pt p q

  -- what poller and clock said stands in what was placed, but for faults
  record IsTold (placed : List Event) (p : PollerState) (c : ClockState) (o : OutlookView) : Type 0 where
    heard : pt ≡ true → Heard plan stood placed before p o
    timely : TimeKept ct plan stood placed early c o.start

  told_in : (p : PollerState) (c : ClockState) (h : List Event) (o : OutlookView) → (g : IsGoing most pt ct plan stood before early p c h o) → IsTold g.placed p c o
  told_in p c h o g = record { heard = g.heard; timely = g.timely }

  told_then : (h placed : List Event) (p q : PollerState) (c d : ClockState) (o u : OutlookView) → Listens h p q c d o u → h ≡ stood ++ placed → IsTold placed p c o → IsTold placed q d u
  told_then h placed p q c d o u l split t = record {
    heard = λ tells. l.heard placed split tells (t.heard tells);
    timely = l.timely placed split t.timely;
  }

  -- one event more that nobody told, and no Tick ahead of the clock
  told_one : (placed : List Event) (p : PollerState) (c : ClockState) (o : OutlookView) (e : Event) → why plan (stood ++ placed) e ≡ None → is_told e ≡ false → ((t : ℕ) → e ≡ Tick t → o.start + t ≤ c.present)
      → IsTold placed p c o → IsTold (placed ++ e ∷ []) p c o
  told_one placed p c o e permitted untold tick t = record {
    heard = λ tells. heard_grown plan stood placed e before p o untold permitted (t.heard tells);
    timely = time_more ct plan stood placed e early c o.start tick t.timely;
  }

  -- events of workers
  told_grown : (p : PollerState) (c : ClockState) (o : OutlookView) (rest placed : List Event) → IsLawful plan (stood ++ (placed ++ rest)) → list_all is_work rest ≡ true → IsTold placed p c o → IsTold (placed ++ rest) p c o
  told_grown p c o [] placed lawful work t = subst (λ (l : List Event). IsTold l p c o) (sym (append-nil placed)) t
  told_grown p c o (e ∷ rest) placed lawful work t =
      let parts = and_parts (is_work e) (list_all is_work rest) work in
      let one : (placed ++ e ∷ []) ++ rest ≡ placed ++ e ∷ rest = append_assoc placed (e ∷ []) rest in
      let at : (stood ++ placed) ++ e ∷ rest ≡ stood ++ (placed ++ e ∷ rest) = append_assoc stood placed (e ∷ rest) in
      subst (λ (l : List Event). IsTold l p c o) one
      (told_grown p c o rest (placed ++ e ∷ []) (subst (λ (l : List Event). IsLawful plan (stood ++ l)) (sym one) lawful) parts.1
      (told_one placed p c o e (lawful_next plan (stood ++ placed) e rest (subst (IsLawful plan) (sym at) lawful)) (untold e parts.0)
      (λ x (tick : e ≡ Tick x). absurd (both_ways (is_work e) (ap is_work tick) parts.0)) t))

  -- ## Where the poller did not fail

  pub going_on : (p q : PollerState) (c d : ClockState) (h : List Event) (o u : OutlookView) → Listens h p q c d o u → q.faults ≡ p.faults
      → IsGoing most pt ct plan stood before early p c h o → IsGoing most pt ct plan stood before early q d h u
  going_on p q c d h o u l same g =
      let t = told_then h g.placed p q c d o u l g.split (told_in p c h o g) in
      record {
        placed = g.placed;
        split = g.split;
        heard = t.heard;
        timely = t.timely;
        faults = faults_same most stood g.placed before p q same g.faults;
        kept = keeps_through pt before p q g.kept l.kept;
      }

  -- an event was placed that is no Halt
  going_one : (p : PollerState) (c : ClockState) (h : List Event) (o u : OutlookView) (e : Event) → (g : IsGoing most pt ct plan stood before early p c h o)
      → why plan h e ≡ None → length h < most → (e ≡ Halt → ⊥) → IsTold (g.placed ++ e ∷ []) p c u
      → IsGoing most pt ct plan stood before early p c (h ++ e ∷ []) u
  going_one p c h o u e g permitted room other t = record {
    placed = g.placed ++ e ∷ [];
    split = ap (λ (l : List Event). l ++ e ∷ []) g.split ∙ sym (more_at stood g.placed e);
    heard = t.heard;
    timely = t.timely;
    faults = faults_more most plan stood g.placed e before p (subst (λ (l : List Event). why plan l e ≡ None) g.split permitted)
        (subst (λ (l : List Event). length l < most) g.split room) other g.faults;
    kept = g.kept;
  }

  going_work : (p : PollerState) (c : ClockState) (h : List Event) (o : OutlookView) (e : Event) → why plan h e ≡ None → length h < most → is_work e ≡ true
      → IsGoing most pt ct plan stood before early p c h o → IsGoing most pt ct plan stood before early p c (h ++ e ∷ []) o
  going_work p c h o e permitted room work g =
      going_one p c h o o e g permitted room (λ (halt : e ≡ Halt). both_ways (is_work e) (ap is_work halt) work)
      (told_one g.placed p c o e (subst (λ (l : List Event). why plan l e ≡ None) g.split permitted) (untold e work)
      (λ t (tick : e ≡ Tick t). absurd (both_ways (is_work e) (ap is_work tick) work)) (told_in p c h o g))

  grown : (p : PollerState) (c : ClockState) (o : OutlookView) (rest h : List Event) → IsLawful plan (h ++ rest) → length (h ++ rest) ≤ most → list_all is_work rest ≡ true
      → IsGoing most pt ct plan stood before early p c h o → IsGoing most pt ct plan stood before early p c (h ++ rest) o
  grown p c o [] h lawful few work g = subst (λ (l : List Event). IsGoing most pt ct plan stood before early p c l o) (sym (append-nil h)) g
  grown p c o (e ∷ rest) h lawful few work g =
      let parts = and_parts (is_work e) (list_all is_work rest) work in
      let one : (h ++ e ∷ []) ++ rest ≡ h ++ e ∷ rest = append_assoc h (e ∷ []) rest in
      subst (λ (l : List Event). IsGoing most pt ct plan stood before early p c l o) one
      (grown p c o rest (h ++ e ∷ []) (subst (IsLawful plan) (sym one) lawful) (subst (λ (l : List Event). length l ≤ most) (sym one) few) parts.1
      (going_work p c h o e (lawful_next plan h e rest lawful) (omega (arith, few, length-append h (e ∷ rest))) parts.0 g))

  -- workers' events
  pub going_grown : (p : PollerState) (c : ClockState) (h k : List Event) (o : OutlookView) → IsLawful plan k → length k ≤ most → Grows h k
      → IsGoing most pt ct plan stood before early p c h o → IsGoing most pt ct plan stood before early p c k o
  going_grown p c h k o lawful few g going =
      subst (λ (l : List Event). IsGoing most pt ct plan stood before early p c l o) (sym g.split)
      (grown p c o g.rest h (subst (IsLawful plan) g.split lawful) (subst (λ (l : List Event). length l ≤ most) g.split few) g.work going)

  -- ## What was put

  module _ (h k : List Event) (lawful : IsLawful plan k) (few : length k ≤ most) (e : Event) (n : ℕ) (pl : IsPlaced n e h k) where
    front_lawful : IsLawful plan pl.front
    front_lawful = lawful_front plan pl.front (e ∷ []) (subst (IsLawful plan) pl.is lawful)

    front_room : length pl.front < most
    front_room = omega (arith, ap length pl.is ∙ length_push pl.front e, few)

    front_may : why plan pl.front e ≡ None
    front_may = lawful_next plan pl.front e [] (subst (IsLawful plan) pl.is lawful)

    front_few : length pl.front ≤ most
    front_few = let room = front_room in omega (arith, room)

    -- nobody told it, and it is no Halt
    placed_untold : (p : PollerState) (c : ClockState) (o : OutlookView) → (e ≡ Halt → ⊥) → is_told e ≡ false → ((t : ℕ) → e ≡ Tick t → o.start + t ≤ c.present)
        → IsGoing most pt ct plan stood before early p c h o → IsGoing most pt ct plan stood before early p c k o
    placed_untold p c o other told tick going =
        let g = going_grown p c h pl.front o front_lawful front_few pl.grown going in
        subst (λ (l : List Event). IsGoing most pt ct plan stood before early p c l o) (sym pl.is)
        (going_one p c pl.front o o e g front_may front_room other
        (told_one g.placed p c o e (subst (λ (l : List Event). why plan l e ≡ None) g.split front_may) told tick (told_in p c pl.front o g)))

    -- it is the first of the news
    placed_told : (p : PollerState) (c : ClockState) (o : OutlookView) → first_event o.news ≡ Some e
        → IsGoing most pt ct plan stood before early p c h o → IsGoing most pt ct plan stood before early p c k (record o { news = drop 1 o.news })
    placed_told p c o first going =
        let g = going_grown p c h pl.front o front_lawful front_few pl.grown going in
        let told = first_is_told o.news e first in
        subst (λ (l : List Event). IsGoing most pt ct plan stood before early p c l (record o { news = drop 1 o.news })) (sym pl.is)
        (going_one p c pl.front o (record o { news = drop 1 o.news }) e g front_may front_room
        (λ (halt : e ≡ Halt). both_ways (is_told e) (ap is_told halt) told)
        (record {
          heard = λ tells. heard_told plan stood g.placed e before p o o.news first (subst (λ (l : List Event). why plan l e ≡ None) g.split front_may) (g.heard tells);
          timely = time_more ct plan stood g.placed e early c o.start (λ t (tick : e ≡ Tick t). absurd (both_ways (is_told e) (ap is_told tick) told)) g.timely;
        }))

  -- nobody told it, it is no Halt, and no Tick ahead of the clock
  going_untold : (p : PollerState) (c : ClockState) (h k : List Event) (o : OutlookView) (e : Event) (r : Put) → IsLawful plan k → length k ≤ most
      → (e ≡ Halt → ⊥) → is_told e ≡ false → ((t : ℕ) → e ≡ Tick t → o.start + t ≤ c.present) → Says most plan e h k r
      → IsGoing most pt ct plan stood before early p c h o → IsGoing most pt ct plan stood before early p c k o
  going_untold p c h k o e (Placed n) lawful few other told tick said going = placed_untold h k lawful few e n said p c o other told tick going
  going_untold p c h k o e (Barred at y) lawful few other told tick said going = going_grown p c h k o lawful few said.0 going
  going_untold p c h k o e (Held by passed) lawful few other told tick said going = going_grown p c h k o lawful few said.0 going
  going_untold p c h k o e Full lawful few other told tick said going = going_grown p c h k o lawful few said.0 going

  pub going_tick : (p : PollerState) (c : ClockState) (h k : List Event) (o : OutlookView) (t : ℕ) (r : Put) → IsLawful plan k → length k ≤ most → o.start + t ≤ c.present → Says most plan (Tick t) h k r
      → IsGoing most pt ct plan stood before early p c h o → IsGoing most pt ct plan stood before early p c k o
  going_tick p c h k o t r lawful few due said going =
      going_untold p c h k o (Tick t) r lawful few (λ (halt : Tick t ≡ Halt). cc) refl
      (λ x (tick : Tick t ≡ Tick x). let same : t ≡ x = ap tick_time tick in omega (arith, same, due)) said going

  pub going_expire : (p : PollerState) (c : ClockState) (h k : List Event) (o : OutlookView) (b : Blk) (r : Put) → IsLawful plan k → length k ≤ most → Says most plan (Expire b) h k r
      → IsGoing most pt ct plan stood before early p c h o → IsGoing most pt ct plan stood before early p c k o
  going_expire p c h k o b r lawful few said going =
      going_untold p c h k o (Expire b) r lawful few (λ (halt : Expire b ≡ Halt). cc) refl (λ x (tick : Expire b ≡ Tick x). cc) said going

  pub going_admitted : (p : PollerState) (c : ClockState) (h k : List Event) (o : OutlookView) (r : Put) → IsLawful plan k → length k ≤ most → IsAdmitted most plan h k r
      → IsGoing most pt ct plan stood before early p c h o → IsGoing most pt ct plan stood before early p c k o
  going_admitted p c h k o r lawful few was going =
      let plain = called_is_plain was.event was.called in
      going_untold p c h k o was.event r lawful few plain.no_halt plain.untold (λ t tick. absurd (plain.no_tick t tick)) was.said going

  pub going_told : (p : PollerState) (c : ClockState) (h k : List Event) (o u : OutlookView) (e : Event) (r : Put) → IsLawful plan k → length k ≤ most → first_event o.news ≡ Some e → Says most plan e h k r
      → u ≡ after_put r o → IsGoing most pt ct plan stood before early p c h o → IsGoing most pt ct plan stood before early p c k u
  going_told p c h k o u e (Placed n) lawful few first said kept going =
      subst (λ (x : OutlookView). IsGoing most pt ct plan stood before early p c k x) (sym kept) (placed_told h k lawful few e n said p c o first going)
  going_told p c h k o u e (Barred at y) lawful few first said kept going =
      let g = going_grown p c h k o lawful few said.0 going in
      subst (λ (x : OutlookView). IsGoing most pt ct plan stood before early p c k x) (sym kept)
      (record {
        placed = g.placed;
        split = g.split;
        heard = λ tells. heard_barred plan stood g.placed e before p o o.news first (λ may. refused (why plan k e) y said.2 (subst (λ (l : List Event). why plan l e ≡ None) (sym g.split) may)) (g.heard tells);
        timely = g.timely;
        faults = g.faults;
        kept = g.kept;
      })
  going_told p c h k o u e (Held by passed) lawful few first said kept going =
      subst (λ (x : OutlookView). IsGoing most pt ct plan stood before early p c k x) (sym kept) (going_grown p c h k o lawful few said.0 going)
  going_told p c h k o u e Full lawful few first said kept going =
      subst (λ (x : OutlookView). IsGoing most pt ct plan stood before early p c k x) (sym kept) (going_grown p c h k o lawful few said.0 going)

  -- ## Where the poller failed

  -- no Halt stands, since the run is over
  fails_over : (p q : PollerState) (c d : ClockState) (h k : List Event) (o u : OutlookView) → IsLawful plan k → Grows h k → Listens h p q c d o u → HasFailed p q → (is_halted k ≡ true) ⊎ (length k ≡ most)
      → IsGoing most pt ct plan stood before early p c h o → IsGoing most pt ct plan stood before early q d k u
  fails_over p q c d h k o u lawful g l failed over going =
      let split : k ≡ stood ++ (going.placed ++ g.rest) = g.split ∙ ap (λ (x : List Event). x ++ g.rest) going.split ∙ append_assoc stood going.placed g.rest in
      let t = told_grown q d u g.rest going.placed (subst (IsLawful plan) split lawful) g.work (told_then h going.placed p q c d o u l going.split (told_in p c h o going)) in
      record {
        placed = going.placed ++ g.rest;
        split = split;
        heard = t.heard;
        timely = t.timely;
        faults = record {
          halts = λ stands. let low = going.kept.faults in omega (arith, low, failed);
          stops = λ rose. subst (λ (x : List Event). (is_halted x ≡ true) ⊎ (length x ≡ most)) split over;
        };
        kept = keeps_through pt before p q going.kept l.kept;
      }

  -- a Halt stands
  fails_halted : (p q : PollerState) (c d : ClockState) (h k : List Event) (o u : OutlookView) (n : ℕ) → IsLawful plan k → length k ≤ most → IsPlaced n Halt h k → Listens h p q c d o u → HasFailed p q
      → IsGoing most pt ct plan stood before early p c h o → IsGoing most pt ct plan stood before early q d k u
  fails_halted p q c d h k o u n lawful few pl l failed going =
      let g = pl.grown in
      let placed : List Event = going.placed ++ g.rest in
      let split : pl.front ≡ stood ++ placed = g.split ∙ ap (λ (x : List Event). x ++ g.rest) going.split ∙ append_assoc stood going.placed g.rest in
      let t = told_one placed q d u Halt (subst (λ (x : List Event). why plan x Halt ≡ None) split (front_may h k lawful few Halt n pl)) refl (λ t (tick : Halt ≡ Tick t). cc)
      (told_grown q d u g.rest going.placed (subst (IsLawful plan) split (front_lawful h k lawful few Halt n pl)) g.work (told_then h going.placed p q c d o u l going.split (told_in p c h o going))) in
      record {
        placed = placed ++ Halt ∷ [];
        split = pl.is ∙ ap (λ (x : List Event). x ++ Halt ∷ []) split ∙ sym (more_at stood placed Halt);
        heard = t.heard;
        timely = t.timely;
        faults = faults_halted most stood placed before p q going.kept.faults failed;
        kept = keeps_through pt before p q going.kept l.kept;
      }

  pub going_halt : (p q : PollerState) (c d : ClockState) (h k : List Event) (o u : OutlookView) (r : Put) → IsLawful plan k → length k ≤ most → Says most plan Halt h k r → Listens h p q c d o u → HasFailed p q
      → IsGoing most pt ct plan stood before early p c h o → IsGoing most pt ct plan stood before early q d k u
  going_halt p q c d h k o u (Placed n) lawful few said l failed going = fails_halted p q c d h k o u n lawful few said l failed going
  going_halt p q c d h k o u (Barred at y) lawful few said l failed going =
      fails_over p q c d h k o u lawful said.0 l failed (inl (halt_barred plan k (refused (why plan k Halt) y said.2))) going
  going_halt p q c d h k o u (Held by passed) lawful few said l failed going = absurd (said.1 refl)
  going_halt p q c d h k o u Full lawful few said l failed going = fails_over p q c d h k o u lawful said.0 l failed (inr said.1) going

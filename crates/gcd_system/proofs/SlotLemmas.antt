-- The feeds of the poller over the system after one was read, and what two readings told together.
use Rattle.std.proofs.Common.{◌≡◌, ◌≢◌, ◌∙◌, ◌++◌, ◌≤◌, ◌==◌, ◌||◌, ◌&&◌, ℕ, zero, suc, Bool, false, List, [], ◌∷◌, Option, Some, None, slice_set, length, ap, sym, refl, arith, eq-eqb, inl, inr, append-nil}
use Rattle.std.proofs.Math.Bool.{and-true, and-false, or-false}
use Rattle.std.proofs.lemmas.Bool.Decides.{eqb_tells}
use Rattle.std.specs.List.{slice_get}
use Rattle.std.specs.Option.{option_map_or, option_to_list}
use Rattle.gcd_outer.specs.declared.limits.TheConstants.{MAX_TELLS}
use Rattle.gcd_system.specs.declared.slot.Slot.{Slot}
use Rattle.gcd_outer.specs.declared.tell.Tell.{Tell}
use Rattle.gcd_outer.specs.Tells.{AreTells, ended_after, ended_by}
use Rattle.gcd_outer.proofs.TellLemmas.{ended_by-same, ended_by-append-list}
use Rattle.gcd_system.specs.Slots.{is_there, watched_slot, ended_slot, SlotTells, ReadTells}

-- what the place that was written gives
pub lookup-set_same : {X Y : Type 0} (g : X → Y) (d : Y) (xs : List X) (i : ℕ) (old new : X) → slice_get xs i ≡ Some old
    → option_map_or g (slice_get (slice_set xs i new) i) d ≡ g new
lookup-set_same g d [] i old new found = cc
lookup-set_same g d (x ∷ xs) zero old new found = refl
lookup-set_same g d (x ∷ xs) (suc i) old new found = lookup-set_same g d xs i old new found

-- what every other place gives
pub lookup-set_other : {X Y : Type 0} (g : X → Y) (d : Y) (xs : List X) (i k : ℕ) (new : X) → k ≢ i
    → option_map_or g (slice_get (slice_set xs i new) k) d ≡ option_map_or g (slice_get xs k) d
lookup-set_other g d [] i k new apart = refl
lookup-set_other g d (x ∷ xs) zero zero new apart = absurd (apart refl)
lookup-set_other g d (x ∷ xs) zero (suc k) new apart = refl
lookup-set_other g d (x ∷ xs) (suc i) zero new apart = refl
lookup-set_other g d (x ∷ xs) (suc i) (suc k) new apart = lookup-set_other g d xs i k new (λ same. apart (ap suc same))

-- a place that was written with the same value gives what it gave
pub lookup-set : {X Y : Type 0} (g : X → Y) (d : Y) (xs : List X) (i k : ℕ) (old new : X) → slice_get xs i ≡ Some old → g new ≡ g old
    → option_map_or g (slice_get (slice_set xs i new) k) d ≡ option_map_or g (slice_get xs k) d
lookup-set g d [] i k old new found same = refl
lookup-set g d (x ∷ xs) zero zero old new found same = same ∙ ap g (let here : x ≡ old = cc in sym here)
lookup-set g d (x ∷ xs) zero (suc k) old new found same = refl
lookup-set g d (x ∷ xs) (suc i) zero old new found same = refl
lookup-set g d (x ∷ xs) (suc i) (suc k) old new found same = lookup-set g d xs i k old new found same

-- the place that was found gives what its element does
pub lookup-found : {X Y : Type 0} (g : X → Y) (d : Y) (xs : List X) (i : ℕ) (old : X) → slice_get xs i ≡ Some old
    → option_map_or g (slice_get xs i) d ≡ g old
lookup-found g d xs i old found = ap (λ o. option_map_or g o d) found

-- a feed that gave a tell, among all feeds
ended_slot-set : (slots : List Slot) (i : ℕ) (old new : Slot) (t : Tell) → slice_get slots i ≡ Some old → t.feed ≡ i → old.ended ≡ false
    → new.ended ≡ t.ended → (feed : ℕ) → ended_slot (slice_set slots i new) feed ≡ ended_after (ended_slot slots) t feed
ended_slot-set slots i old new t found at live ends feed =
    elim (eqb_tells t.feed feed) as (λ _. ended_slot (slice_set slots i new) feed ≡ ended_after (ended_slot slots) t feed) [
      | inl same ↦
          let here : i ≡ feed = sym at ∙ same.1 in
          let after : ended_slot (slice_set slots i new) i ≡ new.ended = lookup-set_same (λ (s : Slot). s.ended) false slots i old new found in
          let before : ended_slot slots i ≡ old.ended = lookup-found (λ (s : Slot). s.ended) false slots i old found in
          rw (← here, after, before, live, ends, at, eq-eqb i i refl, and-true)
      | inr apart ↦
          let elsewhere : feed ≢ i = λ same. apart.1 (at ∙ sym same) in
          rw (lookup-set_other (λ (s : Slot). s.ended) false slots i feed new elsewhere, apart.0, and-false, or-false)
    ]

-- what a read of one feed told, among all feeds
pub read-slot : (slots : List Slot) (i : ℕ) (old new : Slot) (o : Option Tell) → slice_get slots i ≡ Some old
    → is_there new.source ≡ is_there old.source → SlotTells i old new o → ReadTells slots (slice_set slots i new) (option_to_list o)
read-slot slots i old new None found same told = record {
  few = omega arith;
  tells = tt;
  watched = λ feed. lookup-set (λ (s : Slot). is_there s.source) false slots i feed old new found same;
  ended = λ feed. lookup-set (λ (s : Slot). s.ended) false slots i feed old new found told;
}
read-slot slots i old new (Some t) found same told = record {
  few = omega arith;
  tells = (
    rw (told.0) (lookup-found (λ (s : Slot). is_there s.source) false slots i old found ∙ told.1),
    rw (told.0) (lookup-found (λ (s : Slot). s.ended) false slots i old found ∙ told.2),
    told.3,
    tt,
  );
  watched = λ feed. lookup-set (λ (s : Slot). is_there s.source) false slots i feed old new found same;
  ended = λ feed. ended_slot-set slots i old new t found told.0 told.2 told.4 feed;
}

-- one list of tells after another
are_tells-append : (watched ended : ℕ → Bool) (ts us : List Tell) → AreTells watched ended ts → AreTells watched (ended_by ended ts) us
    → AreTells watched ended (ts ++ us)
are_tells-append watched ended [] us first second = second
are_tells-append watched ended (t ∷ ts) us first second =
    (first.0, first.1, first.2, are_tells-append watched (ended_after ended t) ts us first.3 second)

-- tells depend on what is watched and has ended, feed by feed
are_tells-same : (watched ended watched' ended' : ℕ → Bool) → ((feed : ℕ) → watched feed ≡ watched' feed)
    → ((feed : ℕ) → ended feed ≡ ended' feed) → (ts : List Tell) → AreTells watched ended ts → AreTells watched' ended' ts
are_tells-same watched ended watched' ended' same same_end [] told = tt
are_tells-same watched ended watched' ended' same same_end (t ∷ ts) told = (
  sym (same t.feed) ∙ told.0,
  sym (same_end t.feed) ∙ told.1,
  told.2,
  are_tells-same watched (ended_after ended t) watched' (ended_after ended' t) same (λ f. ap (λ (b : Bool). b || (t.ended && t.feed == f)) (same_end f)) ts told.3,
)

-- two readings, one after the other
pub read-append : (first second third : List Slot) (ts us : List Tell) → ReadTells first second ts → ReadTells second third us
    → length (ts ++ us) ≤ MAX_TELLS → ReadTells first third (ts ++ us)
read-append first second third ts us before after few = record {
  few = few;
  tells =
      are_tells-append (watched_slot first) (ended_slot first) ts us before.tells
      (are_tells-same (watched_slot second) (ended_slot second) (watched_slot first) (ended_by (ended_slot first) ts) before.watched before.ended us after.tells);
  watched = λ feed. after.watched feed ∙ before.watched feed;
  ended = λ feed.
      after.ended feed ∙ ended_by-same (ended_slot second) (ended_by (ended_slot first) ts) before.ended us feed
      ∙ ap (λ (e : ℕ → Bool). e feed) (sym (ended_by-append-list (ended_slot first) ts us));
}

-- a reading and one that told nothing
pub read-then_none : (first second third : List Slot) (ts : List Tell) → ReadTells first second ts → ReadTells second third [] → ReadTells first third ts
read-then_none first second third ts before after =
    let both : ReadTells first third (ts ++ []) = read-append first second third ts [] before after (rw append-nil before.few) in
    rw append-nil at both

-- a reading that told nothing, and one more
pub read-after_none : (first second third : List Slot) (none ts : List Tell) → none ≡ [] → ReadTells first second none → ReadTells second third ts
    → ReadTells first third ts
read-after_none first second third none ts nothing before after =
    read-append first second third [] ts (rw nothing at before) after after.few

-- The tells that may be given, and one more tell at the end.
use Rattle.std.proofs.Common.{◌≡◌, ◌≤◌, ◌∙◌, ◌++◌, ◌||◌, ◌&&◌, ◌==◌, ℕ, Bool, true, false, List, [], ◌∷◌, if◌then◌else◌, length, ap, sym, lit≤, arith, append-nil, append_assoc, refl}
use Rattle.std.proofs.lemmas.Bool.Decides.{nat_tests}
use Rattle.gcd_outer.specs.declared.tell.Tell.{Tell}
use Rattle.gcd_outer.specs.Tells.{AreTells, ended_after, ended_by, is_allowed, given_of, allowed_of}

-- the feeds that have ended after two lists, one after the other
pub ended_by-append-list : (ended : ℕ → Bool) (ts us : List Tell) → ended_by ended (ts ++ us) ≡ ended_by (ended_by ended ts) us
ended_by-append-list ended [] us = refl
ended_by-append-list ended (t ∷ ts) us = ended_by-append-list (ended_after ended t) ts us

-- one more tell at the end, which may be given or not
pub allowed_of-append : (watched ended : ℕ → Bool) (ts : List Tell) (t : Tell)
    → allowed_of watched ended (ts ++ t ∷ []) ≡ allowed_of watched ended ts ++ given_of watched (ended_by ended (allowed_of watched ended ts)) t
allowed_of-append watched ended [] t = append-nil _
allowed_of-append watched ended (u ∷ us) t =
    let first = given_of watched ended u in
    rw (allowed_of-append watched (ended_by ended first) us t, ended_by-append-list ended first (allowed_of watched (ended_by ended first) us), append_assoc)

-- a tell may be given by what is known of its feed alone
pub given_of-same : (watched watched' ended ended' : ℕ → Bool) (t : Tell) → watched t.feed ≡ watched' t.feed → ended t.feed ≡ ended' t.feed
    → given_of watched ended t ≡ given_of watched' ended' t
given_of-same watched watched' ended ended' t same same_end = cc

-- the feeds that have ended depend on those that had ended before, feed by feed
pub ended_by-same : (ended ended' : ℕ → Bool) → ((feed : ℕ) → ended feed ≡ ended' feed) → (ts : List Tell) (feed : ℕ)
    → ended_by ended ts feed ≡ ended_by ended' ts feed
ended_by-same ended ended' same [] feed = same feed
ended_by-same ended ended' same (t ∷ ts) feed =
    ended_by-same (ended_after ended t) (ended_after ended' t) (λ f. ap (λ (b : Bool). b || (t.ended && t.feed == f)) (same f)) ts feed

-- at most one tell is given for one
pub length-given_of : (watched ended : ℕ → Bool) (t : Tell) → length (given_of watched ended t) ≤ 1
length-given_of watched ended t =
    elim (is_allowed watched ended t) as (λ b. length (if b then t ∷ [] else []) ≤ 1) [ true ↦ lit≤ tt | false ↦ omega arith ]

-- one more tell was given or not, by a table that says of each feed what the tells so far did
pub allowed_more : (watched ended watched' ended' : ℕ → Bool) (ts given : List Tell) (t : Tell) → given ≡ allowed_of watched ended ts
    → watched' t.feed ≡ watched t.feed → ended' t.feed ≡ ended_by ended given t.feed
    → given ++ given_of watched' ended' t ≡ allowed_of watched ended (ts ++ t ∷ [])
allowed_more watched ended watched' ended' ts given t told same same_end =
    ap (λ (gs : List Tell). given ++ gs) (given_of-same watched' watched ended' (ended_by ended given) t same same_end)
    ∙ rw (told) (sym (allowed_of-append watched ended ts t))

-- a list with a tell that may be given before it
are_tells-given_of : (watched ended : ℕ → Bool) (t : Tell) (ts : List Tell) (allowed : Bool) → is_allowed watched ended t ≡ allowed
    → AreTells watched (ended_by ended (if allowed then t ∷ [] else [])) ts → AreTells watched ended ((if allowed then t ∷ [] else []) ++ ts)
are_tells-given_of watched ended t ts true allowed told =
    (grind (arith, nat_tests), grind (arith, nat_tests), grind (arith, nat_tests), told)
are_tells-given_of watched ended t ts false allowed told = told

-- the tells that may be given are such as a poller gives
pub are_tells-allowed_of : (watched ended : ℕ → Bool) (ts : List Tell) → AreTells watched ended (allowed_of watched ended ts)
are_tells-allowed_of watched ended [] = tt
are_tells-allowed_of watched ended (t ∷ ts) =
    are_tells-given_of watched ended t _ (is_allowed watched ended t) refl (are_tells-allowed_of watched (ended_by ended (given_of watched ended t)) ts)

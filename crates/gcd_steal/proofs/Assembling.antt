-- The benches of a new rack.
use Rattle.std.proofs.Common.{◌≡◌, ℕ, ◌<◌, List, [], ◌∷◌, length, get_or, sym, ap, ◌∙◌, subst, arith}
use Rattle.crossbeam_deque.specs.Handles.{worker_deque, stealer_deque, IsPassOf}
use Rattle.atomic_table.specs.Seated.{TableId}
use Rattle.gcd_facts.proofs.Lists.{one_of}
use Rattle.gcd_steal.specs.declared.bench.Rack.{Rack}
use Rattle.gcd_steal.specs.declared.bench.Bench.{Bench}
use Rattle.gcd_steal.specs.declared.deque.Account.{Account}
use Rattle.gcd_steal.specs.declared.deque.RackId.{RackId}
use Rattle.gcd_steal.specs.declared.places.Sight.{Sight}
use Rattle.gcd_steal.specs.Racks.{DequeStealer, DequePass, benches_of, IsIdOf, IsBenchOf, AreNumbered, IsUnused}
use Rattle.gcd_steal.specs.Making.{IsOpened, AreOpened, KnowRack, SameButPasses, AreSame, HavePasses}

-- a deque that was opened knows its rack
pub know_opened : (places : TableId) (rack : RackId) (most : ℕ) (thieves : List DequeStealer) (benches : List Bench) → 0 < length thieves → AreOpened places rack most thieves benches → KnowRack rack benches
know_opened places rack most [] benches some_in opened k b near = absurd (omega arith)
know_opened places rack most (t ∷ thieves) benches some_in opened k b near = ap (λ (v : Account). v.rack) (opened k t b near).account_is

-- the benches after they were opened and given their passes
module _ (places : TableId) (rack : RackId) (most : ℕ) (thieves : List DequeStealer) (old new : List Bench) (opened : AreOpened places rack most thieves old) (some_in : 0 < length thieves)
    (same : AreSame SameButPasses old new) (have : HavePasses rack new (length new)) where
  kept : (k : ℕ) (d : Bench) → k < length new → SameButPasses (get_or old k d) (get_or new k d)
  kept k d near = same.each k d d (omega (arith, same.count))

  open_at : (k : ℕ) (t : DequeStealer) (d : Bench) → k < length new → IsOpened places rack most k (get_or thieves k t) (get_or old k d)
  open_at k t d near = opened k t d (omega (arith, same.count))

  pub numbered : AreNumbered new
  numbered k d near = (kept k d near).number ∙ (open_at k (one_of thieves some_in) d near).number_is

  pub unused : (k : ℕ) (d : Bench) → k < length new → IsUnused most (get_or new k d)
  unused k d near = let o = open_at k (one_of thieves some_in) d near in let s = kept k d near in let known = s.known ∙ o.account_is in let sees = ap (λ x. x.me.0) s.seat ∙ o.sight_is in record {
    most_is = s.most ∙ o.most_is;
    pushed = s.pushed ∙ o.pushed;
    sent = ap (λ (a : Account). a.sent) known;
    took = ap (λ (a : Account). a.took) known;
    stole = λ j p within. ap (λ (a : Account). a.took) ((have k d near).each j d p (omega (arith, (have k d near).count))).1;
    seen = ap (λ (v : Sight). v.seen) sees;
    did = ap (λ (v : Sight). v.did) sees;
  }

  stolen_from : (k : ℕ) (t : DequeStealer) (d : Bench) → k < length new → stealer_deque (get_or thieves k t) ≡ worker_deque (get_or new k d).deque.worker
  stolen_from k t d near = (open_at k t d near).own ∙ sym (kept k d near).deque

  pass_at : (k : ℕ) (d : Bench) (j : ℕ) (t : DequeStealer) (p : DequePass) → k < length new → j < length new → IsPassOf (stealer_deque (get_or thieves j t)) (get_or (get_or new k d).passes.items j p)
  pass_at k d j t p near within = subst (λ q. IsPassOf q (get_or (get_or new k d).passes.items j p)) (sym (stolen_from j t d within)) ((have k d near).each j d p within).0

-- they are benches of the rack that has those thieves
pub made : (r : Rack) (rack : RackId) (most : ℕ) (old new : List Bench) → IsIdOf r rack → AreOpened r.places.shared.table_id rack most r.thieves.items old → 0 < benches_of r
    → AreSame SameButPasses old new → HavePasses rack new (length new) → length old ≡ benches_of r → (k : ℕ) (d : Bench) → k < length new → IsBenchOf r (get_or new k d)
made r rack most old new is opened some_in same have as_many k d near = let places = r.places.shared.table_id in let thieves = r.thieves.items in
    let o = open_at places rack most thieves old new opened some_in same have k (one_of thieves some_in) d near in let s = kept places rack most thieves old new opened some_in same have k d near in
    let number = s.number ∙ o.number_is in let size : length new ≡ benches_of r = same.count ∙ as_many in record {
      number = omega (arith, number, size);
      seat = ap (λ x. x.table_id) s.seat ∙ o.seat;
      tokens = ap (λ x. x.me.0.tokens.table_id) s.seat ∙ ap (λ (v : Sight). v.tokens.table_id) o.sight_is ∙ is.0;
      rack = subst (λ (v : Account). IsIdOf r v.rack) (sym (s.known ∙ o.account_is)) is;
      own = λ u. subst (λ (i : ℕ). stealer_deque (get_or thieves i u) ≡ worker_deque (get_or new k d).deque.worker) (sym number) (stolen_from places rack most thieves old new opened some_in same have k u d near);
      count = (have k d near).count ∙ size;
      table = λ j u p within. pass_at places rack most thieves old new opened some_in same have k d j u p near (omega (arith, size));
      fifo = λ j u within. (open_at places rack most thieves old new opened some_in same have j u d (omega (arith, size))).fifo;
      known = λ j p within. let v = ((have k d near).each j d p (omega (arith, size))).1 in (ap (λ (a : Account). a.fresh) v, subst (λ (a : Account). IsIdOf r a.rack) (sym v) is);
    }

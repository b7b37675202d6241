-- The values of the blocks, an event on.
use Rattle.std.proofs.Common.{◌≡◌, ◌≢◌, ◌<◌, ◌∙◌, ◌==◌, ◌&&◌, ◌||◌, ℕ, Bool, true, false, not, if◌then◌else◌, List, [], ◌∷◌, ◌++◌, length, Some, None, refl, ap, sym, subst, arith, ⊎_elim, eq-eqb}
use Rattle.std.specs.Prelude.{slice_get, slice_set, replicate, reverse}
use Rattle.std.proofs.Math.Bool.{and-false}
use Rattle.std.proofs.lemmas.Bool.{both_ways, cases_eq, ltb-true, ne_eqb, and_parts, not-false, not-true, or_right}
use Rattle.std.proofs.lemmas.List.{length-set, get_or-set_other, length-replicate, get_or-replicate}
use Rattle.std.proofs.lemmas.Option.{slice_get-get_or, slice_get_within}
use Rattle.gcd_facts.proofs.Lists.{slice_get-set_same}
use Rattle.gcd_plan.specs.PlanView.{PlanView}
use Rattle.gcd_plan.specs.declared.numbers.Blk.{Blk}
use Rattle.gcd_plan.specs.declared.numbers.Obj.{Obj}
use Rattle.gcd_plan.specs.declared.numbers.Run.TheVariants.{Block, Source}
use Rattle.gcd_event.specs.Owners.{ended}
use Rattle.gcd_event.specs.declared.event.Event.{Event}
use Rattle.gcd_event.specs.declared.event.Event.TheVariants.{Start, Act as Acted, Wake, End, Deliver, DeliverEnd, Tick, Ready, FeedEnd, Misuse, Halt, Expire, Accept, Shut}
use Rattle.gcd_history.specs.Runs.{ends}
use Rattle.gcd_history.specs.History.{IsLawful, is_block_cancelled, is_ended, why}
use Rattle.gcd_history.specs.Values.{value_of}
use Rattle.gcd_history.proofs.Blocks.CancelledStays.{begun_where_ended, cancelled_kept, cancelled_more, cancelled_without_act}
use Rattle.gcd_history.proofs.Lists.{reverse_push}
use Rattle.gcd_history.proofs.Permitted.Reasons.{allowed}
use Rattle.gcd_history.proofs.Blocks.StartedOnce.{ends_none}
use Rattle.gcd_jobs.specs.Ends.{EndFits}
use Rattle.gcd_jobs.specs.BlockValues.{AreValues, has_given, value_at_end}

-- a block has ended after one more event where this ends it, or it had
pub ended_push : (h : List Event) (e : Event) (b : ℕ) → is_ended (h ++ e ∷ []) b ≡ (ends b e || is_ended h b)
unfolding is_ended
ended_push h e b = rw reverse_push refl

-- with an event that does not end the block, unless that is cancelled, it gives no value, and what it has given stays so
pub given_kept : (plan : PlanView) (h : List Event) (e : Event) (b : ℕ) → IsLawful plan h
    → (ends b e ≡ true → is_block_cancelled plan h b ≡ true) → has_given plan (h ++ e ∷ []) b ≡ has_given plan h b
given_kept plan h e b lawful only = go (is_ended h b) refl (ends b e) refl
  where
    go : (had : Bool) → is_ended h b ≡ had → (now : Bool) → ends b e ≡ now → has_given plan (h ++ e ∷ []) b ≡ has_given plan h b
    go true had now at =
        ap (λ (v : Bool). v && not (is_block_cancelled plan (h ++ e ∷ []) b)) (ended_push h e b ∙ or_right (ends b e) (is_ended h b) had)
        ∙ ap (λ (v : Bool). true && not v) (cancelled_kept plan h e b (begun_where_ended plan h b lawful had))
        ∙ ap (λ (v : Bool). v && not (is_block_cancelled plan h b)) (sym had)
    go false had true at =
        ap (λ (v : Bool). is_ended (h ++ e ∷ []) b && not v) (cancelled_more plan h e b (only at))
        ∙ and-false (is_ended (h ++ e ∷ []) b)
        ∙ ap (λ (v : Bool). v && not (is_block_cancelled plan h b)) (sym had)
    go false had false at =
        ap (λ (v : Bool). v && not (is_block_cancelled plan (h ++ e ∷ []) b)) (ended_push h e b ∙ ap (λ (v : Bool). v || is_ended h b) at ∙ had)
        ∙ ap (λ (v : Bool). v && not (is_block_cancelled plan h b)) (sym had)

-- an End says of its block whether it has given a value, and of no other
pub given_at_end : (plan : PlanView) (h : List Event) (w : ℕ) (c : Blk) (b : ℕ)
    → has_given plan (h ++ End w c ∷ []) b ≡ (((c.0 == b) || is_ended h b) && not (is_block_cancelled plan h b))
given_at_end plan h w c b =
    ap (λ (v : Bool). v && not (is_block_cancelled plan (h ++ End w c ∷ []) b)) (ended_push h (End w c) b)
    ∙ ap (λ (v : Bool). ((c.0 == b) || is_ended h b) && not v) (cancelled_without_act plan h (End w c) b refl)

-- so of another it is as it was
pub given_of_other : (plan : PlanView) (h : List Event) (w : ℕ) (c : Blk) (b : ℕ) → c.0 ≢ b → has_given plan (h ++ End w c ∷ []) b ≡ has_given plan h b
given_of_other plan h w c b differ =
    given_at_end plan h w c b ∙ ap (λ (t : Bool). (t || is_ended h b) && not (is_block_cancelled plan h b)) (ne_eqb c.0 b differ)

-- and of its own it is so exactly where that is not cancelled
pub given_of_own : (plan : PlanView) (h : List Event) (w : ℕ) (c : Blk) → has_given plan (h ++ End w c ∷ []) c.0 ≡ not (is_block_cancelled plan h c.0)
given_of_own plan h w c =
    given_at_end plan h w c c.0 ∙ ap (λ (t : Bool). (t || is_ended h c.0) && not (is_block_cancelled plan h c.0)) (eq-eqb c.0 c.0 refl)

-- an event that ends no block keeps the values
pub values_same : (plan : PlanView) (files : List (List ℕ)) (h : List Event) (e : Event) (given : List ℕ) → IsLawful plan h
    → ((b : ℕ) → ends b e ≡ false) → AreValues plan files h given → AreValues plan files (h ++ e ∷ []) given
values_same plan files h e given lawful none are =
    let same : (b : ℕ) → has_given plan (h ++ e ∷ []) b ≡ has_given plan h b =
    λ b. given_kept plan h e b lawful (λ now. absurd (both_ways (ends b e) (none b) now)) in
    record {
      count = are.count;
      values = λ b gave. are.values b (sym (same b) ∙ gave);
      others = λ b low lacks. are.others b low (sym (same b) ∙ lacks);
    }

get_set_other : {A : Type 0} (xs : List A) (i k : ℕ) (v : A) → k < length xs → k ≢ i → slice_get (slice_set xs i v) k ≡ slice_get xs k
get_set_other xs i k v h differ =
    slice_get-get_or (slice_set xs i v) k v (omega (arith, length-set xs i v))
    ∙ ap Some (get_or-set_other xs i k v v differ)
    ∙ sym (slice_get-get_or xs k v h)

-- what a block comes to at its End, in the two cases
at_end_of_work : (plan : PlanView) (files : List (List ℕ)) (h : List Event) (b : ℕ) → not (is_block_cancelled plan h b) ≡ true
    → value_at_end plan files h b ≡ value_of plan files b
at_end_of_work plan files h b worked =
    ap (λ (t : Bool). if t then 0 else value_of plan files b) (not-true (is_block_cancelled plan h b) worked)

at_end_of_none : (plan : PlanView) (files : List (List ℕ)) (h : List Event) (b : ℕ) → not (is_block_cancelled plan h b) ≡ false
    → value_at_end plan files h b ≡ 0
at_end_of_none plan files h b none =
    ap (λ (t : Bool). if t then 0 else value_of plan files b) (not-false (is_block_cancelled plan h b) none)

-- an End gives its block what that comes to
pub values_ended : (plan : PlanView) (files : List (List ℕ)) (h : List Event) (w : ℕ) (c : Blk) (given : List ℕ) (v : ℕ)
    → c.0 < length plan.blocks → v ≡ value_at_end plan files h c.0 → AreValues plan files h given
    → AreValues plan files (h ++ End w c ∷ []) (slice_set given c.0 v)
values_ended plan files h w c given v within is are =
    let count : length given ≡ length plan.blocks = are.count in
    let found : slice_get (slice_set given c.0 v) c.0 ≡ Some v = slice_get-set_same given c.0 v (omega (arith, count, within)) in
    let After : ℕ → ℕ → Type 0 = λ k x. slice_get (slice_set given c.0 v) k ≡ Some x in
    record {
      count = length-set given c.0 v ∙ count;
      values = λ b gave.
          ⊎_elim
          (λ (same : c.0 ≡ b).
          let worked : not (is_block_cancelled plan h c.0) ≡ true =
          sym (given_of_own plan h w c) ∙ ap (has_given plan (h ++ End w c ∷ [])) same ∙ gave in
          subst (λ (k : ℕ). After k (value_of plan files k)) same (found ∙ ap Some (is ∙ at_end_of_work plan files h c.0 worked)))
          (λ (differ : c.0 ≢ b).
          let was : slice_get given b ≡ Some (value_of plan files b) = are.values b (sym (given_of_other plan h w c b differ) ∙ gave) in
          get_set_other given c.0 b v (slice_get_within given b (value_of plan files b) was) (λ e. differ (sym e)) ∙ was)
          (cases_eq c.0 b);
      others = λ b low lacks.
          ⊎_elim
          (λ (same : c.0 ≡ b).
          let none : not (is_block_cancelled plan h c.0) ≡ false =
          sym (given_of_own plan h w c) ∙ ap (has_given plan (h ++ End w c ∷ [])) same ∙ lacks in
          subst (λ (k : ℕ). After k 0) same (found ∙ ap Some (is ∙ at_end_of_none plan files h c.0 none)))
          (λ (differ : c.0 ≢ b).
          let was : slice_get given b ≡ Some 0 = are.others b low (sym (given_of_other plan h w c b differ) ∙ lacks) in
          get_set_other given c.0 b v (slice_get_within given b 0 was) (λ e. differ (sym e)) ∙ was)
          (cases_eq c.0 b);
    }

-- before the first event no block has a value
pub no_values : (plan : PlanView) (files : List (List ℕ)) → AreValues plan files [] (replicate (length plan.blocks) 0)
unfolding is_ended
no_values plan files = record {
  count = length-replicate (length plan.blocks) 0;
  values = λ b gave. cc;
  others = λ b low lacks.
      slice_get-get_or (replicate (length plan.blocks) 0) b 0 (omega (arith, length-replicate {A = ℕ} (length plan.blocks) 0))
      ∙ ap Some (get_or-replicate (length plan.blocks) b 0 0 low);
}

-- a permitted End is of a block of the plan
pub end_fits : (plan : PlanView) (h : List Event) (e : Event) → why plan h e ≡ None → EndFits plan e
unfolding why
end_fits plan h (Start w b) permitted = tt
end_fits plan h (Acted w r i) permitted = tt
end_fits plan h (Wake w b) permitted = tt
end_fits plan h (End w b) permitted = ltb-true _ _ (and_parts _ _ (allowed plan (reverse h) (End w b) permitted).known).1
end_fits plan h (Deliver w s) permitted = tt
end_fits plan h (DeliverEnd w s) permitted = tt
end_fits plan h (Tick t) permitted = tt
end_fits plan h (Ready s n) permitted = tt
end_fits plan h (FeedEnd s) permitted = tt
end_fits plan h (Misuse w c r i) permitted = tt
end_fits plan h Halt permitted = tt
end_fits plan h (Expire b) permitted = tt
end_fits plan h (Accept b s) permitted = tt
end_fits plan h Shut permitted = tt

-- a block is ended by its End
pub ended_block : (e : Event) (b : Blk) → Some (Block b) ≡ ended e → (w : ℕ) × (e ≡ End w b)
ended_block (Start w c) b is = cc
ended_block (Acted w r i) b is = cc
ended_block (Wake w c) b is = cc
ended_block (End w c) b is = (w, let same : b ≡ c = cc in cc)
ended_block (Deliver w s) b is = cc
ended_block (DeliverEnd w s) b is = cc
ended_block (Tick t) b is = cc
ended_block (Ready s n) b is = cc
ended_block (FeedEnd s) b is = cc
ended_block (Misuse w c r i) b is = cc
ended_block Halt b is = cc
ended_block (Expire c) b is = cc
ended_block (Accept c s) b is = cc
ended_block Shut b is = cc

-- an event that ends a source's run ends no block
pub source_ended : (e : Event) (s : Obj) → Some (Source s) ≡ ended e → (b : ℕ) → ends b e ≡ false
source_ended e s is = ends_none e (λ w c end. let it : Some (Source s) ≡ Some (Block c) = is ∙ ap ended end in cc)

-- nor does one that ends no run
pub none_ended : (e : Event) → None ≡ ended e → (b : ℕ) → ends b e ≡ false
none_ended e is = ends_none e (λ w c end. let it : None ≡ Some (Block c) = is ∙ ap ended end in cc)

-- What handlers took, an event on.
use Rattle.std.proofs.Common.{suc, zero, ◌≡◌, ◌≢◌, ◌<◌, ◌≤◌, ◌+◌, ◌-◌, ◌^◌, ◌∙◌, ℕ, Bool, true, false, cond, List, [], ◌∷◌, ◌++◌, get_or, length, reverse, Option, Some, None, ap, sym, subst, arith, ⊎_elim, refl, zero-add, add-zero}
use Rattle.std.specs.Prelude.{count_by, map, option_map, slice_get, slice_set}
use Rattle.std.specs.List.{range_with_len}
use Rattle.std.specs.Option.{option_map_or}
use Rattle.std.proofs.lemmas.Bool.{and_parts, cases_eq, cases_lt}
use Rattle.std.proofs.lemmas.List.{length-set, length_push}
use Rattle.std.proofs.lemmas.List.FromFn.{length-map-range_with_len, get_or-map-range_with_len, map-range_with_len_more}
use Rattle.std.proofs.lemmas.Option.{same_Some, slice_get-get_or, slice_get_within}
use Rattle.gcd_facts.proofs.Lists.{slice_get-set_same}
use Rattle.gcd_plan.specs.Kinds.{is_source, is_source_kind}
use Rattle.gcd_plan.specs.KindValues.{folded}
use Rattle.gcd_plan.specs.PlanView.{PlanView, kind_of}
use Rattle.gcd_plan.specs.Validity.{IsPlan}
use Rattle.gcd_plan.specs.declared.kind.Kind.{Kind}
use Rattle.gcd_plan.specs.declared.numbers.Obj.{Obj}
use Rattle.gcd_plan.specs.declared.numbers.Run.{Run}
use Rattle.gcd_plan.specs.declared.numbers.Run.TheVariants.{Source}
use Rattle.gcd_plan.proofs.Sums.{count_by-map, count_by_push}
use Rattle.gcd_event.specs.declared.event.Event.{Event}
use Rattle.gcd_event.specs.declared.event.Event.TheVariants.{Start, Act as Acted, Wake, End, Deliver, DeliverEnd, Tick, Ready, FeedEnd, Misuse, Halt, Expire, Accept, Shut}
use Rattle.gcd_history.specs.History.{IsLawful, delivery_count_of, last_data_of, received_of, why}
use Rattle.gcd_history.specs.Permitted.{is_worker}
use Rattle.gcd_history.proofs.Permitted.Lawful.{lawful_next}
use Rattle.gcd_history.proofs.Permitted.Reasons.{allowed}
use Rattle.gcd_history.specs.Held.{taken}
use Rattle.gcd_history.proofs.HeldRuns.Cells.{cells_stay, deliver_hands_over}
use Rattle.gcd_history.proofs.Sources.Totals.{totals_fit}
use Rattle.gcd_machine.specs.Stands.{StandsFor}
use Rattle.gcd_machine.proofs.Views.Calls.{lawful_stands, valid_stands}
use Rattle.gcd_refinement.specs.MachineView.{MachineView}
use Rattle.gcd_rounds.specs.Handing.{WasRecorded}
use Rattle.gcd_rounds.specs.Ran.{AreHandlers, IsHandler, sources_before}
use Rattle.gcd_rounds.specs.Running.{HaveTaken, places_of}
use Rattle.gcd_rounds.proofs.AtPlaces.{set_other}

-- ## Places

-- an object more
pub sources_more : (plan : PlanView) (n : ℕ) → sources_before plan (n + 1) ≡ sources_before plan n + cond (is_source plan n) 1 0
sources_more plan n =
    let p : ℕ → Bool = is_source plan in
    sym (count_by-map (λ (b : Bool). b) p (range_with_len 0 (n + 1)))
    ∙ ap (count_by (λ (b : Bool). b)) (map-range_with_len_more p 0 n n (zero-add n))
    ∙ count_by_push (λ (b : Bool). b) (map p (range_with_len 0 n)) (p n)
    ∙ ap (λ (k : ℕ). k + cond (p n) 1 0) (count_by-map (λ (b : Bool). b) p (range_with_len 0 n))

sources_up : (plan : PlanView) (n d : ℕ) → sources_before plan n ≤ sources_before plan (n + d)
sources_up plan n zero = let same = ap (sources_before plan) (add-zero n) in omega (arith, same)
sources_up plan n (suc d) =
    let rest = sources_up plan n d in
    let more = sources_more plan (n + d) in
    let next : n + suc d ≡ n + d + 1 = omega arith in
    let same : sources_before plan (n + suc d) ≡ sources_before plan (n + d + 1) = ap (sources_before plan) next in
    omega (arith, rest, more, same)

-- a source has its place below that of a later object
pub place_below : (plan : PlanView) (s t : ℕ) → s < t → is_source plan s ≡ true → sources_before plan s < sources_before plan t
place_below plan s t less source =
    let up = sources_up plan (s + 1) (t - (s + 1)) in
    let far : s + 1 + (t - (s + 1)) ≡ t = omega (arith, less) in
    let there : sources_before plan (s + 1 + (t - (s + 1))) ≡ sources_before plan t = ap (sources_before plan) far in
    let one : sources_before plan (s + 1) ≡ sources_before plan s + 1 =
    sources_more plan s ∙ ap (λ (v : Bool). sources_before plan s + cond v 1 0) source in
    omega (arith, up, there, one)

-- two sources have two places
places_differ : (plan : PlanView) (s t : ℕ) → is_source plan s ≡ true → is_source plan t ≡ true → s ≢ t → sources_before plan s ≢ sources_before plan t
places_differ plan s t one other differ same =
    ⊎_elim
    (λ (less : s < t). let low = place_below plan s t less one in omega (arith, same, low))
    (λ (more : t ≤ s). let low = place_below plan t s (omega (arith, more, differ)) other in omega (arith, same, low))
    (cases_lt s t)

-- a source is one of the plan's objects
pub source_within : (plan : PlanView) (s : ℕ) → is_source plan s ≡ true → s < length plan.objects
source_within plan s source =
    elim (slice_get plan.objects s) as (λ o. slice_get plan.objects s ≡ o → option_map_or is_source_kind (option_map (λ obj. obj.kind) o) false ≡ true → s < length plan.objects) [
      | None ↦ λ none is. cc
      | Some obj ↦ λ some is. slice_get_within plan.objects s obj some
    ] refl source

pub place_at : (plan : PlanView) (s : ℕ) → s < length plan.objects → slice_get (places_of plan) s ≡ Some (sources_before plan s)
place_at plan s low =
    slice_get-get_or (places_of plan) s 0 (omega (arith, length-map-range_with_len (sources_before plan) 0 (length plan.objects), low))
    ∙ ap Some (get_or-map-range_with_len (sources_before plan) 0 (length plan.objects) s s 0 low (zero-add s))

-- an object more, of this kind
pub sources_more_of : (plan : PlanView) (n : ℕ) (k : Kind) → kind_of plan n ≡ Some k → sources_before plan (n + 1) ≡ sources_before plan n + cond (is_source_kind k) 1 0
sources_more_of plan n k is = sources_more plan n ∙ ap (λ o. sources_before plan n + cond (option_map_or is_source_kind o false) 1 0) is

-- the source of a Deliver is one
pub deliver_known : (plan : PlanView) (h : List Event) (w : ℕ) (s : Obj) → IsLawful plan (h ++ Deliver w s ∷ []) → is_source plan s.0 ≡ true
unfolding why
deliver_known plan h w s lawful =
    (and_parts (is_worker w) (is_source plan s.0) (allowed plan (reverse h) (Deliver w s) (lawful_next plan h (Deliver w s) [] lawful)).known).1

-- ## Handlers

module _ {H : Type 0} (kind : H → Kind) (times total : H → ℕ) (plan : PlanView) where
  -- before the first event nothing was handed over
  pub taken_first : (handlers : List H) → AreHandlers kind times total plan (λ s. 0) (λ s. 0) handlers → HaveTaken kind times total plan [] handlers
  unfolding delivery_count_of received_of
  taken_first handlers fresh = record {
    count = fresh.count;
    each = λ s source. let was = fresh.each s source in record {
      handler = was.handler;
      at = was.at;
      kind_is = was.kind_is;
      times_is = was.times_is;
      total_is = was.total_is ∙ sym (ap (λ o. option_map_or (λ k. 0) o 0) was.kind_is);
    };
  }

  other_source : (h : List Event) (e : Event) (s place : ℕ) (handlers : List H) (y : H) → (taken e ≡ Some (Source (record { 0 = s })) → ⊥)
      → sources_before plan s ≢ place
      → IsHandler kind times total plan (delivery_count_of h s) (received_of plan h s) s handlers
      → IsHandler kind times total plan (delivery_count_of (h ++ e ∷ []) s) (received_of plan (h ++ e ∷ []) s) s (slice_set handlers place y)
  other_source h e s place handlers y untaken differ was =
      let waits = (cells_stay plan h e).handlers (record { 0 = s }) untaken in
      record {
        handler = was.handler;
        at = set_other handlers place (sources_before plan s) y was.handler differ was.at;
        kind_is = was.kind_is;
        times_is = was.times_is ∙ sym waits.times;
        total_is = was.total_is ∙ sym waits.received;
      }

  -- an event that is no Deliver
  pub taken_same : (h : List Event) (e : Event) (handlers : List H) → ((w : ℕ) (s : Obj) → e ≡ Deliver w s → ⊥)
      → HaveTaken kind times total plan h handlers → HaveTaken kind times total plan (h ++ e ∷ []) handlers
  taken_same h e handlers other took = record {
    count = took.count;
    each = λ s source.
        let was = took.each s source in
        let waits = (cells_stay plan h e).handlers (record { 0 = s }) (untaken e other s) in
        record {
          handler = was.handler;
          at = was.at;
          kind_is = was.kind_is;
          times_is = was.times_is ∙ sym waits.times;
          total_is = was.total_is ∙ sym waits.received;
        };
  }
    where
      untaken : (e : Event) → ((w : ℕ) (s : Obj) → e ≡ Deliver w s → ⊥) → (s : ℕ) → taken e ≡ Some (Source (record { 0 = s })) → ⊥
      untaken (Start w b) other s it = cc
      untaken (Wake w b) other s it = cc
      untaken (Deliver w t) other s it = other w t refl
      untaken (Acted w r i) other s it = cc
      untaken (End w b) other s it = cc
      untaken (DeliverEnd w t) other s it = cc
      untaken (Tick t) other s it = cc
      untaken (Ready t n) other s it = cc
      untaken (FeedEnd t) other s it = cc
      untaken (Misuse w c r i) other s it = cc
      untaken Halt other s it = cc
      untaken (Expire b) other s it = cc
      untaken (Accept b n) other s it = cc
      untaken Shut other s it = cc

  -- the handler of the source takes what a Deliver hands over
  pub taken_more : (h : List Event) (w : ℕ) (s : Obj) (handlers : List H) (x y : H) (value : ℕ) → is_source plan s.0 ≡ true
      → slice_get handlers (sources_before plan s.0) ≡ Some x → kind y ≡ kind x → times y ≡ times x + 1 → total y ≡ folded (kind x) (total x) value
      → value ≡ last_data_of plan (h ++ Deliver w s ∷ []) s.0
      → HaveTaken kind times total plan h handlers → HaveTaken kind times total plan (h ++ Deliver w s ∷ []) (slice_set handlers (sources_before plan s.0) y)
  taken_more h w s handlers x y value source at same_kind once_more folded_in handed took =
      let place : ℕ = sources_before plan s.0 in
      let over = deliver_hands_over plan h w s in
      let was = took.each s.0 source in
      let it : was.handler ≡ x = same_Some was.handler x (sym was.at ∙ at) in
      let kind_was : kind_of plan s.0 ≡ Some (kind x) = was.kind_is ∙ ap (λ z. Some (kind z)) it in
      let total_was : total x ≡ received_of plan h s.0 = sym (ap total it) ∙ was.total_is in
      let one : IsHandler kind times total plan (delivery_count_of (h ++ Deliver w s ∷ []) s.0) (received_of plan (h ++ Deliver w s ∷ []) s.0) s.0 (slice_set handlers place y) =
      record {
        handler = y;
        at = slice_get-set_same handlers place y (slice_get_within handlers place x at);
        kind_is = kind_was ∙ ap Some (sym same_kind);
        times_is = once_more ∙ ap (λ (n : ℕ). n + 1) (sym (ap times it) ∙ was.times_is) ∙ sym over.times;
        total_is = folded_in ∙ ap (folded (kind x) (total x)) handed
            ∙ ap (λ (n : ℕ). folded (kind x) n (last_data_of plan (h ++ Deliver w s ∷ []) s.0)) total_was
            ∙ sym (ap (λ o. option_map_or (λ k. folded k (received_of plan h s.0) (last_data_of plan (h ++ Deliver w s ∷ []) s.0)) o 0) kind_was)
            ∙ sym over.total;
      } in
      record {
        count = length-set handlers place y ∙ took.count;
        each = λ t at_t.
            ⊎_elim
            (λ (same : t ≡ s.0). subst (λ (k : ℕ). IsHandler kind times total plan (delivery_count_of (h ++ Deliver w s ∷ []) k) (received_of plan (h ++ Deliver w s ∷ []) k) k (slice_set handlers place y)) (sym same) one)
            (λ (differ : t ≢ s.0).
            other_source h (Deliver w s) t place handlers y (λ took_it. differ (sym (ap source_number took_it))) (places_differ plan t s.0 at_t source differ) (took.each t at_t))
            (cases_eq t s.0);
      }
    where
      source_number : Option Run → ℕ
      source_number (Some (Source q)) = q.0
      source_number o = 0

  -- what it takes fits
  pub record Fits (x : H) (value : ℕ) : Type 0 where
    pub times_fit : times x + 1 < 2 ^ 32
    pub total_fits : folded (kind x) (total x) value < 2 ^ 64

  pub taking_fits : (h : List Event) (w : ℕ) (s : Obj) (handlers : List H) (x : H) (value : ℕ) → IsPlan plan → IsLawful plan (h ++ Deliver w s ∷ [])
      → length h + 1 < 2 ^ 32 → is_source plan s.0 ≡ true → slice_get handlers (sources_before plan s.0) ≡ Some x
      → value ≡ last_data_of plan (h ++ Deliver w s ∷ []) s.0 → HaveTaken kind times total plan h handlers → Fits x value
  taking_fits h w s handlers x value valid lawful room source at handed took =
      let over = deliver_hands_over plan h w s in
      let was = took.each s.0 source in
      let it : was.handler ≡ x = same_Some was.handler x (sym was.at ∙ at) in
      let kind_was : kind_of plan s.0 ≡ Some (kind x) = was.kind_is ∙ ap (λ z. Some (kind z)) it in
      let fit = totals_fit plan (h ++ Deliver w s ∷ []) s.0 valid lawful in
      let times_was : times x ≡ delivery_count_of h s.0 = sym (ap times it) ∙ was.times_is in
      let sum : folded (kind x) (total x) value ≡ received_of plan (h ++ Deliver w s ∷ []) s.0 =
      ap (folded (kind x) (total x)) handed
      ∙ ap (λ (n : ℕ). folded (kind x) n (last_data_of plan (h ++ Deliver w s ∷ []) s.0)) (sym (ap total it) ∙ was.total_is)
      ∙ sym (ap (λ o. option_map_or (λ k. folded k (received_of plan h s.0) (last_data_of plan (h ++ Deliver w s ∷ []) s.0)) o 0) kind_was)
      ∙ sym over.total in
      let counted = over.times in let few = fit.times in let low = fit.total in let long = length_push h (Deliver w s) in
      record {
        times_fit = omega (arith, times_was, counted, few, long, room);
        total_fits = omega (arith, sum, low, long, room);
      }

  -- where a Deliver was recorded last, the places of its source and of its handler
  pub record IsDue (m : MachineView) (places : List ℕ) (handlers : List H) (s : Obj) : Type 0 where
    pub source : is_source plan s.0 ≡ true
    pub low : s.0 < length places
    pub known : s.0 < length m.plan.objects
    pub at : slice_get places s.0 ≡ Some (sources_before plan s.0)
    pub within : sources_before plan s.0 < length handlers

  pub due : (m : MachineView) (places : List ℕ) (handlers : List H) (w : ℕ) (s : Obj) → places ≡ places_of plan
      → WasRecorded kind times total plan m handlers (Deliver w s) → IsDue m places handlers s
  due m places handlers w s are was =
      let source = deliver_known plan was.history w s (lawful_stands m plan (was.history ++ Deliver w s ∷ []) was.stands) in
      let low : s.0 < length plan.objects = source_within plan s.0 source in
      let it = was.taken.each s.0 source in
      record {
        source = source;
        low = let long = ap length are in omega (arith, long, length-map-range_with_len (sources_before plan) 0 (length plan.objects), low);
        known = let own = ap (λ (p : PlanView). length p.objects) was.own in omega (arith, own, low);
        at = ap (λ (xs : List ℕ). slice_get xs s.0) are ∙ place_at plan s.0 low;
        within = slice_get_within handlers (sources_before plan s.0) it.handler it.at;
      }

  -- the handler that is read at the place
  pub handler_read : (m : MachineView) (places : List ℕ) (handlers : List H) (s : Obj) (place : ℕ) (x : H) → IsDue m places handlers s
      → slice_get places s.0 ≡ Some place → x ≡ get_or handlers place x → (place ≡ sources_before plan s.0) × (slice_get handlers (sources_before plan s.0) ≡ Some x)
  handler_read m places handlers s place x d at read =
      let same : place ≡ sources_before plan s.0 = same_Some place (sources_before plan s.0) (sym at ∙ d.at) in
      (same, slice_get-get_or handlers (sources_before plan s.0) x d.within ∙ ap (λ (k : ℕ). Some (get_or handlers k x)) (sym same) ∙ ap Some (sym read))

  -- and what it takes fits
  pub due_fits : (m : MachineView) (places : List ℕ) (handlers : List H) (w : ℕ) (s : Obj) (place : ℕ) (x : H) (value : ℕ) → places ≡ places_of plan
      → WasRecorded kind times total plan m handlers (Deliver w s) → slice_get places s.0 ≡ Some place → x ≡ get_or handlers place x
      → ((p : PlanView) (h : List Event) → StandsFor m p h → value ≡ last_data_of p h s.0) → Fits x value
  due_fits m places handlers w s place x value are was at read handed =
      let d = due m places handlers w s are was in
      let all : List Event = was.history ++ Deliver w s ∷ [] in
      taking_fits was.history w s handlers x value (valid_stands m plan all was.stands) (lawful_stands m plan all was.stands) was.room d.source
      (handler_read m places handlers s place x d at read).1 (handed plan all was.stands) was.taken

  -- after it the handlers took what was handed over
  pub due_taken : (m : MachineView) (places : List ℕ) (handlers : List H) (h : List Event) (w : ℕ) (s : Obj) (place : ℕ) (x y : H) (value : ℕ) → places ≡ places_of plan
      → WasRecorded kind times total plan m handlers (Deliver w s) → slice_get places s.0 ≡ Some place → x ≡ get_or handlers place x
      → ((p : PlanView) (k : List Event) → StandsFor m p k → value ≡ last_data_of p k s.0)
      → kind y ≡ kind x → times y ≡ times x + 1 → total y ≡ folded (kind x) (total x) value
      → StandsFor m plan (h ++ Deliver w s ∷ []) → HaveTaken kind times total plan h handlers
      → HaveTaken kind times total plan (h ++ Deliver w s ∷ []) (slice_set handlers place y)
  due_taken m places handlers h w s place x y value are was at read handed same_kind once_more folded_in stands took =
      let d = due m places handlers w s are was in
      let r = handler_read m places handlers s place x d at read in
      subst (λ (k : ℕ). HaveTaken kind times total plan (h ++ Deliver w s ∷ []) (slice_set handlers k y)) (sym r.0)
      (taken_more h w s handlers x y value d.source r.1 same_kind once_more folded_in (handed plan (h ++ Deliver w s ∷ []) stands) took)

-- Signals and waits after an event.
use Rattle.std.proofs.Common.{◌≡◌, ⊎_elim, ℕ, zero, suc, ◌+◌, ◌-◌, ◌<◌, ◌≤◌, ◌==◌, nat_le, Bool, true, false, ◌||◌, cond, List, [], ◌∷◌, ◌++◌, length, map, set, Option, Some, None, refl, ap, sym, ◌∙◌, arith, eq-eqb, ne_eqb}
use Rattle.std.proofs.Math.ListN.{get_or-eq_default}
use Rattle.std.specs.List.{slice_get}
use Rattle.std.proofs.lemmas.Bool.{cases_eq, cases_lt, both_ways, and_parts, or_left, false_from_ne_true}
use Rattle.std.proofs.lemmas.List.{append-nil, length-map, map-append, get_or-set_other}
use Rattle.std.proofs.lemmas.Option.{slice_get_within}
use Rattle.gcd_plan.specs.PlanView.{PlanView}
use Rattle.gcd_plan.specs.Kinds.{has_kind, is_semaphore_kind}
use Rattle.gcd_plan.specs.Limits.{max_time}
use Rattle.gcd_plan.specs.Validity.{IsPlan}
use Rattle.gcd_plan.specs.declared.act.Act.{Act}
use Rattle.gcd_plan.specs.declared.act.Act.TheVariants.{Signal, Wait, WaitFor}
use Rattle.gcd_plan.specs.declared.numbers.Blk.{Blk}
use Rattle.gcd_plan.specs.declared.numbers.Obj.{Obj}
use Rattle.gcd_plan.specs.declared.numbers.Run.TheVariants.{Block}
use Rattle.gcd_plan.specs.declared.reason.Reason.{Reason}
use Rattle.gcd_plan.specs.declared.reason.Reason.TheVariants.{Block as EndOf, Group as Empty, Strip, Rank}
use Rattle.gcd_plan.proofs.Within.{has_object}
use Rattle.gcd_event.specs.declared.event.Event.{Event}
use Rattle.gcd_event.specs.declared.event.Event.TheVariants.{Act as Acted, Expire}
use Rattle.gcd_history.specs.Runs.{act_at, act_of}
use Rattle.gcd_history.specs.Expired.{expires, has_expired}
use Rattle.gcd_history.specs.Semas.{signals, waits, signal_count, waits_on}
use Rattle.gcd_history.specs.Parked.{awaited}
use Rattle.gcd_history.specs.Permitted.{IsLawful}
use Rattle.gcd_plan.proofs.Sums.{count_by-cons}
use Rattle.gcd_history.proofs.Blocks.SubmittedOnNodes.{recorded_fits}
use Rattle.gcd_sema.specs.SemasView.{SemasView, signals_at, expiries_at, with_wait}
use Rattle.gcd_sync.specs.WaitsView.{reason_at}
use Rattle.gcd_refinement.specs.MachineView.{MachineView}
use Rattle.gcd_refinement.specs.Shape.{PartsFit}
use Rattle.gcd_refinement.specs.Ties.{SemasAre, WaitsAre}
use Rattle.gcd_refinement.specs.After.{semas_by, semas_expired, semas_after, after}
use Rattle.gcd_refinement.proofs.Lists.Writes.{entry_set, one_more}
use Rattle.gcd_refinement.proofs.Limits.Expiries.{expires_own, not_expired_yet, may_expire_parts}
use Rattle.gcd_refinement.proofs.Semas.Ranks.{rank_of_same, position_at, rank_at}
use Rattle.gcd_refinement.proofs.Semas.Ends.{expires_rank}

-- ## After an act

record Fits (semas : SemasView) (act : Option Act) : Type 0 where
  signalled : (p : Obj) → act ≡ Some (Signal p) → p.0 < length semas.signals
  waited : (p : Obj) → act ≡ Some (Wait p) → p.0 < length semas.waits
  waited_for : (p : Obj) (ms : ℕ) → act ≡ Some (WaitFor p ms) → p.0 < length semas.waits

signals_by : (semas : SemasView) (act : Option Act) (s n : ℕ) → Fits semas act → signals_at semas s ≡ n
    → signals_at (semas_by semas act) s ≡ cond {A = ℕ} (signals s act) 1 0 + n
signals_by semas (Some (Signal p)) s n fits h = one_more semas.signals p.0 s n (fits.signalled p refl) h
signals_by semas _ s n fits h = omega (arith, h)

-- one wait more at p is one more there alone
one_wait : (semas : SemasView) (p s : ℕ) → p < length semas.waits → expiries_at (with_wait semas p) s ≡ expiries_at semas s ++ cond (p == s) (false ∷ []) []
one_wait semas p s low =
    entry_set semas.waits p s (expiries_at semas p ++ false ∷ []) [] low
    ∙ ⊎_elim
    (λ (same : p ≡ s).
    let here = eq-eqb p s same in
    ap (λ v. cond v (expiries_at semas p ++ false ∷ []) (expiries_at semas s)) here
    ∙ (ap (λ n. expiries_at semas n ++ false ∷ []) same ∙ ap (λ v. expiries_at semas s ++ cond v (false ∷ []) []) (sym here)))
    (λ (other : p ≡ s → ⊥).
    let there = ne_eqb p s other in
    ap (λ v. cond v (expiries_at semas p ++ false ∷ []) (expiries_at semas s)) there
    ∙ (sym (append-nil (expiries_at semas s)) ∙ ap (λ v. expiries_at semas s ++ cond v (false ∷ []) []) (sym there)))
    (cases_eq p s)

waits_by : (semas : SemasView) (act : Option Act) (s : ℕ) → Fits semas act → expiries_at (semas_by semas act) s ≡ expiries_at semas s ++ cond (waits s act) (false ∷ []) []
waits_by semas (Some (Wait p)) s fits = one_wait semas p.0 s (fits.waited p refl)
waits_by semas (Some (WaitFor p ms)) s fits = one_wait semas p.0 s (fits.waited_for p ms refl)
waits_by semas _ s fits = sym (append-nil (expiries_at semas s))

fits_at : (plan : PlanView) (e : Event) (v : MachineView) → IsPlan plan → PartsFit plan v → Fits v.semas (act_of plan e)
fits_at plan e v valid fit = record {
  signalled = λ p at. let low = has_object is_semaphore_kind plan p.0 (recorded_fits plan e (Signal p) valid at) in let long = fit.signals in omega (arith, low, long);
  waited = λ p at. let low = has_object is_semaphore_kind plan p.0 (recorded_fits plan e (Wait p) valid at) in let long = fit.waits in omega (arith, low, long);
  waited_for = λ p ms at.
      let low = has_object is_semaphore_kind plan p.0 (and_parts (has_kind is_semaphore_kind plan p.0) (nat_le ms max_time) (recorded_fits plan e (WaitFor p ms) valid at)).0 in
      let long = fit.waits in
      omega (arith, low, long);
}

-- a wait that begins has not expired
new_flag : (past : List Event) (begins : Bool) → map (has_expired past) (cond begins (length past ∷ []) []) ≡ cond begins (false ∷ []) []
new_flag past true = ap (λ v. v ∷ []) (not_expired_yet past (length past) (omega arith))
new_flag past false = refl

-- ## After an Expire

signals_kept : (semas : SemasView) (r : Option Reason) (s : ℕ) → signals_at (semas_expired semas r) s ≡ signals_at semas s
signals_kept semas None s = refl
signals_kept semas (Some (EndOf b)) s = refl
signals_kept semas (Some (Empty g p)) s = refl
signals_kept semas (Some (Strip a)) s = refl
signals_kept semas (Some (Rank t k)) s = refl

-- flags that stay
map_agree : (f g : ℕ → Bool) (xs : List ℕ) → ((i p : ℕ) → slice_get xs i ≡ Some p → f p ≡ g p) → map f xs ≡ map g xs
map_agree f g [] same = refl
map_agree f g (x ∷ xs) same = ap (λ v. v ∷ map f xs) (same 0 x refl) ∙ ap (λ l. g x ∷ l) (map_agree f g xs (λ i p there. same (suc i) p there))

-- and one that is set
map_set : (f g : ℕ → Bool) (xs : List ℕ) (n : ℕ) → ((p : ℕ) → slice_get xs n ≡ Some p → g p ≡ true) → ((i p : ℕ) → (n ≡ i → ⊥) → slice_get xs i ≡ Some p → f p ≡ g p) → set (map f xs) n true ≡ map g xs
map_set f g [] n here there = refl
map_set f g (x ∷ xs) zero here there =
    ap (λ v. v ∷ map f xs) (sym (here x refl)) ∙ ap (λ l. g x ∷ l) (map_agree f g xs (λ i p at. there (suc i) p (λ (same : 0 ≡ suc i). omega (arith, same)) at))
map_set f g (x ∷ xs) (suc n) here there =
    ap (λ v. v ∷ set (map f xs) n true) (there 0 x (λ (same : suc n ≡ 0). omega (arith, same)) refl)
    ∙ ap (λ l. g x ∷ l) (map_set f g xs n here (λ i p other at. there (suc i) p (λ (same : suc n ≡ suc i). other (omega (arith, same))) at))

-- the flags of a semaphore whose waits do not expire
flags_kept : (plan : PlanView) (past : List Event) (c : Blk) (r : Reason) (s : Obj) → awaited plan past (Block c) ≡ Some r → ((k : ℕ) → r ≡ Rank s k → ⊥) → map (has_expired past) (waits_on plan past s.0) ≡ map (has_expired (Expire c ∷ past)) (waits_on plan past s.0)
flags_kept plan past c r s is apart =
    map_agree (has_expired past) (has_expired (Expire c ∷ past)) (waits_on plan past s.0) (λ i p there.
    sym (ap (λ v. v || has_expired past p) (false_from_ne_true (expires past (Expire c) p) (λ now. absurd (apart (i + 1) (expires_rank plan past c r s i p is there now))))))

-- and of the one where a wait does
flag_set : (plan : PlanView) (past : List Event) (c : Blk) (s : Obj) (k : ℕ) → IsPlan plan → awaited plan past (Block c) ≡ Some (Rank s k) → set (map (has_expired past) (waits_on plan past s.0)) (k - 1) true ≡ map (has_expired (Expire c ∷ past)) (waits_on plan past s.0)
flag_set plan past c s k valid is =
    let at = rank_at plan past c s k valid is in
    let rank = at.rank in
    let place : k - 1 ≡ at.place = omega (arith, rank) in
    let position = position_at plan past s.0 at.place (at.position, c) valid at.there in
    map_set (has_expired past) (has_expired (Expire c ∷ past)) (waits_on plan past s.0) (k - 1)
    (λ p there.
    or_left (expires past (Expire c) p) (has_expired past p)
    (expires_own past c c.0 p (at.last ∙ (sym position ∙ (ap (slice_get (waits_on plan past s.0)) (sym place) ∙ there))) ∙ eq-eqb c.0 c.0 refl))
    (λ i p other there.
    sym (ap (λ v. v || has_expired past p) (false_from_ne_true (expires past (Expire c) p) (λ now.
    let own = (rank_of_same s s k (i + 1) (ap Some (expires_rank plan past c (Rank s k) s i p is there now))).1 in
    absurd (other (omega (arith, own)))))))

-- a wait of rank k stands there
has_waits : (plan : PlanView) (past : List Event) (c : Blk) (v : MachineView) (t : Obj) (k : ℕ) → IsPlan plan → SemasAre plan past v → awaited plan past (Block c) ≡ Some (Rank t k) → t.0 < length v.semas.waits
has_waits plan past c v t k valid ties is =
    let at = rank_at plan past c t k valid is in
    let within = slice_get_within (waits_on plan past t.0) at.place at.position (position_at plan past t.0 at.place (at.position, c) valid at.there) in
    ⊎_elim
    (λ (low : t.0 < length v.semas.waits). low)
    (λ (high : length v.semas.waits ≤ t.0).
    let none : length (waits_on plan past t.0) ≡ 0 = sym (length-map (waits_on plan past t.0) (has_expired past)) ∙ ap length (sym (ties.waits t.0) ∙ get_or-eq_default v.semas.waits [] high) in
    absurd (omega (arith, within, none)))
    (cases_lt t.0 (length v.semas.waits))

-- the block waits for a semaphore
abbrev of_sema : Reason → Bool
of_sema (Rank t k) = true
of_sema r = false

-- ## The step

waits_expired : (plan : PlanView) (past : List Event) (c : Blk) (v : MachineView) (s : ℕ) (r : Reason) → IsPlan plan → SemasAre plan past v → awaited plan past (Block c) ≡ Some r
    → expiries_at (semas_expired v.semas (Some r)) s ≡ map (has_expired (Expire c ∷ past)) (waits_on plan past s)
waits_expired plan past c v s (EndOf b) valid ties is = ties.waits s ∙ flags_kept plan past c (EndOf b) (record { 0 = s }) is (λ k same. both_ways false refl (ap of_sema same))
waits_expired plan past c v s (Empty g p) valid ties is = ties.waits s ∙ flags_kept plan past c (Empty g p) (record { 0 = s }) is (λ k same. both_ways false refl (ap of_sema same))
waits_expired plan past c v s (Strip a) valid ties is = ties.waits s ∙ flags_kept plan past c (Strip a) (record { 0 = s }) is (λ k same. both_ways false refl (ap of_sema same))
waits_expired plan past c v s (Rank t k) valid ties is =
    let now = set (expiries_at v.semas t.0) (k - 1) true in
    ⊎_elim
    (λ (same : t.0 ≡ s).
    entry_set v.semas.waits t.0 s now [] (has_waits plan past c v t k valid ties is)
    ∙ (ap (λ u. cond u now (expiries_at v.semas s)) (eq-eqb t.0 s same)
    ∙ (ap (λ l. set l (k - 1) true) (ties.waits t.0)
    ∙ (flag_set plan past c t k valid is ∙ ap (λ n. map (has_expired (Expire c ∷ past)) (waits_on plan past n)) same))))
    (λ (other : t.0 ≡ s → ⊥).
    get_or-set_other v.semas.waits t.0 s now [] (λ same. other (sym same))
    ∙ (ties.waits s
    ∙ flags_kept plan past c (Rank t k) (record { 0 = s }) is (λ j same. other (ap (λ o. o.0) (rank_of_same t (record { 0 = s }) k j (ap Some same)).0))))
    (cases_eq t.0 s)

waits_after : (plan : PlanView) (past : List Event) (e : Event) (v : MachineView) (s : ℕ) → IsPlan plan → IsLawful plan (e ∷ past) → PartsFit plan v → SemasAre plan past v → WaitsAre plan past v
    → expiries_at (semas_after plan v e) s ≡ map (has_expired (e ∷ past)) (waits_on plan (e ∷ past) s)
waits_after plan past (Acted w r i) v s valid lawful fit ties parked =
    let act = act_at plan r i in
    waits_by v.semas act s (fits_at plan (Acted w r i) v valid fit)
    ∙ (ap (λ l. l ++ cond (waits s act) (false ∷ []) []) (ties.waits s)
    ∙ (ap (λ l. map (has_expired past) (waits_on plan past s) ++ l) (sym (new_flag past (waits s act)))
    ∙ sym (map-append (has_expired past) (waits_on plan past s) (cond (waits s act) (length past ∷ []) []))))
waits_after plan past (Expire c) v s valid lawful fit ties parked =
    let may = may_expire_parts plan past c lawful in
    ap (λ o. expiries_at (semas_expired v.semas o) s) (parked.reasons c.0 ∙ may.is)
    ∙ (waits_expired plan past c v s may.why valid ties may.is ∙ ap (map (has_expired (Expire c ∷ past))) (sym (append-nil (waits_on plan past s))))
waits_after plan past e v s valid lawful fit ties parked = ties.waits s ∙ ap (map (has_expired past)) (sym (append-nil (waits_on plan past s)))

signals_after : (plan : PlanView) (past : List Event) (e : Event) (v : MachineView) (s : ℕ) → IsPlan plan → PartsFit plan v → SemasAre plan past v → signals_at (semas_after plan v e) s ≡ cond {A = ℕ} (signals s (act_of plan e)) 1 0 + signal_count plan past s
signals_after plan past (Acted w r i) v s valid fit ties = signals_by v.semas (act_at plan r i) s _ (fits_at plan (Acted w r i) v valid fit) (ties.signals s)
signals_after plan past (Expire c) v s valid fit ties = let same = signals_kept v.semas (reason_at v.waits c.0) s in let was = ties.signals s in omega (arith, same, was)
signals_after plan past e v s valid fit ties = let was = ties.signals s in omega (arith, was)

pub semas_step : (plan : PlanView) (past : List Event) (e : Event) (v : MachineView) → IsPlan plan → IsLawful plan (e ∷ past) → PartsFit plan v → SemasAre plan past v → WaitsAre plan past v → SemasAre plan (e ∷ past) (after plan v e)
semas_step plan past e v valid lawful fit ties parked = record {
  signals = λ s. signals_after plan past e v s valid fit ties ∙ sym (count_by-cons (λ x. signals s (act_of plan x)) e past);
  waits = λ s. waits_after plan past e v s valid lawful fit ties parked;
}

-- What each block has come to after an event.
use Rattle.std.proofs.Common.{◌≡◌, ℕ, zero, suc, ◌+◌, ◌<◌, ◌≤◌, ◌==◌, true, false, ◌||◌, cond, List, [], ◌∷◌, length, get_or, find, Option, Some, None, refl, ap, sym, ◌∙◌, subst, arith, ⊎_elim, eq-eqb, ne_eqb, option_map}
use Rattle.std.specs.List.{fold, count_by, slice_get}
use Rattle.std.specs.Option.{option_map_or, option_and_then, option_or}
use Rattle.std.proofs.lemmas.Bool.{cases_eq, cases_lt, and_parts, ltb-true}
use Rattle.std.proofs.lemmas.List.{length-set, get_or-set_other}
use Rattle.std.proofs.lemmas.List.Folds.{find-append}
use Rattle.std.proofs.lemmas.Option.{slice_get_within}
use Rattle.gcd_plan.specs.PlanView.{PlanView, BlkView}
use Rattle.gcd_plan.specs.Validity.{IsPlan, block_of}
use Rattle.gcd_plan.specs.declared.act.Act.{Act}
use Rattle.gcd_plan.specs.declared.act.Act.TheVariants.{Sync, BarrierSync, GroupAsync, Notify, NotifyBlock}
use Rattle.gcd_plan.specs.declared.numbers.Blk.{Blk}
use Rattle.gcd_plan.specs.declared.numbers.Obj.{Obj}
use Rattle.gcd_plan.specs.declared.numbers.Run.{Run}
use Rattle.gcd_plan.specs.declared.numbers.Run.TheVariants.{Block, Source}
use Rattle.gcd_plan.proofs.Within.{act_block_within}
use Rattle.gcd_event.specs.declared.event.Event.{Event}
use Rattle.gcd_event.specs.declared.event.Event.TheVariants.{Start, Act as Acted, End}
use Rattle.gcd_history.specs.declared.submission.Submission.{Submission}
use Rattle.gcd_history.specs.Runs.{same_run, act_at, acts_done, is_started, is_ended}
use Rattle.gcd_history.specs.Submitted.{submitted, new_submissions, submission_of}
use Rattle.gcd_history.specs.Permitted.{IsLawful, is_worker, has_block}
use Rattle.gcd_history.proofs.Counts.{count_unfound}
use Rattle.gcd_history.proofs.Lists.{none_found}
use Rattle.gcd_plan.proofs.Sums.{count_by-cons, count_by-append}
use Rattle.gcd_history.proofs.Permitted.Reasons.{allowed, at_start}
use Rattle.gcd_history.proofs.Blocks.SubmittedOnNodes.{recorded_fits}
use Rattle.gcd_history.proofs.Blocks.SubmittedOnce.{is_of, submitted_once, submitted_within, unstarted_step}
use Rattle.gcd_refinement.specs.MachineView.{MachineView, idle, block_at, ended_at}
use Rattle.gcd_refinement.specs.declared.progress.BlockProgress.{BlockProgress}
use Rattle.gcd_refinement.specs.Shape.{PartsFit, OwnFit}
use Rattle.gcd_refinement.specs.Sleepers.{grouped, group_of, called_by, caller_of}
use Rattle.gcd_refinement.specs.Ties.{GroupsAre, BlocksAre, SourcesAre, BlockMarksAre}
use Rattle.gcd_refinement.specs.Submits.{submits}
use Rattle.gcd_refinement.specs.After.{with_block, noted, arranged, called, counted, blocks_by, ended_after, after}
use Rattle.gcd_refinement.proofs.Lists.Writes.{entry_set}
use Rattle.gcd_refinement.proofs.Groups.NotifyQueues.{counted_long}
use Rattle.gcd_refinement.proofs.Step.Submits.{submits_are}
use Rattle.gcd_refinement.proofs.Step.Waits.{known_block}

-- ## One block

-- the change, where the block is b
abbrev on_block : ℕ → ℕ → (BlockProgress → BlockProgress) → BlockProgress → BlockProgress
on_block b k change x = cond (b == k) (change x) x

written : (blocks : List BlockProgress) (b k : ℕ) (change : BlockProgress → BlockProgress) → b < length blocks → get_or (with_block blocks b change) k idle ≡ on_block b k change (get_or blocks k idle)
written blocks b k change low =
    ⊎_elim
    (λ (same : b ≡ k).
    subst (λ n. get_or (with_block blocks b change) n idle ≡ on_block b n change (get_or blocks n idle)) same
    (entry_set blocks b b (change (get_or blocks b idle)) idle low))
    (λ (other : b ≡ k → ⊥).
    let t = ne_eqb b k other in
    entry_set blocks b k (change (get_or blocks b idle)) idle low ∙ (ap (λ u. cond u (change (get_or blocks b idle)) (get_or blocks k idle)) t ∙ ap (λ u. cond u (change (get_or blocks k idle)) (get_or blocks k idle)) (sym t)))
    (cases_eq b k)

keeps : {X : Type 0} (f : BlockProgress → X) (b k : ℕ) (change : BlockProgress → BlockProgress) (x : BlockProgress) → ((y : BlockProgress) → f (change y) ≡ f y) → f (on_block b k change x) ≡ f x
keeps f b k change x same = elim (b == k) as (λ u. f (cond u (change x) x) ≡ f x) [ true ↦ same x | false ↦ refl ]

abbrev arrange : ℕ → Option Act → BlockProgress → BlockProgress
arrange k (Some (GroupAsync g q c)) x = on_block c.0 k (λ y. record y { group = Some g }) x
arrange k (Some (Notify g q c)) x = on_block c.0 k (λ y. record y { home = q }) x
arrange k (Some (NotifyBlock b q c)) x = on_block c.0 k (λ y. record y { home = q }) x
arrange k _ x = x

abbrev call : ℕ → Blk → Option Act → BlockProgress → BlockProgress
call k b (Some (Sync q c)) x = on_block c.0 k (λ y. record y { caller = Some b }) x
call k b (Some (BarrierSync q c)) x = on_block c.0 k (λ y. record y { caller = Some b }) x
call k b _ x = x

abbrev one_act : ℕ → Run → Option Act → BlockProgress → BlockProgress
one_act k (Block b) act x = call k b act (on_block b.0 k (λ y. record y { done = y.done + 1 }) x)
one_act k (Source s) act x = x

abbrev by_event : PlanView → Event → ℕ → BlockProgress → BlockProgress
by_event plan (Start w b) k x = on_block b.0 k (λ y. record y { started = true }) x
by_event plan (Acted w run i) k x = arrange k (act_at plan run i) (one_act k run (act_at plan run i) x)
by_event plan e k x = x

-- the act names no block beyond n
abbrev Names : Option Act → ℕ → Type 0
Names act n = (a : Act) (c : Blk) → act ≡ Some a → block_of a ≡ Some c → c.0 < n

arranged_long : (blocks : List BlockProgress) (act : Option Act) → length (arranged blocks act) ≡ length blocks
arranged_long blocks (Some (GroupAsync g q c)) = length-set blocks c.0 (record (get_or blocks c.0 idle) { group = Some g })
arranged_long blocks (Some (Notify g q c)) = length-set blocks c.0 (record (get_or blocks c.0 idle) { home = q })
arranged_long blocks (Some (NotifyBlock b q c)) = length-set blocks c.0 (record (get_or blocks c.0 idle) { home = q })
arranged_long blocks _ = refl

arranged_is : (blocks : List BlockProgress) (act : Option Act) (k : ℕ) → Names act (length blocks) → get_or (arranged blocks act) k idle ≡ arrange k act (get_or blocks k idle)
arranged_is blocks (Some (GroupAsync g q c)) k low = written blocks c.0 k (λ (y : BlockProgress). record y { group = Some g }) (low (GroupAsync g q c) c refl refl)
arranged_is blocks (Some (Notify g q c)) k low = written blocks c.0 k (λ (y : BlockProgress). record y { home = q }) (low (Notify g q c) c refl refl)
arranged_is blocks (Some (NotifyBlock b q c)) k low = written blocks c.0 k (λ (y : BlockProgress). record y { home = q }) (low (NotifyBlock b q c) c refl refl)
arranged_is blocks _ k low = refl

called_is : (blocks : List BlockProgress) (b : Blk) (act : Option Act) (k : ℕ) → Names act (length blocks) → get_or (called blocks b act) k idle ≡ call k b act (get_or blocks k idle)
called_is blocks b (Some (Sync q c)) k low = written blocks c.0 k (λ (y : BlockProgress). record y { caller = Some b }) (low (Sync q c) c refl refl)
called_is blocks b (Some (BarrierSync q c)) k low = written blocks c.0 k (λ (y : BlockProgress). record y { caller = Some b }) (low (BarrierSync q c) c refl refl)
called_is blocks b _ k low = refl

counted_is : (blocks : List BlockProgress) (run : Run) (act : Option Act) (k : ℕ) → ((b : Blk) → run ≡ Block b → b.0 < length blocks) → Names act (length blocks) → get_or (counted blocks run act) k idle ≡ one_act k run act (get_or blocks k idle)
counted_is blocks (Block b) act k own low =
    let long = length-set blocks b.0 (record (get_or blocks b.0 idle) { done = (get_or blocks b.0 idle).done + 1 }) in
    called_is (with_block blocks b.0 (λ (y : BlockProgress). record y { done = y.done + 1 })) b act k (λ a c at of. let l = low a c at of in omega (arith, l, long))
    ∙ ap (call k b act) (written blocks b.0 k (λ (y : BlockProgress). record y { done = y.done + 1 }) (own b refl))
counted_is blocks (Source s) act k own low = refl

block_by : (plan : PlanView) (past : List Event) (e : Event) (v : MachineView) (k : ℕ) → IsPlan plan → IsLawful plan (e ∷ past) → OwnFit plan v → get_or (blocks_by plan v e) k idle ≡ by_event plan e k (block_at v k)
block_by plan past (Start w b) v k valid lawful own =
    let known = ltb-true b.0 (length plan.blocks) (and_parts (is_worker w) (has_block plan b.0) (allowed plan past (Start w b) lawful.1).known).1 in
    let long = own.blocks in
    written v.blocks b.0 k (λ (y : BlockProgress). record y { started = true }) (omega (arith, known, long))
block_by plan past (Acted w run i) v k valid lawful own =
    let act = act_at plan run i in
    let long = own.blocks in
    let names : Names act (length v.blocks) = λ a c at of. let l = act_block_within plan a c (recorded_fits plan (Acted w run i) a valid at) of in omega (arith, l, long) in
    let size = counted_long v.blocks run act in
    arranged_is (counted v.blocks run act) act k (λ a c at of. let l = names a c at of in omega (arith, l, size))
    ∙ ap (arrange k act) (counted_is v.blocks run act k (λ b at. let l = known_block plan past w b i (subst (λ r. IsLawful plan (Acted w r i ∷ past)) at lawful) in omega (arith, l, long)) names)
block_by plan past e v k valid lawful own = refl

-- ## What is submitted

noted_keeps : {X : Type 0} (f : BlockProgress → X) → ((y : BlockProgress) (s : Submission) → f (record y { node = s.node; barrier = s.barrier }) ≡ f y) → (subs : List Submission) (blocks : List BlockProgress) (k : ℕ)
    → f (get_or (fold noted blocks subs) k idle) ≡ f (get_or blocks k idle)
noted_keeps f same [] blocks k = refl
noted_keeps f same (s ∷ subs) blocks k =
    noted_keeps f same subs (noted blocks s) k ∙ set_keeps blocks s.blk.0 k
  where
    set_keeps : (xs : List BlockProgress) (b k : ℕ) → f (get_or (with_block xs b (λ (y : BlockProgress). record y { node = s.node; barrier = s.barrier })) k idle) ≡ f (get_or xs k idle)
    set_keeps [] b k = refl
    set_keeps (x ∷ xs) zero zero = same x s
    set_keeps (x ∷ xs) zero (suc k) = refl
    set_keeps (x ∷ xs) (suc b) zero = refl
    set_keeps (x ∷ xs) (suc b) (suc k) = set_keeps xs b k

noted_none : (subs : List Submission) (blocks : List BlockProgress) (b : ℕ) → count_by (is_of b) subs ≡ 0 → get_or (fold noted blocks subs) b idle ≡ get_or blocks b idle
noted_none [] blocks b none = refl
noted_none (s ∷ subs) blocks b none =
    let c = count_by-cons (is_of b) s subs in
    let other : b ≡ s.blk.0 → ⊥ = λ same. let t = ap (λ u. cond {A = ℕ} u 1 0) (eq-eqb s.blk.0 b (sym same)) in omega (arith, c, t, none) in
    noted_none subs (noted blocks s) b (omega (arith, c, none))
    ∙ get_or-set_other blocks s.blk.0 b (record (get_or blocks s.blk.0 idle) { node = s.node; barrier = s.barrier }) idle other

-- the block that is submitted once is what its submission says
noted_is : {X : Type 0} (f : BlockProgress → X) (g : Submission → X) → ((y : BlockProgress) (s : Submission) → f (record y { node = s.node; barrier = s.barrier }) ≡ g s) → (subs : List Submission) (blocks : List BlockProgress) (b : ℕ) → b < length blocks
    → count_by (is_of b) subs ≤ 1 → f (get_or (fold noted blocks subs) b idle) ≡ option_map_or g (find (is_of b) subs) (f (get_or blocks b idle))
noted_is f g tells [] blocks b low few = refl
noted_is f g tells (s ∷ subs) blocks b low few =
    let c = count_by-cons (is_of b) s subs in
    ⊎_elim
    (λ (same : s.blk.0 ≡ b).
    let t = eq-eqb s.blk.0 b same in
    let one = ap (λ u. cond {A = ℕ} u 1 0) t in
    ap f (noted_none subs (noted blocks s) b (omega (arith, c, one, few)))
    ∙ (ap f (written blocks s.blk.0 b (λ (y : BlockProgress). record y { node = s.node; barrier = s.barrier }) (omega (arith, low, same)))
    ∙ (ap (λ u. f (cond u (record (get_or blocks b idle) { node = s.node; barrier = s.barrier }) (get_or blocks b idle))) t
    ∙ (tells (get_or blocks b idle) s ∙ ap (λ u. option_map_or g (cond u (Some s) (find (is_of b) subs)) (f (get_or blocks b idle))) (sym t)))))
    (λ (other : s.blk.0 ≡ b → ⊥).
    let t = ne_eqb s.blk.0 b other in
    let long = length-set blocks s.blk.0 (record (get_or blocks s.blk.0 idle) { node = s.node; barrier = s.barrier }) in
    noted_is f g tells subs (noted blocks s) b (omega (arith, low, long)) (omega (arith, c, few))
    ∙ (ap (λ x. option_map_or g (find (is_of b) subs) (f x)) (get_or-set_other blocks s.blk.0 b (record (get_or blocks s.blk.0 idle) { node = s.node; barrier = s.barrier }) idle (λ i. other (sym i)))
    ∙ ap (λ u. option_map_or g (cond u (Some s) (find (is_of b) subs)) (f (get_or blocks b idle))) (sym t)))
    (cases_eq s.blk.0 b)

-- ## The fields

arrange_keeps : {X : Type 0} (f : BlockProgress → X) → ((y : BlockProgress) (g : Obj) → f (record y { group = Some g }) ≡ f y) → ((y : BlockProgress) (q : Obj) → f (record y { home = q }) ≡ f y) → (k : ℕ) (act : Option Act) (x : BlockProgress)
    → f (arrange k act x) ≡ f x
arrange_keeps f group home k (Some (GroupAsync g q c)) x = keeps f c.0 k (λ (y : BlockProgress). record y { group = Some g }) x (λ y. group y g)
arrange_keeps f group home k (Some (Notify g q c)) x = keeps f c.0 k (λ (y : BlockProgress). record y { home = q }) x (λ y. home y q)
arrange_keeps f group home k (Some (NotifyBlock b q c)) x = keeps f c.0 k (λ (y : BlockProgress). record y { home = q }) x (λ y. home y q)
arrange_keeps f group home k _ x = refl

call_keeps : {X : Type 0} (f : BlockProgress → X) → ((y : BlockProgress) (b : Blk) → f (record y { caller = Some b }) ≡ f y) → (k : ℕ) (b : Blk) (act : Option Act) (x : BlockProgress) → f (call k b act x) ≡ f x
call_keeps f caller k b (Some (Sync q c)) x = keeps f c.0 k (λ (y : BlockProgress). record y { caller = Some b }) x (λ y. caller y b)
call_keeps f caller k b (Some (BarrierSync q c)) x = keeps f c.0 k (λ (y : BlockProgress). record y { caller = Some b }) x (λ y. caller y b)
call_keeps f caller k b _ x = refl

act_keeps : {X : Type 0} (f : BlockProgress → X) → ((y : BlockProgress) (b : Blk) → f (record y { caller = Some b }) ≡ f y) → ((y : BlockProgress) → f (record y { done = y.done + 1 }) ≡ f y) → (k : ℕ) (run : Run) (act : Option Act) (x : BlockProgress) → f (one_act k run act x) ≡ f x
act_keeps f caller done k (Block b) act x =
    call_keeps f caller k b act (on_block b.0 k (λ (y : BlockProgress). record y { done = y.done + 1 }) x) ∙ keeps f b.0 k (λ (y : BlockProgress). record y { done = y.done + 1 }) x done
act_keeps f caller done k (Source s) act x = refl

started_by : (plan : PlanView) (past : List Event) (e : Event) (k : ℕ) (x : BlockProgress) → x.started ≡ is_started past k → (by_event plan e k x).started ≡ is_started (e ∷ past) k
started_by plan past (Start w b) k x tie = elim (b.0 == k) as (λ u. (cond u (record x { started = true }) x).started ≡ (u || is_started past k)) [ true ↦ refl | false ↦ tie ]
started_by plan past (Acted w run i) k x tie =
    arrange_keeps (λ (y : BlockProgress). y.started) (λ y g. refl) (λ y q. refl) k (act_at plan run i) (one_act k run (act_at plan run i) x)
    ∙ (act_keeps (λ (y : BlockProgress). y.started) (λ y b. refl) (λ y. refl) k run (act_at plan run i) x ∙ tie)
started_by plan past e k x tie = tie

one_act_done : (k : ℕ) (run : Run) (act : Option Act) (x : BlockProgress) → (one_act k run act x).done ≡ cond (same_run run (Block (record { 0 = k }))) (x.done + 1) x.done
one_act_done k (Block b) act x =
    call_keeps (λ (y : BlockProgress). y.done) (λ y c. refl) k b act (on_block b.0 k (λ (y : BlockProgress). record y { done = y.done + 1 }) x)
    ∙ elim (b.0 == k) as (λ u. (cond u (record x { done = x.done + 1 }) x).done ≡ cond u (x.done + 1) x.done) [ true ↦ refl | false ↦ refl ]
one_act_done k (Source s) act x = refl

done_by : (plan : PlanView) (past : List Event) (e : Event) (k : ℕ) (x : BlockProgress) → IsLawful plan (e ∷ past) → x.done ≡ acts_done past (Block (record { 0 = k })) → (by_event plan e k x).done ≡ acts_done (e ∷ past) (Block (record { 0 = k }))
done_by plan past (Start w b) k x lawful tie =
    keeps (λ (y : BlockProgress). y.done) b.0 k (λ (y : BlockProgress). record y { started = true }) x (λ y. refl)
    ∙ (tie
    ∙ ⊎_elim
    (λ (same : b.0 ≡ k).
    let fresh : is_started past k ≡ false = subst (λ n. is_started past n ≡ false) same (at_start plan past w b lawful.1).fresh in
    unstarted_step plan past lawful.0 (record { 0 = k }) fresh ∙ ap (λ u. cond u 0 (acts_done past (Block (record { 0 = k })))) (sym (eq-eqb b.0 k same)))
    (λ (other : b.0 ≡ k → ⊥). ap (λ u. cond u 0 (acts_done past (Block (record { 0 = k })))) (sym (ne_eqb b.0 k other)))
    (cases_eq b.0 k))
done_by plan past (Acted w run i) k x lawful tie =
    arrange_keeps (λ (y : BlockProgress). y.done) (λ y g. refl) (λ y q. refl) k (act_at plan run i) (one_act k run (act_at plan run i) x)
    ∙ (one_act_done k run (act_at plan run i) x
    ∙ ap (λ n. cond (same_run run (Block (record { 0 = k }))) (n + 1) n) tie)
done_by plan past e k x lawful tie = tie

arrange_group : (k : ℕ) (act : Option Act) (x : BlockProgress) → (arrange k act x).group ≡ option_or (grouped k act) x.group
arrange_group k (Some (GroupAsync g q c)) x = elim (c.0 == k) as (λ u. (cond u (record x { group = Some g }) x).group ≡ option_or (cond u (Some g) None) x.group) [ true ↦ refl | false ↦ refl ]
arrange_group k (Some (Notify g q c)) x = keeps (λ (y : BlockProgress). y.group) c.0 k (λ (y : BlockProgress). record y { home = q }) x (λ y. refl)
arrange_group k (Some (NotifyBlock b q c)) x = keeps (λ (y : BlockProgress). y.group) c.0 k (λ (y : BlockProgress). record y { home = q }) x (λ y. refl)
arrange_group k _ x = refl

group_by : (plan : PlanView) (past : List Event) (e : Event) (k : ℕ) (x : BlockProgress) → x.group ≡ group_of plan past k → (by_event plan e k x).group ≡ group_of plan (e ∷ past) k
group_by plan past (Start w b) k x tie = keeps (λ (y : BlockProgress). y.group) b.0 k (λ (y : BlockProgress). record y { started = true }) x (λ y. refl) ∙ tie
group_by plan past (Acted w run i) k x tie =
    arrange_group k (act_at plan run i) (one_act k run (act_at plan run i) x)
    ∙ ap (option_or (grouped k (act_at plan run i))) (act_keeps (λ (y : BlockProgress). y.group) (λ y b. refl) (λ y. refl) k run (act_at plan run i) x ∙ tie)
group_by plan past e k x tie = tie

call_caller : (k : ℕ) (b : Blk) (act : Option Act) (x : BlockProgress) → (call k b act x).caller ≡ option_or (called_by k b act) x.caller
call_caller k b (Some (Sync q c)) x = elim (c.0 == k) as (λ u. (cond u (record x { caller = Some b }) x).caller ≡ option_or (cond u (Some b) None) x.caller) [ true ↦ refl | false ↦ refl ]
call_caller k b (Some (BarrierSync q c)) x = elim (c.0 == k) as (λ u. (cond u (record x { caller = Some b }) x).caller ≡ option_or (cond u (Some b) None) x.caller) [ true ↦ refl | false ↦ refl ]
call_caller k b _ x = refl

caller_by : (plan : PlanView) (past : List Event) (e : Event) (k : ℕ) (x : BlockProgress) → x.caller ≡ caller_of plan past k → (by_event plan e k x).caller ≡ caller_of plan (e ∷ past) k
caller_by plan past (Start w b) k x tie = keeps (λ (y : BlockProgress). y.caller) b.0 k (λ (y : BlockProgress). record y { started = true }) x (λ y. refl) ∙ tie
caller_by plan past (Acted w (Block b) i) k x tie =
    arrange_keeps (λ (y : BlockProgress). y.caller) (λ y g. refl) (λ y q. refl) k (act_at plan (Block b) i) (one_act k (Block b) (act_at plan (Block b) i) x)
    ∙ (call_caller k b (act_at plan (Block b) i) (on_block b.0 k (λ (y : BlockProgress). record y { done = y.done + 1 }) x)
    ∙ ap (option_or (called_by k b (act_at plan (Block b) i))) (keeps (λ (y : BlockProgress). y.caller) b.0 k (λ (y : BlockProgress). record y { done = y.done + 1 }) x (λ y. refl) ∙ tie))
caller_by plan past (Acted w (Source s) i) k x tie = arrange_keeps (λ (y : BlockProgress). y.caller) (λ y g. refl) (λ y q. refl) k (act_at plan (Source s) i) x ∙ tie
caller_by plan past e k x tie = tie

-- what no event but a submission changes
submitted_by_none : {X : Type 0} (f : BlockProgress → X) → ((y : BlockProgress) (g : Obj) → f (record y { group = Some g }) ≡ f y) → ((y : BlockProgress) (q : Obj) → f (record y { home = q }) ≡ f y) → ((y : BlockProgress) (b : Blk) → f (record y { caller = Some b }) ≡ f y)
    → ((y : BlockProgress) → f (record y { done = y.done + 1 }) ≡ f y) → ((y : BlockProgress) → f (record y { started = true }) ≡ f y) → (plan : PlanView) (e : Event) (k : ℕ) (x : BlockProgress) → f (by_event plan e k x) ≡ f x
submitted_by_none f group home caller done started plan (Start w b) k x = keeps f b.0 k (λ (y : BlockProgress). record y { started = true }) x started
submitted_by_none f group home caller done started plan (Acted w run i) k x =
    arrange_keeps f group home k (act_at plan run i) (one_act k run (act_at plan run i) x) ∙ act_keeps f caller done k run (act_at plan run i) x
submitted_by_none f group home caller done started plan e k x = refl

-- ## Submissions

-- nothing beyond the plan's blocks is submitted
new_within : (plan : PlanView) (past : List Event) (e : Event) (b : ℕ) → IsPlan plan → IsLawful plan (e ∷ past) → length plan.blocks ≤ b → count_by (is_of b) (new_submissions plan past e) ≡ 0
new_within plan past e b valid lawful high =
    let some : 0 < length plan.blocks = elim (slice_get plan.blocks 0) as (λ o. slice_get plan.blocks 0 ≡ o → 0 < length plan.blocks) [
      | None ↦ λ none. let m = valid.main in let k = ap (λ o. option_map (λ (c : BlkView). c.name) o) none in cc
      | Some c ↦ λ at. slice_get_within plan.blocks 0 c at
    ] refl in
    let w = submitted_within plan (e ∷ past) valid lawful b high in
    let z = ap (λ u. cond {A = ℕ} u 1 0) (ne_eqb 0 b (λ same. omega (arith, same, some, high))) in
    let all = count_by-append (is_of b) (submitted plan past) (new_submissions plan past e) in
    omega (arith, w, z, all)

pub by_long : (plan : PlanView) (v : MachineView) (e : Event) → length (blocks_by plan v e) ≡ length v.blocks
by_long plan v (Start w c) = length-set v.blocks c.0 (record (get_or v.blocks c.0 idle) { started = true })
by_long plan v (Acted w run i) = arranged_long (counted v.blocks run (act_at plan run i)) (act_at plan run i) ∙ counted_long v.blocks run (act_at plan run i)
by_long plan v e = refl

-- a field that submissions alone write
field_step : {X : Type 0} (f : BlockProgress → X) (g : Submission → X) (d : X) → ((y : BlockProgress) (s : Submission) → f (record y { node = s.node; barrier = s.barrier }) ≡ g s) → (plan : PlanView) (past : List Event) (e : Event) (v : MachineView) (b : ℕ)
    → IsPlan plan → IsLawful plan (e ∷ past) → OwnFit plan v → submits plan v e ≡ new_submissions plan past e → ((x : BlockProgress) → f (by_event plan e b x) ≡ f x)
    → f (block_at v b) ≡ option_map_or g (submission_of plan past b) d → f (block_at (after plan v e) b) ≡ option_map_or g (submission_of plan (e ∷ past) b) d
field_step {X = X} f g d tells plan past e v b valid lawful own same still tie =
    let new = new_submissions plan past e in
    let old = submission_of plan past b in
    let all = count_by-append (is_of b) (submitted plan past) new in
    let once = submitted_once plan (e ∷ past) valid lawful b in
    let split : submission_of plan (e ∷ past) b ≡ option_or old (find (is_of b) new) = find-append (is_of b) (submitted plan past) new in
    let begin : f (get_or (blocks_by plan v e) b idle) ≡ f (block_at v b) = ap f (block_by plan past e v b valid lawful own) ∙ still (block_at v b) in
    ap (λ l. f (get_or (fold noted (blocks_by plan v e) l) b idle)) same
    ∙ ⊎_elim
    (λ (none : count_by (is_of b) new ≡ 0).
    ap f (noted_none new (blocks_by plan v e) b none)
    ∙ (begin ∙ (tie ∙ (keep_old old ∙ sym (ap (λ o. option_map_or g o d) (split ∙ ap (option_or old) (none_found (is_of b) new none)))))))
    (λ (some : count_by (is_of b) new ≡ 0 → ⊥).
    ⊎_elim
    (λ (low : b < length plan.blocks).
    let no_old : count_by (is_of b) (submitted plan past) ≡ 0 = none_left (count_by (is_of b) (submitted plan past)) (count_by (is_of b) new) (omega (arith, all, once)) some in
    let few : count_by (is_of b) new ≤ 1 = omega (arith, all, once) in
    let long = own.blocks in
    let wide = by_long plan v e in
    noted_is f g tells new (blocks_by plan v e) b (omega (arith, low, long, wide)) few
    ∙ (new_one (find (is_of b) new) (λ z. some (count_unfound (is_of b) new z)) (f (get_or (blocks_by plan v e) b idle))
    ∙ sym (ap (λ o. option_map_or g o d) (split ∙ ap (λ o. option_or o (find (is_of b) new)) (none_found (is_of b) (submitted plan past) no_old)))))
    (λ (high : length plan.blocks ≤ b). absurd (some (new_within plan past e b valid lawful high)))
    (cases_lt b (length plan.blocks)))
    (cases_eq (count_by (is_of b) new) 0)
  where
    keep_old : (o : Option Submission) → option_map_or g o d ≡ option_map_or g (option_or o None) d
    keep_old None = refl
    keep_old (Some s) = refl

    none_left : (m n : ℕ) → m + n ≤ 1 → (n ≡ 0 → ⊥) → m ≡ 0
    none_left m n h k = omega (arith, h, k)

    new_one : (o : Option Submission) → (o ≡ None → ⊥) → (was : X) → option_map_or g o was ≡ option_map_or g o d
    new_one None h was = absurd (h refl)
    new_one (Some s) h was = refl

-- ## The step

ended_step : (plan : PlanView) (past : List Event) (e : Event) (v : MachineView) (b : ℕ) → IsLawful plan (e ∷ past) → OwnFit plan v → ended_at v b ≡ is_ended past b → get_or (ended_after v e) b false ≡ is_ended (e ∷ past) b
ended_step plan past (End w c) v b lawful own tie =
    let known = ltb-true c.0 (length plan.blocks) (and_parts (is_worker w) (has_block plan c.0) (allowed plan past (End w c) lawful.1).known).1 in
    let long = own.ended in
    entry_set v.ended c.0 b true false (omega (arith, known, long))
    ∙ elim (c.0 == b) as (λ u. cond u true (ended_at v b) ≡ (u || is_ended past b)) [ true ↦ refl | false ↦ tie ]
ended_step plan past e v b lawful own tie = tie

pub blocks_step : (plan : PlanView) (past : List Event) (e : Event) (v : MachineView) → IsPlan plan → IsLawful plan (e ∷ past) → PartsFit plan v → OwnFit plan v → GroupsAre plan past v → SourcesAre plan past v → BlockMarksAre plan past v → BlocksAre plan past v
    → BlocksAre plan (e ∷ past) (after plan v e)
blocks_step plan past e v valid lawful fit own groups sources marks ties =
    let same = submits_are plan past e v valid lawful fit own groups ties sources marks in
    let by : (b : ℕ) → get_or (blocks_by plan v e) b idle ≡ by_event plan e b (block_at v b) = λ b. block_by plan past e v b valid lawful own in
    record {
      node = λ b.
          field_step (λ (x : BlockProgress). x.node) (λ s. s.node) None (λ y s. refl) plan past e v b valid lawful own same
          (submitted_by_none (λ (x : BlockProgress). x.node) (λ y g. refl) (λ y q. refl) (λ y c. refl) (λ y. refl) (λ y. refl) plan e b)
          (ties.node b ∙ then_is (submission_of plan past b))
          ∙ sym (then_is (submission_of plan (e ∷ past) b));
      barrier = λ b.
          field_step (λ (x : BlockProgress). x.barrier) (λ s. s.barrier) false (λ y s. refl) plan past e v b valid lawful own same
          (submitted_by_none (λ (x : BlockProgress). x.barrier) (λ y g. refl) (λ y q. refl) (λ y c. refl) (λ y. refl) (λ y. refl) plan e b)
          (ties.barrier b);
      started = λ b. noted_keeps (λ (x : BlockProgress). x.started) (λ y s. refl) (submits plan v e) (blocks_by plan v e) b ∙ (ap (λ (x : BlockProgress). x.started) (by b) ∙ started_by plan past e b (block_at v b) (ties.started b));
      done = λ b. noted_keeps (λ (x : BlockProgress). x.done) (λ y s. refl) (submits plan v e) (blocks_by plan v e) b ∙ (ap (λ (x : BlockProgress). x.done) (by b) ∙ done_by plan past e b (block_at v b) lawful (ties.done b));
      group = λ b. noted_keeps (λ (x : BlockProgress). x.group) (λ y s. refl) (submits plan v e) (blocks_by plan v e) b ∙ (ap (λ (x : BlockProgress). x.group) (by b) ∙ group_by plan past e b (block_at v b) (ties.group b));
      caller = λ b. noted_keeps (λ (x : BlockProgress). x.caller) (λ y s. refl) (submits plan v e) (blocks_by plan v e) b ∙ (ap (λ (x : BlockProgress). x.caller) (by b) ∙ caller_by plan past e b (block_at v b) (ties.caller b));
      ended = λ b. ended_step plan past e v b lawful own (ties.ended b);
    }
  where
    then_is : (o : Option Submission) → option_and_then (λ s. s.node) o ≡ option_map_or (λ s. s.node) o None
    then_is None = refl
    then_is (Some s) = refl

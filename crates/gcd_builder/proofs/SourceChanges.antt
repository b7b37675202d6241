-- One act more in a source's handler, and a source's cancellation block.
use Rattle.std.proofs.Common.{ℕ, ◌≡◌, ◌<◌, ◌+◌, ◌==◌, Bool, true, ◌&&◌, List, [], ◌∷◌, ◌++◌, length, map, Some, None, is_none, option_to_list, count_by, refl, sym, ap, ◌∙◌, arith}
use Rattle.std.specs.Option.{option_and_then}
use Rattle.std.proofs.lemmas.Bool.{and_from}
use Rattle.std.proofs.lemmas.List.{append-nil, length_push}
use Rattle.std.proofs.lemmas.List.Concat.{flat_map-append}
use Rattle.gcd_plan.specs.Limits.{max_acts}
use Rattle.gcd_plan.specs.PlanView.{PlanView, ObjView, cancel_block}
use Rattle.gcd_plan.specs.Validity.{IsPlan, blocks_by, blocks_of, submitted_blocks, act_count, is_act, is_handler_act, is_object, is_declared}
use Rattle.gcd_plan.specs.declared.act.Act.{Act}
use Rattle.gcd_plan.specs.declared.numbers.Blk.{Blk}
use Rattle.gcd_plan.specs.declared.numbers.Obj.{Obj}
use Rattle.gcd_plan.proofs.Sums.{count_by-append}
use Rattle.gcd_plan.proofs.Quantifiers.{list_all_get, list_all_push}
use Rattle.gcd_plan.proofs.Options.{none_from_is_none}
use Rattle.gcd_builder.specs.Changes.{with_object_at, object_with_act, with_cancel}
use Rattle.gcd_builder.specs.Taken.{is_free, is_untaken_by}
use Rattle.gcd_builder.proofs.Growth.{Grows}
use Rattle.gcd_builder.proofs.ObjectChanges as change
use Rattle.gcd_builder.proofs.ObjectChanges.{StandsAsSource, Keeps, own_fields, still_object}
use Rattle.gcd_builder.proofs.Submitted.{act_once, once_more}

-- the blocks that a handler submits with one act more
joined : (plan : PlanView) (acts : List Act) (act : Act) (rest : List Blk) (p : Blk → Bool) → count_by p (blocks_of plan (acts ++ act ∷ []) ++ rest) ≡ count_by p (blocks_of plan acts ++ rest) + count_by p (blocks_by plan act)
joined plan acts act rest p =
    let more : blocks_of plan (acts ++ act ∷ []) ≡ blocks_of plan acts ++ blocks_by plan act =
    flat_map-append (blocks_by plan) acts (act ∷ []) ∙ ap (λ xs. blocks_of plan acts ++ xs) (append-nil (blocks_by plan act))
    in
    let whole = ap (λ xs. count_by p (xs ++ rest)) more in
    let front = count_by-append p (blocks_of plan acts ++ blocks_by plan act) rest in
    let own = count_by-append p (blocks_of plan acts) (blocks_by plan act) in
    let old = count_by-append p (blocks_of plan acts) rest in
    omega arith

module _ (plan : PlanView) (valid : IsPlan plan) (s : Obj) (at : StandsAsSource plan s.0) where
  own_valid : is_object plan at.object ≡ true
  own_valid = list_all_get (is_object plan) plan.objects s.0 at.object valid.objects at.stands

  module _ (act : Act) where
    abbrev fuller : ObjView
    fuller = object_with_act act at.object

    pub keeps_act : Keeps at.object fuller
    keeps_act = record { same_name = refl; same_kind = refl; same_target = refl }

    abbrev pub act_new : PlanView
    act_new = change.new plan valid s.0 at.above at.object at.stands fuller keeps_act

    pub act_is_new : with_object_at s.0 (object_with_act act) plan ≡ act_new
    act_is_new = change.is_new plan valid s.0 at.above at.object at.stands fuller keeps_act (object_with_act act) refl

    pub act_grows : Grows plan act_new
    act_grows = change.grows plan valid s.0 at.above at.object at.stands fuller keeps_act

    pub act_length : length act_new.objects ≡ length plan.objects
    act_length = change.same_length plan valid s.0 at.above at.object at.stands fuller keeps_act

    pub act_names : map (λ (o : ObjView). o.name) act_new.objects ≡ map (λ (o : ObjView). o.name) plan.objects
    act_names = change.same_map plan valid s.0 at.above at.object at.stands fuller keeps_act (λ obj. obj.name) refl

    pub act_submitted : (q : ℕ) → count_by (λ (c : Blk). c.0 == q) (submitted_blocks act_new) ≡ count_by (λ (c : Blk). c.0 == q) (submitted_blocks plan) + count_by (λ (c : Blk). c.0 == q) (blocks_by plan act)
    act_submitted q =
        let more = change.more_submitted plan valid s.0 at.above at.object at.stands fuller keeps_act q in
        let one = joined plan at.object.handler act (option_to_list at.object.cancel) (λ (c : Blk). c.0 == q) in
        omega arith

    pub act_acts : act_count act_new ≡ act_count plan + 1
    act_acts =
        let more = change.more_acts plan valid s.0 at.above at.object at.stands fuller keeps_act in
        let one = length_push at.object.handler act in
        omega arith

    pub act_valid : is_handler_act act ≡ true → is_act plan act ≡ true → is_untaken_by plan act ≡ true → act_count plan < max_acts → IsPlan act_new
    act_valid handles fits fresh room =
        let own = own_fields plan at.object at.kind own_valid in
        let handled = list_all_push (λ a. is_handler_act a && is_act plan a) at.object.handler act own.0 (and_from (is_handler_act act) (is_act plan act) handles fits) in
        change.changed_valid plan valid s.0 at.above at.object at.stands fuller keeps_act
        (still_object plan at.object (at.object.handler ++ act ∷ []) at.object.cancel at.kind own_valid handled own.1)
        (let more = act_acts in omega arith)
        (λ q. let more = act_submitted q in let once = act_once plan valid act fits fresh q in omega arith)

  module _ (b : Blk) (lacks : is_none (cancel_block plan s.0) ≡ true) where
    abbrev cancelled : ObjView
    cancelled = record at.object { cancel = Some b }

    pub keeps_cancel : Keeps at.object cancelled
    keeps_cancel = record { same_name = refl; same_kind = refl; same_target = refl }

    abbrev pub cancel_new : PlanView
    cancel_new = change.new plan valid s.0 at.above at.object at.stands cancelled keeps_cancel

    pub cancel_is_new : with_cancel s b plan ≡ cancel_new
    cancel_is_new = change.is_new plan valid s.0 at.above at.object at.stands cancelled keeps_cancel (λ (obj : ObjView). record obj { cancel = Some b }) refl

    pub cancel_length : length cancel_new.objects ≡ length plan.objects
    cancel_length = change.same_length plan valid s.0 at.above at.object at.stands cancelled keeps_cancel

    pub cancel_names : map (λ (o : ObjView). o.name) cancel_new.objects ≡ map (λ (o : ObjView). o.name) plan.objects
    cancel_names = change.same_map plan valid s.0 at.above at.object at.stands cancelled keeps_cancel (λ obj. obj.name) refl

    no_cancel : at.object.cancel ≡ None
    no_cancel = none_from_is_none at.object.cancel (ap (λ o. is_none (option_and_then (λ (obj : ObjView). obj.cancel) o)) (sym at.stands) ∙ lacks)

    pub cancel_submitted : (q : ℕ) → count_by (λ (c : Blk). c.0 == q) (submitted_blocks cancel_new) ≡ count_by (λ (c : Blk). c.0 == q) (submitted_blocks plan) + count_by (λ (c : Blk). c.0 == q) (option_to_list (Some b))
    cancel_submitted q =
        let p = λ (c : Blk). c.0 == q in
        let more = change.more_submitted plan valid s.0 at.above at.object at.stands cancelled keeps_cancel q in
        let old = count_by-append p (blocks_of plan at.object.handler) (option_to_list at.object.cancel) in
        let none = ap (λ o. count_by p (option_to_list o)) no_cancel in
        let now = count_by-append p (blocks_of plan at.object.handler) (option_to_list (Some b)) in
        omega arith

    pub cancel_acts : act_count cancel_new ≡ act_count plan
    cancel_acts = let more = change.more_acts plan valid s.0 at.above at.object at.stands cancelled keeps_cancel in omega arith

    pub cancel_valid : is_declared plan b ≡ true → is_free plan b ≡ true → IsPlan cancel_new
    cancel_valid fits fresh =
        let own = own_fields plan at.object at.kind own_valid in
        change.changed_valid plan valid s.0 at.above at.object at.stands cancelled keeps_cancel
        (still_object plan at.object at.object.handler (Some b) at.kind own_valid own.0 fits)
        (let same = cancel_acts in omega (arith, valid.few_acts))
        (λ q. let more = cancel_submitted q in let once = once_more plan valid (Some b) fresh q in omega arith)

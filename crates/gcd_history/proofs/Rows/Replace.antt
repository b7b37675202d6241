-- Worked rows: replace sources.
use Rattle.std.specs.Prelude.{◌≡◌, [], ◌∷◌, refl, codes}
use Rattle.gcd_plan.specs.declared.act.Act.TheVariants.{Activate, Merge}
use Rattle.gcd_plan.specs.declared.kind.Kind.TheVariants.{Replace}
use Rattle.gcd_history.proofs.Rows.Samples.{words, o, source, plan_of, text, told_of}

-- source s replace on root; main; merge s 3; merge s 9; activate s
newest_merge_stays : told_of (plan_of (source (codes "s") Replace [] ∷ []) (Merge (o 1) 3 ∷ Merge (o 1) 9 ∷ Activate (o 1) ∷ []) [])
    ≡ text (codes "start 0 main;act 0 main 0;act 0 main 1;act 0 main 2;end 0 main;deliver 0 s;deliver_end 0 s;events 7;s received 9 in 1 pending 0;drained;")
unfolding words
newest_merge_stays = refl

-- the same with merge s 0 in place of merge s 9
merge_of_zero_takes_all_away : told_of (plan_of (source (codes "s") Replace [] ∷ []) (Merge (o 1) 3 ∷ Merge (o 1) 0 ∷ Activate (o 1) ∷ []) [])
    ≡ text (codes "start 0 main;act 0 main 0;act 0 main 1;act 0 main 2;end 0 main;events 5;s received 0 in 0 pending 0;drained;")
unfolding words
merge_of_zero_takes_all_away = refl

-- Worked rows: what works count.
use Rattle.std.specs.Prelude.{◌≡◌, ℕ, ◌+◌, ◌*◌, ◌%◌, List, [], ◌∷◌, Some, refl, codes, map}
use Rattle.std.specs.List.{range_with_len}
use Rattle.gcd_plan.specs.PlanView.{PlanView}
use Rattle.gcd_plan.specs.declared.work.How.TheVariants.{Bytes, Lines, Words, Sum, Count}
use Rattle.gcd_history.specs.Values.{value_of, counted}
use Rattle.gcd_history.proofs.Rows.Samples.{words, block, plan_of, text}

-- byte i of the file is (7 * i + 3) mod 256
abbrev bytes_of_file : List ℕ
bytes_of_file = map (λ i. (7 * i + 3) % 256) (range_with_len 0 4096)

-- a block that sums 64 bytes of the file
abbrev summing : (from : ℕ) → PlanView
summing from = plan_of [] [] (record (block (codes "b") []) { work = Some (record { how = Sum; file = 0; start = from; len = 64 }) } ∷ [])

sums_of_ranges : map (λ from. value_of (summing from) (bytes_of_file ∷ []) 1) (37 ∷ 74 ∷ 111 ∷ []) ≡ 7328 ∷ 7520 ∷ 7456 ∷ []
unfolding words
sums_of_ranges = refl

-- a range goes no further than its file
sum_past_the_end : value_of (summing 4095) (bytes_of_file ∷ []) 1 ≡ 252
unfolding words
sum_past_the_end = refl

main_has_no_value : value_of (summing 0) (bytes_of_file ∷ []) 0 ≡ 0
unfolding words
main_has_no_value = refl

abbrev counts_of : List ℕ → List ℕ
counts_of bytes = map (λ how. counted how bytes) (Bytes ∷ Lines ∷ Words ∷ Sum ∷ Count 98 ∷ [])

counts_of_a_text : counts_of (text (codes " a  bb;b;;c ")) ≡ 12 ∷ 3 ∷ 4 ∷ 648 ∷ 3 ∷ []
counts_of_a_text = refl

counts_of_nothing : counts_of [] ≡ 0 ∷ 0 ∷ 0 ∷ 0 ∷ 0 ∷ []
counts_of_nothing = refl

-- 9 to 13 and 32 stand between words, and no other byte does
spaces_between_words : map (λ c. counted Words (97 ∷ c ∷ 97 ∷ [])) (0 ∷ 8 ∷ 9 ∷ 10 ∷ 11 ∷ 12 ∷ 13 ∷ 14 ∷ 31 ∷ 32 ∷ 33 ∷ 255 ∷ [])
    ≡ 1 ∷ 1 ∷ 2 ∷ 2 ∷ 2 ∷ 2 ∷ 2 ∷ 1 ∷ 1 ∷ 2 ∷ 1 ∷ 1 ∷ []
spaces_between_words = refl

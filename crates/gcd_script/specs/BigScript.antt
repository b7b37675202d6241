-- The script of the large input: n blocks that sum ranges of one file, on six queues.
use Rattle.std.specs.Prelude.{ℕ, ◌*◌, ◌%◌, ◌==◌, if◌then◌else◌, List, [], ◌∷◌, ◌++◌, map, codes, decimal}
use Rattle.std.specs.List.{flat_map, range_with_len, slice_index_or}

-- the name of block k
abbrev pub big_name : ℕ → List ℕ
big_name k = codes "b" ++ decimal k

-- where the range of block k starts
abbrev pub big_start : ℕ → ℕ
big_start k = (37 * k) % 4033

-- the line that declares block k
abbrev pub big_block : ℕ → List ℕ
big_block k = codes "block " ++ (big_name k ++ (codes " sum data " ++ (decimal (big_start k) ++ codes " 64")))

-- the six queues, by place from 0
abbrev pub big_queue_at : ℕ → List ℕ
big_queue_at place =
    slice_index_or (codes "s0" ∷ codes "s1" ∷ codes "s2" ∷ codes "s3" ∷ codes "c0" ∷ codes "c1" ∷ []) place []

-- the queue to which block k goes
abbrev pub big_queue : ℕ → List ℕ
big_queue k = big_queue_at (k % 6)

-- the act that submits block k: each sixteenth is a barrier
abbrev pub big_act : ℕ → List ℕ
big_act k = (if k % 16 == 0 then codes "barrier " else codes "async ") ++ (big_queue k ++ (codes " " ++ big_name k))

-- the lines before the blocks
abbrev pub big_head : List (List ℕ)
big_head =
    codes "file data data"
    ∷ codes "queue s0 serial"
    ∷ codes "queue s1 serial"
    ∷ codes "queue s2 serial on s0"
    ∷ codes "queue s3 serial on s1"
    ∷ codes "queue c0 concurrent"
    ∷ codes "queue c1 concurrent on s0"
    ∷ []

-- the lines of the script with n blocks
abbrev pub big_lines : ℕ → List (List ℕ)
big_lines n = big_head ++ (map big_block (range_with_len 1 n) ++ codes "main" ∷ map big_act (range_with_len 1 n))

-- a line with its end
abbrev pub ended_line : List ℕ → List ℕ
ended_line line = line ++ 10 ∷ []

-- the script with n blocks: each line ends with the byte 10
abbrev pub big_script : ℕ → List ℕ
big_script n = flat_map ended_line (big_lines n)

-- What a block's work computes (this project's own rule: libdispatch leaves it to the block's code).
use Rattle.std.specs.Prelude.{ℕ, ◌+◌, ◌-◌, ◌==◌, not, ◌||◌, nat_le, ◌&&◌, Bool, false, true, if◌then◌else◌, List, [], ◌∷◌, length, take, drop, sum, count_by, slice_get, unwrap_or}
use Rattle.std.specs.Option.{option_map_or}
use Rattle.gcd_plan.specs.PlanView.{PlanView, work_of}
use Rattle.gcd_plan.specs.declared.work.How.{How}
use Rattle.gcd_plan.specs.declared.work.How.TheVariants.{Bytes, Lines, Words, Sum, Count}
use Rattle.gcd_plan.specs.declared.work.Work.{Work}

-- the work's range of a file: the bytes from `start` on, at most `len` of them and no more than the file has
abbrev pub range_of : Work → List ℕ → List ℕ
range_of work bytes = take work.len (drop work.start bytes)

-- a byte that stands between words: 9 to 13, or 32
abbrev pub is_space : ℕ → Bool
is_space c = (nat_le 9 c && nat_le c 13) || c == 32

-- how many words begin in the bytes, where a word goes on from before them or not
abbrev pub words_begun : (inside : Bool) → List ℕ → ℕ
words_begun inside [] = 0
words_begun inside (c ∷ bytes) =
    if is_space c then words_begun false bytes else (if inside then words_begun true bytes else words_begun true bytes + 1)

-- a word begins at place i: the byte there is no space, and it is the first or the byte before it is a space
abbrev pub begins_word : List ℕ → ℕ → Bool
begins_word bytes i =
    option_map_or (λ c. not (is_space c)) (slice_get bytes i) false
    && (i == 0 || option_map_or is_space (slice_get bytes (i - 1)) false)

-- the bytes, counted as the work says: their number, the number of bytes 10, the number of places where a word begins, their
-- sum, or the number of bytes of one value
abbrev pub counted : How → List ℕ → ℕ
counted Bytes bytes = length bytes
counted Lines bytes = count_by (λ c. c == 10) bytes
counted Words bytes = words_begun false bytes
counted Sum bytes = sum bytes
counted (Count v) bytes = count_by (λ c. c == v) bytes

-- the bytes of file n
abbrev pub file_bytes : List (List ℕ) → ℕ → List ℕ
file_bytes files n = unwrap_or (slice_get files n) []

-- the value of a work over the files, by number
abbrev pub work_value : List (List ℕ) → Work → ℕ
work_value files work = counted work.how (range_of work (file_bytes files work.file))

-- the value of block b; 0 without work
unfoldable pub value_of : PlanView → (files : List (List ℕ)) → ℕ → ℕ
value_of plan files b = option_map_or (work_value files) (work_of plan b) 0

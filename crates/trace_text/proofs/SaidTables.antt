-- The tables hold the parts of the texts of their rows.
use Rattle.std.proofs.Common.{◌≡◌, ℕ, ◌*◌, ◌/◌, ◌%◌, ◌^◌, ◌<◌, ◌≤◌, List, length, take, drop, get_or, Bool, true, false, not, refl, arith}
use Rattle.std.specs.Prelude.{◌==◌, ◌||◌, nat_le, decimal}
use Rattle.std.proofs.lemmas.Bool.{eqb-true, leb-true}
use Rattle.std.proofs.lemmas.Fmt.{length-decimal-le}
use Rattle.stp_grammar.specs.declared.packet.Row.{Row}
use Rattle.stp_grammar.specs.declared.packet.Row.TheVariants.{Frequency}
use Rattle.stp_grammar.specs.Opcodes.{line_of, row_at}
use Rattle.stp_grammar.proofs.Tables.{under, below, same, is_same}
use Rattle.trace_text.specs.declared.said_tables.TheConstants.{WRITTEN, PLACE_COUNTS, STAMP_COUNTS, WORDS, WORD_LENS, WIDTHS, WIDTH_LENS, DIGIT_COUNTS, MARKS, MARK_LENS}
use Rattle.trace_text.specs.SaidText.{is_told, is_placed, is_counted, is_late, is_timed, word_of, width_at, mark_at}
use Rattle.std.specs.Str.{bytes_eq}
use Rattle.trace_text.proofs.DigitTables.{same_bytes}

-- a test of the rows that are put so
asked : (a b : Bool) → a ≡ true → (not a || b) ≡ true → b ≡ true
asked true b e f = f
asked false b e f = cc

-- a test of the rows that are not put otherwise
other : (a b : Bool) → a ≡ false → (a || b) ≡ true → b ≡ true
other true b e f = cc
other false b e f = f

-- no row has more in a table than this
few_at : (most : ℕ) (counts : List ℕ) → under (λ k. nat_le (get_or counts k 0) most) 36 ≡ true → (n : ℕ) → n < 36 → get_or counts n 0 ≤ most
few_at most counts all n l = leb-true _ _ (below (λ k. nat_le (get_or counts k 0) most) 36 n l all)

-- a table of entries of this size has this text for a row, if the row is put so
abbrev has_text : ℕ → List ℕ → List ℕ → (ℕ → List ℕ) → ℕ → Bool
has_text size lens table text k = not (is_told k) || bytes_eq (take (get_or lens k 0) (drop (size * k) table)) (text k)

text_at : (size : ℕ) (lens table : List ℕ) (text : ℕ → List ℕ) → under (has_text size lens table text) 36 ≡ true → (n : ℕ) → n < 36 →
    is_told n ≡ true → take (get_or lens n 0) (drop (size * n) table) ≡ text n
text_at size lens table text all n l w = same_bytes _ _ (asked _ _ w (below (has_text size lens table text) 36 n l all))

pub written_is : (n : ℕ) → n < 36 → (WRITTEN / 2 ^ n % 2 == 1) ≡ is_told n
unfolding under same
written_is n l = is_same _ _ (below (λ k. same (WRITTEN / 2 ^ k % 2 == 1) (is_told k)) 36 n l refl)

pub placed_is : (n : ℕ) → n < 36 → (get_or PLACE_COUNTS.now n 0 == 1) ≡ is_placed (row_at n)
unfolding under same
placed_is n l = is_same _ _ (below (λ k. same (get_or PLACE_COUNTS.now k 0 == 1) (is_placed (row_at k))) 36 n l refl)

pub places_few : (n : ℕ) → n < 36 → get_or PLACE_COUNTS.now n 0 ≤ 1
unfolding under
places_few = few_at 1 PLACE_COUNTS.now refl

pub timed_is : (n : ℕ) → n < 36 → (get_or STAMP_COUNTS.now n 0 == 1) ≡ is_timed (row_at n)
unfolding under same
timed_is n l = is_same _ _ (below (λ k. same (get_or STAMP_COUNTS.now k 0 == 1) (is_timed (row_at k))) 36 n l refl)

pub stamps_few : (n : ℕ) → n < 36 → get_or STAMP_COUNTS.now n 0 ≤ 1
unfolding under
stamps_few = few_at 1 STAMP_COUNTS.now refl

-- the rows whose value is in decimal are the last two, before ASYNC, and their value has 32 bits
pub late_is : (n : ℕ) → n < 36 → nat_le 33 n ≡ is_late n
unfolding under same
late_is n l = is_same _ _ (below (λ k. same (nat_le 33 k) (is_late k)) 36 n l refl)

pub counted_few : (row : Row) (v : ℕ) → is_counted row ≡ true → v < 16 ^ (line_of row).payload → length (decimal v) ≤ 10
counted_few (Frequency true) v e h = length-decimal-le 10 v (omega arith) (omega arith) (omega arith)
counted_few (Frequency false) v e h = length-decimal-le 10 v (omega arith) (omega arith) (omega arith)
counted_few row v e h = cc

-- the table has how many digits the value has, where they are hexadecimal
abbrev has_digits : ℕ → Bool
has_digits k = not (is_told k) || (is_counted (row_at k) || (get_or DIGIT_COUNTS.now k 0 == (line_of (row_at k)).payload))

pub digit_count_is : (n : ℕ) → n < 36 → is_told n ≡ true → is_counted (row_at n) ≡ false →
    get_or DIGIT_COUNTS.now n 0 ≡ (line_of (row_at n)).payload
unfolding under
digit_count_is n l w h = eqb-true _ _ (other _ _ h (asked _ _ w (below has_digits 36 n l refl)))

pub digits_few : (n : ℕ) → n < 36 → get_or DIGIT_COUNTS.now n 0 ≤ 16
unfolding under
digits_few = few_at 16 DIGIT_COUNTS.now refl

-- the word, the width and the mark of a row
pub parts_few : (n : ℕ) → n < 36 → (get_or WORD_LENS.now n 0 ≤ 8) × (get_or WIDTH_LENS.now n 0 ≤ 8) × (get_or MARK_LENS.now n 0 ≤ 4)
unfolding under
parts_few n l = (few_at 8 WORD_LENS.now refl n l, few_at 8 WIDTH_LENS.now refl n l, few_at 4 MARK_LENS.now refl n l)

pub parts_are : (n : ℕ) → n < 36 → is_told n ≡ true →
    (take (get_or WORD_LENS.now n 0) (drop (8 * n) WORDS.now) ≡ word_of n)
    × (take (get_or WIDTH_LENS.now n 0) (drop (8 * n) WIDTHS.now) ≡ width_at (row_at n))
    × (take (get_or MARK_LENS.now n 0) (drop (4 * n) MARKS.now) ≡ mark_at (row_at n))
unfolding under
parts_are n l w = (
  text_at 8 WORD_LENS.now WORDS.now word_of refl n l w,
  text_at 8 WIDTH_LENS.now WIDTHS.now (λ k. width_at (row_at k)) refl n l w,
  text_at 4 MARK_LENS.now MARKS.now (λ k. mark_at (row_at k)) refl n l w,
)

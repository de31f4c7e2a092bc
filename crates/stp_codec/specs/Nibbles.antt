-- A byte after a list of nibbles, which may begin with the high one of a byte (MIPI System Trace Protocol, version 2;
-- that the low nibble of a byte comes first is this project's profile).
use Rattle.std.specs.Prelude.{◌≡◌, ℕ, zero, suc, ◌+◌, ◌≤◌, List, [], ◌∷◌, ◌++◌, None, true}
use Rattle.stp_codec.specs.Names.{Step, Quiet, Fault as Faulty, low_of, high_of, Placed, Grows, Tells}
use Rattle.stp_codec.specs.Names.{byte_at, nibbles_of, StpItem, IsProperItem, Start}
use Rattle.stp_codec.specs.Answers.{AnswersByte, AnswersNibble}
use Rattle.stp_codec.specs.Decoder.{EndsItem, IsSettled, Reads, ReadsAt, StandsAt, has_locked, is_hunter, is_live}
use Rattle.stp_codec.specs.Decoder.{nibble_at, order_of, read_of, skipped_by}
use Rattle.stp_codec.specs.Reading.{items_at, items_in, packets_of, rest_in}
use Rattle.stp_codec.specs.declared.decoder.StpDecoder.{StpDecoder}

-- its nibbles from a half on
abbrev pub nibbles_from : ℕ → ℕ → ℕ → List Placed
nibbles_from zero at byte = low_of at byte ∷ (high_of at byte ∷ [])
nibbles_from (suc half) at byte = high_of at byte ∷ []

-- those after it
abbrev pub nibbles_after : ℕ → ℕ → ℕ → List Placed
nibbles_after zero at byte = high_of at byte ∷ []
nibbles_after (suc half) at byte = []

-- and those before this half of it, and up to it
abbrev pub nibbles_before : ℕ → ℕ → ℕ → List Placed
nibbles_before zero at byte = []
nibbles_before (suc half) at byte = low_of at byte ∷ []

abbrev pub nibbles_to : ℕ → ℕ → ℕ → List Placed
nibbles_to zero at byte = low_of at byte ∷ []
nibbles_to (suc half) at byte = low_of at byte ∷ (high_of at byte ∷ [])

-- those that an answer takes: after a fault those up to the fault's; and those without the last of them
abbrev pub taken_by : {V : Type 0} → ℕ → ℕ → Step V → List Placed
taken_by at byte (Faulty f) = nibbles_to f.half at byte
taken_by at byte step = nibbles_to 1 at byte

abbrev pub before_by : {V : Type 0} → ℕ → ℕ → Step V → List Placed
before_by at byte (Faulty f) = nibbles_before f.half at byte
before_by at byte step = nibbles_before 1 at byte

-- After these nibbles it took those of a byte, up to a fault. Before the last of them there is none.
pub record TakesNibbles (old new : StpDecoder) (n : List Placed) (at byte : ℕ) (step : Step StpItem) : Type 0 where
  pub list : StandsAt new (n ++ taken_by at byte step)
  pub grows : Grows (items_at (order_of old) (is_hunter old) n)
      (items_at (order_of old) (is_hunter old) (n ++ taken_by at byte step)) at step
  pub sound : (items_at (order_of old) (is_hunter old) (n ++ before_by at byte step)).fault ≡ None

-- After this list of bytes, for which it stood by its state, it took one more.
pub record ReadsByte (old new : StpDecoder) (u : List Placed) (at byte : ℕ) (step : Step StpItem) : Type 0 where
  pub list : Reads new (u ++ byte_at at byte ∷ [])
  pub grows : Grows (items_in (order_of old) (is_hunter old) u)
      (items_in (order_of old) (is_hunter old) (u ++ byte_at at byte ∷ [])) at step
  pub grammar : has_locked old ≡ true →
      AnswersByte (order_of old) (packets_of (order_of old) (is_hunter old) (nibbles_of u))
      (rest_in (order_of old) (is_hunter old) (nibbles_of u)) at byte step

-- a fault is in this half of its byte
abbrev pub IsHalf : {V : Type 0} → ℕ → Step V → Type 0
IsHalf half (Faulty f) = f.half ≡ half
IsHalf half step = Unit {0}

-- What a nibble, which is this half of the byte at this offset, makes of a decoder that is settled: what it then stands
-- for, what is answered to it, and how many nibbles it holds and has skipped.
pub record TakesNibble (old new : StpDecoder) (at side nibble : ℕ) (answer : Step StpItem) : Type 0 where
  pub same : (order_of new ≡ order_of old) × (is_hunter new ≡ is_hunter old)
  pub settled : IsSettled new
  pub list : (n : List Placed) → ReadsAt old n → ReadsAt new (n ++ nibble_at at side nibble ∷ [])
  pub step : (n : List Placed) → ReadsAt old n → Grows (items_at (order_of old) (is_hunter old) n)
      (items_at (order_of old) (is_hunter old) (n ++ nibble_at at side nibble ∷ [])) at answer
  pub tells : Tells (is_live new) (skipped_by new) IsProperItem answer
  pub few : read_of new + skipped_by new ≤ read_of old + skipped_by old + 1
  pub more : (read_of new ≤ read_of old + 1) × (skipped_by new ≤ skipped_by old + 1)
  pub stays : has_locked old ≡ true → (has_locked new ≡ true) × (skipped_by new ≡ skipped_by old)
  pub grammar : (n : List Placed) → ReadsAt old n → has_locked old ≡ true →
      AnswersNibble (order_of old) (packets_of (order_of old) (is_hunter old) n)
      (rest_in (order_of old) (is_hunter old) n ++ nibble_at at side nibble ∷ [])
      (nibble_at at side nibble).place answer
      (packets_of (order_of old) (is_hunter old) (n ++ nibble_at at side nibble ∷ []))
      (rest_in (order_of old) (is_hunter old) (n ++ nibble_at at side nibble ∷ []))
  pub quiet : old.partial ≡ Start → has_locked old ≡ true → answer ≡ Quiet
  pub ends : EndsItem answer new.partial (has_locked new)
  pub half : IsHalf side answer

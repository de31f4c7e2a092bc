-- The words of STP timestamps, and the last word by the list of all timestamps so far: this project's profile of the
-- timestamps of the MIPI System Trace Protocol, version 2.
use Rattle.std.specs.Prelude.{◌≡◌, ℕ, ◌+◌, ◌*◌, ◌/◌, ◌%◌, ◌^◌, ◌<◌, List, [], ◌∷◌, ◌++◌, Bool, None, Some}
use Rattle.std.specs.Prelude.{nat_lt, ◌==◌, if◌then◌else◌, unwrap_or}
use Rattle.std.specs.List.{filter_map, last_or}
use Rattle.std.specs.Int.{sum_through}
use Rattle.trace_clock.specs.GrayCode.{natural_of}

-- a timestamp: its size and its word
pub record SizedWord : Type 0 where
  pub size : ℕ
  pub word : ℕ

abbrev pub sized : ℕ → ℕ → SizedWord
sized size word = record { size = size; word = word }

-- how many nibbles a word of this size has
abbrev pub nibble_count : ℕ → ℕ
nibble_count size = if nat_lt size 13 then size else (if size == 13 then 14 else 16)

-- 15 is no size, and a word has at most its size's nibbles
abbrev pub WordFits : ℕ → ℕ → Type 0
WordFits size word = (size < 15) × (word < 16 ^ nibble_count size)

-- nibble k of a number, counted from the low end
abbrev pub nibble_at : ℕ → ℕ → ℕ
nibble_at n k = n / 16 ^ k % 16

-- nibble k of the last word: that of the last timestamp whose word has more than k nibbles, or 0 where there is none
abbrev pub last_nibble : List SizedWord → ℕ → ℕ
last_nibble stamps k =
    let longer = filter_map (λ stamp. if nat_lt k (nibble_count stamp.size) then Some stamp.word else None) stamps in
    nibble_at (unwrap_or (last_or None longer) 0) k

-- the last word, of 16 nibbles
unfoldable pub last_word : List SizedWord → ℕ
last_word stamps = sum_through (λ k. last_nibble stamps k * 16 ^ k) 15

-- the last word after one more timestamp, by the last word before it
abbrev pub next_word : ℕ → SizedWord → ℕ
next_word last stamp = last / 16 ^ nibble_count stamp.size * 16 ^ nibble_count stamp.size + stamp.word

-- the time that the last of these timestamps tells: the last word, or its natural number where words are Gray
abbrev pub stamp_time : Bool → List SizedWord → ℕ
stamp_time gray stamps = if gray then natural_of (last_word stamps) else last_word stamps

-- after these timestamps, the least size with which one more tells this time, and its word
pub record IsLeast (gray : Bool) (stamps : List SizedWord) (time size word : ℕ) : Type 0 where
  pub fits : WordFits size word
  pub tells : stamp_time gray (stamps ++ sized size word ∷ []) ≡ time
  pub least : (other w : ℕ) → other < size → WordFits other w →
      stamp_time gray (stamps ++ sized other w ∷ []) ≡ time → ⊥

-- How many items of a word a source sent, and what counts them.
use Rattle.std.specs.Prelude.{◌≡◌, ℕ, ◌+◌, ◌*◌, ◌-◌, ◌^◌, ◌<◌, List, ◌++◌, Bool, false, ◌&&◌, ◌==◌, Option, None}
use Rattle.std.specs.Prelude.{Some, get_or, min}
use Rattle.std.specs.List.{count_by}
use Rattle.capture_actions.specs.Names.{ID_COUNT, Event, Packet, is_of}
use Rattle.capture_actions.specs.Words.{word_of, number_of}
use Rattle.capture_actions.specs.declared.item_word.ItemWord.{ItemWord}
use Rattle.capture_actions.specs.declared.item_word.TheConstants.{WORD_COUNT}
use Rattle.capture_actions.specs.declared.kind_counts.KindCounts.{KindCounts}
use Rattle.capture_actions.specs.declared.kind_counts.TheConstants.{MANY}

-- it is the word of this place in the order
abbrev pub is_at : ℕ → Option ItemWord → Bool
is_at k None = false
is_at k (Some word) = number_of word == k

-- how many of these events are items of this source with the word of this place, and with this word
unfoldable pub count_at : ℕ → ℕ → List (Event Packet) → ℕ
count_at x k es = count_by (λ e. is_of (Some x) e.source && is_at k (word_of e.what)) es

abbrev pub kind_count : ℕ → ItemWord → List (Event Packet) → ℕ
kind_count x word es = count_at x (number_of word) es

-- what is counted goes up to this
abbrev pub MOST : ℕ
MOST = 2 ^ 64 - 1

-- its number of the word of this place, of this source
abbrev pub number_at : KindCounts → ℕ → ℕ → ℕ
number_at counts x k = get_or counts.numbers (WORD_COUNT * x + k) 0

-- it has counted these events
abbrev pub HasCounted : KindCounts → List (Event Packet) → Type 0
HasCounted counts es = (x k : ℕ) → x < ID_COUNT → k < WORD_COUNT → number_at counts x k ≡ min (count_at x k es) MOST

-- It has counted these events after those that it had counted.
abbrev pub gets : KindCounts × Unit {0} → List (Event Packet) → KindCounts × Unit {0} → Type 0
gets old es new = (before : List (Event Packet)) → HasCounted old.0 before → HasCounted new.0 (before ++ es)

abbrev pub room : KindCounts × Unit {0} → ℕ
room s = MANY

-- What `check` writes that counts kinds: after the line of a mapped source one for each word that begins its items.
use Rattle.std.specs.Prelude.{ℕ, List, [], ◌++◌, flat_map, codes, decimal, min, Option, ◌==◌}
use Rattle.std.specs.Prelude.{if◌then◌else◌, false}
use Rattle.std.specs.Option.{is_some}
use Rattle.std.specs.List.{range_with_len}
use Rattle.capture_actions.specs.Names.{Reason, ID_COUNT, Place, Placed, placed, Meaning, Plan, port_counts_of}
use Rattle.capture_actions.specs.Names.{source_counts_of, fault_of, port_counts_text}
use Rattle.capture_actions.specs.Names.{Event, Packet, report_of}
use Rattle.source_events.specs.Plan.{kind_of}
use Rattle.source_counts.specs.declared.counts.Counts.{Counts}
use Rattle.capture_actions.specs.Faulty.{IsFaulty, read_of}
use Rattle.capture_actions.specs.KindCounts.{kind_count, MOST}
use Rattle.capture_actions.specs.Listing.{ending_by}
use Rattle.capture_actions.specs.Summary.{source_text}
use Rattle.capture_actions.specs.Words.{all_words, text_of}
use Rattle.capture_actions.specs.declared.item_word.ItemWord.{ItemWord}

-- `ID kind WORD COUNT`
abbrev pub kind_line : ℕ → ItemWord → ℕ → List ℕ
kind_line id word count =
    decimal id ++ (codes " kind " ++ (text_of word ++ (codes " " ++ (decimal count ++ codes "\n"))))

-- the line of a word that occurred
abbrev pub kind_text : ℕ → ItemWord → ℕ → List ℕ
kind_text id word count = if count == 0 then [] else kind_line id word count

-- the lines of a source that is mapped, word by word, with these counts of its items
unfoldable pub words_text : ℕ → (ItemWord → ℕ) → List ItemWord → List ℕ
words_text id counts words = flat_map (λ word. kind_text id word (counts word)) words

abbrev pub kinds_text : Plan → ℕ → (ItemWord → ℕ) → List ℕ
kinds_text plan id counts = if is_some (kind_of plan id) then words_text id counts all_words else []

-- the line of a source that sent a byte, and after it those of its kinds
abbrev pub source_kinds_text : Plan → ℕ → Counts → (ItemWord → ℕ) → List ℕ
source_kinds_text plan id counts kinds = source_text id counts ++ kinds_text plan id kinds

-- how many of these events are of a source and have a word, up to 2^64 - 1
abbrev pub kinds_in : List (Event Packet) → ℕ → ItemWord → ℕ
kinds_in es id word = min (kind_count id word es) MOST

-- nothing is counted
abbrev pub none : Counts
none = record { bytes = 0; items = 0 }

-- the lines of all sources, 0 to 126
unfoldable pub lines_by : (ℕ → List ℕ) → ℕ → ℕ → List ℕ
lines_by line first count = flat_map line (range_with_len first count)

abbrev pub all_lines : Plan → (ℕ → Counts) → List (Event Packet) → List ℕ
all_lines plan counts es = lines_by (λ id. source_kinds_text plan id (counts id) (kinds_in es id)) 0 ID_COUNT

-- the counts of the port and of all sources with their kinds, and the end lines or the fault's line
abbrev pub kinds_by : Plan → List Placed → List (Event Packet) → Option (Place × (Reason × Option ℕ)) → List ℕ
kinds_by plan u es fault =
    let port = port_counts_of plan u in
    port_counts_text port.fulls port.halves port.frames
    ++ (all_lines plan (source_counts_of plan u) es ++ ending_by plan u fault)

-- At a fault the counts are those of the bytes up to the one with which it is certain: that is the last of the frame
-- that the fault is in.
abbrev pub kinds_summary : Plan → List ℕ → List ℕ
kinds_summary plan bytes =
    kinds_by plan (placed (read_of plan bytes)) (report_of plan (placed bytes)) (fault_of plan (placed bytes))

-- all that `check` with kinds makes of the bytes of a capture: nothing is written before the end
abbrev pub kinds_meaning : Plan → Meaning
kinds_meaning plan =
    record { faulty = IsFaulty plan; text = λ bytes. []; ending = kinds_summary plan; due = false }

-- The lines of all sources with their kinds, which are put part by part, and what comes after them.
use Rattle.std.specs.Prelude.{◌≡◌, ℕ, zero, suc, ◌-◌, List, [], ◌++◌, true, false, get_or}
use Rattle.capture_actions.specs.Names.{Plan, Debt, owing, Pours, ID_COUNT}
use Rattle.source_counts.specs.declared.counts.Counts.{Counts}
use Rattle.capture_actions.specs.KindCounts.{number_at}
use Rattle.capture_actions.specs.Kinds.{source_kinds_text, lines_by, none}
use Rattle.capture_actions.specs.Words.{number_of}
use Rattle.capture_actions.specs.declared.kind_counts.KindCounts.{KindCounts}
use Rattle.capture_actions.specs.declared.kind_lines.KindLines.{KindLines}
use Rattle.capture_actions.specs.declared.kind_lines.Part.{Part}
use Rattle.capture_actions.specs.declared.kind_lines.Part.TheVariants.{Nothing, Source, Last}

-- the lines of a source, of these counts of all sources and of kinds
abbrev pub counted_line : Plan → KindCounts → List Counts → ℕ → List ℕ
counted_line plan kinds counts id =
    source_kinds_text plan id (get_or counts id none) (λ word. number_at kinds id (number_of word))

abbrev pub line_of : Plan → KindCounts → KindLines → ℕ → List ℕ
line_of plan kinds lines id = counted_line plan kinds lines.counts id

-- the text of this many parts: the last sources' lines, a part each, and what comes after them
abbrev pub parts_by : (ℕ → List ℕ) → List ℕ → ℕ → List ℕ
parts_by line last zero = []
parts_by line last (suc count) = lines_by line (ID_COUNT - count) count ++ last

-- the parts that are still to be put, one of which a call puts
abbrev pub owed : Plan → KindCounts → KindLines → List ℕ → Debt
owed plan kinds lines last = owing (parts_by (line_of plan kinds lines) last lines.left) lines.left

-- A call put the lines of a source, or what comes after those of all sources is to be put now, or all was put; before
-- and after it this was owed by what comes after them.
pub record PutsPart (part : Part) (old new : List ℕ → Debt) (before after : List ℕ) : Type 0 where
  pub nothing : part ≡ Nothing → (last : List ℕ) → Pours (old last) (new last) before after false
  pub source : part ≡ Source → (last : List ℕ) → Pours (old last) (new last) before after true
  pub last : part ≡ Last →
      (after ≡ before) × ((last : List ℕ) → Pours (old last) (new last) before (before ++ last) true)

-- What a writer of lines stands for.
use Rattle.std.specs.Prelude.{◌≡◌, ◌≤◌, ℕ, List, Option, true}
use Rattle.script_rebuild.specs.Names.{Order, Port, Turns, Debt, Line, Nothing, Of, Line2, One, Flush, Trigger}
use Rattle.script_rebuild.specs.Names.{IsSayable}
use Rattle.port_formatter.specs.Formatter as formatters
use Rattle.script_rebuild.specs.Routed.{are_placed}
use Rattle.script_rebuild.specs.Script.{given_puts}
use Rattle.script_rebuild.specs.Segments.{segments_of}
use Rattle.script_rebuild.specs.Encoding.{ids_in, IsRising, AllStand, IsOfSource}
use Rattle.script_rebuild.specs.declared.writer.LineWriter.{LineWriter}

-- the sources of system traces, and the order of the nibbles of their numbers
abbrev pub stp_of : LineWriter → List ℕ
stp_of w = ids_in w.encoders.items

abbrev pub order_of : LineWriter → Order
order_of w = w.order

-- of its formatter: how its funnel takes turns, if it has one, what is kept, the frames and bytes that are counted, for
-- how many pairs there is room, and what is owed
abbrev pub turns_of : LineWriter → Option Turns
turns_of w = formatters.turns_of w.formatter

abbrev pub kept_by : LineWriter → List ℕ
kept_by w = formatters.kept_by w.formatter

abbrev pub count_of : LineWriter → ℕ
count_of w = formatters.count_of w.formatter

abbrev pub HasRoom : LineWriter → ℕ → Type 0
HasRoom w pairs = formatters.HasRoom w.formatter pairs

abbrev pub debt_of : LineWriter → Debt
debt_of w = formatters.debt_of w.formatter

-- it is for the same sources, and writes their numbers in the same order of nibbles
pub record HasSources (old new : LineWriter) : Type 0 where
  pub stp : stp_of new ≡ stp_of old
  pub order : order_of new ≡ order_of old

-- a line that can be put: what it says is in its ranges, and of a source of it
abbrev pub CanBePut : List ℕ → Line → Type 0
CanBePut stp Nothing = Unit {0}
CanBePut stp (Of id item) = (1 ≤ id) × (id ≤ 126) × IsSayable item × IsOfSource stp id item

abbrev pub CanBePut2 : List ℕ → Line2 → Type 0
CanBePut2 stp (One line) = CanBePut stp line
CanBePut2 stp Flush = Unit {0}
CanBePut2 stp (Trigger byte) = Unit {0}

-- It stands for these lines, each of which has a place: its encoders for what they give each source of a system trace,
-- and its formatter for all that they put.
pub record Stands (w : LineWriter) (port : Port) (lines : List Line2) : Type 0 where
  pub items : AllStand w.order w.encoders.items (λ x. given_puts x lines)
  pub rising : IsRising (ids_in w.encoders.items)
  pub places : are_placed (turns_of w) lines ≡ true
  pub formatter : formatters.Stands w.formatter port (segments_of w.order (ids_in w.encoders.items) lines)

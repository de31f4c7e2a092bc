-- The encoders of system traces, and what they have to stand for, so that an item is written.
use Rattle.std.specs.Prelude.{◌≡◌, ◌<◌, ℕ, List, [], ◌∷◌, ◌++◌, length, map, ◌==◌, if◌then◌else◌, slice_index_or, true}
use Rattle.std.specs.Prelude.{false, Option, Result, All}
use Rattle.std.specs.Result.{OnOk}
use Rattle.std.specs.List.{list_any}
use Rattle.script_rebuild.specs.Names.{Order, Put, items_in, unmarked, end_bytes, Puts, has_place, Formatter, Turns}
use Rattle.script_rebuild.specs.Names.{Item, Stp, Of as OfLine, Line2, One, as_one, LineFault}
use Rattle.stp_encoder.specs.Puts.{Flush as FlushPut}
use Rattle.stp_encoder.specs.Encoder as encoders
use Rattle.script_text.specs.Lines.{◌>>=◌}
use Rattle.script_rebuild.specs.Script.{items_of, item_bytes, tagged}
use Rattle.script_rebuild.specs.Versions.{fitting_item}
use Rattle.script_rebuild.specs.Routed.{placed, line_if}
use Rattle.script_rebuild.specs.declared.encoders.SourceEncoder.{SourceEncoder}

abbrev pub ids_in : List SourceEncoder → List ℕ
ids_in slots = map (λ e. e.id) slots

-- each number is greater than those before it
abbrev pub IsRising : List ℕ → Type 0
IsRising xs = (j k d : ℕ) → j < k → k < length xs → slice_index_or xs j d < slice_index_or xs k d

-- it stands for what its source was given, and writes numbers in this order of their nibbles
abbrev pub StandsFor : Order → (ℕ → List Put) → SourceEncoder → Type 0
StandsFor order given e = (encoders.order_of e.encoder ≡ order) × encoders.Stands e.encoder (given e.id)

abbrev pub AllStand : Order → List SourceEncoder → (ℕ → List Put) → Type 0
AllStand order slots given = All (StandsFor order given) slots

-- an item of a system trace is one of a source of such items
abbrev pub IsOfSource : List ℕ → ℕ → Item → Type 0
IsOfSource stp id (Stp item) = list_any (λ x. x == id) stp ≡ true
IsOfSource stp id item = Unit {0}

-- an item of a source, and what each source was given before; numbers are written in this order of their nibbles
pub record NextItem : Type 0 where
  pub order : Order
  pub given : ℕ → List Put
  pub id : ℕ
  pub item : Item

-- the encoders stand for what each source was given, and one is for the source of the item
pub record AreReady (next : NextItem) (slots : List SourceEncoder) : Type 0 where
  pub stand : AllStand next.order slots next.given
  pub rising : IsRising (ids_in slots)
  pub source : IsOfSource (ids_in slots) next.id next.item

-- what each source was given after it
abbrev pub given_after : NextItem → ℕ → List Put
given_after next x = next.given x ++ unmarked (if next.id == x then items_of next.item else [])

-- and after a flush
abbrev pub flushed : (ℕ → List Put) → ℕ → List Put
flushed given x = given x ++ FlushPut ∷ []

-- of a source without a place nothing is kept
abbrev pub KeepsPlaced : Option Turns → Order → (ℕ → List Put) → ℕ → Type 0
KeepsPlaced funnel order given x = has_place funnel x ≡ false → end_bytes order (given x) ≡ []

-- what its putting left
pub record Left : Type 0 where
  pub encoders : List SourceEncoder
  pub old : Formatter
  pub new : Formatter

-- its source has a place, the encoders stand for it too, and its bytes were put
pub record IsPut (funnel : Option Turns) (next : NextItem) (left : Left) : Type 0 where
  pub place : has_place funnel next.id ≡ true
  pub stand : AllStand next.order left.encoders (given_after next)
  pub put : Puts left.old left.new (tagged next.id (item_bytes next.order (next.given next.id) next.item))

-- the line of it, where it fits after what its source was given, and has a place
abbrev pub line_for : Option Turns → NextItem → Result Line2 LineFault
line_for funnel next =
    as_one (fitting_item (OfLine next.id next.item) (items_in (next.given next.id)) next.item) >>= placed funnel

-- the answer is good exactly where the item can be put, and then it is
pub record Answers (funnel : Option Turns) (next : NextItem) (answer : Result (Unit {0}) LineFault) (left : Left)
    : Type 0 where
  pub told : line_for funnel next ≡ line_if answer (One (OfLine next.id next.item))
  pub put : OnOk answer (IsPut funnel next left)

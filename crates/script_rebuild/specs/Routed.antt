-- Which lines of a script go to the port (this project's profile): where a funnel is before it, those of the sources
-- of its order.
use Rattle.std.specs.Prelude.{ℕ, ◌+◌, List, [], ◌∷◌, ◌++◌, length, Bool, true, ◌==◌, ◌&&◌, if◌then◌else◌, Option, None}
use Rattle.std.specs.Prelude.{Some, Result, Ok, Err}
use Rattle.std.specs.List.{list_any}
use Rattle.script_rebuild.specs.Names.{Nothing, Of, LineFault, Unrouted, Line2, One, Flush, Trigger, Turns}
use Rattle.script_text.specs.Lines.{◌>>=◌}
use Rattle.script_rebuild.specs.Versions.{Reading, fitting}

-- The source that a line gives bytes has a place in the order. A line of a system trace that gives it only a nibble,
-- which is kept for its next byte, gives it that; so at a flush each kept nibble is of a source with a place.
abbrev pub is_routed : List ℕ → Line2 → Bool
is_routed order (One Nothing) = true
is_routed order (One (Of id item)) = list_any (λ x. x == id) order
is_routed order Flush = true
is_routed order (Trigger byte) = list_any (λ x. x == 125) order

-- each of these has one
abbrev pub are_routed : List ℕ → List Line2 → Bool
are_routed order [] = true
are_routed order (line ∷ lines) = is_routed order line && are_routed order lines

-- lines after others, up to the first that has no place, which is its fault
abbrev pub routed_on : List ℕ → Option (ℕ × LineFault) → List Line2 → List Line2 → Reading
routed_on order fault before [] = record { lines = before; fault = fault }
routed_on order fault before (line ∷ lines) =
    if is_routed order line then routed_on order fault (before ++ line ∷ []) lines
    else record { lines = before; fault = Some (length before + 1, Unrouted) }

-- what is read of a script, up to the first line that has another fault or no place
abbrev pub routed : List ℕ → Reading → Reading
routed order r = routed_on order r.fault [] r.lines

-- == With a funnel or without

-- a line, and each of these, goes to the port
abbrev pub is_placed : Option Turns → Line2 → Bool
is_placed None line = true
is_placed (Some turns) line = is_routed turns.order line

abbrev pub are_placed : Option Turns → List Line2 → Bool
are_placed None lines = true
are_placed (Some turns) lines = are_routed turns.order lines

-- what is read of a script
abbrev pub routed_by : Option Turns → Reading → Reading
routed_by None r = r
routed_by (Some turns) r = routed turns.order r

-- a line that has a place, and one that fits after others, too
abbrev pub placed : Option Turns → Line2 → Result Line2 LineFault
placed funnel line = if is_placed funnel line then Ok line else Err Unrouted

abbrev pub puttable : Option Turns → List Line2 → Line2 → Result Line2 LineFault
puttable funnel before line = fitting before line >>= placed funnel

-- a line, where the answer to its putting is good
abbrev pub line_if : Result (Unit {0}) LineFault → Line2 → Result Line2 LineFault
line_if (Ok done) line = Ok line
line_if (Err fault) line = Err fault

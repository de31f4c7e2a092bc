-- The segments of bytes that the lines of a script put (this project's profile): each flush ends one.
use Rattle.std.specs.Prelude.{ℕ, List, [], ◌∷◌, ◌++◌}
use Rattle.script_rebuild.specs.Names.{Order, Tagged, Port, sure_of, Segments, no_segments, with_bytes, now_ended}
use Rattle.script_rebuild.specs.Names.{after_flush, Plan, Line2, One, Flush, Trigger}
use Rattle.script_rebuild.specs.Script.{given_puts, tagged, bytes_with, ends_with, in_order}

-- the bytes that a line puts after others: a flush those of these STP sources' kept nibbles
abbrev pub line_bytes : Order → List ℕ → List Line2 → Line2 → List Tagged
line_bytes order ids before (One line) = bytes_with order (λ x. given_puts x before) line
line_bytes order ids before (Trigger byte) = tagged 125 (byte ∷ [])
line_bytes order ids before Flush = ends_with order (λ x. given_puts x before) ids

-- and then a flush ends the segment
abbrev pub after_line : Line2 → Segments → Segments
after_line (One line) s = s
after_line (Trigger byte) s = s
after_line Flush s = after_flush s

abbrev pub with_line : Order → List ℕ → List Line2 → Segments → Line2 → Segments
with_line order ids before s line = after_line line (with_bytes s (line_bytes order ids before line))

abbrev pub segments_after : Order → List ℕ → List Line2 → Segments → List Line2 → Segments
segments_after order ids before s [] = s
segments_after order ids before s (line ∷ lines) =
    segments_after order ids (before ++ line ∷ []) (with_line order ids before s line) lines

-- what lines put, in order
abbrev pub segments_of : Order → List ℕ → List Line2 → Segments
segments_of order ids lines = segments_after order ids [] no_segments lines

-- after the last line the kept nibbles are put as at a flush
abbrev pub segments_with_ends : Order → List ℕ → List Line2 → List (List Tagged)
segments_with_ends order ids lines =
    now_ended (with_bytes (segments_of order ids lines) (ends_with order (λ x. given_puts x lines) ids))

-- all that the lines of a script put: the kept nibbles come in the order of their sources' IDs
abbrev pub script_segments : Plan → List Line2 → List (List Tagged)
script_segments plan lines = segments_with_ends plan.order (in_order plan.stp) lines

-- what is sure of what lines put, whatever comes after them
abbrev pub sure_lines : Port → Order → List ℕ → List Line2 → List ℕ
sure_lines port order ids lines = sure_of port (segments_of order ids lines)

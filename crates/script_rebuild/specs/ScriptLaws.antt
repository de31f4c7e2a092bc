-- What lines put after others.
use Rattle.std.proofs.Common.{◌≡◌, ◌≤◌, ℕ, List, [], ◌∷◌, ◌++◌, sym, ◌∙◌, ap, append_assoc, append-nil}
use Rattle.script_rebuild.specs.Names.{Order, Tagged, Port, sure_of, written, Segments, no_segments, with_bytes, Line2}
use Rattle.script_rebuild.specs.Names.{One, Flush, Trigger}
use Rattle.port_formatter.specs.PortLaws.{sure_grows, sure_flushed, sure_begins}
use Rattle.script_rebuild.specs.Script.{given_puts, ends_with}
use Rattle.script_rebuild.specs.Segments.{line_bytes, after_line, with_line, segments_after, segments_of}
use Rattle.script_rebuild.specs.Segments.{segments_with_ends, sure_lines}

pub segments_append : (order : Order) (ids : List ℕ) (before : List Line2) (s : Segments) (lines more : List Line2) →
    segments_after order ids before s (lines ++ more)
    ≡ segments_after order ids (before ++ lines) (segments_after order ids before s lines) more
segments_append order ids before s [] more =
    ap (λ (l : List Line2). segments_after order ids l s more) (sym (append-nil before))
segments_append order ids before s (first ∷ lines) more =
    let next = with_line order ids before s first in
    segments_append order ids (before ++ first ∷ []) next lines more
    ∙ ap (λ (l : List Line2). segments_after order ids l
    (segments_after order ids (before ++ first ∷ []) next lines) more)
    (append_assoc before (first ∷ []) lines)

pub segments_more : (order : Order) (ids : List ℕ) (lines : List Line2) (line : Line2) →
    segments_of order ids (lines ++ line ∷ []) ≡ with_line order ids lines (segments_of order ids lines) line
segments_more order ids lines line = segments_append order ids [] no_segments lines (line ∷ [])

-- what is sure stays so where bytes are put, and where the segment is ended
bytes_grow : (port : Port) (s : Segments) (line : Line2) (bytes : List Tagged) →
    (rest : List ℕ) × (sure_of port (after_line line (with_bytes s bytes)) ≡ sure_of port s ++ rest)
bytes_grow port s (One line) bytes = sure_grows port s bytes
bytes_grow port s (Trigger byte) bytes = sure_grows port s bytes
bytes_grow port s Flush bytes = sure_flushed port s bytes

after_grow : (port : Port) (order : Order) (ids : List ℕ) (before : List Line2) (s : Segments) (lines : List Line2) →
    (rest : List ℕ) × (sure_of port (segments_after order ids before s lines) ≡ sure_of port s ++ rest)
after_grow port order ids before s [] = ([], sym (append-nil (sure_of port s)))
after_grow port order ids before s (line ∷ lines) =
    let one = bytes_grow port s line (line_bytes order ids before line) in
    let more = after_grow port order ids (before ++ line ∷ []) (with_line order ids before s line) lines in (
      one.0 ++ more.0,
      more.1 ∙ ap (λ (l : List ℕ). l ++ more.0) one.1 ∙ append_assoc (sure_of port s) one.0 more.0,
    )

pub sure_more : (port : Port) (order : Order) (ids : List ℕ) (lines more : List Line2) →
    (rest : List ℕ) × (sure_lines port order ids (lines ++ more) ≡ sure_lines port order ids lines ++ rest)
sure_more port order ids lines more =
    let s = segments_of order ids lines in
    let grown = after_grow port order ids lines s more in
    (grown.0, ap (sure_of port) (segments_append order ids [] no_segments lines more) ∙ grown.1)

-- and is a front of all, with the ends
pub sure_whole : (port : Port) (order : Order) (ids : List ℕ) (lines more : List Line2) → port.halves ≤ 8 →
    (rest : List ℕ) × (written port (segments_with_ends order ids (lines ++ more))
    ≡ sure_lines port order ids lines ++ rest)
sure_whole port order ids lines more few =
    let all = lines ++ more in
    let s = segments_of order ids all in
    let ends = ends_with order (λ x. given_puts x all) ids in
    let first = sure_more port order ids lines more in
    let begins = sure_begins port s ends few in
    let so_far = sure_lines port order ids lines in (
      first.0 ++ begins.0,
      begins.1 ∙ ap (λ (l : List ℕ). l ++ begins.0) first.1 ∙ append_assoc so_far first.0 begins.0,
    )

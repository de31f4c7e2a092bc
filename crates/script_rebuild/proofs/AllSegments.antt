-- The segments of one more line, joined, and the items that are put.
use Rattle.std.proofs.Common.{◌≡◌, ℕ, List, [], ◌∷◌, ◌++◌, refl, sym, ◌∙◌, ap, append_assoc, append-nil}
use Rattle.std.proofs.lemmas.List.Concat.{flat_map-append}
use Rattle.script_rebuild.specs.Names.{Order, StpItem, Put, items_in, Tagged, joined, Line2, One, Flush, Trigger}
use Rattle.script_rebuild.specs.Names.{Segments, with_bytes, now_ended}
use Rattle.stp_encoder.proofs.Standing.{items_append, items_unmarked}
use Rattle.script_rebuild.specs.Script.{items_by, given_items, puts_by, given_puts}
use Rattle.script_rebuild.specs.Segments.{line_bytes, after_line, segments_of}
use Rattle.script_rebuild.specs.ScriptLaws.{segments_more}

-- the bytes of segments after others
joined_append : (closed : List (List Tagged)) (t : List Tagged) → joined (closed ++ t ∷ []) ≡ joined closed ++ t
joined_append [] t = append-nil t
joined_append (s ∷ closed) t = ap (λ (l : List Tagged). s ++ l) (joined_append closed t) ∙ sym (append_assoc s (joined closed) t)

pub joined_with : (s : Segments) (bytes : List Tagged) → joined (now_ended (with_bytes s bytes)) ≡ joined (now_ended s) ++ bytes
joined_with s bytes =
    joined_append s.ended (s.begun ++ bytes) ∙ sym (append_assoc (joined s.ended) s.begun bytes)
    ∙ ap (λ (l : List Tagged). l ++ bytes) (sym (joined_append s.ended s.begun))

-- the end of a segment puts nothing
joined_after : (line : Line2) (s : Segments) → joined (now_ended (after_line line s)) ≡ joined (now_ended s)
joined_after (One line) s = refl
joined_after (Trigger byte) s = refl
joined_after Flush s = joined_append (now_ended s) [] ∙ append-nil (joined (now_ended s))

pub joined_more : (order : Order) (ids : List ℕ) (lines : List Line2) (line : Line2) →
    joined (now_ended (segments_of order ids (lines ++ line ∷ [])))
    ≡ joined (now_ended (segments_of order ids lines)) ++ line_bytes order ids lines line
joined_more order ids lines line =
    let s = segments_of order ids lines in
    let bytes = line_bytes order ids lines line in
    ap (λ (s : Segments). joined (now_ended s)) (segments_more order ids lines line)
    ∙ joined_after line (with_bytes s bytes) ∙ joined_with s bytes

pub items_put : (x : ℕ) (lines : List Line2) → items_in (given_puts x lines) ≡ given_items x lines
items_put x [] = refl
items_put x (One line ∷ lines) =
    items_append (puts_by x (One line)) (given_puts x lines)
    ∙ ap (λ (l : List StpItem). l ++ items_in (given_puts x lines)) (items_unmarked (items_by x line))
    ∙ ap (λ (l : List StpItem). items_by x line ++ l) (items_put x lines)
items_put x (Flush ∷ lines) = items_put x lines
items_put x (Trigger byte ∷ lines) = items_put x lines

-- one more line gives each source its items, and the mark of a flush, after all others
pub given_more : (x : ℕ) (lines : List Line2) (line : Line2) →
    given_puts x (lines ++ line ∷ []) ≡ given_puts x lines ++ puts_by x line
given_more x lines line =
    flat_map-append (puts_by x) lines (line ∷ [])
    ∙ ap (λ (l : List Put). given_puts x lines ++ l) (append-nil (puts_by x line))

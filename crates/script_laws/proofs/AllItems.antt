-- The words of all items: they are words, few, have their shape and read as their item; and words that read as an item
-- are that item's, in lower case.
use Rattle.std.proofs.Common.{◌≡◌, ℕ, ◌≤◌, ◌<◌, List, ◌∷◌, length, ◌∙◌, ap, true, Some, option_map}
use Rattle.script_laws.specs.Names.{Shape, Item, Itm, Dwt, Stp, Raw, IsSayable, fields_of, fits, shape_named, itm_of}
use Rattle.script_laws.specs.Names.{dwt_of, stp_of, item_of, said_in, itm_row, dwt_row, stp_row, raw_row}
use Rattle.dwt_packets.proofs.Inverses.{in_range}
use Rattle.script_text.specs.declared.shapes.Shape.TheVariants as shapes
use Rattle.script_text.proofs.Options.{some_of, map_some}
use Rattle.script_laws.proofs.Fields.{low, row_reads, row_all, row_few, row_says}
use Rattle.script_laws.proofs.Fitting.{itm_checked, dwt_checked, stp_checked, raw_checked, word_of_shape}
use Rattle.script_laws.proofs.Items.{words_of, shape_of, itm_shape, dwt_shape, stp_shape, itm_values, dwt_values}
use Rattle.script_laws.proofs.Items.{stp_values, itm_fit, dwt_fit, stp_fit, itm_made, dwt_made, stp_made, itm_back}
use Rattle.script_laws.proofs.Items.{dwt_back, stp_back}
use Rattle.script_laws.proofs.Joining.{are_all}

pub words_all : (item : Item) → IsSayable item → are_all (words_of item) ≡ true
words_all (Itm p) h = row_all (itm_row (itm_shape p)) (itm_values p) (itm_checked (itm_shape p)).0 (itm_fit p h.0)
words_all (Dwt i) h = row_all (dwt_row (dwt_shape i)) (dwt_values i) (dwt_checked (dwt_shape i)).0
    (dwt_fit i (in_range i h))
words_all (Stp i) h = row_all (stp_row (stp_shape i)) (stp_values i) (stp_checked (stp_shape i)).0 (stp_fit i h.0 h.1)
words_all (Raw bytes) h = row_all raw_row (bytes, tt) raw_checked.0 (h, tt)

pub few_words : (item : Item) → (0 < length (words_of item)) × (length (words_of item) ≤ 7)
few_words (Itm p) = row_few (itm_row (itm_shape p)) (itm_values p) (itm_checked (itm_shape p)).0
few_words (Dwt i) = row_few (dwt_row (dwt_shape i)) (dwt_values i) (dwt_checked (dwt_shape i)).0
few_words (Stp i) = row_few (stp_row (stp_shape i)) (stp_values i) (stp_checked (stp_shape i)).0
few_words (Raw bytes) = row_few raw_row (bytes, tt) raw_checked.0

pub named : (item : Item) → shape_named (words_of item) ≡ Some (shape_of item)
named (Itm p) = (itm_checked (itm_shape p)).1 (itm_values p)
named (Dwt i) = (dwt_checked (dwt_shape i)).1 (dwt_values i)
named (Stp i) = (stp_checked (stp_shape i)).1 (stp_values i)
named (Raw bytes) = raw_checked.1 (bytes, tt)

pub item_reads : (item : Item) → IsSayable item → item_of (shape_of item) (words_of item) ≡ Some item
unfolding itm_of dwt_of stp_of
item_reads (Itm p) h =
    ap (option_map Itm) (row_reads (itm_row (itm_shape p)) (itm_values p) (itm_checked (itm_shape p)).0 (itm_fit p h.0)
    ∙ itm_made p h.0 h.1)
item_reads (Dwt i) h =
    ap (option_map Dwt) (row_reads (dwt_row (dwt_shape i)) (dwt_values i) (dwt_checked (dwt_shape i)).0
    (dwt_fit i (in_range i h)) ∙ dwt_made i (in_range i h))
item_reads (Stp i) h =
    ap (option_map Stp) (row_reads (stp_row (stp_shape i)) (stp_values i) (stp_checked (stp_shape i)).0
    (stp_fit i h.0 h.1) ∙ stp_made i h.1)
item_reads (Raw bytes) h = ap (option_map Raw) (row_reads raw_row (bytes, tt) raw_checked.0 (h, tt))

pub item_says : (shape : Shape) (words : List (List ℕ)) (item : Item) → fits (fields_of shape) words ≡ true →
    item_of shape (word_of_shape shape ∷ words) ≡ Some item → low (word_of_shape shape ∷ words) ≡ words_of item
unfolding itm_of dwt_of stp_of
item_says (shapes.Itm shape) words item f e =
    let m = map_some Itm (itm_of shape (word_of_shape (shapes.Itm shape) ∷ words)) item e in
    let w = row_says (itm_row shape) words m.0 (itm_checked shape).0 f m.1 in
    w.3 ∙ itm_back shape w.0 m.0 w.1 w.2 ∙ ap words_of m.2
item_says (shapes.Dwt shape) words item f e =
    let m = map_some Dwt (dwt_of shape (word_of_shape (shapes.Dwt shape) ∷ words)) item e in
    let w = row_says (dwt_row shape) words m.0 (dwt_checked shape).0 f m.1 in
    w.3 ∙ dwt_back shape w.0 m.0 w.1 w.2 ∙ ap words_of m.2
item_says (shapes.Stp shape) words item f e =
    let m = map_some Stp (stp_of shape (word_of_shape (shapes.Stp shape) ∷ words)) item e in
    let w = row_says (stp_row shape) words m.0 (stp_checked shape).0 f m.1 in
    w.3 ∙ stp_back shape w.0 m.0 w.2 ∙ ap words_of m.2
item_says shapes.Raw words item f e =
    let m = map_some Raw (said_in raw_row (word_of_shape shapes.Raw ∷ words)) item e in
    let w = row_says raw_row words m.0 raw_checked.0 f m.1 in
    w.3 ∙ ap (λ (bytes : List ℕ). words_of (Raw bytes)) (some_of w.0.0 m.0 w.2) ∙ ap words_of m.2

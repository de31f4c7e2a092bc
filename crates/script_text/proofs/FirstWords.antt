-- The search of a shape in the code's table.
use Rattle.std.proofs.Common.{◌≡◌, ℕ, List, [], ◌∷◌, Bool, true, false, Some, refl, ap, ◌∙◌, map, bytes_eq}
use Rattle.std.proofs.Common.{if◌then◌else◌}
use Rattle.script_text.specs.Shapes.{Field, Rows, fits, fields_of, rows_in, first_row, first_fitting, first_words}
use Rattle.script_text.specs.Shapes.{shapes_in, shapes_named}
use Rattle.script_text.specs.declared.shapes.Shape.{Shape}

abbrev with_fields : Shape → Shape × List Field
with_fields shape = (shape, fields_of shape)

abbrev pub with_rows : List ℕ × List Shape → List ℕ × Rows
with_rows (first, shapes) = (first, map with_fields shapes)

rows_are : (pairs : List (List ℕ × List Shape)) (word : List ℕ) →
    rows_in (map with_rows pairs) word ≡ map with_fields (shapes_in pairs word)
rows_are [] word = refl
rows_are ((first, shapes) ∷ pairs) word = go (bytes_eq word first) (rows_are pairs word)
  where
    go : (v : Bool) → rows_in (map with_rows pairs) word ≡ map with_fields (shapes_in pairs word) →
        (if v then map with_fields shapes else rows_in (map with_rows pairs) word)
        ≡ map with_fields (if v then shapes else shapes_in pairs word)
    go true more = refl
    go false more = more

rows_fit : (shapes : List Shape) (words : List (List ℕ)) →
    first_row (map with_fields shapes) words ≡ first_fitting shapes words
rows_fit [] words = refl
rows_fit (shape ∷ shapes) words =
    ap (λ rest. if fits (fields_of shape) words then Some shape else rest) (rows_fit shapes words)

pub found : (word : List ℕ) (words : List (List ℕ)) →
    first_row (rows_in (map with_rows first_words) word) words ≡ first_fitting (shapes_named word) words
found word words =
    ap (λ (rows : Rows). first_row rows words) (rows_are first_words word) ∙ rows_fit (shapes_named word) words

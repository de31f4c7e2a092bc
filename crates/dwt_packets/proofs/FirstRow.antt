-- The first row of the table that fits.
use Rattle.std.proofs.Common.{◌≡◌, ℕ, Bool, true, false, refl, List, [], ◌∷◌, ◌++◌, cond, Some, ◌<◌, arith}
use Rattle.std.specs.Prelude.{find}
use Rattle.std.specs.List.{list_any}
use Rattle.std.specs.Option.{option_map_or}
use Rattle.std.proofs.lemmas.Bool.{or_parts}
use Rattle.itm_grammar.specs.declared.packet.Size.{Size}
use Rattle.dwt_packets.specs.declared.item.DwtItem.{DwtItem}
use Rattle.dwt_packets.specs.declared.item.DwtItem.TheVariants.{Other}
use Rattle.dwt_packets.specs.Table.{Row, table, comparator_rows, fits, NoRowFits, name}

-- each row has a property
abbrev pub Each : (Row → Type 0) → List Row → Type 0
Each P [] = Unit {0}
Each P (row ∷ rows) = P row × Each P rows

each_append : (P : Row → Type 0) (xs ys : List Row) → Each P xs → Each P ys → Each P (xs ++ ys)
each_append P [] ys a b = b
each_append P (x ∷ xs) ys a b = (a.0, each_append P xs ys a.1 b)

-- the rows of the four comparators have it, where those of each have
pub each_comparator : (P : Row → Type 0) → ((c : ℕ) → c < 4 → Each P (comparator_rows c)) →
    Each P (comparator_rows 0 ++ (comparator_rows 1 ++ (comparator_rows 2 ++ comparator_rows 3)))
each_comparator P each =
    each_append P (comparator_rows 0) (comparator_rows 1 ++ (comparator_rows 2 ++ comparator_rows 3)) (each 0 (omega arith))
    (each_append P (comparator_rows 1) (comparator_rows 2 ++ comparator_rows 3) (each 1 (omega arith))
    (each_append P (comparator_rows 2) (comparator_rows 3) (each 2 (omega arith)) (each 3 (omega arith))))

-- what the first row that fits gives, of any rows
abbrev named_by : ℕ → Size → ℕ → List Row → DwtItem
named_by d s v rows = option_map_or (λ row. row.item s v) (find (fits d s v) rows) (Other d s v)

by_rows : (P : DwtItem → Type 0) (d : ℕ) (s : Size) (v : ℕ) (rows : List Row) →
    Each (λ row. fits d s v row ≡ true → P (row.item s v)) rows →
    (list_any (fits d s v) rows ≡ false → P (Other d s v)) →
    P (named_by d s v rows)
by_rows P d s v [] each other = other refl
by_rows P d s v (row ∷ rows) each other = by_test (fits d s v row) refl (λ e. by_rows P d s v rows each.1 (λ none. other (rw e none))) where
  by_test : (t : Bool) → fits d s v row ≡ t → (fits d s v row ≡ false → P (named_by d s v rows)) →
      P (option_map_or (λ row. row.item s v) (cond t (Some row) (find (fits d s v) rows)) (Other d s v))
  by_test true e next = each.0 e
  by_test false e next = next e

none_of : (d : ℕ) (s : Size) (v : ℕ) (rows : List Row) → list_any (fits d s v) rows ≡ false → named_by d s v rows ≡ Other d s v
none_of d s v [] none = refl
none_of d s v (row ∷ rows) none =
    let n = or_parts (fits d s v row) (list_any (fits d s v) rows) none in rw n.0 (none_of d s v rows n.1)

-- A name has a property where each row that fits has it, and another item has it where none does.
pub by_table : (P : DwtItem → Type 0) (d : ℕ) (s : Size) (v : ℕ) →
    Each (λ row. fits d s v row ≡ true → P (row.item s v)) table → (NoRowFits d s v → P (Other d s v)) → P (name d s v)
unfolding name NoRowFits
by_table P d s v each other = by_rows P d s v table each other

-- where no row fits, the item is another one
pub no_row : (d : ℕ) (s : Size) (v : ℕ) → NoRowFits d s v → name d s v ≡ Other d s v
unfolding name NoRowFits
no_row d s v none = none_of d s v table none

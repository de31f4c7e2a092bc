-- Sets of rows, a bit for each number.
use Rattle.std.proofs.Common.{◌≡◌, ℕ, ◌/◌, ◌%◌, ◌^◌, ◌<◌, Bool, true, false, cond, not, Some, refl, sym, ◌∙◌, ap, arith}
use Rattle.std.proofs.lemmas.Bool.Decides.{nat_tests}
use Rattle.std.specs.Prelude.{◌==◌}
use Rattle.std.specs.Option.{is_some}
use Rattle.stp_grammar.specs.declared.packet.Row.{Row}
use Rattle.stp_grammar.specs.declared.packet.Row.TheVariants.{Null, Master8, Channel8, Master16, Channel16}
use Rattle.stp_grammar.specs.declared.item.Place.{Place}
use Rattle.stp_grammar.specs.declared.item.Stamp.{Stamp}
use Rattle.stp_grammar.specs.declared.item.StpItem.TheVariants.{Async as AsyncItem}
use Rattle.stp_grammar.specs.declared.said.TheConstants.{SILENT, TELLING}
use Rattle.stp_grammar.specs.Opcodes.{row_at}
use Rattle.stp_grammar.specs.Attribution.{item_with}
use Rattle.stp_grammar.specs.Said.{tells}
use Rattle.stp_grammar.proofs.Tables.{under, below, same, is_same}

-- the packets of these rows have no item
abbrev pub silent_row : Row → Bool
silent_row Null = true
silent_row Master8 = true
silent_row Channel8 = true
silent_row Master16 = true
silent_row Channel16 = true
silent_row row = false

pub silent_is : (n : ℕ) → n < 35 → (SILENT / 2 ^ n % 2 == 1) ≡ silent_row (row_at n)
unfolding under same
silent_is n l = is_same _ _ (below (λ k. same (SILENT / 2 ^ k % 2 == 1) (silent_row (row_at k))) 35 n l refl)

pub telling_is : (n : ℕ) → n < 36 → (TELLING / 2 ^ n % 2 == 1) ≡ tells (row_at n)
unfolding under same
telling_is n l = is_same _ _ (below (λ k. same (TELLING / 2 ^ k % 2 == 1) (tells (row_at k))) 36 n l refl)

-- what is so of a row, and not of NULL, is of no number but those of rows
pub is_row : (f : Row → Bool) → f Null ≡ false → (n : ℕ) → n < 36 → f (row_at n) ≡ true → n < 35
is_row f none n l e = by (n == 35) refl where
  by : (t : Bool) → (n == 35) ≡ t → n < 35
  by true h = let k : n ≡ 35 = grind (arith, nat_tests) in absurd (no (sym none ∙ ap (λ (m : ℕ). f (row_at m)) (sym k) ∙ e)) where
    no : false ≡ true → ⊥
    no q = cc
  by false h = grind (arith, nat_tests)

-- a row has an item where it is not silent
pub has_item : (place : Place) (stamp : Stamp) (row : Row) (v : ℕ) → not (silent_row row) ≡ is_some (item_with place stamp row v)
has_item place stamp Null v = refl
has_item place stamp x v = refl

-- and so has an ASYNC, which is not silent
pub speaks : (place : Place) (stamp : Stamp) (n v : ℕ) → n < 36 →
    not (SILENT / 2 ^ n % 2 == 1) ≡ is_some (cond (n == 35) (Some AsyncItem) (item_with place stamp (row_at n) v))
speaks place stamp n v l = by (n == 35) refl where
  by : (t : Bool) → (n == 35) ≡ t →
      not (SILENT / 2 ^ n % 2 == 1) ≡ is_some (cond t (Some AsyncItem) (item_with place stamp (row_at n) v))
  by true h = ap (λ (m : ℕ). not (SILENT / 2 ^ m % 2 == 1)) (let k : n ≡ 35 = grind (arith, nat_tests) in k)
  by false h = ap not (silent_is n (grind (arith, nat_tests))) ∙ has_item place stamp (row_at n) v

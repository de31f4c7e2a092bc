-- The columns of the code's table are those of the table of opcodes.
use Rattle.std.proofs.Common.{◌≡◌, ℕ, ◌<◌, ◌≤◌, List, [], length, take, false, refl, sym, ◌∙◌, ap}
use Rattle.std.specs.Prelude.{◌==◌, nat_le, slice_index_or}
use Rattle.std.specs.Str.{bytes_eq}
use Rattle.std.proofs.lemmas.Slice.Eq.{bytes_eq-Decides}
use Rattle.std.proofs.lemmas.Bool.{eqb-true, leb-true}
use Rattle.stp_grammar.specs.declared.packet.Row.{Row}
use Rattle.stp_grammar.specs.declared.packet.Row.TheVariants.{Null}
use Rattle.stp_grammar.specs.declared.opcode.TheConstants.{ROWS, OPCODES, NIBBLES, PAYLOADS, STAMPS}
use Rattle.stp_grammar.specs.Opcodes.{line_of, row_at}
use Rattle.stp_grammar.proofs.EachRow.{numbered}
use Rattle.stp_grammar.proofs.Tables.{under, below, same, is_same}

abbrev row : ℕ → Row
row n = slice_index_or ROWS.now n Null

abbrev pub opcode : ℕ → List ℕ
opcode n = slice_index_or OPCODES.now n []

abbrev nibbles : ℕ → ℕ
nibbles n = slice_index_or NIBBLES.now n 0

abbrev payload : ℕ → ℕ
payload n = slice_index_or PAYLOADS.now n 0

pub row_is : (n : ℕ) → n < 35 → row n ≡ row_at n
unfolding under
row_is n l = sym (numbered (row n)).1 ∙ ap row_at (eqb-true _ _ (below (λ k. (line_of (row k)).number == k) 35 n l refl))

pub payload_is : (n : ℕ) → n < 35 → payload n ≡ (line_of (row_at n)).payload
unfolding under
payload_is n l = eqb-true _ _ (below (λ k. payload k == (line_of (row_at k)).payload) 35 n l refl)

pub payload_few : (n : ℕ) → n < 35 → payload n ≤ 16
unfolding under
payload_few n l = leb-true _ _ (below (λ k. nat_le (payload k) 16) 35 n l refl)

pub stamped_is : (n : ℕ) → n < 36 → slice_index_or STAMPS.now n false ≡ (line_of (row_at n)).stamped
unfolding under same
stamped_is n l =
    is_same _ _ (below (λ k. same (slice_index_or STAMPS.now k false) (line_of (row_at k)).stamped) 36 n l refl)

pub nibbles_are : (n : ℕ) → n < 35 → nibbles n ≡ length (line_of (row_at n)).opcode
unfolding under
nibbles_are n l = eqb-true _ _ (below (λ k. nibbles k == length (line_of (row_at k)).opcode) 35 n l refl)

pub nibbles_few : (n : ℕ) → n < 35 → nibbles n ≤ 3
unfolding under
nibbles_few n l = leb-true _ _ (below (λ k. nat_le (nibbles k) 3) 35 n l refl)

-- the nibbles of a row's opcode are the first of those in its line
abbrev opcode_at : ℕ → List ℕ
opcode_at n = (line_of (row_at n)).opcode

pub opcode_is : (n : ℕ) → n < 35 → take (length (opcode_at n)) (opcode n) ≡ opcode_at n
unfolding under
opcode_is n l =
    (bytes_eq-Decides _ _).0 (below (λ k. bytes_eq (take (length (opcode_at k)) (opcode k)) (opcode_at k)) 35 n l refl)

pub own_at : (n : ℕ) (r : Row) → n ≡ (line_of r).number → row_at n ≡ r
own_at n r e = ap row_at e ∙ (numbered r).1

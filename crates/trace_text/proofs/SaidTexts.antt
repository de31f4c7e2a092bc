-- The texts of what packets say, by their rows.
use Rattle.std.proofs.Common.{◌≡◌, ℕ, ◌/◌, ◌^◌, ◌<◌, ◌≤◌, List, [], ◌∷◌, ◌++◌, length, Bool, cond, true, false, Option, refl, sym, ◌∙◌, ap, append_assoc, append-nil, arith, rules}
use Rattle.std.specs.Prelude.{◌==◌, codes, decimal, None, Some}
use Rattle.std.proofs.lemmas.Bool.Decides.{nat_tests}
use Rattle.std.specs.Option.{ForSome, is_some}
use Rattle.std.specs.Int.{byte_at}
use Rattle.std.proofs.Math.Nat.{pow-zero}
use Rattle.hex.specs.Hex.{encode_lower}
use Rattle.stp_grammar.specs.declared.packet.Row.{Row}
use Rattle.stp_grammar.specs.declared.packet.Row.TheVariants.{Datum, Flag, NullStamp, Trigger, MasterError, GlobalError, Frequency, Null, Master8, Channel8, Master16, Channel16, Version}
use Rattle.stp_grammar.specs.declared.item.Place.{Place}
use Rattle.stp_grammar.specs.declared.item.Stamp.{Stamp}
use Rattle.stp_grammar.specs.declared.item.StpItem.{StpItem}
use Rattle.stp_grammar.specs.declared.item.StpItem.TheVariants.{Async as AsyncItem}
use Rattle.stp_grammar.specs.Opcodes.{line_of, row_at}
use Rattle.stp_grammar.specs.Proper.{IsProperItem}
use Rattle.stp_grammar.specs.Attribution.{item_with}
use Rattle.trace_text.specs.HexDigits.{hex_digits}
use Rattle.trace_text.specs.Lengths.{HasDigits}
use Rattle.trace_text.specs.LineText.{source_text}
use Rattle.trace_text.specs.StpText.{place_text, stamp_text, stp_text}
use Rattle.trace_text.specs.SaidText.{is_told, is_written, word_of, word_at, place_at, width_at, value_at, mark_at, stamp_at, said_text, said_line}
use Rattle.trace_text.proofs.HexNibbles.{encoded}
use Rattle.trace_text.proofs.LongestLines.{stp_item}

-- a byte's two digits
pub byte_digits : (v : ℕ) → v < 16 ^ 2 → hex_digits 2 v ≡ encode_lower (v ∷ [])
byte_digits v h =
    let p : v / 256 ^ 0 ≡ v / 1 = ap (λ k. v / k) (pow-zero 256) in
    let e : byte_at 0 v ≡ v = omega arith in
    sym (encoded 1 v) ∙ ap (λ b. encode_lower (b ∷ [])) e

-- the parts of a row's text, of this place, value and timestamp
abbrev pub by_parts : Place → Stamp → Row → ℕ → List ℕ
by_parts place stamp row v =
    word_at row ++ (place_at row place ++ (width_at row ++ (value_at row v ++ (mark_at row ++ stamp_at row stamp))))

pub written_text : (place : Place) (stamp : Stamp) (row : Row) (v : ℕ) → is_written row ≡ true → v < 16 ^ (line_of row).payload →
    by_parts place stamp row v ≡ said_text (item_with place stamp row v)
unfolding hex_digits
written_text place stamp (Datum width marked stamped) v e h = search rules
written_text place stamp (Flag stamped) v e h = search rules
written_text place stamp NullStamp v e h = refl
written_text place stamp (Trigger true) v e h = ap (λ (l : List ℕ). codes "trig " ++ (l ++ (codes " " ++ stamp_text stamp))) (byte_digits v h)
written_text place stamp (Trigger false) v e h = ap (λ (l : List ℕ). codes "trig " ++ (l ++ (codes " " ++ stamp_text stamp))) (byte_digits v h)
written_text place stamp MasterError v e h =
    ap (λ (l : List ℕ). codes "merr " ++ (place_text place ++ (codes " " ++ l))) (append-nil (hex_digits 2 v) ∙ byte_digits v h)
written_text place stamp GlobalError v e h = ap (λ (l : List ℕ). codes "gerr " ++ l) (append-nil (hex_digits 2 v) ∙ byte_digits v h)
written_text place stamp (Frequency stamped) v e h = refl
written_text place stamp row v e h = cc

-- and those by the number, which may be that of ASYNC
abbrev rest : Place → Stamp → Row → ℕ → List ℕ
rest place stamp row v = place_at row place ++ (width_at row ++ (value_at row v ++ (mark_at row ++ stamp_at row stamp)))

pub told_text : (place : Place) (stamp : Stamp) (n v : ℕ) → is_told n ≡ true → v < 16 ^ (line_of (row_at n)).payload →
    word_of n ++ rest place stamp (row_at n) v ≡ said_text (cond (n == 35) (Some AsyncItem) (item_with place stamp (row_at n) v))
unfolding hex_digits
told_text place stamp n v e h = by (n == 35) refl e where
  by : (t : Bool) → (n == 35) ≡ t → cond t true (is_written (row_at n)) ≡ true →
      cond t (codes "async") (word_at (row_at n)) ++ rest place stamp (row_at n) v ≡ said_text (cond t (Some AsyncItem) (item_with place stamp (row_at n) v))
  by true k w = ap (λ (m : ℕ). codes "async" ++ rest place stamp (row_at m) v) (let q : n ≡ 35 = grind (arith, nat_tests) in q)
  by false k w = written_text place stamp (row_at n) v w h

-- of the others only a VERSION has an item
pub version_only : (place : Place) (stamp : Stamp) (row : Row) (v : ℕ) → is_written row ≡ false →
    is_some (item_with place stamp row v) ≡ true → row ≡ Version
version_only place stamp (Datum width marked stamped) v w e = cc
version_only place stamp (Flag stamped) v w e = cc
version_only place stamp NullStamp v w e = cc
version_only place stamp (Trigger stamped) v w e = cc
version_only place stamp (Frequency stamped) v w e = cc
version_only place stamp MasterError v w e = cc
version_only place stamp GlobalError v w e = cc
version_only place stamp Null v w e = cc
version_only place stamp Master8 v w e = cc
version_only place stamp Channel8 v w e = cc
version_only place stamp Master16 v w e = cc
version_only place stamp Channel16 v w e = cc
version_only place stamp Version v w e = refl

-- a line by its parts
pub line_by : (at half id : ℕ) (o : Option StpItem) → is_some o ≡ true →
    decimal at ++ ((codes "." ++ decimal half) ++ ((codes " " ++ (source_text (Some id) ++ codes " ")) ++ (said_text o ++ codes "\n"))) ≡ said_line at half id o
line_by at half id None e = cc
line_by at half id (Some item) e =
    ap (λ (l : List ℕ). decimal at ++ ((codes "." ++ decimal half) ++ (32 ∷ l))) (append_assoc (decimal id) (codes " ") (stp_text item ++ codes "\n"))
    ∙ sym (append_assoc (decimal at) ((codes "." ++ decimal half)) (32 ∷ (decimal id ++ (codes " " ++ (stp_text item ++ codes "\n")))))

-- the longest
pub line_most : (at half id : ℕ) (o : Option StpItem) → ForSome o (λ item. IsProperItem item) → HasDigits 20 at → HasDigits 3 half → HasDigits 3 id →
    length (said_line at half id o) ≤ 92
line_most at half id None p a b c = omega arith
line_most at half id (Some item) p a b c = stp_item at half id item (p item refl) a b c

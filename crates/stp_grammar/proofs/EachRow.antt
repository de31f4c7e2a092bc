-- What holds of each row of the table of opcodes, by the list of its rows.
use Rattle.std.proofs.Common.{◌≡◌, ℕ, zero, suc, ◌<◌, List, [], ◌∷◌, length, Bool, true, false, ◌&&◌, refl, subst, arith}
use Rattle.std.specs.List.{list_all}
use Rattle.std.specs.Prelude.{get_or}
use Rattle.stp_grammar.specs.declared.packet.Width.TheVariants.{Four, Eight, Sixteen, ThirtyTwo, SixtyFour}
use Rattle.stp_grammar.specs.declared.packet.Row.{Row}
use Rattle.stp_grammar.specs.declared.packet.Row.TheVariants.{Null, Datum, Flag, Trigger, Frequency}
use Rattle.stp_grammar.specs.Opcodes.{rows, row_at, line_of}

-- each row is at its number
abbrev IsNumbered : Row → Type 0
IsNumbered row = ((line_of row).number < 35) × (row_at (line_of row).number ≡ row)

pub numbered : (row : Row) → IsNumbered row
numbered (Datum Four false false) = (omega arith, refl)
numbered (Datum Four true false) = (omega arith, refl)
numbered (Datum Eight false false) = (omega arith, refl)
numbered (Datum Eight true false) = (omega arith, refl)
numbered (Datum Sixteen false false) = (omega arith, refl)
numbered (Datum Sixteen true false) = (omega arith, refl)
numbered (Datum ThirtyTwo false false) = (omega arith, refl)
numbered (Datum ThirtyTwo true false) = (omega arith, refl)
numbered (Datum SixtyFour false false) = (omega arith, refl)
numbered (Datum SixtyFour true false) = (omega arith, refl)
numbered (Flag false) = (omega arith, refl)
numbered (Trigger false) = (omega arith, refl)
numbered (Frequency false) = (omega arith, refl)
numbered row = (omega arith, refl)

-- a fact of each of these rows
abbrev pub AllOf : (Row → Type 0) → List Row → Type 0
AllOf P [] = Unit {0}
AllOf P (row ∷ more) = P row × AllOf P more

nth : (P : Row → Type 0) (xs : List Row) (n : ℕ) → AllOf P xs → n < length xs → P (get_or xs n Null)
nth P [] n a h = absurd (omega arith)
nth P (x ∷ xs) zero a h = a.0
nth P (x ∷ xs) (suc n) a h = nth P xs n a.1 (omega arith)

-- is one of each row
pub each : (P : Row → Type 0) → AllOf P rows → (row : Row) → P row
each P a row = let k = numbered row in subst P k.1 (nth P rows (line_of row).number a k.0)

-- and so is a test that each row passes
pub passed : (t : Bool) {more : Bool} → (t && more) ≡ true → (t ≡ true) × (more ≡ true)
passed true e = (refl, e)
passed false e = cc

all_passed : (test : Row → Bool) (xs : List Row) → list_all test xs ≡ true → AllOf (λ row. test row ≡ true) xs
all_passed test [] e = tt
all_passed test (x ∷ xs) e = let k = passed (test x) e in (k.0, all_passed test xs k.1)

pub each_test : (test : Row → Bool) → list_all test rows ≡ true → (row : Row) → test row ≡ true
each_test test e row = each (λ row. test row ≡ true) (all_passed test rows e) row

use Rattle.std.proofs.Common.{◌≡◌, ℕ, zero, suc, ◌+◌, ◌≤◌, List, [], ◌∷◌, ◌++◌, length, length-append, replicate, refl, sym, ap, subst, arith, append-nil, ◌∙◌, false}
use Rattle.std.proofs.lemmas.List.{length-replicate}
use Rattle.std.specs.Prelude.{codes}
use Rattle.resync_grammars.specs.Names.{InUnits, nibbles_of, hex, Place, Placed, placed, units_of, Splits, progress}
use Rattle.resync_grammars.specs.Names.{reading, by_unit, Msn, SixtyFour, StpPacket, Async, Plain, Start}
use Rattle.trace_values.proofs.Readings as readings
use Rattle.trace_values.proofs.Placing.{on_units}
use Rattle.stp_grammar.specs.declared.packet.Row.TheVariants.{Datum}
use Rattle.stp_grammar.specs.Spelling.{Spells, why}
use Rattle.stp_grammar.specs.Rule.{rule}
use Rattle.stp_grammar.proofs.Deciding.{decided}
use Rattle.resync_rules.proofs.Neighbours.{ends_not}
use Rattle.resync_rules.proofs.Syncing.{units_length}
use Rattle.resync_grammars.specs.Stp.{IsRun}
use Rattle.resync_grammars.proofs.source_rows.shorter_stp_pattern.Goals as goal

-- a D64, and the first nibbles of a VERSION
abbrev nibbles : List Placed
nibbles = nibbles_of (placed (hex (codes "F7 FF FF FF FF FF FF FF FF"))) ++ record { unit = 0; place = record { at = 9; half = 0 } } ∷ []

abbrev items : List (StpPacket × Place)
items = (Plain (Datum SixtyFour false false) 18446744073709551615, record { at = 8; half = 0 }) ∷ []

read : (progress (by_unit (rule Msn)) Start nibbles).items ≡ items
read = refl

abbrev first : List (StpPacket × Place) → StpPacket
first [] = Async
first (x ∷ xs) = x.0

apart : Plain (Datum SixtyFour false false) 18446744073709551615 ≡ Async → ⊥
apart e = cc

none : (early later : List (StpPacket × Place)) (place : Place) → items ≡ early ++ ((Async, place) ∷ later) → ⊥
none [] later place e = apart (ap first e)
none (x ∷ []) later place e = cc
none (x ∷ (y ∷ early)) later place e = cc

-- a D64 of 16 nibbles F, and one more F, after which no run of two has begun
abbrev ones : List Placed
ones = nibbles_of (placed (hex (codes "F7 FF FF FF FF FF FF FF FF")))

seven : (count : ℕ) → 2 ≤ count → units_of ones ≡ replicate count 15 → ⊥
seven zero h e = omega (arith, h)
seven (suc count) h e = cc

split : (early later : List (StpPacket × Place)) (run : List Placed) → items ≡ early ++ later → Splits (InUnits (Spells Msn)) early run ones → IsRun run → ⊥
split [] later run e s k = seven k.0 k.1 (ap units_of s ∙ k.2)
split (x ∷ (y ∷ early)) later run e s k = (let n = ap length e in omega arith)
split (x ∷ []) later run e s k =
    let same : x.0 ≡ Plain (Datum SixtyFour false false) 18446744073709551615 = sym (ap first e) in
    let spelled : Spells Msn (Plain (Datum SixtyFour false false) 18446744073709551615) (units_of (s.0 ++ s.1 ∷ [])) = subst (λ (p : StpPacket). Spells Msn p (units_of (s.0 ++ s.1 ∷ []))) same s.3 in
    let long : length (units_of (s.0 ++ s.1 ∷ [])) ≡ 17 = (let m = ap length spelled.3 in let n = length-append (7 ∷ []) spelled.0 in let q : length spelled.0 ≡ 16 = spelled.2.0 in let y : length {A = ℕ} (7 ∷ []) ≡ 1 = refl in omega (arith, m, n, q, y)) in
    let all : 18 ≡ length s.0 + length (s.1 ∷ s.2) = ap length s.4 ∙ length-append s.0 (s.1 ∷ s.2) in
    let left : length s.2 ≡ k.0 = ap length s.6 ∙ sym (units_length run) ∙ ap length k.2 ∙ length-replicate k.0 15 in
    let a = units_length (s.0 ++ s.1 ∷ []) in let b = length-append s.0 (s.1 ∷ []) in let few = k.1 in let o : length (s.1 ∷ []) ≡ 1 = refl in let q : length (s.1 ∷ s.2) ≡ length s.2 + 1 = omega arith in omega arith

pub returns-clause-law : goal.returns-clause-law
returns-clause-law c =
    ends_not (InUnits (Spells Msn)) (λ r. why (units_of r)) (by_unit (rule Msn)) Start (on_units (rule Msn) (Spells Msn) why Start (decided Msn)) (replicate 17 15 ++ 0 ∷ []) Async nibbles refl (7 ∷ [], refl)
    (λ early later place e. none early later place (sym read ∙ e))

pub returns-clause-few : goal.returns-clause-few
returns-clause-few c = λ law.
    let d = on_units (rule Msn) (Spells Msn) why Start (decided Msn) in
    let a = law ones (reading (by_unit (rule Msn)) Start ones) (readings.reading_is (InUnits (Spells Msn)) (λ r. why (units_of r)) (by_unit (rule Msn)) Start d ones) refl ones [] (sym (append-nil ones)) (7 ∷ [], refl) in
    split a.early a.later a.run (a.parts) a.spelled a.alone

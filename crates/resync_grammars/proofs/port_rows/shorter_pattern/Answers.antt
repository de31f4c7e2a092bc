use Rattle.std.proofs.Common.{◌≡◌, List, [], ◌∷◌, ◌++◌, refl}
use Rattle.resync_grammars.specs.Names.{Place, Placed, placed, Splits, reading, PortItem, Full, Spells, why, start}
use Rattle.resync_grammars.specs.Names.{rule}
use Rattle.trace_values.proofs.Readings as readings
use Rattle.frame_grammar.proofs.Deciding.{port_decided}
use Rattle.resync_grammars.proofs.port_rows.shorter_pattern.Goals as goal

-- a full synchronisation, without its first byte
abbrev first : List Placed
first = placed (255 ∷ [])

abbrev others : List Placed
others = record { unit = 255; place = record { at = 1; half = 0 } } ∷ (record { unit = 255; place = record { at = 2; half = 0 } } ∷ (record { unit = 127; place = record { at = 3; half = 0 } } ∷ []))

-- no Full begins there
none : (early later : List (PortItem × Place)) (place : Place) → (reading rule start (first ++ others)).items ≡ early ++ ((Full, place) ∷ later) → Splits Spells early [] first → ⊥
none [] later place e s = cc
none (x ∷ []) later place e s = cc
none (x ∷ (y ∷ early)) later place e s = cc

pub returns : goal.returns
returns c = λ law.
    let a = (law (first ++ others) (reading rule start (first ++ others)) (readings.reading_is Spells why rule start port_decided (first ++ others)) refl first others refl).0 ([], refl) in
    none a.early a.later a.place a.parts a.spelled

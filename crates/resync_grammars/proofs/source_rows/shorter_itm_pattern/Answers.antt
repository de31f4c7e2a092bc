use Rattle.std.proofs.Common.{◌≡◌, List, [], ◌∷◌, ◌++◌, refl, sym, ap, ◌∙◌}
use Rattle.std.specs.Prelude.{codes}
use Rattle.resync_grammars.specs.Names.{InUnits, hex, Place, Placed, placed, units_of, progress, by_unit, Four}
use Rattle.resync_grammars.specs.Names.{ItmPacket, Sync, Software, Header}
use Rattle.trace_values.proofs.Placing.{on_units}
use Rattle.itm_grammar.specs.Spelling.{Spells, why}
use Rattle.itm_grammar.specs.Rule.{rule}
use Rattle.itm_grammar.proofs.Deciding.{decided}
use Rattle.resync_rules.proofs.Neighbours.{ends_not}
use Rattle.resync_grammars.proofs.source_rows.shorter_itm_pattern.Goals as goal

-- a packet whose payload ends so
abbrev bytes : List Placed
bytes = placed (hex (codes "03 00 00 00 80"))

abbrev items : List (ItmPacket × Place)
items = (Software 0 Four 2147483648, record { at = 4; half = 0 }) ∷ []

read : (progress (by_unit rule) Header bytes).items ≡ items
read = refl

abbrev first : List (ItmPacket × Place) → ItmPacket
first [] = Sync
first (x ∷ xs) = x.0

apart : Software 0 Four 2147483648 ≡ Sync → ⊥
apart e = cc

none : (early later : List (ItmPacket × Place)) (place : Place) → items ≡ early ++ ((Sync, place) ∷ later) → ⊥
none [] later place e = apart (ap first e)
none (x ∷ []) later place e = cc
none (x ∷ (y ∷ early)) later place e = cc

pub returns-clause-law : goal.returns-clause-law
returns-clause-law c = ends_not (InUnits Spells) (λ r. why (units_of r)) (by_unit rule) Header (on_units rule Spells why Header decided) (0 ∷ (0 ∷ (0 ∷ (128 ∷ [])))) Sync bytes refl (3 ∷ [], refl) (λ early later place e. none early later place (sym read ∙ e))

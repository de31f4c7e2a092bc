-- The reading up to a fault: the bytes before the one that breaks the item leave the rule in the kept state.
use Rattle.std.proofs.Common.{◌≡◌, List, Some}
use Rattle.frame_grammar.specs.Names.{Reason, Place, Placed, IsFirstFault, Progress, progress}
use Rattle.trace_values.proofs.Readings as readings
use Rattle.frame_grammar.specs.Port.{PortItem, Spells, why, half_words, State, start, rule}
use Rattle.frame_grammar.proofs.Deciding.{port_decided}
use Rattle.frame_grammar.proofs.Items.{walk_halves}

-- the bytes before a fault, and the half synchronisations that are kept
pub record HasBroken (p : Progress State PortItem) (f : Place × Reason) : Type 0 where
  pub broken : IsFirstFault Spells why p.rest f
  pub halves : p.state.halves ≡ half_words broken.before

pub broken_halves : (u : List Placed) (f : Place × Reason) → (progress rule start u).fault ≡ Some f → HasBroken (progress rule start u) f
broken_halves u f e =
    let p = progress rule start u in
    let k = readings.stops Spells why rule start port_decided u f e in record {
      broken = readings.first_fault Spells why rule start port_decided p.rest p.state f k;
      halves = walk_halves k.before p.state k.front;
    }

-- the bytes before a fault are the same ones, however it is found
pub same_before : (r : List Placed) (f g : Place × Reason) (s : IsFirstFault Spells why r f) (t : IsFirstFault Spells why r g) → s.before ≡ t.before
same_before = readings.same_before Spells why rule start port_decided

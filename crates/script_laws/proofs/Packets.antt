-- The shortest bytes of packets, one after the other, read as these packets.
use Rattle.std.proofs.Common.{◌≡◌, List, [], ◌∷◌, length, refl, ◌∙◌, ap, false, None, map}
use Rattle.script_laws.specs.Names.{Place, Placed, units_of, Said, Kept, kept, ItmPacket, short, packets_in}
use Rattle.trace_values.specs.Reading.{Progress}
use Rattle.trace_values.proofs.Sequences.{all_read}
use Rattle.itm_grammar.specs.declared.partial.Partial.{Partial}
use Rattle.itm_grammar.specs.declared.partial.Partial.TheVariants.{Header}
use Rattle.itm_grammar.specs.Rule.{rule}
use Rattle.itm_grammar.proofs.Deciding.{decided}
use Rattle.itm_grammar.proofs.ShortSpellings.{shortest}
use Rattle.script_laws.proofs.Bytes.{spelled, AreProper}

-- what packets in a row are read as: these packets, with no fault and no rest
pub record IsReadAs (u : List Placed) (packets : List ItmPacket) : Type 0 where
  pub given : map (λ (x : Said ItmPacket × Place). x.0) (packets_in false u).given ≡ map Kept packets
  pub fault : (packets_in false u).fault ≡ None
  pub tail : (packets_in false u).held ≡ 0

said : (items : List (ItmPacket × Place)) → map (λ (x : Said ItmPacket × Place). x.0) (kept items) ≡ map Kept (map (λ (x : ItmPacket × Place). x.0) items)
said [] = refl
said (x ∷ items) = ap (λ (l : List (Said ItmPacket)). Kept x.0 ∷ l) (said items)

pub read_as : (packets : List ItmPacket) → AreProper packets → (u : List Placed) → units_of u ≡ spelled packets → IsReadAs u packets
read_as packets h u e =
    let r = all_read rule Header short AreProper
    (λ p packets h. (decided.complete p (short p) (shortest p h.0).spells, h.1)) packets h u e [] in
    record {
      given = ap (λ (p : Progress Partial ItmPacket). map (λ (x : Said ItmPacket × Place). x.0) (kept p.items)) r.2 ∙ said r.0 ∙ ap (map Kept) r.1;
      fault = ap (λ (p : Progress Partial ItmPacket). p.fault) r.2;
      tail = ap (λ (p : Progress Partial ItmPacket). length p.rest) r.2;
    }

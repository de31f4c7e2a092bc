use Rattle.std.proofs.Common.{◌≡◌, ℕ, ◌+◌, ◌*◌, ◌∷◌, subst, arith}
use Rattle.itm_grammar.proofs.ShortSpellings.{shortest}
use Rattle.itm_grammar.specs.Shortest.{bytes_of}
use Rattle.itm_grammar.specs.Spelling.{Spells, byte_count, size_bits}
use Rattle.itm_grammar.specs.declared.packet.ItmPacket.TheVariants.{Software}
use Rattle.capture_actions.specs.Names.{placed, report_of}
use Rattle.capture_actions.specs.PortText.{source_of}
use Rattle.capture_actions.proofs.Values.{values_chosen}
use Rattle.capture_actions.proofs.laws.port_text_law.Goals as goal

pub returns-clause-listed : goal.returns-clause-listed
returns-clause-listed c = λ p bytes. values_chosen p.port (source_of p.plan) (report_of p.plan (placed bytes))

pub returns-clause-payload : goal.returns-clause-payload
returns-clause-payload c = λ port value size proper.
    let bits = size_bits size in
    let header : 8 * port + 4 * 0 + bits ≡ 8 * port + bits = omega arith in
    subst (λ (h : ℕ). Spells (Software port size value) (h ∷ bytes_of (byte_count size) value)) header
    (shortest (Software port size value) proper).spells

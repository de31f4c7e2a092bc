use Rattle.std.proofs.Common.{◌≡◌, ◌<◌, ◌^◌, ℕ, subst, sym}
use Rattle.itm_grammar.specs.declared.packet.Size.{Size}
use Rattle.itm_grammar.specs.Spelling.{byte_count}
use Rattle.dwt_packets.specs.Table.{name}
use Rattle.dwt_packets.proofs.Inverses.{in_range, proper_name}
use Rattle.dwt_packets.proofs.packets.packet_of.Goals as goal

pub packet_in_range-requires : goal.packet_in_range-requires
packet_in_range-requires c = in_range c.args.item.now c.requires

pub returns-clause-disc : goal.returns-clause-disc
returns-clause-disc c =
    subst (λ (p : ℕ × Size × ℕ). p.0 < 32) (sym c.packet_in_range.ensures) (proper_name c.args.item.now c.requires).0

pub returns-clause-value : goal.returns-clause-value
returns-clause-value c =
    subst (λ (p : ℕ × Size × ℕ). p.2 < 256 ^ byte_count p.1) (sym c.packet_in_range.ensures) (proper_name c.args.item.now c.requires).1

pub returns-clause-meaning : goal.returns-clause-meaning
returns-clause-meaning c =
    subst (λ (p : ℕ × Size × ℕ). name p.0 p.1 p.2 ≡ c.args.item.now) (sym c.packet_in_range.ensures) (proper_name c.args.item.now c.requires).2

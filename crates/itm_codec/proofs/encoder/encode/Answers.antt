use Rattle.std.proofs.Common.{List, ℕ, subst, sym}
use Rattle.itm_codec.specs.Names.{Spells}
use Rattle.itm_grammar.proofs.Deciding.{decided}
use Rattle.itm_codec.proofs.encoder.encode.Goals as goal

pub returns-clause-reads_back : goal.returns-clause-reads_back
returns-clause-reads_back c = decided.complete c.args.packet.now c.put.new.out.items
    (subst (λ (r : List ℕ). Spells c.args.packet.now r) (sym c.put.ensures) c.shortest_len.ensures.spelling.0)

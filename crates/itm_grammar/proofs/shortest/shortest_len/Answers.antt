use Rattle.std.proofs.Common.{◌∙◌, sym, subst, ◌≤◌, length}
use Rattle.itm_grammar.proofs.ShortSpellings.{shortest}
use Rattle.itm_grammar.proofs.shortest.shortest_len.Goals as goal

pub returns-clause-spelling : goal.returns-clause-spelling
returns-clause-spelling c =
    let h = shortest c.args.packet.now c.requires in (h.spells, h.len ∙ sym c.len_of.ensures)

pub returns-clause-least : goal.returns-clause-least
returns-clause-least c = λ r s.
    let h = shortest c.args.packet.now c.requires in
    subst (λ n. n ≤ length r) (h.len ∙ sym c.len_of.ensures) (h.least r s)

use Rattle.std.proofs.Common.{◌≡◌, ◌∷◌, [], ◌++◌, ◌+◌, ◌∙◌, ℕ, ap, sym, subst, take}
use Rattle.std.proofs.lemmas.List.{take_more, length-take-le}
use Rattle.script_rebuild.specs.Rebuilder.{Feeds}
use Rattle.script_rebuild.proofs.Taking.{taken_so}
use Rattle.script_rebuild.proofs.rebuild.RebuildAction.feed.Goals as goal

pub returns-then-piece-len-eq10-clause-fed : goal.returns-then-piece-len-eq10-clause-fed
returns-then-piece-len-eq10-clause-fed c = λ seen s.
    let piece = c.args.piece.now in
    let n = c.plain_len-len.result in
    let bytes : c.take_line.result.bytes ≡ n + 1 = c.take_line.ensures.bytes ∙ ap (λ (k : ℕ). k + 1) (length-take-le n piece c.plain_len-len.ensures.bound) in
    let front : take n piece ++ 10 ∷ [] ≡ take c.take_line.result.bytes piece =
    ap (λ (b : ℕ). take n piece ++ b ∷ []) (sym c.if-piece-len-eq10.true) ∙ sym (take_more piece n 0 c.if-len-piece.true) ∙ ap (λ (k : ℕ). take k piece) (sym bytes) in
    let line = c.take_line in
    let fed = subst (λ l. Feeds c.args.self.now line.new.self l c.args.outlet.now line.new.outlet line.result.is_faulty) front line.ensures.fed in
    taken_so line.new.self c.args.self.now.plan seen _ _ _ line.result.is_faulty fed.reading (fed.fed seen (s.reads c.requires.live.reading))

pub returns-clause-fed : goal.returns-clause-fed
returns-clause-fed c = λ seen s.
    let open_ = c.feed_open in
    let fed = open_.ensures.fed in
    taken_so open_.new.self c.args.self.now.plan seen _ _ _ open_.result.is_faulty fed.reading (fed.fed seen (s.reads c.requires.live.reading))

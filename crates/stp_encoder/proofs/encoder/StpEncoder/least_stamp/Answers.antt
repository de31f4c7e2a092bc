use Rattle.std.proofs.Common.{◌≡◌, ℕ, [], ◌∷◌, ◌∙◌, ap, subst, Bool, cond, arith}
use Rattle.stp_encoder.specs.Names.{gray_of, sized, IsLeast}
use Rattle.stp_encoder.specs.Packets.{shortest_stamp}
use Rattle.stp_encoder.proofs.Least.{least_is}
use Rattle.stp_encoder.proofs.encoder.StpEncoder.least_stamp.Goals as goal

pub returns-clause-least : goal.returns-clause-least
returns-clause-least c = λ packets s.
    let last = c.last_word.result in
    let gray : c.apply.new.self.gray ≡ c.args.gray = c.apply.ensures.gray ∙ c.new-stamps.ensures.gray in
    let least = c.least.ensures (sized 14 last ∷ []) (c.apply.ensures.list [] c.new-stamps.ensures.list) in
    least_is c.args.gray last c.args.time c.least.result.0 c.least.result.1 (omega arith) (omega arith)
    (subst (λ (g : Bool). IsLeast g (sized 14 last ∷ []) c.args.time c.least.result.0 c.least.result.1) gray least)
    ∙ ap (λ (z : ℕ). shortest_stamp z (cond c.args.gray (gray_of c.args.time) c.args.time)) (c.last_word.ensures.list packets s)

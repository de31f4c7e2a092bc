use Rattle.std.proofs.Common.{refl, ◌∙◌, arith}
use Rattle.itm_codec.proofs.Parts.{ended_passes}
use Rattle.itm_codec.proofs.Waiting.{settled}
use Rattle.itm_codec.proofs.decoder.ItmDecoder.end_part.Goals as goal

pub returns-then-not-is_piece-clause-passes : goal.returns-then-not-is_piece-clause-passes
returns-then-not-is_piece-clause-passes c =
    ended_passes c.args.self.now c.forget.new.self c.args._ahead.now c.args.end c.requires.live c.requires.ends
    c.forget.ensures.same.0 c.forget.ensures.same.1 (c.forget.ensures.part ∙ c.requires.ends.header)

pub returns-else-self-gt0-clause-passes : goal.returns-else-self-gt0-clause-passes
returns-else-self-gt0-clause-passes c =
    ended_passes c.args.self.now c.args.self.now c.args._ahead.now c.args.end c.requires.live c.requires.ends refl refl
    (settled c.args.self.now (let k = c.if-self-gt0.false in omega (arith, k)) ∙ c.requires.ends.header)

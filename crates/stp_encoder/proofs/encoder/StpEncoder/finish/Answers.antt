use Rattle.std.proofs.Common.{ℕ, List, ◌++◌, sym, ◌∙◌, ap}
use Rattle.stp_encoder.specs.Bytes.{written, nibbles_for}
use Rattle.stp_encoder.proofs.Joining.{filled_append}
use Rattle.stp_encoder.proofs.encoder.StpEncoder.finish.Goals as goal

pub returns-clause-encoded : goal.returns-clause-encoded
returns-clause-encoded c = λ puts s.
    let order = c.args.self.order in
    filled_append (nibbles_for order puts) ∙ ap (λ (l : List ℕ). written order puts ++ l) (sym (c.flush.ensures.bytes puts s))

use Rattle.std.proofs.Common.{ℕ, List, ◌++◌, Option, refl, sym, ◌∙◌, ap}
use Rattle.std.specs.Option.{option_to_list}
use Rattle.stp_encoder.specs.Bytes.{joined, filled, written}
use Rattle.stp_encoder.proofs.Standing.{stands_flush, written_flush}
use Rattle.stp_encoder.proofs.encoder.StpEncoder.flush.Goals as goal

pub returns-clause-list : goal.returns-clause-list
returns-clause-list c = λ puts s. stands_flush c.args.self.now _ puts refl c.flush.ensures.none s

pub returns-clause-bytes : goal.returns-clause-bytes
returns-clause-bytes c = λ puts s. c.flush.ensures.bytes ∙ ap (λ (o : Option ℕ). joined (filled (option_to_list o))) s.nibble

pub returns-clause-written : goal.returns-clause-written
returns-clause-written c = λ puts s.
    written_flush c.args.self.now.order puts ∙ ap (λ (l : List ℕ). written c.args.self.now.order puts ++ l) (sym (returns-clause-bytes c puts s))

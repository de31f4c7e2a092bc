use Rattle.itm_codec.proofs.Syncs.{zeros_wait, zeros_kept}
use Rattle.itm_codec.proofs.decoder.ItmDecoder.take_slowly.Goals as goal

pub take_zeros-requires-clause-zeros : goal.take_zeros-requires-clause-zeros
take_zeros-requires-clause-zeros c = zeros_wait c.args.self.now c.in-Header.is c.if-self-eq0.true

pub take_zeros-requires-in-Zeros-clause-zeros : goal.take_zeros-requires-in-Zeros-clause-zeros
take_zeros-requires-in-Zeros-clause-zeros c = zeros_kept c.args.self.now c.in-Zeros.taken c.in-Zeros.is

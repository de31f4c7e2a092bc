use Rattle.std.proofs.Common.{length}
use Rattle.itm_codec.proofs.Parts.{took_none, took_part}
use Rattle.itm_codec.proofs.decoder.ItmDecoder.take_part.Goals as goal

pub returns-clause-takes : goal.returns-clause-takes
returns-clause-takes c = took_part c.args.self.now c.take_slowly.new.self c.args.bytes.now c.take_slowly.result c.requires.live c.take_slowly.ensures

pub returns-clause-none : goal.returns-clause-none
returns-clause-none c =
    took_none c.args.self.now c.take_slowly.new.self c.args.bytes.now (length c.args.bytes.now) c.take_slowly.result c.take_slowly.ensures

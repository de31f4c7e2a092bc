use Rattle.std.proofs.Common.{arith}
use Rattle.itm_codec.proofs.Parts.{looked_ends, looked_idles, looked_waits, looked_passes}
use Rattle.itm_codec.proofs.decoder.ItmDecoder.find_part.Goals as goal

pub returns-clause-ends : goal.returns-clause-ends
returns-clause-ends c =
    looked_ends c.args.self.now c.find_at_once.new.self c.args.ahead.now c.args.count c.find_at_once.result c.find_at_once.ensures

pub returns-clause-idles : goal.returns-clause-idles
returns-clause-idles c =
    looked_idles c.args.self.now c.find_at_once.new.self c.args.ahead.now c.args.count c.find_at_once.result c.find_at_once.ensures

pub returns-clause-waits : goal.returns-clause-waits
returns-clause-waits c =
    looked_waits c.args.self.now c.find_at_once.new.self c.args.ahead.now c.args.count c.find_at_once.result
    (let h = c.requires.ahead in omega arith) c.find_at_once.ensures

pub returns-clause-passes : goal.returns-clause-passes
returns-clause-passes c =
    looked_passes c.args.self.now c.find_at_once.new.self c.args.ahead.now c.args.count c.find_at_once.result
    c.requires.live c.find_at_once.ensures

use Rattle.stp_codec.proofs.Taken.{copies_ready, copies_finds}
use Rattle.stp_codec.proofs.decoder.StpDecoder.find_ready.Goals as goal

pub find_held-requires-clause-ready : goal.find_held-requires-clause-ready
find_held-requires-clause-ready c = copies_ready c.args.self.now c.hold.new.self c.args.ahead.now c.hold.ensures c.requires.ready

pub returns-clause-found : goal.returns-clause-found
returns-clause-found c = copies_finds c.args.self.now c.hold.new.self c.find_held.new.self c.args.ahead.now c.args.count c.find_held.result c.hold.ensures c.find_held.ensures.found

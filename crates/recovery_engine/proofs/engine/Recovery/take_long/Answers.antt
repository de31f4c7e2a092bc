use Rattle.std.proofs.Common.{◌≤◌, arith, length, refl, take}
use Rattle.std.proofs.lemmas.Bool.Decides.{nat_tests}
use Rattle.recovery_engine.proofs.Feeding.{front_of}
use Rattle.recovery_engine.proofs.engine.Recovery.take_long.Goals as goal

pub returns : goal.returns
returns g c =
    let piece = c.args.piece.now in
    let count = c.min-count.result in
    let within : count ≤ length piece = (let m = c.min-count.ensures in grind (arith, nat_tests)) in
    front_of g.V.Receiver.gets g.V.Receiver.room c.args.at piece (take count piece) count c.take_piece.result
    (c.args.self.now, (c.args.out.now, c.args.to.now))
    (c.take_piece.new.self, (c.take_piece.new.out, c.take_piece.new.to)) within refl c.take_piece.ensures

use Rattle.std.proofs.Common.{arith}
use Rattle.stp_codec.proofs.Taken.{more_fronts, more_count, more_passes}
use Rattle.stp_codec.proofs.decoder.StpDecoder.wait.Goals as goal

pub invariant_of-self-clause-fronts : goal.invariant_of-self-clause-fronts
invariant_of-self-clause-fronts c = λ h. more_fronts c.args.self.now c.args._ahead.now c.args.count c.requires.held c.requires.fronts

pub returns-clause-found : goal.returns-clause-found
returns-clause-found c =
    let d = c.args.self.now in
    let k = more_count d c.args._ahead.now c.args.count c.requires.held c.requires.fronts c.requires.ahead in
    record {
      bytes = (c.requires.some, omega arith);
      passes = λ u front last s e. more_passes d c.args._ahead.now c.args.count c.requires.held c.requires.fronts c.requires.ready.live c.requires.ready.locked u front last s e;
      fits = tt;
      few = omega (arith, k);
    }

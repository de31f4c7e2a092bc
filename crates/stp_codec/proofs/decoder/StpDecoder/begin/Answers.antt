use Rattle.std.proofs.Common.{refl, sym}
use Rattle.stp_codec.specs.Names.{Start, rule}
use Rattle.stp_codec.proofs.PartsPieces.{leaves_is}
use Rattle.stp_codec.proofs.decoder.StpDecoder.begin.Goals as goal

pub returns-in-Lsn : goal.returns-in-Lsn
returns-in-Lsn c =
    let d = c.args.self.now in
    record {
      order = refl;
      mode = refl;
      live = refl;
      attribution = refl;
      waiting = refl;
      begun = sym (leaves_is (rule d.order Start c.args.nibble) c.after_first-self.result (c.after_first-self.ensures.next d.order));
    }

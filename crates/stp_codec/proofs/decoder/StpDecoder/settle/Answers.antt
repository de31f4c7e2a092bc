use Rattle.std.proofs.Common.{◌≡◌, refl, sym, ◌∙◌, arith}
use Rattle.stp_codec.proofs.Taken.{settled, begun_again}
use Rattle.stp_codec.proofs.decoder.StpDecoder.settle.Goals as goal

pub returns-else-self-gt0 : goal.returns-else-self-gt0
returns-else-self-gt0 c =
    let d = c.args.self.now in
    let f = c.if-self-gt0.false in
    let none : d.waiting ≡ 0 = omega (arith, f) in
    let is = c.unfinished-self.ensures.value in
    record {
      order = refl;
      mode = refl;
      live = refl;
      attribution = refl;
      partial = is ∙ sym (settled d none);
      none = (none, begun_again d.order d.first d.partial c.unfinished-self.result is);
    }

use Rattle.std.proofs.Common.{ℕ, List, refl, sym, subst, arith}
use Rattle.stp_codec.specs.Wholes.{nibbles_in, Fronts}
use Rattle.stp_codec.specs.Decoder.{begun_of}
use Rattle.stp_codec.proofs.Unread.{copied_front, copied}
use Rattle.stp_codec.proofs.decoder.StpDecoder.hold.Goals as goal

pub returns : goal.returns
returns c =
    let d = c.args.self.now in
    let s = d.size in
    let f = d.few in
    let window = c.window_in.result.now in
    record {
      order = refl;
      mode = refl;
      live = refl;
      attribution = refl;
      partial = refl;
      first = refl;
      waiting = refl;
      bytes = copied_front d.held c.put_window.new.held window c.args.ahead.now d.waiting (omega (arith, s, f)) c.put_window.ensures;
      behind = λ more h. copied d.held c.put_window.new.held window c.args.ahead.now d.waiting (omega (arith, s, f)) c.put_window.ensures more h c.window_in.ensures;
    }

pub invariant_of-self-clause-fronts : goal.invariant_of-self-clause-fronts
invariant_of-self-clause-fronts c = λ h.
    let d = c.args.self.now in
    let s = d.size in
    let f = d.few in
    subst (λ (l : List ℕ). Fronts d.order (begun_of d) (nibbles_in l))
    (sym (copied_front d.held c.put_window.new.held c.window_in.result.now c.args.ahead.now d.waiting (omega (arith, s, f)) c.put_window.ensures))
    (d.fronts h)

use Rattle.std.proofs.Common.{◌-◌, ◌++◌, ℕ, List, length, drop, sym, refl, ◌∙◌, ap}
use Rattle.std.proofs.lemmas.List.{take-append-drop, append_cancel_left}
use Rattle.capture_actions.specs.Names.{realigned, sure}
use Rattle.port_slip.specs.Segments.{Realigned}
use Rattle.capture_actions.proofs.realign.RealignAction.finish.Goals as goal

pub returns : goal.returns
returns c = record {
  same = refl;
  stands = λ seen s. s;
  ended = λ seen s. (
      let b = (realigned seen).bytes in
      let w = ap (λ (r : Realigned). r.bytes) (c.finish.ensures.whole seen (sure seen) s) in
      let last = append_cancel_left (sure seen) (drop (length b - 4) b) c.finish.new.out.items (take-append-drop (length b - 4) b ∙ w) in
      c.append.ensures ∙ ap (λ (l : List ℕ). l ++ c.as_slice.result.now) c.requires.empty ∙ c.as_slice.ensures.value ∙ sym last);
}

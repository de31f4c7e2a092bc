use Rattle.std.proofs.Common.{◌≡◌, ℕ, ◌+◌, ◌*◌, List, [], ◌∷◌, ◌++◌, length, sym, ◌∙◌, ap, subst, true}
use Rattle.std.proofs.lemmas.List.{length-map, length-take-le}
use Rattle.stp_codec.specs.Names.{Placed, nibbles_of, Mode, hunts}
use Rattle.stp_codec.specs.Hunting.{Skips}
use Rattle.stp_codec.specs.Reading.{items_in}
use Rattle.stp_codec.specs.Wholes.{nibbles_in}
use Rattle.stp_codec.specs.Decoder.{partial_of}
use Rattle.stp_codec.proofs.Taking.{At}
use Rattle.stp_codec.proofs.Skipping.{Hunts, bytes_on, none_given}
use Rattle.stp_codec.proofs.decoder.StpDecoder.skip_part.Goals as goal

pub returns-in-Hunting-clause-passes : goal.returns-in-Hunting-clause-passes
returns-in-Hunting-clause-passes c = λ u front last s e.
    let d = c.args.self.now in
    let skip = c.skip_in-skip in
    let run = c.in-Hunting.run' in
    let skipped = c.in-Hunting.skipped in
    let w : List Placed = front ++ last ∷ [] in
    let is : hunts d.mode ≡ true = ap hunts c.in-Hunting.is in
    let was =
    subst (λ (m : Mode). At d.order m d.live (partial_of d) d.attribution (nibbles_of u)) c.in-Hunting.is s in
    let now = bytes_on d.order d.live (partial_of d) d.attribution u w run skipped skip.result.run
    (subst (λ (l : List ℕ). Skips run (nibbles_in l) skip.result.run) (sym e) skip.ensures.skips) was in
    let count : length w ≡ skip.result.bytes =
    sym (length-map w (λ (p : Placed). p.unit)) ∙ ap length e
    ∙ length-take-le skip.result.bytes c.args.bytes.now skip.ensures.bytes in
    let before = none_given d.order d.live (partial_of d) d.attribution run skipped (nibbles_of u) was in
    let after = none_given d.order d.live (partial_of d) d.attribution skip.result.run (skipped + 2 * length w)
    (nibbles_of (u ++ w)) now in
    record {
      list = subst (λ (n : ℕ). Hunts d.order d.live (partial_of d) d.attribution skip.result.run (skipped + 2 * n)
          (nibbles_of (u ++ w))) count now;
      given = ap (λ h. (items_in d.order h (u ++ w)).given) is ∙ after.0
          ∙ sym (ap (λ h. (items_in d.order h u).given ++ []) is ∙ ap (λ l. l ++ []) before.0);
      sound = ap (λ h. (items_in d.order h (u ++ w)).fault) is ∙ after.1;
    }

use Rattle.std.proofs.Common.{◌≡◌, ℕ, ◌+◌, List, [], ◌∷◌, ◌++◌, length, sym, ◌∙◌, ap, subst, true}
use Rattle.std.proofs.lemmas.List.{length-map, length-take-le}
use Rattle.itm_codec.specs.Names.{Placed, by_unit, Mode, StandsIn, Sync, Header, rule, hunts}
use Rattle.itm_codec.specs.Hunting.{Skips}
use Rattle.itm_codec.specs.Reading.{pattern, packets_in}
use Rattle.itm_codec.specs.Decoder.{partial_of}
use Rattle.itm_codec.proofs.Skipping.{Hunts, seeks_on, none_given}
use Rattle.itm_codec.proofs.decoder.ItmDecoder.skip_part.Goals as goal

pub returns-in-Hunting-clause-passes : goal.returns-in-Hunting-clause-passes
returns-in-Hunting-clause-passes c = λ u front last s e.
    let d = c.args.self.now in
    let skip = c.skip_in-skip in
    let run = c.in-Hunting.run' in
    let skipped = c.in-Hunting.skipped in
    let w : List Placed = front ++ last ∷ [] in
    let is : hunts d.mode ≡ true = ap hunts c.in-Hunting.is in
    let was =
    subst (λ (m : Mode). StandsIn pattern Sync (by_unit rule) Header m d.live (partial_of d) u) c.in-Hunting.is s in
    let now = seeks_on w run skipped skip.result.run u
    (subst (λ (l : List ℕ). Skips pattern run l skip.result.run) (sym e) skip.ensures.skips) was.0 in
    let count : length w ≡ skip.result.bytes =
    sym (length-map w (λ (p : Placed). p.unit)) ∙ ap length e
    ∙ length-take-le skip.result.bytes c.args.bytes.now skip.ensures.bytes in
    let before = none_given run skipped u was.0 in
    let after = none_given skip.result.run (skipped + length w) (u ++ w) now in
    record {
      list = (subst (λ (n : ℕ). Hunts skip.result.run (skipped + n) (u ++ w)) count now, was.1, was.2);
      given = ap (λ h. (packets_in h (u ++ w)).given) is ∙ after.0
          ∙ sym (ap (λ h. (packets_in h u).given ++ []) is ∙ ap (λ l. l ++ []) before.0);
      sound = ap (λ h. (packets_in h (u ++ w)).fault) is ∙ after.1;
    }

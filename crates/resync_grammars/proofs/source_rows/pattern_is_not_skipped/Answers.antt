use Rattle.std.proofs.Common.{◌≡◌, ◌-◌, List, [], ◌∷◌, length, length-append, refl, ◌∙◌, ap, inl, inr, arith, true, false}
use Rattle.std.specs.Prelude.{codes}
use Rattle.resync_grammars.specs.Names.{hex, Placed, placed, Stream, ItmPacket, packets_in, Locks}
use Rattle.resync_grammars.specs.Itm.{hunting}
use Rattle.resync_grammars.proofs.source_rows.pattern_is_not_skipped.Goals as goal

-- a synchronisation packet alone, of which nothing is skipped
abbrev bytes : List Placed
bytes = placed (hex (codes "00 00 00 00 00 80"))

wrong : (front : List Placed) → Locks (record (hunting false) { size = 0 }) [] bytes front → ⊥
wrong front l =
    let all : packets_in true bytes ≡ _ = ap (packets_in true) l.first.is_sync.parts ∙ l.rest_on l.first.is_sync.more in
    let skipped : 0 ≡ length front - 0 = ap (λ (s : Stream ItmPacket). s.skipped) all in
    let n = ap length l.ends in
    let m = length-append l.start (l.last ∷ []) in
    let o : length (l.last ∷ []) ≡ 1 = refl in omega arith

pub returns-clause-law : goal.returns-clause-law
returns-clause-law c = λ law. elim (law [] bytes refl) [
  | inl m ↦ (let e : true ≡ false = ap (λ (s : Stream ItmPacket). s.locked) m.1 in cc)
  | inr m ↦ wrong m.0 m.1
]

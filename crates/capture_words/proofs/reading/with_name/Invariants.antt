use Rattle.std.proofs.Common.{◌≡◌, map, codes, ◌∷◌, take}
use Rattle.std.specs.String.{string_bytes}
use Rattle.capture_words.proofs.reading.with_name.Given as goal

abbrev pub invariant-loop-word : goal.invariant-loop-word
invariant-loop-word l = map (λ s. s.now) l.all.items ≡ codes "lipparoy" ∷ map string_bytes (take l.word-index l.words)

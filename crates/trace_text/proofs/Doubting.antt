-- A line and then the mark of a guess over its end.
use Rattle.std.proofs.Common.{◌≡◌, ℕ, ◌+◌, ◌-◌, ◌≤◌, ◌<◌, List, ◌++◌, length, take, ◌∙◌, ap, append_assoc, length-append, arith}
use Rattle.std.specs.Prelude.{codes}
use Rattle.std.proofs.lemmas.List.{length-take-le}
use Rattle.trace_text.specs.LineText.{doubted}
use Rattle.trace_text.specs.Puts.{PutsAll}
use Rattle.trace_text.proofs.Fronts.{part}

module _ (old mid line : List ℕ) (from end : ℕ) (room : from + 160 ≤ length old) (same : length mid ≡ length old)
    (bound : end ≤ from + 160) (text : take end mid ≡ take from old ++ line) where
  -- where the line ends
  pub line_end : end ≡ from + length line
  line_end =
      let whole = length-take-le end mid (omega (arith, room, same, bound)) in
      let front = length-take-le from old (omega (arith, room)) in
      let parts = length-append (take from old) line in
      let both = ap length text in
      omega (arith, whole, front, parts, both)

  pub marked : (new : List ℕ) (to : ℕ) → 0 < length line → PutsAll mid new (end - 1) to 3 (codes " ?\n") →
      take to new ≡ take from old ++ doubted line
  marked new to some p =
      let before : take (end - 1) mid ≡ take from old ++ take (length line - 1) line =
      ap (λ n. take n mid) (let e = line_end in omega (arith, e, some))
      ∙ part from (length line - 1) (length line) old mid line (omega (arith, room))
      (ap (λ n. take n mid) (let e = line_end in omega (arith, e)) ∙ text) (omega arith)
      (let e = line_end in omega (arith, e, room, same, bound)) in
      p.text ∙ ap (λ (l : List ℕ). l ++ codes " ?\n") before
      ∙ append_assoc (take from old) (take (length line - 1) line) (codes " ?\n")

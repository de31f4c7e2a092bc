use Rattle.std.proofs.Common.{◌++◌, List, ℕ, take, sym, ◌∙◌, ap, arith}
use Rattle.std.proofs.lemmas.List.{take-append-drop, length-take-le}
use Rattle.buffer_ring.specs.Image.{dropped}
use Rattle.buffer_ring.proofs.Images.{in_order}
use Rattle.buffer_ring.proofs.laws.ring_law.Goals as goal

pub returns-clause-last : goal.returns-clause-last
returns-clause-last c = λ n u h. in_order n h u

pub returns-clause-whole : goal.returns-clause-whole
returns-clause-whole c = λ n u h. (
  take (dropped n u) u,
  length-take-le (dropped n u) u (omega arith),
  sym (take-append-drop (dropped n u) u) ∙ ap (λ (l : List ℕ). take (dropped n u) u ++ l) (sym (in_order n h u)),
)

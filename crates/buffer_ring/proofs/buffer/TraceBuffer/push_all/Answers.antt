use Rattle.buffer_ring.proofs.Parts.{took_part}
use Rattle.std.proofs.Common.{◌≡◌, List, ℕ, ◌++◌, take, drop, sym, ap, ◌∙◌}
use Rattle.std.proofs.lemmas.List.{take-append-drop}
use Rattle.buffer_ring.proofs.buffer.TraceBuffer.push_all.Goals as goal

split_is : (l a b : List ℕ) (n : ℕ) → a ≡ take n l → b ≡ drop n l → l ≡ a ++ b
split_is l a b n e f = sym (ap (λ (x : List ℕ). x ++ b) e ∙ ap (λ (x : List ℕ). take n l ++ x) f ∙ take-append-drop n l)

pub loop-rest-preserved : goal.loop-rest-preserved
loop-rest-preserved c =
    took_part c.args.self.now c.loop-rest.self c.push_part.new.self c.args.piece.now c.loop-rest.rest.now c.split_at.result.0.now c.split_at.result.1.now
    c.loop-rest.invariant (split_is _ _ _ _ c.split_at.ensures.front c.split_at.ensures.back) c.push_part.ensures

use Rattle.std.proofs.Common.{◌≡◌, ◌-◌, ◌∙◌, List, ℕ, Bool, true, [], cond, length, drop, sym, ap, arith}
use Rattle.std.specs.Prelude.{◌==◌}
use Rattle.std.proofs.lemmas.Bool.Decides.{nat_tests}
use Rattle.buffer_ring.specs.Image.{ordered}
use Rattle.capture_actions.specs.Names.{owing, with_debt}
use Rattle.trace_stream.specs.Owed.{last_of}
use Rattle.capture_actions.specs.Unring.{ordered_of}
use Rattle.trace_stream.proofs.Owing.{with_last}
use Rattle.capture_actions.proofs.unring.UnringAction.finish.Goals as goal

same_count : (a b : ℕ) → (a == b) ≡ true → a ≡ b
same_count a b e = grind (arith, nat_tests)

pub returns-then-is_image-clause-ended : goal.returns-then-is_image-clause-ended
returns-then-is_image-clause-ended c = λ seen s.
    let r = c.args.self.now in
    let all = ordered_of r in
    let n = c.ordered_len-self.result in
    let test = sym (c.is_image.ensures seen s) ∙ c.if-is_image.true in
    let whole : last_of n all ≡ all =
    ap (λ (k : ℕ). drop (length all - k) all) c.ordered_len-self.ensures.len
    ∙ ap (λ (k : ℕ). drop k all) (let e : length all - length all ≡ 0 = omega arith in e) in
    ap (λ (l : List ℕ). with_debt l (owing (last_of n all) n)) c.requires.empty ∙ with_last [] all n ∙ whole
    ∙ c.ordered_len-self.ensures.exact seen s (same_count _ _ test)
    ∙ sym (ap (λ (t : Bool). cond t (ordered seen r.pointer r.full) []) test)

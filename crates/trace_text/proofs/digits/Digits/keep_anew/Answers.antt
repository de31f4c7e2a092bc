use Rattle.std.proofs.Common.{◌≡◌, ◌-◌, ◌/◌, ◌%◌, ◌∙◌, ℕ, ap, arith}
use Rattle.std.specs.Prelude.{decimal}
use Rattle.trace_text.proofs.digits.Digits.keep_anew.Goals as goal

pub invariant_of-self : goal.invariant_of-self
invariant_of-self c =
    let n = c.args.number in
    let same : n / 100 ≡ (n - n % 100) / 100 = omega arith in
    record {
      few = c.digits_of-self.ensures.few;
      sized = c.digits_of-self.ensures.size;
      whole = omega arith;
      kept = c.digits_of-self.ensures.digits ∙ ap (λ (k : ℕ). decimal k) same;
    }

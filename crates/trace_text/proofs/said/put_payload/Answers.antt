use Rattle.std.proofs.Common.{◌≡◌, ℕ, Bool, true, false, cond, ap, refl, sym, subst, ◌∙◌, append-nil, arith}
use Rattle.std.specs.Prelude.{◌==◌, ◌||◌, decimal}
use Rattle.std.proofs.lemmas.Bool.Decides.{nat_tests}
use Rattle.stp_grammar.specs.Opcodes.{line_of, row_at}
use Rattle.trace_text.specs.HexDigits.{hex_digits}
use Rattle.trace_text.specs.Puts.{Puts}
use Rattle.trace_text.specs.SaidText.{is_counted, value_at}
use Rattle.trace_text.proofs.Putting.{loose, sized, within}
use Rattle.trace_text.proofs.SaidTables.{counted_few}
use Rattle.trace_text.proofs.said.put_payload.Goals as goal

pub returns-then-number-eq-ASYNC : goal.returns-then-number-eq-ASYNC
unfolding hex_digits
returns-then-number-eq-ASYNC c =
    let a = c.args in
    subst (λ (n : ℕ). Puts a.room.now a.room.now a.from a.from 16 (value_at (row_at n) a.payload)) (sym c.if-number-eq-ASYNC.true)
    (record { text = sym (append-nil _); same = refl; end = omega arith })

-- a late value but for an ASYNC's is in decimal
counted_of : (a b : Bool) → b ≡ false → (a || b) ≡ true → a ≡ true
counted_of true b e f = refl
counted_of false b e f = absurd (let g = sym e ∙ f in cc)

pub returns-else-number-eq-ASYNC : goal.returns-else-number-eq-ASYNC
returns-else-number-eq-ASYNC c =
    let v = c.args.payload in
    let row = row_at c.args.number in
    let other = c.if-number-eq-ASYNC.false in
    let counted = counted_of (is_counted row) (c.args.number == 35) (grind (arith, nat_tests)) (sym c.is_late.ensures ∙ c.if-not-is_late.false) in
    let few = counted_few row v counted c.requires.fits in
    within (loose (sized c.put_number.ensures c.requires.room)) (omega (arith, few))
    (ap (λ (t : Bool). cond t (decimal v) (hex_digits (line_of row).payload v)) (sym counted))

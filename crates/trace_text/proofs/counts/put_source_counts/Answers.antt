use Rattle.std.proofs.Common.{◌≡◌, ℕ, ◌+◌, ◌≤◌, ◌<◌, length, length-append, refl, arith}
use Rattle.std.specs.Prelude.{codes, decimal}
use Rattle.std.proofs.lemmas.Fmt.{length-decimal-le}
use Rattle.trace_text.proofs.LongestLines.{longer}
use Rattle.trace_text.specs.CountText.{source_counts_line}
use Rattle.trace_text.proofs.counts.put_source_counts.Goals as goal

-- a line has at most three digits and those of its numbers
line_fits : (id bytes items m n : ℕ) → id < 127 → length (decimal bytes) ≤ m → length (decimal items) ≤ n →
    length (source_counts_line id bytes items) ≤ m + n + 18
line_fits id bytes items m n h k l =
    let a = length-decimal-le 3 id (omega arith) (omega arith) (omega arith) in
    let d : length (codes " bytes ") ≡ 7 = refl in
    let e : length (codes " items ") ≡ 7 = refl in
    let f : length (codes "\n") ≡ 1 = refl in
    simp (length-append) (omega arith)

pub returns-clause-bound : goal.returns-clause-bound
returns-clause-bound c =
    let small : c.number.result < 127 = let h = c.number.ensures.in_range in omega arith in
    let bytes = length-decimal-le 20 c.args.bytes (omega arith) (omega arith) c.ranges.bytes.fits in
    let items = length-decimal-le 20 c.args.items (omega arith) (omega arith) c.ranges.items.fits in
    longer 58 c.args.outlet.now c.put.new.self (source_counts_line c.number.result c.args.bytes c.args.items) c.put.ensures.text
    (line_fits c.number.result c.args.bytes c.args.items 20 20 small bytes items)

pub returns-clause-capture : goal.returns-clause-capture
returns-clause-capture c = λ h k.
    let small : c.number.result < 127 = let h = c.number.ensures.in_range in omega arith in
    let bytes = length-decimal-le 13 c.args.bytes (omega arith) (omega arith) c.ranges.bytes.fits in
    let items = length-decimal-le 13 c.args.items (omega arith) (omega arith) c.ranges.items.fits in
    longer 44 c.args.outlet.now c.put.new.self (source_counts_line c.number.result c.args.bytes c.args.items) c.put.ensures.text
    (line_fits c.number.result c.args.bytes c.args.items 13 13 small bytes items)

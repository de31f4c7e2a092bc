use Rattle.std.proofs.Common.{◌≡◌, ◌++◌, ◌-◌, ◌∙◌, List, ℕ, length, take, drop, sym, ap, append_assoc, arith}
use Rattle.std.proofs.lemmas.List.{take-append-drop, take_rest, length-take, length-drop, length-append}
use Rattle.trace_stream.specs.Owed.{last_of}
use Rattle.trace_stream.proofs.Owing.{pours, of_first, of_second}
use Rattle.trace_stream.proofs.owed.put_owed.Goals as goal

pub returns-then-owed-second-clause-poured : goal.returns-then-owed-second-clause-poured
returns-then-owed-second-clause-poured c =
    let first = c.args.first.now in
    let second = c.args.second.now in
    let owed = c.args.owed in
    let n = c.put_front.result in
    let at = length first - (owed - length second) in
    let rest = take (length first - at) (drop at first) in
    let parts : last_of owed (first ++ second) ≡ take n rest ++ (drop n rest ++ second) =
    of_first first second owed (omega (arith, c.if-owed-second.true)) c.requires.few
    ∙ ap (λ (l : List ℕ). l ++ second) (sym (take_rest first at) ∙ sym (take-append-drop n rest))
    ∙ append_assoc (take n rest) (drop n rest) second in
    let len = length-take n rest in
    let size = ap length (take_rest first at) ∙ length-drop at first in
    pours (first ++ second) (take n rest) (drop n rest ++ second) c.args.outlet.now c.put_front.new.outlet owed (owed - n)
    (omega (arith, length-append first second, c.requires.few)) parts
    (omega (arith, len, c.put_front.ensures.count))
    (omega (arith, len, size, c.put_front.ensures.count))
    (λ some. omega (arith, len, size, some, c.put_front.ensures.count, c.if-owed-second.true, c.requires.few))
    c.put_front.ensures.put

pub returns-else-owed-second-clause-poured : goal.returns-else-owed-second-clause-poured
returns-else-owed-second-clause-poured c =
    let first = c.args.first.now in
    let second = c.args.second.now in
    let owed = c.args.owed in
    let n = c.put_front-else-owed-second.result in
    let at = length second - owed in
    let rest = take (length second - at) (drop at second) in
    let parts : last_of owed (first ++ second) ≡ take n rest ++ drop n rest =
    of_second first second owed (omega (arith, c.if-owed-second.false))
    ∙ sym (take_rest second at) ∙ sym (take-append-drop n rest) in
    let len = length-take n rest in
    let size = ap length (take_rest second at) ∙ length-drop at second in
    pours (first ++ second) (take n rest) (drop n rest) c.args.outlet.now c.put_front-else-owed-second.new.outlet owed (owed - n)
    (omega (arith, length-append first second, c.requires.few)) parts
    (omega (arith, len, c.put_front-else-owed-second.ensures.count))
    (omega (arith, len, size, c.put_front-else-owed-second.ensures.count))
    (λ some. omega (arith, len, size, some, c.put_front-else-owed-second.ensures.count, c.if-owed-second.false))
    c.put_front-else-owed-second.ensures.put

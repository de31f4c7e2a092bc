use Rattle.std.proofs.Common.{◌≡◌, ◌∙◌, ◌+◌, ◌≤◌, ◌++◌, ap, append_assoc, length-append, List, ℕ, arith, length}
use Rattle.std.specs.Prelude.{codes}
use Rattle.value_dump.specs.Header.{comment, declarations}
use Rattle.value_dump.proofs.Declared.{size}
use Rattle.value_dump.proofs.header.put_header.Goals as goal

-- what is put before the declarations
abbrev front : List ℕ
front = codes "$timescale 1 ns $end\n"

put_declarations_room : (old one two : List ℕ) → one ≡ old ++ front → length two ≤ length one + 90 →
    length two ≤ length old + 111
put_declarations_room old one two e h =
    let f = ap (λ (l : List ℕ). length l) e in
    let g = length-append old front in
    omega (arith, f, g, h)

pub put_declarations-requires : goal.put_declarations-requires
put_declarations-requires c =
    let h =
    put_declarations_room c.args.outlet.now c.append.new.self c.put_comment.new.outlet c.append.ensures
    c.put_comment.ensures.bound in
    record { room = (let k = c.requires.room in omega (arith, size, h, k)) }

pub returns-clause-text : goal.returns-clause-text
returns-clause-text c =
    c.put_declarations.ensures
    ∙ ap (λ (l : List ℕ). l ++ declarations) c.put_comment.ensures.text
    ∙ ap (λ (l : List ℕ). (l ++ comment c.args.hz) ++ declarations) c.append.ensures
    ∙ append_assoc (c.args.outlet.now ++ front) (comment c.args.hz) declarations
    ∙ append_assoc c.args.outlet.now front (comment c.args.hz ++ declarations)

pub returns-clause-bound : goal.returns-clause-bound
returns-clause-bound c =
    let h =
    put_declarations_room c.args.outlet.now c.append.new.self c.put_comment.new.outlet c.append.ensures
    c.put_comment.ensures.bound in
    let e = ap (λ (l : List ℕ). length l) c.put_declarations.ensures in
    let g = length-append c.put_comment.new.outlet declarations in
    omega (arith, size, h, e, g)

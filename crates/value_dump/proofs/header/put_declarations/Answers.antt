use Rattle.std.proofs.Common.{◌∙◌, ◌++◌, ap, List, ℕ, arith}
use Rattle.value_dump.proofs.Declared.{declared, size}
use Rattle.value_dump.proofs.header.put_declarations.Goals as goal

pub append-requires : goal.append-requires
append-requires c = record { room = (let h = c.requires.room in omega (arith, size, h)) }

pub returns : goal.returns
returns c = c.append.ensures ∙ ap (λ (l : List ℕ). c.args.outlet.now ++ l) declared

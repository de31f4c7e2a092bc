use Rattle.std.proofs.Common.{◌≡◌, ℕ, ◌<◌, false, cond, sym, ◌∙◌, ap, arith}
use Rattle.std.specs.Prelude.{◌==◌}
use Rattle.std.proofs.lemmas.Bool.Decides.{nat_tests}
use Rattle.stp_grammar.specs.Names.{Go}
use Rattle.stp_grammar.specs.declared.partial.Partial.TheVariants.{Third, Run}
use Rattle.stp_grammar.specs.Opcodes.{head_of}
use Rattle.stp_grammar.specs.Rule.{second_opening, opened}
use Rattle.stp_grammar.proofs.Openings.{second_is}
use Rattle.stp_grammar.proofs.partial.second.Goals as goal

is_not : (n : ℕ) → n < 15 → (n == 15) ≡ false
is_not n h = grind (arith, nat_tests)

pub returns-else-nibble-eq15-clause-next : goal.returns-else-nibble-eq15-clause-next
returns-else-nibble-eq15-clause-next c =
    let most = c.requires in
    let other = c.if-nibble-eq15.false in
    let h : c.args.nibble < 15 = grind arith in
    c.opened.ensures.next (second_opening c.args.nibble) (c.opcode_of.ensures ∙ ap head_of (second_is c.args.nibble h))
    ∙ sym (ap (λ t. cond t (Go (Run 2)) (opened (second_opening c.args.nibble) Third)) (is_not c.args.nibble h))

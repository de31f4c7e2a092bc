use Rattle.std.proofs.Common.{sym, ◌∙◌, ap, length, Some}
use Rattle.script_text.specs.Numbers.{hexadecimal_named}
use Rattle.script_text.proofs.Hexadecimals.{word_read, hexadecimal_small}
use Rattle.script_text.proofs.numbers.hexadecimal_named.Goals as goal

pub returns-in-Ok-clause-value : goal.returns-in-Ok-clause-value
returns-in-Ok-clause-value c =
    let n = c.args.count in
    let same = c.copy_from_slice.ensures.after in
    ap Some c.from_be_bytes.ensures
    ∙ word_read n c.copy_from_slice.new.self c.requires (ap length same ∙ c.if-text-count.false) _
    c.decode_to_slice.new.out c.in-Ok.ensures.value c.decode_to_slice.auto.out
    ∙ ap (hexadecimal_named n) same

pub returns-in-Ok-clause-fits : goal.returns-in-Ok-clause-fits
returns-in-Ok-clause-fits c =
    hexadecimal_small c.args.count c.args.text.now c.from_be_bytes.result (sym (returns-in-Ok-clause-value c))

pub returns-in-Err-clause-value : goal.returns-in-Err-clause-value
returns-in-Err-clause-value c =
    let n = c.args.count in
    let same = c.copy_from_slice.ensures.after in
    word_read n c.copy_from_slice.new.self c.requires (ap length same ∙ c.if-text-count.false) _
    c.decode_to_slice.new.out c.in-Err.ensures.value c.decode_to_slice.auto.out
    ∙ ap (hexadecimal_named n) same

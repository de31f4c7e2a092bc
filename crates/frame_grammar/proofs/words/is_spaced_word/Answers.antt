use Rattle.std.proofs.Common.{bit_and, rules, ◌+◌}
use Rattle.std.proofs.lemmas.Bool.{eqb-true}
use Rattle.frame_grammar.proofs.Masks.{spaced_if, spaced_words, spaced_gaps}
use Rattle.frame_grammar.proofs.words.is_spaced_word.Goals as goal

pub returns-clause-words : goal.returns-clause-words
returns-clause-words c = λ t.
    let xs = c.args.word.now in
    let n = c.from_le_bytes-seen.result in
    spaced_words xs (spaced_if xs n (λ i. search rules) c.from_le_bytes-seen.ensures (eqb-true (bit_and (bit_and n 0xFFFF00FFFFFF00FF + 0x100000001) 0xFFFFFF00FFFFFF00) 0x7FFF00007FFF0000 t))

pub returns-clause-gaps : goal.returns-clause-gaps
returns-clause-gaps c = λ t.
    let xs = c.args.word.now in
    let n = c.from_le_bytes-seen.result in
    spaced_gaps xs (spaced_if xs n (λ i. search rules) c.from_le_bytes-seen.ensures (eqb-true (bit_and (bit_and n 0xFFFF00FFFFFF00FF + 0x100000001) 0xFFFFFF00FFFFFF00) 0x7FFF00007FFF0000 t))

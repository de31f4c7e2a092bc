use Rattle.std.proofs.Common.{◌≡◌, ℕ, sym, ap, ◌∙◌, ◌++◌, true, false, List, length, ◌&&◌, bytes_eq}
use Rattle.std.specs.Borrow.{Bor}
use Rattle.arrayvec.specs.ArrayVec.{array_vec_len}
use Rattle.script_text.specs.Words.{are_printable, words_in, are_words, texts}
use Rattle.script_text.specs.VersionTwo.{flush_line, trigger_of}
use Rattle.script_text.proofs.NewLines.{flush_read, no_words_read, words_read}
use Rattle.script_text.proofs.version_two.read_new.Goals as goal

pub returns-then-eq-clause-value : goal.returns-then-eq-clause-value
returns-then-eq-clause-value c = λ plan bad.
    let h : bytes_eq flush_line c.args.line.now ≡ true = cc in flush_read plan c.args.line.now bad h

pub returns-then-not-put_words-clause-value : goal.returns-then-not-put_words-clause-value
returns-then-not-put_words-clause-value c = λ plan bad.
    let line = c.args.line.now in
    let h : bytes_eq flush_line line ≡ false = cc in
    let len : array_vec_len c.new-words.result ≡ 0 = ap length c.new-words.ensures in
    no_words_read plan line bad h
    (ap (λ (n : ℕ). are_printable line && are_words n (words_in line)) (sym len)
    ∙ sym c.put_words.ensures.told ∙ c.if-not-put_words.true)

pub returns-clause-value : goal.returns-clause-value
returns-clause-value c = λ plan bad.
    let line = c.args.line.now in
    let h : bytes_eq flush_line line ≡ false = cc in
    let len : array_vec_len c.new-words.result ≡ 0 = ap length c.new-words.ensures in
    c.read_trigger.ensures.value ∙ ap (λ (l : List (Bor (List ℕ))). trigger_of (texts l)) c.as_slice.ensures.value
    ∙ ap trigger_of (c.put_words.ensures.put c.if-not-put_words.false
    ∙ ap (λ (l : List (Bor (List ℕ))). texts l ++ words_in line) c.new-words.ensures)
    ∙ words_read plan line bad h
    (ap (λ (n : ℕ). are_printable line && are_words n (words_in line)) (sym len)
    ∙ sym c.put_words.ensures.told ∙ c.if-not-put_words.false)

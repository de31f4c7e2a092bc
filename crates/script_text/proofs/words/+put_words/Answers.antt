use Rattle.std.proofs.Common.{◌≡◌, ℕ, ◌+◌, ◌-◌, ◌<◌, List, [], ◌∷◌, ◌++◌, length, take, drop, suc, sym, ◌∙◌, ap, arith}
use Rattle.std.proofs.Common.{false, append_assoc, ◌==◌, slice_index}
use Rattle.std.proofs.lemmas.Bool.Decides.{nat_tests}
use Rattle.arrayvec.specs.ArrayVec.{array_vec_len}
use Rattle.script_text.specs.Words.{texts, words_in, are_printable}
use Rattle.script_text.proofs.Splitting.{whole, whole_told, cut, cut_told, bad, bad_told, end_of}
use Rattle.script_text.proofs.words.+put_words.Goals as goal

pub returns-then-end-line-clause-told : goal.returns-then-end-line-clause-told
returns-then-end-line-clause-told t c =
    let w = whole c.args.line.now (sym c.word_len-end.ensures.value ∙ c.if-end-line.true) in
    whole_told (array_vec_len c.args.words.now) c.args.line.now c.put_word.result w c.put_word.ensures.told

pub returns-then-end-line-clause-put : goal.returns-then-end-line-clause-put
returns-then-end-line-clause-put t c = λ h.
    let w = whole c.args.line.now (sym c.word_len-end.ensures.value ∙ c.if-end-line.true) in
    c.put_word.ensures.put h ∙ ap (λ (l : List (List ℕ)). texts c.args.words.now.items ++ l) (sym w.one)

pub returns-then-line-end-ne32-clause-told : goal.returns-then-line-end-ne32-clause-told
returns-then-line-end-ne32-clause-told t c =
    let line = c.args.line.now in
    let n = c.word_len-end.result in
    let differ = c.if-line-end-ne32.true in
    let other : (slice_index line n == 32) ≡ false = grind (arith, nat_tests) in
    bad_told (array_vec_len c.args.words.now) line (bad line n c.word_len-end.ensures.value (let b = c.word_len-end.ensures.bound in let e = c.if-end-line.false in omega arith) other)

pub returns : goal.returns
returns t c =
    let line = c.args.line.now in
    let words = texts c.args.words.now.items in
    let n = c.word_len-end.result in
    let less : n < length line = (let b = c.word_len-end.ensures.bound in let e = c.if-end-line.false in omega arith) in
    let k = cut line n c.word_len-end.ensures.value less c.if-line-end-ne32.false in
    let rest = take (length line - (n + 1)) (drop (n + 1) line) in
    let end : rest ≡ drop (suc n) line = end_of line n in
    let w : words_in line ≡ take n line ∷ words_in rest = k.words ∙ ap (λ (r : List ℕ). take n line ∷ words_in r) (sym end) in
    let told = c.if-not-put_word.false in
    record {
      told = cut_told (array_vec_len c.args.words.now) (array_vec_len c.put_word-2.new.words) line rest (take n line) c.put_words.result
          (k.printable ∙ ap are_printable (sym end)) w (sym c.put_word-2.ensures.told ∙ told) (c.put_word-2.ensures.count told) c.put_words.ensures.told;
      put = λ h. c.put_words.ensures.put h ∙ ap (λ (l : List (List ℕ)). l ++ words_in rest) (c.put_word-2.ensures.put told)
          ∙ append_assoc words (take n line ∷ []) (words_in rest) ∙ ap (λ (l : List (List ℕ)). words ++ l) (sym w);
    }

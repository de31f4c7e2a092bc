use Rattle.std.proofs.Common.{◌≡◌, ◌*◌, ◌^◌, ◌<◌, ◌+◌, ◌/◌, sym, ◌∙◌, ap, subst, arith}
use Rattle.trace_clock.specs.LastWord.{sized, next_word}
use Rattle.trace_clock.proofs.LastWords.{pow_of, few_bits, by_bits, whole_word, word_more}
use Rattle.trace_clock.proofs.words.word_after.Goals as goal

pub with_low_bits-requires : goal.with_low_bits-requires
with_low_bits-requires c = record {
  count = (let k = few_bits c.args.size c.requires.fits.0 in let e = c.word_nibbles-count.ensures.count in let f = c.if-count-eq64.false in omega (arith, k, e, f));
  bits = subst (λ x. c.args.word < 2 ^ (4 * x)) (sym c.word_nibbles-count.ensures.count) (subst (λ x. c.args.word < x) (sym (pow_of _)) c.requires.fits.1);
}

pub returns-then-count-eq64 : goal.returns-then-count-eq64
returns-then-count-eq64 c =
    let next : c.args.word ≡ next_word c.args.last (sized c.args.size c.args.word) =
    sym (whole_word c.args.last c.args.size c.args.word (let e = c.word_nibbles-count.ensures.count in let f = c.if-count-eq64.true in omega (arith, e, f)) (omega arith)) in
    record {
      next = next;
      list = λ stamps e. next ∙ ap (λ x. next_word x (sized c.args.size c.args.word)) e ∙ sym (word_more stamps (sized c.args.size c.args.word) c.requires.fits);
    }

pub returns-else-count-eq64 : goal.returns-else-count-eq64
returns-else-count-eq64 c =
    let next : c.with_low_bits.result ≡ next_word c.args.last (sized c.args.size c.args.word) =
    c.with_low_bits.ensures.value
    ∙ ap (λ n. c.args.last / 2 ^ (4 * n) * 2 ^ (4 * n) + c.args.word) c.word_nibbles-count.ensures.count
    ∙ sym (by_bits c.args.last c.args.size c.args.word) in
    record {
      next = next;
      list = λ stamps e. next ∙ ap (λ x. next_word x (sized c.args.size c.args.word)) e ∙ sym (word_more stamps (sized c.args.size c.args.word) c.requires.fits);
    }

use Rattle.std.proofs.Common.{◌+◌, get_or, take, ℕ, arith, ap, ◌∙◌, ◌++◌}
use Rattle.std.proofs.lemmas.List.{take_more}
use Rattle.capture_actions.specs.KindCounts.{number_at}
use Rattle.capture_actions.specs.Kinds.{kind_text}
use Rattle.capture_actions.specs.Words.{number_of}
use Rattle.capture_actions.specs.declared.item_word.ItemWord.{ItemWord}
use Rattle.capture_actions.specs.declared.item_word.ItemWord.TheVariants.{Sync}
use Rattle.capture_actions.specs.declared.item_word.TheConstants.{WORDS}
use Rattle.capture_actions.proofs.Parts.{words_none, words_more}
use Rattle.capture_actions.proofs.kind_lines.put_words.Goals as goal

pub loop-word-init : goal.loop-word-init
loop-word-init c = record {
  text = words_none c.args.id (λ word. number_at c.args.kinds.now c.args.id (number_of word)) WORDS c.args.outlet.now;
  bound = omega arith;
}

pub loop-word-preserved : goal.loop-word-preserved
loop-word-preserved c =
    let i = c.loop-word.word-index in
    let counts : ItemWord → ℕ = λ word. number_at c.args.kinds.now c.args.id (number_of word) in
    record {
      text = words_more c.args.id counts (take i WORDS) (take (i + 1) WORDS) (get_or WORDS i Sync) c.args.outlet.now
          c.loop-word.outlet c.put_kind.new.outlet (take_more WORDS i Sync c.loop-word-test.true)
          c.loop-word.invariant.text
          (c.put_kind.ensures.text
          ∙ ap (λ (n : ℕ). c.loop-word.outlet ++ kind_text c.args.id (get_or WORDS i Sync) n) c.of.ensures);
      bound = omega (arith, c.put_kind.ensures.bound, c.loop-word.invariant.bound);
    }

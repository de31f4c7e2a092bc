use Rattle.std.proofs.Common.{◌≡◌, ◌∷◌, append-nil, ap, ◌++◌, ◌∙◌, sym, map, List, ℕ}
use Rattle.std.specs.Str.Iter.{split_ascii_whitespace_text}
use Rattle.std.specs.String.{string_bytes}
use Rattle.lipparoy_c.specs.Words.{words_of}
use Rattle.lipparoy_c.proofs.Cutting.{words-of_step, words-of_none, words_joined, words_pushed}
use Rattle.lipparoy_c.proofs.words.words_in.Goals as goal

pub loop-word-preserved : goal.loop-word-preserved
loop-word-preserved c =
    let cut = c.in-Some.ensures.steps in
    let word : List ℕ = c.in-Some.word.now in
    let rest : List (List ℕ) = words_of (split_ascii_whitespace_text c.next.new.self) in
    let step : words_of (split_ascii_whitespace_text c.loop-word.word-iterator) ≡ word ∷ rest =
    words-of_step _ cut.3.0 word cut.3.1 _ cut.3.2 cut.3.3 cut.0 cut.1 cut.3.4.0 cut.3.4.2 in
    let pushed =
    words_pushed string_bytes c.loop-word.words.items c.push.new.self.items c.in_ok-from_str.field-0 word
    c.in_ok-push.ensures.items c.in_ok-from_str.ensures.ok in
    words_joined _ _ _ rest word c.loop-word.invariant step ∙ ap (λ (l : List (List ℕ)). l ++ rest) (sym pushed)

pub returns : goal.returns
returns c =
    let all : List (List ℕ) = map string_bytes c.loop-word.words.items in
    let none = words-of_none (split_ascii_whitespace_text c.loop-word.word-iterator) c.in-None.ensures.steps.0 in
    sym (c.loop-word.invariant ∙ ap (λ (l : List (List ℕ)). all ++ l) none ∙ append-nil all)

use Rattle.std.proofs.Common.{◌≡◌, map, ◌++◌}
use Rattle.std.specs.String.{string_bytes}
use Rattle.std.specs.Str.Iter.{split_ascii_whitespace_text}
use Rattle.lipparoy_c.specs.Words.{words_of}
use Rattle.lipparoy_c.proofs.words.words_in.Given as goal

abbrev pub invariant-loop-word : goal.invariant-loop-word
invariant-loop-word l =
    words_of l.fn.text ≡ map string_bytes l.words.items ++ words_of (split_ascii_whitespace_text l.word-iterator)

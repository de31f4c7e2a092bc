-- What the stamps keep of a list of timestamps.
use Rattle.std.specs.Prelude.{◌≡◌, List, Bool}
use Rattle.trace_clock.specs.LastWord.{SizedWord, last_word}
use Rattle.trace_clock.specs.declared.stamps.Stamps.{Stamps}

-- words are Gray numbers
abbrev pub is_gray : Stamps → Bool
is_gray stamps = stamps.gray

-- the stamps after these timestamps
pub record Stands (stamps : Stamps) (list : List SizedWord) : Type 0 where
  pub last : stamps.last ≡ last_word list

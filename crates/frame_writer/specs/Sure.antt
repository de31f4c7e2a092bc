-- What a writer that keeps its last frame back stands for.
use Rattle.std.specs.Prelude.{◌≡◌, ℕ, ◌+◌, ◌*◌, ◌/◌, List, [], ◌∷◌, ◌++◌, length, map}
use Rattle.frame_writer.specs.Written.{Tagged, written_segments}
use Rattle.frame_writer.specs.Writer.{Stands, appended}
use Rattle.frame_writer.specs.Fronts.{sure_after}
use Rattle.frame_writer.specs.declared.sure.SureWriter.{SureWriter}

-- how many frames are whole
abbrev pub count_of : SureWriter → ℕ
count_of s = appended s.writer

-- how many bytes it keeps back, and how many pairs its unfinished frame has
abbrev pub held_by : SureWriter → ℕ
held_by s = length s.ready.items

abbrev pub pairs_of : SureWriter → ℕ
pairs_of s = length s.writer.pairs.items

-- Its writer stands for these closed segments and these bytes of an unfinished one, and what that has appended is what
-- is sure, and then what is kept back.
pub record IsSure (s : SureWriter) (every halves : ℕ) (closed : List (List Tagged)) (t : List Tagged) : Type 0 where
  pub so_far : List ℕ
  pub stands : Stands s.writer every halves closed t so_far
  pub written : so_far ≡ sure_after every halves closed t ++ s.ready.items

-- how many frames are whole at most after this many more bytes: a frame has seven pairs, and a byte makes two at most
abbrev pub most_with : SureWriter → ℕ → ℕ
most_with s n = (7 * count_of s + pairs_of s + 2 * n) / 7

-- bytes of one source
abbrev pub of_one : ℕ → List ℕ → List Tagged
of_one id bytes = map (λ byte. record { id = id; byte = byte }) bytes

-- these bytes were put after all others, and what became sure with them was appended
pub record Appends (old new : SureWriter) (put : List Tagged) (before after : List ℕ) : Type 0 where
  pub more : List ℕ
  pub appended : after ≡ before ++ more
  pub list : (every halves : ℕ) (closed : List (List Tagged)) (t : List Tagged) → IsSure old every halves closed t →
      IsSure new every halves closed (t ++ put)
  pub grown : (every halves : ℕ) (closed : List (List Tagged)) (t : List Tagged) → IsSure old every halves closed t →
      sure_after every halves closed (t ++ put) ≡ sure_after every halves closed t ++ more

-- the segment was ended, and what became sure with that was appended, so that all is sure
pub record Ends (old new : SureWriter) (before after : List ℕ) : Type 0 where
  pub more : List ℕ
  pub appended : after ≡ before ++ more
  pub list : (every halves : ℕ) (closed : List (List Tagged)) (t : List Tagged) → IsSure old every halves closed t →
      IsSure new every halves (closed ++ t ∷ []) []
  pub grown : (every halves : ℕ) (closed : List (List Tagged)) (t : List Tagged) → IsSure old every halves closed t →
      sure_after every halves (closed ++ t ∷ []) [] ≡ sure_after every halves closed t ++ more
  pub all : (every halves : ℕ) (closed : List (List Tagged)) (t : List Tagged) → IsSure old every halves closed t →
      written_segments every halves (closed ++ t ∷ []) ≡ sure_after every halves closed t ++ more

-- What is written of some bytes, whatever comes after them.
use Rattle.std.specs.Prelude.{ℕ, List, [], ◌∷◌, None}
use Rattle.std.specs.List.{concat}
use Rattle.frame_writer.specs.Written.{Tagged, none_later, frames_from, segments_then}

abbrev pub all_but_last : List (List ℕ) → List (List ℕ)
all_but_last [] = []
all_but_last (x ∷ []) = []
all_but_last (x ∷ (y ∷ xs)) = x ∷ all_but_last (y ∷ xs)

-- all frames of closed segments, and of the unfinished one all but the last, in which more bytes may go
abbrev pub sure_after : ℕ → ℕ → List (List Tagged) → List Tagged → List ℕ
sure_after every halves closed t =
    concat (segments_then every halves (λ n c. all_but_last (frames_from every halves none_later n c t)) closed 0 None)

-- the same of one segment
abbrev pub sure : ℕ → ℕ → List Tagged → List ℕ
sure every halves t = sure_after every halves [] t

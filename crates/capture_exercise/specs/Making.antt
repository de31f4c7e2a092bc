-- The capture of the exercise, as it is made line by line.
use Rattle.std.specs.Prelude.{ℕ, List, [], ◌∷◌, length, drop}
use Rattle.capture_exercise.specs.Names.{Msn, in_order, sure_lines}
use Rattle.capture_exercise.specs.Exercise.{exercise_port, exercise_lines, exercise_capture}

-- what is sure of it after this many items
abbrev pub so_far : ℕ → List ℕ
so_far n = sure_lines exercise_port Msn (in_order (2 ∷ [])) (exercise_lines n)

-- and what comes after that in the capture of this many
abbrev pub later : ℕ → ℕ → List ℕ
later items n = drop (length (so_far n)) (exercise_capture items)

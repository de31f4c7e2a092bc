-- What callers see of the exercise as a source.
use Rattle.std.specs.Prelude.{◌≡◌, ℕ, List, ◌++◌, drop}
use Rattle.capture_exercise.specs.Maker as makers
use Rattle.capture_exercise.specs.declared.source.ExerciseSource.{ExerciseSource}

-- of how many items its capture is
abbrev pub items_of : ExerciseSource → ℕ
items_of s = makers.items_of s.maker

-- what is made and not given yet
abbrev pub pending : ExerciseSource → List ℕ
pending s = drop s.given (makers.made_by s.maker)

-- the bytes still to come
abbrev pub left_of : ExerciseSource → List ℕ
left_of s = pending s ++ makers.to_come s.maker

-- how many bytes are made in all, and how many pieces are still to be made
abbrev pub made_by : ExerciseSource → ℕ
made_by s = s.made

abbrev pub pieces_left : ExerciseSource → ℕ
pieces_left s = makers.pieces_left s.maker

-- how many reads gave no byte, up to the last value
abbrev pub empty_reads_of : ExerciseSource → ℕ
empty_reads_of s = s.empty_reads

-- all but what is still to come is the same
pub record IsSame (old new : ExerciseSource) : Type 0 where
  pub items : items_of new ≡ items_of old
  pub empty_reads : empty_reads_of new ≡ empty_reads_of old

-- What `exercise` writes: how many items the exercise has and how many bytes its capture, and the summary of what is
-- left of that.
use Rattle.std.specs.Prelude.{ℕ, List, [], ◌++◌, length, false}
use Rattle.capture_exercise.specs.Names.{Meaning, summary}
use Rattle.trace_text.specs.CountText.{exercise_lines}
use Rattle.capture_actions.specs.Faulty as readings
use Rattle.capture_exercise.specs.Exercise.{exercise_plan, exercise_capture, exercise_rest}
use Rattle.capture_exercise.specs.declared.plans.ExercisePlan.{ExercisePlan}

-- what was read has a fault
abbrev pub IsFaulty : ExercisePlan → List ℕ → Type 0
IsFaulty p bytes = readings.IsFaulty p.plan bytes

-- the items and the bytes of the capture, and the summary of what was read
abbrev pub exercise_ending : ExercisePlan → List ℕ → List ℕ
exercise_ending p bytes = exercise_lines p.items p.capture ++ summary p.plan bytes

-- all that `exercise` makes of the bytes that it reads: nothing is written before the end
abbrev pub exercise_meaning : ExercisePlan → Meaning
exercise_meaning p = record { faulty = IsFaulty p; text = λ bytes. []; ending = exercise_ending p; due = false }

-- what it writes for this many items where this many bytes of the capture's front are lost
abbrev pub exercise_summary : ℕ → ℕ → List ℕ
exercise_summary items lost =
    exercise_lines items (length (exercise_capture items)) ++ summary exercise_plan (exercise_rest items lost)

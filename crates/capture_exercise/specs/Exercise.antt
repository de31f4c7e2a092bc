-- The exercise (this project's own): a script of stated items, the capture that it makes, and what is left of that
-- capture where its front is lost.
use Rattle.std.specs.Prelude.{ℕ, List, [], ◌∷◌, map, drop, None}
use Rattle.std.specs.List.{range_with_len}
use Rattle.capture_exercise.specs.Names.{Msn, Port, written, Of, Line2, One, Made, Itm, Stp, Raw, item_of}
use Rattle.capture_exercise.specs.Names.{script_segments}
use Rattle.trace_values.specs.declared.reading_modes.FramesMode.TheVariants.{Hunt as FramesHunt}
use Rattle.trace_values.specs.declared.reading_modes.PacketsMode.TheVariants.{Hunt}
use Rattle.source_events.specs.declared.plan.Plan.{Plan}
use Rattle.script_text.specs.declared.items.Item.TheVariants as items
use Rattle.script_text.specs.declared.version_two.Line2.TheVariants.{Trigger as TriggerLine}
use Rattle.trace_vectors.specs.declared.made.Made.TheVariants.{Trigger}

-- the plan by which it is written and read
abbrev pub exercise_plan : Plan
exercise_plan = record { frames = FramesHunt; packets = Hunt; itm = 1 ∷ []; stp = 2 ∷ []; order = Msn }

-- an item as the line of a script
abbrev pub line_of_made : Made → Line2
line_of_made (Itm packet) = One (Of 1 (items.Itm packet))
line_of_made (Stp item) = One (Of 2 (items.Stp item))
line_of_made (Raw byte) = One (Of 16 (items.Raw (byte ∷ [])))
line_of_made (Trigger byte) = TriggerLine byte

abbrev pub line_at : ℕ → Line2
line_at k = line_of_made (item_of k)

-- the lines of this many items, from item 0 on
abbrev pub exercise_lines : ℕ → List Line2
exercise_lines count = map line_at (range_with_len 0 count)

-- the port that writes them: a full synchronisation before each 64th frame, no half ones, and no funnel
abbrev pub exercise_port : Port
exercise_port = record { every = 64; halves = 0; funnel = None }

-- their capture
unfoldable pub exercise_capture : ℕ → List ℕ
exercise_capture count = written exercise_port (script_segments exercise_plan (exercise_lines count))

-- what is left of it where this many bytes of its front are lost
abbrev pub exercise_rest : ℕ → ℕ → List ℕ
exercise_rest count lost = drop lost (exercise_capture count)

-- The job of the entries, or the first fault.
use Rattle.std.specs.Prelude.{◌≡◌, ◌≤◌, ◌<◌, ℕ, ◌^◌, List, [], ◌∷◌, ◌++◌, Bool, true, Option, Some, None, Result}
use Rattle.std.specs.Prelude.{length, Ok, Err, ◌==◌, nat_lt, if◌then◌else◌, option_map}
use Rattle.std.specs.List.{list_any}
use Rattle.std.specs.Option.{ForSome}
use Rattle.clap.specs.Words.{Row}
use Rattle.trace_values.specs.declared.reading_modes.FramesMode.{FramesMode}
use Rattle.source_events.specs.Plan.{is_sound}
use Rattle.source_events.specs.declared.plan.Plan.{Plan}
use Rattle.trace_funnel.specs.SoundTurns.{IsSoundTurns}
use Rattle.trace_funnel.specs.declared.turns.Turns.{Turns}
use Rattle.capture_words.specs.Settings.{◌>>=◌, settings_in}
use Rattle.capture_words.specs.Values.{action_in}
use Rattle.capture_words.specs.declared.job.Task.{Task}
use Rattle.capture_words.specs.declared.job.Task.TheVariants.{Show, Split, Check, Rebuild, Exercise}
use Rattle.capture_words.specs.declared.job.Task.TheVariants.{Realign, Ring, Unring, Text, Funnel, Vcd, Print}
use Rattle.capture_words.specs.declared.job.Job.{Job}
use Rattle.capture_words.specs.declared.settings.Settings.{Settings}
use Rattle.capture_words.specs.declared.usage.UsageFault.{UsageFault}
use Rattle.capture_words.specs.declared.usage.UsageFault.TheVariants.{SplitNeedsId, MappedTwice, RingNeedsSize}
use Rattle.capture_words.specs.declared.usage.UsageFault.TheVariants.{UnringNeedsSize, PointerNotUnderSize}
use Rattle.capture_words.specs.declared.usage.UsageFault.TheVariants.{TextNeedsItm, TextReadsOneSource}
use Rattle.capture_words.specs.declared.usage.UsageFault.TheVariants.{FunnelNeedsOrder, OrderedTwice}
use Rattle.capture_words.specs.declared.usage.UsageFault.TheVariants.{VcdNeedsItm, VcdReadsOneSource}
use Rattle.capture_words.specs.declared.values.ActionName.{ActionName}
use Rattle.capture_words.specs.declared.values.ActionName.TheVariants.{Show as ShowName, Split as SplitName}
use Rattle.capture_words.specs.declared.values.ActionName.TheVariants.{Check as CheckName, Rebuild as RebuildName}
use Rattle.capture_words.specs.declared.values.ActionName.TheVariants.{Exercise as ExerciseName, Realign as RealignName}
use Rattle.capture_words.specs.declared.values.ActionName.TheVariants.{Ring as RingName, Unring as UnringName}
use Rattle.capture_words.specs.declared.values.ActionName.TheVariants.{Text as TextName, Funnel as FunnelName}
use Rattle.capture_words.specs.declared.values.ActionName.TheVariants.{Vcd as VcdName, Print as PrintName}

-- the first of these IDs that stands earlier already, among them or before them
abbrev pub again_after : List ℕ → List ℕ → Option ℕ
again_after before [] = None
again_after before (x ∷ xs) = if list_any (λ y. y == x) before then Some x else again_after (before ++ x ∷ []) xs

-- the first ID that is mapped twice, of those of the ITM sources and then those of the STP sources
abbrev pub mapped_twice : Plan → Option ℕ
mapped_twice plan = again_after [] (plan.itm ++ plan.stp)

abbrev pub fault_or : {A : Type 0} → Option UsageFault → A → Result A UsageFault
fault_or (Some fault) value = Err fault
fault_or None value = Ok value

abbrev pub plan_with : Plan → Result Plan UsageFault
plan_with plan = fault_or (option_map MappedTwice (mapped_twice plan)) plan

-- `split` needs an ID, and maps none
abbrev pub split_with : FramesMode → Option ℕ → Result Task UsageFault
split_with frames None = Err SplitNeedsId
split_with frames (Some id) = Ok (Split frames id)

-- `ring` and `unring` need the size of a trace buffer
abbrev pub ring_with : Option ℕ → Result Task UsageFault
ring_with None = Err RingNeedsSize
ring_with (Some size) = Ok (Ring size)

-- and the write pointer of `unring` is under it
abbrev pub unring_with : Option ℕ → ℕ → Bool → Result Task UsageFault
unring_with None pointer full = Err UnringNeedsSize
unring_with (Some size) pointer full =
    if nat_lt pointer size then Ok (Unring size pointer full) else Err PointerNotUnderSize

-- The plan of what reads one source that sends ITM packets, and no system trace: the faults are that there is none, and
-- that there are more.
abbrev pub plan_of_one : UsageFault → UsageFault → List ℕ → Plan → Result Plan UsageFault
plan_of_one none more [] plan = Err none
plan_of_one none more (id ∷ []) plan = Ok (record plan { itm = id ∷ []; stp = [] })
plan_of_one none more (id ∷ other ∷ ids) plan = Err more

-- `funnel` needs the order of its turns, in which no source stands twice
abbrev pub order_with : Option (List ℕ) → Result (List ℕ) UsageFault
order_with None = Err FunnelNeedsOrder
order_with (Some order) = fault_or (option_map OrderedTwice (again_after [] order)) order

abbrev pub turns_with : Option (List ℕ) → ℕ → ℕ → Result Turns UsageFault
turns_with given hold depth = order_with given >>= (λ order. Ok (record { order = order; hold = hold; depth = depth }))

-- the task of an action with what it needs of the options
abbrev pub task_with : ActionName → Settings → Result Task UsageFault
task_with ShowName s = plan_with s.plan >>= (λ plan. Ok (Show plan s.only s.window s.recover))
task_with SplitName s = split_with s.plan.frames s.id
task_with CheckName s = plan_with s.plan >>= (λ plan. Ok (Check plan s.recover s.kinds))
task_with RebuildName s = plan_with s.plan >>= (λ plan. Ok (Rebuild plan s.sync s.half))
task_with ExerciseName s = Ok (Exercise s.items s.lose)
task_with RealignName s = Ok Realign
task_with RingName s = ring_with s.size
task_with UnringName s = unring_with s.size s.pointer s.full
task_with TextName s =
    plan_of_one TextNeedsItm TextReadsOneSource s.plan.itm s.plan >>= (λ plan. Ok (Text plan s.port s.recover))
task_with VcdName s =
    plan_of_one VcdNeedsItm VcdReadsOneSource s.plan.itm s.plan >>= (λ plan. Ok (Vcd plan s.hz s.recover))
task_with FunnelName s =
    plan_with s.plan >>= (λ plan.
    turns_with s.order s.hold s.depth >>= (λ turns. Ok (Funnel plan s.sync s.half turns)))
task_with (PrintName page) s = Ok (Print page)

-- The first fault of the action's name, of the options' values in the order of the command, and of what the
-- action needs; and where there is none, the job. An option that the action doesn't use has no effect.
abbrev pub job_of : List Row → Result Job UsageFault
job_of rows = do
  name ← action_in rows
  settings ← settings_in rows
  task ← task_with name settings
  Ok (record { task = task; limit = settings.limit })

-- the plan is sound and maps one source, of ITM packets
abbrev pub IsOfOne : Plan → Type 0
IsOfOne plan = (is_sound plan ≡ true) × (length plan.itm ≡ 1) × (plan.stp ≡ [])

-- What is sure of a task: its plan is sound, and for a script there are at most eight half synchronisations in a gap.
-- From 1 to 1,000,000 items are made, of which at most 1,000,000 bytes are lost. A trace buffer has from 16 to 2^24
-- bytes, and its write pointer is one of them. The text of a stimulus port, 0 to 31, is that of one ITM source, and so
-- is a value dump, whose clock has at least one tick in a second. The turns of a funnel are sound.
abbrev pub IsSoundTask : Task → Type 0
IsSoundTask (Show plan only window recover) = is_sound plan ≡ true
IsSoundTask (Split frames id) = Unit {0}
IsSoundTask (Check plan recover kinds) = is_sound plan ≡ true
IsSoundTask (Rebuild plan sync half) = (is_sound plan ≡ true) × (half ≤ 8)
IsSoundTask (Exercise items lose) = (1 ≤ items) × (items ≤ 1000000) × (lose ≤ 1000000)
IsSoundTask Realign = Unit {0}
IsSoundTask (Ring size) = (16 ≤ size) × (size ≤ 2 ^ 24)
IsSoundTask (Unring size pointer full) = (16 ≤ size) × (size ≤ 2 ^ 24) × (pointer < size)
IsSoundTask (Text plan port recover) = IsOfOne plan × (port ≤ 31)
IsSoundTask (Funnel plan sync half turns) = (is_sound plan ≡ true) × (half ≤ 8) × IsSoundTurns turns
IsSoundTask (Vcd plan hz recover) = IsOfOne plan × ForSome hz (λ n. 0 < n)
IsSoundTask (Print page) = Unit {0}

-- What `rebuild` or `funnel` wrote, read again.
use Rattle.std.specs.Prelude.{◌≡◌, ℕ, List}
use Rattle.std.specs.declared.option.Option.{Option}
use Rattle.std.specs.declared.option.Option.TheVariants.{None, Some}
use Rattle.std.specs.Io.KnownBytes.{Appends}
use Rattle.capture_words.specs.declared.job.Task.{Task}
use Rattle.capture_words.specs.declared.job.Task.TheVariants.{Rebuild, Funnel}
use Rattle.script_laws.specs.ReadBack.{rebuilt, ReadsAsGiven}
use Rattle.script_rebuild.specs.Rebuilt.{capture_of, routed_script}
use Rattle.script_rebuild.specs.Versions.{script_of}
use Rattle.script_rebuild.specs.declared.plan.RebuildPlan.{RebuildPlan}
use Rattle.source_events.specs.declared.plan.Plan.{Plan}
use Rattle.trace_funnel.specs.declared.turns.Turns.{Turns}

-- how a script is written whose bytes go to the port straight, and one whose bytes pass through a funnel
abbrev pub straight : Plan → ℕ → ℕ → RebuildPlan
straight plan sync half = record { plan = plan; every = sync; halves = half; funnel = None }

abbrev pub funnelled : Plan → ℕ → ℕ → Turns → RebuildPlan
funnelled plan sync half turns = record { plan = plan; every = sync; halves = half; funnel = Some turns }

-- the task writes a script so
abbrev pub Writes : RebuildPlan → Task → Type 0
Writes p (Rebuild plan sync half) = straight plan sync half ≡ p
Writes p (Funnel plan sync half turns) = funnelled plan sync half turns ≡ p
Writes p task = ⊥

-- Of a script of either version, without a fault, and in which each line has a place in the funnel if there is one, the
-- output gained the capture: the frames of the segments that its lines put, with these synchronisations. Read from its
-- first byte on, with the same mapped sources and the same order of nibbles, it has no fault and no tail, and what each
-- source says is exactly what the lines give it.
pub record Rebuilds (p : RebuildPlan) (script : List ℕ) (held_old held_new : Option (List ℕ)) : Type 0 where
  pub no_fault : (routed_script p script).fault ≡ None
  pub written : Appends held_old held_new (capture_of p (script_of p.plan script).lines)
  pub reads : ReadsAsGiven p.plan (script_of p.plan script).lines (rebuilt p (script_of p.plan script).lines)

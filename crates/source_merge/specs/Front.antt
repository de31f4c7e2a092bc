-- What an engine takes of the front of a piece.
use Rattle.std.specs.Prelude.{◌≡◌, ◌<◌, ◌≤◌, ℕ, ◌+◌, List, [], ◌∷◌, ◌++◌, length, take, Option, None, false}
use Rattle.trace_values.specs.Placed.{Placed, placed_from}
use Rattle.deformatter.specs.Block.{FedAs}
use Rattle.source_events.specs.declared.event.Event.{Event}
use Rattle.source_events.specs.declared.event.Stop.{Stop}
use Rattle.source_events.specs.declared.packet.Packet.{Packet}
use Rattle.source_events.specs.declared.plan.Plan.{Plan}
use Rattle.source_merge.specs.declared.flow.Fed.{Fed}
use Rattle.source_merge.specs.declared.flow.Flow.{Flow}
use Rattle.source_merge.specs.declared.flow.Flow.TheVariants.{Going}
use Rattle.source_merge.specs.declared.engine.Engine.{Engine}
use Rattle.source_merge.specs.Answering.{Answers, fault_by, fault_of, flow_to, goes_on, report_of}
use Rattle.source_merge.specs.Engine.{Stands, is_live, next_of, plan_of}

-- so many bytes were fed, and the report has this fault by now, or none
abbrev pub fed : ℕ → Option Stop → Fed
fed bytes stop = record { bytes = bytes; flow = flow_to stop }

-- It took these bytes of the piece, whose first is at this offset, and stands for them after what it stood for.
pub record TakesFront (old new : Engine) (at : ℕ) (piece : List ℕ) (taken : Fed) : Type 0 where
  pub same : plan_of new ≡ plan_of old
  pub bytes : (0 < taken.bytes) × (taken.bytes ≤ length piece)
  pub next : next_of new ≡ at + taken.bytes
  pub live : is_live new ≡ goes_on taken.flow
  pub list : (u : List Placed) → Stands old u → Stands new (u ++ placed_from at (take taken.bytes piece))

-- Of whatever it stands for the report grows by these events with the last of these bytes, and by none before it.
abbrev pub GivesLast : Engine → ℕ → List ℕ → Flow → List (Event Packet) → Type 0
GivesLast engine at bytes flow given = (u : List Placed) → Stands engine u →
    FedAs (Answers (plan_of engine) [] Going) (Answers (plan_of engine) given flow) u at bytes

-- With the last of these bytes, which follow u from this offset on, a fault is certain.
pub record IsCertain (plan : Plan) (u : List Placed) (at : ℕ) (bytes : List ℕ) : Type 0 where
  pub front : List ℕ
  pub last : ℕ
  pub parts : bytes ≡ front ++ last ∷ []
  pub sound : fault_of plan (u ++ placed_from at front) ≡ None

-- With these bytes, which follow u from this offset on, the report of a capture grows by these events, and has the
-- fault of this flow, which is certain with the last of them.
pub record Reads (plan : Plan) (u : List Placed) (at : ℕ) (bytes : List ℕ) (given : List (Event Packet)) (flow : Flow)
    : Type 0 where
  pub grew : report_of plan (u ++ placed_from at bytes) ≡ report_of plan u ++ given
  pub fault : fault_of plan (u ++ placed_from at bytes) ≡ fault_by flow
  pub certain : goes_on flow ≡ false → IsCertain plan u at bytes

-- of whatever an engine stands for
abbrev pub ReadsTo : Engine → ℕ → List ℕ → Flow → List (Event Packet) → Type 0
ReadsTo engine at bytes flow given = (u : List Placed) → Stands engine u → Reads (plan_of engine) u at bytes given flow

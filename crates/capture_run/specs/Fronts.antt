-- What `show` wrote of a capture whose front may be lost, against the whole capture.
use Rattle.std.specs.Prelude.{◌≡◌, ℕ, List, ◌++◌, length, map, Option, Some, None}
use Rattle.std.specs.Io.KnownBytes.{Appends}
use Rattle.capture_actions.specs.Listing.{listed}
use Rattle.capture_actions.specs.declared.list_plan.ListPlan.{ListPlan}
use Rattle.capture_words.specs.declared.job.Task.{Task}
use Rattle.capture_words.specs.declared.job.Task.TheVariants.{Show}
use Rattle.capture_words.specs.declared.recover.Recover.{Recover}
use Rattle.deformatter.specs.PortReading.{port_reading}
use Rattle.resync_laws.specs.Report.{rest_plan, left_bytes, left_report, ReportFollows, skips}
use Rattle.resync_grammars.specs.Port.{rest_mode}
use Rattle.resync_grammars.specs.Capture.{source_bytes}
use Rattle.resync_laws.specs.Moved.{later_event}
use Rattle.source_events.specs.Plan.{kind_of}
use Rattle.source_events.specs.Tails.{tail_of, tails_of}
use Rattle.source_events.specs.declared.plan.Plan.{Plan}
use Rattle.source_events.specs.declared.plan.SourceKind.{SourceKind}
use Rattle.source_merge.specs.Answering.{report_of, fault_of}
use Rattle.trace_text.specs.EndText.{tails_text}
use Rattle.trace_values.specs.Placed.{placed}

-- The task lists, without a filter, a capture that begins anywhere in one that this plan reads whole: with the same
-- sources and order of values, hunting at the port, if it has frames, and at each source, and with any `--recover`. The
-- plan itself may hunt or not.
abbrev pub ListsRest : Plan → Task → Type 0
ListsRest whole task = (recover : Recover) × (task ≡ Show (rest_plan whole) None None recover)

-- this plan reads without a fault the whole capture, of which some bytes are lost and others are left
abbrev pub IsSoundWhole : Plan → List ℕ → List ℕ → Type 0
IsSoundWhole whole lost left = fault_of whole (placed (lost ++ left)) ≡ None

-- What was written of the bytes that are left follows the whole capture, which this plan reads. What the output holds
-- before and after is given last.
pub record FollowsWhole (whole : Plan) (lost left : List ℕ) (held_old held_new : Option (List ℕ)) : Type 0 where
  -- The output gained the line of each event of the report of what is left, and then the end lines: no line of a fault.
  -- A remark on a time is made from the packets of its source in that same report.
  pub written :
      let rest : ListPlan = record { plan = rest_plan whole; only = None; window = None } in
      Appends held_old held_new (listed rest left ++ tails_text (tails_of rest.plan (placed left)))
  -- The offsets in these lines count from the first byte that is left. In the whole each is greater by how many bytes
  -- are lost, and the report is this one.
  pub offsets : left_report whole lost left
      ≡ map (λ e. later_event (length lost) e) (report_of (rest_plan whole) (placed left))
  -- This report has no fault, and follows that of the whole: notices aside, from each source's point on it has the
  -- whole's events, in the same order.
  pub follows : ReportFollows whole lost left
  -- The end line of each mapped source has the exact number of units that its hunt skips, bytes or nibbles: all that
  -- are left of the source, or those before the last units of the first sync that has all these left.
  pub skipped : (x : ℕ) (kind : SourceKind) (mapped : kind_of whole x ≡ Some kind) →
      skips whole kind (follows.sources x kind mapped).early
      (source_bytes (rest_mode whole.frames) x (left_bytes lost left))
      (tail_of (rest_plan whole) (port_reading (rest_mode whole.frames) (placed left)) x kind).skipped

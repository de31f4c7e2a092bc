-- What is read of a trace buffer that took a capture.
use Rattle.std.specs.Prelude.{◌≡◌, ℕ, List, ◌++◌, length}
use Rattle.buffer_ring.specs.Image.{image, pointer, is_full, dropped, ordered}
use Rattle.resync_laws.specs.Report.{ReportFollows}
use Rattle.source_events.specs.declared.plan.Plan.{Plan}
use Rattle.capture_run.specs.Fronts.{IsSoundWhole}

-- the bytes that a buffer of this size kept of a capture, in order
abbrev pub kept_of : ℕ → List ℕ → List ℕ
kept_of size whole = ordered (image size whole) (pointer size whole) (is_full size whole)

-- The kept bytes are a rest of the whole capture, before which as many are lost as the buffer overwrote. So `show`,
-- which hunts in them, lists what the law of lost fronts says: notices aside, from each source's point on the whole's
-- events, in the same order.
pub record RingFollows (plan : Plan) (size : ℕ) (whole : List ℕ) : Type 0 where
  pub lost : List ℕ
  pub parts : whole ≡ lost ++ kept_of size whole
  pub count : length lost ≡ dropped size whole
  pub sound : IsSoundWhole plan lost (kept_of size whole)
  pub follows : ReportFollows plan lost (kept_of size whole)

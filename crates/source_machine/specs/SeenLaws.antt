-- A reading whose items are seen as packets grows, settles and shows as it did.
use Rattle.std.specs.Prelude.{◌≡◌, ℕ, ◌++◌, Bool, refl}
use Rattle.std.proofs.Common.{ap, ◌∙◌}
use Rattle.source_machine.specs.Names.{Step, Quiet, Skipping, Item, Locked, Fault, Stream, Grows, HuntBy}
use Rattle.source_machine.specs.Names.{Shows, Holds, given_by, fault_by, given_as}
use Rattle.source_machine.specs.Names.{stream_as}
use Rattle.source_events.proofs.Lawful.{given_append}
use Rattle.source_machine.specs.Seen.{step_as}

module _ {V W : Type 0} (f : V → W) where
  given_step : (at : ℕ) (step : Step V) → given_as f (given_by at step) ≡ given_by at (step_as f step)
  given_step at Quiet = refl
  given_step at x = refl

  fault_step : (at : ℕ) (step : Step V) → fault_by at step ≡ fault_by at (step_as f step)
  fault_step at Quiet = refl
  fault_step at x = refl

  hunt_step : (old new : Stream V) (at : ℕ) (step : Step V) → HuntBy old new at step →
      HuntBy (stream_as f old) (stream_as f new) at (step_as f step)
  hunt_step old new at Quiet h = h
  hunt_step old new at Skipping h = h
  hunt_step old new at (Item half v) h = h
  hunt_step old new at (Locked n half v) h = h
  hunt_step old new at (Fault x) h = h

  pub grows_as : (old new : Stream V) (at : ℕ) (step : Step V) → Grows old new at step →
      Grows (stream_as f old) (stream_as f new) at (step_as f step)
  grows_as old new at step g = record {
    given =
        ap (given_as f) g.given ∙ given_append f old.given (given_by at step)
        ∙ ap (λ l. given_as f old.given ++ l) (given_step at step);
    fault = g.fault ∙ fault_step at step;
    hunt = hunt_step old new at step g.hunt;
  }

  pub shows_as : (live locked : Bool) (held skipped bytes : ℕ) (s : Stream V) → Shows live locked held skipped bytes s →
      Shows live locked held skipped bytes (stream_as f s)
  shows_as live locked held skipped bytes s h = record {
    live_is = h.live_is;
    locked_is = h.locked_is;
    held_is = h.held_is;
    skipped_is = h.skipped_is;
    room = h.room;
  }

  pub holds_as : (units : ℕ) (old new : Stream V) → Holds units old new →
      Holds units (stream_as f old) (stream_as f new)
  holds_as units old new h = record {
    given = ap (given_as f) h.given;
    held = h.held;
    skipped = h.skipped;
    locked = h.locked;
  }

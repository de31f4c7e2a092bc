-- What frames before which a funnel is do with bytes.
use Rattle.std.specs.Prelude.{◌≡◌, List}
use Rattle.port_formatter.specs.Names.{Appends, Act, acts, State, with_places, Turned}
use Rattle.port_formatter.specs.Passed.{from_funnel}
use Rattle.port_formatter.specs.Ring.{kept_in}
use Rattle.port_formatter.specs.declared.funnelled.FunnelledFrames.{FunnelledFrames}

-- what a funnel does when it is asked this
abbrev pub acts_of : State → List Act → Turned
acts_of f done = acts f.hold f.depth f.places done

-- the funnel was asked this, and what it gave was put into the frames
pub record Passes (old new : FunnelledFrames) (done : List Act) : Type 0 where
  pub funnel : new.funnel ≡ with_places old.funnel (acts_of old.funnel done).places
  pub frames : Appends old.ring.frames new.ring.frames (from_funnel (acts_of old.funnel done).out)
      (kept_in old.ring) (kept_in new.ring)

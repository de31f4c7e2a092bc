-- What the action over an account stands for.
use Rattle.std.specs.Prelude.{ℕ, List}
use Rattle.source_events.specs.declared.plan.Plan.{Plan}
use Rattle.recovery_engine.specs.Engine as reading
use Rattle.recovery_listing.specs.Account.{HasRead, read_by}
use Rattle.recovery_listing.specs.declared.going_on.GoingOn.{GoingOn}
use Rattle.recovery_listing.specs.declared.recovering.Recovering.{Recovering}

-- how it reads
abbrev pub how_of : {A : Type 0} → Recovering A → GoingOn Plan
how_of s = read_by s.engine

-- how many bytes it took
abbrev pub taken_by : {A : Type 0} → Recovering A → ℕ
taken_by s = reading.next_of s.engine

-- its engine has read these bytes, and its account was given their events
pub record Stands {A : Type 0} (account : A → GoingOn Plan → List ℕ → Type 0) (s : Recovering A) (seen : List ℕ)
    : Type 0 where
  pub read : HasRead s.engine seen
  pub told : account s.account (how_of s) seen

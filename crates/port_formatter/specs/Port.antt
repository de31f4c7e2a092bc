-- How bytes go to a port, and what its capture is.
use Rattle.std.specs.Prelude.{ℕ, List, Bool, true, ◌==◌, Option, None, Some}
use Rattle.std.specs.List.{list_any}
use Rattle.port_formatter.specs.Names.{sure_after, Tagged, written_segments, Turns}
use Rattle.port_formatter.specs.Passed.{passed, all_passed}
use Rattle.port_formatter.specs.Segments.{Segments}

-- How bytes go to a port: a full synchronisation before each frame whose number is a multiple of `every`, none where
-- that is 0; so many half synchronisations in each gap of a frame; and through a funnel first, if there is one.
pub record Port : Type 0 where
  pub every : ℕ
  pub halves : ℕ
  pub funnel : Option Turns

-- segments as they come to the port, of which the last goes on
abbrev pub sent : Option Turns → Segments → Segments
sent None s = s
sent (Some t) s = passed t s

-- and where all are ended
abbrev pub all_sent : Option Turns → List (List Tagged) → List (List Tagged)
all_sent None segments = segments
all_sent (Some t) segments = all_passed t segments

-- what is sure of the capture of segments of which the last goes on, and the capture of ended segments
abbrev pub sure_of : Port → Segments → List ℕ
sure_of p s = sure_after p.every p.halves (sent p.funnel s).ended (sent p.funnel s).begun

abbrev pub written : Port → List (List Tagged) → List ℕ
written p segments = written_segments p.every p.halves (all_sent p.funnel segments)

-- a source has a place in the funnel, or there is none
abbrev pub has_place : Option Turns → ℕ → Bool
has_place None id = true
has_place (Some t) id = list_any (λ x. x == id) t.order

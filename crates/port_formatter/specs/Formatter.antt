-- What the formatter of a port stands for.
use Rattle.std.specs.Prelude.{◌≡◌, ◌≤◌, ℕ, ◌+◌, ◌*◌, List, ◌++◌, length, Option, None, Some}
use Rattle.frame_writer.specs.Sure as sures
use Rattle.port_formatter.specs.Names.{Tagged, SureWriter, State, load, Turns, Debt, owing}
use Rattle.port_formatter.specs.Passed.{places_after}
use Rattle.port_formatter.specs.Port.{Port, sent, sure_of, written}
use Rattle.port_formatter.specs.Ring.{filled_of, space_of}
use Rattle.port_formatter.specs.Segments.{Segments, with_bytes, now_ended, after_flush}
use Rattle.port_formatter.specs.declared.formatter.Formatter.{Formatter}
use Rattle.port_formatter.specs.declared.formatter.Formatter.TheVariants.{Straight, Funnelled}
use Rattle.port_formatter.specs.declared.straight.TheConstants.{KEPT_ROOM}

-- its frames
abbrev pub frames_of : Formatter → SureWriter
frames_of (Straight f) = f.frames
frames_of (Funnelled f) = f.ring.frames

-- how its funnel takes turns, if there is one
abbrev pub turns_by : State → Turns
turns_by f = record { order = f.order; hold = f.hold; depth = f.depth }

abbrev pub turns_of : Formatter → Option Turns
turns_of (Straight f) = None
turns_of (Funnelled f) = Some (turns_by f.funnel)

-- what is sure and was not given yet, and as a debt: each call puts at least a byte of it
abbrev pub kept_by : Formatter → List ℕ
kept_by (Straight f) = f.kept.items
kept_by (Funnelled f) = f.ring.kept.items

abbrev pub debt_of : Formatter → Debt
debt_of f = owing (kept_by f) (length (kept_by f))

-- how many frames are whole, and how many bytes wait in the funnel
abbrev pub waiting_in : Formatter → ℕ
waiting_in (Straight f) = 0
waiting_in (Funnelled f) = load f.funnel.places

abbrev pub count_of : Formatter → ℕ
count_of f = sures.count_of (frames_of f) + waiting_in f

-- There is room for what is kept and what so many pairs more may make sure, all in sevenths of a byte: seven pairs make
-- a frame, which is 132 bytes at most, and a byte makes two pairs at most, so one that waits in the funnel too.
abbrev pub HasRoom : Formatter → ℕ → Type 0
HasRoom (Straight f) n =
    7 * length f.kept.items + 7 * sures.held_by f.frames + 132 * sures.pairs_of f.frames + 132 * n ≤ 7 * KEPT_ROOM
HasRoom (Funnelled f) n = filled_of f.ring + 264 * load f.funnel.places + 132 * n ≤ space_of f.ring

-- a funnel that passed these segments on
pub record HasPassed (f : State) (t : Turns) (s : Segments) : Type 0 where
  pub turns : t ≡ turns_by f
  pub places : f.places ≡ places_after t s

abbrev pub PassesOn : Formatter → Option Turns → Segments → Type 0
PassesOn (Straight f) None s = Unit {0}
PassesOn (Straight f) (Some t) s = ⊥
PassesOn (Funnelled f) None s = ⊥
PassesOn (Funnelled f) (Some t) s = HasPassed f.funnel t s

-- It was given these segments, of which the last goes on, and writes them as a port does: its frames are sure of what
-- is sent, and its funnel, if there is one, has what is not sent yet.
pub record Stands (f : Formatter) (p : Port) (s : Segments) : Type 0 where
  pub frames : sures.IsSure (frames_of f) p.every p.halves (sent p.funnel s).ended (sent p.funnel s).begun
  pub funnel : PassesOn f p.funnel s

-- these bytes were put after all others, and what became sure with them is kept too
pub record Puts (old new : Formatter) (put : List Tagged) : Type 0 where
  pub more : List ℕ
  pub kept : kept_by new ≡ kept_by old ++ more
  pub list : (p : Port) (s : Segments) → Stands old p s → Stands new p (with_bytes s put)
  pub grown : (p : Port) (s : Segments) → Stands old p s → sure_of p (with_bytes s put) ≡ sure_of p s ++ more

-- the segment was ended: all is sure
pub record Ends (old new : Formatter) : Type 0 where
  pub more : List ℕ
  pub kept : kept_by new ≡ kept_by old ++ more
  pub list : (p : Port) (s : Segments) → Stands old p s → Stands new p (after_flush s)
  pub grown : (p : Port) (s : Segments) → Stands old p s → sure_of p (after_flush s) ≡ sure_of p s ++ more
  pub all : (p : Port) (s : Segments) → Stands old p s → written p (now_ended s) ≡ sure_of p s ++ more

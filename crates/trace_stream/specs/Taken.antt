-- What an action did with the front of a piece.
use Rattle.std.specs.Prelude.{◌≡◌, List, ℕ, ◌++◌, Bool, true, false}
use Rattle.trace_stream.specs.Written.{IsCertainAt}
use Rattle.trace_stream.specs.Served.{Meaning}

-- these bytes have a fault, which became certain with the last, or they have none
abbrev pub FaultAfter : (List ℕ → Type 0) → List ℕ → Bool → Type 0
FaultAfter faulty seen true = IsCertainAt faulty seen
FaultAfter faulty seen false = faulty seen → ⊥

-- one call of an action: the bytes that it took before, the front of the piece that it takes now, and what the outlet
-- holds before and after the call
pub record Turn : Type 0 where
  pub seen : List ℕ
  pub front : List ℕ
  pub before : List ℕ
  pub after : List ℕ

-- the action took the front, and the outlet gained exactly the text that is new
pub record HasTaken (now : List ℕ → Type 0) (m : Meaning) (turn : Turn) (is_faulty : Bool) : Type 0 where
  pub read : now (turn.seen ++ turn.front)
  pub more : List ℕ
  pub grown : m.text (turn.seen ++ turn.front) ≡ m.text turn.seen ++ more
  pub gained : turn.after ≡ turn.before ++ more
  pub fault : FaultAfter m.faulty (turn.seen ++ turn.front) is_faulty

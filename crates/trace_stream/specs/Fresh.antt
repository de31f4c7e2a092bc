-- Before a run.
use Rattle.std.specs.Prelude.{◌≡◌, ℕ, List, []}
use Rattle.trace_stream.specs.BuffersState.{BuffersState}
use Rattle.trace_stream.specs.Debt.{Debt, Paid}

-- before a run: the action may be fed, took nothing yet and owes nothing, nothing is noted of no bytes, and the buffers
-- are empty
pub record IsFresh (alive : Type 0) (stands : List ℕ → Type 0) (taken : ℕ) (debt : Debt)
    (noted_first : List ℕ) (buffers : BuffersState) : Type 0 where
  pub live : alive
  pub fresh : stands []
  pub count : taken ≡ 0
  pub nothing_owed : debt ≡ Paid
  pub nothing_noted : noted_first ≡ []
  pub pending : buffers.pending ≡ []
  pub recent : buffers.recent ≡ []

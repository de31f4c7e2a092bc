-- What an action owes: text, or what comes after it, that is longer than one call can put.
use Rattle.std.specs.Prelude.{◌≡◌, ℕ, zero, suc, ◌<◌, List, ◌++◌, Bool, true, false}

-- nothing; or these bytes, which at most this many calls put
pub data Debt : Type 0 where
  Paid : Debt
  Owes : List ℕ → ℕ → Debt

-- these bytes, which at most this many calls put: they are none where no call is left
abbrev pub owing : List ℕ → ℕ → Debt
owing text zero = Paid
owing text (suc calls) = Owes text (suc calls)

-- what an outlet holds, and then what is owed
abbrev pub with_debt : List ℕ → Debt → List ℕ
with_debt held Paid = held
with_debt held (Owes text calls) = held ++ text

-- how many calls that takes at most
abbrev pub calls_of : Debt → ℕ
calls_of Paid = 0
calls_of (Owes text calls) = calls

-- A call that answers whether something was owed, with what the outlet holds before and after it: it moves bytes from
-- the debt to the outlet, and leaves fewer calls; where nothing was owed nothing is put.
pub record Pours (old new : Debt) (before after : List ℕ) (was_owed : Bool) : Type 0 where
  pub put : with_debt after new ≡ with_debt before old
  pub fewer : was_owed ≡ true → calls_of new < calls_of old
  pub none : was_owed ≡ false → (new ≡ Paid) × (after ≡ before)

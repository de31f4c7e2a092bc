-- Steps that may give nothing.
use Rattle.std.specs.Prelude.{Option, None, Some}

-- nothing, or else what is made of the value
infixl 10 ◌>>=◌
abbrev pub ◌>>=◌ : {A B : Type 0} → Option A → (A → Option B) → Option B
None >>= f = None
(Some x) >>= f = f x

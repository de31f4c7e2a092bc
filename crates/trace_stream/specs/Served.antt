-- What a run read and wrote, by its outcome.
use Rattle.std.specs.Prelude.{◌≡◌, ◌⊎◌, ℕ, ◌+◌, ◌<◌, ◌≤◌, List, [], ◌++◌, length, take, Bool, true, if◌then◌else◌}
use Rattle.std.specs.declared.option.Option.{Option}
use Rattle.std.specs.Io.KnownBytes.{Appends, Consumes, IsAtEnd}
use Rattle.trace_stream.specs.Written.{GrowsOnly, IsCertainAt}
use Rattle.trace_stream.specs.declared.outcome.Outcome.{Outcome}
use Rattle.trace_stream.specs.declared.outcome.Outcome.TheVariants.{AtEnd, FaultFound, ReadFailed, WriteFailed}
use Rattle.trace_stream.specs.declared.outcome.Outcome.TheVariants.{OverLimit}
use Rattle.trace_stream.specs.Recent.{last_sixteen}

-- What an action makes of the bytes of a capture: which of them have a fault, what is written for those so far, what
-- comes after it at the end or at a fault, and whether that is due where a read failed or the limit was passed, too.
pub record Meaning : Type 1 where
  pub faulty : List ℕ → Type 0
  pub text : List ℕ → List ℕ
  pub ending : List ℕ → List ℕ
  pub due : Bool

-- What a run asks of a meaning: no bytes have no fault and no text, bytes after a fault don't mend it and add neither
-- to the text nor to what comes after it, and further bytes take nothing of the text back.
pub record IsLawful (m : Meaning) : Type 0 where
  pub never_at_first : m.faulty [] → ⊥
  pub nothing_at_first : m.text [] ≡ []
  pub faulty_stays : (xs ys : List ℕ) → m.faulty xs → m.faulty (xs ++ ys)
  pub text_stays : (xs ys : List ℕ) → m.faulty xs → m.text (xs ++ ys) ≡ m.text xs
  pub ending_stays : (xs ys : List ℕ) → m.faulty xs → m.ending (xs ++ ys) ≡ m.ending xs
  pub text_grows : (xs ys : List ℕ) → GrowsOnly (m.text xs) (m.text (xs ++ ys))

-- what is written for these bytes where more may come that is not read
abbrev pub text_at_stop : Meaning → List ℕ → List ℕ
text_at_stop m bytes = if m.due then m.text bytes ++ m.ending bytes else m.text bytes

-- what the two ends of a run show at a moment: the bytes that are left in the input, and those that the output took
pub record Ends : Type 0 where
  pub left : Option (List ℕ)
  pub held : Option (List ℕ)

-- the reading of these bytes has a fault, which became certain at some byte
pub record StopsWithin (faulty : List ℕ → Type 0) (bytes : List ℕ) : Type 0 where
  pub seen : List ℕ
  pub rest : List ℕ
  pub parts : bytes ≡ seen ++ rest
  pub certain : IsCertainAt faulty seen
  pub broken : faulty bytes

-- no more is to be read: the bytes within the limit have a fault, or they are all and nothing is left in the input
abbrev pub IsAllRead : (List ℕ → Type 0) → ℕ → Option (List ℕ) → List ℕ → Type 0
IsAllRead faulty limit left bytes = faulty (take limit bytes) ⊎ ((length bytes ≤ limit) × IsAtEnd left)

-- What the bytes that were read are, what the input has left after them, and what went out for them, by the outcome.
-- At a fault the recent bytes are the last sixteen up to the one at which the fault became certain. Where a write
-- failed, a front of the text went out; and of what comes after it only where no more was to be read, or where it is
-- due at each stop.
abbrev pub ServedBy : Meaning → ℕ → Option (List ℕ) → Outcome → List ℕ → List ℕ → List ℕ → Type 0
ServedBy m limit left AtEnd bytes out recent =
    (m.faulty bytes → ⊥) × (length bytes ≤ limit) × (out ≡ m.text bytes ++ m.ending bytes)
ServedBy m limit left FaultFound bytes out recent =
    (stop : StopsWithin m.faulty (take limit bytes))
    × (out ≡ m.text (take limit bytes) ++ m.ending (take limit bytes)) × (recent ≡ last_sixteen stop.seen)
ServedBy m limit left ReadFailed bytes out recent =
    (m.faulty bytes → ⊥) × (length bytes ≤ limit) × (out ≡ text_at_stop m bytes)
ServedBy m limit left WriteFailed bytes out recent =
    GrowsOnly out (m.text (take limit bytes))
    ⊎ ((IsAllRead m.faulty limit left bytes ⊎ (m.due ≡ true))
    × GrowsOnly out (m.text (take limit bytes) ++ m.ending (take limit bytes)))
ServedBy m limit left OverLimit bytes out recent =
    (m.faulty (take limit bytes) → ⊥) × (limit < length bytes) × (out ≡ text_at_stop m (take limit bytes))

-- Which bytes were fed: all within the limit, up to the one at which a fault became certain; or some of them, where a
-- write failed.
abbrev pub FedBy : (m : Meaning) (limit : ℕ) (left : Option (List ℕ)) (result : Outcome) (bytes out recent : List ℕ) →
    ServedBy m limit left result bytes out recent → List ℕ → Type 0
FedBy m limit left AtEnd bytes out recent served fed = fed ≡ bytes
FedBy m limit left FaultFound bytes out recent served fed = fed ≡ served.0.seen
FedBy m limit left ReadFailed bytes out recent served fed = fed ≡ bytes
FedBy m limit left WriteFailed bytes out recent served fed = GrowsOnly fed (take limit bytes)
FedBy m limit left OverLimit bytes out recent served fed = fed ≡ take limit bytes

-- the bytes are those that the input lost, at most one past the limit, out is what the output gained, and
-- recent is what the ring keeps after the run; at the end of a run to the input's end nothing is left in the input; and
-- this holds of the bytes that were fed
pub record HasServed (there : List ℕ → Type 0) (m : Meaning) (limit : ℕ) (old new : Ends) (recent : List ℕ)
    (result : Outcome) : Type 0 where
  pub bytes : List ℕ
  pub out : List ℕ
  pub lost : Consumes old.left new.left bytes
  pub gained : Appends old.held new.held out
  pub at_most : length bytes ≤ limit + 1
  pub outcome : ServedBy m limit new.left result bytes out recent
  pub ended : result ≡ AtEnd → IsAtEnd new.left
  pub fed : List ℕ
  pub feeds : FedBy m limit new.left result bytes out recent outcome fed
  pub holds : there fed

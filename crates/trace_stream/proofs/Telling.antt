-- What is noted of more bytes.
use Rattle.std.proofs.Common.{◌≡◌, ◌≤◌, ℕ, List, [], ◌++◌, Bool, arith, sym, subst}
use Rattle.std.specs.Io.KnownBytes.{Appends}
use Rattle.std.proofs.KnownBytes.{Appends-nil, Appends-trans}
use Rattle.trace_io.specs.Causes.{Rose}
use Rattle.trace_stream.specs.Served.{Meaning}
use Rattle.trace_stream.specs.Taken.{HasTaken, Turn}
use Rattle.trace_stream.specs.Told.{HasTold, Noted, Notes}

-- a count that rose between two moments rose from an earlier one to a later one
rose_later : (a b c : ℕ) → Rose a b → b ≤ c → Rose a c
rose_later a b c rose later = omega (arith, rose, later)

rose_sooner : (a b c : ℕ) → a ≤ b → Rose b c → Rose a c
rose_sooner a b c sooner rose = omega (arith, sooner, rose)

pub notes_more : (a b c : Noted) (xs ys : List ℕ) → Notes a.held b.held a.faults b.faults xs → a.faults ≤ b.faults →
    Notes b.held c.held b.faults c.faults ys → b.faults ≤ c.faults → Notes a.held c.held a.faults c.faults (xs ++ ys)
notes_more a b c xs ys first sooner next later = λ sound.
    Appends-trans a.held b.held c.held xs ys
    (first (λ rose. sound (rose_later a.faults b.faults c.faults rose later)))
    (next (λ rose. sound (rose_sooner a.faults b.faults c.faults sooner rose)))

-- of no bytes nothing is noted
pub told_none : (stands : List ℕ → Type 0) (noted : List ℕ → List ℕ) (first : Noted) → noted [] ≡ [] → stands [] →
    HasTold stands noted first first []
told_none stands noted first none read = record {
  read = read;
  gained = λ sound. subst (Appends first.held first.held) (sym none) (Appends-nil first.held);
  later = omega arith;
}

-- an action took more bytes, and what is new of them is noted
pub told_taken : (was stands : List ℕ → Type 0) (noted : List ℕ → List ℕ) (first mid last : Noted) (m : Meaning)
    (turn : Turn) (is_faulty : Bool) (lines : List ℕ) → HasTold was noted first mid turn.seen →
    HasTaken stands m turn is_faulty → noted (turn.seen ++ turn.front) ≡ noted turn.seen ++ lines →
    Notes mid.held last.held mid.faults last.faults lines → mid.faults ≤ last.faults →
    HasTaken (HasTold stands noted first last) m turn is_faulty
told_taken was stands noted first mid last m turn is_faulty lines so_far taken grown next later = record {
  read = record {
    read = taken.read;
    gained = subst (Notes first.held last.held first.faults last.faults) (sym grown)
        (notes_more first mid last (noted turn.seen) lines so_far.gained so_far.later next later);
    later = (let sooner = so_far.later in omega (arith, sooner, later));
  };
  more = taken.more;
  grown = taken.grown;
  gained = taken.gained;
  fault = taken.fault;
}

pub noted_at : {Plan : Type 0} (noted : Plan → List ℕ → List ℕ) (plan p : Plan) (seen all lines : List ℕ) → plan ≡ p →
    noted plan all ≡ noted plan seen ++ lines → noted p all ≡ noted p seen ++ lines
noted_at noted plan p seen all lines same grown = subst (λ q. noted q all ≡ noted q seen ++ lines) same grown

-- what an action stands for is kept
pub told_kept : (was now : List ℕ → Type 0) (noted : List ℕ → List ℕ) (first last : Noted) →
    ((seen : List ℕ) → was seen → now seen) → (seen : List ℕ) → HasTold was noted first last seen →
    HasTold now noted first last seen
told_kept was now noted first last keeps seen so_far =
    record { read = keeps seen so_far.read; gained = so_far.gained; later = so_far.later }

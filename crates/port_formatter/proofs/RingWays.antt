-- Bytes of which what becomes sure is kept in a ring.
use Rattle.std.proofs.Common.{◌≡◌, ℕ, ◌+◌, ◌<◌, List, [], ◌∷◌, ◌++◌, sym, subst, length, take, get_or, true}
use Rattle.std.specs.Prelude.{◌==◌}
use Rattle.std.proofs.lemmas.Bool.{eqb-true}
use Rattle.std.proofs.lemmas.List.{nil_from_length, take_more}
use Rattle.frame_writer.specs.Sure.{Appends}
use Rattle.frame_writer.proofs.Appending.{appends_none, appends_join}
use Rattle.trace_funnel.specs.declared.tagged.Tagged.{Tagged as Given}
use Rattle.port_formatter.specs.Passed.{from_funnel}
use Rattle.port_formatter.specs.PassedLaws.{from_more}
use Rattle.port_formatter.specs.Ring.{kept_in}
use Rattle.port_formatter.specs.declared.ring_frames.RingFrames.{RingFrames}

-- these were put, and what became sure was kept
abbrev pub Keeps : RingFrames → RingFrames → List Given → Type 0
Keeps old new given = Appends old.frames new.frames (from_funnel given) (kept_in old) (kept_in new)

pub keeps_none : (r : RingFrames) → Keeps r r []
keeps_none r = appends_none r.frames (kept_in r)

pub nothing_given : (r : RingFrames) (given : List Given) → (length given == 0) ≡ true → Keeps r r given
nothing_given r given e = subst (Keeps r r) (sym (nil_from_length given (eqb-true (length given) 0 e))) (keeps_none r)

pub keeps_join : (a b c : RingFrames) (one two : List Given) → Keeps a b one → Keeps b c two → Keeps a c (one ++ two)
keeps_join a b c one two k l =
    subst (λ t. Appends a.frames c.frames t (kept_in a) (kept_in c)) (sym (from_more one two))
    (appends_join a.frames b.frames c.frames (from_funnel one) (from_funnel two) (kept_in a) (kept_in b) (kept_in c)
    k l)

-- one more of these
pub keeps_more : (a b c : RingFrames) (given : List Given) (i : ℕ) (d : Given) → i < length given →
    Keeps a b (take i given) → Keeps b c (get_or given i d ∷ []) → Keeps a c (take (i + 1) given)
keeps_more a b c given i d h k l =
    subst (Keeps a c) (sym (take_more given i d h)) (keeps_join a b c (take i given) (get_or given i d ∷ []) k l)

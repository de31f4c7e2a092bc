-- Each line of the exercise says what it may: its numbers are in their ranges, and it is of a source for it.
use Rattle.std.proofs.Common.{◌≡◌, ℕ, zero, suc, ◌+◌, ◌/◌, ◌%◌, ◌<◌, ◌==◌, List, [], ◌∷◌, refl, sym, subst, arith}
use Rattle.std.proofs.Common.{rules, Bool, true, false, cond, slice_index}
use Rattle.capture_exercise.specs.Names.{Sixteen, Natural, Async, Version, Datum, in_order, CanBePut2, Made, Itm, Stp}
use Rattle.capture_exercise.specs.Names.{Raw, itm_packet, stp_item, byte_item, item_of, place, IsProperMade}
use Rattle.itm_grammar.specs.declared.packet.Size.TheVariants.{Four}
use Rattle.itm_grammar.specs.declared.packet.Lateness.TheVariants.{Exact}
use Rattle.itm_grammar.specs.declared.packet.ItmPacket.TheVariants.{Sync, Software, Local}
use Rattle.trace_vectors.specs.declared.made.Made.TheVariants.{Trigger}
use Rattle.capture_exercise.specs.Exercise.{line_of_made, line_at}

abbrev IsSaid : Made → Type 0
IsSaid made = IsProperMade made → CanBePut2 (2 ∷ []) (line_of_made made)

itm_said : (s t : Bool) (m : ℕ) → IsSaid (Itm (cond s Sync (cond t (Software (m % 32) Four m) (Local Exact (m % 1000 + 1)))))
itm_said true t m p = (omega arith, omega arith, (p, tt), tt)
itm_said false true m p = (omega arith, omega arith, (p, tt), tt)
itm_said false false m p = (omega arith, omega arith, (p, tt), tt)

stp_said : (s t : Bool) (m : ℕ) → IsSaid (Stp (cond s Async (cond t (Version 3) (Datum (place m) Sixteen (m % 65536) false (Natural m)))))
stp_said true t m p = (omega arith, omega arith, (p, tt), refl)
stp_said false true m p = (omega arith, omega arith, (p, tt), refl)
stp_said false false m p = (omega arith, omega arith, (p, (search rules, search rules)), refl)

bytes_said : (b : ℕ) → b < 256 → (i : ℕ) → slice_index (b ∷ []) i < 256
bytes_said b p zero = p
bytes_said b p (suc i) = omega arith

byte_said : (s : Bool) (b : ℕ) → IsSaid (cond s (Trigger b) (Raw b))
byte_said true b p = tt
byte_said false b p = (omega arith, omega arith, (omega arith, omega arith, bytes_said b p), tt)

kind_said : (a b : Bool) (m : ℕ) → IsSaid (cond a (Itm (itm_packet m)) (cond b (Stp (stp_item m)) (byte_item m)))
kind_said true b m = itm_said (m % 16 == 0) (m % 2 == 1) m
kind_said false true m = stp_said (m % 16 == 0) (m % 16 == 1) m
kind_said false false m = byte_said (m % 16 == 15) (m % 256)

alone_in_order : in_order (2 ∷ []) ≡ 2 ∷ []
unfolding in_order
alone_in_order = refl

of_kind : (k : ℕ) → IsProperMade (item_of k) → CanBePut2 (2 ∷ []) (line_at k)
unfolding item_of
of_kind k = kind_said (k % 3 == 0) (k % 3 == 1) (k / 3)

pub line_said : (k : ℕ) → IsProperMade (item_of k) → CanBePut2 (in_order (2 ∷ [])) (line_at k)
line_said k p = subst (λ (ids : List ℕ). CanBePut2 ids (line_at k)) (sym alone_in_order) (of_kind k p)

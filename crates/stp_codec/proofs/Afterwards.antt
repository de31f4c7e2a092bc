-- A decoder of nibbles that begin with a packet, with one of them.
use Rattle.std.proofs.Common.{◌≡◌, ℕ, zero, suc, ◌/◌, ◌<◌, [], ◌∷◌, refl, sym, subst}
use Rattle.std.proofs.Common.{Bool, true, false, None}
use Rattle.trace_values.specs.declared.mode.Mode.{Mode}
use Rattle.trace_values.specs.declared.mode.Mode.TheVariants.{Aligned, Hunting, Locked as HasLocked}
use Rattle.stp_codec.specs.Names.{Step, Quiet, Placed, high_of, by_unit, Grows, StandsIn, hunts, is_locked, Order}
use Rattle.stp_codec.specs.Names.{Async, StpItem, Partial, Start, rule}
use Rattle.stp_codec.specs.declared.decoder.StpDecoder.{StpDecoder}
use Rattle.stp_codec.specs.Reading.{items_at, pattern}
use Rattle.stp_codec.specs.Decoder.{StandsAt, ReadsAt, IsSettled, has_locked, is_hunter, nibble_at, order_of}
use Rattle.stp_codec.specs.Decoder.{partial_of}
use Rattle.stp_codec.specs.Nibbles.{nibbles_after}
use Rattle.stp_codec.proofs.Bytes.{high_is}
use Rattle.stp_codec.proofs.Taken.{to_stands}

-- what an aligned reading of no units leaves; and it has begun
starts : (order : Order) (mode : Mode) (live : Bool) (p : Partial) → hunts mode ≡ false →
    StandsIn pattern Async (by_unit (rule order)) Start mode live p [] → p ≡ Start
starts order Aligned live p e s = sym s.state_is
starts order (Hunting run skipped) live p e s = cc
starts order (HasLocked skipped) live p e s = cc

reads_mode : (mode : Mode) → hunts mode ≡ false → is_locked mode ≡ true
reads_mode Aligned e = refl
reads_mode (Hunting run skipped) e = cc
reads_mode (HasLocked skipped) e = cc

pub starts_at : (d : StpDecoder) → is_hunter d ≡ false → StandsAt d [] → partial_of d ≡ Start
starts_at d e s = starts d.order d.mode d.live (partial_of d) e s.0

pub reads_at : (d : StpDecoder) → is_hunter d ≡ false → has_locked d ≡ true
reads_at d e = reads_mode d.mode e

-- the high nibble after the low one, and none after the high one
pub stands_after : (e : StpDecoder) (at byte half : ℕ) → half ≡ 0 → byte < 256 → IsSettled e →
    ReadsAt e (nibble_at at 1 (byte / 16) ∷ []) → StandsAt e (nibbles_after half at byte)
stands_after e at byte half z small settled list =
    subst (λ k. StandsAt e (nibbles_after k at byte)) (sym z)
    (subst (λ b. StandsAt e (b ∷ [])) (high_is at byte small)
    (to_stands e settled (nibble_at at 1 (byte / 16) ∷ []) list))

pub none_after : (at byte half : ℕ) → (half ≡ 0 → ⊥) → nibbles_after half at byte ≡ []
none_after at byte zero z = absurd (z refl)
none_after at byte (suc half) z = refl

-- one nibble gives nothing, and is no fault
pub says_after : (d : StpDecoder) (order : Order) (at byte half : ℕ) (s : Step StpItem) → order_of d ≡ order →
    is_hunter d ≡ false → half ≡ 0 → byte < 256 → s ≡ Quiet →
    Grows (items_at (order_of d) (is_hunter d) []) (items_at (order_of d) (is_hunter d)
    (nibble_at at 1 (byte / 16) ∷ [])) at s →
    ((items_at order false (nibbles_after half at byte)).given ≡ [])
    × ((items_at order false (nibbles_after half at byte)).fault ≡ None)
says_after d order at byte half s same mode z small quiet grows =
    subst (λ k. ((items_at order false (nibbles_after k at byte)).given ≡ [])
    × ((items_at order false (nibbles_after k at byte)).fault ≡ None)) (sym z) (here.given, here.fault) where
      here : Grows (items_at order false []) (items_at order false (high_of at byte ∷ [])) at Quiet
      here =
          subst (λ (o : Order). Grows (items_at o false []) (items_at o false (high_of at byte ∷ [])) at Quiet) same
          (subst (λ (h : Bool). Grows (items_at d.order h []) (items_at d.order h (high_of at byte ∷ [])) at Quiet) mode
          (subst (λ (b : Placed). Grows (items_at d.order (is_hunter d) []) (items_at d.order (is_hunter d) (b ∷ [])) at
          Quiet) (high_is at byte small)
          (subst (λ (x : Step StpItem). Grows (items_at d.order (is_hunter d) [])
          (items_at d.order (is_hunter d) (nibble_at at 1 (byte / 16) ∷ [])) at x) quiet grows)))

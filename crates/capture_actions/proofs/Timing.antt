-- How the times grow with one more packet.
use Rattle.std.proofs.Common.{◌≡◌, ℕ, List, [], ◌∷◌, ◌++◌, flat_map, append-nil, refl, sym, ◌∙◌, ap, subst, false}
use Rattle.std.proofs.lemmas.Grind.{flat_map-append}
use Rattle.capture_actions.specs.Names.{ItmPacket, Local, GlobalFirst, GlobalSecond, None as NoRemark, SuitsPacket}
use Rattle.capture_actions.specs.Names.{local_time, GlobalStamp, is_stamp}
use Rattle.trace_clock.specs.GlobalClock as clock
use Rattle.capture_actions.specs.declared.clocks.Clocks.{Clocks}
use Rattle.capture_actions.specs.Remarks.{deltas_in, stamps_in, remark_by}
use Rattle.capture_actions.specs.Clocks.{Stands}

pub deltas_push : (packets : List ItmPacket) (p : ItmPacket) → flat_map deltas_in (packets ++ p ∷ []) ≡ flat_map deltas_in packets ++ deltas_in p
deltas_push packets p = flat_map-append deltas_in packets (p ∷ []) ∙ ap (λ (l : List ℕ). flat_map deltas_in packets ++ l) (append-nil (deltas_in p))

pub stamps_push : (packets : List ItmPacket) (p : ItmPacket) → flat_map stamps_in (packets ++ p ∷ []) ≡ flat_map stamps_in packets ++ stamps_in p
stamps_push packets p = flat_map-append stamps_in packets (p ∷ []) ∙ ap (λ (l : List GlobalStamp). flat_map stamps_in packets ++ l) (append-nil (stamps_in p))

-- the clocks after one more packet, where each took what is its own
pub after_push : (old new : Clocks) (packets : List ItmPacket) (p : ItmPacket) → Stands old packets → new.local ≡ local_time (flat_map deltas_in packets ++ deltas_in p) →
    clock.Stands new.global (flat_map stamps_in packets ++ stamps_in p) → Stands new (packets ++ p ∷ [])
after_push old new packets p b l g = record {
  local = l ∙ ap local_time (sym (deltas_push packets p));
  global = subst (clock.Stands new.global) (sym (stamps_push packets p)) g;
}

-- a packet that is no timestamp leaves them as they are
pub after_other : (clocks : Clocks) (packets : List ItmPacket) (p : ItmPacket) → deltas_in p ≡ [] → stamps_in p ≡ [] → Stands clocks packets → Stands clocks (packets ++ p ∷ [])
after_other clocks packets p d s b = after_push clocks clocks packets p b
    (b.local ∙ ap local_time (sym (append-nil (flat_map deltas_in packets))) ∙ ap (λ (l : List ℕ). local_time (flat_map deltas_in packets ++ l)) (sym d))
    (subst (clock.Stands clocks.global) (sym (append-nil (flat_map stamps_in packets)) ∙ ap (λ (l : List GlobalStamp). flat_map stamps_in packets ++ l) (sym s)) b.global)

-- a packet that is no timestamp has no ticks and no time, and nothing is beside it
pub no_times : (p : ItmPacket) → is_stamp p ≡ false → (deltas_in p ≡ []) × (stamps_in p ≡ [])
no_times (Local l delta) h = ((cc), (cc))
no_times (GlobalFirst len v c w) h = ((cc), (cc))
no_times (GlobalSecond wide v) h = ((cc), (cc))
no_times p h = (refl, refl)

pub no_remark : (packets : List ItmPacket) (p : ItmPacket) → is_stamp p ≡ false → remark_by packets p ≡ NoRemark
no_remark packets (Local l delta) h = cc
no_remark packets (GlobalFirst len v c w) h = cc
no_remark packets (GlobalSecond wide v) h = cc
no_remark packets x h = refl

pub suits_none : (p : ItmPacket) → is_stamp p ≡ false → SuitsPacket p NoRemark
suits_none (Local l delta) h = absurd (cc)
suits_none (GlobalFirst len v c w) h = absurd (cc)
suits_none (GlobalSecond wide v) h = absurd (cc)
suits_none x h = tt

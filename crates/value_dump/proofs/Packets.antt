-- Values and times after one more packet.
use Rattle.std.proofs.Common.{◌≡◌, ℕ, ◌+◌, ◌%◌, List, [], ◌∷◌, ◌++◌, refl, ◌∙◌, ap, arith}
use Rattle.std.proofs.Common.{append-nil, Option, None, Some}
use Rattle.std.proofs.Common.{Bool, true, false, cond, flat_map, inl, inr}
use Rattle.std.specs.Prelude.{◌==◌, ◌||◌}
use Rattle.std.specs.List.{list_any}
use Rattle.std.proofs.lemmas.Bool.{cases_eq}
use Rattle.std.proofs.lemmas.Bool.Decides.{nat_tests}
use Rattle.std.proofs.lemmas.Grind.{flat_map-append}
use Rattle.itm_grammar.specs.declared.packet.Lateness.{Lateness}
use Rattle.capture_actions.proofs.Timing.{deltas_push}
use Rattle.value_dump.specs.Names.{ItmPacket, Local, Overflow, deltas_in}
use Rattle.value_dump.specs.Dump.{changes, up_to_stamp}
use Rattle.value_dump.specs.Signals.{is_local, is_overflow, last_told, losses, told_by, value_after}
use Rattle.value_dump.specs.Telling.{toggled, value_next}
use Rattle.value_dump.proofs.Changes.{same_changes}
use Rattle.value_dump.proofs.Losses.{one_loss, other_losses}

-- what is told by two lists, one after the other
pub told_append : (number : ℕ) (known : Option ℕ) (xs ys : List (ℕ × ℕ)) →
    last_told number known (xs ++ ys) ≡ last_told number (last_told number known xs) ys
told_append number known [] ys = refl
told_append number known (x ∷ xs) ys = told_append number (cond (x.0 == number) (Some x.1) known) xs ys

-- one stretch with losses more
pub flips : (n : ℕ) → Some ((n + 1) % 2) ≡ toggled (Some (n % 2))
flips n = elim (cases_eq (n % 2) 0) [
  | inl e ↦ (
      ap (λ (k : ℕ). Some k) (let f : (n + 1) % 2 ≡ 1 = omega (arith, e) in f)
      ∙ ap (λ (t : Bool). cond t (Some 1) (Some 0)) (let k : true ≡ (n % 2 == 0) = grind (arith, nat_tests) in k)
      )
  | inr d ↦ (
      ap (λ (k : ℕ). Some k) (let f : (n + 1) % 2 ≡ 0 = omega (arith, d) in f)
      ∙ ap (λ (t : Bool). cond t (Some 1) (Some 0)) (let k : false ≡ (n % 2 == 0) = grind (arith, nat_tests) in k)
      )
]

abbrev lost_in : List ItmPacket → Option ℕ
lost_in packets = Some (losses packets % 2)

lost_push : (packets : List ItmPacket) (packet : ItmPacket) → lost_in (packets ++ packet ∷ [])
    ≡ cond (is_overflow packet) (toggled (lost_in (up_to_stamp packets))) (lost_in packets)
lost_push packets Overflow =
    ap (λ (n : ℕ). Some (n % 2)) (one_loss packets) ∙ flips (losses (up_to_stamp packets))
lost_push packets packet = ap (λ (n : ℕ). Some (n % 2)) (other_losses packets packet refl)

-- the value of a signal
module _ (packets : List ItmPacket) (packet : ItmPacket) where
  abbrev told : ℕ → List ItmPacket → Option ℕ
  told number l = last_told number None (flat_map told_by l)

  told_push : (number : ℕ) →
      told number (packets ++ packet ∷ []) ≡ last_told number (told number packets) (told_by packet)
  told_push number =
      ap (last_told number None)
      (flat_map-append told_by packets (packet ∷ [])
      ∙ ap (λ (l : List (ℕ × ℕ)). flat_map told_by packets ++ l) (append-nil (told_by packet)))
      ∙ told_append number None (flat_map told_by packets) (told_by packet)

  pub value_push : (number : ℕ) → value_after (packets ++ packet ∷ []) number
      ≡ value_next packet number (value_after (up_to_stamp packets) number) (value_after packets number)
  value_push number = by (number == 39) where
    by : (t : Bool) → cond t (lost_in (packets ++ packet ∷ [])) (told number (packets ++ packet ∷ []))
        ≡ cond t (cond (is_overflow packet)
        (toggled (cond t (lost_in (up_to_stamp packets)) (told number (up_to_stamp packets))))
        (cond t (lost_in packets) (told number packets)))
        (last_told number (cond t (lost_in packets) (told number packets)) (told_by packet))
    by true = lost_push packets packet
    by false = told_push number

-- which a local timestamp leaves as it is
pub value_stamp : (packets : List ItmPacket) (lateness : Lateness) (delta number : ℕ) →
    value_after (packets ++ Local lateness delta ∷ []) number ≡ value_after packets number
value_stamp packets lateness delta number =
    value_push packets (Local lateness delta) number ∙ by (number == 39) where
      by : (t : Bool) → cond t (value_after packets number) (value_after packets number) ≡ value_after packets number
      by true = refl
      by false = refl

-- up to the last local timestamp
any_local : (packets : List ItmPacket) (packet : ItmPacket) → is_local packet ≡ true →
    list_any is_local (packets ++ packet ∷ []) ≡ true
any_local [] packet h = ap (λ (t : Bool). t || false) h
any_local (p ∷ packets) packet h =
    ap (λ (t : Bool). is_local p || t) (any_local packets packet h) ∙ by (is_local p) where
      by : (t : Bool) → (t || true) ≡ true
      by true = refl
      by false = refl

any_other : (packets : List ItmPacket) (packet : ItmPacket) → is_local packet ≡ false →
    list_any is_local (packets ++ packet ∷ []) ≡ list_any is_local packets
any_other [] packet h = ap (λ (t : Bool). t || false) h
any_other (p ∷ packets) packet h = ap (λ (t : Bool). is_local p || t) (any_other packets packet h)

pub stamp_local : (packets : List ItmPacket) (packet : ItmPacket) → is_local packet ≡ true →
    up_to_stamp (packets ++ packet ∷ []) ≡ packets ++ packet ∷ []
stamp_local [] packet h = ap (λ (t : Bool). cond t (packet ∷ []) []) (any_local [] packet h)
stamp_local (p ∷ packets) packet h =
    ap (λ (t : Bool). cond t (p ∷ up_to_stamp (packets ++ packet ∷ [])) []) (any_local (p ∷ packets) packet h)
    ∙ ap (λ (l : List ItmPacket). p ∷ l) (stamp_local packets packet h)

pub stamp_other : (packets : List ItmPacket) (packet : ItmPacket) → is_local packet ≡ false →
    up_to_stamp (packets ++ packet ∷ []) ≡ up_to_stamp packets
stamp_other [] packet h = ap (λ (t : Bool). cond t (packet ∷ []) []) (any_other [] packet h)
stamp_other (p ∷ packets) packet h =
    ap (λ (t : Bool). cond t (p ∷ up_to_stamp (packets ++ packet ∷ [])) []) (any_other (p ∷ packets) packet h)
    ∙ ap (λ (l : List ItmPacket). cond (list_any is_local (p ∷ packets)) (p ∷ l) []) (stamp_other packets packet h)

-- the lines of values that are the same
pub changes_same : (old old2 new new2 : ℕ → Option ℕ) → ((n : ℕ) → old n ≡ old2 n) → ((n : ℕ) → new n ≡ new2 n) →
    changes old new ≡ changes old2 new2
unfolding changes
changes_same old old2 new new2 h k = same_changes 40 old old2 new new2 (λ n l. h n) (λ n l. k n)

pub not_local : (packet : ItmPacket) → ((lateness : Lateness) (delta : ℕ) → packet ≡ Local lateness delta → ⊥) →
    is_local packet ≡ false
not_local (Local lateness delta) h = absurd (h lateness delta refl)
not_local packet h = refl

-- what is no local timestamp tells no ticks
pub ticks_other : (packets : List ItmPacket) (packet : ItmPacket) → is_local packet ≡ false →
    flat_map deltas_in (packets ++ packet ∷ []) ≡ flat_map deltas_in packets
ticks_other packets packet h =
    deltas_push packets packet ∙ ap (λ (l : List ℕ). flat_map deltas_in packets ++ l) (none packet h)
    ∙ append-nil (flat_map deltas_in packets) where
      none : (p : ItmPacket) → is_local p ≡ false → deltas_in p ≡ []
      none (Local lateness delta) h = cc
      none p h = refl

-- The values that packets tell fit their signals, and what is known stays known.
use Rattle.std.proofs.Common.{◌≡◌, ℕ, ◌+◌, ◌^◌, ◌<◌, List, [], ◌∷◌, ◌++◌, refl, sym, ◌∙◌, ap, arith, subst}
use Rattle.std.proofs.Common.{Bool, true, false, cond, Option, None, Some, inl, inr, flat_map}
use Rattle.std.specs.Prelude.{◌==◌, ◌%◌}
use Rattle.std.specs.List.{AllByRecursion, list_any}
use Rattle.std.proofs.lemmas.Bool.{cases_eq}
use Rattle.std.proofs.lemmas.Bool.Decides.{nat_tests}
use Rattle.std.proofs.lemmas.Grind.{flat_map-append}
use Rattle.itm_grammar.specs.declared.packet.Size.{Size}
use Rattle.itm_grammar.specs.declared.packet.Size.TheVariants.{One, Two, Four}
use Rattle.itm_grammar.specs.Spelling.{byte_count}
use Rattle.dwt_packets.specs.declared.item.DwtItem.TheVariants.{Counters, MatchPc, MatchAddress, Other}
use Rattle.value_dump.specs.Names.{DwtItem, Exception, Sample, Asleep, Read, Written, Enter, Exit, Return, IsInRange}
use Rattle.value_dump.specs.Names.{ItmPacket, Software, Hardware, IsProper, name}
use Rattle.value_dump.specs.Dump.{up_to_stamp}
use Rattle.value_dump.specs.Signals.{is_bit, is_local, last_told, losses, told_by, told_by_item, value_after}
use Rattle.value_dump.proofs.Packets.{told_append}
use Rattle.value_dump.proofs.ReadLines.{bound}
use Rattle.value_dump.proofs.ToldValues.{means_proper}

-- a value fits a signal, if it is known
abbrev pub Fits : ℕ → Option ℕ → Type 0
Fits number None = Unit {0}
Fits number (Some value) = value < bound number

-- and each value that is told the signal that it is told of
abbrev AllFit : List (ℕ × ℕ) → Type 0
AllFit told = AllByRecursion (λ (t : ℕ × ℕ). t.1 < bound t.0) told

fit_more : (xs ys : List (ℕ × ℕ)) → AllFit xs → AllFit ys → AllFit (xs ++ ys)
fit_more [] ys h k = k
fit_more (x ∷ xs) ys h k = (h.0, fit_more xs ys h.1 k)

fits_told : (number : ℕ) (known : Option ℕ) (told : List (ℕ × ℕ)) → Fits number known → AllFit told →
    Fits number (last_told number known told)
fits_told number known [] h k = h
fits_told number known (t ∷ told) h k = fits_told number (cond (t.0 == number) (Some t.1) known) told here k.1 where
  here : Fits number (cond (t.0 == number) (Some t.1) known)
  here = elim (cases_eq t.0 number) [
    | inl e ↦ subst (λ (b : Bool). Fits number (cond b (Some t.1) known))
        (let f : true ≡ (t.0 == number) = grind (arith, nat_tests) in f)
        (subst (λ (n : ℕ). t.1 < bound n) e k.0)
    | inr d ↦ subst (λ (b : Bool). Fits number (cond b (Some t.1) known))
        (let f : false ≡ (t.0 == number) = grind (arith, nat_tests) in f) h
  ]

-- a signal of 32 bits
wide : (number value : ℕ) → is_bit number ≡ false → value < 2 ^ 32 → value < bound number
wide number value e h = subst (λ (b : Bool). value < cond b 2 (2 ^ 32)) (sym e) h

sized : (size : Size) (value : ℕ) → value < 256 ^ byte_count size → value < 2 ^ 32
sized One value h = omega (arith, h)
sized Two value h = omega (arith, h)
sized Four value h = omega (arith, h)

port_wide : (n : ℕ) → n < 32 → is_bit (3 + n) ≡ false
port_wide n h = grind (arith, nat_tests)

cmp_wide : (n : ℕ) → n < 4 → is_bit (35 + n) ≡ false
cmp_wide n h = grind (arith, nat_tests)

item_fits : (item : DwtItem) → IsInRange item → AllFit (told_by_item item)
item_fits (Counters counters) h = tt
item_fits (Exception number Enter) h = (omega (arith, h), tt)
item_fits (Exception number Exit) h = tt
item_fits (Exception number Return) h = (omega (arith, h), tt)
item_fits (Sample pc) h = (h, (omega arith, tt))
item_fits Asleep h = (omega arith, tt)
item_fits (MatchPc comparator pc) h = tt
item_fits (MatchAddress comparator low) h = tt
item_fits (Read comparator size value) h =
    (wide (35 + comparator) value (cmp_wide comparator h.0) (sized size value h.1), tt)
item_fits (Written comparator size value) h =
    (wide (35 + comparator) value (cmp_wide comparator h.0) (sized size value h.1), tt)
item_fits (Other disc size value) h = tt

packet_fits : (packet : ItmPacket) → IsProper packet → AllFit (told_by packet)
packet_fits (Software number size value) h =
    (wide (3 + number) value (port_wide number h.0) (sized size value h.1), tt)
packet_fits (Hardware disc size value) h =
    item_fits (name disc size value) (means_proper (Hardware disc size value) disc size value refl h)
packet_fits packet h = tt

packets_fit : (packets : List ItmPacket) → AllByRecursion IsProper packets → AllFit (flat_map told_by packets)
packets_fit [] h = tt
packets_fit (packet ∷ packets) h =
    fit_more (told_by packet) (flat_map told_by packets) (packet_fits packet h.0) (packets_fit packets h.1)

pub fits_after : (packets : List ItmPacket) → AllByRecursion IsProper packets → (number : ℕ) →
    Fits number (value_after packets number)
fits_after packets h number = elim (cases_eq number 39) [
  | inl e ↦ subst (λ (n : ℕ). Fits n (value_after packets n)) (sym e) lost
  | inr d ↦ subst (λ (b : Bool).
      Fits number (cond b (Some (losses packets % 2)) (last_told number None (flat_map told_by packets))))
      (let f : false ≡ (number == 39) = grind (arith, nat_tests) in f)
      (fits_told number None (flat_map told_by packets) tt (packets_fit packets h))
] where
  lost : losses packets % 2 < 2
  lost = omega arith

-- the packets up to the last local timestamp are the first of all
prefix : (packets : List ItmPacket) → (rest : List ItmPacket) × (packets ≡ up_to_stamp packets ++ rest)
prefix [] = ([], refl)
prefix (packet ∷ packets) = by (list_any is_local (packet ∷ packets)) (prefix packets) where
  by : (t : Bool) → (rest : List ItmPacket) × (packets ≡ up_to_stamp packets ++ rest) →
      (rest : List ItmPacket) × (packet ∷ packets ≡ cond t (packet ∷ up_to_stamp packets) [] ++ rest)
  by true k = (k.0, ap (λ (l : List ItmPacket). packet ∷ l) k.1)
  by false k = (packet ∷ packets, refl)

never_unknown : (number value : ℕ) (told : List (ℕ × ℕ)) → last_told number (Some value) told ≡ None → ⊥
never_unknown number value [] e = cc
never_unknown number value (t ∷ told) e = by (t.0 == number) (λ v. never_unknown number v told) e where
  by : (b : Bool) → ((v : ℕ) → last_told number (Some v) told ≡ None → ⊥) →
      last_told number (cond b (Some t.1) (Some value)) told ≡ None → ⊥
  by true h e = h t.1 e
  by false h e = h value e

unknown_before : (number : ℕ) (known : Option ℕ) (told : List (ℕ × ℕ)) → last_told number known told ≡ None →
    known ≡ None
unknown_before number None told e = refl
unknown_before number (Some value) told e = absurd (never_unknown number value told e)

pub unknown_at_stamp : (packets : List ItmPacket) (number : ℕ) → value_after packets number ≡ None →
    value_after (up_to_stamp packets) number ≡ None
unknown_at_stamp packets number = by (number == 39) where
  by : (t : Bool) → cond t (Some (losses packets % 2)) (last_told number None (flat_map told_by packets)) ≡ None →
      cond t (Some (losses (up_to_stamp packets) % 2)) (last_told number None (flat_map told_by (up_to_stamp packets)))
      ≡ None
  by true e = cc
  by false e =
      let k = prefix packets in
      let parts : last_told number None (flat_map told_by packets)
      ≡ last_told number (last_told number None (flat_map told_by (up_to_stamp packets))) (flat_map told_by k.0) =
      ap (λ (l : List ItmPacket). last_told number None (flat_map told_by l)) k.1
      ∙ ap (last_told number None) (flat_map-append told_by (up_to_stamp packets) k.0)
      ∙ told_append number None (flat_map told_by (up_to_stamp packets)) (flat_map told_by k.0) in
      unknown_before number (last_told number None (flat_map told_by (up_to_stamp packets))) (flat_map told_by k.0)
      (sym parts ∙ e)

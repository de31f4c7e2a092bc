-- What hardware packets tell of signals.
use Rattle.std.proofs.Common.{◌≡◌, ℕ, ◌+◌, ◌<◌, refl, ◌∙◌, ap, subst, arith, [], ◌∷◌, Option, Some}
use Rattle.std.proofs.Common.{Bool, true, false, cond, inl, inr}
use Rattle.std.specs.Prelude.{◌==◌}
use Rattle.std.proofs.lemmas.Bool.{cases_eq}
use Rattle.std.proofs.lemmas.Bool.Decides.{nat_tests}
use Rattle.itm_grammar.specs.declared.packet.Size.{Size}
use Rattle.dwt_packets.specs.declared.item.DwtItem.TheVariants.{Counters, MatchPc, MatchAddress, Other}
use Rattle.dwt_packets.proofs.Inverses.{in_range}
use Rattle.value_dump.specs.Names.{DwtItem, Exception, Sample, Asleep, Read, Written, Enter, Exit, Return, IsInRange}
use Rattle.value_dump.specs.Names.{ItmPacket, Hardware, IsProper, name}
use Rattle.value_dump.specs.Signals.{last_told, told_by_item}
use Rattle.value_dump.specs.Telling.{value_next}

-- what a packet means has its numbers in their ranges
pub means_proper : (packet : ItmPacket) (disc : ℕ) (size : Size) (value : ℕ) → packet ≡ Hardware disc size value →
    IsProper packet → IsInRange (name disc size value)
means_proper packet disc size value e proper =
    let own : IsProper (Hardware disc size value) = subst IsProper e proper in
    in_range (name disc size value) (disc, size, value, own, refl)

-- no item tells of losses
never_lost : (number value : ℕ) (known : Option ℕ) → number < 39 → last_told 39 known ((number, value) ∷ []) ≡ known
never_lost number value known h =
    ap (λ (t : Bool). cond t (Some value) known) (let e : (number == 39) ≡ false = grind (arith, nat_tests) in e)

none_lost : (item : DwtItem) → IsInRange item → (known : Option ℕ) → last_told 39 known (told_by_item item) ≡ known
none_lost (Counters counters) h known = refl
none_lost (Exception number Enter) h known = refl
none_lost (Exception number Exit) h known = refl
none_lost (Exception number Return) h known = refl
none_lost (Sample pc) h known = refl
none_lost Asleep h known = refl
none_lost (MatchPc comparator pc) h known = refl
none_lost (MatchAddress comparator low) h known = refl
none_lost (Read comparator size value) h known = never_lost (35 + comparator) value known (omega (arith, h.0))
none_lost (Written comparator size value) h known = never_lost (35 + comparator) value known (omega (arith, h.0))
none_lost (Other disc size value) h known = refl

-- so a hardware packet tells of all signals as its item
pub item_next : (disc : ℕ) (size : Size) (value : ℕ) → IsInRange (name disc size value) → (number : ℕ)
    (stamped known : Option ℕ) → last_told number known (told_by_item (name disc size value))
    ≡ value_next (Hardware disc size value) number stamped known
item_next disc size value h number stamped known = elim (cases_eq number 39) [
  | inl e ↦ (
      ap (λ (n : ℕ). last_told n known (told_by_item (name disc size value))) e
      ∙ none_lost (name disc size value) h known
      ∙ ap (λ (t : Bool). cond t known (last_told number known (told_by_item (name disc size value))))
      (let k : true ≡ (number == 39) = grind (arith, nat_tests) in k)
      )
  | inr d ↦
      ap (λ (t : Bool). cond t known (last_told number known (told_by_item (name disc size value))))
      (let k : false ≡ (number == 39) = grind (arith, nat_tests) in k)
]

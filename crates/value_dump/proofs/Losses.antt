-- How many stretches between local timestamps have a loss, after one more packet.
use Rattle.std.proofs.Common.{◌≡◌, ℕ, ◌+◌, List, [], ◌∷◌, ◌++◌, refl, sym, ◌∙◌, ap, arith, Bool, true, false, cond}
use Rattle.std.specs.Prelude.{◌||◌, count_by}
use Rattle.std.specs.List.{list_any, onto_first, slice_split}
use Rattle.std.proofs.lemmas.List.Sums.{sum_by-cons}
use Rattle.value_dump.specs.Names.{ItmPacket, Overflow}
use Rattle.value_dump.specs.Dump.{up_to_stamp}
use Rattle.value_dump.specs.Signals.{is_local, is_overflow, losses}

abbrev one_if : Bool → ℕ
one_if is_lossy = cond is_lossy 1 0

abbrev is_lossy : List ItmPacket → Bool
is_lossy packets = list_any is_overflow packets

-- how many have one, where the first has one if this says so, or by its own packets
abbrev among : Bool → List (List ItmPacket) → ℕ
among had [] = one_if had
among had (first ∷ rest) = one_if (had || is_lossy first) + count_by is_lossy rest

-- the same of packets, one after the other
abbrev counted : Bool → List ItmPacket → ℕ
counted had [] = one_if had
counted had (packet ∷ packets) =
    cond (is_local packet) (one_if had + counted false packets) (counted (had || is_overflow packet) packets)

one_more : (had : Bool) (x : Bool) → (had || (x || false)) ≡ (had || x)
one_more true x = refl
one_more false true = refl
one_more false false = refl

none_more : (had : Bool) → (had || false) ≡ had
none_more true = refl
none_more false = refl

or_or : (a b c : Bool) → (a || (b || c)) ≡ ((a || b) || c)
or_or true b c = refl
or_or false b c = refl

among_first : (had : Bool) (packet : ItmPacket) (parts : List (List ItmPacket)) →
    among had (onto_first packet parts) ≡ among (had || is_overflow packet) parts
among_first had packet [] =
    let e = ap one_if (one_more had (is_overflow packet)) in
    let z : count_by is_lossy [] ≡ 0 = refl in
    omega (arith, e, z)
among_first had packet (first ∷ rest) =
    ap (λ (b : Bool). one_if b + count_by is_lossy rest) (or_or had (is_overflow packet) (is_lossy first))

among_none : (parts : List (List ItmPacket)) → count_by is_lossy parts ≡ among false parts
among_none [] = refl
among_none (first ∷ rest) = sum_by-cons (λ (part : List ItmPacket). one_if (is_lossy part)) first rest

in_order : (had : Bool) (packets : List ItmPacket) → among had (slice_split is_local packets) ≡ counted had packets
in_order true [] = refl
in_order false [] = refl
in_order had (packet ∷ packets) =
    by (is_local packet) (in_order false packets) (in_order (had || is_overflow packet) packets) where
      by : (t : Bool) → among false (slice_split is_local packets) ≡ counted false packets →
          among (had || is_overflow packet) (slice_split is_local packets)
          ≡ counted (had || is_overflow packet) packets →
          among had (cond t ([] ∷ slice_split is_local packets)
          (onto_first packet (slice_split is_local packets)))
          ≡ cond t (one_if had + counted false packets) (counted (had || is_overflow packet) packets)
      by true h k =
          ap (λ (b : Bool). one_if b + count_by is_lossy (slice_split is_local packets)) (none_more had)
          ∙ ap (λ (n : ℕ). one_if had + n) (among_none (slice_split is_local packets) ∙ h)
      by false h k = among_first had packet (slice_split is_local packets) ∙ k

losses_are : (packets : List ItmPacket) → losses packets ≡ counted false packets
losses_are packets = among_none (slice_split is_local packets) ∙ in_order false packets

-- a packet that is no loss leaves the count as it is
counted_other : (had : Bool) (packets : List ItmPacket) (packet : ItmPacket) → is_overflow packet ≡ false →
    counted had (packets ++ packet ∷ []) ≡ counted had packets
counted_other had [] packet h = by (is_local packet) where
  by : (t : Bool) → cond t (one_if had + 0) (one_if (had || is_overflow packet)) ≡ one_if had
  by true = omega arith
  by false = ap (λ (b : Bool). one_if (had || b)) h ∙ ap one_if (none_more had)
counted_other had (p ∷ packets) packet h =
    by (is_local p) (counted_other false packets packet h) (counted_other (had || is_overflow p) packets packet h) where
      by : (t : Bool) → counted false (packets ++ packet ∷ []) ≡ counted false packets →
          counted (had || is_overflow p) (packets ++ packet ∷ []) ≡ counted (had || is_overflow p) packets →
          cond t (one_if had + counted false (packets ++ packet ∷ []))
          (counted (had || is_overflow p) (packets ++ packet ∷ []))
          ≡ cond t (one_if had + counted false packets) (counted (had || is_overflow p) packets)
      by true a b = ap (λ (n : ℕ). one_if had + n) a
      by false a b = b

-- a loss makes it that of the packets up to the last local timestamp, and one more
no_stamp : (packets : List ItmPacket) → list_any is_local packets ≡ false → up_to_stamp packets ≡ []
no_stamp [] h = refl
no_stamp (packet ∷ packets) h = ap (λ (t : Bool). cond t (packet ∷ up_to_stamp packets) []) h

counted_loss : (had : Bool) (packets : List ItmPacket) →
    counted had (packets ++ Overflow ∷ []) ≡ 1 + cond (list_any is_local packets) (counted had (up_to_stamp packets)) 0
counted_loss true [] = refl
counted_loss false [] = refl
counted_loss had (packet ∷ packets) =
    ap (λ (n : ℕ). cond (is_local packet) (one_if had + n)
    (counted (had || is_overflow packet) (packets ++ Overflow ∷ []))) (counted_loss false packets)
    ∙ ap (λ (n : ℕ). cond (is_local packet)
    (one_if had + (1 + cond (list_any is_local packets) (counted false (up_to_stamp packets)) 0)) n)
    (counted_loss (had || is_overflow packet) packets)
    ∙ first (is_local packet) (list_any is_local packets) refl
    ∙ sym (ap (λ (n : ℕ). 1 + n) (only (is_local packet || list_any is_local packets))) where
      only : (t : Bool) → cond t (counted had (cond t (packet ∷ up_to_stamp packets) [])) 0
          ≡ cond t (counted had (packet ∷ up_to_stamp packets)) 0
      only true = refl
      only false = refl

      first : (t h : Bool) → h ≡ list_any is_local packets →
          cond t (one_if had + (1 + cond h (counted false (up_to_stamp packets)) 0))
          (1 + cond h (counted (had || is_overflow packet) (up_to_stamp packets)) 0)
          ≡ 1 + cond (t || h) (cond t (one_if had + counted false (up_to_stamp packets))
          (counted (had || is_overflow packet) (up_to_stamp packets))) 0
      first true true e = omega arith
      first true false e =
          let z : counted false (up_to_stamp packets) ≡ 0 = ap (counted false) (no_stamp packets (sym e)) in
          omega (arith, z)
      first false true e = refl
      first false false e = refl

pub other_losses : (packets : List ItmPacket) (packet : ItmPacket) → is_overflow packet ≡ false →
    losses (packets ++ packet ∷ []) ≡ losses packets
other_losses packets packet h =
    losses_are (packets ++ packet ∷ []) ∙ counted_other false packets packet h ∙ sym (losses_are packets)

pub one_loss : (packets : List ItmPacket) → losses (packets ++ Overflow ∷ []) ≡ losses (up_to_stamp packets) + 1
one_loss packets =
    losses_are (packets ++ Overflow ∷ []) ∙ counted_loss false packets
    ∙ by (list_any is_local packets) refl ∙ ap (λ (n : ℕ). n + 1) (sym (losses_are (up_to_stamp packets))) where
      by : (t : Bool) → t ≡ list_any is_local packets →
          1 + cond t (counted false (up_to_stamp packets)) 0 ≡ counted false (up_to_stamp packets) + 1
      by true e = omega arith
      by false e =
          let z : counted false (up_to_stamp packets) ≡ 0 = ap (counted false) (no_stamp packets (sym e)) in
          omega (arith, z)

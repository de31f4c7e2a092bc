-- What ITM packets weigh that are read of some bytes: so much for each byte at most, where a packet of few ticks for
-- its bytes weighs no more than these bytes.
use Rattle.std.proofs.Common.{◌≡◌, ◌≤◌, ◌<◌, ℕ, ◌+◌, ◌*◌, ◌%◌, ◌^◌, List, [], ◌∷◌, length, refl, ap, arith, suc}
use Rattle.std.proofs.Common.{zero, inl, inr, ◌∙◌, Bool, true, false, cond, Option, None, Some, length-append}
use Rattle.std.specs.Prelude.{◌==◌, ◌&&◌, nat_lt, nat_le, sum}
use Rattle.std.proofs.lemmas.Bool.Decides.{nat_tests}
use Rattle.std.proofs.Math.Nat.{mul-le-mul_right, suc-mul}
use Rattle.trace_values.specs.declared.fault.Reason.{Reason}
use Rattle.trace_values.specs.declared.next.Next.{Next}
use Rattle.trace_values.specs.declared.next.Next.TheVariants.{Go, End, Fail}
use Rattle.trace_values.specs.Placed.{Place, Placed}
use Rattle.trace_values.specs.Reading.{Progress, with_unit, advance, progress_from, progress, unread}
use Rattle.trace_values.specs.Stream.{Said, Notice, Kept, Stream, kept}
use Rattle.trace_values.specs.Walk.{by_unit}
use Rattle.itm_grammar.specs.declared.header.Class.{Class}
use Rattle.itm_grammar.specs.declared.header.Class.TheVariants.{Zero, Overflow as Overflowed, Source, LocalShort}
use Rattle.itm_grammar.specs.declared.header.Class.TheVariants.{LocalLong, GlobalFirst as First}
use Rattle.itm_grammar.specs.declared.header.Class.TheVariants.{GlobalSecond as Second, Extension as Extended, Reserved}
use Rattle.itm_grammar.specs.declared.packet.ItmPacket.{ItmPacket}
use Rattle.itm_grammar.specs.declared.packet.Size.{Size}
use Rattle.itm_grammar.specs.declared.partial.Partial.{Partial}
use Rattle.itm_grammar.specs.declared.partial.Partial.TheVariants.{Header, Zeros, Payload}
use Rattle.itm_grammar.specs.Header.{class_of}
use Rattle.itm_grammar.specs.Rule.{rule, begin, count_of, source, second_stamp, another_follows}
use Rattle.itm_grammar.proofs.Deciding.{goes_under}
use Rattle.itm_grammar.proofs.Fitting.{more_groups}
use Rattle.itm_grammar.proofs.Headers.{header_is}
use Rattle.itm_codec.specs.Reading.{packets_in}
use Rattle.itm_codec.proofs.Answering.{hunt_is}
use Rattle.capture_actions.specs.Remarks.{deltas_in}
use Rattle.capture_actions.proofs.Totals.{total, total-append}

-- The most ticks that a byte tells: a long local timestamp of five bytes tells less than 2^28.
abbrev pub TICKS : ℕ
TICKS = 53687091

-- a packet of this many bytes tells few ticks
abbrev pub TellsFew : ℕ → ItmPacket → Type 0
TellsFew bytes p = (1 ≤ bytes) × (sum (deltas_in p) ≤ bytes * TICKS)

-- in a state that is reached, a long local timestamp has fewer than four groups so far, and its number fits these
abbrev Reached : Partial → Type 0
Reached (Payload (LocalLong lateness) count value) = (count < 4) × (value < 128 ^ count)
Reached s = Unit {0}

-- So it is after a step that is one more byte than these, and a packet that ends tells few ticks.
abbrev Holds : ℕ → Next Partial ItmPacket → Type 0
Holds n (Go s) = Reached s × (count_of s ≤ n + 1)
Holds n (End p) = TellsFew (n + 1) p
Holds n (Fail e) = Unit {0}

either : (n : ℕ) (t : Bool) (x y : Next Partial ItmPacket) → (t ≡ true → Holds n x) → Holds n y → Holds n (cond t x y)
either n true x y h k = h refl
either n false x y h k = k

under_seven : (delta : ℕ) → (nat_lt 0 delta && nat_lt delta 7) ≡ true → delta < 7
under_seven delta e = grind (arith, nat_tests)

begins : (b : ℕ) (c : Class) → class_of b ≡ c → Holds 0 (begin c)
begins b Zero e = (tt, omega arith)
begins b Overflowed e = (omega arith, omega arith)
begins b (Source hardware number size) e = (tt, omega arith)
begins b (LocalShort delta) e =
    let k = under_seven delta (header_is b (LocalShort delta) e (λ r. cc)).1 in (omega arith, omega arith)
begins b (LocalLong lateness) e = ((omega arith, omega arith), omega arith)
begins b First e = (tt, omega arith)
begins b Second e = (tt, omega arith)
begins b (Extended false dwt low) e = (omega arith, omega arith)
begins b (Extended true dwt low) e = (tt, omega arith)
begins b Reserved e = tt

source_tells : (n : ℕ) (hardware : Bool) (number : ℕ) (size : Size) (value : ℕ) →
    TellsFew (n + 1) (source hardware number size value)
source_tells n true number size value = (omega arith, omega arith)
source_tells n false number size value = (omega arith, omega arith)

second_tells : (n count value : ℕ) → Holds n (second_stamp count value)
second_tells n count value =
    either n (count == 4) _ _ (λ t. (omega arith, omega arith))
    (either n (count == 6) _ _ (λ t. (omega arith, omega arith)) tt)

-- a number of groups, which with the header are one byte more
few_groups : (n v : ℕ) → n < 4 → v < 128 ^ (n + 1) → v ≤ (n + 2) * TICKS
few_groups zero v h k = omega arith
few_groups (suc zero) v h k = omega arith
few_groups (suc (suc zero)) v h k = omega arith
few_groups (suc (suc (suc zero))) v h k = omega arith
few_groups (suc (suc (suc (suc n)))) v h k = absurd (omega arith)

goes : (c : Class) (n v b : ℕ) → Reached (Payload c n v) → Holds (n + 1) (rule (Payload c n v) b)
goes Zero n v b h = either (n + 1) (another_follows Zero n b) _ _ (λ t. (tt, omega arith)) tt
goes Overflowed n v b h = either (n + 1) (another_follows Overflowed n b) _ _ (λ t. (tt, omega arith)) tt
goes (Source hardware number size) n v b h =
    either (n + 1) (another_follows (Source hardware number size) n b) _ _ (λ t. (tt, omega arith))
    (source_tells (n + 1) hardware number size (v + b * 256 ^ n))
goes (LocalShort delta) n v b h =
    either (n + 1) (another_follows (LocalShort delta) n b) _ _ (λ t. (tt, omega arith)) tt
goes (LocalLong lateness) n v b h =
    let k = more_groups n v (b % 128) (omega arith) h.1 (omega arith) in
    let few = few_groups n (v + b % 128 * 128 ^ n) h.0 k.0 in
    either (n + 1) (another_follows (LocalLong lateness) n b) _ _
    (λ t. ((goes_under (LocalLong lateness) n b t, k.0), omega arith))
    (either (n + 1) (nat_lt b 128) _ _ (λ t. (omega arith, omega arith)) tt)
goes First n v b h =
    either (n + 1) (another_follows First n b) _ _ (λ t. (tt, omega arith))
    (either (n + 1) (nat_lt b 128) _ _ (λ t. (omega arith, omega arith)) tt)
goes Second n v b h =
    either (n + 1) (another_follows Second n b) _ _ (λ t. (tt, omega arith))
    (either (n + 1) (nat_lt b 128) _ _ (λ t. second_tells (n + 1) (n + 1) (v + b % 128 * 128 ^ n)) tt)
goes (Extended more dwt low) n v b h =
    either (n + 1) (another_follows (Extended more dwt low) n b) _ _ (λ t. (tt, omega arith))
    (omega arith, omega arith)
goes Reserved n v b h = either (n + 1) (another_follows Reserved n b) _ _ (λ t. (tt, omega arith)) tt

step_holds : (s : Partial) (b : ℕ) → Reached s → Holds (count_of s) (rule s b)
step_holds Header b h = begins b (class_of b) refl
step_holds (Zeros count) b h =
    either count (b == 0x00) _ _ (λ t. (tt, omega arith))
    (either count (b == 0x80 && nat_le 5 count) _ _ (λ t. (omega arith, omega arith)) tt)
step_holds (Payload c n v) b h = goes c n v b h

-- Where each packet of few ticks weighs at most this much for each of its bytes, so do all that are read.
module _ (w : ItmPacket → ℕ) (most : ℕ) (small : (n : ℕ) (p : ItmPacket) → TellsFew n p → w p ≤ n * most) where
  abbrev pub weighed : List (ItmPacket × Place) → ℕ
  weighed items = total (λ x. w x.0) items

  -- with the bytes of the unfinished packet
  abbrev owed : Progress Partial ItmPacket → ℕ
  owed p = weighed p.items + count_of p.state * most

  -- a byte ends at most one packet
  one_more : (p : Progress Partial ItmPacket) (b : Placed) (n : Next Partial ItmPacket) (f : Option (Place × Reason)) →
      Reached p.state → Holds (count_of p.state) n →
      Reached (with_unit Header p b n f).state × (owed (with_unit Header p b n f) ≤ owed p + most)
  one_more p b (Go s) None r h =
      let k : count_of s * most ≤ (count_of p.state + 1) * most = mul-le-mul_right most h.1 in
      let e : (count_of p.state + 1) * most ≡ count_of p.state * most + most = grind arith in
      (h.0, omega arith)
  one_more p b (End v) None r h =
      let k = small (count_of p.state + 1) v h in
      let e : (count_of p.state + 1) * most ≡ count_of p.state * most + most = grind arith in
      let a = total-append (λ (x : ItmPacket × Place). w x.0) p.items ((v, b.place) ∷ []) in
      (tt, omega arith)
  one_more p b (Fail e) None r h = (r, omega arith)
  one_more p b n (Some f) r h = (r, omega arith)

  read_few : (u : List Placed) (p : Progress Partial ItmPacket) → Reached p.state →
      owed (progress_from (by_unit rule) Header p u) ≤ owed p + length u * most
  read_few [] p r = omega arith
  read_few (b ∷ u) p r =
      let one = one_more p b (rule p.state b.unit) p.fault r (step_holds p.state b.unit r) in
      let rest = read_few u (advance (by_unit rule) Header p b) one.0 in
      let least = one.1 in
      let e = suc-mul (length u) most in
      omega arith

  -- what a source says weighs as much as its packets
  abbrev pub plain : Said ItmPacket × Place → ℕ
  plain (Notice skipped, place) = 0
  plain (Kept p, place) = w p

  kept_weighs : (items : List (ItmPacket × Place)) → total plain (kept items) ≡ weighed items
  kept_weighs [] = refl
  kept_weighs (x ∷ items) = ap (λ (n : ℕ). w x.0 + n) (kept_weighs items)

  -- of the bytes of an ITM source, from the first on or in a hunt
  pub itm_few : (hunts : Bool) (u : List Placed) → total plain (packets_in hunts u).given ≤ length u * most
  itm_few false u =
      let f = read_few u (unread Header) tt in
      let k = kept_weighs (progress (by_unit rule) Header u).items in
      omega arith
  itm_few true u = elim (hunt_is u) [
    | inl h ↦ (
        let e : total plain (packets_in true u).given ≡ 0 =
        ap (λ (s : Stream ItmPacket). total plain s.given) h.1 in
        omega arith)
    | inr h ↦ (
        let e : total plain (packets_in true u).given
        ≡ 0 + total plain (kept (progress (by_unit rule) Header h.1).items) =
        ap (λ (s : Stream ItmPacket). total plain s.given) h.5 in
        let f = read_few h.1 (unread Header) tt in
        let k = kept_weighs (progress (by_unit rule) Header h.1).items in
        let n = ap length h.3 ∙ length-append h.0 h.1 in
        let l : length h.1 ≤ length u = omega arith in
        let m : length h.1 * most ≤ length u * most = mul-le-mul_right most l in
        omega arith)
  ]

-- A packet's item has that packet, and its numbers are in their ranges.
use Rattle.std.proofs.Common.{◌≡◌, ℕ, zero, suc, ◌+◌, ◌*◌, ◌^◌, ◌<◌, Bool, true, false, refl, subst, ◌∙◌, arith}
use Rattle.std.specs.Prelude.{IsTrue, ◌↔◌, nat_lt, ◌==◌, ◌&&◌}
use Rattle.std.proofs.lemmas.Bool.Decides.{nat_tests}
use Rattle.std.proofs.lemmas.Bool.{eqb-true}
use Rattle.itm_grammar.specs.declared.packet.Size.{Size}
use Rattle.itm_grammar.specs.declared.packet.Size.TheVariants.{One, Two, Four}
use Rattle.itm_grammar.specs.Spelling.{byte_count}
use Rattle.dwt_packets.specs.declared.item.Change.{Change}
use Rattle.dwt_packets.specs.declared.item.Change.TheVariants.{Enter, Exit, Return}
use Rattle.dwt_packets.specs.declared.item.DwtItem.{DwtItem}
use Rattle.dwt_packets.specs.declared.item.DwtItem.TheVariants.{Counters, Exception, Sample, Asleep, MatchPc, MatchAddress, Read, Written, Other}
use Rattle.dwt_packets.specs.Table.{Row, comparator_rows, fits, NoRowFits, name, is_other, is_size, bits, change_of}
use Rattle.dwt_packets.specs.Packet.{packet, IsProperItem, IsInRange, change_bits}
use Rattle.dwt_packets.proofs.FirstRow.{Each, each_comparator, by_table, no_row}

-- a size is the one that the test has
same_size : (z s : Size) → is_size z s ≡ true → s ≡ z
same_size One One e = refl
same_size One Two e = cc
same_size One Four e = cc
same_size Two One e = cc
same_size Two Two e = refl
same_size Two Four e = cc
same_size Four One e = cc
same_size Four Two e = cc
same_size Four Four e = refl

-- what it is to fit a row
fitting : (d n : ℕ) (t u : Bool) → (d == n && (t && u)) ≡ true → (d ≡ n) × (t ≡ true) × (u ≡ true)
fitting d n true true e = grind (arith, nat_tests)
fitting d n true false e = grind (arith, nat_tests)
fitting d n false u e = grind (arith, nat_tests)

-- which values are an exception packet's
abbrev is_exception : ℕ → Bool
is_exception v = bits 15 14 v == 0 && (bits 11 9 v == 0 && nat_lt 0 (bits 13 12 v))

-- the bits of an exception packet
reserved_and_change : (a b f : ℕ) → (a == 0 && (b == 0 && nat_lt 0 f)) ≡ true → (a ≡ 0) × (b ≡ 0) × (0 < f)
reserved_and_change a b f e = grind (arith, nat_tests)

change_again : (f : ℕ) → 0 < f → f < 4 → change_bits (change_of f) ≡ f
change_again zero g h = absurd (omega arith)
change_again (suc zero) g h = refl
change_again (suc (suc zero)) g h = refl
change_again (suc (suc (suc zero))) g h = refl
change_again (suc (suc (suc (suc f)))) g h = absurd (omega arith)

-- it is put together again from its number and its change
exception_again : (v : ℕ) → v < 256 ^ 2 → is_exception v ≡ true → 2 ^ 12 * change_bits (change_of (bits 13 12 v)) + bits 8 0 v ≡ v
exception_again v h e =
    let k = reserved_and_change (bits 15 14 v) (bits 11 9 v) (bits 13 12 v) e in
    rw (change_again (bits 13 12 v) k.2 (omega arith)) (omega arith)

-- an item of a packet: it has that packet, and is in its range
abbrev pub Inverse : ℕ → Size → ℕ → DwtItem → Type 0
Inverse d s v item = (packet item ≡ (d, s, v)) × IsInRange item

-- the item of a row that fits is one
abbrev Inverts : ℕ → Size → ℕ → Row → Type 0
Inverts d s v row = fits d s v row ≡ true → Inverse d s v (row.item s v)

fits_in : (s z : Size) (v : ℕ) → s ≡ z → v < 256 ^ byte_count s → v < 256 ^ byte_count z
fits_in s z v e h = subst (λ z. v < 256 ^ byte_count z) e h

-- an item whose packet is that of its row
of_row : (d n : ℕ) (s z : Size) (v : ℕ) (item : DwtItem) → packet item ≡ (n, z, v) → d ≡ n → s ≡ z → IsInRange item → Inverse d s v item
of_row d n s z v item p e f r = (p ∙ rw (e, f) refl, r)

comparator_inverse : (d : ℕ) (s : Size) (v : ℕ) → v < 256 ^ byte_count s → (c : ℕ) → c < 4 →
    Each (Inverts d s v) (comparator_rows c)
comparator_inverse d s v h c k = (
  λ e. let f = fitting d (8 + 2 * c) (is_size Four s) true e in
      let z = same_size Four s f.1 in of_row d (8 + 2 * c) s Four v (MatchPc c v) refl f.0 z (k, fits_in s Four v z h),
  (
    λ e. let f = fitting d (9 + 2 * c) (is_size Two s) true e in
        let z = same_size Two s f.1 in of_row d (9 + 2 * c) s Two v (MatchAddress c v) refl f.0 z (k, fits_in s Two v z h),
    (
      λ e. let f = fitting d (16 + 2 * c) true true e in of_row d (16 + 2 * c) s s v (Read c s v) refl f.0 refl (k, h),
      (
        λ e. let f = fitting d (17 + 2 * c) true true e in of_row d (17 + 2 * c) s s v (Written c s v) refl f.0 refl (k, h),
        tt,
      ),
    ),
  ),
)

pub inverse : (d : ℕ) (s : Size) (v : ℕ) → d < 32 → v < 256 ^ byte_count s → Inverse d s v (name d s v)
inverse d s v g h = by_table (Inverse d s v) d s v
    (counters, (exceptions, (samples, (sleeps, each_comparator (Inverts d s v) (comparator_inverse d s v h)))))
    (λ none. (refl, ((g, h), none)))
  where
    counters : (d == 0 && (is_size One s && (bits 7 6 v == 0))) ≡ true → Inverse d s v (Counters v)
    counters e =
        let f = fitting d 0 (is_size One s) (bits 7 6 v == 0) e in
        let z = same_size One s f.1 in
        let k : v < 256 ^ 1 = fits_in s One v z h in
        let n : bits 7 6 v ≡ 0 = eqb-true (bits 7 6 v) 0 f.2 in
        of_row d 0 s One v (Counters v) refl f.0 z (omega arith)

    exceptions : (d == 1 && (is_size Two s && is_exception v)) ≡ true → Inverse d s v (Exception (bits 8 0 v) (change_of (bits 13 12 v)))
    exceptions e =
        let f = fitting d 1 (is_size Two s) (is_exception v) e in
        let z = same_size Two s f.1 in
        let k : v < 256 ^ 2 = fits_in s Two v z h in
        of_row d 1 s Two v (Exception (bits 8 0 v) (change_of (bits 13 12 v))) (rw (exception_again v k f.2) refl) f.0 z (omega arith)

    samples : (d == 2 && (is_size Four s && true)) ≡ true → Inverse d s v (Sample v)
    samples e =
        let f = fitting d 2 (is_size Four s) true e in
        let z = same_size Four s f.1 in of_row d 2 s Four v (Sample v) refl f.0 z (fits_in s Four v z h)

    sleeps : (d == 2 && (is_size One s && (v == 0))) ≡ true → Inverse d s v Asleep
    sleeps e =
        let f = fitting d 2 (is_size One s) (v == 0) e in
        let z = same_size One s f.1 in
        let n = eqb-true v 0 f.2 in of_row d 2 s One v Asleep (rw n refl) f.0 z tt

-- what holds of each comparator
each_of_four : (P : ℕ → Type 0) → P 0 × P 1 × P 2 × P 3 → (c : ℕ) → c < 4 → P c
each_of_four P p zero h = p.0
each_of_four P p (suc zero) h = p.1
each_of_four P p (suc (suc zero)) h = p.2
each_of_four P p (suc (suc (suc zero))) h = p.3
each_of_four P p (suc (suc (suc (suc c)))) h = absurd (omega arith)

-- the item of a comparator's packet
match_pc : (v c : ℕ) → c < 4 → name (8 + 2 * c) Four v ≡ MatchPc c v
unfolding name
match_pc v = each_of_four (λ c. name (8 + 2 * c) Four v ≡ MatchPc c v) (refl, refl, refl, refl)

match_address : (v c : ℕ) → c < 4 → name (9 + 2 * c) Two v ≡ MatchAddress c v
unfolding name
match_address v = each_of_four (λ c. name (9 + 2 * c) Two v ≡ MatchAddress c v) (refl, refl, refl, refl)

read : (s : Size) (v c : ℕ) → c < 4 → name (16 + 2 * c) s v ≡ Read c s v
unfolding name
read s v = each_of_four (λ c. name (16 + 2 * c) s v ≡ Read c s v) (refl, refl, refl, refl)

written : (s : Size) (v c : ℕ) → c < 4 → name (17 + 2 * c) s v ≡ Written c s v
unfolding name
written s v = each_of_four (λ c. name (17 + 2 * c) s v ≡ Written c s v) (refl, refl, refl, refl)

counters_of : (v : ℕ) → v < 2 ^ 6 → name 0 One v ≡ Counters v
unfolding name
counters_of v h = grind (arith, nat_tests)

exception_of : (n : ℕ) (change : Change) → n < 2 ^ 9 → name 1 Two (2 ^ 12 * change_bits change + n) ≡ Exception n change
unfolding name
exception_of n Enter h = grind (arith, nat_tests)
exception_of n Exit h = grind (arith, nat_tests)
exception_of n Return h = grind (arith, nat_tests)

sample_of : (v : ℕ) → name 2 Four v ≡ Sample v
unfolding name
sample_of v = refl

asleep_of : name 2 One 0 ≡ Asleep
unfolding name
asleep_of = refl

-- an item in its range is that of its packet
pub name_of_packet : (item : DwtItem) → IsInRange item → let p = packet item in (p.0 < 32) × (p.2 < 256 ^ byte_count p.1) × (name p.0 p.1 p.2 ≡ item)
name_of_packet (Counters v) r = (omega arith, omega arith, counters_of v r)
name_of_packet (Exception n Enter) r = (omega arith, omega arith, exception_of n Enter r)
name_of_packet (Exception n Exit) r = (omega arith, omega arith, exception_of n Exit r)
name_of_packet (Exception n Return) r = (omega arith, omega arith, exception_of n Return r)
name_of_packet (Sample v) r = (omega arith, r, sample_of v)
name_of_packet Asleep r = (omega arith, omega arith, asleep_of)
name_of_packet (MatchPc c v) r = (omega arith, r.1, match_pc v c r.0)
name_of_packet (MatchAddress c v) r = (omega arith, r.1, match_address v c r.0)
name_of_packet (Read c s v) r = (omega arith, r.1, read s v c r.0)
name_of_packet (Written c s v) r = (omega arith, r.1, written s v c r.0)
name_of_packet (Other d s v) r = (r.0.0, r.0.1, no_row d s v r.1)

-- the proper items are those in their ranges
pub in_range : (item : DwtItem) → IsProperItem item → IsInRange item
in_range item (d, s, v, p, e) = subst IsInRange e (inverse d s v p.0 p.1).1

pub proper : (item : DwtItem) → IsInRange item → IsProperItem item
proper item r = let p = packet item in let n = name_of_packet item r in (p.0, p.1, p.2, (n.0, n.1), n.2)

-- and a proper item's packet has it
pub proper_name : (item : DwtItem) → IsProperItem item → let p = packet item in (p.0 < 32) × (p.2 < 256 ^ byte_count p.1) × (name p.0 p.1 p.2 ≡ item)
proper_name item r = name_of_packet item (in_range item r)

-- no row of the table has another item
abbrev HasItem : ℕ → Size → ℕ → Row → Type 0
HasItem d s v row = fits d s v row ≡ true → IsTrue (is_other (row.item s v)) → NoRowFits d s v

comparator_items : (d : ℕ) (s : Size) (v c : ℕ) → Each (HasItem d s v) (comparator_rows c)
comparator_items d s v c = (λ e o. cc, (λ e o. cc, (λ e o. cc, (λ e o. cc, tt))))

pub others : (d : ℕ) (s : Size) (v : ℕ) → IsTrue (is_other (name d s v)) ↔ NoRowFits d s v
others d s v = (
  by_table (λ item. IsTrue (is_other item) → NoRowFits d s v) d s v
      (λ e o. cc, (λ e o. cc, (λ e o. cc, (λ e o. cc, each_comparator (HasItem d s v) (λ c k. comparator_items d s v c)))))
      (λ none o. none),
  λ none. rw (no_row d s v none) refl,
)

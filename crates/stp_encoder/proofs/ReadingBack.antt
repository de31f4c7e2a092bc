-- What is written, read again, is the items.
use Rattle.std.proofs.Common.{◌≡◌, ℕ, zero, suc, ◌+◌, ◌*◌, ◌/◌, ◌%◌, ◌<◌, List, [], ◌∷◌, ◌++◌, length, replicate, map, refl, sym, ◌∙◌, ap, subst, append-nil, arith, Option, None, Some}
use Rattle.std.specs.Option.{option_to_list}
use Rattle.std.specs.List.{All, flat_map}
use Rattle.std.proofs.lemmas.List.Elements.{All-nil, All-cons, All-append}
use Rattle.stp_encoder.specs.Names.{Placed, units_of, nibbles_of, Progress, Said, Kept, kept, Order, Msn, Lsn, Null}
use Rattle.stp_encoder.specs.Names.{StpPacket, Plain, Partial, StpItem, attribute, item_of}
use Rattle.trace_values.specs.Placed.{Place}
use Rattle.trace_values.specs.Decorated.{kept_if, decorate}
use Rattle.stp_encoder.specs.Fitting.{AreFitting}
use Rattle.stp_encoder.specs.Puts.{Put, Of, Flush, items_in}
use Rattle.stp_encoder.specs.Packets.{packets_with, packets_after, packets_for}
use Rattle.stp_encoder.specs.Bytes.{joined, odd_nibble, filled, spelled, nibbles_after, nibbles_for, encoded}
use Rattle.stp_encoder.specs.ReadBack.{ReadsBack}
use Rattle.stp_encoder.proofs.Joining.{filled_is}
use Rattle.stp_encoder.proofs.Standing.{spelled_append, packets_front}
use Rattle.stp_encoder.proofs.Told.{told, told_append, told_back, AreAlike, AreProper, told_alike, alike_append, alike_nulls, alike_none}
use Rattle.stp_encoder.proofs.Wholes.{AreWhole, whole_append, nibbles_whole, packets_whole}
use Rattle.stp_encoder.proofs.Reading.{reads_packets}

abbrev packets_in : List (StpPacket × Place) → List StpPacket
packets_in items = map (λ (x : StpPacket × Place). x.0) items

-- the items of packets with places are those of the packets
said_of : (items : List (StpPacket × Place)) (before : List StpPacket) →
    map (λ (x : Said StpItem × Place). x.0) (decorate attribute before (kept items)) ≡ map Kept (told before (packets_in items))
said_of [] before = refl
said_of (x ∷ items) before = by (item_of (before ++ x.0 ∷ []) x.0) (said_of items (before ++ x.0 ∷ [])) where
  rest : List (Said StpItem × Place)
  rest = decorate attribute (before ++ x.0 ∷ []) (kept items)

  by : (o : Option StpItem) → map (λ (y : Said StpItem × Place). y.0) (decorate attribute (before ++ x.0 ∷ []) (kept items)) ≡ map Kept (told (before ++ x.0 ∷ []) (packets_in items)) →
      map (λ (y : Said StpItem × Place). y.0) (kept_if o x.1 (decorate attribute (before ++ x.0 ∷ []) (kept items))) ≡ map Kept (option_to_list o ++ told (before ++ x.0 ∷ []) (packets_in items))
  by None e = e
  by (Some w) e = ap (λ (l : List (Said StpItem)). Kept w ∷ l) e

-- NULLs are no items, and their nibbles are 0
nulls_whole : (count : ℕ) → AreWhole (replicate count (Plain Null 0))
nulls_whole zero = tt
nulls_whole (suc count) = (record { proper = omega arith; by_row = refl }, nulls_whole count)

nulls_told : (count : ℕ) (before : List StpPacket) → told before (replicate count (Plain Null 0)) ≡ []
nulls_told zero before = refl
nulls_told (suc count) before = nulls_told count (before ++ Plain Null 0 ∷ [])

nulls_spelled : (order : Order) (count : ℕ) → spelled order (replicate count (Plain Null 0)) ≡ replicate count 0
nulls_spelled order zero = refl
nulls_spelled Msn (suc count) = ap (λ (l : List ℕ). 0 ∷ l) (nulls_spelled Msn count)
nulls_spelled Lsn (suc count) = ap (λ (l : List ℕ). 0 ∷ l) (nulls_spelled Lsn count)

-- packets with NULLs where the nibbles are filled: they are spelled so, and tell the same as without
record Padded (order : Order) (packets : List StpPacket) (n : List ℕ) : Type 0 where
  padded : List StpPacket
  spells : n ≡ spelled order padded
  whole : AreWhole padded
  alike : AreAlike packets padded
  same : told [] padded ≡ told [] packets

pad_nulls : (order : Order) (packets : List StpPacket) (n : List ℕ) (count : ℕ) → Padded order packets n → Padded order packets (n ++ replicate count 0)
pad_nulls order packets n count p =
    let nulls = replicate count (Plain Null 0) in record {
      padded = p.padded ++ nulls;
      spells = ap (λ (l : List ℕ). l ++ replicate count 0) p.spells ∙ ap (λ (l : List ℕ). spelled order p.padded ++ l) (sym (nulls_spelled order count)) ∙ sym (spelled_append order p.padded nulls);
      whole = whole_append p.padded nulls p.whole (nulls_whole count);
      alike = alike_nulls packets p.padded count p.alike;
      same = told_append [] p.padded nulls ∙ ap (λ (l : List StpItem). told [] p.padded ++ l) (nulls_told count p.padded) ∙ append-nil (told [] p.padded) ∙ p.same;
    }

are_proper : (l : List StpPacket) → AreWhole l → AreProper l
are_proper [] h = tt
are_proper (p ∷ l) h = (h.0.proper, are_proper l h.1)

pad_more : (order : Order) (packets more : List StpPacket) (n : List ℕ) → AreWhole more → Padded order packets n → Padded order (packets ++ more) (n ++ spelled order more)
pad_more order packets more n h p = record {
  padded = p.padded ++ more;
  spells = ap (λ (l : List ℕ). l ++ spelled order more) p.spells ∙ sym (spelled_append order p.padded more);
  whole = whole_append p.padded more p.whole h;
  alike = alike_append packets p.padded more (are_proper more h) p.alike;
  same = told_append [] p.padded more ∙ ap (λ (l : List StpItem). l ++ told p.padded more) p.same
      ∙ ap (λ (l : List StpItem). told [] packets ++ l) (sym (told_alike packets p.padded more (are_proper more h) p.alike)) ∙ sym (told_append [] packets more);
}

whole_behind : (a b : List StpPacket) → AreWhole (a ++ b) → AreWhole b
whole_behind [] b h = h
whole_behind (p ∷ a) b h = whole_behind a b h.1

whole_before : (a b : List StpPacket) → AreWhole (a ++ b) → AreWhole a
whole_before [] b h = tt
whole_before (p ∷ a) b h = (h.0, whole_before a b h.1)

pad : (order : Order) (before : List StpPacket) (n : List ℕ) (puts : List Put) → AreWhole (packets_after before (items_in puts)) → Padded order before n →
    Padded order (packets_after before (items_in puts)) (nibbles_after order before n puts)
pad order before n [] h p = p
pad order before n (Of item ∷ puts) h p =
    let more = packets_with before item in
    let rest = packets_front (before ++ more) (items_in puts) in
    let whole = whole_before (before ++ more) rest.0 (subst AreWhole rest.1 h) in
    pad order (before ++ more) (n ++ spelled order more) puts h (pad_more order before more n (whole_behind before more whole) p)
pad order before n (Flush ∷ puts) h p =
    let fill = filled_is n in
    pad order before (filled n) puts h (subst (λ (l : List ℕ). Padded order before l) (sym fill.1) (pad_nulls order before n fill.0 p))

all_padded : (order : Order) (puts : List Put) → AreFitting (items_in puts) → Padded order (packets_for (items_in puts)) (nibbles_for order puts)
unfolding nibbles_for packets_for
all_padded order puts h = pad order [] [] puts (packets_whole (items_in puts) h) (record { padded = []; spells = refl; whole = tt; alike = alike_none; same = refl })

pub nibbles_back : (order : Order) (puts : List Put) → AreFitting (items_in puts) → (fill : ℕ) (n : List Placed) → units_of n ≡ nibbles_for order puts ++ replicate fill 0 → ReadsBack order (items_in puts) n
nibbles_back order puts h fill n e =
    let items = items_in puts in
    let p = pad_nulls order (packets_for items) (nibbles_for order puts) fill (all_padded order puts h) in
    let read = reads_packets order p.padded p.whole n (e ∙ p.spells) [] in
    let all : told [] p.padded ≡ items = p.same ∙ told_back items h in
    record {
      given = ap (λ (p : Progress Partial StpPacket). map (λ (x : Said StpItem × Place). x.0) (decorate attribute [] (kept p.items))) read.2
          ∙ said_of read.0 [] ∙ ap (λ (l : List StpPacket). map Kept (told [] l)) read.1 ∙ ap (λ (l : List StpItem). map Kept l) all;
      no_fault = ap (λ (p : Progress Partial StpPacket). p.fault) read.2;
      no_tail = ap (λ (p : Progress Partial StpPacket). length p.rest) read.2;
    }

-- bytes as their nibbles
abbrev halves : List ℕ → List ℕ
halves bytes = flat_map (λ b. b % 16 ∷ (b / 16 % 16 ∷ [])) bytes

units_halves : (u : List Placed) → units_of (nibbles_of u) ≡ halves (units_of u)
units_halves [] = refl
units_halves (b ∷ u) = ap (λ (l : List ℕ). b.unit % 16 ∷ (b.unit / 16 % 16 ∷ l)) (units_halves u)

-- the nibbles of joined nibbles are these
low_is : (a b : ℕ) → a < 16 → b < 16 → (a + 16 * b) % 16 ≡ a
low_is a b h k = omega (arith, h, k)

high_is : (a b : ℕ) → a < 16 → b < 16 → (a + 16 * b) / 16 % 16 ≡ b
high_is a b h k = omega (arith, h, k)

halves_joined : (n : List ℕ) → All (λ b. b < 16) n → None ≡ odd_nibble n → halves (joined n) ≡ n
halves_joined [] h e = refl
halves_joined (a ∷ []) h e = cc
halves_joined (a ∷ (b ∷ n)) h e =
    let p : a < 16 = h 0 a (omega arith) in
    let q : b < 16 = h 1 a (omega arith) in
    let more = halves_joined n (λ k d l. h (suc (suc k)) d (omega (arith, l))) e in
    ap (λ (l : List ℕ). (a + 16 * b) % 16 ∷ ((a + 16 * b) / 16 % 16 ∷ l)) more
    ∙ ap (λ (z : ℕ). z ∷ ((a + 16 * b) / 16 % 16 ∷ n)) (low_is a b p q)
    ∙ ap (λ (z : ℕ). a ∷ (z ∷ n)) (high_is a b p q)

zeros : (count : ℕ) → All (λ b. b < 16) (replicate count 0)
zeros zero = All-nil (λ b. b < 16)
zeros (suc count) = All-cons (λ b. b < 16) 0 (replicate count 0) (omega arith) (zeros count)

-- nibbles that are filled, and their bytes
filled_small : (order : Order) (puts : List Put) → AreFitting (items_in puts) → All (λ b. b < 16) (filled (nibbles_for order puts))
filled_small order puts h =
    let n = nibbles_for order puts in
    let f = filled_is n in
    let p = all_padded order puts h in
    subst (λ (l : List ℕ). All (λ b. b < 16) l) (sym f.1)
    (All-append (λ b. b < 16) n (replicate f.0 0) (subst (λ (l : List ℕ). All (λ b. b < 16) l) (sym p.spells) (nibbles_whole order p.padded p.whole)) (zeros f.0))

joined_small : (n : List ℕ) → All (λ b. b < 16) n → All (λ b. b < 256) (joined n)
joined_small [] h = All-nil (λ b. b < 256)
joined_small (a ∷ []) h = All-nil (λ b. b < 256)
joined_small (a ∷ (b ∷ n)) h =
    let p : a < 16 = h 0 a (omega arith) in
    let q : b < 16 = h 1 a (omega arith) in
    All-cons (λ b. b < 256) (a + 16 * b) (joined n) (omega (arith, p, q)) (joined_small n (λ k d l. h (suc (suc k)) d (omega (arith, l))))

pub bytes_small : (order : Order) (puts : List Put) → AreFitting (items_in puts) → All (λ b. b < 256) (encoded order puts)
bytes_small order puts h = joined_small (filled (nibbles_for order puts)) (filled_small order puts h)

pub bytes_back : (order : Order) (puts : List Put) → AreFitting (items_in puts) → (u : List Placed) → units_of u ≡ encoded order puts → ReadsBack order (items_in puts) (nibbles_of u)
bytes_back order puts h u e =
    let n = nibbles_for order puts in
    let f = filled_is n in
    nibbles_back order puts h f.0 (nibbles_of u) (units_halves u ∙ ap halves e ∙ halves_joined (filled n) (filled_small order puts h) f.2 ∙ f.1)

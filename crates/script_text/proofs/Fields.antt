-- What words say is in the ranges of their fields (docs/formats.md, 'Scripts').
use Rattle.std.proofs.Common.{◌≡◌, ℕ, suc, ◌*◌, ◌<◌, ◌≤◌, ◌^◌, List, [], ◌∷◌, length, refl, sym, subst, ap, arith, Bool}
use Rattle.std.proofs.Common.{true, false, Some, None, Option, Ok, Err, Result, ◌==◌, ◌||◌, nat_lt, option_map, codes}
use Rattle.std.proofs.Common.{if◌then◌else◌, bytes_eq}
use Rattle.std.specs.Option.{option_map_or}
use Rattle.std.proofs.lemmas.Bool.Decides.{nat_tests}
use Rattle.hex.specs.Hex.{decode_of}
use Rattle.hex.specs.declared.error.FromHexError.{FromHexError}
use Rattle.hex.proofs.HexLemmas.{decode_of-ok}
use Rattle.script_text.specs.Names.{IsProperStamp, Stamp, number_named, text_after}
use Rattle.trace_clock.specs.LastWord.{nibble_count}
use Rattle.stp_grammar.specs.declared.item.Stamp.TheVariants.{None as NoStamp, Natural, Gray, Raw}
use Rattle.decimal_words.proofs.Numbers.{number_is}
use Rattle.script_text.specs.Words.{word_of}
use Rattle.script_text.specs.Numbers.{hexadecimal_named}
use Rattle.script_text.specs.Stamps.{size_with, raw_named, time_named, stamp_named}
use Rattle.script_text.specs.Bytes.{decoded, bytes_named}
use Rattle.script_text.specs.Steps.{◌>>=◌}
use Rattle.script_text.specs.Table.{Kind, Upto, Known, Digits, Time, Bytes, Field, Word, Says, Value, value_of, Fits}
use Rattle.script_text.specs.Table.{Values, AllFit, values_at}
use Rattle.script_text.proofs.Hexadecimals.{hexadecimal_small}
use Rattle.script_text.proofs.Options.{bind_some, some_of, map_some}

-- timestamps
-- a size's word has that many nibbles
small_count : (size : ℕ) → size < 13 → nibble_count size ≡ size
small_count size h = let e : nat_lt size 13 ≡ true = grind (arith, nat_tests) in rw e refl

pub size_is : (count size : ℕ) → size_with count ≡ Some size → (size < 15) × (nibble_count size ≡ count)
size_is count size e = by (nat_lt count 13) (count == 14) (count == 16) refl refl refl e
  where
    by : (a b c : Bool) → nat_lt count 13 ≡ a → (count == 14) ≡ b → (count == 16) ≡ c →
        (if a then Some count else (if b then Some 13 else (if c then Some 14 else None))) ≡ Some size → (size < 15)
        × (nibble_count size ≡ count)
    by true b c p q r e =
        let same : count ≡ size = some_of count size e in
        let less : count < 13 = grind (arith, nat_tests) in
        (omega arith, subst (λ (s : ℕ). nibble_count s ≡ count) same (small_count count less))
    by false true c p q r e =
        let same : 13 ≡ size = some_of 13 size e in
        let is : count ≡ 14 = grind (arith, nat_tests) in
        (omega arith, subst (λ (s : ℕ). nibble_count s ≡ count) same (sym is))
    by false false true p q r e =
        let same : 14 ≡ size = some_of 14 size e in
        let is : count ≡ 16 = grind (arith, nat_tests) in
        (omega arith, subst (λ (s : ℕ). nibble_count s ≡ count) same (sym is))
    by false false false p q r e = cc

pub raw_said : (digits : List ℕ) (stamp : Stamp) → raw_named digits ≡ Some stamp → IsProperStamp stamp
unfolding raw_named
raw_said digits stamp e =
    let a = bind_some (size_with (length digits))
    (λ size. hexadecimal_named (length digits) digits >>= λ word. Some (Raw size word)) stamp e in
    let b = bind_some (hexadecimal_named (length digits) digits) (λ word. Some (Raw a.0 word)) stamp a.2 in
    let size = size_is (length digits) a.0 a.1 in
    let small = hexadecimal_small (length digits) digits b.0 b.1 in
    let fits : b.0 < 16 ^ nibble_count a.0 = rw size.1 small in
    subst IsProperStamp (some_of (Raw a.0 b.0) stamp b.2) (size.0, fits)

time_small : (text : List ℕ) (n : ℕ) → time_named text ≡ Some n → n < 2 ^ 64
time_small text n e = let k = (number_is 0 18446744073709551615 n text e).1 in omega arith

natural_said : (text : List ℕ) (stamp : Stamp) → option_map Natural (time_named text) ≡ Some stamp → IsProperStamp stamp
natural_said text stamp e = let m = map_some Natural (time_named text) stamp e in
    subst IsProperStamp m.2 (time_small text m.0 m.1)

gray_said : (text : List ℕ) (stamp : Stamp) → option_map Gray (time_named text) ≡ Some stamp → IsProperStamp stamp
gray_said text stamp e = let m = map_some Gray (time_named text) stamp e in
    subst IsProperStamp m.2 (time_small text m.0 m.1)

pub stamp_said : (text : List ℕ) (stamp : Stamp) → stamp_named text ≡ Some stamp → IsProperStamp stamp
stamp_said text stamp e = by (bytes_eq text (codes "-")) (text_after (codes "n=") text) (text_after (codes "g=") text)
    (text_after (codes "r=") text) e
  where
    by : (v : Bool) (n g r : Option (List ℕ)) →
        (if v then Some NoStamp else option_map_or (λ time. option_map Natural (time_named time)) n
        (option_map_or (λ time. option_map Gray (time_named time)) g (option_map_or raw_named r None))) ≡ Some stamp →
        IsProperStamp stamp
    by true n g r e = subst IsProperStamp (some_of NoStamp stamp e) tt
    by false (Some n) g r e = natural_said n stamp e
    by false None (Some g) r e = gray_said g stamp e
    by false None None (Some r) e = raw_said r stamp e
    by false None None None e = cc

-- bytes
pub decoded_ok : (r : Result (List ℕ) FromHexError) (bytes : List ℕ) → decoded r ≡ Some bytes → r ≡ Ok bytes
decoded_ok (Ok x) bytes e = let same : x ≡ bytes = cc in ap Ok same
decoded_ok (Err x) bytes e = cc

pub bytes_fit : (text bytes : List ℕ) → bytes_named text ≡ Some bytes → Fits Bytes bytes
bytes_fit text bytes e = by (nat_lt (length text) 2) (nat_lt 200 (length text)) refl refl e
  where
    by : (v w : Bool) → nat_lt (length text) 2 ≡ v → nat_lt 200 (length text) ≡ w →
        (if v || w then None else decoded (decode_of text)) ≡ Some bytes → Fits Bytes bytes
    by true w a b e = cc
    by false true a b e = cc
    by false false a b e =
        let d = decode_of-ok text bytes (decoded_ok (decode_of text) bytes e) in
        let len : length text ≡ 2 * length bytes = d.2 in
        let low : 2 ≤ length text = grind (arith, nat_tests) in
        let high : length text ≤ 200 = grind (arith, nat_tests) in
        (omega arith, omega arith, d.3)

-- each kind of field
pub value_fits : (kind : Kind) (word : List ℕ) (value : Value kind) → value_of kind word ≡ Some value → Fits kind value
value_fits (Upto most) word n e = (number_is 0 most n word e).1
value_fits (Known most) word n e =
    let m = map_some Some (number_named 0 most word) n e in
    subst (Fits (Known most)) m.2 (
      refl,
      λ k same.
          subst (λ (x : ℕ). x ≤ most) (some_of m.0 k same) (number_is 0 most m.0 word m.1).1,
    )
value_fits (Digits count) word n e = hexadecimal_small count word n e
value_fits Time word stamp e = stamp_said word stamp e
value_fits Bytes word bytes e = bytes_fit word bytes e

-- and of all fields
pub values_fit : (fields : List Field) (k : ℕ) (words : List (List ℕ)) (values : Values fields) →
    values_at fields k words ≡ Some values → AllFit fields values
values_fit [] k words values e = tt
values_fit (Word word ∷ fields) k words values e = values_fit fields (suc k) words values e
values_fit (Says kind ∷ fields) k words values e =
    let a = bind_some (value_of kind (word_of words k)) _ values e in
    let b = bind_some (values_at fields (suc k) words) _ values a.2 in
    let now : AllFit (Says kind ∷ fields) (a.0, b.0) =
    (value_fits kind (word_of words k) a.0 a.1, values_fit fields (suc k) words b.0 b.1) in
    subst (AllFit (Says kind ∷ fields)) (some_of (a.0, b.0) values b.2) now

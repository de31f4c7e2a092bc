-- Words that say numbers, with their digits in lower case, are those that are written of these numbers.
use Rattle.std.proofs.Common.{◌≡◌, ℕ, ◌+◌, ◌*◌, ◌/◌, ◌%◌, ◌<◌, ◌^◌, List, [], ◌∷◌, ◌++◌, length, map, refl, sym, ◌∙◌}
use Rattle.std.proofs.Common.{ap, subst, arith, Bool, true, false, Some, None, Option, Ok, Err, Result, codes, decimal}
use Rattle.std.proofs.Common.{nat_le, nat_lt, ◌&&◌, ◌||◌, ◌==◌, slice_index, option_map, if◌then◌else◌, bytes_eq}
use Rattle.std.specs.Int.{IsInRange}
use Rattle.std.specs.Option.{option_map_or}
use Rattle.std.specs.Str.Parse.{AllDigits}
use Rattle.std.proofs.lemmas.Bool.Decides.{nat_tests}
use Rattle.std.proofs.lemmas.Fmt.{decimal_is_IsNumeral}
use Rattle.std.proofs.lemmas.Str.Parse.{digit_from_value}
use Rattle.std.proofs.lemmas.Slice.Eq.{bytes_eq-Decides}
use Rattle.hex.specs.Hex.{decode_of, decode_pairs, pair_value, value_at, digit_or_error, hex_digit_value, encode_with}
use Rattle.hex.specs.Hex.{encode_lower, lower_digits, ◌>>=◌ as ◌>>ₕ◌}
use Rattle.hex.specs.declared.error.FromHexError.{FromHexError}
use Rattle.hex.proofs.HexLemmas.{decode_of-ok, decode_of-even}
use Rattle.script_laws.specs.Names.{Stamp, Natural, Gray, hex_digits, stamp_text, number_named, text_after}
use Rattle.script_laws.specs.Names.{hexadecimal_named, size_with, raw_named, time_named, stamp_named, decoded}
use Rattle.script_laws.specs.Names.{bytes_named}
use Rattle.stp_grammar.specs.declared.item.Stamp.TheVariants.{None as NoStamp, Raw}
use Rattle.decimal_words.proofs.Fronts.{begins}
use Rattle.decimal_words.proofs.Numbers.{number_is}
use Rattle.script_text.specs.Steps.{◌>>=◌}
use Rattle.script_text.proofs.Hexadecimals.{hexadecimal_is, and_left, and_right}
use Rattle.script_text.proofs.Options.{bind_some, some_of, map_some}
use Rattle.script_text.proofs.Fields.{size_is, decoded_ok}
use Rattle.script_laws.specs.Lowered.{lowered}
use Rattle.script_laws.proofs.Digits.{below, below_holds, same_number, lowered_digits}

-- decimals have no letters
digit_kept : (c : ℕ) → IsInRange 48 57 c → lowered c ≡ c
digit_kept c h = let e : nat_le 65 c ≡ false = grind (arith, nat_tests) in rw e refl

digits_kept : (text : List ℕ) → AllDigits 10 text → map lowered text ≡ text
digits_kept [] h = refl
digits_kept (c ∷ text) h =
    let one = digit_kept c (digit_from_value c h.0) in
    let more = digits_kept text h.1 in
    rw (one, more) refl

decimal_kept : (n : ℕ) → n < 2 ^ 64 → map lowered (decimal n) ≡ decimal n
decimal_kept n h = digits_kept (decimal n) (decimal_is_IsNumeral n h).0.1

pub number_lowered : (least greatest n : ℕ) (text : List ℕ) → greatest < 2 ^ 64 → number_named least greatest text ≡ Some n → map lowered text ≡ decimal n
number_lowered least greatest n text big e =
    let is = number_is least greatest n text e in
    ap (map lowered) is.2 ∙ decimal_kept n (let k = is.1 in omega arith)

-- hexadecimal digits are lowered
pub hexadecimal_lowered : (count v : ℕ) (text : List ℕ) → hexadecimal_named count text ≡ Some v → map lowered text ≡ hex_digits count v
hexadecimal_lowered count v text e = let is = hexadecimal_is count text v e in lowered_digits count text v is.0 is.1 is.2

-- timestamps
raw_lowered : (text : List ℕ) (stamp : Stamp) → raw_named text ≡ Some stamp → codes "r=" ++ map lowered text ≡ stamp_text stamp
unfolding raw_named
raw_lowered text stamp e =
    let a = bind_some (size_with (length text)) (λ size. hexadecimal_named (length text) text >>= λ word. Some (Raw size word)) stamp e in
    let b = bind_some (hexadecimal_named (length text) text) (λ word. Some (Raw a.0 word)) stamp a.2 in
    let size = size_is (length text) a.0 a.1 in
    ap (λ d. codes "r=" ++ d) (hexadecimal_lowered (length text) b.0 text b.1 ∙ ap (λ n. hex_digits n b.0) (sym size.1))
    ∙ ap stamp_text (some_of (Raw a.0 b.0) stamp b.2)

natural_lowered : (text : List ℕ) (stamp : Stamp) → option_map Natural (time_named text) ≡ Some stamp → codes "n=" ++ map lowered text ≡ stamp_text stamp
natural_lowered text stamp e =
    let m = map_some Natural (time_named text) stamp e in
    ap (λ d. codes "n=" ++ d) (number_lowered 0 18446744073709551615 m.0 text (omega arith) m.1) ∙ ap stamp_text m.2

gray_lowered : (text : List ℕ) (stamp : Stamp) → option_map Gray (time_named text) ≡ Some stamp → codes "g=" ++ map lowered text ≡ stamp_text stamp
gray_lowered text stamp e =
    let m = map_some Gray (time_named text) stamp e in
    ap (λ d. codes "g=" ++ d) (number_lowered 0 18446744073709551615 m.0 text (omega arith) m.1) ∙ ap stamp_text m.2

pub stamp_lowered : (text : List ℕ) (stamp : Stamp) → stamp_named text ≡ Some stamp → map lowered text ≡ stamp_text stamp
stamp_lowered text stamp e = by (bytes_eq text (codes "-")) (text_after (codes "n=") text) (text_after (codes "g=") text) (text_after (codes "r=") text) refl refl refl refl e
  where
    by : (v : Bool) (n g r : Option (List ℕ)) → bytes_eq text (codes "-") ≡ v → text_after (codes "n=") text ≡ n → text_after (codes "g=") text ≡ g → text_after (codes "r=") text ≡ r →
        (if v then Some NoStamp else option_map_or (λ time. option_map Natural (time_named time)) n
        (option_map_or (λ time. option_map Gray (time_named time)) g (option_map_or raw_named r None))) ≡ Some stamp → map lowered text ≡ stamp_text stamp
    by true n g r p q s t e = ap (map lowered) ((bytes_eq-Decides text (codes "-")).0 p) ∙ ap stamp_text (some_of NoStamp stamp e)
    by false (Some n) g r p q s t e = ap (map lowered) (begins (codes "n=") text n q) ∙ natural_lowered n stamp e
    by false None (Some g) r p q s t e = ap (map lowered) (begins (codes "g=") text g s) ∙ gray_lowered g stamp e
    by false None None (Some r) p q s t e = ap (map lowered) (begins (codes "r=") text r t) ∙ raw_lowered r stamp e
    by false None None None p q s t e = cc

-- bytes
hex_ok : {A B : Type 0} (r : Result A FromHexError) (f : A → Result B FromHexError) (y : B) → (r >>ₕ f) ≡ Ok y → (x : A) × (r ≡ Ok x) × (f x ≡ Ok y)
hex_ok (Ok x) f y e = (x, refl, e)
hex_ok (Err x) f y e = cc

digit_there : (c i v : ℕ) (o : Option ℕ) → digit_or_error c i o ≡ Ok v → o ≡ Some v
digit_there c i v None e = cc
digit_there c i v (Some w) e = let same : w ≡ v = cc in ap Some same

abbrev is_lowered : ℕ → Option ℕ → Bool
is_lowered c None = true
is_lowered c (Some v) = nat_lt v 16 && (lowered c == slice_index lower_digits v)

digit_less : (c v : ℕ) → hex_digit_value c ≡ Some v → c < 103
digit_less c v e = grind (arith, nat_tests)

digit_is : (c v : ℕ) → hex_digit_value c ≡ Some v → (v < 16) × (lowered c ≡ slice_index lower_digits v)
unfolding below
digit_is c v e =
    let t : is_lowered c (hex_digit_value c) ≡ true = below_holds (λ c. is_lowered c (hex_digit_value c)) 103 c refl (digit_less c v e) in
    let s : (nat_lt v 16 && (lowered c == slice_index lower_digits v)) ≡ true = subst (λ (o : Option ℕ). is_lowered c o ≡ true) e t in
    let less = and_left (nat_lt v 16) (lowered c == slice_index lower_digits v) s in
    (grind (arith, nat_tests), same_number (lowered c) (slice_index lower_digits v) (and_right (nat_lt v 16) (lowered c == slice_index lower_digits v) s))

pairs_lowered : (i : ℕ) (text bytes : List ℕ) → decode_pairs i text ≡ Ok bytes → map lowered text ≡ encode_lower bytes
unfolding decode_pairs encode_with
pairs_lowered i [] bytes e = let same : [] ≡ bytes = cc in ap encode_lower same
pairs_lowered i (d ∷ []) bytes e = cc
pairs_lowered i (high ∷ (low ∷ rest)) bytes e =
    let b = hex_ok (pair_value high low i) (λ byte. decode_pairs (i + 2) rest >>ₕ λ bytes. Ok (byte ∷ bytes)) bytes e in
    let r = hex_ok (decode_pairs (i + 2) rest) (λ bytes. Ok (b.0 ∷ bytes)) bytes b.2 in
    let same : b.0 ∷ r.0 ≡ bytes = (let k = r.2 in cc) in
    let h = hex_ok (value_at high i) (λ h. value_at low (i + 1) >>ₕ λ l. Ok (h * 16 + l)) b.0 b.1 in
    let l = hex_ok (value_at low (i + 1)) (λ l. Ok (h.0 * 16 + l)) b.0 h.2 in
    let byte : h.0 * 16 + l.0 ≡ b.0 = (let k = l.2 in cc) in
    let x = digit_is high h.0 (digit_there high i h.0 (hex_digit_value high) h.1) in
    let y = digit_is low l.0 (digit_there low (i + 1) l.0 (hex_digit_value low) l.1) in
    let first : h.0 ≡ b.0 / 16 = (let p = x.0 in let q = y.0 in omega arith) in
    let second : l.0 ≡ b.0 % 16 = (let p = x.0 in let q = y.0 in omega arith) in
    let more = pairs_lowered (i + 2) rest r.0 r.1 in
    rw (x.1, y.1, more) (ap (λ d. slice_index lower_digits d ∷ (slice_index lower_digits l.0 ∷ encode_lower r.0)) first
    ∙ ap (λ d. slice_index lower_digits (b.0 / 16) ∷ (slice_index lower_digits d ∷ encode_lower r.0)) second
    ∙ ap encode_lower same)

pub bytes_lowered : (text bytes : List ℕ) → bytes_named text ≡ Some bytes → map lowered text ≡ encode_lower bytes
bytes_lowered text bytes e = by (nat_lt (length text) 2 || nat_lt 200 (length text)) e
  where
    by : (v : Bool) → (if v then None else decoded (decode_of text)) ≡ Some bytes → map lowered text ≡ encode_lower bytes
    by true e = cc
    by false e =
        let ok = decoded_ok (decode_of text) bytes e in
        let d = decode_of-ok text bytes ok in
        pairs_lowered 0 text bytes (sym (decode_of-even text d.0) ∙ ok)

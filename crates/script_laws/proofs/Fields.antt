-- Laws of the kinds of fields, and of rows: what is written reads back, and what reads is what is written, with its
-- digits in lower case.
use Rattle.std.proofs.Common.{◌≡◌, ℕ, suc, ◌/◌, ◌%◌, ◌<◌, ◌≤◌, ◌^◌, List, [], ◌∷◌, length, map, refl, sym, ◌∙◌, ap}
use Rattle.std.proofs.Common.{arith, Bool, true, false, Option, Some, None, decimal, nat_lt, nat_le, ◌&&◌, ◌==◌}
use Rattle.std.proofs.Common.{option_map, bytes_eq}
use Rattle.std.specs.List.{list_all}
use Rattle.std.specs.Char.{is_ascii_hexdigit}
use Rattle.std.proofs.lemmas.Bool.Decides.{nat_tests}
use Rattle.std.proofs.lemmas.Slice.Eq.{bytes_eq-Decides}
use Rattle.hex.specs.Hex.{encode_lower, encode_with, lower_digits, IsBytes}
use Rattle.hex.proofs.HexLemmas.{decode_of-encode_lower, length-encode_with}
use Rattle.script_laws.specs.Names.{nibble_count, WordFits, IsProperStamp, Stamp, Natural, Gray, hex_digits, known_text}
use Rattle.script_laws.specs.Names.{stamp_text, number_named, is_word, word_of, hexadecimal_named, size_with, raw_named}
use Rattle.script_laws.specs.Names.{time_named, stamp_named, decoded, bytes_named, plain, fits, Kind, Upto, Known}
use Rattle.script_laws.specs.Names.{Digits, Time, Bytes, Field, Word, Says, Value, value_of, Fits, Values, words_with}
use Rattle.script_laws.specs.Names.{AllFit, values_at, Row, row, word_in, fields_in, made_in, said_in}
use Rattle.stp_grammar.specs.declared.item.Stamp.TheVariants.{None as NoStamp, Raw as RawStamp}
use Rattle.decimal_words.proofs.Numbers.{names_number}
use Rattle.script_text.specs.Steps.{◌>>=◌}
use Rattle.script_text.specs.Table.{text}
use Rattle.script_text.proofs.Hexadecimals.{said_is, and_left, and_right, both}
use Rattle.script_text.proofs.Fields.{values_fit}
use Rattle.script_text.proofs.Options.{bind_some, some_of, map_some}
use Rattle.script_laws.specs.Lowered.{lowered}
use Rattle.script_laws.proofs.Digits.{digits_length, digits_hexadecimal, digits_say, digit_hexadecimal}
use Rattle.script_laws.proofs.Joining.{are_all, decimal_word, word_graphic, graphic_word, digits_graphic}
use Rattle.script_laws.proofs.Lowering.{number_lowered, hexadecimal_lowered, stamp_lowered, bytes_lowered}

-- the numbers of a kind are some that a word can say, and a fixed word is one in lower case
abbrev pub is_sound : Kind → Bool
is_sound (Upto most) = nat_lt most (2 ^ 64)
is_sound (Known most) = nat_lt most (2 ^ 64)
is_sound (Digits count) = nat_lt 0 count
is_sound Time = true
is_sound Bytes = true

abbrev pub are_sound : List Field → Bool
are_sound [] = true
are_sound (Word word ∷ fields) = (is_word word && bytes_eq (map lowered word) word) && are_sound fields
are_sound (Says kind ∷ fields) = is_sound kind && are_sound fields

abbrev pub row_sound : {A : Type 0} → Row A → Bool
row_sound (row word fields make) = (is_word word && bytes_eq (map lowered word) word) &&
    (are_sound fields && nat_le (length fields) 6)

less : (a b : ℕ) → nat_lt a b ≡ true → a < b
less a b h = grind (arith, nat_tests)

-- what is written reads back
digits_read : (count v : ℕ) → v < 16 ^ count → hexadecimal_named count (hex_digits count v) ≡ Some v
digits_read count v h =
    sym (said_is count (hex_digits count v) (digits_length count v) (digits_hexadecimal count v))
    ∙ ap Some (digits_say count v h)

decimal_read : (greatest n : ℕ) → greatest < 2 ^ 64 → n ≤ greatest → number_named 0 greatest (decimal n) ≡ Some n
decimal_read greatest n big h = names_number 0 greatest n (decimal n) big (omega arith) h refl

size_back : (size : ℕ) → size < 15 → size_with (nibble_count size) ≡ Some size
size_back size h = by (nat_lt size 13) (size == 13) refl refl
  where
    by : (a b : Bool) → nat_lt size 13 ≡ a → (size == 13) ≡ b → size_with (nibble_count size) ≡ Some size
    by true b p q = rw (p, p) refl
    by false true p q = (let is : size ≡ 13 = grind (arith, nat_tests) in ap (λ (s : ℕ). size_with (nibble_count s)) is
        ∙ ap Some (sym is))
    by false false p q = (let is : size ≡ 14 = grind (arith, nat_tests) in ap (λ (s : ℕ). size_with (nibble_count s)) is
        ∙ ap Some (sym is))

raw_read : (size word : ℕ) → WordFits size word →
    raw_named (hex_digits (nibble_count size) word) ≡ Some (RawStamp size word)
unfolding raw_named
raw_read size word h =
    let len = digits_length (nibble_count size) word in
    let s = size_back size h.0 in
    let w = digits_read (nibble_count size) word h.1 in
    rw (len, s, w) refl

time_read : (time : ℕ) → time < 2 ^ 64 → time_named (decimal time) ≡ Some time
time_read time h = decimal_read 18446744073709551615 time (omega arith) (omega arith)

stamp_read : (stamp : Stamp) → IsProperStamp stamp → stamp_named (stamp_text stamp) ≡ Some stamp
stamp_read NoStamp h = refl
stamp_read (Natural time) h = ap (option_map Natural) (time_read time h)
stamp_read (Gray time) h = ap (option_map Gray) (time_read time h)
stamp_read (RawStamp size word) h = raw_read size word h

bytes_read : (bytes : List ℕ) → 1 ≤ length bytes → length bytes ≤ 100 → IsBytes bytes →
    bytes_named (encode_lower bytes) ≡ Some bytes
bytes_read bytes low high h =
    let len = length-encode_with lower_digits bytes in
    let a : nat_lt (length (encode_lower bytes)) 2 ≡ false = grind (arith, nat_tests) in
    let b : nat_lt 200 (length (encode_lower bytes)) ≡ false = grind (arith, nat_tests) in
    rw (a, b) (ap decoded (decode_of-encode_lower bytes h))

value_read : (kind : Kind) (value : Value kind) → is_sound kind ≡ true → Fits kind value →
    value_of kind (text kind value) ≡ Some value
value_read (Upto most) n s h = decimal_read most n (less most (2 ^ 64) s) h
value_read (Known most) None s h = let k = h.0 in cc
value_read (Known most) (Some n) s h = ap (option_map Some) (decimal_read most n (less most (2 ^ 64) s) (h.1 n refl))
value_read (Digits count) n s h = digits_read count n h
value_read Time stamp s h = stamp_read stamp h
value_read Bytes bytes s h = bytes_read bytes h.0 h.1 h.2

-- a text is one word
hexadecimal_word : (n v : ℕ) → 0 < n → is_word (hex_digits n v) ≡ true
hexadecimal_word n v h =
    let len = digits_length n v in
    graphic_word (hex_digits n v) (omega arith) (digits_graphic (hex_digits n v) (digits_hexadecimal n v))

stamp_word : (stamp : Stamp) → IsProperStamp stamp → is_word (stamp_text stamp) ≡ true
stamp_word NoStamp h = refl
stamp_word (Natural time) h = word_graphic (decimal time) (decimal_word time h)
stamp_word (Gray time) h = word_graphic (decimal time) (decimal_word time h)
stamp_word (RawStamp size word) h = digits_graphic (hex_digits (nibble_count size) word)
    (digits_hexadecimal (nibble_count size) word)

encoded_digits : (bytes : List ℕ) → IsBytes bytes → list_all is_ascii_hexdigit (encode_lower bytes) ≡ true
unfolding encode_with
encoded_digits [] h = refl
encoded_digits (b ∷ bytes) h =
    let small : b < 256 = h 0 in
    let high = digit_hexadecimal (b / 16) (omega arith) in
    let low = digit_hexadecimal (b % 16) (omega arith) in
    let more = encoded_digits bytes (λ i. h (suc i)) in
    rw (high, low, more) refl

value_word : (kind : Kind) (value : Value kind) → is_sound kind ≡ true → Fits kind value →
    is_word (text kind value) ≡ true
value_word (Upto most) n s h = decimal_word n (let k = less most (2 ^ 64) s in omega arith)
value_word (Known most) None s h = refl
value_word (Known most) (Some n) s h = decimal_word n (let k = less most (2 ^ 64) s in let l = h.1 n refl in
    omega arith)
value_word (Digits count) n s h = hexadecimal_word count n (less 0 count s)
value_word Time stamp s h = stamp_word stamp h
value_word Bytes bytes s h =
    let len = length-encode_with lower_digits bytes in
    graphic_word (encode_lower bytes) (let k = h.0 in omega arith)
    (digits_graphic (encode_lower bytes) (encoded_digits bytes h.2))

-- and what reads is what is written, in lower case
value_low : (kind : Kind) (word : List ℕ) (value : Value kind) → is_sound kind ≡ true →
    value_of kind word ≡ Some value → map lowered word ≡ text kind value
value_low (Upto most) word n s e = number_lowered 0 most n word (less most (2 ^ 64) s) e
value_low (Known most) word n s e =
    let m = map_some Some (number_named 0 most word) n e in
    number_lowered 0 most m.0 word (less most (2 ^ 64) s) m.1 ∙ ap known_text m.2
value_low (Digits count) word n s e = hexadecimal_lowered count n word e
value_low Time word stamp s e = stamp_lowered word stamp e
value_low Bytes word bytes s e = bytes_lowered word bytes e

-- all fields
next_at : (fields : List Field) (k : ℕ) (word : List ℕ) (words : List (List ℕ)) →
    values_at fields (suc k) (word ∷ words) ≡ values_at fields k words
next_at [] k word words = refl
next_at (Word fixed ∷ fields) k word words = next_at fields (suc k) word words
next_at (Says kind ∷ fields) k word words =
    ap (λ (o : Option (Values fields)). value_of kind (word_of words k) >>= λ value. o >>= λ values.
    Some (value, values)) (next_at fields (suc k) word words)

values_read : (fields : List Field) (values : Values fields) → are_sound fields ≡ true → AllFit fields values →
    values_at fields 0 (words_with fields values) ≡ Some values
values_read [] values s h = refl
values_read (Word word ∷ fields) values s h =
    next_at fields 0 word (words_with fields values)
    ∙ values_read fields values (and_right (is_word word && bytes_eq (map lowered word) word) (are_sound fields) s) h
values_read (Says kind ∷ fields) (value, values) s h =
    let one = value_read kind value (and_left (is_sound kind) (are_sound fields) s) h.0 in
    let more = next_at fields 0 (text kind value) (words_with fields values)
    ∙ values_read fields values (and_right (is_sound kind) (are_sound fields) s) h.1 in
    rw (one, more) refl

words_all : (fields : List Field) (values : Values fields) → are_sound fields ≡ true → AllFit fields values →
    are_all (words_with fields values) ≡ true
words_all [] values s h = refl
words_all (Word word ∷ fields) values s h =
    let t = is_word word && bytes_eq (map lowered word) word in
    both (is_word word) (are_all (words_with fields values))
    (and_left (is_word word) (bytes_eq (map lowered word) word) (and_left t (are_sound fields) s))
    (words_all fields values (and_right t (are_sound fields) s) h)
words_all (Says kind ∷ fields) (value, values) s h =
    both (is_word (text kind value)) (are_all (words_with fields values))
    (value_word kind value (and_left (is_sound kind) (are_sound fields) s) h.0)
    (words_all fields values (and_right (is_sound kind) (are_sound fields) s) h.1)

words_count : (fields : List Field) (values : Values fields) → length (words_with fields values) ≡ length fields
words_count [] values = refl
words_count (Word word ∷ fields) values = ap suc (words_count fields values)
words_count (Says kind ∷ fields) (value, values) = ap suc (words_count fields values)

abbrev pub low : List (List ℕ) → List (List ℕ)
low words = map (map lowered) words

fixed_low : (fixed word : List ℕ) → bytes_eq fixed word ≡ true → bytes_eq (map lowered fixed) fixed ≡ true →
    map lowered word ≡ fixed
fixed_low fixed word e k = ap (map lowered) (sym ((bytes_eq-Decides fixed word).0 e))
    ∙ (bytes_eq-Decides (map lowered fixed) fixed).0 k

words_low : (fields : List Field) (words : List (List ℕ)) (values : Values fields) → are_sound fields ≡ true →
    fits (map plain fields) words ≡ true →
    values_at fields 0 words ≡ Some values → low words ≡ words_with fields values
words_low [] [] values s f e = refl
words_low [] (word ∷ words) values s f e = cc
words_low (Word fixed ∷ fields) [] values s f e = cc
words_low (Says kind ∷ fields) [] values s f e = cc
words_low (Word fixed ∷ fields) (word ∷ words) values s f e =
    let t = is_word fixed && bytes_eq (map lowered fixed) fixed in
    let one = fixed_low fixed word (and_left (bytes_eq fixed word) (fits (map plain fields) words) f)
    (and_right (is_word fixed) (bytes_eq (map lowered fixed) fixed) (and_left t (are_sound fields) s)) in
    let more = words_low fields words values (and_right t (are_sound fields) s)
    (and_right (bytes_eq fixed word) (fits (map plain fields) words) f) (sym (next_at fields 0 word words) ∙ e) in
    rw (one, more) refl
words_low (Says kind ∷ fields) (word ∷ words) values s f e =
    let a = bind_some (value_of kind word) _ values e in
    let b = bind_some (values_at fields 1 (word ∷ words)) _ values a.2 in
    let one = value_low kind word a.0 (and_left (is_sound kind) (are_sound fields) s) a.1 in
    let more = words_low fields words b.0 (and_right (is_sound kind) (are_sound fields) s) f
    (sym (next_at fields 0 word words) ∙ b.1) in
    rw (one, more) (ap (words_with (Says kind ∷ fields)) (some_of (a.0, b.0) values b.2))

-- a row
abbrev pub row_words : {A : Type 0} → (r : Row A) → Values (fields_in r) → List (List ℕ)
row_words r values = word_in r ∷ words_with (fields_in r) values

pub row_reads : {A : Type 0} (r : Row A) (values : Values (fields_in r)) → row_sound r ≡ true →
    AllFit (fields_in r) values → said_in r (row_words r values) ≡ made_in r values
row_reads (row word fields make) values s h =
    let t = are_sound fields && nat_le (length fields) 6 in
    let sound = and_left (are_sound fields) (nat_le (length fields) 6)
    (and_right (is_word word && bytes_eq (map lowered word) word) t s) in
    ap (λ (o : Option (Values fields)). o >>= make) (next_at fields 0 word (words_with fields values)
    ∙ values_read fields values sound h)

pub row_all : {A : Type 0} (r : Row A) (values : Values (fields_in r)) → row_sound r ≡ true →
    AllFit (fields_in r) values → are_all (row_words r values) ≡ true
row_all (row word fields make) values s h =
    let w = is_word word && bytes_eq (map lowered word) word in
    let t = are_sound fields && nat_le (length fields) 6 in
    both (is_word word) (are_all (words_with fields values))
    (and_left (is_word word) (bytes_eq (map lowered word) word) (and_left w t s))
    (words_all fields values (and_left (are_sound fields) (nat_le (length fields) 6) (and_right w t s)) h)

pub row_few : {A : Type 0} (r : Row A) (values : Values (fields_in r)) → row_sound r ≡ true →
    (0 < length (row_words r values)) × (length (row_words r values) ≤ 7)
row_few (row word fields make) values s =
    let t = are_sound fields && nat_le (length fields) 6 in
    let few = and_right (are_sound fields) (nat_le (length fields) 6)
    (and_right (is_word word && bytes_eq (map lowered word) word) t s) in
    let count = words_count fields values in
    (omega arith, (let k : length fields ≤ 6 = grind (arith, nat_tests) in omega arith))

-- what reads by a row is what the row writes, in lower case
pub row_says : {A : Type 0} (r : Row A) (words : List (List ℕ)) (x : A) → row_sound r ≡ true →
    fits (map plain (fields_in r)) words ≡ true → said_in r (word_in r ∷ words) ≡ Some x →
    (values : Values (fields_in r)) × AllFit (fields_in r) values × (made_in r values ≡ Some x)
    × (low (word_in r ∷ words) ≡ row_words r values)
row_says (row word fields make) words x s f e =
    let w = is_word word && bytes_eq (map lowered word) word in
    let t = are_sound fields && nat_le (length fields) 6 in
    let v = bind_some (values_at fields 1 (word ∷ words)) make x e in
    let one = (bytes_eq-Decides (map lowered word) word).0
    (and_right (is_word word) (bytes_eq (map lowered word) word) (and_left w t s)) in
    let more = words_low fields words v.0 (and_left (are_sound fields) (nat_le (length fields) 6) (and_right w t s)) f
    (sym (next_at fields 0 word words) ∙ v.1) in (
      v.0,
      values_fit fields 1 (word ∷ words) v.0 v.1,
      v.2,
      ap (λ (x : List ℕ). x ∷ low words) one
          ∙ ap (λ (l : List (List ℕ)). word ∷ l) more,
    )

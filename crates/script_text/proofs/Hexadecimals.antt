-- Hexadecimal digits, and the numbers that they say.
use Rattle.std.proofs.Common.{◌≡◌, ℕ, zero, suc, ◌+◌, ◌-◌, ◌*◌, ◌/◌, ◌%◌, ◌<◌, ◌≤◌, ◌^◌, List, [], ◌∷◌, ◌++◌, length}
use Rattle.std.proofs.Common.{take, drop, refl, sym, ◌∙◌, ap, subst, arith, Bool, true, false, Some, None, Option, Ok, Err}
use Rattle.std.proofs.Common.{Result, ◌==◌, ◌&&◌, if◌then◌else◌, append-nil, length-append}
use Rattle.std.proofs.Math.ListN.{replicate}
use borrow.Rule.Slice.PartMut.{put_mid}
use Rattle.std.specs.Prelude.{MatchResult}
use Rattle.std.specs.List.{list_all}
use Rattle.std.specs.Char.{is_ascii_hexdigit, digit_value}
use Rattle.std.specs.Int.{w64, from_be_bytes}
use Rattle.std.specs.Str.Parse.{digits_value, digits_value_after, AllDigits}
use Rattle.std.proofs.lemmas.Bool.Decides.{nat_tests}
use Rattle.std.proofs.lemmas.Int.Digits.{digits_value-lt}
use Rattle.std.proofs.lemmas.List.{take-replicate, length-replicate, drop_all, length-take, length-drop}
use Rattle.std.proofs.lemmas.List.Sums.{list_all-from_AllPass, AllPass-from_list_all}
use Rattle.std.proofs.lemmas.Slice.{take-put_mid}
use Rattle.hex.specs.Hex.{decode_pairs, decode_sized, digit_or_error, hex_digit_value, is_hex_digit, ◌>>=◌}
use Rattle.hex.specs.declared.error.FromHexError.{FromHexError}
use Rattle.hex.proofs.HexLemmas.{IsOk-decode_sized}
use Rattle.hex.proofs.Pairs.{decode_sized-pairs}
use Rattle.script_text.specs.Numbers.{hexadecimal_named}

pub digit_small : (c : ℕ) → is_ascii_hexdigit c ≡ true → digit_value c < 16
digit_small c h = grind (arith, nat_tests)

pub and_left : (a b : Bool) → (a && b) ≡ true → a ≡ true
and_left true b h = refl
and_left false b h = cc

pub and_right : (a b : Bool) → (a && b) ≡ true → b ≡ true
and_right true b h = h
and_right false b h = cc

pub both : (a b : Bool) → a ≡ true → b ≡ true → (a && b) ≡ true
both true b p q = q
both false b p q = cc

pub and_last : (a : Bool) → (a && true) ≡ a
and_last true = refl
and_last false = refl

pub all_digits : (text : List ℕ) → list_all is_ascii_hexdigit text ≡ true → AllDigits 16 text
all_digits [] h = tt
all_digits (c ∷ text) h =
    (digit_small c (and_left (is_ascii_hexdigit c) (list_all is_ascii_hexdigit text) h), all_digits text (and_right (is_ascii_hexdigit c) (list_all is_ascii_hexdigit text) h))

picked : (b : Bool) (n m : ℕ) → (if b then Some n else None) ≡ Some m → (b ≡ true) × (n ≡ m)
picked true n m e = (refl, cc)
picked false n m e = cc

-- a number's digits are as many as they have to be, and the number is theirs
pub hexadecimal_is : (count : ℕ) (text : List ℕ) (v : ℕ) → hexadecimal_named count text ≡ Some v →
    (length text ≡ count) × (list_all is_ascii_hexdigit text ≡ true) × (digits_value 16 text ≡ v)
unfolding hexadecimal_named
hexadecimal_is count text v e =
    let p = picked (length text == count && list_all is_ascii_hexdigit text) (digits_value 16 text) v e in
    let same = and_left (length text == count) (list_all is_ascii_hexdigit text) p.0 in
    (grind (arith, nat_tests), and_right (length text == count) (list_all is_ascii_hexdigit text) p.0, p.1)

pub hexadecimal_small : (count : ℕ) (text : List ℕ) (v : ℕ) → hexadecimal_named count text ≡ Some v → v < 16 ^ count
hexadecimal_small count text v e =
    let is = hexadecimal_is count text v e in
    let less : digits_value 16 text < 16 ^ length text = digits_value-lt 16 text (all_digits text is.1) in
    let so : v < 16 ^ length text = subst (λ (n : ℕ). n < 16 ^ length text) is.2 less in
    subst (λ (n : ℕ). v < 16 ^ n) is.0 so

-- what is read of a word of that many digits
pub said_is : (count : ℕ) (text : List ℕ) → length text ≡ count → list_all is_ascii_hexdigit text ≡ true →
    Some (digits_value 16 text) ≡ hexadecimal_named count text
unfolding hexadecimal_named
said_is count text len h =
    let e : (length text == count) ≡ true = grind (arith, nat_tests) in
    rw (e, h) refl

-- == Digits as bytes

-- a digit says the same in the words of both crates
same_digit : (c : ℕ) → is_hex_digit c ≡ is_ascii_hexdigit c
same_digit c = grind (arith, nat_tests)

same_digits : (text : List ℕ) → list_all is_hex_digit text ≡ list_all is_ascii_hexdigit text
same_digits [] = refl
same_digits (c ∷ text) = let one = same_digit c in let rest = same_digits text in rw (one, rest) refl

same_value : (c v : ℕ) → hex_digit_value c ≡ Some v → v ≡ digit_value c
same_value c v e = grind (arith, nat_tests)

-- the number of bytes after a number, most significant first
abbrev number_after : ℕ → List ℕ → ℕ
number_after n [] = n
number_after n (b ∷ bytes) = number_after (n * 256 + b) bytes

-- two digits are a byte
pairs_say : (n i : ℕ) (text bytes : List ℕ) → decode_pairs i text ≡ Ok bytes →
    digits_value_after 16 n text ≡ number_after n bytes
unfolding decode_pairs
pairs_say n i [] bytes e = let same : [] ≡ bytes = cc in ap (number_after n) same
pairs_say n i (a ∷ []) bytes e = cc
pairs_say n i (a ∷ (b ∷ text)) bytes e =
    by (hex_digit_value a) (hex_digit_value b) (decode_pairs (i + 2) text) refl refl
    (λ m more r. pairs_say m (i + 2) text more r) e
  where
    by : (v w : Option ℕ) (r : Result (List ℕ) FromHexError) → hex_digit_value a ≡ v → hex_digit_value b ≡ w →
        ((m : ℕ) (more : List ℕ) → r ≡ Ok more → digits_value_after 16 m text ≡ number_after m more) →
        ((digit_or_error a i v >>= λ h. digit_or_error b (i + 1) w >>= λ l. Ok (h * 16 + l)) >>= λ byte.
        r >>= λ bytes. Ok (byte ∷ bytes)) ≡ Ok bytes →
        digits_value_after 16 n (a ∷ (b ∷ text)) ≡ number_after n bytes
    by (Some v) (Some w) (Ok more) p q rest e =
        let whole : (v * 16 + w) ∷ more ≡ bytes = cc in
        let high = same_value a v p in
        let low = same_value b w q in
        let m : (n * 16 + digit_value a) * 16 + digit_value b ≡ n * 256 + (v * 16 + w) = omega arith in
        ap (λ (x : ℕ). digits_value_after 16 x text) m ∙ rest (n * 256 + (v * 16 + w)) more refl
        ∙ ap (number_after n) whole
    by v w r p q rest e = cc

-- zeros in front say nothing
zero_bytes : (k : ℕ) (bytes : List ℕ) → number_after 0 (replicate k 0 ++ bytes) ≡ number_after 0 bytes
zero_bytes zero bytes = refl
zero_bytes (suc k) bytes = zero_bytes k bytes

zero_digits : (k : ℕ) (text : List ℕ) → digits_value 16 (replicate k 48 ++ text) ≡ digits_value 16 text
zero_digits zero text = refl
zero_digits (suc k) text = zero_digits k text

all_zeros : (k : ℕ) (text : List ℕ) →
    list_all is_ascii_hexdigit (replicate k 48 ++ text) ≡ list_all is_ascii_hexdigit text
all_zeros zero text = refl
all_zeros (suc k) text = all_zeros k text

-- eight bytes as a number
eight_bytes : (bytes : List ℕ) → length bytes ≡ 8 → from_be_bytes w64 bytes ≡ number_after 0 bytes
eight_bytes (a ∷ (b ∷ (c ∷ (d ∷ (e ∷ (f ∷ (g ∷ (h ∷ [])))))))) len = omega arith
eight_bytes bytes len = absurd (omega arith)

-- bytes at the end of eight zeros
last_of_eight : (l : ℕ) (bytes : List ℕ) → l ≤ 8 → length bytes ≡ l →
    put_mid (8 - l) (8 - (8 - l)) (replicate 8 0) bytes ≡ replicate (8 - l) 0 ++ bytes
last_of_eight l bytes few len =
    let zeros : List ℕ = replicate 8 0 in
    let m = 8 - (8 - l) in
    let front = take-replicate {X = ℕ} (8 - l) 8 0 (omega arith) in
    let rest : drop m (drop (8 - l) zeros) ≡ [] = drop_all m (drop (8 - l) zeros) (omega (arith, length-drop (8 - l) zeros)) in
    rw (front, rest, append-nil) refl

-- what is read of a word's digits, with a zero in front where they are odd, as the last of eight bytes
module _ (n : ℕ) (text : List ℕ) (few : n ≤ 16) (len : length text ≡ n) where
  abbrev odd : ℕ
  odd = n % 2

  abbrev half : ℕ
  half = (odd + n) / 2

  abbrev digits : List ℕ
  digits = take (odd + n) (put_mid odd (odd + n - odd) (replicate 16 48) text)

  abbrev room : List ℕ
  room = take (8 - (8 - half)) (drop (8 - half) (replicate 8 0))

  abbrev whole : List ℕ
  whole = replicate odd 48 ++ text

  digits_are : digits ≡ whole
  digits_are =
      let least : odd ≤ 16 = omega arith in
      take-put_mid odd (odd + n - odd) (replicate 16 48) text (odd + n) (ap (λ (k : ℕ). odd + k) (sym len)) least
      ∙ ap (λ (zeros : List ℕ). zeros ++ text) (take-replicate odd 16 48 least)

  room_is : length room ≡ half
  room_is =
      let zeros : List ℕ = replicate 8 0 in
      length-take (8 - (8 - half)) (drop (8 - half) zeros) ∙ omega (arith, length-drop (8 - half) zeros)

  whole_len : length whole ≡ 2 * half
  whole_len = length-append (replicate odd 48) text ∙ omega (arith, length-replicate {A = ℕ} odd 48)

  whole_all : list_all is_hex_digit whole ≡ list_all is_ascii_hexdigit text
  whole_all = same_digits whole ∙ all_zeros odd text

  decoded : (d : Result (List ℕ) FromHexError) → decode_sized digits (length room) ≡ d → decode_sized whole half ≡ d
  decoded d e =
      ap (λ (l : List ℕ). decode_sized l half) (sym digits_are) ∙ ap (decode_sized digits) (sym room_is) ∙ e

  abbrev number : List ℕ → ℕ
  number bytes = from_be_bytes w64 (put_mid (8 - half) (8 - (8 - half)) (replicate 8 0) bytes)

  digits_read : (bytes : List ℕ) → decode_sized digits (length room) ≡ Ok bytes → length bytes ≡ length room →
      Some (number bytes) ≡ hexadecimal_named n text
  digits_read bytes e size =
      let is = decoded (Ok bytes) e in
      let read = (IsOk-decode_sized whole half).0 (rw is refl) in
      let all = sym whole_all ∙ list_all-from_AllPass is_hex_digit whole read.1 in
      let even : length whole % 2 ≡ 0 = omega (arith, whole_len) in
      let pairs = sym (decode_sized-pairs whole half even (omega (arith, whole_len))) ∙ is in
      let zeros : List ℕ = replicate (8 - half) 0 in
      let eight : length (zeros ++ bytes) ≡ 8 =
      length-append zeros bytes ∙ omega (arith, length-replicate {A = ℕ} (8 - half) 0, size, room_is) in
      ap (λ (l : List ℕ). Some (from_be_bytes w64 l)) (last_of_eight half bytes (omega arith) (size ∙ room_is))
      ∙ ap Some (eight_bytes (zeros ++ bytes) eight ∙ zero_bytes (8 - half) bytes
      ∙ sym (pairs_say 0 0 whole bytes pairs) ∙ zero_digits odd text)
      ∙ said_is n text len all

  none_read : (e : FromHexError) → decode_sized digits (length room) ≡ Err e → None ≡ hexadecimal_named n text
  unfolding hexadecimal_named
  none_read e bad = by (list_all is_ascii_hexdigit text) refl
    where
      by : (v : Bool) → list_all is_ascii_hexdigit text ≡ v → None ≡ hexadecimal_named n text
      by true h =
          let all = AllPass-from_list_all is_hex_digit whole (whole_all ∙ h) in
          let ok = (IsOk-decode_sized whole half).1 (whole_len, all) in
          let never = rw (decoded (Err e) bad) at ok in cc
      by false h = let same : (length text == n) ≡ true = grind (arith, nat_tests) in rw (same, h) refl

  pub word_read : (r : Result (Unit {0}) FromHexError) (bytes : List ℕ) →
      MatchResult (decode_sized digits (length room)) (λ read. (r ≡ Ok tt) × (bytes ≡ read)) (λ e. r ≡ Err e) →
      length bytes ≡ length room →
      MatchResult r (λ done. Some (number bytes) ≡ hexadecimal_named n text) (λ e. None ≡ hexadecimal_named n text)
  word_read r bytes h size = by (decode_sized digits (length room)) refl r h
    where
      by : (d : Result (List ℕ) FromHexError) → decode_sized digits (length room) ≡ d →
          (r : Result (Unit {0}) FromHexError) →
          MatchResult d (λ read. (r ≡ Ok tt) × (bytes ≡ read)) (λ e. r ≡ Err e) →
          MatchResult r (λ done. Some (number bytes) ≡ hexadecimal_named n text) (λ e. None ≡ hexadecimal_named n text)
      by (Ok read) e (Ok done) h = digits_read bytes (e ∙ ap Ok (sym h.1)) size
      by (Ok read) e (Err f) h = let never = h.0 in cc
      by (Err f) e (Ok done) h = cc
      by (Err f) e (Err g) h = none_read f e

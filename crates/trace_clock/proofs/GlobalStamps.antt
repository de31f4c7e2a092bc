-- One more global timestamp.
use Rattle.std.proofs.Common.{◌≡◌, ◌≢◌, ℕ, zero, suc, ◌+◌, ◌*◌, ◌/◌, ◌^◌, ◌<◌, ◌≤◌, List, [], ◌∷◌, ◌++◌, refl, sym, ◌∙◌, ap, subst, arith, Bool, true, false, cond}
use Rattle.std.specs.Prelude.{◌==◌, ◌||◌, Option, None, Some, unwrap_or, option_map}
use Rattle.std.specs.List.{list_any, filter_map, last_or}
use Rattle.std.specs.Int.{bit_at}
use Rattle.std.proofs.lemmas.Bool.Decides.{nat_tests}
use Rattle.std.proofs.lemmas.List.Folds.{list_any-append}
use Rattle.std.proofs.lemmas.Nat.Bits.{bit_at-lt}
use Rattle.std.proofs.lemmas.Bool.{lt-ltb, le-ltb}
use Rattle.trace_clock.specs.GlobalTime.{GlobalStamp, First, Second, first_bits, is_whole, carried, high_said, low_part, high_part, known_low}
use Rattle.trace_clock.proofs.DigitSums.{number, number_same, number_of_digits, number_replaced}
use Rattle.trace_clock.proofs.LastStamps.{given, not_given}

-- the bits from 26 on
pub high_told : (stamps : List GlobalStamp) (value : ℕ) → high_part (stamps ++ Second value ∷ []) ≡ Some value
unfolding high_part
high_told stamps value =
    ap (λ o. unwrap_or o None) (given high_said stamps (Second value) (Some value) refl)

pub high_lost : (stamps : List GlobalStamp) (len value : ℕ) (wrap : Bool) → wrap ≡ true → high_part (stamps ++ First len value wrap ∷ []) ≡ None
unfolding high_part
high_lost stamps len value wrap e =
    let s : high_said (First len value wrap) ≡ Some None = ap (λ t. high_said (First len value t)) e in
    ap (λ o. unwrap_or o None) (given high_said stamps (First len value wrap) None s)

pub high_kept : (stamps : List GlobalStamp) (len value : ℕ) (wrap : Bool) → wrap ≡ false → high_part (stamps ++ First len value wrap ∷ []) ≡ high_part stamps
unfolding high_part
high_kept stamps len value wrap e =
    let s : high_said (First len value wrap) ≡ None = ap (λ t. high_said (First len value t)) e in
    ap (λ o. unwrap_or o None) (not_given high_said stamps (First len value wrap) s)

-- a bit under 26
abbrev low_bit : List GlobalStamp → ℕ → ℕ
low_bit stamps bit = bit_at (unwrap_or (last_or None (filter_map (carried bit) stamps)) 0) bit

bit_told : (stamps : List GlobalStamp) (len value : ℕ) (wrap : Bool) (b : ℕ) → b < first_bits len → low_bit (stamps ++ First len value wrap ∷ []) b ≡ bit_at value b
bit_told stamps len value wrap b h =
    let e : carried b (First len value wrap) ≡ Some value = ap (λ t. cond t (Some value) None) (lt-ltb b (first_bits len) h) in
    ap (λ o. bit_at (unwrap_or o 0) b) (given (carried b) stamps (First len value wrap) value e)

bit_kept : (stamps : List GlobalStamp) (stamp : GlobalStamp) (b : ℕ) → carried b stamp ≡ None → low_bit (stamps ++ stamp ∷ []) b ≡ low_bit stamps b
bit_kept stamps stamp b e = ap (λ o. bit_at (unwrap_or o 0) b) (not_given (carried b) stamps stamp e)

not_carried : (len value : ℕ) (wrap : Bool) (b : ℕ) → first_bits len ≤ b → carried b (First len value wrap) ≡ None
not_carried len value wrap b h = ap (λ t. cond t (Some value) None) (le-ltb b (first_bits len) h)

bit_lt : (stamps : List GlobalStamp) (b : ℕ) → low_bit stamps b < 2
bit_lt stamps b = bit_at-lt _ b

-- the low bits that a first timestamp carries are its own, and the others stay
part_told : (stamps : List GlobalStamp) (len value : ℕ) (wrap : Bool) (j : ℕ) → first_bits len ≡ suc j → j ≤ 25 → value < 2 ^ suc j →
    low_part (stamps ++ First len value wrap ∷ []) ≡ low_part stamps / 2 ^ suc j * 2 ^ suc j + value
unfolding low_part
part_told stamps len value wrap j e most h =
    let f : ℕ → ℕ = low_bit stamps in
    let g : ℕ → ℕ = low_bit (stamps ++ First len value wrap ∷ []) in
    let own : number 2 g j ≡ value =
    number_same 2 g (bit_at value) j (λ b k. bit_told stamps len value wrap b (omega (arith, e))) ∙ number_of_digits 2 (omega arith) value j h in
    let all : number 2 g 25 ≡ number 2 f 25 / 2 ^ suc j * 2 ^ suc j + number 2 g j =
    number_replaced 2 (omega arith) f g j 25 most (bit_lt stamps) (λ b k. bit_kept stamps (First len value wrap) b (not_carried len value wrap b (omega (arith, e)))) in
    all ∙ ap (λ v. number 2 f 25 / 2 ^ suc j * 2 ^ suc j + v) own

-- all of them
whole_told : (stamps : List GlobalStamp) (value : ℕ) (wrap : Bool) → value < 2 ^ 26 → low_part (stamps ++ First 4 value wrap ∷ []) ≡ value
unfolding low_part
whole_told stamps value wrap h =
    let g : ℕ → ℕ = low_bit (stamps ++ First 4 value wrap ∷ []) in
    number_same 2 g (bit_at value) 25 (λ b k. bit_told stamps 4 value wrap b (omega arith)) ∙ number_of_digits 2 (omega arith) value 25 h

-- a second one carries none
low_kept : (stamps : List GlobalStamp) (value : ℕ) → low_part (stamps ++ Second value ∷ []) ≡ low_part stamps
unfolding low_part
low_kept stamps value = number_same 2 (low_bit (stamps ++ Second value ∷ [])) (low_bit stamps) 25 (λ b k. bit_kept stamps (Second value) b refl)

replaced : (stamps : List GlobalStamp) (len value : ℕ) (wrap : Bool) (k : ℕ) → first_bits len ≡ k → 0 < k → k ≤ 26 → value < 2 ^ k →
    low_part (stamps ++ First len value wrap ∷ []) ≡ low_part stamps / 2 ^ k * 2 ^ k + value
replaced stamps len value wrap zero e some most h = absurd (omega arith)
replaced stamps len value wrap (suc j) e some most h = part_told stamps len value wrap j e (omega arith) h

-- the low bits where they are known
abbrev known : Bool → ℕ → Option ℕ
known whole bits = cond whole (Some bits) None

known_some : (whole : Bool) (bits value : ℕ) → known whole bits ≡ Some value → (whole ≡ true) × (bits ≡ value)
known_some true bits value e = (refl, (cc))
known_some false bits value e = absurd (let f : None ≡ Some value = e in cc)

known_none : (whole : Bool) (bits : ℕ) → known whole bits ≡ None → whole ≡ false
known_none true bits e = absurd (let f : Some bits ≡ None = e in cc)
known_none false bits e = refl

any_told : (stamps : List GlobalStamp) (stamp : GlobalStamp) → is_whole stamp ≡ true → list_any is_whole (stamps ++ stamp ∷ []) ≡ true
any_told stamps stamp e = list_any-append is_whole stamps (stamp ∷ []) ∙ ap (λ t. list_any is_whole stamps || (t || false)) e ∙ by (list_any is_whole stamps) where
  by : (t : Bool) → (t || true) ≡ true
  by true = refl
  by false = refl

any_kept : (stamps : List GlobalStamp) (stamp : GlobalStamp) → is_whole stamp ≡ false → list_any is_whole (stamps ++ stamp ∷ []) ≡ list_any is_whole stamps
any_kept stamps stamp e = list_any-append is_whole stamps (stamp ∷ []) ∙ ap (λ t. list_any is_whole stamps || (t || false)) e ∙ by (list_any is_whole stamps) where
  by : (t : Bool) → (t || false) ≡ t
  by true = refl
  by false = refl

not_four : (len : ℕ) → len ≢ 4 → ((len == 4) ≡ false) × (first_bits len ≡ 7 * len)
not_four len d = (test len d, ap (λ t. cond t 26 (7 * len)) (test len d)) where
  test : (n : ℕ) → n ≢ 4 → (n == 4) ≡ false
  test n d = grind (arith, nat_tests)

-- a first timestamp of four bytes tells the low bits
pub whole_known : (stamps : List GlobalStamp) (len value : ℕ) (wrap : Bool) → len ≡ 4 → value < 2 ^ first_bits len → known_low (stamps ++ First len value wrap ∷ []) ≡ Some value
whole_known stamps len value wrap e h =
    subst (λ (n : ℕ). value < 2 ^ first_bits n → known_low (stamps ++ First n value wrap ∷ []) ≡ Some value) (sym e) four h
  where
    four : value < 2 ^ 26 → known_low (stamps ++ First 4 value wrap ∷ []) ≡ Some value
    four h =
        ap (λ t. known t (low_part (stamps ++ First 4 value wrap ∷ []))) (any_told stamps (First 4 value wrap) refl)
        ∙ ap Some (whole_told stamps value wrap h)

-- one of fewer bytes replaces those that it carries where all are known, and else tells nothing
pub part_known : (stamps : List GlobalStamp) (len value : ℕ) (wrap : Bool) → len ≢ 4 → 0 < len → len ≤ 4 → value < 2 ^ first_bits len → (low : Option ℕ) →
    low ≡ known_low stamps → option_map (λ n. n / 2 ^ (7 * len) * 2 ^ (7 * len) + value) low ≡ known_low (stamps ++ First len value wrap ∷ [])
part_known stamps len value wrap d some most h (Some bits) e =
    let four = not_four len d in
    let was = known_some (list_any is_whole stamps) (low_part stamps) bits (sym e) in
    let fits : value < 2 ^ (7 * len) = subst (λ (k : ℕ). value < 2 ^ k) four.1 h in
    sym (ap (λ t. known t (low_part (stamps ++ First len value wrap ∷ []))) (any_kept stamps (First len value wrap) four.0 ∙ was.0)
    ∙ ap Some (replaced stamps len value wrap (7 * len) four.1 (omega arith) (omega arith) fits ∙ ap (λ n. n / 2 ^ (7 * len) * 2 ^ (7 * len) + value) was.1))
part_known stamps len value wrap d some most h None e =
    let was = known_none (list_any is_whole stamps) (low_part stamps) (sym e) in
    sym (ap (λ t. known t (low_part (stamps ++ First len value wrap ∷ []))) (any_kept stamps (First len value wrap) ((not_four len d).0) ∙ was))

-- a second timestamp tells nothing of them
pub same_known : (stamps : List GlobalStamp) (value : ℕ) → known_low (stamps ++ Second value ∷ []) ≡ known_low stamps
same_known stamps value =
    ap (λ t. known t (low_part (stamps ++ Second value ∷ []))) (any_kept stamps (Second value) refl)
    ∙ ap (λ n. known (list_any is_whole stamps) n) (low_kept stamps value)

-- One more timestamp after the others.
use Rattle.std.proofs.Common.{◌≡◌, ℕ, zero, suc, ◌+◌, ◌*◌, ◌/◌, ◌%◌, ◌^◌, ◌<◌, ◌≤◌, List, [], ◌∷◌, ◌++◌, refl, sym, ◌∙◌, ap, subst, arith, true, false, cond}
use Rattle.std.specs.Prelude.{◌↔◌, nat_eq, nat_lt, if◌then◌else◌, IsTrue, Option, None, Some, unwrap_or}
use Rattle.std.proofs.lemmas.Bool.Decides.{nat_tests}
use Rattle.std.proofs.lemmas.Nat.{pow-add, pow_pos, shr_split, shr_high}
use Rattle.std.proofs.Math.Nat.{mod-lt, div-eq_of_lt}
use Rattle.std.proofs.lemmas.Bool.{lt-ltb, le-ltb}
use Rattle.trace_clock.specs.GrayCode.{natural_of, gray_of}
use Rattle.trace_clock.specs.LastWord.{SizedWord, sized, nibble_count, WordFits, nibble_at, last_nibble, last_word, next_word, IsLeast}
use Rattle.trace_clock.proofs.DigitSums.{number, number_same, number_of_digits, number_replaced, number_lt, digit_of_number}
use Rattle.trace_clock.proofs.GrayCodes.{to_and_fro, fro_and_to}
use Rattle.trace_clock.proofs.LastStamps.{given, not_given}

none : (x y w : ℕ) → w < 1 → x ≡ y → x ≡ y / 16 ^ 0 * 16 ^ 0 + w
none x y w h e = omega arith

-- the word of a timestamp that has more than k nibbles
abbrev long_word : ℕ → SizedWord → Option ℕ
long_word k stamp = if nat_lt k (nibble_count stamp.size) then Some stamp.word else None

nibble_lt : (stamps : List SizedWord) (k : ℕ) → last_nibble stamps k < 16
nibble_lt stamps k = omega arith

module _ (stamps : List SizedWord) (stamp : SizedWord) where
  nibble_told : (k : ℕ) → k < nibble_count stamp.size → last_nibble (stamps ++ stamp ∷ []) k ≡ nibble_at stamp.word k
  nibble_told k h =
      let e : long_word k stamp ≡ Some stamp.word = ap (λ t. cond t (Some stamp.word) None) (lt-ltb k (nibble_count stamp.size) h) in
      ap (λ o. nibble_at (unwrap_or o 0) k) (given (long_word k) stamps stamp stamp.word e)

  nibble_kept : (k : ℕ) → nibble_count stamp.size ≤ k → last_nibble (stamps ++ stamp ∷ []) k ≡ last_nibble stamps k
  nibble_kept k h =
      let e : long_word k stamp ≡ None = ap (λ t. cond t (Some stamp.word) None) (le-ltb k (nibble_count stamp.size) h) in
      ap (λ o. nibble_at (unwrap_or o 0) k) (not_given (long_word k) stamps stamp e)

  replaced : (n : ℕ) → nibble_count stamp.size ≡ n → n ≤ 16 → stamp.word < 16 ^ n → last_word (stamps ++ stamp ∷ []) ≡ last_word stamps / 16 ^ n * 16 ^ n + stamp.word
  unfolding last_word
  replaced zero e most h =
      none (number 16 (last_nibble (stamps ++ stamp ∷ [])) 15) (number 16 (last_nibble stamps) 15) stamp.word h
      (number_same 16 (last_nibble (stamps ++ stamp ∷ [])) (last_nibble stamps) 15 (λ k l. nibble_kept k (omega (arith, e))))
  replaced (suc j) e most h =
      let f : ℕ → ℕ = last_nibble stamps in
      let g : ℕ → ℕ = last_nibble (stamps ++ stamp ∷ []) in
      let own : number 16 g j ≡ stamp.word =
      number_same 16 g (nibble_at stamp.word) j (λ k l. nibble_told k (omega (arith, e))) ∙ number_of_digits 16 (omega arith) stamp.word j h in
      let all : number 16 g 15 ≡ number 16 f 15 / 16 ^ suc j * 16 ^ suc j + number 16 g j =
      number_replaced 16 (omega arith) f g j 15 (omega arith) (nibble_lt stamps) (λ k l. nibble_kept k (omega (arith, e))) in
      all ∙ ap (λ v. number 16 f 15 / 16 ^ suc j * 16 ^ suc j + v) own

pub few_nibbles : (size : ℕ) → size < 15 → nibble_count size ≤ 16
few_nibbles size h = grind (arith, nat_tests)

pub few_bits : (size : ℕ) → size < 15 → 4 * nibble_count size ≤ 64
few_bits size h = let k = few_nibbles size h in omega (arith, k)

pub pow_of : (n : ℕ) → 2 ^ (4 * n) ≡ 16 ^ n
pow_of zero = refl
pow_of (suc n) =
    let e : 4 * suc n ≡ 4 * n + 4 = omega arith in
    let f : suc n ≡ n + 1 = omega arith in
    ap (λ k. 2 ^ k) e ∙ pow-add 2 (4 * n) 4 ∙ ap (λ x. x * 16) (pow_of n) ∙ sym (pow-add 16 n 1) ∙ ap (λ k. 16 ^ k) (sym f)

-- a word fits where no bits are above its nibbles
pub word_fits : (size word n : ℕ) → size < 15 → n ≡ nibble_count size → IsTrue (nat_eq (word / 2 ^ (4 * n)) 0) ↔ WordFits size word
word_fits size word n h e = (
  (λ t.
      let z = ap (λ q. q * 2 ^ (4 * n)) (is_none (word / 2 ^ (4 * n)) t) in
      let l : word < 2 ^ (4 * n) = omega (arith, z, shr_split word (4 * n), mod-lt word (pow_pos (4 * n))) in
      (h, subst (λ m. word < 16 ^ m) e (subst (λ x. word < x) (pow_of n) l))),
  (λ fits. none_is (word / 2 ^ (4 * n)) (div-eq_of_lt (subst (λ x. word < x) (sym (pow_of n)) (subst (λ m. word < 16 ^ m) (sym e) fits.1)))),
) where
  is_none : (a : ℕ) → IsTrue (nat_eq a 0) → a ≡ 0
  is_none a t = grind (arith, nat_tests)

  none_is : (a : ℕ) → a ≡ 0 → IsTrue (nat_eq a 0)
  none_is a t = grind (arith, nat_tests)

-- the laws of the last word
pub word_none : last_word [] ≡ 0
unfolding last_word
word_none = refl

pub word_more : (stamps : List SizedWord) (stamp : SizedWord) → WordFits stamp.size stamp.word → last_word (stamps ++ stamp ∷ []) ≡ next_word (last_word stamps) stamp
word_more stamps stamp fits = replaced stamps stamp (nibble_count stamp.size) refl (few_nibbles stamp.size fits.0) fits.1

pub word_nibble : (stamps : List SizedWord) (k : ℕ) → k < 16 → nibble_at (last_word stamps) k ≡ last_nibble stamps k
unfolding last_word
word_nibble stamps k h = digit_of_number 16 (omega arith) (last_nibble stamps) 15 k (nibble_lt stamps) (omega arith)

pub word_lt : (stamps : List SizedWord) → last_word stamps < 2 ^ 64
unfolding last_word
word_lt stamps = number_lt 16 (omega arith) (last_nibble stamps) 15 (nibble_lt stamps)

-- the high nibbles of the last word, which a timestamp of this size leaves, are the number's
abbrev pub IsSame : ℕ → ℕ → ℕ → Type 0
IsSame last target size = last / 2 ^ (4 * nibble_count size) ≡ target / 2 ^ (4 * nibble_count size)

-- the next word as the code makes it, by bits
pub by_bits : (last size word : ℕ) → next_word last (sized size word) ≡ last / 2 ^ (4 * nibble_count size) * 2 ^ (4 * nibble_count size) + word
by_bits last size word = ap (λ x. last / x * x + word) (sym (pow_of (nibble_count size)))

pub whole_word : (last size word : ℕ) → 4 * nibble_count size ≡ 64 → last < 2 ^ 64 → next_word last (sized size word) ≡ word
whole_word last size word e h = by_bits last size word ∙ subst (λ (k : ℕ). last / 2 ^ k * 2 ^ k + word ≡ word) (sym e) (let z : last / 2 ^ 64 * 2 ^ 64 + word ≡ word = omega arith in z)

only : (last target size word : ℕ) → WordFits size word → next_word last (sized size word) ≡ target → IsSame last target size
only last target size word fits e =
    let k = 4 * nibble_count size in
    let l : word < 2 ^ k = subst (λ x. word < x) (sym (pow_of (nibble_count size))) fits.1 in
    sym (shr_high (last / 2 ^ k) k word l) ∙ ap (λ x. x / 2 ^ k) (sym (by_bits last size word) ∙ e)

pub least_is : (stamps : List SizedWord) (target size : ℕ) → size < 15 → IsSame (last_word stamps) target size →
    ((s : ℕ) → s < size → IsSame (last_word stamps) target s → ⊥) → IsLeast false stamps target size (target % 2 ^ (4 * nibble_count size))
least_is stamps target size h e none =
    let k = 4 * nibble_count size in
    let fits : WordFits size (target % 2 ^ k) = (h, subst (λ x. target % 2 ^ k < x) (pow_of (nibble_count size)) (mod-lt target (pow_pos k))) in
    record {
      fits = fits;
      tells = word_more stamps (sized size (target % 2 ^ k)) fits ∙ by_bits (last_word stamps) size (target % 2 ^ k)
          ∙ ap (λ x. x * 2 ^ k + target % 2 ^ k) e ∙ shr_split target k;
      least = λ s w l m f. none s l (only (last_word stamps) target s w m (sym (word_more stamps (sized s w) m) ∙ f));
    }

pub greatest_is : (stamps : List SizedWord) (target : ℕ) → target < 2 ^ 64 → ((s : ℕ) → s < 14 → IsSame (last_word stamps) target s → ⊥) → IsLeast false stamps target 14 target
greatest_is stamps target h none =
    let l = word_lt stamps in
    let e : IsSame (last_word stamps) target 14 = omega (arith, l) in
    let m : target % 2 ^ 64 ≡ target = omega arith in
    subst (λ x. IsLeast false stamps target 14 x) m (least_is stamps target 14 (omega arith) e none)

-- the least for a time is that for its Gray number, where words are Gray
pub gray_least : (stamps : List SizedWord) (time size word : ℕ) → time < 2 ^ 64 → IsLeast false stamps (gray_of time) size word → IsLeast true stamps time size word
gray_least stamps time size word h l = record {
  fits = l.fits;
  tells = ap natural_of l.tells ∙ to_and_fro time h;
  least = λ s w less fits e.
      l.least s w less fits (sym (fro_and_to (last_word (stamps ++ sized s w ∷ [])) (word_lt (stamps ++ sized s w ∷ []))) ∙ ap gray_of e);
}

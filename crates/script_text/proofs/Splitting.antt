-- The words of a line, one by one.
use Rattle.std.proofs.Math.Seq.{take-length}
use Rattle.std.proofs.Common.{length-drop, ◌-◌, ◌≡◌, ℕ, zero, suc, ◌+◌, ◌<◌, List, [], ◌∷◌, length, take, drop, refl}
use Rattle.std.proofs.Common.{sym, ◌∙◌, ap, arith, Bool, true, false, nat_lt, ◌==◌, ◌&&◌, nat_le, slice_index}
use Rattle.std.specs.List.{prefix_len}
use Rattle.std.proofs.lemmas.Bool.Decides.{nat_tests}
use Rattle.script_text.specs.Words.{is_graphic, are_printable, words_in, are_words}
use Rattle.script_text.proofs.Hexadecimals.{and_last}

pub no_space : (b : ℕ) → is_graphic b ≡ true → (b == 32) ≡ false
no_space b h = grind (arith, nat_tests)

pub printable : (b : ℕ) → is_graphic b ≡ true → (nat_le 32 b && nat_le b 126) ≡ true
printable b h = grind (arith, nat_tests)

unprintable : (b : ℕ) → is_graphic b ≡ false → (b == 32) ≡ false → (nat_le 32 b && nat_le b 126) ≡ false
unprintable b h k = grind (arith, nat_tests)

-- a line of such bytes alone is one word
pub record IsWord (line : List ℕ) : Type 0 where
  pub printable : are_printable line ≡ true
  pub one : words_in line ≡ line ∷ []

pub more_word : (b : ℕ) (line : List ℕ) → is_graphic b ≡ true → IsWord line → IsWord (b ∷ line)
more_word b line g w =
    let p = printable b g in
    let s = no_space b g in
    let more = w.printable in
    let one = w.one in
    record { printable = rw (p, more) refl; one = rw (s, one) refl }

pub whole : (line : List ℕ) → prefix_len is_graphic line ≡ length line → IsWord line
whole [] h = record { printable = refl; one = refl }
whole (b ∷ line) h = by (is_graphic b) refl (whole line)
  where
    by : (v : Bool) → is_graphic b ≡ v → (prefix_len is_graphic line ≡ length line → IsWord line) → IsWord (b ∷ line)
    by true e more =
        let g : prefix_len is_graphic (b ∷ line) ≡ 1 + prefix_len is_graphic line = rw e refl in
        let k = h in more_word b line e (more (omega arith))
    by false e more = (let g : prefix_len is_graphic (b ∷ line) ≡ 0 = rw e refl in let k = h in absurd (omega arith))

-- with another byte, its words are the one before it, and those after, where that byte is a space; and else it is not
-- printable
pub record IsCut (line : List ℕ) (n : ℕ) : Type 0 where
  pub printable : are_printable line ≡ are_printable (drop (suc n) line)
  pub words : words_in line ≡ take n line ∷ words_in (drop (suc n) line)

pub more_cut : (b : ℕ) (line : List ℕ) (n : ℕ) → is_graphic b ≡ true → IsCut line n → IsCut (b ∷ line) (suc n)
more_cut b line n g c =
    let p = printable b g in
    let s = no_space b g in
    let more = c.printable in
    let words = c.words in
    record { printable = rw (p, more) refl; words = rw (s, words) refl }

pub cut : (line : List ℕ) (n : ℕ) → n ≡ prefix_len is_graphic line → n < length line → slice_index line n ≡ 32 → IsCut line n
cut [] n h l e = absurd (omega arith)
cut (b ∷ line) n h l e = by (is_graphic b) refl n h l e (cut line)
  where
    by : (v : Bool) → is_graphic b ≡ v → (n : ℕ) → n ≡ prefix_len is_graphic (b ∷ line) → n < length (b ∷ line) → slice_index (b ∷ line) n ≡ 32 →
        ((n : ℕ) → n ≡ prefix_len is_graphic line → n < length line → slice_index line n ≡ 32 → IsCut line n) → IsCut (b ∷ line) n
    by true g zero h l e more = (let k : prefix_len is_graphic (b ∷ line) ≡ 1 + prefix_len is_graphic line = rw g refl in let j = h in absurd (omega arith))
    by true g (suc n) h l e more =
        let k : prefix_len is_graphic (b ∷ line) ≡ 1 + prefix_len is_graphic line = rw g refl in
        let j = h in more_cut b line n g (more n (omega arith) (omega arith) e)
    by false g zero h l e more = (let s : b ≡ 32 = e in rw s (record { printable = refl; words = refl }))
    by false g (suc n) h l e more = (let k : prefix_len is_graphic (b ∷ line) ≡ 0 = rw g refl in let j = h in absurd (omega arith))

pub bad : (line : List ℕ) (n : ℕ) → n ≡ prefix_len is_graphic line → n < length line → (slice_index line n == 32) ≡ false → are_printable line ≡ false
bad [] n h l e = absurd (omega arith)
bad (b ∷ line) n h l e = by (is_graphic b) refl n h l e (bad line)
  where
    by : (v : Bool) → is_graphic b ≡ v → (n : ℕ) → n ≡ prefix_len is_graphic (b ∷ line) → n < length (b ∷ line) → (slice_index (b ∷ line) n == 32) ≡ false →
        ((n : ℕ) → n ≡ prefix_len is_graphic line → n < length line → (slice_index line n == 32) ≡ false → are_printable line ≡ false) → are_printable (b ∷ line) ≡ false
    by true g zero h l e more = (let k : prefix_len is_graphic (b ∷ line) ≡ 1 + prefix_len is_graphic line = rw g refl in let j = h in absurd (omega arith))
    by true g (suc n) h l e more =
        let k : prefix_len is_graphic (b ∷ line) ≡ 1 + prefix_len is_graphic line = rw g refl in
        let j = h in
        let p = printable b g in
        let rest = more n (omega arith) (omega arith) e in rw (p, rest) refl
    by false g zero h l e more = (let u = unprintable b g e in rw u refl)
    by false g (suc n) h l e more = (let k : prefix_len is_graphic (b ∷ line) ≡ 0 = rw g refl in let j = h in absurd (omega arith))

pub and_true : (a b : Bool) → a ≡ true → (a && b) ≡ b
and_true true b e = refl
and_true false b e = cc

and_false : (a b : Bool) → a ≡ false → (a && b) ≡ false
and_false true b e = cc
and_false false b e = refl

and_swap : (p a r : Bool) → a ≡ true → (p && r) ≡ (p && (a && r))
and_swap p true r e = refl
and_swap p false r e = cc

-- what is told of a line that is one word
pub whole_told : (n : ℕ) (line : List ℕ) (v : Bool) → IsWord line → v ≡ (nat_lt 0 (length line) && nat_lt n 8) → v ≡ (are_printable line && are_words n (words_in line))
whole_told n line v w told =
    told ∙ sym (and_last (nat_lt 0 (length line) && nat_lt n 8)) ∙ ap (are_words n) (sym w.one) ∙ sym (and_true (are_printable line) (are_words n (words_in line)) w.printable)

-- and of others
pub cut_told : (n m : ℕ) (line rest word : List ℕ) (v : Bool) → are_printable line ≡ are_printable rest → words_in line ≡ word ∷ words_in rest →
    (nat_lt 0 (length word) && nat_lt n 8) ≡ true → m ≡ n + 1 → v ≡ (are_printable rest && are_words m (words_in rest)) → v ≡ (are_printable line && are_words n (words_in line))
cut_told n m line rest word v p w told count e =
    e ∙ ap (λ (m : ℕ). are_printable rest && are_words m (words_in rest)) count
    ∙ and_swap (are_printable rest) (nat_lt 0 (length word) && nat_lt n 8) (are_words (n + 1) (words_in rest)) told
    ∙ ap (λ (p : Bool). p && are_words n (word ∷ words_in rest)) (sym p)
    ∙ ap (λ (l : List (List ℕ)). are_printable line && are_words n l) (sym w)

pub bad_told : (n : ℕ) (line : List ℕ) → are_printable line ≡ false → false ≡ (are_printable line && are_words n (words_in line))
bad_told n line p = sym (and_false (are_printable line) (are_words n (words_in line)) p)

-- the end of a line
pub end_of : (line : List ℕ) (n : ℕ) → take (length line - (n + 1)) (drop (n + 1) line) ≡ drop (suc n) line
end_of line n =
    let k : n + 1 ≡ suc n = omega arith in
    ap (λ (k : ℕ). take (length line - k) (drop k line)) k
    ∙ ap (λ (j : ℕ). take j (drop (suc n) line)) (sym (length-drop (suc n) line)) ∙ take-length (drop (suc n) line)

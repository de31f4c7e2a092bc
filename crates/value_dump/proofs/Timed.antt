-- Lines with that of the time before them.
use Rattle.std.proofs.Common.{◌≡◌, ℕ, suc, ◌+◌, ◌-◌, ◌^◌, ◌<◌, ◌≤◌, List, [], ◌∷◌, ◌++◌, length, refl, sym, ◌∙◌, ap}
use Rattle.std.proofs.Common.{arith, append_assoc, length-append, Option, Bool, true, false, cond}
use Rattle.std.specs.Prelude.{◌||◌, decimal}
use Rattle.std.proofs.lemmas.Fmt.{length-decimal-le_wide}
use Rattle.value_dump.specs.Dump.{change, changes, changes_of}
use Rattle.value_dump.specs.Lines.{are_some, binary, code_of, lines_with, time_line, timed, value_line}
use Rattle.value_dump.specs.Signals.{is_bit}
use Rattle.value_dump.proofs.Changes.{front_changes}

-- the line of a time has at most 41 bytes
short_time : (time : ℕ) → time < 2 ^ 128 → length (time_line time) ≤ 41
short_time time h =
    let k : length (decimal time) ≤ 39 =
    length-decimal-le_wide 39 time (omega arith) (omega (arith, h)) (omega (arith, h)) in
    let l = length-append (decimal time) (10 ∷ []) in
    omega (arith, k, l)

pub short_timed : (time : ℕ) → time < 2 ^ 128 → (lines : List ℕ) → length (timed time lines) ≤ 41 + length lines
short_timed time h [] = omega arith
short_timed time h (byte ∷ lines) =
    (let k = short_time time h in let l = length-append (time_line time) (byte ∷ lines) in omega (arith, k, l))

-- more lines after some
pub timed_more : (time : ℕ) (lines more : List ℕ) →
    timed time (lines ++ more) ≡ timed time lines ++ lines_with (are_some lines) time more
timed_more time [] more = refl
timed_more time (byte ∷ lines) more = sym (append_assoc (time_line time) (byte ∷ lines) more)

pub some_more : (lines more : List ℕ) → are_some (lines ++ more) ≡ (are_some lines || are_some more)
some_more [] more = refl
some_more (byte ∷ lines) more = refl

some_before : (front : List ℕ) (byte : ℕ) (rest : List ℕ) → are_some (front ++ byte ∷ rest) ≡ true
some_before [] byte rest = refl
some_before (x ∷ front) byte rest = refl

-- the line of a value is not empty
pub some_line : (number value : ℕ) → are_some (value_line number value) ≡ true
some_line number value = by (is_bit number) where
  by : (t : Bool) → are_some (cond t (binary value ++ code_of number ∷ 10 ∷ [])
      (98 ∷ (binary value ++ 32 ∷ code_of number ∷ 10 ∷ []))) ≡ true
  by true = some_before (binary value) (code_of number) (10 ∷ [])
  by false = refl

-- the lines of one more signal
pub next_lines : (count : ℕ) (old new : ℕ → Option ℕ) →
    changes_of (count + 1) old new ≡ changes_of count old new ++ change count (old count) (new count)
next_lines count old new = ap (λ (n : ℕ). changes_of n old new) (let e : count + 1 ≡ suc count = omega arith in e)

-- of no more signals than there are
pub front_all : (count : ℕ) (old new : ℕ → Option ℕ) → count ≤ 40 →
    length (changes_of count old new) ≤ length (changes old new)
unfolding changes
front_all count old new h =
    let e : 40 - count + count ≡ 40 = omega (arith, h) in
    let k = front_changes count (40 - count) old new in
    let l = ap (λ (n : ℕ). length (changes_of n old new)) e in
    omega (arith, k, l)

pub all_lines : (count : ℕ) (old new : ℕ → Option ℕ) → count ≡ 40 → changes_of count old new ≡ changes old new
unfolding changes
all_lines count old new e = ap (λ (n : ℕ). changes_of n old new) e

-- what an outlet holds after the lines of some signals, and after that of one more
module _ (count time : ℕ) (old new : ℕ → Option ℕ) (before held : List ℕ) (is_timed : Bool)
    (here : held ≡ before ++ timed time (changes_of count old new))
    (put : is_timed ≡ are_some (changes_of count old new)) where
  pub held_more : held ++ lines_with is_timed time (change count (old count) (new count))
      ≡ before ++ timed time (changes_of (count + 1) old new)
  held_more =
      ap (λ (t : Bool). held ++ lines_with t time (change count (old count) (new count))) put
      ∙ ap (λ (l : List ℕ).
      l ++ lines_with (are_some (changes_of count old new)) time (change count (old count) (new count))) here
      ∙ append_assoc before (timed time (changes_of count old new))
      (lines_with (are_some (changes_of count old new)) time (change count (old count) (new count)))
      ∙ ap (λ (l : List ℕ). before ++ l)
      (sym (timed_more time (changes_of count old new) (change count (old count) (new count))))
      ∙ ap (λ (l : List ℕ). before ++ timed time l) (sym (next_lines count old new))

  pub put_more : (is_timed || are_some (change count (old count) (new count)))
      ≡ are_some (changes_of (count + 1) old new)
  put_more =
      ap (λ (t : Bool). t || are_some (change count (old count) (new count))) put
      ∙ sym (some_more (changes_of count old new) (change count (old count) (new count)))
      ∙ ap are_some (sym (next_lines count old new))

  pub room_more : time < 2 ^ 128 → count < 40 →
      length held + length (lines_with is_timed time (change count (old count) (new count)))
      ≤ length before + (41 + length (changes old new))
  room_more small within =
      let e = ap (λ (l : List ℕ). length l) held_more in
      let f = length-append held (lines_with is_timed time (change count (old count) (new count))) in
      let g = length-append before (timed time (changes_of (count + 1) old new)) in
      let h = short_timed time small (changes_of (count + 1) old new) in
      let k = front_all (count + 1) old new (omega (arith, within)) in
      omega (arith, e, f, g, h, k)

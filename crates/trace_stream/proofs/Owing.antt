-- Bytes that are owed are put from the front of them.
use Rattle.std.proofs.Common.{◌≡◌, ℕ, zero, suc, ◌+◌, ◌-◌, ◌≤◌, ◌<◌, List, [], ◌++◌, length, drop, refl, sym, ap}
use Rattle.std.proofs.Common.{◌∙◌, append_assoc, append-nil, arith, true, false}
use Rattle.std.specs.Prelude.{nat_lt}
use Rattle.std.proofs.lemmas.List.{drop-drop, drop_all, length-append, drop-append-le, nil_from_length}
use Rattle.std.proofs.lemmas.Bool.Decides.{nat_tests}
use Rattle.std.proofs.Math.Seq.{drop-append_seam, drop-append-add}
use Rattle.trace_stream.specs.Debt.{Paid, owing, with_debt, calls_of, Pours}
use Rattle.trace_stream.specs.Owed.{last_of}

-- where no call is left nothing is owed
pub none_left : (all : List ℕ) → last_of 0 all ≡ []
none_left all = drop_all (length all - 0) all (omega arith)

pub with_owing : (held text : List ℕ) (calls : ℕ) → (calls ≡ 0 → text ≡ []) → with_debt held (owing text calls) ≡ held ++ text
with_owing held text zero none = sym (append-nil held) ∙ ap (λ (l : List ℕ). held ++ l) (sym (none refl))
with_owing held text (suc calls) none = refl

pub with_last : (held all : List ℕ) (owed : ℕ) → with_debt held (owing (last_of owed all) owed) ≡ held ++ last_of owed all
with_last held all owed =
    with_owing held (last_of owed all) owed (λ e. ap (λ (n : ℕ). last_of n all) e ∙ none_left all)

pub owing_none : (text : List ℕ) (calls : ℕ) → calls ≡ 0 → owing text calls ≡ Paid
owing_none text calls e = ap (owing text) e

calls_are : (text : List ℕ) (calls : ℕ) → calls_of (owing text calls) ≡ calls
calls_are text zero = refl
calls_are text (suc calls) = refl

-- the last bytes without their front
pub last_more : (all part more : List ℕ) (owed : ℕ) → owed ≤ length all → last_of owed all ≡ part ++ more
    → length part ≤ owed → last_of (owed - length part) all ≡ more
last_more all part more owed few parts within =
    let at : length all - (owed - length part) ≡ (length all - owed) + length part = omega arith in
    ap (λ (n : ℕ). drop n all) at ∙ sym (drop-drop (length part) (length all - owed) all)
    ∙ ap (drop (length part)) parts ∙ drop-append_seam part more

some_owed : (n : ℕ) → nat_lt 0 n ≡ true → 0 < n
some_owed n e = grind (arith, nat_tests)

none_owed : (n : ℕ) → nat_lt 0 n ≡ false → n ≡ 0
none_owed n e = grind (arith, nat_tests)

-- a front of what is owed is put
pub pours : (all part more before after : List ℕ) (owed left : ℕ) → owed ≤ length all → last_of owed all ≡ part ++ more
    → left ≡ owed - length part → length part ≤ owed → (0 < owed → 0 < length part) → after ≡ before ++ part
    → Pours (owing (last_of owed all) owed) (owing (last_of left all) left) before after (nat_lt 0 owed)
pours all part more before after owed left few parts is within some put =
    let last : last_of left all ≡ more =
    ap (λ (n : ℕ). last_of n all) is ∙ last_more all part more owed few parts within in
    record {
      put = with_last after all left ∙ ap (λ (l : List ℕ). l ++ last_of left all) put
          ∙ ap (λ (l : List ℕ). (before ++ part) ++ l) last ∙ append_assoc before part more
          ∙ ap (λ (l : List ℕ). before ++ l) (sym parts) ∙ sym (with_last before all owed);
      fewer = λ e. (
          let much = some (some_owed owed e) in
          let old = calls_are (last_of owed all) owed in
          let new = calls_are (last_of left all) left in
          omega (arith, much, old, new, is, within));
      none = λ e. (
          let zero_owed = none_owed owed e in
          let nothing : part ≡ [] = nil_from_length part (omega (arith, within, zero_owed)) in (
            owing_none (last_of left all) left (omega (arith, is, zero_owed)),
            put ∙ ap (λ (l : List ℕ). before ++ l) nothing ∙ append-nil before,
          ));
    }

-- What is owed of two parts, where some of the first is, and where all of it is put.
pub of_first : (first second : List ℕ) (owed : ℕ) → length second ≤ owed → owed ≤ length first + length second
    → last_of owed (first ++ second) ≡ drop (length first - (owed - length second)) first ++ second
of_first first second owed some few =
    let at : length (first ++ second) - owed ≡ length first - (owed - length second) =
    omega (arith, length-append first second, some, few) in
    ap (λ (n : ℕ). drop n (first ++ second)) at
    ∙ drop-append-le (length first - (owed - length second)) first second (omega arith)

pub of_second : (first second : List ℕ) (owed : ℕ) → owed ≤ length second
    → last_of owed (first ++ second) ≡ drop (length second - owed) second
of_second first second owed few =
    let at : length (first ++ second) - owed ≡ length first + (length second - owed) =
    omega (arith, length-append first second, few) in
    ap (λ (n : ℕ). drop n (first ++ second)) at ∙ drop-append-add first second (length second - owed)

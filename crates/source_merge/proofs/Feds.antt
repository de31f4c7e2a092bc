-- Bytes that are fed in parts.
use Rattle.std.proofs.Common.{◌≡◌, ℕ, zero, suc, ◌+◌, ◌-◌, ◌≤◌, List, take, drop, true, [], ◌∷◌, ◌++◌, length, refl, sym, ◌∙◌, ap, subst, append_assoc, append-nil, arith, length-append}
use Rattle.std.specs.Prelude.{◌==◌}
use Rattle.std.proofs.lemmas.List.{take_all, length-drop, length-take-le}
use Rattle.std.proofs.lemmas.Bool.Decides.{nat_tests}
use Rattle.trace_values.specs.Placed.{Placed, byte_at, placed_from}
use Rattle.deformatter.specs.Block.{EachByte, FedAs}
use Rattle.trace_values.proofs.Placing.{placed_from_append}
use Rattle.source_merge.specs.Answering.{goes_on}
use Rattle.source_merge.specs.declared.flow.Flow.{Flow}
use Rattle.source_merge.specs.declared.flow.Flow.TheVariants.{Going, Stopped}

module _ (Q : List Placed → ℕ → ℕ → Type 0) where
  pub each_append : (xs ys : List ℕ) (u : List Placed) (at : ℕ) → EachByte Q u at xs →
      EachByte Q (u ++ placed_from at xs) (at + length xs) ys → EachByte Q u at (xs ++ ys)
  each_append [] ys u at e f =
      subst (λ (v : List Placed). EachByte Q v at ys) (append-nil u)
      (subst (λ (n : ℕ). EachByte Q (u ++ []) n ys) (let z : at + 0 ≡ at = omega arith in z) f)
  each_append (x ∷ xs) ys u at e f = (
    e.0,
    each_append xs ys (u ++ byte_at at x ∷ []) (at + 1) e.1
        (subst (λ (v : List Placed). EachByte Q v (at + 1 + length xs) ys)
        (sym (append_assoc u (byte_at at x ∷ []) (placed_from (at + 1) xs)))
        (subst (λ (n : ℕ). EachByte Q (u ++ placed_from at (x ∷ xs)) n ys)
        (let z : at + length (x ∷ xs) ≡ at + 1 + length xs = omega arith in z) f)),
  )

  -- the last byte of a part may be the last of all
  pub fed_after : (L : List Placed → ℕ → ℕ → Type 0) (xs ys : List ℕ) (u : List Placed) (at : ℕ) → EachByte Q u at xs →
      FedAs Q L (u ++ placed_from at xs) (at + length xs) ys → FedAs Q L u at (xs ++ ys)
  fed_after L xs ys u at e f = record {
    front = xs ++ f.front;
    last = f.last;
    parts = ap (λ (l : List ℕ). xs ++ l) f.parts ∙ sym (append_assoc xs f.front (f.last ∷ []));
    quiet = each_append xs f.front u at e f.quiet;
    ends =
        subst (λ (v : List Placed). L v (at + length (xs ++ f.front)) f.last)
        (append_assoc u (placed_from at xs) (placed_from (at + length xs) f.front)
        ∙ ap (λ (l : List Placed). u ++ l) (sym (placed_from_append at xs f.front)))
        (subst (λ (n : ℕ). L ((u ++ placed_from at xs) ++ placed_from (at + length xs) f.front) n f.last)
        (let a = length-append xs f.front in let z : at + length xs + length f.front ≡ at + length (xs ++ f.front) = omega arith in z)
        f.ends);
  }

  -- or it may be as the others
  pub fed_each : (ys : List ℕ) (u : List Placed) (at : ℕ) → FedAs Q Q u at ys → EachByte Q u at ys
  fed_each ys u at f =
      subst (λ (l : List ℕ). EachByte Q u at l) (sym f.parts) (each_append f.front (f.last ∷ []) u at f.quiet (f.ends, tt))

  pub fed_one : (L : List Placed → ℕ → ℕ → Type 0) (byte : ℕ) (u : List Placed) (at : ℕ) → FedAs Q L u at (byte ∷ []) →
      L u at byte
  fed_one L byte u at f = by f.front f.parts f.ends where
    by : (front : List ℕ) → byte ∷ [] ≡ front ++ f.last ∷ [] → L (u ++ placed_from at front) (at + length front) f.last → L u at byte
    by [] e l =
        subst (λ (b : ℕ). L u at b) (let q = e in let z : f.last ≡ byte = cc in z)
        (subst (λ (n : ℕ). L u n f.last) (let z : at + 0 ≡ at = omega arith in z)
        (subst (λ (v : List Placed). L v (at + 0) f.last) (append-nil u) l))
    by (x ∷ []) e l = cc
    by (x ∷ (y ∷ front)) e l = cc

take_none : (k : ℕ) → take {A = ℕ} k [] ≡ []
take_none zero = refl
take_none (suc k) = refl

-- the front of a piece, and what is taken after it
pub take_parts : (n m : ℕ) (piece : List ℕ) → take (n + m) piece ≡ take n piece ++ take m (drop n piece)
take_parts zero m piece = ap (λ (k : ℕ). take k piece) (let z : 0 + m ≡ m = omega arith in z)
take_parts (suc n) m [] =
    ap (λ (k : ℕ). take k []) (let z : suc n + m ≡ suc (n + m) = omega arith in z) ∙ sym (take_none m)
take_parts (suc n) m (x ∷ piece) =
    ap (λ (k : ℕ). take k (x ∷ piece)) (let z : suc n + m ≡ suc (n + m) = omega arith in z)
    ∙ ap (λ (l : List ℕ). x ∷ l) (take_parts n m piece)

pub tail_of : (n : ℕ) (piece : List ℕ) → take (length piece - n) (drop n piece) ≡ drop n piece
tail_of n piece = take_all (length piece - n) (drop n piece) (let a = length-drop n piece in omega arith)

pub going_on : (flow : Flow) → goes_on flow ≡ true → flow ≡ Going
going_on Going e = refl
going_on (Stopped stop) e = cc

pub none_in : {X : Type 0} → (xs : List X) (n : ℕ) → n ≡ length xs → (n == 0) ≡ true → xs ≡ []
none_in [] n l e = refl
none_in (x ∷ xs) n l e = absurd (grind (arith, nat_tests))

-- a piece of which this many bytes are fed, and then some more
module _ (piece : List ℕ) (n m at : ℕ) (within : n ≤ length piece) (u : List Placed) where
  abbrev front : List ℕ
  front = take n piece

  abbrev more : List ℕ
  more = take m (take (length piece - n) (drop n piece))

  long : length (take n piece) ≡ n
  long = length-take-le n piece within

  both : take (n + m) piece ≡ take n piece ++ take m (take (length piece - n) (drop n piece))
  both = take_parts n m piece ∙ ap (λ (l : List ℕ). take n piece ++ take m l) (sym (tail_of n piece))

  pub more_list : (P : List Placed → Type 0) → P ((u ++ placed_from at front) ++ placed_from (at + n) more) →
      P (u ++ placed_from at (take (n + m) piece))
  more_list P p =
      subst P
      (append_assoc u (placed_from at front) (placed_from (at + n) more)
      ∙ ap (λ (v : List Placed). u ++ v)
      (ap (λ (k : ℕ). placed_from at front ++ placed_from (at + k) more) (sym long)
      ∙ sym (placed_from_append at front more) ∙ ap (placed_from at) (sym both))) p

  pub more_fed : (Q L : List Placed → ℕ → ℕ → Type 0) → EachByte Q u at front →
      FedAs Q L (u ++ placed_from at front) (at + n) more → FedAs Q L u at (take (n + m) piece)
  more_fed Q L e f =
      subst (λ (l : List ℕ). FedAs Q L u at l) (sym both)
      (fed_after Q L front more u at e
      (subst (λ (k : ℕ). FedAs Q L (u ++ placed_from at front) (at + k) more) (sym long) f))

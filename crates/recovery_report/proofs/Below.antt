-- Units, and what is said, before an offset; and faults at a place.
use Rattle.std.proofs.Common.{◌≡◌, ℕ, ◌+◌, ◌<◌, ◌≤◌, List, [], ◌∷◌, ◌++◌, drop, refl, sym}
use Rattle.std.proofs.Common.{◌∙◌, ap, subst, arith, Option, None, Some}
use Rattle.std.proofs.Common.{true, false, cond}
use Rattle.std.specs.Prelude.{filter, nat_lt}
use Rattle.std.proofs.lemmas.Bool.Decides.{nat_tests}
use Rattle.trace_values.specs.declared.fault.Reason.{Reason}
use Rattle.trace_values.specs.Placed.{Place, Placed}
use Rattle.trace_values.proofs.OneUnit.{AllOn, FaultOn}
use Rattle.source_events.specs.Merge.{IsAtMost}
use Rattle.recovery_report.proofs.Spans.{UnitsTo, at_le}
use Rattle.recovery_report.proofs.Spans.{units_drop, units_le}

-- units, and what is said, before an offset
abbrev pub UnitsBelow : ℕ → List Placed → Type 0
UnitsBelow n [] = Unit {0}
UnitsBelow n (u ∷ us) = (u.place.at < n) × UnitsBelow n us

abbrev pub SaidBelow : {W : Type 0} → ℕ → List (W × Place) → Type 0
SaidBelow n [] = Unit {0}
SaidBelow n (x ∷ xs) = (x.1.at < n) × SaidBelow n xs

pub units_join : (n : ℕ) (u w : List Placed) → UnitsBelow n u → UnitsBelow n w → UnitsBelow n (u ++ w)
units_join n [] w a b = b
units_join n (x ∷ u) w a b = (a.0, units_join n u w a.1 b)

pub units_later : (n m : ℕ) (u : List Placed) → n ≤ m → UnitsBelow n u → UnitsBelow m u
units_later n m [] l a = tt
units_later n m (x ∷ u) l a = ((let k = a.0 in omega arith), units_later n m u l a.1)

pub said_join : {W : Type 0} (n : ℕ) (xs ys : List (W × Place)) → SaidBelow n xs → SaidBelow n ys → SaidBelow n (xs ++ ys)
said_join n [] ys a b = b
said_join n (x ∷ xs) ys a b = (a.0, said_join n xs ys a.1 b)

pub said_later : {W : Type 0} (n m : ℕ) (xs : List (W × Place)) → n ≤ m → SaidBelow n xs → SaidBelow m xs
said_later n m [] l a = tt
said_later n m (x ∷ xs) l a = ((let k = a.0 in omega arith), said_later n m xs l a.1)

pub on_below : {W : Type 0} (p : Place) (n : ℕ) (xs : List (W × Place)) → p.at < n → AllOn p xs → SaidBelow n xs
on_below p n [] l a = tt
on_below p n (x ∷ xs) l a = (subst (λ (q : Place). q.at < n) (sym a.0) l, on_below p n xs l a.1)

-- the units before the byte in which something is said first
pub is_below : (a n : ℕ) → a < n → nat_lt a n ≡ true
is_below a n l = grind (arith, nat_tests)

pub is_not_below : (a n : ℕ) → n ≤ a → nat_lt a n ≡ false
is_not_below a n l = grind (arith, nat_tests)

pub all_below : (n : ℕ) (u : List Placed) → UnitsBelow n u → filter (λ (x : Placed). nat_lt x.place.at n) u ≡ u
all_below n [] a = refl
all_below n (x ∷ u) a =
    let rest = filter (λ (y : Placed). nat_lt y.place.at n) u in
    ap (λ b. cond b (x ∷ rest) rest) (is_below x.place.at n a.0) ∙ ap (λ l. x ∷ l) (all_below n u a.1)

pub none_below : (n : ℕ) (p q : Place) (u : List Placed) → n ≤ p.at → UnitsTo p q u →
    filter (λ (x : Placed). nat_lt x.place.at n) u ≡ []
none_below n p q [] l a = refl
none_below n p q (x ∷ u) l a =
    let rest = filter (λ (y : Placed). nat_lt y.place.at n) u in
    let low : n ≤ x.place.at = (let k = at_le p x.place a.0 in omega (arith, k, l)) in
    ap (λ b. cond b (x ∷ rest) rest) (is_not_below x.place.at n low) ∙ none_below n x.place q u low a.1

pub units_below : (p q : Place) (n : ℕ) (w : List Placed) → UnitsTo p q w → q.at < n → UnitsBelow n w
units_below p q n [] a l = tt
units_below p q n (b ∷ w) a l = (
  (let k = at_le b.place q (units_le b.place q w a.1) in omega (arith, k, l)),
  units_below b.place q n w a.1 l,
)

-- a list longer than one keeps its rest
pub drop_more : (p q : Place) (u w : List Placed) → UnitsTo p q w →
    (more : List Placed) × (drop 1 (u ++ w) ≡ drop 1 u ++ more) × UnitsTo p q more
drop_more p q [] w i = (drop 1 w, refl, units_drop p q w i)
drop_more p q (x ∷ u) w i = (w, refl, i)

pub is_within : (p q r : Place) (n : ℕ) → p.at ≡ n → r.at ≡ n → IsAtMost p q → IsAtMost q r → q.at ≡ n
is_within p q r n a b l m = let k = at_le p q l in let h = at_le q r m in omega (arith, k, h, a, b)

-- a fault, where there is one, is at this place
abbrev pub EndsAt : Place → Option (Place × Reason) → Type 0
EndsAt q None = Unit {0}
EndsAt q (Some f) = f.0 ≡ q

pub ends_on : (q : Place) (old new : Option (Place × Reason)) → old ≡ None → FaultOn q old new → EndsAt q new
ends_on q None None e f = tt
ends_on q None (Some g) e f = f
ends_on q (Some g) new e f = absurd (let k = e in cc)

pub ends_none : (q : Place) (o : Option (Place × Reason)) → o ≡ None → EndsAt q o
ends_none q None e = tt
ends_none q (Some f) e = absurd (let k = e in cc)

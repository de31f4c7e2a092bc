-- What is at places in order, from one place on and up to another.
use Rattle.std.proofs.Common.{◌≡◌, ℕ, ◌<◌, ◌≤◌, List, [], ◌∷◌, ◌++◌, drop, filter, flat_map, refl, sym, subst}
use Rattle.std.proofs.Common.{arith, inl, Bool, true, false, cond}
use Rattle.std.specs.Prelude.{nat_lt}
use Rattle.std.proofs.lemmas.Bool.Decides.{nat_tests}
use Rattle.trace_values.specs.Placed.{Place, Placed}
use Rattle.trace_values.specs.Stream.{Said, Notice, Kept}
use Rattle.trace_values.proofs.OneUnit.{AllOn}
use Rattle.source_events.specs.Merge.{AllIn, IsAtMost, start_of}
use Rattle.source_events.proofs.Merges.{at_most_self, at_most_trans, below_start}
use Rattle.stretch_readings.specs.declared.heard.Heard.{Heard}
use Rattle.stretch_readings.specs.declared.heard.Heard.TheVariants.{Read, Broken, Guessed, Misread}
use Rattle.stretch_readings.specs.Guessing.{as_guess}

abbrev pub AllTo : {W : Type 0} → Place → Place → List (W × Place) → Type 0
AllTo p q [] = IsAtMost p q
AllTo p q (x ∷ xs) = IsAtMost p x.1 × AllTo x.1 q xs

abbrev pub UnitsTo : Place → Place → List Placed → Type 0
UnitsTo p q [] = IsAtMost p q
UnitsTo p q (b ∷ w) = IsAtMost p b.place × UnitsTo b.place q w

pub at_le : (p q : Place) → IsAtMost p q → p.at ≤ q.at
at_le p q l = grind (arith, l)

module _ {W : Type 0} where
  pub to_le : (p q : Place) (xs : List (W × Place)) → AllTo p q xs → IsAtMost p q
  to_le p q [] a = a
  to_le p q (x ∷ xs) a = at_most_trans p x.1 q a.0 (to_le x.1 q xs a.1)

  pub to_later : (o p q : Place) (xs : List (W × Place)) → IsAtMost o p → AllTo p q xs → AllTo o q xs
  to_later o p q [] l a = at_most_trans o p q l a
  to_later o p q (x ∷ xs) l a = (at_most_trans o p x.1 l a.0, a.1)

  pub to_more : (p q r : Place) (xs : List (W × Place)) → AllTo p q xs → IsAtMost q r → AllTo p r xs
  to_more p q r [] a l = at_most_trans p q r a l
  to_more p q r (x ∷ xs) a l = (a.0, to_more x.1 q r xs a.1 l)

  pub to_join : (p q r : Place) (xs ys : List (W × Place)) → AllTo p q xs → AllTo q r ys → AllTo p r (xs ++ ys)
  to_join p q r [] ys a b = to_later p q r ys a b
  to_join p q r (x ∷ xs) ys a b = (a.0, to_join x.1 q r xs ys a.1 b)

  pub on_to : (p q : Place) (xs : List (W × Place)) → IsAtMost p q → AllOn q xs → AllTo p q xs
  on_to p q [] l a = l
  on_to p q (x ∷ xs) l a = (
    subst (λ (z : Place). IsAtMost p z) (sym a.0) l,
    on_to x.1 q xs (subst (λ (z : Place). IsAtMost z q) (sym a.0) (at_most_self q)) a.1,
  )

  pub to_in : (p q : Place) (n : ℕ) (xs : List (W × Place)) → AllTo p q xs → q.at < n → AllIn p n xs
  to_in p q n [] a l = tt
  to_in p q n (x ∷ xs) a l =
      let k = at_le x.1 q (to_le x.1 q xs a.1) in (a.0, omega (arith, k, l), to_in x.1 q n xs a.1 l)

  -- before an offset, and then from it on
  pub in_join : (p : Place) (m n : ℕ) (xs ys : List (W × Place)) → IsAtMost p (start_of m) → m ≤ n → AllIn p m xs →
      AllIn (start_of m) n ys → AllIn p n (xs ++ ys)
  in_join p m n [] [] l b a c = tt
  in_join p m n [] (y ∷ ys) l b a c = (at_most_trans p (start_of m) y.1 l c.0, c.1, c.2)
  in_join p m n (x ∷ xs) ys l b a c =
      (a.0, (let k = a.1 in omega arith), in_join x.1 m n xs ys (below_start x.1 m a.1) b a.2 c)

pub units_le : (p q : Place) (w : List Placed) → UnitsTo p q w → IsAtMost p q
units_le p q [] a = a
units_le p q (b ∷ w) a = at_most_trans p b.place q a.0 (units_le b.place q w a.1)

pub units_later : (o p q : Place) (w : List Placed) → IsAtMost o p → UnitsTo p q w → UnitsTo o q w
units_later o p q [] l a = at_most_trans o p q l a
units_later o p q (b ∷ w) l a = (at_most_trans o p b.place l a.0, a.1)

pub units_push : (p q : Place) (w : List Placed) (b : Placed) → UnitsTo p q w → IsAtMost q b.place →
    UnitsTo p b.place (w ++ b ∷ [])
units_push p q [] b a l = (at_most_trans p q b.place a l, at_most_self b.place)
units_push p q (x ∷ w) b a l = (a.0, units_push x.place q w b a.1 l)

pub units_drop : (p q : Place) (w : List Placed) → UnitsTo p q w → UnitsTo p q (drop 1 w)
units_drop p q [] a = a
units_drop p q (b ∷ w) a = units_later p b.place q w a.0 a.1

pub units_join : (p q r : Place) (u w : List Placed) → UnitsTo p q u → UnitsTo q r w → UnitsTo p r (u ++ w)
units_join p q r [] w a b = units_later p q r w a b
units_join p q r (x ∷ u) w a b = (a.0, units_join x.place q r u w a.1 b)

-- those that are before an offset
is_before : (b e : Place) → nat_lt b.at e.at ≡ true → IsAtMost b e
is_before b e t = inl (grind (arith, nat_tests, t))

pub units_before : (p q e : Place) (w : List Placed) → UnitsTo p q w → IsAtMost p e →
    UnitsTo p e (filter (λ (b : Placed). nat_lt b.place.at e.at) w)
units_before p q e [] a l = l
units_before p q e (b ∷ w) a l =
    by (nat_lt b.place.at e.at) (λ t. units_before b.place q e w a.1 (is_before b.place e t))
    (units_before p q e w (units_later p b.place q w a.0 a.1) l) refl where
      rest : List Placed
      rest = filter (λ (x : Placed). nat_lt x.place.at e.at) w

      by : (t : Bool) → (nat_lt b.place.at e.at ≡ true → UnitsTo b.place e rest) → UnitsTo p e rest →
          nat_lt b.place.at e.at ≡ t → UnitsTo p e (cond t (b ∷ rest) rest)
      by true taken left k = (a.0, taken k)
      by false taken left k = left

-- as guesses
pub guess_to : {V : Type 0} (p q : Place) (xs : List (Said (Heard V) × Place)) → AllTo p q xs →
    AllTo p q (flat_map as_guess xs)
guess_to p q [] a = a
guess_to p q ((Kept (Read v), place) ∷ xs) a = (a.0, guess_to place q xs a.1)
guess_to p q ((Kept (Broken reason), place) ∷ xs) a = (a.0, guess_to place q xs a.1)
guess_to p q ((Kept (Guessed v), place) ∷ xs) a =
    to_later p place q (flat_map as_guess xs) a.0 (guess_to place q xs a.1)
guess_to p q ((Kept (Misread reason), place) ∷ xs) a =
    to_later p place q (flat_map as_guess xs) a.0 (guess_to place q xs a.1)
guess_to p q ((Notice skipped, place) ∷ xs) a =
    to_later p place q (flat_map as_guess xs) a.0 (guess_to place q xs a.1)

-- One element more at the end of a list.
use Rattle.std.proofs.Common.{◌≡◌, ◌+◌, ◌-◌, List, [], ◌∷◌, ◌++◌, length, drop, refl, ◌∙◌, ap, arith, length-append, Bool, true, false, not, cond}
use Rattle.std.specs.Prelude.{Option, None, Some}
use Rattle.std.specs.List.{filter_map, cons_option, last_or, after_last, prefix_len, suffix_len}
use Rattle.std.proofs.lemmas.List.{reverse-append, drop-append-le, append-nil}
use Rattle.std.proofs.lemmas.List.Elements.{filter_map-append}
use Rattle.std.proofs.Math.Seq.{drop-length}

last_or-push : {A : Type 0} (o : Option A) (xs : List A) (y : A) → last_or o (xs ++ y ∷ []) ≡ Some y
last_or-push o [] y = refl
last_or-push o (x ∷ xs) y = last_or-push (Some x) xs y

-- the last value that h gives of the elements
abbrev pub last_given : {X Y : Type 0} → (X → Option Y) → List X → Option Y
last_given h xs = last_or None (filter_map h xs)

pub given : {X Y : Type 0} (h : X → Option Y) (xs : List X) (x : X) (y : Y) → h x ≡ Some y → last_given h (xs ++ x ∷ []) ≡ Some y
given h xs x y e =
    ap (last_or None) (filter_map-append h xs (x ∷ []) ∙ ap (λ o. filter_map h xs ++ cons_option o []) e) ∙ last_or-push None (filter_map h xs) y

pub not_given : {X Y : Type 0} (h : X → Option Y) (xs : List X) (x : X) → h x ≡ None → last_given h (xs ++ x ∷ []) ≡ last_given h xs
not_given h xs x e =
    ap (last_or None) (filter_map-append h xs (x ∷ []) ∙ ap (λ o. filter_map h xs ++ cons_option o []) e ∙ append-nil (filter_map h xs))

suffix_len-push : {X : Type 0} (p : X → Bool) (xs : List X) (x : X) → suffix_len p (xs ++ x ∷ []) ≡ cond (p x) (1 + suffix_len p xs) 0
suffix_len-push p xs x = ap (prefix_len p) (reverse-append xs (x ∷ []))

-- nothing comes after an element that passes the test, and one that does not is one more after the last that does
pub after_itself : {X : Type 0} (p : X → Bool) (xs : List X) (x : X) → p x ≡ true → after_last p (xs ++ x ∷ []) ≡ []
after_itself {X} p xs x e =
    let q : X → Bool = λ y. not (p y) in
    let none : suffix_len q (xs ++ x ∷ []) ≡ 0 = suffix_len-push q xs x ∙ ap (λ b. cond (not b) (1 + suffix_len q xs) 0) e in
    let all : length (xs ++ x ∷ []) - suffix_len q (xs ++ x ∷ []) ≡ length (xs ++ x ∷ []) = omega (arith, none) in
    ap (λ n. drop n (xs ++ x ∷ [])) all ∙ drop-length (xs ++ x ∷ [])

pub after_same : {X : Type 0} (p : X → Bool) (xs : List X) (x : X) → p x ≡ false → after_last p (xs ++ x ∷ []) ≡ after_last p xs ++ x ∷ []
after_same {X} p xs x e =
    let q : X → Bool = λ y. not (p y) in
    let more : suffix_len q (xs ++ x ∷ []) ≡ 1 + suffix_len q xs = suffix_len-push q xs x ∙ ap (λ b. cond (not b) (1 + suffix_len q xs) 0) e in
    let size : length (xs ++ x ∷ []) ≡ length xs + 1 = length-append xs (x ∷ []) in
    let front : length (xs ++ x ∷ []) - suffix_len q (xs ++ x ∷ []) ≡ length xs - suffix_len q xs = omega (arith, more, size) in
    ap (λ n. drop n (xs ++ x ∷ [])) front ∙ drop-append-le (length xs - suffix_len q xs) xs (x ∷ []) (omega arith)

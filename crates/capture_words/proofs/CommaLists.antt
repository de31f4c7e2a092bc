-- A text names exactly the list whose text it is, each item with commas between, and how the search of it goes.
use Rattle.std.proofs.Common.{◌≡◌, ◌↔◌, ℕ, zero, suc, ◌<◌, ◌≤◌, ◌+◌, List, [], ◌∷◌, ◌++◌, Bool, true, false}
use Rattle.std.proofs.Common.{Option, Some, None, refl, sym, ap, ◌∙◌, subst, length, arith, map, option_map, nat_le, ◌==◌}
use Rattle.std.proofs.Common.{if◌then◌else◌, get_or, take}
use Rattle.std.specs.List.{AllByRecursion, slice_split, join_with_byte}
use Rattle.std.specs.Iterator.{Yields}
use Rattle.std.specs.Option.{option_and_then}
use Rattle.std.proofs.lemmas.Bool.Decides.{nat_tests}
use Rattle.std.proofs.lemmas.Iterator.{YieldsList}
use Rattle.std.proofs.lemmas.List.{length-map, length-take-le, take_all, take_more}
use Rattle.std.proofs.lemmas.List.Splits.{join_with_byte-slice_split, length-slice_split}
use Rattle.clap.specs.Words.{Text}
use Rattle.clap.proofs.CutLemmas.{Lacks, slice_split-Lacks, slice_split-at}
use Rattle.capture_words.specs.Values.{each, at_most, parts_named}

abbrev pub cut : Text → List Text
cut = slice_split (λ c. c == 44)

-- == Lists that are not too long

pub at_most_so : {T : Type 0} (most : ℕ) (xs : List T) → length xs ≤ most → at_most most xs ≡ Some xs
at_most_so most xs h = let few : nat_le (length xs) most ≡ true = grind (arith, nat_tests) in rw few refl

at_most_not : {T : Type 0} (most : ℕ) (xs : List T) → most < length xs → at_most most xs ≡ None
at_most_not most xs h = let few : nat_le (length xs) most ≡ false = grind (arith, nat_tests) in rw few refl

few_is : {T : Type 0} (most : ℕ) (xs all : List T) → at_most most xs ≡ Some all → (xs ≡ all) × (length all ≤ most)
few_is {T} most xs all e = go (nat_le (length xs) most) refl e
  where
    go : (b : Bool) → nat_le (length xs) most ≡ b → (if b then Some xs else None) ≡ Some all →
        (xs ≡ all) × (length all ≤ most)
    go false b e = absurd cc
    go true b e =
        let few : length xs ≤ most = grind (arith, nat_tests) in
        let same : xs ≡ all = cc in
        (same, subst (λ (l : List T). length l ≤ most) same few)

-- == Each of some texts

abbrev joined : {T : Type 0} → Option (List T) → Option T → Option (List T)
joined others first = option_and_then (λ value. option_map (λ values. value ∷ values) others) first

no_others : {T : Type 0} (first : Option T) → joined None first ≡ None
no_others None = refl
no_others (Some x) = refl

-- one that names nothing
each_none : {T : Type 0} (named : Text → Option T) (parts : List Text) (i : ℕ) (part : Text) → i < length parts →
    part ≡ get_or parts i part → named part ≡ None → each (map named parts) ≡ None
each_none named [] i part lt is none = absurd (omega (arith, lt))
each_none named (first ∷ parts) zero part lt is none =
    ap (joined (each (map named parts))) (ap named (sym is) ∙ none)
each_none named (first ∷ parts) (suc i) part lt is none =
    ap (λ others. joined others (named first)) (each_none named parts i part (omega (arith, lt)) is none)
    ∙ no_others (named first)

-- one more
each_push : {T : Type 0} (named : Text → Option T) (parts : List Text) (part : Text) (xs : List T) (x : T) →
    each (map named parts) ≡ Some xs → named part ≡ Some x → each (map named (parts ++ part ∷ [])) ≡ Some (xs ++ x ∷ [])
each_push named [] part [] x e is = ap (joined (Some [])) is
each_push named [] part (y ∷ xs) x e is = absurd cc
each_push {T} named (first ∷ parts) part xs x e is =
    go (named first) (each (map named parts)) (λ ys so. each_push named parts part ys x so is) refl xs e
  where
    go : (f : Option T) (o : Option (List T)) →
        ((ys : List T) → each (map named parts) ≡ Some ys →
        each (map named (parts ++ part ∷ [])) ≡ Some (ys ++ x ∷ [])) →
        each (map named parts) ≡ o → (all : List T) → joined o f ≡ Some all →
        joined (each (map named (parts ++ part ∷ []))) f ≡ Some (all ++ x ∷ [])
    go None o more so all e = absurd cc
    go (Some y) None more so all e = absurd cc
    go (Some y) (Some ys) more so all e =
        let same : y ∷ ys ≡ all = cc in
        ap (λ others. joined others (Some y)) (more ys so)
        ∙ ap (λ (l : List T). Some (l ++ x ∷ [])) same

each_length : {T : Type 0} (named : Text → Option T) (parts : List Text) (xs : List T) →
    each (map named parts) ≡ Some xs → length xs ≡ length parts
each_length named [] [] e = refl
each_length named [] (x ∷ xs) e = absurd cc
each_length {T} named (first ∷ parts) xs e =
    go (named first) (each (map named parts)) (λ ys so. each_length named parts ys so) refl xs e
  where
    go : (f : Option T) (o : Option (List T)) →
        ((ys : List T) → each (map named parts) ≡ Some ys → length ys ≡ length parts) →
        each (map named parts) ≡ o → (all : List T) → joined o f ≡ Some all → length all ≡ suc (length parts)
    go None o more so all e = absurd cc
    go (Some y) None more so all e = absurd cc
    go (Some y) (Some ys) more so all e =
        let same : y ∷ ys ≡ all = cc in
        sym (ap length same) ∙ ap (λ n. suc n) (more ys so)

-- == The search, part by part

-- what an iterator gave, its first item and those after it
pub from_first : {S A B : Type 0} {steps : S → Option A → S → Type 0} {v : A → B} {s : S} {all : List B} →
    YieldsList steps v s all → (next start end : S) (r : Option A) (x : A) (xs : List A) → r ≡ Some x → steps s r next →
    start ≡ next → Yields steps start xs end → Yields steps s (x ∷ xs) end
from_first {steps = steps} {s = s} road next start end r x xs is step same by =
    (next, subst (λ o. steps s o next) is step, subst (λ i. Yields steps i xs end) same by)

-- what the first parts of a text name, so many of them
abbrev pub Reads : {T : Type 0} → (Text → Option T) → Text → ℕ → List T → Type 0
Reads named text i xs = each (map named (take i (cut text))) ≡ Some xs

-- the part at this place
abbrev pub IsPart : Text → ℕ → Text → Type 0
IsPart text i part = (i < length (cut text)) × (part ≡ get_or (cut text) i part)

pub reads_next : {T : Type 0} (named : Text → Option T) (text part : Text) (i : ℕ) (xs : List T) (x : T) →
    Reads named text i xs → IsPart text i part → named part ≡ Some x → Reads named text (i + 1) (xs ++ x ∷ [])
reads_next named text part i xs x so at is =
    subst (λ parts. each (map named parts) ≡ Some (xs ++ x ∷ []))
    (ap (λ (p : Text). take i (cut text) ++ p ∷ []) at.1 ∙ sym (take_more (cut text) i part at.0))
    (each_push named (take i (cut text)) part xs x so is)

pub found_none : {T : Type 0} (named : Text → Option T) (most : ℕ) (text part : Text) (i : ℕ) → IsPart text i part →
    named part ≡ None → parts_named named most text ≡ None
found_none named most text part i at none =
    ap (option_and_then (at_most most)) (each_none named (cut text) i part at.0 at.1 none)

-- there are more parts than those read, which are as many as may be
pub found_many : {T : Type 0} (named : Text → Option T) (most : ℕ) (text : Text) (i : ℕ) (xs : List T) →
    Reads named text i xs → i < length (cut text) → length xs ≡ most → parts_named named most text ≡ None
found_many {T} named most text i xs so more full = go (each (map named (cut text))) refl
  where
    go : (o : Option (List T)) → each (map named (cut text)) ≡ o → option_and_then (at_most most) o ≡ None
    go None e = refl
    go (Some all) e =
        let count = each_length named (cut text) all e in
        let read = each_length named (take i (cut text)) xs so in
        let first = length-take-le i (cut text) (omega (arith, more)) in
        at_most_not most all (omega (arith, count, read, first, more, full))

pub found_all : {T : Type 0} (named : Text → Option T) (most : ℕ) (text : Text) (i : ℕ) (xs : List T) →
    Reads named text i xs → i ≡ length (cut text) → length xs ≤ most → parts_named named most text ≡ Some xs
found_all named most text i xs so end few =
    let all = take_all i (cut text) (omega (arith, end)) in
    ap (λ parts. option_and_then (at_most most) (each (map named parts))) (sym all)
    ∙ ap (option_and_then (at_most most)) so ∙ at_most_so most xs few

-- == Exactly the list whose text it is

module _ {T : Type 0} (named : Text → Option T) (write : T → Text) (Is : T → Type 0)
    (names : (x : T) (text : Text) → (named text ≡ Some x) ↔ (Is x × (text ≡ write x)))
    (lacks : (x : T) → Is x → Lacks 44 (write x)) where
  -- from the parts of a text to what they name
  each_is : (parts : List Text) (xs : List T) → each (map named parts) ≡ Some xs →
      (parts ≡ map write xs) × AllByRecursion Is xs
  each_is [] [] e = (refl, tt)
  each_is [] (x ∷ xs) e = absurd cc
  each_is (part ∷ parts) xs e = go (named part) refl (each (map named parts)) (λ ys o. each_is parts ys o) refl xs e
    where
      go : (f : Option T) → named part ≡ f → (o : Option (List T)) →
          ((ys : List T) → each (map named parts) ≡ Some ys → (parts ≡ map write ys) × AllByRecursion Is ys) →
          each (map named parts) ≡ o → (all : List T) → joined o f ≡ Some all →
          (part ∷ parts ≡ map write all) × AllByRecursion Is all
      go None f o more so all e = absurd cc
      go (Some x) f None more so all e = absurd cc
      go (Some x) f (Some ys) more so all e =
          let first = (names x part).0 f in
          let rest = more ys so in
          let is : x ∷ ys ≡ all = cc in
          subst (λ (l : List T). (part ∷ parts ≡ map write l) × AllByRecursion Is l) is
          (ap (λ (p : Text). p ∷ parts) first.1 ∙ ap (λ (ps : List Text). write x ∷ ps) rest.0, (first.0, rest.1))

  -- and back
  each_so : (xs : List T) → AllByRecursion Is xs → each (map named (map write xs)) ≡ Some xs
  each_so [] h = refl
  each_so (x ∷ xs) h =
      ap (joined (each (map named (map write xs)))) ((names x (write x)).1 (h.0, refl))
      ∙ ap (λ o. option_map (λ values. x ∷ values) o) (each_so xs h.1)

  -- the parts of the text of a list are the texts of its items
  cut_so : (x : T) (xs : List T) → AllByRecursion Is (x ∷ xs) →
      cut (join_with_byte 44 (map write (x ∷ xs))) ≡ map write (x ∷ xs)
  cut_so x [] h = slice_split-Lacks 44 (write x) (lacks x h.0)
  cut_so x (y ∷ xs) h =
      slice_split-at 44 (write x) (join_with_byte 44 (map write (y ∷ xs))) (lacks x h.0)
      ∙ ap (λ (parts : List Text). write x ∷ parts) (cut_so y xs h.1)

  pub list_so : (most : ℕ) (xs : List T) → AllByRecursion Is xs → 1 ≤ length xs → length xs ≤ most →
      parts_named named most (join_with_byte 44 (map write xs)) ≡ Some xs
  list_so most [] h some few = absurd (omega (arith, some))
  list_so most (x ∷ xs) h some few =
      ap (λ (parts : List Text). option_and_then (at_most most) (each (map named parts))) (cut_so x xs h)
      ∙ ap (option_and_then (at_most most)) (each_so (x ∷ xs) h) ∙ at_most_so most (x ∷ xs) few

  pub list_is : (most : ℕ) (text : Text) (xs : List T) → parts_named named most text ≡ Some xs →
      AllByRecursion Is xs × (1 ≤ length xs) × (length xs ≤ most) × (text ≡ join_with_byte 44 (map write xs))
  list_is most text xs e = go (each (map named (cut text))) refl e
    where
      go : (o : Option (List T)) → each (map named (cut text)) ≡ o → option_and_then (at_most most) o ≡ Some xs →
          AllByRecursion Is xs × (1 ≤ length xs) × (length xs ≤ most) × (text ≡ join_with_byte 44 (map write xs))
      go None so e = absurd cc
      go (Some ys) so e =
          let same = few_is most ys xs e in
          let said = each_is (cut text) xs (so ∙ ap (λ (l : List T). Some l) same.0) in
          let count : length (cut text) ≡ length xs = ap length said.0 ∙ length-map xs write in
          let some = length-slice_split (λ c. c == 44) text in
          let whole = sym (join_with_byte-slice_split 44 text) ∙ ap (join_with_byte 44) said.0 in
          (said.1, omega (arith, count, some), same.1, whole)

-- A text names exactly the choice whose text it is.
use Rattle.std.proofs.Common.{◌≡◌, ◌↔◌, ◌⊎◌, inl, inr, ℕ, ◌≤◌, List, Bool, true, false, Option, Some, None, codes, ap}
use Rattle.std.proofs.Common.{refl, ◌∙◌, subst, arith, ◌++◌, option_map, if◌then◌else◌}
use Rattle.std.specs.Fmt.{decimal}
use Rattle.std.specs.Option.{option_and_then}
use Rattle.std.specs.Str.{bytes_eq}
use Rattle.std.proofs.lemmas.Slice.Eq.{bytes_eq-Decides}
use Rattle.item_tap.specs.declared.choice.Choice.{Choice}
use Rattle.item_tap.specs.declared.choice.Choice.TheVariants.{OfKind, Source, Port, Comparator, Time}
use Rattle.item_tap.specs.declared.choice.Kind.{Kind}
use Rattle.item_tap.specs.declared.choice.Kind.TheVariants.{Itm, Dwt, Stp, Raw, Trigger}
use Rattle.decimal_words.specs.Numbers.{number_named, number_after, text_after}
use Rattle.decimal_words.proofs.Fronts.{begins}
use Rattle.decimal_words.proofs.Numbers.{names_number, number_is}
use Rattle.capture_words.specs.Values.{kind_named, time_named, choice_named, or_else}
use Rattle.capture_words.specs.Choices.{kind_text, choice_text, IsChoice}

-- from the choice to its text
kind_named_so : (kind : Kind) → choice_named (kind_text kind) ≡ Some (OfKind kind)
kind_named_so Itm = refl
kind_named_so kind = refl

source_named_so : (x : ℕ) → 1 ≤ x → x ≤ 126 → choice_named (codes "id=" ++ decimal x) ≡ Some (Source x)
source_named_so x low high =
    let d = decimal x in
    let number : number_named 1 126 d ≡ Some x = names_number 1 126 x d (grind arith) low high refl in
    let ports = option_map Port (number_after (codes "port=") 0 31 (codes "id=" ++ d)) in
    let comparators = option_map Comparator (number_after (codes "cmp=") 0 3 (codes "id=" ++ d)) in
    ap (λ n. or_else (option_map Source n) (or_else ports comparators)) number

port_named_so : (n : ℕ) → n ≤ 31 → choice_named (codes "port=" ++ decimal n) ≡ Some (Port n)
port_named_so n high =
    let d = decimal n in
    let comparators = option_map Comparator (number_after (codes "cmp=") 0 3 (codes "port=" ++ d)) in
    ap (λ m. or_else (option_map Port m) comparators) (names_number 0 31 n d (grind arith) (grind arith) high refl)

comparator_named_so : (n : ℕ) → n ≤ 3 → choice_named (codes "cmp=" ++ decimal n) ≡ Some (Comparator n)
comparator_named_so n high =
    ap (λ m. option_map Comparator m) (names_number 0 3 n (decimal n) (grind arith) (grind arith) high refl)

named_so : (choice : Choice) → IsChoice choice → choice_named (choice_text choice) ≡ Some choice
named_so (OfKind kind) is = kind_named_so kind
named_so (Source x) is = source_named_so x is.0 is.1
named_so (Port n) is = port_named_so n is
named_so (Comparator n) is = comparator_named_so n is
named_so Time is = refl

-- from a text to its choice
picked : {T : Type 0} (b : Bool) (x y : T) (rest : Option T) → (if b then Some x else rest) ≡ Some y →
    ((b ≡ true) × (x ≡ y)) ⊎ (rest ≡ Some y)
picked true x y rest e = inl (refl, grind arith)
picked false x y rest e = inr e

by_name : {T : Type 0} (text name : List ℕ) (x y : T) (rest : Option T) →
    (if bytes_eq text name then Some x else rest) ≡ Some y → ((text ≡ name) × (x ≡ y)) ⊎ (rest ≡ Some y)
by_name text name x y rest e = elim (picked (bytes_eq text name) x y rest e) [
  | inl h ↦ inl ((bytes_eq-Decides text name).0 h.0, h.1)
  | inr h ↦ inr h
]

kind_is : (text : List ℕ) (kind : Kind) → kind_named text ≡ Some kind → text ≡ kind_text kind
kind_is text kind e = elim (by_name text (codes "itm") Itm kind _ e) [
  | inl h ↦ h.0 ∙ ap kind_text h.1
  | inr e ↦ elim (by_name text (codes "dwt") Dwt kind _ e) [
    | inl h ↦ h.0 ∙ ap kind_text h.1
    | inr e ↦ elim (by_name text (codes "stp") Stp kind _ e) [
      | inl h ↦ h.0 ∙ ap kind_text h.1
      | inr e ↦ elim (by_name text (codes "raw") Raw kind _ e) [
        | inl h ↦ h.0 ∙ ap kind_text h.1
        | inr e ↦ elim (by_name text (codes "trigger") Trigger kind _ e) [
          | inl h ↦ h.0 ∙ ap kind_text h.1
          | inr e ↦ absurd (grind arith)
        ]
      ]
    ]
  ]
]

time_is : (text : List ℕ) (choice : Choice) → time_named text ≡ Some choice → (text ≡ codes "time") × (Time ≡ choice)
time_is text choice e = elim (by_name text (codes "time") Time choice None e) [
  | inl h ↦ h
  | inr e ↦ absurd (grind arith)
]

number_after_is : (front text : List ℕ) (least greatest n : ℕ) → number_after front least greatest text ≡ Some n →
    (least ≤ n) × (n ≤ greatest) × (text ≡ front ++ decimal n)
number_after_is front text least greatest n = go (text_after front text) refl
  where
    go : (found : Option (List ℕ)) → text_after front text ≡ found →
        option_and_then (number_named least greatest) found ≡ Some n →
        (least ≤ n) × (n ≤ greatest) × (text ≡ front ++ decimal n)
    go None t e = absurd (grind arith)
    go (Some rest) t e =
        let facts = number_is least greatest n rest e in
        (facts.0, facts.1, begins front text rest t ∙ ap (λ r. front ++ r) facts.2)

same : {T : Type 0} (a b : T) → Some a ≡ Some b → a ≡ b
same a b e = cc

choice_is : (text : List ℕ) (choice : Choice) → choice_named text ≡ Some choice →
    IsChoice choice × (text ≡ choice_text choice)
choice_is text choice = go (kind_named text) refl (time_named text) refl
    (number_after (codes "id=") 1 126 text) refl (number_after (codes "port=") 0 31 text) refl
    (number_after (codes "cmp=") 0 3 text) refl
  where
    Is : Choice → Type 0
    Is c = IsChoice c × (text ≡ choice_text c)

    go : (kind : Option Kind) → kind_named text ≡ kind → (time : Option Choice) → time_named text ≡ time →
        (source : Option ℕ) → number_after (codes "id=") 1 126 text ≡ source →
        (port : Option ℕ) → number_after (codes "port=") 0 31 text ≡ port →
        (comparator : Option ℕ) → number_after (codes "cmp=") 0 3 text ≡ comparator →
        or_else (option_map OfKind kind) (or_else time (or_else (option_map Source source)
        (or_else (option_map Port port) (option_map Comparator comparator)))) ≡ Some choice → Is choice
    go (Some kind) k time t source s port p comparator m e =
        subst Is (same (OfKind kind) choice e) (tt, kind_is text kind k)
    go None k (Some c) t source s port p comparator m e =
        let facts = time_is text c t in
        subst Is (facts.1 ∙ same c choice e) (tt, facts.0)
    go None k None t (Some x) s port p comparator m e =
        let facts = number_after_is (codes "id=") text 1 126 x s in
        subst Is (same (Source x) choice e) ((facts.0, facts.1), facts.2)
    go None k None t None s (Some n) p comparator m e =
        let facts = number_after_is (codes "port=") text 0 31 n p in
        subst Is (same (Port n) choice e) (facts.1, facts.2)
    go None k None t None s None p (Some n) m e =
        let facts = number_after_is (codes "cmp=") text 0 3 n m in
        subst Is (same (Comparator n) choice e) (facts.1, facts.2)
    go None k None t None s None p None m e = absurd (grind arith)

pub names : (choice : Choice) (text : List ℕ) →
    (choice_named text ≡ Some choice) ↔ (IsChoice choice × (text ≡ choice_text choice))
names choice text = (choice_is text choice, λ h. ap choice_named h.1 ∙ named_so choice h.0)

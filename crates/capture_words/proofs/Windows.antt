-- A text names exactly the window whose text it is.
use Rattle.std.proofs.Common.{◌≡◌, ◌≢◌, ◌↔◌, ℕ, zero, suc, ◌<◌, ◌≤◌, ◌^◌, List, [], ◌∷◌, ◌++◌, Option, Some, None}
use Rattle.std.proofs.Common.{refl, sym, ap, ◌∙◌, length, arith, get_or, codes, Bool, true, false}
use Rattle.std.specs.Prelude.{◌==◌, ◌||◌, decimal, not}
use Rattle.std.specs.List.{list_any, position_or_len, before_first, after_first}
use Rattle.std.proofs.lemmas.List.{drop_all}
use Rattle.std.proofs.lemmas.List.Sums.{split_at_first, passes_at_first, prefix_len-le-length}
use Rattle.std.proofs.lemmas.Str.Parse.{digit_at}
use Rattle.std.proofs.lemmas.Bool.Decides.{nat_tests}
use Rattle.std.proofs.lemmas.Grind.{common_steps}
use Rattle.clap.specs.Words.{Text}
use Rattle.clap.proofs.CutLemmas.{Lacks, before_first-at, after_first-at}
use Rattle.decimal_words.proofs.Numbers.{decimal_digits}
use Rattle.item_tap.specs.declared.bounds.Bounds.{Bounds}
use Rattle.item_tap.specs.declared.choice.Choice.{Choice}
use Rattle.item_tap.specs.declared.choice.Choice.TheVariants.{OfKind, Source, Port, Comparator, Time}
use Rattle.item_tap.specs.declared.choice.Kind.{Kind}
use Rattle.item_tap.specs.declared.choice.Kind.TheVariants.{Itm}
use Rattle.capture_words.specs.Choices.{kind_text, choice_text, window_text, IsChoice, IsWindow}
use Rattle.capture_words.specs.Values.{choice_named, bounds_of, window_named}
use Rattle.capture_words.proofs.Chosen.{names}

no_last : (first : Option Choice) → bounds_of first None ≡ None
no_last None = refl
no_last (Some first) = refl

-- a text without a comma names none
pub no_window : (text : List ℕ) → position_or_len (λ c. c == 44) text ≡ length text → None ≡ window_named text
no_window text all =
    let after : after_first (λ c. c == 44) text ≡ [] = drop_all _ text (omega (arith, all)) in
    sym (ap (λ (t : List ℕ). bounds_of (choice_named (before_first (λ c. c == 44) text)) (choice_named t)) after
    ∙ no_last (choice_named (before_first (λ c. c == 44) text)))

-- no text of a choice has a comma
lacks_more : (x : ℕ) (xs : List ℕ) → x ≢ 44 → Lacks 44 xs → Lacks 44 (x ∷ xs)
lacks_more x xs ne h zero lt = ne
lacks_more x xs ne h (suc i) lt = h i (grind (arith, common_steps))

lacks_nothing : Lacks 44 []
lacks_nothing i lt = absurd (omega (arith, lt))

pub lacks_number : (n : ℕ) → n < 2 ^ 64 → Lacks 44 (decimal n)
lacks_number n small i lt = let d = digit_at (decimal n) i (decimal_digits n small) lt in grind arith

-- nor has a front without one, with such a text after it
lacks_front : (front text : List ℕ) → list_any (λ c. c == 44) front ≡ false → Lacks 44 text → Lacks 44 (front ++ text)
lacks_front [] text none h = h
lacks_front (x ∷ front) text none h = go (x == 44) refl none (λ e. lacks_front front text e h)
  where
    go : (b : Bool) → (x == 44) ≡ b → (b || list_any (λ c. c == 44) front) ≡ false →
        (list_any (λ c. c == 44) front ≡ false → Lacks 44 (front ++ text)) → Lacks 44 (x ∷ (front ++ text))
    go true b none more = absurd cc
    go false b none more = lacks_more x (front ++ text) (grind (arith, nat_tests)) (more none)

kind_lacks : (kind : Kind) → Lacks 44 (kind_text kind)
kind_lacks Itm = lacks_front (kind_text Itm) [] refl lacks_nothing
kind_lacks kind = lacks_front (kind_text kind) [] refl lacks_nothing

pub choice_lacks : (choice : Choice) → IsChoice choice → Lacks 44 (choice_text choice)
choice_lacks (OfKind kind) is = kind_lacks kind
choice_lacks (Source x) is = lacks_front (codes "id=") (decimal x) refl (lacks_number x (omega (arith, is.1)))
choice_lacks (Port n) is = lacks_front (codes "port=") (decimal n) refl (lacks_number n (omega (arith, is)))
choice_lacks (Comparator n) is = lacks_front (codes "cmp=") (decimal n) refl (lacks_number n (omega (arith, is)))
choice_lacks Time is = lacks_front (codes "time") [] refl lacks_nothing

-- from the window to its text
named_so : (window : Bounds) → IsWindow window → window_named (window_text window) ≡ Some window
named_so window is =
    let first = choice_text window.first in
    let last = choice_text window.last in
    let lacks = choice_lacks window.first is.0 in
    let after = choice_named (after_first (λ c. c == 44) (first ++ 44 ∷ last)) in
    ap (λ (t : List ℕ). bounds_of (choice_named t) after) (before_first-at 44 first last lacks)
    ∙ ap (λ (t : List ℕ). bounds_of (choice_named first) (choice_named t)) (after_first-at 44 first last lacks)
    ∙ ap (λ (c : Option Choice). bounds_of c (choice_named last)) ((names window.first first).1 (is.0, refl))
    ∙ ap (λ (c : Option Choice). bounds_of (Some window.first) c) ((names window.last last).1 (is.1, refl))

-- from a text to its window
record Both (first last : Option Choice) (window : Bounds) : Type 0 where
  pub first_is : first ≡ Some window.first
  pub last_is : last ≡ Some window.last

both : (first last : Option Choice) (window : Bounds) → bounds_of first last ≡ Some window → Both first last window
both None last window e = cc
both (Some first) None window e = cc
both (Some first) (Some last) window e = record { first_is = cc; last_is = cc }

-- the comma is there, since nothing is no choice
has_comma : (text : List ℕ) (last : Choice) → choice_named (after_first (λ c. c == 44) text) ≡ Some last →
    (position_or_len (λ c. c == 44) text ≡ length text) → ⊥
has_comma text last e all =
    let after : after_first (λ c. c == 44) text ≡ [] = drop_all _ text (omega (arith, all)) in
    let none : choice_named [] ≡ Some last = sym (ap choice_named after) ∙ e in
    cc

-- the text around its first comma
around : (text : List ℕ) → (position_or_len (λ c. c == 44) text ≡ length text → ⊥) →
    text ≡ before_first (λ c. c == 44) text ++ 44 ∷ after_first (λ c. c == 44) text
around text ne =
    let most : position_or_len (λ c. c == 44) text ≤ length text = prefix_len-le-length (λ c. not (c == 44)) text in
    let less : position_or_len (λ c. c == 44) text < length text = grind (arith, ne, most) in
    let passes = passes_at_first (λ c. c == 44) text 0 less in
    let comma : get_or text (position_or_len (λ c. c == 44) text) 0 ≡ 44 = grind (arith, nat_tests) in
    split_at_first (λ c. c == 44) text 0 less
    ∙ ap (λ (c : ℕ). before_first (λ c. c == 44) text ++ c ∷ after_first (λ c. c == 44) text) comma

window_is : (window : Bounds) (text : List ℕ) → window_named text ≡ Some window →
    IsWindow window × (text ≡ window_text window)
window_is window text e =
    let b = both _ _ window e in
    let first = (names window.first (before_first (λ c. c == 44) text)).0 b.first_is in
    let last = (names window.last (after_first (λ c. c == 44) text)).0 b.last_is in (
      (first.0, last.0),
      around text (has_comma text window.last b.last_is)
          ∙ ap (λ (t : List ℕ). t ++ 44 ∷ after_first (λ c. c == 44) text) first.1
          ∙ ap (λ (t : List ℕ). choice_text window.first ++ 44 ∷ t) last.1,
    )

pub names_window : (window : Bounds) (text : Text) →
    (window_named text ≡ Some window) ↔ (IsWindow window × (text ≡ window_text window))
names_window window text = (window_is window text, λ h. ap window_named h.1 ∙ named_so window h.0)

-- Lines with a place.
use Rattle.std.proofs.Common.{◌≡◌, ℕ, List, [], ◌∷◌, ◌++◌, refl, sym, ◌∙◌, ap, subst, Bool, true, false, Option, None}
use Rattle.std.proofs.Common.{Some, Result, Ok, Err, arith, ◌==◌, ◌&&◌, if◌then◌else◌, option_to_list}
use Rattle.std.specs.List.{list_any}
use Rattle.std.proofs.lemmas.Bool.Decides.{nat_tests}
use Rattle.script_rebuild.specs.Names.{Order, odd_nibble, nibbles_after, nibbles_for, Put, has_place, Turns, Item}
use Rattle.script_rebuild.specs.Names.{LineFault, Unrouted, Nothing, Of, Line2, One, Flush, Trigger}
use Rattle.stp_encoder.specs.Bytes.{joined, filled}
use Rattle.script_rebuild.specs.Encoding.{KeepsPlaced}
use Rattle.script_rebuild.specs.Routed.{is_routed, are_routed, is_placed, are_placed, placed}
use Rattle.script_rebuild.specs.Script.{puts_by, given_puts}

pub nothing_placed : (funnel : Option Turns) → is_placed funnel (One Nothing) ≡ true
nothing_placed None = refl
nothing_placed (Some turns) = refl

pub flush_placed : (funnel : Option Turns) → is_placed funnel Flush ≡ true
flush_placed None = refl
flush_placed (Some turns) = refl

pub item_placed : (funnel : Option Turns) (id : ℕ) (item : Item) → is_placed funnel (One (Of id item)) ≡ has_place funnel id
item_placed None id item = refl
item_placed (Some turns) id item = refl

pub trigger_placed : (funnel : Option Turns) (byte : ℕ) → is_placed funnel (Trigger byte) ≡ has_place funnel 125
trigger_placed None byte = refl
trigger_placed (Some turns) byte = refl

pub placed_by : (funnel : Option Turns) (line : Line2) (v : Bool) → is_placed funnel line ≡ v →
    placed funnel line ≡ (if v then Ok line else Err Unrouted)
placed_by funnel line v e =
    let P : Bool → Result Line2 LineFault = λ b. if b then Ok line else Err Unrouted in ap P e

pub none_placed : (funnel : Option Turns) → are_placed funnel [] ≡ true
none_placed None = refl
none_placed (Some turns) = refl

-- one line more
one_more : (order : List ℕ) (lines : List Line2) (line : Line2) → are_routed order lines ≡ true →
    is_routed order line ≡ true → are_routed order (lines ++ line ∷ []) ≡ true
one_more order [] line all one = ap (λ (b : Bool). b && true) one
one_more order (first ∷ lines) line all one =
    by (is_routed order first) all (λ h. one_more order lines line h one)
  where
    by : (v : Bool) → (v && are_routed order lines) ≡ true →
        (are_routed order lines ≡ true → are_routed order (lines ++ line ∷ []) ≡ true) →
        (v && are_routed order (lines ++ line ∷ [])) ≡ true
    by true h more = more h
    by false h more = absurd (let no = h in cc)

pub places_more : (funnel : Option Turns) (lines : List Line2) (line : Line2) → are_placed funnel lines ≡ true →
    is_placed funnel line ≡ true → are_placed funnel (lines ++ line ∷ []) ≡ true
places_more None lines line all one = refl
places_more (Some turns) lines line all one = one_more turns.order lines line all one

-- of a source without a place no nibble is kept
module _ (order : List ℕ) (x : ℕ) (nibbles : Order) (none : list_any (λ y. y == x) order ≡ false) where
  first_none : (line : Line2) (rest : List Put) → is_routed order line ≡ true →
      nibbles_after nibbles [] [] rest ≡ [] → nibbles_after nibbles [] [] (puts_by x line ++ rest) ≡ []
  first_none (One Nothing) rest r e = e
  first_none (One (Of id item)) rest r e = by (id == x) refl
    where
      other : (id == x) ≡ true → ⊥
      other h =
          let same : id ≡ x = grind (arith, nat_tests) in
          let no : true ≡ false = sym (subst (λ (n : ℕ). list_any (λ y. y == n) order ≡ true) same r) ∙ none in
          cc

      by : (v : Bool) → (id == x) ≡ v → nibbles_after nibbles [] [] (puts_by x (One (Of id item)) ++ rest) ≡ []
      by true h = absurd (other h)
      by false h = rw h e
  first_none Flush rest r e = e
  first_none (Trigger byte) rest r e = e

  none_kept : (lines : List Line2) → are_routed order lines ≡ true →
      nibbles_after nibbles [] [] (given_puts x lines) ≡ []
  none_kept [] all = refl
  none_kept (line ∷ lines) all = by (is_routed order line) refl all (none_kept lines)
    where
      by : (v : Bool) → is_routed order line ≡ v → (v && are_routed order lines) ≡ true →
          (are_routed order lines ≡ true → nibbles_after nibbles [] [] (given_puts x lines) ≡ []) →
          nibbles_after nibbles [] [] (puts_by x line ++ given_puts x lines) ≡ []
      by true r h more = first_none line (given_puts x lines) r (more h)
      by false r h more = absurd (let no = h in cc)

pub keeps_placed : (funnel : Option Turns) (nibbles : Order) (lines : List Line2) → are_placed funnel lines ≡ true →
    (x : ℕ) → KeepsPlaced funnel nibbles (λ y. given_puts y lines) x
unfolding nibbles_for
keeps_placed None nibbles lines all x none = absurd (let no = none in cc)
keeps_placed (Some turns) nibbles lines all x none =
    ap (λ (n : List ℕ). joined (filled (option_to_list (odd_nibble n)))) (none_kept turns.order x nibbles none lines all)

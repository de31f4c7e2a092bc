-- The answer to the putting of an item.
use Rattle.std.proofs.Common.{◌≡◌, ℕ, List, [], ◌++◌, refl, sym, ◌∙◌, ap, subst, append-nil, Bool, true, false, Option}
use Rattle.std.proofs.Common.{None, Result, Ok, Err, ◌==◌, if◌then◌else◌}
use Rattle.std.specs.Result.{OnOk}
use Rattle.script_rebuild.specs.Names.{StpItem, is_unfit, items_in, unmarked, Puts, has_place, Turns}
use Rattle.script_rebuild.specs.Names.{as_one, Item, Itm, Dwt, Stp, Raw, LineFault, Unfit, Unrouted, Of, Line2, One}
use Rattle.stp_encoder.specs.Fitting.{version_after}
use Rattle.stp_encoder.specs.Encoder as encoders
use Rattle.script_text.specs.Lines.{◌>>=◌}
use Rattle.script_rebuild.specs.Encoding.{AllStand, NextItem, Left, Answers, given_after, line_for}
use Rattle.script_rebuild.specs.Routed.{placed, line_if}
use Rattle.script_rebuild.specs.Script.{items_of, item_bytes, tagged}
use Rattle.script_rebuild.specs.Versions.{fitting_item}
use Rattle.script_rebuild.specs.declared.encoders.SourceEncoder.{SourceEncoder}
use Rattle.script_rebuild.proofs.Placing.{item_placed, placed_by}

-- a line that fits, where nothing is said of places, and then of its place
pub fault_stays : (read : Result Line2 LineFault) (funnel : Option Turns) (fault : LineFault) →
    (read >>= placed None) ≡ Err fault → (read >>= placed funnel) ≡ Err fault
fault_stays (Ok line) funnel fault e = cc
fault_stays (Err found) funnel fault e = e

pub then_placed : (read : Result Line2 LineFault) (funnel : Option Turns) (line : Line2) →
    (read >>= placed None) ≡ Ok line → (read >>= placed funnel) ≡ placed funnel line
then_placed (Ok found) funnel line e = let same : found ≡ line = cc in ap (placed funnel) same
then_placed (Err fault) funnel line e = cc

-- the line of an item that is not of a system trace
pub plain_line : (funnel : Option Turns) (next : NextItem) → ((item : StpItem) → next.item ≡ Stp item → ⊥) →
    line_for funnel next ≡ placed funnel (One (Of next.id next.item))
plain_line funnel next other = by next.item refl
  where
    of_item : Item → Result Line2 LineFault
    of_item item =
        as_one (fitting_item (Of next.id next.item) (items_in (next.given next.id)) item) >>= placed funnel

    by : (item : Item) → next.item ≡ item → of_item item ≡ placed funnel (One (Of next.id next.item))
    by (Itm packet) e = refl
    by (Dwt item) e = refl
    by (Raw bytes) e = refl
    by (Stp item) e = absurd (other item e)

-- the line of an item of a system trace, by whether it fits
pub stp_line : (funnel : Option Turns) (next : NextItem) (item : StpItem) (v : Bool) → next.item ≡ Stp item →
    is_unfit (version_after (items_in (next.given next.id))) item ≡ v →
    line_for funnel next ≡ (if v then Err Unfit else placed funnel (One (Of next.id next.item)))
stp_line funnel next item v is e =
    ap (λ (i : Item). as_one (fitting_item (Of next.id next.item) (items_in (next.given next.id)) i) >>= placed funnel) is
    ∙ ap (λ (b : Bool). as_one (if b then Err Unfit else Ok (Of next.id next.item)) >>= placed funnel) e
    ∙ by v
  where
    by : (v : Bool) → (as_one (if v then Err Unfit else Ok (Of next.id next.item)) >>= placed funnel)
        ≡ (if v then Err Unfit else placed funnel (One (Of next.id next.item)))
    by true = refl
    by false = refl

pub item_placed_by : (funnel : Option Turns) (id : ℕ) (item : Item) (v : Bool) → has_place funnel id ≡ v →
    placed funnel (One (Of id item)) ≡ (if v then Ok (One (Of id item)) else Err Unrouted)
item_placed_by funnel id item v e = placed_by funnel (One (Of id item)) v (item_placed funnel id item ∙ e)

-- an item of a source without a place is never put
module _ (funnel : Option Turns) (next : NextItem) (none : has_place funnel next.id ≡ false) where
  abbrev line : Line2
  line = One (Of next.id next.item)

  no_place : placed funnel line ≡ Err Unrouted
  no_place = item_placed_by funnel next.id next.item false none

  other_never : ((item : StpItem) → next.item ≡ Stp item → ⊥) → line_for funnel next ≡ Ok line → ⊥
  other_never other e =
      let no : Ok line ≡ Err Unrouted = sym e ∙ plain_line funnel next other ∙ no_place in cc

  stp_never : (item : StpItem) → next.item ≡ Stp item → line_for funnel next ≡ Ok line → ⊥
  stp_never item is e = by (is_unfit (version_after (items_in (next.given next.id))) item) refl
    where
      by : (v : Bool) → is_unfit (version_after (items_in (next.given next.id))) item ≡ v → ⊥
      by true f = let no : Ok line ≡ Err Unfit = sym e ∙ stp_line funnel next item true is f in cc
      by false f = let no : Ok line ≡ Err Unrouted = sym e ∙ stp_line funnel next item false is f ∙ no_place in cc

  never : (item : Item) → next.item ≡ item → line_for funnel next ≡ Ok line → ⊥
  never (Stp item) is e = stp_never item is e
  never (Itm packet) is e = other_never (λ item k. let no = sym is ∙ k in cc) e
  never (Dwt meant) is e = other_never (λ item k. let no = sym is ∙ k in cc) e
  never (Raw bytes) is e = other_never (λ item k. let no = sym is ∙ k in cc) e

  pub never_put : (r : Result (Unit {0}) LineFault) (P : Type 0) → line_for funnel next ≡ line_if r line → OnOk r P
  never_put (Err fault) P e = tt
  never_put (Ok done) P e = absurd (never next.item refl e)

-- an item that is not of a system trace, of a source with a place
pub plain_put : (funnel : Option Turns) (next : NextItem) (left : Left) → items_of next.item ≡ [] →
    ((item : StpItem) → next.item ≡ Stp item → ⊥) → has_place funnel next.id ≡ true →
    AllStand next.order left.encoders next.given →
    Puts left.old left.new (tagged next.id (item_bytes next.order (next.given next.id) next.item)) →
    Answers funnel next (Ok tt) left
plain_put funnel next left none other place stand put = record {
  told = plain_line funnel next other ∙ item_placed_by funnel next.id next.item true place;
  put = record { place = place; stand = λ k d lt. same (stand k d lt); put = put };
}
  where
    given_same : (x : ℕ) → given_after next x ≡ next.given x
    given_same x = by (next.id == x) ∙ append-nil (next.given x)
      where
        by : (v : Bool) → next.given x ++ unmarked (if v then items_of next.item else []) ≡ next.given x ++ []
        by true = ap (λ (l : List StpItem). next.given x ++ unmarked l) none
        by false = refl

    same : {e : SourceEncoder} → (encoders.order_of e.encoder ≡ next.order) × encoders.Stands e.encoder (next.given e.id) →
        (encoders.order_of e.encoder ≡ next.order) × encoders.Stands e.encoder (given_after next e.id)
    same {e} h = (h.0, subst (encoders.Stands e.encoder) (sym (given_same e.id)) h.1)

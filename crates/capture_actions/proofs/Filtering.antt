-- What is listed after one more event.
use Rattle.std.proofs.Common.{◌≡◌, Bool, true, false, ◌&&◌, ◌||◌, List, [], ◌∷◌, ◌++◌, refl, sym, ◌∙◌, ap, cond, Option, not}
use Rattle.std.proofs.lemmas.List.Elements.{filter-append}
use Rattle.std.proofs.lemmas.Bool.{or_right}
use Rattle.capture_actions.specs.Names.{Event, Packet, is_item, Bounds, Choice}
use Rattle.capture_actions.specs.Listing.{items_in, meets, is_within, is_listed}

-- two answers of which each is true for a notice
pub both_or_notice : (a b n : Bool) → ((a || n) && (b || n)) ≡ (a && b || n)
both_or_notice true b n = refl
both_or_notice false b true = or_right b true refl
both_or_notice false b false = refl

-- an event that is within the window or a notice is listed if it meets one of the choices or is a notice
pub listed_where_met : (only : Option (List Choice)) (window : Option Bounds) (es : List (Event Packet)) (e : Event Packet)
    (seen met : Bool) → seen ≡ true → seen ≡ (is_within window es e || not (is_item e.what)) →
    met ≡ (meets only e || not (is_item e.what)) → met ≡ is_listed only window es e
listed_where_met only window es e seen met t h k =
    let n = not (is_item e.what) in
    k ∙ ap (λ (b : Bool). b && (meets only e || n)) (sym t ∙ h)
    ∙ both_or_notice (is_within window es e) (meets only e) n

items_more : (es : List (Event Packet)) (e : Event Packet) →
    items_in (es ++ e ∷ []) ≡ items_in es ++ cond (is_item e.what) (e ∷ []) []
items_more es e = filter-append (λ (x : Event Packet). is_item x.what) es (e ∷ [])

pub item_more : (es : List (Event Packet)) (e : Event Packet) → is_item e.what ≡ true →
    items_in (es ++ e ∷ []) ≡ items_in es ++ e ∷ []
item_more es e h =
    items_more es e ∙ ap (λ (b : Bool). items_in es ++ cond b (e ∷ []) []) h

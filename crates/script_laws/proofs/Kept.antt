-- A funnel passes the bytes of each source on, whole and in order.
use Rattle.std.proofs.Common.{◌≡◌, ◌≤◌, ℕ, List, [], ◌∷◌, ◌++◌, refl, sym, ◌∙◌, ap, append_assoc, append-nil, true}
use Rattle.std.proofs.Common.{cond, ◌==◌}
use Rattle.std.proofs.lemmas.List.{map-append}
use Rattle.script_laws.specs.Names.{Tagged, joined, Act, Drain, offers, offered, are_of}
use Rattle.script_laws.specs.Names.{bytes_for as given_for, are_apart, to_funnel, from_funnel, whole_acts, act_by}
use Rattle.script_laws.specs.Names.{passed_from, all_passed, Turns}
use Rattle.script_laws.proofs.Bytes.{bytes_for}
use Rattle.port_formatter.specs.PassedLaws.{from_more}
use Rattle.trace_funnel.proofs.Acting.{acts_append, all_given, offered_drain}
use Rattle.trace_funnel.specs.Turns.{Place, Turned, empty}
use Rattle.trace_funnel.specs.declared.tagged.Tagged.{Tagged as Given}

-- the bytes of a source are the same in both forms
pub to_same : (x : ℕ) (bytes : List Tagged) → given_for x (to_funnel bytes) ≡ bytes_for x bytes
to_same x [] = refl
to_same x (b ∷ bytes) = ap (λ (l : List ℕ). cond (b.id == x) (b.byte ∷ l) l) (to_same x bytes)

from_same : (x : ℕ) (bytes : List Given) → bytes_for x (from_funnel bytes) ≡ given_for x bytes
from_same x [] = refl
from_same x (b ∷ bytes) = ap (λ (l : List ℕ). cond (b.id == x) (b.byte ∷ l) l) (from_same x bytes)

-- what is done with segments that are all ended
abbrev all_acts : List (List Tagged) → List Act
all_acts [] = []
all_acts (segment ∷ rest) = whole_acts segment ++ all_acts rest

offered_offers : (bytes : List Given) (done : List Act) → offered (offers bytes ++ done) ≡ bytes ++ offered done
offered_offers [] done = refl
offered_offers (b ∷ bytes) done = ap (λ (l : List Given). b ∷ l) (offered_offers bytes done)

to_more : (a b : List Tagged) → to_funnel (a ++ b) ≡ to_funnel a ++ to_funnel b
to_more a b = map-append (λ x. record { id = x.id; byte = x.byte }) a b

whole_then : (segment : List Tagged) (done : List Act) →
    whole_acts segment ++ done ≡ offers (to_funnel segment) ++ (Drain ∷ done)
whole_then segment done = append_assoc (offers (to_funnel segment)) (Drain ∷ []) done

offered_all : (segments : List (List Tagged)) → offered (all_acts segments) ≡ to_funnel (joined segments)
offered_all [] = refl
offered_all (segment ∷ rest) =
    ap offered (whole_then segment (all_acts rest))
    ∙ offered_offers (to_funnel segment) (Drain ∷ all_acts rest)
    ∙ ap (λ (l : List Given). to_funnel segment ++ l) (offered_all rest)
    ∙ sym (to_more segment (joined rest))

-- all that is passed on, one segment after the other
joined_passed : (t : Turns) (ps : List Place) (segments : List (List Tagged)) →
    joined (passed_from t ps segments []).ended ≡ from_funnel (act_by t ps (all_acts segments)).out
joined_passed t ps [] = refl
joined_passed t ps (segment ∷ rest) =
    let a = act_by t ps (whole_acts segment) in
    let b = act_by t a.places (all_acts rest) in
    ap (λ (l : List Tagged). from_funnel a.out ++ l) (joined_passed t a.places rest)
    ∙ sym (from_more a.out b.out)
    ∙ sym (ap (λ (w : Turned). from_funnel w.out) (acts_append t.hold t.depth (whole_acts segment) (all_acts rest) ps))

-- they end with a drain
drained_last : (segment : List Tagged) (rest : List (List Tagged)) →
    (done : List Act) × (all_acts (segment ∷ rest) ≡ done ++ Drain ∷ [])
drained_last segment [] = (offers (to_funnel segment), append-nil (whole_acts segment))
drained_last segment (next ∷ rest) =
    let more = drained_last next rest in (
      whole_acts segment ++ more.0,
      ap (λ (l : List Act). whole_acts segment ++ l) more.1
          ∙ sym (append_assoc (whole_acts segment) more.0 (Drain ∷ [])),
    )

pub all_kept : (t : Turns) (segments : List (List Tagged)) → 1 ≤ t.hold → are_apart t.order ≡ true →
    are_of t.order (to_funnel (joined segments)) ≡ true → (x : ℕ) →
    bytes_for x (joined (all_passed t segments)) ≡ bytes_for x (joined segments)
all_kept t [] some apart of x = refl
all_kept t (segment ∷ rest) some apart of x =
    let segments = segment ∷ rest in
    let last = drained_last segment rest in
    let put : offered last.0 ≡ to_funnel (joined segments) =
    sym (offered_drain last.0) ∙ ap offered (sym last.1) ∙ offered_all segments in
    ap (bytes_for x) (joined_passed t (empty t.order) segments)
    ∙ from_same x (act_by t (empty t.order) (all_acts segments)).out
    ∙ ap (λ (l : List Act). given_for x (act_by t (empty t.order) l).out) last.1
    ∙ all_given t.hold t.depth t.order last.0 some apart (ap (are_of t.order) put ∙ of) x
    ∙ ap (given_for x) put
    ∙ to_same x (joined segments)

-- From a grammar that synchronises to a source that can resume: as it is, and with its packets made into items.
use Rattle.std.proofs.Common.{◌≡◌, ℕ, List, [], ◌∷◌, ◌++◌, length, map, sym, ◌∙◌, ap, subst, inl, inr, append-nil, Bool, true, Option, None}
use Rattle.resync_laws.specs.Names.{Reason, Next, Place, Placed, Splits, progress, decorated, Stream, Said, kept}
use Rattle.resync_laws.specs.Names.{IsLawful, Hunting, IsRest, IsRising, items_of, point_of, from_point, Follows}
use Rattle.resync_laws.specs.Names.{AllFrom, later, later_stream}
use Rattle.trace_values.specs.Walk.{by_unit}
use Rattle.trace_values.specs.declared.pattern.Pattern.{Pattern}
use Rattle.trace_values.specs.Moded.{stream_in}
use Rattle.trace_values.proofs.Readings as readings
use Rattle.resync_rules.specs.Syncing.{Syncs}
use Rattle.resync_laws.specs.Resumed.{Resumed, AreBytes, CanResume, IsQuiet}
use Rattle.resync_rules.proofs.ItemTerms.{AllFit, BeginsAnew}
use Rattle.resync_laws.proofs.LiftTerms.{resumed_made}
use Rattle.resync_rules.proofs.Locking as locking
use Rattle.resync_rules.proofs.Resting as resting
use Rattle.resync_rules.proofs.Following as following
use Rattle.resync_rules.proofs.Moving.{stream_later}
use Rattle.resync_laws.proofs.RestReport.{from_follows, rest_fault, rest_tail}
use Rattle.resync_rules.proofs.Decorating.{from_all, follows_from}
use Rattle.resync_rules.proofs.Making.{made_later}

-- what a source's bytes are as units
pub record AreUnits (units : List Placed → List Placed) : Type 0 where
  pub append : (u w : List Placed) → units (u ++ w) ≡ units u ++ units w
  pub rising : (u : List Placed) → AreBytes u → IsRising u → IsRising (units u)
  pub shifts : (c : ℕ) (u : List Placed) → units (map (λ b. later c b) u) ≡ map (λ b. later c b) (units u)

fit_kept : {V : Type 0} (Spells : V → List Placed → Type 0) (fits : V → Type 0) → ((v : V) (r : List Placed) → Spells v r → fits v) → (items : List (V × Place)) (rest u : List Placed) → Splits Spells items rest u → AllFit fits (kept items)
fit_kept Spells fits h [] rest u s = tt
fit_kept Spells fits h (x ∷ items) rest u (a, l, w, spelled, parts, at, more) = (h x.0 (a ++ l ∷ []) spelled, fit_kept Spells fits h items rest w more)

module _ {S V : Type 0} (Spells : V → List Placed → Type 0) (why : List Placed → Reason) (rule : S → ℕ → Next S V) (start : S) (p : Pattern) (v : V) (k : Syncs Spells why (by_unit rule) start p v)
    (units : List Placed → List Placed) (are : AreUnits units) where
  abbrev stream : Bool → List Placed → Stream V
  stream h u = stream_in p v (by_unit rule) start h u

  abbrev pub source : {K : Type 0} → K → Bool → ℕ → Resumed K V
  source kind h id = record { id = id; kind = kind; units = units; whole = stream h; rest = stream true; point = λ s. point_of s }

  abbrev hunting : Bool → Hunting V
  hunting = resting.hunting Spells why (by_unit rule) start p v k

  pub rest_of : (h : Bool) (u w : List Placed) → (stream h (u ++ w)).fault ≡ None → IsRest (hunting h) u w
  rest_of h u w e = resting.is_rest Spells why (by_unit rule) start p v k h u w e

  follow : (h : Bool) → Follows (stream h) (stream true)
  follow h = following.follows Spells why (by_unit rule) start p v k h

  pub can : {K : Type 0} (kind : K) (h : Bool) (id : ℕ) → ((h : Bool) → IsLawful (λ u. stream h (units u))) → CanResume (source kind h id)
  can kind h id lawful = record {
    whole_lawful = lawful h;
    rest_lawful = lawful true;
    append = are.append;
    rising = are.rising;
    shifts = are.shifts;
    follows = from_follows (stream h) (stream true) (follow h);
    stays_sound = λ u w e. rest_fault (hunting h) u w e (rest_of h u w e);
    tail = λ u w e t. rest_tail (hunting h) u w (rest_of h u w e) t;
    moves = λ c u. stream_later c rule start p v true u;
  }

  -- a hunt gives no item before its lock
  pub quiet : {K : Type 0} (kind : K) (h : Bool) (id : ℕ) → IsQuiet (source kind h id)
  quiet kind h id w rising sound =
      let nil : w ++ [] ≡ w = append-nil w in
      let same = follow true [] w [] (subst (λ (l : List Placed). IsRising l) (sym nil) rising) (ap (λ (l : List Placed). (stream true l).fault) nil ∙ sound)
      ∙ ap (λ (l : List Placed). from_point (point_of (stream true l)) (items_of (stream true w).given)) nil in
      subst (λ (l : List (Said V × Place)). AllFrom (point_of (stream true w)) l) (sym same) (from_all (point_of (stream true w)) (items_of (stream true w).given))

  -- what is given is what its spelling owes
  fit : (fits : V → Type 0) → ((v : V) (r : List Placed) → Spells v r → fits v) → (x : List Placed) → AllFit fits (stream true x).given
  fit fits h x = elim (locking.by_mode Spells why (by_unit rule) start p v k true x) [
    | inr n ↦ subst (λ (s : Stream V). AllFit fits s.given) (sym (resting.skips Spells why (by_unit rule) start p v k x n.2)) tt
    | inl r ↦
        subst (λ (s : Stream V). AllFit fits s.given) (sym (resting.shows Spells why (by_unit rule) start p v k true x (length r.front) r.place (progress (by_unit rule) start r.seen) r.here))
        (fit_kept Spells fits h (progress (by_unit rule) start r.seen).items (progress (by_unit rule) start r.seen).rest r.seen (readings.reading_is Spells why (by_unit rule) start k.decides r.seen).splits)
  ]

  -- with its packets made into items by a state that some of them begin anew
  pub can_items : {W T K : Type 0} (step : T → V → Option W × T) (fits : V → Type 0) (resets : V → Bool) (marks : W → Bool) (Alike : T → T → Type 0) → BeginsAnew step fits resets marks Alike → ((v : V) (r : List Placed) → Spells v r → fits v) → (begin : T) →
      (kind : K) (h : Bool) (id : ℕ) → ((h : Bool) → IsLawful (λ u. decorated step begin (stream h (units u)))) → CanResume (resumed_made step begin marks (source kind h id))
  can_items step fits resets marks Alike anew spelled begin kind h id lawful = record {
    whole_lawful = lawful h;
    rest_lawful = lawful true;
    append = are.append;
    rising = are.rising;
    shifts = are.shifts;
    follows = follows_from step fits resets marks Alike anew begin (stream h) (stream true) (follow h)
        (following.order Spells why (by_unit rule) start p v k h) (following.order Spells why (by_unit rule) start p v k true) (following.more Spells why (by_unit rule) start p v k true) (fit fits spelled);
    stays_sound = λ u w e. rest_fault (hunting h) u w e (rest_of h u w e);
    tail = λ u w e t. rest_tail (hunting h) u w (rest_of h u w e) t;
    moves = λ c u.
        ap (decorated step begin) (stream_later c rule start p v true u)
        ∙ ap (λ l. record (later_stream c (decorated step begin (stream true u))) { given = l }) (made_later step c (stream true u).given begin);
  }

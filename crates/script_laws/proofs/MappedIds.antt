-- What a sound plan maps.
use Rattle.std.proofs.Common.{◌≡◌, ℕ, ◌≤◌, List, [], ◌∷◌, ◌++◌, refl, sym, ◌∙◌, ap, subst, arith, Bool, true, false}
use Rattle.std.proofs.Common.{Option, None, Some, ◌==◌, ◌&&◌, ◌||◌, not, nat_le, if◌then◌else◌, rules}
use Rattle.std.specs.List.{list_any}
use Rattle.std.proofs.lemmas.Bool.Decides.{nat_tests}
use Rattle.script_laws.specs.Names.{Plan, SourceKind, kind_of, are_sound, is_sound, in_order}
use Rattle.source_events.specs.declared.plan.SourceKind.TheVariants.{Itm, Stp}
use Rattle.script_rebuild.proofs.InOrder.{in_order_among, in_order_sound, sound_within}

-- it is one of these
abbrev pub is_one : ℕ → List ℕ → Bool
is_one x ids = list_any (λ y. y == x) ids

both : (a b : Bool) → (a && b) ≡ true → (a ≡ true) × (b ≡ true)
both true b e = (refl, e)
both false b e = cc

-- the parts of soundness
pub record IsFirst (x : ℕ) (ids : List ℕ) : Type 0 where
  pub low : 1 ≤ x
  pub high : x ≤ 111
  pub once : is_one x ids ≡ false
  pub rest : are_sound ids ≡ true

not_true : (b : Bool) → not b ≡ true → b ≡ false
not_true true e = cc
not_true false e = refl

pub sound_first : (x : ℕ) (ids : List ℕ) → are_sound (x ∷ ids) ≡ true → IsFirst x ids
sound_first x ids e =
    let a = both (nat_le 1 x) (nat_le x 111 && (not (is_one x ids) && are_sound ids)) (by e) in
    let b = both (nat_le x 111) (not (is_one x ids) && are_sound ids) a.1 in
    let c = both (not (is_one x ids)) (are_sound ids) b.1 in
    let l : nat_le 1 x ≡ true = a.0 in
    let h : nat_le x 111 ≡ true = b.0 in
    record { low = grind (arith, nat_tests); high = grind (arith, nat_tests); once = not_true (is_one x ids) c.0; rest = c.1 }
  where
    assoc : (p q r s : Bool) → (((p && q) && r) && s) ≡ true → (p && (q && (r && s))) ≡ true
    assoc p q r s e = grind arith

    by : are_sound (x ∷ ids) ≡ true → (nat_le 1 x && (nat_le x 111 && (not (is_one x ids) && are_sound ids))) ≡ true
    by e = assoc (nat_le 1 x) (nat_le x 111) (not (is_one x ids)) (are_sound ids) e

pub sound_back : (front back : List ℕ) → are_sound (front ++ back) ≡ true → are_sound back ≡ true
sound_back [] back e = e
sound_back (x ∷ front) back e = sound_back front back (sound_first x (front ++ back) e).rest

-- one of two lists
one_in : (x : ℕ) (front back : List ℕ) → is_one x (front ++ back) ≡ (is_one x front || is_one x back)
one_in x [] back = refl
one_in x (y ∷ front) back = ap (λ (v : Bool). (y == x) || v) (one_in x front back) ∙ assoc (y == x) (is_one x front) (is_one x back)
  where
    assoc : (p q r : Bool) → (p || (q || r)) ≡ ((p || q) || r)
    assoc true q r = refl
    assoc false q r = refl

-- no number is in both
pub apart : (x : ℕ) (front back : List ℕ) → are_sound (front ++ back) ≡ true → is_one x back ≡ true → is_one x front ≡ false
apart x [] back e k = refl
apart x (y ∷ front) back e k = by (y == x) refl (apart x front back (sound_first y (front ++ back) e).rest k)
  where
    by : (v : Bool) → (y == x) ≡ v → is_one x front ≡ false → (v || is_one x front) ≡ false
    by false i more = more
    by true i more =
        let same : y ≡ x = grind (arith, nat_tests) in
        let once = (sound_first y (front ++ back) e).once in
        let none : is_one x (front ++ back) ≡ false = subst (λ (z : ℕ). is_one z (front ++ back) ≡ false) same once in
        let some : (is_one x front || is_one x back) ≡ false = sym (one_in x front back) ∙ none in
        absurd (clash (is_one x front) (is_one x back) some k)
      where
        clash : (p q : Bool) → (p || q) ≡ false → q ≡ true → ⊥
        clash true q a b = cc
        clash false q a b = (let z : true ≡ false = sym b ∙ a in cc)

-- the range of a mapped number
pub one_range : (plan : Plan) (x : ℕ) → is_sound plan ≡ true → (is_one x plan.itm || is_one x plan.stp) ≡ true → (1 ≤ x) × (x ≤ 111)
one_range plan x s k = sound_within (plan.itm ++ plan.stp) s x (one_in x plan.itm plan.stp ∙ k)

-- what a kind says of the lists
abbrev kind_by : Bool → Bool → Option SourceKind
kind_by a b = if a then Some Itm else if b then Some Stp else None

abbrev KindSays : Option SourceKind → Bool → Bool → Type 0
KindSays (Some Itm) a b = a ≡ true
KindSays (Some Stp) a b = (a ≡ false) × (b ≡ true)
KindSays None a b = (a ≡ false) × (b ≡ false)

kind_says : (a b : Bool) → KindSays (kind_by a b) a b
kind_says a b = search rules

pub lists_by : (plan : Plan) (x : ℕ) (kind : Option SourceKind) → kind_of plan x ≡ kind →
    KindSays kind (is_one x plan.itm) (is_one x plan.stp)
lists_by plan x kind e =
    let a = is_one x plan.itm in
    let b = is_one x plan.stp in
    subst (λ (k : Option SourceKind). KindSays k a b) e (kind_says a b)

-- and the other way
pub one_itm : (plan : Plan) (x : ℕ) → is_one x plan.itm ≡ true → kind_of plan x ≡ Some Itm
one_itm plan x e = ap (λ (a : Bool). kind_by a (is_one x plan.stp)) e

pub one_stp : (plan : Plan) (x : ℕ) → is_sound plan ≡ true → is_one x plan.stp ≡ true → kind_of plan x ≡ Some Stp
one_stp plan x s e =
    ap (λ (a : Bool). kind_by a (is_one x plan.stp)) (apart x plan.itm plan.stp s e) ∙ ap (λ (b : Bool). kind_by false b) e

-- a mapped source is neither the null source nor the trigger source
pub mapped_range : (plan : Plan) (x : ℕ) (kind : SourceKind) → is_sound plan ≡ true → kind_of plan x ≡ Some kind →
    (1 ≤ x) × (x ≤ 111)
mapped_range plan x Itm s e =
    one_range plan x s (ap (λ (a : Bool). a || is_one x plan.stp) (lists_by plan x (Some Itm) e))
mapped_range plan x Stp s e =
    let k = lists_by plan x (Some Stp) e in
    one_range plan x s (ap (λ (a : Bool). a || is_one x plan.stp) k.0 ∙ k.1)

pub stp_in_order : (plan : Plan) (x : ℕ) → is_sound plan ≡ true → kind_of plan x ≡ Some Stp →
    is_one x (in_order plan.stp) ≡ true
stp_in_order plan x s e =
    let range = mapped_range plan x Stp s e in
    in_order_among plan.stp x range.0 (omega (arith, range.1)) ∙ (lists_by plan x (Some Stp) e).1

pub trigger_none : (plan : Plan) → is_sound plan ≡ true → kind_of plan 125 ≡ None
trigger_none plan s = by (kind_of plan 125) refl
  where
    by : (o : Option SourceKind) → kind_of plan 125 ≡ o → o ≡ None
    by None e = refl
    by (Some kind) e = (let k = mapped_range plan 125 kind s e in absurd (omega (arith, k.1)))

-- a source of another kind is not among the STP sources
pub other_out : (plan : Plan) (x : ℕ) → is_sound plan ≡ true → (kind_of plan x ≡ Some Stp → ⊥) →
    is_one x (in_order plan.stp) ≡ false
other_out plan x s other = by (is_one x (in_order plan.stp)) refl
  where
    by : (v : Bool) → is_one x (in_order plan.stp) ≡ v → v ≡ false
    by false e = refl
    by true e =
        let range = sound_within (in_order plan.stp) (in_order_sound plan.stp (sound_back plan.itm plan.stp s)) x e in
        absurd (other (one_stp plan x s (sym (in_order_among plan.stp x range.0 (omega (arith, range.1))) ∙ e)))

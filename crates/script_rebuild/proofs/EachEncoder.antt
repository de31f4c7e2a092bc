-- The encoders of system traces, of which one writes an item.
use Rattle.std.proofs.Common.{◌≡◌, ◌≢◌, ℕ, zero, suc, ◌+◌, ◌<◌, ◌≤◌, ◌-◌, List, [], ◌∷◌, ◌++◌, refl, sym, ap}
use Rattle.std.proofs.Common.{◌∙◌, subst, arith, Bool, true, false, None, Some, length, get_or, set, take, append-nil}
use Rattle.std.proofs.Common.{◌==◌, ◌||◌, if◌then◌else◌, cond, nat_lt, inl, inr, All, position, filter}
use Rattle.std.specs.List.{list_any, position_or_len, refill, range_with_len}
use Rattle.std.proofs.Math.Seq.{map-set_same}
use Rattle.std.proofs.lemmas.Bool.Decides.{nat_tests}
use Rattle.std.proofs.lemmas.Bool.{cases_lt}
use Rattle.std.proofs.lemmas.List.{get_or-set_same, get_or-set_other, get_or_default, length-map, length-set}
use Rattle.std.proofs.lemmas.List.{length_push, map-append, take_all, drop_all}
use Rattle.std.proofs.lemmas.List.Elements.{All-push, filter-append}
use Rattle.std.proofs.lemmas.List.Folds.{list_any_none}
use Rattle.std.proofs.lemmas.List.Quantifiers.{position-Some}
use Rattle.std.proofs.lemmas.List.Sums.{fails_before_first}
use Rattle.frame_grammar.proofs.CellLaws.{range_push}
use Rattle.script_rebuild.specs.Names.{Order, StpItem, Put, unmarked, Stp}
use Rattle.stp_encoder.specs.Puts.{Of as PutOf}
use Rattle.stp_encoder.specs.Encoder as encoders
use Rattle.stp_encoder.specs.declared.encoder.StpEncoder.{StpEncoder}
use Rattle.script_rebuild.specs.declared.encoders.SourceEncoder.{SourceEncoder}
use Rattle.script_rebuild.specs.Script.{in_order}
use Rattle.script_rebuild.specs.Encoding.{ids_in, AllStand, NextItem, AreReady, given_after}
use Rattle.script_rebuild.proofs.InOrder.{among, in_order_few, in_order_low}

-- a list that is written over by one as long
pub refilled : {X : Type 0} → (old new : List X) → length new ≡ length old → refill (length old) old new ≡ new
refilled {X} old new e =
    ap (λ (l : List X). take (length old) (new ++ l)) (drop_all (length new) old (omega (arith, e)))
    ∙ ap (take (length old)) (append-nil new) ∙ take_all (length old) new (omega (arith, e))

pub same_count : (old new : List SourceEncoder) → ids_in new ≡ ids_in old → length new ≡ length old
same_count old new e = sym (length-map new (λ (s : SourceEncoder). s.id)) ∙ ap length e ∙ length-map old (λ (s : SourceEncoder). s.id)

-- an ID at its place
id_at : (slots : List SourceEncoder) (k : ℕ) (d : SourceEncoder) → k < length slots → get_or (ids_in slots) k d.id ≡ (get_or slots k d).id
id_at [] k d lt = absurd (omega (arith, lt))
id_at (s ∷ slots) zero d lt = refl
id_at (s ∷ slots) (suc k) d lt = id_at slots k d (omega (arith, lt))

-- where none is of a source, it is not among them
in_place : (slots : List SourceEncoder) (id : ℕ) → list_any (λ x. x == id) (ids_in slots) ≡ list_any (λ e. e.id == id) slots
in_place [] id = refl
in_place (s ∷ slots) id = ap (λ (b : Bool). (s.id == id) || b) (in_place slots id)

pub none_of : (slots : List SourceEncoder) (id : ℕ) → position (λ e. e.id == id) slots ≡ None → list_any (λ x. x == id) (ids_in slots) ≡ false
none_of slots id none =
    in_place slots id
    ∙ list_any_none (λ e. e.id == id) slots (λ k d lt. fails_before_first (λ e. e.id == id) slots k d (past (nat_lt (position_or_len (λ e. e.id == id) slots) (length slots)) refl none k lt))
  where
    past : (b : Bool) → nat_lt (position_or_len (λ e. e.id == id) slots) (length slots) ≡ b →
        cond b (Some (position_or_len (λ e. e.id == id) slots)) None ≡ None → (k : ℕ) → k < length slots → k < position_or_len (λ e. e.id == id) slots
    past true e none k lt = absurd cc
    past false e none k lt = (let most : length slots ≤ position_or_len (λ e. e.id == id) slots = grind (arith, nat_tests) in omega (arith, most, lt))

pub ids_kept : (slots : List SourceEncoder) (i : ℕ) (d : SourceEncoder) (new : StpEncoder) →
    ids_in (set slots i (record { id = (get_or slots i d).id; encoder = new })) ≡ ids_in slots
ids_kept slots i d new = map-set_same (λ (s : SourceEncoder). s.id) slots i (record { id = (get_or slots i d).id; encoder = new }) d refl

-- the one that is found is of the source, and stands for what that was given
pub record IsFound (next : NextItem) (slots : List SourceEncoder) (i : ℕ) (d : SourceEncoder) : Type 0 where
  pub within : i < length slots
  pub at : (get_or slots i d).id ≡ next.id
  pub order : encoders.order_of (get_or slots i d).encoder ≡ next.order
  pub stands : encoders.Stands (get_or slots i d).encoder (next.given next.id)

pub found_in : (next : NextItem) (slots : List SourceEncoder) (i : ℕ) (d : SourceEncoder) →
    position (λ e. e.id == next.id) slots ≡ Some i → AreReady next slots → IsFound next slots i d
found_in next slots i d e ready =
    let k = position-Some (λ e. e.id == next.id) slots i d e in
    let is : ((get_or slots i d).id == next.id) ≡ true = k.1 in
    let at : (get_or slots i d).id ≡ next.id = grind (arith, nat_tests) in
    let one = ready.stand i d k.0 in
    let stands = subst (λ (n : ℕ). encoders.Stands (get_or slots i d).encoder (next.given n)) at one.1 in
    record { within = k.0; at = at; order = one.0; stands = stands }

-- the encoder of the source stands for its item too, and the others for what they stood for
module _ (order : Order) (slots : List SourceEncoder) (given : ℕ → List Put) (id i : ℕ) (item : StpItem) (d : SourceEncoder) (new : StpEncoder) where
  abbrev next : NextItem
  next = record { order = order; given = given; id = id; item = Stp item }

  abbrev written : SourceEncoder
  written = record { id = (get_or slots i d).id; encoder = new }

  abbrev IsAfter : SourceEncoder → Type 0
  IsAfter e = (encoders.order_of e.encoder ≡ order) × encoders.Stands e.encoder (given_after next e.id)

  here : (get_or slots i d).id ≡ id → encoders.order_of new ≡ order → encoders.Stands new (given id ++ PutOf item ∷ []) → IsAfter written
  here at same stands =
      let is : (id == id) ≡ true = grind (arith, nat_tests) in
      subst (λ (n : ℕ). (encoders.order_of new ≡ order) × encoders.Stands new (given_after next n)) (sym at)
      (same, subst (λ (b : Bool). encoders.Stands new (given id ++ unmarked (if b then item ∷ [] else []))) (sym is) stands)

  there : (e : SourceEncoder) → (id == e.id) ≡ false → (encoders.order_of e.encoder ≡ order) × encoders.Stands e.encoder (given e.id) → IsAfter e
  there e other h = (
    h.0,
    subst (λ (b : Bool). encoders.Stands e.encoder (given e.id ++ unmarked (if b then item ∷ [] else []))) (sym other)
        (subst (encoders.Stands e.encoder) (sym (append-nil (given e.id))) h.1),
  )

  apart : AreReady next slots → i < length slots → (get_or slots i d).id ≡ id → (k : ℕ) (c : SourceEncoder) → k ≢ i → k < length slots →
      (id == (get_or slots k c).id) ≡ false
  apart ready lt at k c ne within =
      let first = id_at slots i d lt ∙ at in
      let other = id_at slots k c within in
      let count : length (ids_in slots) ≡ length slots = length-map slots (λ (s : SourceEncoder). s.id) in
      let same : get_or (ids_in slots) i c.id ≡ get_or (ids_in slots) i d.id = get_or_default (ids_in slots) i c.id d.id (omega (arith, lt, count)) in
      elim (cases_lt k i) [
        | inl less ↦ let r = ready.rising k i c.id less (omega (arith, lt, count)) in
            let l : (get_or slots k c).id < id = omega (arith, r, first, other, same) in grind (arith, nat_tests)
        | inr most ↦ let r = ready.rising i k c.id (omega (arith, most, ne)) (omega (arith, within, count)) in
            let l : id < (get_or slots k c).id = omega (arith, r, first, other, same) in grind (arith, nat_tests)
      ]

  pub all_after : AreReady next slots → i < length slots → (get_or slots i d).id ≡ id → encoders.order_of new ≡ order →
      encoders.Stands new (given id ++ PutOf item ∷ []) → AllStand order (set slots i written) (given_after next)
  all_after ready lt at same stands k c within = by (k == i) refl
    where
      within_old : k < length slots
      within_old = omega (arith, within, length-set slots i written)

      by : (b : Bool) → (k == i) ≡ b → IsAfter (get_or (set slots i written) k c)
      by true e =
          let is : k ≡ i = grind (arith, nat_tests) in
          subst (λ (n : ℕ). IsAfter (get_or (set slots i written) n c)) (sym is)
          (subst IsAfter (sym (get_or-set_same slots i written c lt)) (here at same stands))
      by false e =
          let ne : k ≢ i = grind (arith, nat_tests) in
          subst IsAfter (sym (get_or-set_other slots i k written c ne))
          (there (get_or slots k c) (apart ready lt at k c ne within_old) (ready.stand k c within_old))

-- == The making of them

next_kept : (ids : List ℕ) (number : ℕ) → 1 ≤ number →
    filter (among ids) (range_with_len 1 (number + 1 - 1))
    ≡ filter (among ids) (range_with_len 1 (number - 1)) ++ (if among ids number then number ∷ [] else [])
next_kept ids number h =
    ap (λ (n : ℕ). filter (among ids) (range_with_len 1 n)) (let e : number + 1 - 1 ≡ suc (number - 1) = omega (arith, h) in e)
    ∙ ap (filter (among ids)) (range_push 1 (number - 1))
    ∙ filter-append (among ids) (range_with_len 1 (number - 1)) ((1 + (number - 1)) ∷ [])
    ∙ ap (λ (n : ℕ). filter (among ids) (range_with_len 1 (number - 1)) ++ (if among ids n then n ∷ [] else [])) (let e : 1 + (number - 1) ≡ number = omega (arith, h) in e)

abbrev pub UpTo : Order → List ℕ → ℕ → List SourceEncoder → Type 0
UpTo order ids n slots = (ids_in slots ≡ filter (among ids) (range_with_len 1 n)) × AllStand order slots (λ _. [])

pub kept_room : (order : Order) (ids : List ℕ) (number : ℕ) (slots : List SourceEncoder) → 1 ≤ number → length ids ≤ 8 →
    UpTo order ids (number - 1) slots → among ids number ≡ true → length slots < 8
kept_room order ids number slots low few h is =
    let count : length (ids_in slots) ≡ length slots = length-map slots (λ (s : SourceEncoder). s.id) in
    let all = next_kept ids number low ∙ ap (λ (b : Bool). filter (among ids) (range_with_len 1 (number - 1)) ++ (if b then number ∷ [] else [])) is in
    let one : length (filter (among ids) (range_with_len 1 (number + 1 - 1))) ≡ length (filter (among ids) (range_with_len 1 (number - 1))) + 1 =
    ap length all ∙ length_push (filter (among ids) (range_with_len 1 (number - 1))) number in
    let most = in_order_few ids (number + 1 - 1) in
    let same = ap length h.0 in
    omega (arith, count, one, most, same, few)

pub kept_pushed : (order : Order) (ids : List ℕ) (number : ℕ) (slots : List SourceEncoder) (new : SourceEncoder) → 1 ≤ number →
    UpTo order ids (number - 1) slots → among ids number ≡ true → new.id ≡ number → encoders.order_of new.encoder ≡ order →
    encoders.Stands new.encoder [] → UpTo order ids (number + 1 - 1) (slots ++ new ∷ [])
kept_pushed order ids number slots new low h is same o stands = (
  map-append (λ (s : SourceEncoder). s.id) slots (new ∷ []) ∙ ap (λ (l : List ℕ). l ++ new.id ∷ []) h.0
      ∙ ap (λ (n : ℕ). filter (among ids) (range_with_len 1 (number - 1)) ++ n ∷ []) same
      ∙ sym (next_kept ids number low ∙ ap (λ (b : Bool). filter (among ids) (range_with_len 1 (number - 1)) ++ (if b then number ∷ [] else [])) is),
  All-push (λ e. (encoders.order_of e.encoder ≡ order) × encoders.Stands e.encoder []) slots new h.1 (o, stands),
)

pub kept_same : (order : Order) (ids : List ℕ) (number : ℕ) (slots : List SourceEncoder) → 1 ≤ number →
    UpTo order ids (number - 1) slots → among ids number ≡ false → UpTo order ids (number + 1 - 1) slots
kept_same order ids number slots low h is = (
  h.0 ∙ sym (append-nil (filter (among ids) (range_with_len 1 (number - 1))))
      ∙ sym (next_kept ids number low ∙ ap (λ (b : Bool). filter (among ids) (range_with_len 1 (number - 1)) ++ (if b then number ∷ [] else [])) is),
  h.1,
)

pub kept_all : (order : Order) (ids : List ℕ) (n : ℕ) (slots : List SourceEncoder) → UpTo order ids n slots → n ≡ 126 → ids_in slots ≡ in_order ids
unfolding in_order
kept_all order ids n slots h e = h.0 ∙ ap (λ (m : ℕ). filter (among ids) (range_with_len 1 m)) e

-- each is for a source other than the null source
pub all_named : (slots : List SourceEncoder) (ids : List ℕ) → ids_in slots ≡ in_order ids → All (λ e. 0 < e.id) slots
all_named slots ids e k d lt =
    let count : length (ids_in slots) ≡ length slots = length-map slots (λ (s : SourceEncoder). s.id) in
    let at : get_or (ids_in slots) k d.id ≡ get_or (in_order ids) k d.id = ap (λ (l : List ℕ). get_or l k d.id) e in
    let low = in_order_low ids k d.id (omega (arith, lt, count, ap length e)) in
    let is = id_at slots k d lt in
    omega (arith, low, at, is)

pub named_still : (old new : List SourceEncoder) → ids_in new ≡ ids_in old → All (λ e. 0 < e.id) old → All (λ e. 0 < e.id) new
named_still old new e h k d lt =
    let lt_old : k < length old = omega (arith, lt, same_count old new e) in
    let at : get_or (ids_in new) k d.id ≡ get_or (ids_in old) k d.id = ap (λ (l : List ℕ). get_or l k d.id) e in
    let low = h k d lt_old in
    let is = id_at new k d lt in
    let was = id_at old k d lt_old in
    omega (arith, low, at, is, was)

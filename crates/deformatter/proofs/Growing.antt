-- A reading with one more byte of which the rule says this.
use Rattle.std.proofs.Common.{◌≡◌, ℕ, ◌+◌, ◌≤◌, List, [], ◌∷◌, ◌++◌, refl, sym, ◌∙◌, ap, inl, inr, arith, subst, append-nil, Option, None, Some}
use Rattle.std.specs.List.{sum_by}
use Rattle.std.proofs.lemmas.List.{map-append}
use Rattle.std.proofs.lemmas.List.Sums.{sum_by_push, sum_by-append}
use Rattle.deformatter.specs.Names.{Reason, Next, Go, End, Fail, Place, Placed, byte_at, Progress, with_unit, FaultAt}
use Rattle.deformatter.specs.Names.{PortItem, Full, Half, Frame, State, start, item_cells, cells_of_items, id_of_items}
use Rattle.deformatter.specs.Names.{fulls_in, halves_in, frames_in}
use Rattle.frame_grammar.proofs.Items.{id_of_items-push, cells_of_items-push}
use Rattle.deformatter.specs.Reading.{PortStream, items_of, read_after, cells_in, id_in}
use Rattle.deformatter.specs.Growth.{place_at, PortGrows, PortSettled, PortRises}
use Rattle.deformatter.specs.Rule.{step_by, cells_by, id_by}
use Rattle.deformatter.proofs.Lawful.{Lawful}
use Rattle.deformatter.proofs.Parts.{quiet_step, half_step}

pub items_push : (l : List (PortItem × Place)) (v : PortItem) (place : Place) → items_of (l ++ (v, place) ∷ []) ≡ items_of l ++ v ∷ []
items_push l v place = map-append (λ (x : PortItem × Place). x.0) l ((v, place) ∷ [])

pub sum_push : (f : PortItem → ℕ) (l : List (PortItem × Place)) (v : PortItem) (place : Place) → sum_by f (items_of (l ++ (v, place) ∷ [])) ≡ sum_by f (items_of l) + f v
sum_push f l v place = ap (sum_by f) (items_push l v place) ∙ sum_by_push f (items_of l) v

-- the cells, and the ID in force
pub cells_fed : (skipped : ℕ) (p : Progress State PortItem) (b : Placed) (n : Next State PortItem) →
    cells_in (read_after skipped (with_unit start p b n None)) ≡ cells_in (read_after skipped p) ++ cells_by (id_in (read_after skipped p)) n
cells_fed skipped p b (Go t) = sym (append-nil (cells_in (read_after skipped p)))
cells_fed skipped p b (End v) = ap (cells_of_items None) (items_push p.items v b.place) ∙ cells_of_items-push None (items_of p.items) v
cells_fed skipped p b (Fail e) = sym (append-nil (cells_in (read_after skipped p)))

pub id_fed : (skipped : ℕ) (p : Progress State PortItem) (b : Placed) (n : Next State PortItem) →
    id_in (read_after skipped (with_unit start p b n None)) ≡ id_by (id_in (read_after skipped p)) n
id_fed skipped p b (Go t) = refl
id_fed skipped p b (End v) = ap (id_of_items None) (items_push p.items v b.place) ∙ id_of_items-push None (items_of p.items) v
id_fed skipped p b (Fail e) = refl

module _ (skipped : ℕ) (p : Progress State PortItem) (at byte : ℕ) where
  -- the step follows how the reading grew
  pub grows : (n : Next State PortItem) → Lawful p.state n → PortGrows (read_after skipped p) (read_after skipped (with_unit start p (byte_at at byte) n None)) at (step_by at p.state n)
  grows (Go t) l = elim l.1 [
    | inl e ↦ subst (λ step. PortGrows (read_after skipped p) (read_after skipped (with_unit start p (byte_at at byte) (Go t) None)) at step) (quiet_step at p.state t e) (record {
      items = refl;
      halves = omega (arith, e);
      fulls = omega arith;
      frames = omega arith;
      fault = refl;
      hunt = (refl, refl);
    })
    | inr e ↦ subst (λ step. PortGrows (read_after skipped p) (read_after skipped (with_unit start p (byte_at at byte) (Go t) None)) at step) (half_step at p.state t e) (record {
      items = inl refl;
      halves = omega (arith, e);
      fulls = omega arith;
      frames = omega arith;
      fault = refl;
      hunt = record { before = refl; after = refl; skipped = refl };
    })
  ]
  grows (End Full) l = record {
    items = refl;
    halves = (let e = sum_push halves_in p.items Full (place_at at) in omega (arith, e, l));
    fulls = sum_push fulls_in p.items Full (place_at at);
    frames = sum_push frames_in p.items Full (place_at at);
    fault = refl;
    hunt = record { before = refl; after = refl; skipped = refl };
  }
  grows (End Half) l = record {
    items = inr refl;
    halves = (let e = sum_push halves_in p.items Half (place_at at) in omega (arith, e, l));
    fulls = sum_push fulls_in p.items Half (place_at at);
    frames = sum_push frames_in p.items Half (place_at at);
    fault = refl;
    hunt = record { before = refl; after = refl; skipped = refl };
  }
  grows (End (Frame f h)) l = record {
    items = (f, h, refl);
    halves = (let e = sum_push halves_in p.items (Frame f h) (place_at at) in omega (arith, e, l));
    fulls = sum_push fulls_in p.items (Frame f h) (place_at at);
    frames = sum_push frames_in p.items (Frame f h) (place_at at);
    fault = refl;
    hunt = record { before = refl; after = refl; skipped = refl };
  }
  grows (Fail e) l = record {
    items = refl;
    halves = omega arith;
    fulls = omega arith;
    frames = omega arith;
    fault = refl;
    hunt = (refl, refl, record { before = refl; after = refl; skipped = refl });
  }

-- after a fault nothing grows
pub stays : (skipped : ℕ) (p : Progress State PortItem) (b : Placed) (n : Next State PortItem) (f : Place × Reason) → p.fault ≡ Some f →
    PortSettled (read_after skipped p) (read_after skipped (with_unit start p b n (Some f)))
stays skipped p b (Go t) f e = record { items = refl; halves = refl; fault = sym e; skipped = refl; locked = refl }
stays skipped p b (End v) f e = record { items = refl; halves = refl; fault = sym e; skipped = refl; locked = refl }
stays skipped p b (Fail r) f e = record { items = refl; halves = refl; fault = sym e; skipped = refl; locked = refl }

-- with more items no count is less
pub no_less : (f : PortItem → ℕ) (old new more : List (PortItem × Place)) → new ≡ old ++ more → sum_by f (items_of old) ≤ sum_by f (items_of new)
no_less f old new more e =
    let k : sum_by f (items_of new) ≡ sum_by f (items_of old) + sum_by f (items_of more) =
    ap (λ (l : List (PortItem × Place)). sum_by f (items_of l)) e ∙ ap (sum_by f) (map-append (λ (x : PortItem × Place). x.0) old more) ∙ sum_by-append f (items_of old) (items_of more) in
    omega arith

-- where no item is more
rises_without : (old new : PortStream) (at : ℕ) → new.items ≡ old.items → cells_in new ≡ cells_in old ++ [] → old.halves ≤ new.halves → FaultAt at old.fault new.fault → PortRises old new at
rises_without old new at e c h f =
    let items : new.items ≡ old.items ++ [] = e ∙ sym (append-nil old.items) in
    record {
      more = [];
      items = items;
      all = tt;
      more_cells = [];
      cells = c;
      halves = h;
      fulls = no_less fulls_in old.items new.items [] items;
      frames = no_less frames_in old.items new.items [] items;
      fault = f;
    }

-- what is more is at the byte
pub rises : (skipped : ℕ) (p : Progress State PortItem) (at byte : ℕ) (n : Next State PortItem) → p.fault ≡ None → Lawful p.state n →
    PortRises (read_after skipped p) (read_after skipped (with_unit start p (byte_at at byte) n None)) at
rises skipped p at byte (Go t) f l =
    rises_without _ _ at refl (cells_fed skipped p (byte_at at byte) (Go t)) (elim l.1 [ inl e ↦ omega (arith, e) | inr e ↦ omega (arith, e) ])
    (subst (λ (g : Option (Place × Reason)). FaultAt at g None) (sym f) tt)
rises skipped p at byte (End v) f l = record {
  more = (v, place_at at) ∷ [];
  items = refl;
  all = (refl, tt);
  more_cells = item_cells (id_in (read_after skipped p)) v;
  cells = cells_fed skipped p (byte_at at byte) (End v);
  halves = more v l;
  fulls = no_less fulls_in p.items (p.items ++ (v, place_at at) ∷ []) ((v, place_at at) ∷ []) refl;
  frames = no_less frames_in p.items (p.items ++ (v, place_at at) ∷ []) ((v, place_at at) ∷ []) refl;
  fault = subst (λ (g : Option (Place × Reason)). FaultAt at g None) (sym f) tt;
} where
  more : (v : PortItem) → Lawful p.state (End v) → sum_by halves_in (items_of p.items) + p.state.halves ≤ sum_by halves_in (items_of (p.items ++ (v, place_at at) ∷ [])) + 0
  more Full l = let e = sum_push halves_in p.items Full (place_at at) in omega (arith, e, l)
  more Half l = let e = sum_push halves_in p.items Half (place_at at) in omega (arith, e, l)
  more (Frame g h) l = let e = sum_push halves_in p.items (Frame g h) (place_at at) in omega (arith, e, l)
rises skipped p at byte (Fail e) f l =
    rises_without _ _ at refl (cells_fed skipped p (byte_at at byte) (Fail e)) (omega arith)
    (subst (λ (g : Option (Place × Reason)). FaultAt at g (Some (place_at at, e))) (sym f) refl)

-- What the rest of a port's bytes reads as, against the whole.
use Rattle.std.proofs.Common.{◌≡◌, ℕ, ◌+◌, List, [], ◌∷◌, ◌++◌, length, sym, ◌∙◌, ap, subst, inl, inr, arith, append_assoc, append-nil, Bool, true, false, Option, None}
use Rattle.std.specs.List.{sum_by}
use Rattle.std.proofs.lemmas.List.{map-append, nil_from_length}
use Rattle.std.proofs.lemmas.List.Sums.{sum_by-append}
use Rattle.resync_grammars.specs.Names.{Cell, Place, Placed, units_of, Progress, Splits, progress, EndsWith}
use Rattle.resync_grammars.specs.Names.{pattern_of, Found, hunt, PortItem, Full, State, Spells, why, start, rule}
use Rattle.resync_grammars.specs.Names.{halves_in, cells_of_items, id_of_items, pattern, PortStream, items_of}
use Rattle.resync_grammars.specs.Names.{read_after, all_skipped, port_hunted, port_stream, cells_in}
use Rattle.trace_values.proofs.Standings.{from_append}
use Rattle.trace_values.proofs.Readings as readings
use Rattle.frame_grammar.proofs.Deciding.{port_decided}
use Rattle.frame_grammar.proofs.Items.{cells_of_items-append}
use Rattle.resync_grammars.specs.Port.{FullEnded, FullEnds, PortLocks, IsFramedRest, AreNamedLater}
use Rattle.resync_rules.proofs.Continuing as continuing
use Rattle.resync_rules.proofs.Syncing.{units_append, splits_last}
use Rattle.resync_rules.proofs.Locking as locking
use Rattle.resync_grammars.proofs.Syncing.{port_syncs}
use Rattle.resync_grammars.proofs.Naming.{named_later}

abbrev prog : List Placed → Progress State PortItem
prog u = progress rule start u

abbrev found_in : Bool → List Placed → Option (Found State PortItem)
found_in = locking.found_in Spells why rule start pattern Full port_syncs

abbrev at_found : ℕ → Place → Progress State PortItem → Option (Found State PortItem)
at_found = locking.at_found Spells why rule start pattern Full port_syncs

abbrev with_before : List (PortItem × Place) → Progress State PortItem → Progress State PortItem
with_before = continuing.with_before rule start

-- a stream is what is read after the bytes skipped
pub reads : (h : Bool) (x : List Placed) (n : ℕ) (place : Place) (q : Progress State PortItem) → found_in h x ≡ at_found n place q → port_stream h x ≡ read_after n q
reads false x n place q e =
    let f : (let a : Found State PortItem = record { skipped = 0; place = record { at = 0; half = 0 }; reading = prog x } in a ≡ record { skipped = n; place = place; reading = q }) = cc in
    ap (λ (g : Found State PortItem). read_after g.skipped g.reading) f
reads true x n place q e = ap (λ (o : Option (Found State PortItem)). port_hunted (hunt pattern Full rule start x).units o) e

pub skips : (x : List Placed) → (hunt pattern Full rule start x).found ≡ None → port_stream true x ≡ all_skipped (length x)
skips x e =
    ap (λ (o : Option (Found State PortItem)). port_hunted (hunt pattern Full rule start x).units o) e
    ∙ ap all_skipped (locking.units_counted Spells why rule start pattern Full port_syncs x)

not_empty : (before : List (PortItem × Place)) (x : PortItem × Place) → [] ≡ before ++ x ∷ [] → ⊥
not_empty [] x e = cc
not_empty (y ∷ before) x e = cc

-- where a full synchronisation has just ended, the pattern ends
ends_pattern : (h : Bool) (x : List Placed) → FullEnded (port_stream h x) → EndsWith (pattern_of pattern) (units_of x)
ends_pattern h x e = elim (locking.by_mode Spells why rule start pattern Full port_syncs h x) [
  | inr n ↦ absurd (not_empty e.before (Full, e.place) (ap (λ (z : PortStream). z.items) (sym (ap (λ (b : Bool). port_stream b x) n.0 ∙ skips x n.2)) ∙ e.items))
  | inl r ↦
      let s = reads h x (length r.front) r.place (prog r.seen) r.here in
      let items : (prog r.seen).items ≡ e.before ++ (Full, e.place) ∷ [] = ap (λ (z : PortStream). z.items) (sym s) ∙ e.items in
      let none : (prog r.seen).rest ≡ [] = nil_from_length (prog r.seen).rest (ap (λ (z : PortStream). z.tail) (sym s) ∙ e.tail) in
      let splits = (readings.reading_is Spells why rule start port_decided r.seen).splits in
      let at : Splits Spells (e.before ++ (Full, e.place) ∷ []) [] r.seen =
      subst (λ (z : List Placed). Splits Spells (e.before ++ (Full, e.place) ∷ []) z r.seen) none (subst (λ (z : List (PortItem × Place)). Splits Spells z (prog r.seen).rest r.seen) items splits) in
      let z = splits_last Spells e.before (Full, e.place) r.seen at in (
        units_of r.front ++ units_of z.0,
        ap units_of r.parts ∙ units_append r.front r.seen ∙ ap (λ (y : List ℕ). units_of r.front ++ y) (ap units_of z.2 ∙ units_append z.0 z.1 ∙ ap (λ (y : List ℕ). units_of z.0 ++ y) z.3)
            ∙ sym (append_assoc (units_of r.front) (units_of z.0) (pattern_of pattern)),
      )
]

sum_append : (xs ys : List PortItem) → sum_by halves_in (xs ++ ys) ≡ sum_by halves_in xs + sum_by halves_in ys
sum_append xs ys = sum_by-append halves_in xs ys

items_append : (xs ys : List (PortItem × Place)) → items_of (xs ++ ys) ≡ items_of xs ++ items_of ys
items_append xs ys = map-append (λ (x : PortItem × Place). x.0) xs ys

module _ (h : Bool) (u w : List Placed) (l : locking.IsLock Spells why rule start pattern Full port_syncs h u w) where
  abbrev front : List Placed
  front = l.before ++ l.sync

  abbrev last : Progress State PortItem
  last = prog (l.sync ++ l.after)

  then : port_stream h (u ++ front) ≡ read_after l.skipped (with_before l.early (prog l.sync))
  then =
      reads h (u ++ front) l.skipped l.whole_place (with_before l.early (prog l.sync))
      (ap (λ (z : List Placed). found_in h (u ++ z)) (sym (append-nil front)) ∙ l.whole []
      ∙ ap (λ (z : List Placed). at_found l.skipped l.whole_place (with_before l.early (prog z))) (append-nil l.sync))

  now : port_stream h (u ++ w) ≡ read_after l.skipped (with_before l.early last)
  now = reads h (u ++ w) l.skipped l.whole_place (with_before l.early last) (ap (λ (z : List Placed). found_in h (u ++ z)) l.parts ∙ l.whole l.after)

  rest_is : port_stream true w ≡ read_after (length l.before) last
  rest_is = reads true w (length l.before) l.place last (ap (found_in true) l.parts ∙ l.rest l.after)

  then_items : (port_stream h (u ++ front)).items ≡ l.early ++ (Full, l.place) ∷ []
  then_items = ap (λ (z : PortStream). z.items) then ∙ ap (λ (q : Progress State PortItem). l.early ++ q.items) l.alone

  then_tail : (port_stream h (u ++ front)).tail ≡ 0
  then_tail = ap (λ (z : PortStream). z.tail) then ∙ ap (λ (q : Progress State PortItem). length q.rest) l.alone

  more : (later : List (PortItem × Place)) × (last.items ≡ (Full, l.place) ∷ later)
  more =
      let i = continuing.items_from rule start l.after (prog l.sync) in (
        i.0,
        ap (λ (q : Progress State PortItem). q.items) (from_append rule start l.sync l.after (continuing.ended rule start []))
            ∙ i.1 ∙ ap (λ (q : Progress State PortItem). q.items ++ i.0) l.alone,
      )

  halves : (port_stream h (u ++ w)).halves ≡ sum_by halves_in (items_of l.early) + (port_stream true w).halves
  halves =
      ap (λ (z : PortStream). z.halves) now
      ∙ ap (λ (xs : List PortItem). sum_by halves_in xs + last.state.halves) (items_append l.early last.items)
      ∙ ap (λ (n : ℕ). n + last.state.halves) (sum_append (items_of l.early) (items_of last.items))
      ∙ (let e : sum_by halves_in (items_of l.early) + sum_by halves_in (items_of last.items) + last.state.halves
      ≡ sum_by halves_in (items_of l.early) + (sum_by halves_in (items_of last.items) + last.state.halves) = omega arith in e)
      ∙ ap (λ (z : PortStream). sum_by halves_in (items_of l.early) + z.halves) (sym rest_is)

  whole_cells : cells_in (port_stream h (u ++ w)) ≡ cells_of_items None (items_of l.early) ++ cells_of_items (id_of_items None (items_of l.early)) (items_of last.items)
  whole_cells =
      ap cells_in now ∙ ap (cells_of_items None) (items_append l.early last.items)
      ∙ cells_of_items-append None (items_of l.early) (items_of last.items)

  pub locked : PortLocks h u w front
  locked = record {
    first =
        locking.first_end Spells why rule start pattern Full port_syncs (FullEnds h) (ends_pattern h) h u w l
        (record { before = l.early; place = l.place; items = then_items; tail = then_tail });
    start = l.before ++ l.ends.0;
    last = l.last;
    ends = ap (λ (z : List Placed). l.before ++ z) l.ends.1 ∙ sym (append_assoc l.before l.ends.0 (l.last ∷ []));
    skipped = ap (λ (z : PortStream). z.skipped + 4) rest_is ∙ sym (locking.front_length Spells why rule start pattern Full port_syncs h u w l);
    locked = ap (λ (z : PortStream). z.locked) rest_is;
    early = l.early;
    later = more.0;
    whole_then = then_items ∙ ap (λ (x : Place). l.early ++ (Full, x) ∷ []) l.at;
    whole_items = ap (λ (z : PortStream). z.items) now ∙ ap (λ (xs : List (PortItem × Place)). l.early ++ xs) (more.1 ∙ ap (λ (x : Place). (Full, x) ∷ more.0) l.at);
    rest_items = ap (λ (z : PortStream). z.items) rest_is ∙ more.1 ∙ ap (λ (x : Place). (Full, x) ∷ more.0) l.at;
    halves = halves;
    fault = ap (λ (z : PortStream). z.fault) rest_is ∙ ap (λ (z : PortStream). z.fault) (sym now);
    tail = ap (λ (z : PortStream). z.tail) rest_is ∙ ap (λ (z : PortStream). z.tail) (sym now);
    cells_later = cells_of_items (id_of_items None (items_of l.early)) (items_of last.items);
    whole_cells = whole_cells;
    rest_cells = subst (λ (z : List Cell). AreNamedLater (cells_of_items (id_of_items None (items_of l.early)) (items_of last.items)) z) (ap cells_in (sym rest_is))
        (named_later (id_of_items None (items_of l.early)) (items_of last.items));
  }

pub is_rest : (h : Bool) (u w : List Placed) → (port_stream h (u ++ w)).fault ≡ None → IsFramedRest h u w
is_rest h u w f =
    locking.rest_locks Spells why rule start pattern Full port_syncs (FullEnds h) (ends_pattern h) h u w
    (locking.sound_in Spells why rule start pattern Full port_syncs (λ (z : PortStream). z.fault) port_stream (λ h x n place q e. ap (λ (z : PortStream). z.fault) (reads h x n place q e)) h (u ++ w) f)
    (port_stream true w ≡ all_skipped (length w)) (PortLocks h u w) (skips w) (locked h u w)

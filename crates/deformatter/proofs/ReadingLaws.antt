-- Laws of the reading of a port's bytes.
use Rattle.std.proofs.Common.{◌≡◌, ℕ, List, [], ◌∷◌, ◌++◌, refl, sym, ◌∙◌, ap, inl, inr, arith, subst, append_assoc, append-nil, Bool, true, false, Option, None, Some}
use Rattle.std.specs.Prelude.{is_none}
use Rattle.deformatter.specs.Names.{Reason, Place, Placed, byte_at, with_unit, advance, FaultAt, PortItem, Full, start}
use Rattle.deformatter.specs.Names.{rule, fulls_in, frames_in}
use Rattle.trace_values.proofs.Standings.{some_of}
use Rattle.deformatter.specs.Reading.{PortStream, read_after, all_skipped, port_stream, cells_in}
use Rattle.deformatter.specs.Growth.{place_at, PortSettled, PortRises}
use Rattle.deformatter.proofs.Lawful.{lawful}
use Rattle.deformatter.proofs.Growing as growing
use Rattle.deformatter.proofs.Readings.{port_hunt, IsRead, by_mode, seeks_old, seeks_new, locks_at, after}

settled_refl : (s : PortStream) → PortSettled s s
settled_refl s = record { items = refl; halves = refl; fault = refl; skipped = refl; locked = refl }

settled_then : (a b c : PortStream) → PortSettled a b → PortSettled b c → PortSettled a c
settled_then a b c x y = record {
  items = y.items ∙ x.items;
  halves = y.halves ∙ x.halves;
  fault = y.fault ∙ x.fault;
  skipped = y.skipped ∙ x.skipped;
  locked = y.locked ∙ x.locked;
}

stays : (h : Bool) (u : List Placed) (b : Placed) (r : IsRead h u) (f : Place × Reason) → r.progress.fault ≡ Some f → PortSettled (port_stream h u) (port_stream h (u ++ b ∷ []))
stays h u b r f e =
    let k : PortSettled (read_after r.skipped r.progress) (read_after r.skipped (advance rule start r.progress b)) =
    subst (λ (x : Option (Place × Reason)). PortSettled (read_after r.skipped r.progress) (read_after r.skipped (with_unit start r.progress b (rule r.progress.state b) x))) (sym e)
    (growing.stays r.skipped r.progress b (rule r.progress.state b) f e) in
    subst (λ (s : PortStream). PortSettled s (port_stream h (u ++ b ∷ []))) (sym r.old)
    (subst (λ (s : PortStream). PortSettled (read_after r.skipped r.progress) s) (sym (r.new b)) k)

settles_one : (h : Bool) (u : List Placed) (b : Placed) → is_none (port_stream h u).fault ≡ false → PortSettled (port_stream h u) (port_stream h (u ++ b ∷ []))
settles_one h u b e = elim (by_mode h u) [
  | inl r ↦ (let f = some_of r.progress.fault (ap (λ (s : PortStream). is_none s.fault) (sym r.old) ∙ e) in stays h u b r f.0 f.1)
  | inr m ↦ absurd (none_there m.0 m.1)
] where
  none_there : h ≡ true → (port_hunt u).found ≡ None → ⊥
  none_there t n = (let k : true ≡ false = ap (λ (s : PortStream). is_none s.fault) (sym (seeks_old u n)) ∙ ap (λ (x : Bool). is_none (port_stream x u).fault) (sym t) ∙ e in cc)

-- a fault is the end of a reading
pub settles : (h : Bool) (u w : List Placed) → is_none (port_stream h u).fault ≡ false → PortSettled (port_stream h u) (port_stream h (u ++ w))
settles h u [] e = subst (λ (l : List Placed). PortSettled (port_stream h u) (port_stream h l)) (sym (append-nil u)) (settled_refl (port_stream h u))
settles h u (b ∷ w) e =
    let one = settles_one h u b e in
    let more = settles h (u ++ b ∷ []) w (ap (λ (f : Option (Place × Reason)). is_none f) one.fault ∙ e) in
    subst (λ (l : List Placed). PortSettled (port_stream h u) (port_stream h l)) (append_assoc u (b ∷ []) w)
    (settled_then (port_stream h u) (port_stream h (u ++ b ∷ [])) (port_stream h ((u ++ b ∷ []) ++ w)) one more)

rises_settled : (a b : PortStream) (at : ℕ) (f : Place × Reason) → a.fault ≡ Some f → PortSettled a b → PortRises a b at
rises_settled a b at f e s = record {
  more = [];
  items = s.items ∙ sym (append-nil a.items);
  all = tt;
  more_cells = [];
  cells = ap (λ (l : List (PortItem × Place)). cells_in (record a { items = l })) s.items ∙ sym (append-nil (cells_in a));
  halves = (let k = s.halves in omega arith);
  fulls = growing.no_less fulls_in a.items b.items [] (s.items ∙ sym (append-nil a.items));
  frames = growing.no_less frames_in a.items b.items [] (s.items ∙ sym (append-nil a.items));
  fault = subst (λ (g : Option (Place × Reason)). FaultAt at g b.fault) (sym e) (s.fault ∙ e);
}

rises_read : (h : Bool) (u : List Placed) (at byte : ℕ) (r : IsRead h u) (f : Option (Place × Reason)) → r.progress.fault ≡ f → PortRises (port_stream h u) (port_stream h (u ++ byte_at at byte ∷ [])) at
rises_read h u at byte r (Some f) e =
    rises_settled (port_stream h u) (port_stream h (u ++ byte_at at byte ∷ [])) at f (ap (λ (s : PortStream). s.fault) r.old ∙ e) (stays h u (byte_at at byte) r f e)
rises_read h u at byte r None e =
    let k : PortRises (read_after r.skipped r.progress) (read_after r.skipped (advance rule start r.progress (byte_at at byte))) at =
    subst (λ (x : Option (Place × Reason)). PortRises (read_after r.skipped r.progress) (read_after r.skipped (with_unit start r.progress (byte_at at byte) (rule r.progress.state (byte_at at byte)) x)) at) (sym e)
    (growing.rises r.skipped r.progress at byte (rule r.progress.state (byte_at at byte)) e (lawful r.progress.state (byte_at at byte) r.sound)) in
    subst (λ (s : PortStream). PortRises s (port_stream h (u ++ byte_at at byte ∷ [])) at) (sym r.old)
    (subst (λ (s : PortStream). PortRises (read_after r.skipped r.progress) s at) (sym (r.new (byte_at at byte))) k)

rises_seeking : (u : List Placed) (at byte : ℕ) → (port_hunt u).found ≡ None → PortRises (port_stream true u) (port_stream true (u ++ byte_at at byte ∷ [])) at
rises_seeking u at byte e =
    subst (λ (s : PortStream). PortRises s (port_stream true (u ++ byte_at at byte ∷ [])) at) (sym (seeks_old u e))
    (subst (λ (s : PortStream). PortRises (all_skipped (port_hunt u).units) s at) (sym (seeks_new u at byte e)) (by (locks_at (port_hunt u) byte))) where
      by : (t : Bool) → PortRises (all_skipped (port_hunt u).units) (after (port_hunt u) at byte t) at
      by true = record { more = (Full, place_at at) ∷ []; items = refl; all = (refl, tt); more_cells = []; cells = refl; halves = omega arith; fulls = omega arith; frames = omega arith; fault = tt }
      by false = record { more = []; items = refl; all = tt; more_cells = []; cells = refl; halves = omega arith; fulls = omega arith; frames = omega arith; fault = tt }

-- with one more byte there is more, and nothing is taken back
pub rises : (h : Bool) (u : List Placed) (at byte : ℕ) → PortRises (port_stream h u) (port_stream h (u ++ byte_at at byte ∷ [])) at
rises h u at byte = elim (by_mode h u) [
  | inl r ↦ rises_read h u at byte r r.progress.fault refl
  | inr m ↦ subst (λ (x : Bool). PortRises (port_stream x u) (port_stream x (u ++ byte_at at byte ∷ [])) at) (sym m.0) (rises_seeking u at byte m.1)
]

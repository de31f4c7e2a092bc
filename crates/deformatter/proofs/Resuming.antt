-- A deformatter after a fault, and a new one that hunts from there.
use Rattle.std.proofs.Common.{◌≡◌, ℕ, ◌+◌, ◌-◌, List, [], ◌∷◌, ◌++◌, length, refl, sym, ◌∙◌, ap, arith, subst, Option}
use Rattle.std.proofs.Common.{None, Some, Bool, true, false}
use Rattle.std.specs.Prelude.{is_none, ◌==◌, ◌&&◌}
use Rattle.std.proofs.lemmas.List.{length_push}
use Rattle.deformatter.specs.Names.{Next, Go, End, Fail, Reason, port_progress, Mode, Hunting, Locked, StandsIn, hunts}
use Rattle.deformatter.specs.Names.{Found, hunt, hunt_on, run_after, Seeks, Place, Placed, Progress, with_unit}
use Rattle.deformatter.specs.Names.{PortItem, Full, State, start, rule, pattern, run_of, size_of}
use Rattle.trace_values.proofs.Standings.{progress_push}
use Rattle.deformatter.specs.Phase.{mode_in}
use Rattle.deformatter.specs.declared.deformatter.Phase.{Phase}
use Rattle.deformatter.specs.declared.deformatter.Phase.TheVariants.{Hunting as PhaseHunting}
use Rattle.deformatter.proofs.Lawful.{counted}
use Rattle.trace_values.specs.declared.mode.Mode.TheVariants.{Aligned}
use Rattle.trace_values.specs.Hunted.{Hunt}
use Rattle.port_sync.specs.Aligner as aligner
use Rattle.deformatter.specs.Reading.{port_stream, id_in, port_hunted}
use Rattle.deformatter.specs.Resume.{state_by, state_found, again, taken_again}
use Rattle.deformatter.specs.Rule.{count_of, part_size}
use Rattle.deformatter.specs.Deformatter.{Stands, mode_of, state_of, id_of, is_live, is_hunter, tail_of}
use Rattle.deformatter.specs.declared.deformatter.Deformatter.{Deformatter}
use Rattle.deformatter.proofs.BeforeFaults.{Seeked, seeked, sound_seek}
use Rattle.deformatter.proofs.Parts.{size_is}
use Rattle.deformatter.proofs.Readings.{shows, hunt_push, locked_counted}

-- it keeps the state of the reading
dead_state : (m : Mode) (live : Bool) (s : State) (u : List Placed) → StandsIn pattern Full rule start m live s u →
    live ≡ false → state_by (hunts m) u ≡ s
dead_state Aligned live s u k l = k.state_is
dead_state (Hunting run skipped) live s u k l = (let e : true ≡ false = sym k.1 ∙ l in cc)
dead_state (Locked skipped) live s u k l = ap state_found k.some ∙ k.stands.state_is

pub part_is : (d : Deformatter) (w : List Placed) → Stands d w → is_live d ≡ false →
    part_size (state_by (is_hunter d) w).part ≡ size_of (aligner.part_of d.aligner)
part_is d w s l = ap (λ (x : State). part_size x.part) (dead_state (mode_of d) (is_live d) (state_of d) w s.reads l)
    ∙ size_is (aligner.part_of d.aligner) d.first_at

fault_is : (d : Deformatter) (w : List Placed) → Stands d w → is_live d ≡ false →
    is_none (port_stream (is_hunter d) w).fault ≡ false
fault_is d w s l = sym (shows (mode_of d) (is_live d) (state_of d) w s.reads).live_is ∙ l

-- a new hunt has taken what is taken again
pub seeks_again : (d : Deformatter) (u : List Placed) (x : Placed) (k : ℕ) → Stands d (u ++ x ∷ []) →
    is_live d ≡ false → (port_stream (is_hunter d) u).fault ≡ None →
    k ≡ size_of (aligner.part_of d.aligner) → Seeked k x (taken_again (is_hunter d) (u ++ x ∷ []))
seeks_again d u x k s l f e =
    let h = is_hunter d in
    let size : part_size (state_by h (u ++ x ∷ [])).part ≡ k = part_is d (u ++ x ∷ []) s l ∙ sym e in
    subst (λ n. Seeked n x (taken_again h (u ++ x ∷ []))) size (seeked h u x f (fault_is d (u ++ x ∷ []) s l))

-- a deformatter that hunts
pub stands_hunting : (d : Deformatter) (w : List Placed) → d.phase ≡ PhaseHunting →
    Seeks pattern Full rule start (run_of d.hunter) d.skipped w → is_live d ≡ true → state_of d ≡ start →
    id_of d ≡ None → Stands d w
stands_hunting d w p s l st i =
    let m : mode_of d ≡ Hunting (run_of d.hunter) d.skipped = ap (λ (q : Phase). mode_in q d.hunter d.skipped) p in
    record {
      reads = subst (λ (m : Mode). StandsIn pattern Full rule start m (is_live d) (state_of d) w) (sym m) (s, l, st);
      id = λ _. i ∙ sym (ap (λ (m : Mode). id_in (port_stream (hunts m) w)) m
          ∙ ap (λ (o : Option (Found State PortItem)). id_in (port_hunted (hunt pattern Full rule start w).units o))
          s.none);
    }

pub seeks_as : (k : ℕ) (x : Placed) (w : List Placed) (run skipped byte : ℕ) → x.unit ≡ byte →
    run ≡ run_after pattern k byte → skipped ≡ k + 1 → Seeked k x w → Seeks pattern Full rule start run skipped w
seeks_as k x w run skipped byte b r e s = record {
  run_is = s.run_is ∙ ap (run_after pattern k) b ∙ sym r;
  units_is = s.units_is ∙ sym e;
  none = s.none;
}

-- and what the dead one has of the unfinished item
tail_with : (p : Progress State PortItem) (x : Placed) (n : Next State PortItem) (f : Option (Place × Reason)) →
    f ≡ None → is_none (with_unit start p x n f).fault ≡ false → length p.rest ≡ count_of p.state →
    length (with_unit start p x n f).rest ≡ count_of (with_unit start p x n f).state + 1
tail_with p x (Go t) None e k c = cc
tail_with p x (End v) None e k c = cc
tail_with p x (Fail r) None e k c = (let l = length_push p.rest x in omega (arith, l, c))
tail_with p x n (Some y) e k c = cc

tail_found : (u : List Placed) (x : Placed) (o : Option (Found State PortItem)) →
    (hunt pattern Full rule start u).found ≡ o → (port_hunted (hunt pattern Full rule start u).units o).fault ≡ None →
    (let g = hunt_on pattern Full rule start (hunt pattern Full rule start u) x o in
    is_none (port_hunted g.units g.found).fault ≡ false) →
    (let g = hunt_on pattern Full rule start (hunt pattern Full rule start u) x o in
    (port_hunted g.units g.found).tail ≡ count_of (state_found g.found) + 1)
tail_found u x None e f k =
    (let q = sound_seek (hunt pattern Full rule start u) x
    (x.unit == 127 && (hunt pattern Full rule start u).run == 3) in let m : true ≡ false = sym q ∙ k in cc)
tail_found u x (Some g) e f k = tail_with g.reading x (rule g.reading.state x) g.reading.fault f k
    (locked_counted u g e f)

tail_after : (h : Bool) (u : List Placed) (x : Placed) → (port_stream h u).fault ≡ None →
    is_none (port_stream h (u ++ x ∷ [])).fault ≡ false →
    (port_stream h (u ++ x ∷ [])).tail ≡ count_of (state_by h (u ++ x ∷ [])) + 1
tail_after false u x f k =
    let q = progress_push rule start u x in
    subst (λ (r : Progress State PortItem). length r.rest ≡ count_of r.state + 1) (sym q)
    (tail_with (port_progress u) x (rule (port_progress u).state x) (port_progress u).fault f
    (ap (λ (r : Progress State PortItem). is_none r.fault) (sym q) ∙ k) (counted u f))
tail_after true u x f k =
    let h = hunt pattern Full rule start u in
    let q : hunt pattern Full rule start (u ++ x ∷ []) ≡ hunt_on pattern Full rule start h x h.found =
    hunt_push u x h.found refl in
    subst (λ (g : Hunt State PortItem). (port_hunted g.units g.found).tail ≡ count_of (state_found g.found) + 1) (sym q)
    (tail_found u x h.found refl f (ap (λ (g : Hunt State PortItem). is_none (port_hunted g.units g.found).fault)
    (sym q) ∙ k))

pub left_is : (d : Deformatter) (u : List Placed) (x : Placed) → Stands d (u ++ x ∷ []) → is_live d ≡ false →
    (port_stream (is_hunter d) u).fault ≡ None →
    tail_of d ≡ (port_stream (is_hunter d) (u ++ x ∷ [])).tail - again (is_hunter d)
    (u ++ x ∷ []) + part_size (state_of d).part
left_is d u x s l f =
    let h = is_hunter d in
    let t = tail_after h u x f (fault_is d (u ++ x ∷ []) s l) in
    let e = dead_state (mode_of d) (is_live d) (state_of d) (u ++ x ∷ []) s.reads l in
    let c : count_of (state_by h (u ++ x ∷ [])) ≡ tail_of d = ap count_of e in
    let p : part_size (state_by h (u ++ x ∷ [])).part ≡ part_size (state_of d).part =
    ap (λ (z : State). part_size z.part) e in
    omega (arith, t, c, p)

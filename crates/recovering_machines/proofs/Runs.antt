-- A run, cell by cell.
use Rattle.std.proofs.Common.{◌≡◌, ℕ, ◌+◌, ◌≤◌, List, [], ◌∷◌, ◌++◌, refl, sym, ◌∙◌, ap, arith, subst, append_assoc}
use Rattle.std.proofs.Common.{append-nil, drop, length, length-append, ◌-◌}
use Rattle.std.proofs.Common.{take, ◌*◌, Option, Some, Bool}
use Rattle.std.specs.Prelude.{map}
use Rattle.std.proofs.lemmas.Grind.{flat_map-append}
use Rattle.std.proofs.lemmas.List.{drop-append-le, drop-take, length-drop, length-take-le}
use Rattle.std.proofs.lemmas.List.{length_push, map-append, take-append-drop, take-take}
use Rattle.trace_values.specs.declared.cell.Cell.{Cell}
use Rattle.trace_values.specs.declared.step.Step.{Step}
use Rattle.trace_values.specs.Placed.{Place, Placed}
use Rattle.trace_values.specs.Stream.{Said, Stream}
use Rattle.source_events.specs.declared.event.Event.{Event}
use Rattle.source_events.specs.declared.event.What.{What}
use Rattle.source_events.specs.declared.packet.Packet.{Packet}
use Rattle.source_events.specs.declared.plan.SourceKind.{SourceKind}
use Rattle.source_events.specs.Merge.{told}
use Rattle.source_events.specs.Report.{lifted, what_of}
use Rattle.source_machine.specs.Units.{units_at}
use Rattle.stretch_readings.specs.declared.heard.Heard.{Heard}
use Rattle.stretch_readings.specs.Stretches.{One, Stretches, fed_from, heard_of, from_fault}
use Rattle.stretch_readings.specs.Steps.{said_by}
use Rattle.stretch_readings.proofs.StretchLaws.{from_append}
use Rattle.source_events.specs.Runs.{bytes_of}
use Rattle.recovering_machines.specs.Found.{TakesCells, ended, heard_in}
use Rattle.recovering_machines.specs.Run.{GoesOn, TakesRun, between, units_in, with_run}
use Rattle.recovering_machines.specs.Source.{Stands, heard_by, kind_of, reads_of, total_of, with_byte}
use Rattle.recovering_machines.specs.declared.source.RecoveringSource.{RecoveringSource}

pub run_more : (s : RecoveringSource) (r : Stretches) (xs ys : List Cell) →
    with_run s r (xs ++ ys) ≡ fed_from (reads_of s) from_fault (with_run s r xs) (map One (units_in (kind_of s) ys))
run_more s r xs ys =
    ap (λ w. fed_from (reads_of s) from_fault r (map One w))
    (flat_map-append (λ (c : Cell). units_at (kind_of s) c.at c.byte) xs ys)
    ∙ ap (λ l. fed_from (reads_of s) from_fault r l)
    (map-append One (units_in (kind_of s) xs) (units_in (kind_of s) ys))
    ∙ from_append (reads_of s) from_fault (map One (units_in (kind_of s) xs)) (map One (units_in (kind_of s) ys)) r

-- with no cell a stretch goes on
pub goes_none : (s : RecoveringSource) (r : Stretches) → GoesOn s r []
goes_none s r = record {
  list = ap (λ (u : List Placed). record {
    past = r.past;
    now = record { hunts = r.now.hunts; count = r.now.count; units = u };
  }) (sym (append-nil r.now.units));
  more = [];
  given = ap (λ (u : List Placed). (reads_of s r.now.hunts u).given) (append-nil r.now.units)
      ∙ sym (append-nil (reads_of s r.now.hunts r.now.units).given);
}

-- what is said, and then more
pub lifted_append : (a b : List (Said (Heard Packet) × Place)) → lifted (a ++ b) ≡ lifted a ++ lifted b
lifted_append a b = map-append (λ (e : Said (Heard Packet) × Place). (what_of e.0, e.1)) a b

pub told_append : (id : ℕ) (a b : List (Said (Heard Packet) × Place)) →
    told (Some id) (lifted (a ++ b)) ≡ told (Some id) (lifted a) ++ told (Some id) (lifted b)
told_append id a b =
    ap (told (Some id)) (lifted_append a b)
    ∙ map-append (λ (e : What (Heard Packet) × Place).
    record { at = e.1.at; half = e.1.half; source = Some id; what = e.0 }) (lifted a) (lifted b)

-- cells from one index up to another
pub between_all : (from to : ℕ) (cells : List Cell) → from ≤ to → to ≤ length cells →
    length (between from to cells) ≡ to - from
between_all from to cells o l =
    let a = length-drop from (take to cells) in let b = length-take-le to cells l in omega (arith, a, b)

pub between_as : (from count : ℕ) (cells : List Cell) → between from (from + count) cells ≡ take count (drop from cells)
between_as from count cells = drop-take from count cells

pub between_none : (from : ℕ) (cells : List Cell) → between from from cells ≡ []
between_none from cells =
    ap (λ (n : ℕ). between from n cells) (let e : from ≡ from + 0 = omega arith in e) ∙ between_as from 0 cells

pub between_more : (from mid end : ℕ) (cells : List Cell) → from ≤ mid → mid ≤ end → end ≤ length cells →
    between from end cells ≡ between from mid cells ++ between mid end cells
between_more from mid end cells a b l =
    ap (drop from) (sym (take-append-drop mid (take end cells)))
    ∙ ap (λ (x : List Cell). drop from (x ++ drop mid (take end cells))) (take-take mid end cells b)
    ∙ drop-append-le from (take mid cells) (drop mid (take end cells))
    (let t = length-take-le mid cells (omega (arith, b, l)) in omega (arith, a, t))

module _ {S : Type 0} (gets : S → List (Event (Heard Packet)) → S → Type 0) (room : S →
    ℕ) (gets_none : (s : S) → gets s [] s)
    (gets_more : (a b c : S) (es fs : List (Event (Heard Packet))) → gets a es b → gets b fs c →
    gets a (es ++ fs) c) (id : ℕ) where
  pub takes_none : (s : RecoveringSource) (out : S) → TakesRun gets room id [] s s out out
  takes_none s out = record {
    kind = refl;
    reads = refl;
    list = λ r k. k;
    said = [];
    received = gets_none out;
    given = λ r k. sym (append-nil (heard_by s r).given);
    space = omega arith;
    few = omega arith;
  }

  -- cells, and then more
  pub takes_then : (old mid new : RecoveringSource) (a b c : S) (xs ys : List Cell) →
      TakesRun gets room id xs old mid a b → TakesRun gets room id ys mid new b c →
      TakesRun gets room id (xs ++ ys) old new a c
  takes_then old mid new a b c xs ys t v =
      let same : (r : Stretches) → with_run mid (with_run old r xs) ys ≡ with_run old r (xs ++ ys) =
      λ r. ap (λ (f : Bool → List Placed → Stream Packet). fed_from f from_fault (with_run old r xs)
      (map One (units_in (kind_of mid) ys))) t.reads
      ∙ ap (λ (k : SourceKind). fed_from (reads_of old) from_fault (with_run old r xs) (map One (units_in k ys))) t.kind
      ∙ sym (run_more old r xs ys) in
      record {
        kind = v.kind ∙ t.kind;
        reads = v.reads ∙ t.reads;
        list = λ r k. subst (Stands new) (same r) (v.list (with_run old r xs) (t.list r k));
        said = t.said ++ v.said;
        received = subst (λ es. gets a es c) (sym (told_append id t.said v.said))
            (gets_more a b c (told (Some id) (lifted t.said)) (told (Some id) (lifted v.said)) t.received v.received);
        given = λ r k.
            ap (λ x. (heard_by old x).given) (sym (same r))
            ∙ ap (λ (f : Bool → List Placed → Stream Packet).
            (heard_of f from_fault (with_run mid (with_run old r xs) ys)).given) (sym t.reads)
            ∙ v.given (with_run old r xs) (t.list r k)
            ∙ ap (λ (f : Bool → List Placed → Stream Packet). (heard_of f from_fault (with_run old r xs)).given
            ++ v.said) t.reads
            ∙ ap (λ l. l ++ v.said) (t.given r k)
            ∙ append_assoc (heard_by old r).given t.said v.said;
        space = (let l = length-append xs ys in let s = t.space in let z = v.space in omega (arith, l, s, z));
        few = (let l = length-append xs ys in let f = t.few in let z = v.few in omega (arith, l, f, z));
      }

  -- one cell
  pub takes_one : (old new : RecoveringSource) (a b : S) (cell : Cell) (step : Step Packet) →
      kind_of new ≡ kind_of old → reads_of new ≡ reads_of old →
      ((r : Stretches) → Stands old r → Stands new (with_byte old r cell.at cell.byte)) →
      ((r : Stretches) → Stands old r → (heard_by old (with_byte old r cell.at cell.byte)).given
      ≡ (heard_by old r).given ++ said_by cell.at step) →
      total_of new ≤ total_of old + 4 → gets a (told (Some id) (lifted (said_by cell.at step))) b →
      room a ≤ room b + 2 → TakesRun gets room id (cell ∷ []) old new a b
  takes_one old new a b cell step kind reads list given few received space =
      let same : (r : Stretches) → with_byte old r cell.at cell.byte ≡ with_run old r (cell ∷ []) =
      λ r. ap (λ w. fed_from (reads_of old) from_fault r (map One w))
      (sym (append-nil (units_at (kind_of old) cell.at cell.byte))) in
      record {
        kind = kind;
        reads = reads;
        list = λ r k. subst (Stands new) (same r) (list r k);
        said = said_by cell.at step;
        received = received;
        given = λ r k. ap (λ x. (heard_by old x).given) (sym (same r)) ∙ given r k;
        space = space;
        few = few;
      }

  -- cells whose bytes were taken at once
  pub takes_cells : (old new : RecoveringSource) (a b : S) (front : List Cell) (last : Cell) (bytes : List ℕ)
      (half : ℕ) (item : Option Packet) → kind_of new ≡ kind_of old → reads_of new ≡ reads_of old →
      TakesCells old new bytes (λ at. heard_in (ended half at item)) → bytes_of (front ++ last ∷ []) ≡ bytes →
      total_of new ≤ total_of old + 4 * length (front ++ last ∷ []) →
      gets a (told (Some id) (lifted (heard_in (ended half last.at item)))) b → room a ≤ room b + 1 →
      TakesRun gets room id (front ++ last ∷ []) old new a b
  takes_cells old new a b front last bytes half item kind reads t e few received space = record {
    kind = kind;
    reads = reads;
    list = λ r k. t.list r front last k e;
    said = heard_in (ended half last.at item);
    received = received;
    given = λ r k. t.given r front last k e;
    space = (let l = length_push front last in omega (arith, l, space));
    few = few;
  }

  -- nothing was taken
  pub takes_idle : (old new : RecoveringSource) (a : S) → kind_of new ≡ kind_of old → reads_of new ≡ reads_of old →
      ((r : Stretches) → Stands old r → Stands new r) → total_of new ≤ total_of old →
      TakesRun gets room id [] old new a a
  takes_idle old new a kind reads list few = record {
    kind = kind;
    reads = reads;
    list = list;
    said = [];
    received = gets_none a;
    given = λ r k. sym (append-nil (heard_by old r).given);
    space = omega arith;
    few = omega (arith, few);
  }

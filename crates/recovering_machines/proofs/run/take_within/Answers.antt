use Rattle.std.proofs.Common.{◌≡◌, ℕ, ◌+◌, ◌-◌, ◌<◌, ◌≤◌, [], ◌∷◌, ◌++◌, List, length, take, drop, get_or}
use Rattle.std.proofs.Common.{subst, sym, ◌∙◌, ap, arith}
use Rattle.std.proofs.lemmas.List.{length-drop, length-take-le}
use Rattle.trace_values.specs.declared.cell.Cell.{Cell}
use Rattle.trace_values.specs.Placed.{units_of}
use Rattle.source_events.specs.Runs.{bytes_of}
use Rattle.recovering_machines.proofs.RunParts.{front, last_parts, packet_bytes}
use Rattle.recovering_machines.proofs.RunParts.{placed_more}
use Rattle.recovering_machines.specs.Run.{GoesOn, TakesRun, between}
use Rattle.recovering_machines.proofs.OnceTaken.{goes_none, units_bytes}
use Rattle.recovering_machines.proofs.Runs.{between_as, between_none, takes_cells, takes_idle}
use Rattle.recovering_machines.proofs.run.take_within.Goals as goal

-- bytes from an index on are within the run
rest_length : (cells : List Cell) (from n : ℕ) (ahead : List ℕ) → n ≡ length cells → from < length cells →
    length cells ≤ length ahead → (count : ℕ) → count ≤ length (take (n - from) (drop from ahead)) →
    from + count ≤ length cells
rest_length cells from n ahead e l long count h =
    let d = length-drop from ahead in
    let t = length-take-le (n - from) (drop from ahead) (omega (arith, d, e, l, long)) in
    omega (arith, h, t, e, l)

-- the cells that were taken, the last of which is known
record PartsAt (cells : List Cell) (from count : ℕ) (last : Cell) (n : ℕ) (ahead : List ℕ) : Type 0 where
  before : List Cell
  within : from + count ≤ length cells
  parts : between from (from + count) cells ≡ before ++ last ∷ []
  there : bytes_of (before ++ last ∷ []) ≡ take count (take (n - from) (drop from ahead))
  size : length (before ++ last ∷ []) ≡ count

parts_at : (cells : List Cell) (from count : ℕ) (last : Cell) (n : ℕ) (ahead : List ℕ) → n ≡ length cells →
    from < length cells → take (length cells) ahead ≡ bytes_of cells → length cells ≤ length ahead → 0 < count →
    count ≤ length (take (n - from) (drop from ahead)) → last ≡ get_or cells (from + count - 1) last →
    PartsAt cells from count last n ahead
parts_at cells from count last n ahead bound inside bytes long some few is =
    let within : from + count ≤ length cells = rest_length cells from n ahead bound inside long count few in
    let before = front cells from count last some within is in
    let parts : between from (from + count) cells ≡ before ++ last ∷ [] =
    between_as from count cells ∙ last_parts cells from count last some within is in
    record {
      before = before;
      within = within;
      parts = parts;
      there =
          sym (units_bytes (before ++ last ∷ [])) ∙ ap units_of (placed_more before (last ∷ []))
          ∙ packet_bytes cells from count last some within is ahead bytes long
          ∙ ap (λ (m : ℕ). take count (take (m - from) (drop from ahead))) (sym bound);
      size = ap length (sym parts) ∙ ap length (between_as from count cells)
          ∙ length-take-le count (drop from cells) (let d = length-drop from cells in omega (arith, d, within));
    }

pub returns-in-Some-clause-takes : goal.returns-in-Some-clause-takes
returns-in-Some-clause-takes g c =
    let cells = g.R.Run.cells c.args.run.now in
    let from = c.args.from in
    let taken = c.in-Some.taken in
    let count = taken.bytes in
    let last = c.cell.result in
    let p = parts_at cells from count last c.len.result c.ahead.result.now c.len.ensures c.requires.from
    c.ahead.ensures.bytes (let k = c.ahead.ensures.room in omega (arith, k)) c.in-Some.ensures.bytes.0
    c.in-Some.ensures.bytes.1 c.cell.ensures in
    let size = p.size in
    subst (λ (l : List Cell). TakesRun g.V.Receiver.gets g.V.Receiver.room c.args.id l c.args.source.now c.take.new.self
    (c.args.out.now, c.args.to.now) (c.give_packet.new.out, c.give_packet.new.to)) (sym p.parts)
    (takes_cells g.V.Receiver.gets g.V.Receiver.room g.met.V.Receiver.adds_up.none g.met.V.Receiver.adds_up.more c.args.id
    c.args.source.now c.take.new.self (c.args.out.now, c.args.to.now) (c.give_packet.new.out, c.give_packet.new.to)
    p.before last (take count (take (c.len.result - from) (drop from c.ahead.result.now))) taken.half taken.item
    c.take.ensures.kind c.take.ensures.reads c.in-Some.ensures.takes p.there
    (let f = c.in-Some.ensures.few in omega (arith, f, size)) c.give_packet.ensures.received c.give_packet.ensures.room)

pub returns-in-Some-clause-goes : goal.returns-in-Some-clause-goes
returns-in-Some-clause-goes g c = λ r k.
    let cells = g.R.Run.cells c.args.run.now in
    let from = c.args.from in
    let count = c.in-Some.taken.bytes in
    let last = c.cell.result in
    let p = parts_at cells from count last c.len.result c.ahead.result.now c.len.ensures c.requires.from
    c.ahead.ensures.bytes (let k = c.ahead.ensures.room in omega (arith, k)) c.in-Some.ensures.bytes.0
    c.in-Some.ensures.bytes.1 c.cell.ensures in
    subst (λ (l : List Cell). GoesOn c.args.source.now r l) (sym p.parts)
    (c.in-Some.ensures.takes.goes r p.before last k p.there)

pub returns-clause-takes : goal.returns-clause-takes
returns-clause-takes g c =
    let idle = c.take.ensures.none c.in_default.is in
    subst (λ (l : List Cell). TakesRun g.V.Receiver.gets g.V.Receiver.room c.args.id l c.args.source.now c.take.new.self
    (c.args.out.now, c.args.to.now) (c.args.out.now, c.args.to.now))
    (sym (between_none c.args.from (g.R.Run.cells c.args.run.now)))
    (takes_idle g.V.Receiver.gets g.V.Receiver.room g.met.V.Receiver.adds_up.none g.met.V.Receiver.adds_up.more c.args.id
    c.args.source.now c.take.new.self (c.args.out.now, c.args.to.now) c.take.ensures.kind c.take.ensures.reads idle.0
    idle.1)

pub returns-clause-goes : goal.returns-clause-goes
returns-clause-goes g c = λ r k.
    subst (λ (l : List Cell). GoesOn c.args.source.now r l)
    (sym (between_none c.args.from (g.R.Run.cells c.args.run.now))) (goes_none c.args.source.now r)

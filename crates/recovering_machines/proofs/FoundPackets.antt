-- A run whose packets are found: what stands after each of them, whatever reads them.
use Rattle.std.proofs.Common.{◌≡◌, ℕ, ◌+◌, ◌-◌, ◌*◌, ◌<◌, ◌≤◌, List, [], ◌∷◌, ◌++◌, length, take, drop, get_or, refl}
use Rattle.std.proofs.Common.{sym, ◌∙◌, ap, subst, append_assoc, append-nil, arith, true, Option, None, Some}
use Rattle.std.specs.Prelude.{is_none}
use Rattle.std.specs.Option.{is_some, option_map}
use Rattle.std.proofs.lemmas.List.{map-append}
use Rattle.trace_values.specs.declared.cell.Cell.{Cell}
use Rattle.trace_values.specs.declared.step.Step.{Step}
use Rattle.trace_values.specs.Placed.{Place, Placed}
use Rattle.trace_values.specs.Placed as placed
use Rattle.trace_values.specs.Stream.{Kept, Stream}
use Rattle.trace_values.specs.Taking.{given_after}
use Rattle.source_events.specs.declared.event.Event.{Event}
use Rattle.source_events.specs.declared.packet.Packet.{Packet}
use Rattle.source_events.specs.declared.packet.Packet.TheVariants.{Itm as ItmPacket, Stp as StpPacket}
use Rattle.source_events.specs.Merge.{told}
use Rattle.source_events.specs.Report.{lifted}
use Rattle.source_events.specs.Runs.{bytes_of, placed_run}
use Rattle.itm_grammar.specs.declared.packet.ItmPacket.{ItmPacket as ItmOwn}
use Rattle.stp_grammar.specs.Said.{said_item}
use Rattle.stp_grammar.specs.declared.said.Said.{Said}
use Rattle.stp_grammar.specs.declared.item.StpItem.{StpItem}
use Rattle.source_machine.specs.Finding.{PassesOver, ToldFits, told_in}
use Rattle.source_machine.specs.Seen.{packet_in}
use Rattle.source_machine.specs.Units.{ReadsAlike}
use Rattle.source_machine.specs.declared.machine.SourceMachine.{SourceMachine}
use Rattle.source_machine.specs.declared.packets.Told.{Told}
use Rattle.source_machine.specs.declared.packets.Told.TheVariants.{Itm, Stp}
use Rattle.recovering_machines.specs.Found.{MachineKind}
use Rattle.recovering_machines.proofs.RunParts.{front, last_parts, packet_units}
use Rattle.recovering_machines.proofs.RunParts.{none_of, placed_more}
use Rattle.stretch_readings.specs.declared.heard.Heard.{Heard}
use Rattle.stretch_readings.specs.declared.heard.Heard.TheVariants.{Read}
use Rattle.recovering_machines.specs.Found.{PassesCells, TookPackets, ended, heard_in, kept, packet_of}
use Rattle.recovering_machines.specs.Hearing.{read_event}
use Rattle.recovering_machines.specs.Run.{between}
use Rattle.recovering_machines.proofs.OnceTaken.{passes_cells, units_bytes}
use Rattle.recovering_machines.proofs.Runs.{between_as, between_more, between_none, told_append}

-- what is told is the packet that is kept
pub told_kept : (half at : ℕ) (item : Option Told) →
    given_after at (told_in half item) ≡ kept (ended half at (packet_of item))
told_kept half at None = refl
told_kept half at (Some (Itm packet)) = refl
told_kept half at (Some (Stp said)) = by (said_item said) where
  by : (o : Option StpItem) → given_after at (packet_in half o) ≡ kept (ended half at (option_map StpPacket o))
  by None = refl
  by (Some item) = refl

-- and it is heard
pub told_heard : {S : Type 0} → (gets : S → List (Event (Heard Packet)) → S → Type 0) (id half at : ℕ) (a b : S)
    (t : Told) → ToldFits t →
    ((packet : ItmOwn) → t ≡ Itm packet → gets a (read_event id at half (ItmPacket packet) ∷ []) b) →
    ((said : Said) (item : StpItem) → t ≡ Stp said → said_item said ≡ Some item →
    gets a (read_event id at half (StpPacket item) ∷ []) b) →
    gets a (told (Some id) (lifted (heard_in (ended half at (packet_of (Some t)))))) b
told_heard gets id half at a b (Itm packet) fits itm stp = itm packet refl
told_heard gets id half at a b (Stp said) fits itm stp = by (said_item said) refl fits.1 where
  by : (o : Option StpItem) → said_item said ≡ o → is_some o ≡ true →
      gets a (told (Some id) (lifted (heard_in (ended half at (option_map StpPacket o))))) b
  by None e k = cc
  by (Some item) e k = stp said item refl e

-- cells that are passed, and then more
cells_then : (reading : List Placed → Stream Packet) (was mid now : List Placed → Type 0) (xs ys : List Cell)
    (ps qs : List (Packet × Place)) → PassesCells reading was mid xs ps → PassesCells reading mid now ys qs →
    PassesCells reading was now (xs ++ ys) (ps ++ qs)
cells_then reading was mid now xs ys ps qs p q =
    let all : (u : List Placed) → (u ++ placed_run xs) ++ placed_run ys ≡ u ++ placed_run (xs ++ ys) =
    λ u. append_assoc u (placed_run xs) (placed_run ys) ∙ ap (λ (l : List Placed). u ++ l) (sym (placed_more xs ys)) in
    record {
      list = λ u s. subst now (all u) (q.list (u ++ placed_run xs) (p.list u s));
      given = λ u s.
          ap (λ (l : List Placed). (reading l).given) (sym (all u))
          ∙ q.given (u ++ placed_run xs) (p.list u s)
          ∙ ap (λ l. l ++ kept qs) (p.given u s)
          ∙ append_assoc (reading u).given (kept ps) (kept qs)
          ∙ ap (λ l. (reading u).given ++ l) (sym (map-append (λ (x : Packet × Place). (Kept x.0, x.1)) ps qs));
      sound = λ u s.
          ap (λ (l : List Placed). (reading l).fault) (sym (all u)) ∙ q.sound (u ++ placed_run xs) (p.list u s);
    }

told_heard_append : (id : ℕ) (ps qs : List (Packet × Place)) →
    told (Some id) (lifted (heard_in ps)) ++ told (Some id) (lifted (heard_in qs))
    ≡ told (Some id) (lifted (heard_in (ps ++ qs)))
told_heard_append id ps qs =
    sym (told_append id (heard_in ps) (heard_in qs))
    ∙ ap (λ l. told (Some id) (lifted l)) (sym (map-append (λ (x : Packet × Place). (Kept (Read x.0), x.1)) ps qs))

-- a run of a source that is read by this machine, from this index on
module _ {M S : Type 0} (kind : MachineKind M Packet) (source : M → SourceMachine)
    (gets : S → List (Event (Heard Packet)) → S → Type 0) (room : S → ℕ) (gets_none : (s : S) → gets s [] s)
    (gets_more : (a b c : S) (es fs : List (Event (Heard Packet))) → gets a es b → gets b fs c → gets a (es ++ fs) c)
    (id : ℕ) (cells : List Cell) (from : ℕ) (machine : M) (first : S) where
  abbrev Took : ℕ → M → S → Type 0
  Took to new now = TookPackets kind source gets room id cells from to machine new first now

  pub begun : ((m : M) (u : List Placed) → kind.stands m u → kind.live m ≡ is_none (kind.reading m u).fault) →
      kind.live machine ≡ true → from ≤ length cells → Took from machine first
  begun shows live l = record {
    order = omega arith;
    within = l;
    same = refl;
    alike = record { kind = refl; any = refl; own = refl };
    live = live;
    few = omega arith;
    space = omega arith;
    packets = [];
    received = gets_none first;
    passes =
        subst (λ (c : List Cell). PassesCells (kind.reading machine) (kind.stands machine) (kind.stands machine) c [])
        (sym (between_none from cells)) (record {
          list = λ u s. subst (kind.stands machine) (sym (append-nil u)) s;
          given = λ u s.
              ap (λ (l : List Placed). (kind.reading machine l).given) (append-nil u)
              ∙ sym (append-nil (kind.reading machine u).given);
          sound = λ u s.
              ap (λ (l : List Placed). (kind.reading machine l).fault) (append-nil u)
              ∙ none_of _ (sym live ∙ shows machine u s);
        });
  }

  -- a look that took nothing
  pub stayed : (done : ℕ) (old new : M) (now : S) → kind.reading new ≡ kind.reading old →
      ReadsAlike (source old) (source new) → kind.live new ≡ true →
      ((u : List Placed) → kind.stands old u → kind.stands new u) × (kind.held new ≡ kind.held old)
      × (kind.skipped new ≡ kind.skipped old) → Took done old now → Took done new now
  stayed done old new now same alike live idle i = record {
    order = i.order;
    within = i.within;
    same = same ∙ i.same;
    alike = record { kind = alike.kind ∙ i.alike.kind; any = alike.any ∙ i.alike.any; own = alike.own ∙ i.alike.own };
    live = live;
    few = (let a = i.few in let b = idle.1 in let d = idle.2 in omega (arith, a, b, d));
    space = i.space;
    packets = i.packets;
    received = i.received;
    passes =
        record {
          list = λ u s. idle.0 (u ++ placed_run (between from done cells)) (i.passes.list u s);
          given = i.passes.given;
          sound = i.passes.sound;
        };
  }

  -- so many bytes more, which are passed over
  pub more : (done count : ℕ) (old new : M) (was now : S) (last : Cell) (step : Option (Step Packet))
      (packets : List (Packet × Place)) (ahead : List ℕ) → Took done old was → 0 < count → done + count ≤ length cells →
      last ≡ get_or cells (done + count - 1) last → take (length cells) ahead ≡ bytes_of cells →
      length cells ≤ length ahead → kind.reading new ≡ kind.reading old → ReadsAlike (source old) (source new) →
      kind.live new ≡ true → kind.held new + kind.skipped new ≤ kind.held old + kind.skipped old + 2 * count →
      PassesOver (kind.reading old) (kind.stands old) (kind.stands new)
      (take count (take (length ahead - done) (drop done ahead))) step →
      given_after last.at step ≡ kept packets → gets was (told (Some id) (lifted (heard_in packets))) now →
      room was ≤ room now + 2 * count → Took (done + count) new now
  more done count old new was now last step packets ahead i some within is bytes long same alike live few passes gives
      got space =
      let cells_front = front cells done count last some within is in
      let parts : between done (done + count) cells ≡ cells_front ++ last ∷ [] =
      between_as done count cells ∙ last_parts cells done count last some within is in
      let there : bytes_of (cells_front ++ last ∷ []) ≡ take count (take (length ahead - done) (drop done ahead)) =
      sym (units_bytes (cells_front ++ last ∷ [])) ∙ ap placed.units_of (placed_more cells_front (last ∷ []))
      ∙ packet_units cells done count last some within is ahead bytes long in
      let one : PassesCells (kind.reading old) (kind.stands old) (kind.stands new) (between done (done + count) cells)
      packets =
      subst (λ (c : List Cell). PassesCells (kind.reading old) (kind.stands old) (kind.stands new) c packets)
      (sym parts)
      (passes_cells (kind.reading old) (kind.stands old) (kind.stands new) _ step packets cells_front last passes
      there gives) in
      record {
        order = (let a = i.order in omega (arith, a));
        within = within;
        same = same ∙ i.same;
        alike =
            record { kind = alike.kind ∙ i.alike.kind; any = alike.any ∙ i.alike.any; own = alike.own ∙ i.alike.own };
        live = live;
        few = (let a = i.few in let b = few in omega (arith, a, b));
        space = (let a = i.space in let b = space in omega (arith, a, b));
        packets = i.packets ++ packets;
        received =
            subst (λ (es : List (Event (Heard Packet))). gets first es now) (told_heard_append id i.packets packets)
            (gets_more first was now (told (Some id) (lifted (heard_in i.packets)))
            (told (Some id) (lifted (heard_in packets))) i.received got);
        passes =
            subst (λ (c : List Cell). PassesCells (kind.reading machine) (kind.stands machine) (kind.stands new) c
            (i.packets ++ packets))
            (sym (between_more from done (done + count) cells i.order (omega arith) within))
            (cells_then (kind.reading machine) (kind.stands machine) (kind.stands old) (kind.stands new)
            (between from done cells) (between done (done + count) cells) i.packets packets i.passes
            (subst (λ (r : List Placed → Stream Packet). PassesCells r (kind.stands old) (kind.stands new)
            (between done (done + count) cells) packets) i.same one));
      }

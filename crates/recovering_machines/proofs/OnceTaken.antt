-- Bytes of a source that are taken at once.
use Rattle.std.proofs.Common.{◌≡◌, ℕ, ◌+◌, List, [], ◌∷◌, ◌++◌, length, refl, sym, ◌∙◌, ap, subst, append_assoc, append-nil, Option}
use Rattle.std.proofs.Common.{None, Some, Bool}
use Rattle.std.specs.List.{sum_by}
use Rattle.std.specs.Prelude.{IfSome, map}
use Rattle.std.proofs.lemmas.List.{map-append}
use Rattle.trace_values.specs.declared.cell.Cell.{Cell}
use Rattle.trace_values.specs.declared.step.Step.{Step}
use Rattle.trace_values.specs.Placed.{Place, Placed, byte_at}
use Rattle.trace_values.specs.Placed as placed
use Rattle.trace_values.specs.Stream.{Stream}
use Rattle.trace_values.specs.Taking.{given_after, item_at}
use Rattle.source_events.specs.declared.packet.Packet.{Packet}
use Rattle.source_events.specs.declared.plan.SourceKind.{SourceKind}
use Rattle.source_events.specs.declared.plan.SourceKind.TheVariants.{Itm, Stp}
use Rattle.source_events.specs.Runs.{bytes_of, placed_run}
use Rattle.source_machine.specs.Finding.{PassesOver}
use Rattle.source_machine.specs.Machine as machine
use Rattle.source_machine.specs.Units.{ReadsAlike, StandsOn, kind_of as kind_on, reading_on, reads_on}
use Rattle.source_machine.specs.declared.machine.SourceMachine.{SourceMachine}
use Rattle.source_machine.specs.declared.machine.SourceMachine.TheVariants.{Itm as ItmSource, Stp as StpSource}
use Rattle.recovering_machines.proofs.RunParts.{placed_more}
use Rattle.stretch_readings.specs.Stretches.{Stretches, from_fault, lost_in}
use Rattle.stretch_readings.specs.Words.{IsSettling}
use Rattle.stretch_readings.proofs.Feeding.{longer}
use Rattle.stp_grammar.specs.declared.packet.Order.TheVariants.{Msn}
use Rattle.stp_codec.specs.Decoder as stp
use Rattle.recovering_machines.specs.Found.{PassesCells, TakesCells, ended, heard_in, kept}
use Rattle.recovering_machines.specs.Run.{GoesOn, units_in, with_run}
use Rattle.recovering_machines.specs.Source.{Stands, heard_by}
use Rattle.recovering_machines.specs.Units.{ArePassed, AreWhole, after_passed, later, units_of}
use Rattle.recovering_machines.specs.declared.source.RecoveringSource.{RecoveringSource}
use Rattle.recovering_machines.proofs.Bytes.{none_kept}
use Rattle.recovering_machines.proofs.Going.{all_go, given_more, sources_settle}
use Rattle.recovering_machines.proofs.Passed.{kept_later, same_given}
use Rattle.recovering_machines.proofs.Wholes.{reads_bytes, stands_bytes, stands_units, units_more}

settles_on : (m : SourceMachine) → IsSettling (reads_on m)
settles_on (ItmSource decoder) = sources_settle Msn Itm
settles_on (StpSource decoder) = sources_settle (stp.order_of decoder) Stp

-- the bytes of cells
pub units_bytes : (cells : List Cell) → placed.units_of (placed_run cells) ≡ bytes_of cells
units_bytes [] = refl
units_bytes (c ∷ cells) = ap (λ (l : List ℕ). c.byte ∷ l) (units_bytes cells)

kept_item : (half at : ℕ) (item : Option Packet) → given_after at (item_at half item) ≡ kept (ended half at item)
kept_item half at None = refl
kept_item half at (Some packet) = refl

-- bytes that are passed over, in these cells
pub passes_cells : (reading : List Placed → Stream Packet) (was now : List Placed → Type 0) (bytes : List ℕ)
    (step : Option (Step Packet)) (packets : List (Packet × Place)) (front : List Cell) (last : Cell) →
    PassesOver reading was now bytes step → bytes_of (front ++ last ∷ []) ≡ bytes →
    given_after last.at step ≡ kept packets → PassesCells reading was now (front ++ last ∷ []) packets
passes_cells reading was now bytes step packets front last p e gives =
    let more = placed_more front (last ∷ []) in
    let there : placed.units_of (placed_run front ++ byte_at last.at last.byte ∷ []) ≡ bytes =
    ap placed.units_of (sym more) ∙ units_bytes (front ++ last ∷ []) ∙ e in
    record {
      list = λ u s. subst (λ (l : List Placed). now (u ++ l)) (sym more)
          (p u (placed_run front) last.at last.byte s there).list;
      given = λ u s. ap (λ (l : List Placed). (reading (u ++ l)).given) more
          ∙ (p u (placed_run front) last.at last.byte s there).given ∙ ap (λ l. (reading u).given ++ l) gives;
      sound = λ u s. ap (λ (l : List Placed). (reading (u ++ l)).fault) more
          ∙ (p u (placed_run front) last.at last.byte s there).sound;
    }

passes_item : {reading : List Placed → Stream Packet} {was now : List Placed → Type 0} (half : ℕ)
    (item : Option Packet) (bytes : List ℕ) → PassesOver reading was now bytes (item_at half item) →
    (front : List Cell) (last : Cell) → bytes_of (front ++ last ∷ []) ≡ bytes →
    PassesCells reading was now (front ++ last ∷ []) (ended half last.at item)
passes_item {reading} {was} {now} half item bytes p front last e =
    passes_cells reading was now bytes (item_at half item) (ended half last.at item) front last p e
    (kept_item half last.at item)

module _ (old new : RecoveringSource) (same_past : new.past ≡ old.past) (same_count : new.count ≡ old.count)
    (same_hunts : new.hunts ≡ old.hunts) (alike : ReadsAlike old.machine new.machine) where
  module _ (cells : List Cell) (packets : List (Packet × Place))
      (p : PassesCells (machine.reading_of old.machine) (machine.Stands old.machine) (machine.Stands new.machine) cells
      packets) where
    module _ (r : Stretches) (k : Stands old r) where
      abbrev reads : Bool → List Placed → Stream Packet
      reads = reads_on old.machine

      abbrev kind : SourceKind
      kind = kind_on old.machine

      abbrev w : List Placed
      w = units_in kind cells

      abbrev front : List Placed
      front = k.front

      own : AreWhole kind (front ++ r.now.units)
      own = k.whole

      here : front ++ r.now.units ≡ units_of kind own.bytes
      here = own.are

      all : front ++ (r.now.units ++ w) ≡ units_of kind (own.bytes ++ placed_run cells)
      all = sym (append_assoc front r.now.units w) ∙ ap (λ (l : List Placed). l ++ w) here
          ∙ units_more kind own.bytes cells

      stood : machine.Stands old.machine own.bytes
      stood = stands_bytes old.machine own.bytes (subst (StandsOn old.machine) here k.keeps.stands)

      -- bytes whose units are these are read as they are after those that are passed over
      read_of : (u : List Placed) (bytes : List Placed) → front ++ u ≡ units_of kind bytes →
          machine.reading_of old.machine bytes ≡ after_passed (length front) (reads r.now.hunts u)
      read_of u bytes e =
          reads_bytes old.machine bytes ∙ ap (reading_on old.machine) (sym e)
          ∙ ap (λ (f : List Placed → Stream Packet). f (front ++ u)) k.keeps.reading ∙ k.keeps.passed u

      read_here : machine.reading_of old.machine own.bytes
          ≡ after_passed (length front) (reads r.now.hunts r.now.units)
      read_here = read_of r.now.units own.bytes here

      read_all : machine.reading_of old.machine (own.bytes ++ placed_run cells)
          ≡ after_passed (length front) (reads r.now.hunts (r.now.units ++ w))
      read_all = read_of (r.now.units ++ w) (own.bytes ++ placed_run cells) all

      none : (reads r.now.hunts r.now.units).fault ≡ None
      none = none_kept old.machine old.past old.count front r k.keeps old.live

      sound : (reads r.now.hunts (r.now.units ++ w)).fault ≡ None
      sound = sym (ap (λ (s : Stream Packet). s.fault) read_all) ∙ p.sound own.bytes stood

      given : (reads r.now.hunts (r.now.units ++ w)).given ≡ (reads r.now.hunts r.now.units).given ++ kept packets
      given =
          let n = length front in let was = (reads r.now.hunts r.now.units).given in
          same_given n (reads r.now.hunts (r.now.units ++ w)).given (was ++ kept packets)
          (sym (ap (λ (s : Stream Packet). s.given) read_all) ∙ p.given own.bytes stood
          ∙ ap (λ (s : Stream Packet). s.given ++ kept packets) read_here
          ∙ ap (λ l. map (later n) was ++ l) (sym (kept_later n packets))
          ∙ sym (map-append (later n) was (kept packets)))

      goes : with_run old r cells ≡ longer reads r w
      goes = all_go reads (settles_on old.machine) w r sound

      pub goes_on : GoesOn old r cells
      goes_on = record { list = goes; more = kept packets; given = given }

      now_all : front ++ (r.now.units ++ w) ≡ units_of (kind_on new.machine) (own.bytes ++ placed_run cells)
      now_all = all ∙ ap (λ (z : SourceKind). units_of z (own.bytes ++ placed_run cells)) (sym alike.kind)

      stands_after : Stands new (longer reads r w)
      stands_after = record {
        front = front;
        keeps =
            record {
              stands = subst (StandsOn new.machine) (sym now_all)
                  (stands_units new.machine (own.bytes ++ placed_run cells) (p.list own.bytes stood));
              reading = alike.own ∙ k.keeps.reading
                  ∙ ap (λ (f : Bool → List Placed → Stream Packet). f r.now.hunts) (sym alike.any);
              passed = subst (λ (f : Bool → List Placed → Stream Packet). ArePassed (f r.now.hunts) front)
                  (sym alike.any) k.keeps.passed;
              past_is = same_past ∙ k.keeps.past_is
                  ∙ ap (λ (f : Bool → List Placed → Stream Packet). sum_by (lost_in f from_fault) r.past)
                  (sym alike.any);
              count_is = ap (λ n. n + length front) same_count ∙ k.keeps.count_is;
            };
        hunts = same_hunts ∙ k.hunts;
        whole = record { bytes = own.bytes ++ placed_run cells; are = now_all };
      }

      pub list_after : Stands new (with_run old r cells)
      list_after = subst (Stands new) (sym goes) stands_after

      pub given_after_all : (heard_by old (with_run old r cells)).given ≡ (heard_by old r).given ++ heard_in packets
      given_after_all = ap (λ (s : Stretches). (heard_by old s).given) goes ∙ given_more reads r w packets none sound given

  pub takes_cells : (bytes : List ℕ) (half : ℕ) (item : Option Packet) →
      PassesOver (machine.reading_of old.machine) (machine.Stands old.machine) (machine.Stands new.machine) bytes
      (item_at half item) → TakesCells old new bytes (λ at. heard_in (ended half at item))
  takes_cells bytes half item p = record {
    list = λ r front last k e.
        list_after (front ++ last ∷ []) (ended half last.at item) (passes_item half item bytes p front last e) r k;
    given = λ r front last k e.
        given_after_all (front ++ last ∷ []) (ended half last.at item) (passes_item half item bytes p front last e) r k;
    goes = λ r front last k e.
        goes_on (front ++ last ∷ []) (ended half last.at item) (passes_item half item bytes p front last e) r k;
  }

-- what it stood for it stands for, where nothing was taken
pub stays : (old new : RecoveringSource) → new.past ≡ old.past → new.count ≡ old.count → new.hunts ≡ old.hunts →
    ReadsAlike old.machine new.machine →
    ((u : List Placed) → machine.Stands old.machine u → machine.Stands new.machine u) → (r : Stretches) → Stands old r →
    Stands new r
stays old new past count hunts alike list r k =
    let own = k.whole in
    let now : k.front ++ r.now.units ≡ units_of (kind_on new.machine) own.bytes =
    own.are ∙ ap (λ (z : SourceKind). units_of z own.bytes) (sym alike.kind) in
    record {
      front = k.front;
      keeps =
          record {
            stands = subst (StandsOn new.machine) (sym now) (stands_units new.machine own.bytes
                (list own.bytes (stands_bytes old.machine own.bytes
                (subst (StandsOn old.machine) own.are k.keeps.stands))));
            reading = alike.own ∙ k.keeps.reading
                ∙ ap (λ (f : Bool → List Placed → Stream Packet). f r.now.hunts) (sym alike.any);
            passed = subst (λ (f : Bool → List Placed → Stream Packet). ArePassed (f r.now.hunts) k.front)
                (sym alike.any) k.keeps.passed;
            past_is = past ∙ k.keeps.past_is
                ∙ ap (λ (f : Bool → List Placed → Stream Packet). sum_by (lost_in f from_fault) r.past) (sym alike.any);
            count_is = ap (λ n. n + length k.front) count ∙ k.keeps.count_is;
          };
      hunts = hunts ∙ k.hunts;
      whole = record { bytes = own.bytes; are = now };
    }

pub if_some : {A : Type 0} (P Q : A → Type 0) → ((x : A) → P x → Q x) → (o : Option A) → IfSome o P → IfSome o Q
if_some P Q f None h = h
if_some P Q f (Some x) h = f x h

-- with no cells nothing more is said
pub goes_none : (s : RecoveringSource) (r : Stretches) → GoesOn s r []
goes_none s r = record {
  list = ap (λ (u : List Placed). record {
    past = r.past;
    now = record { hunts = r.now.hunts; count = r.now.count; units = u };
  }) (sym (append-nil r.now.units));
  more = [];
  given = ap (λ (u : List Placed). (reads_on s.machine r.now.hunts u).given) (append-nil r.now.units)
      ∙ sym (append-nil (reads_on s.machine r.now.hunts r.now.units).given);
}

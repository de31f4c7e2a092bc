-- A writer of lines, after one more line.
use Rattle.std.proofs.Common.{◌≡◌, ℕ, List, [], ◌∷◌, ◌++◌, refl, sym, ◌∙◌, ap, subst, append-nil, append_assoc, Result}
use Rattle.std.proofs.Common.{Ok, Err, Option, true, slice_index_or}
use Rattle.script_rebuild.specs.Names.{Order, StpItem, Put, Tagged, Port, sure_of, written, Segments, with_bytes}
use Rattle.script_rebuild.specs.Names.{Formatter, Turns, Item, LineFault, Line, Nothing, Of, Line2, One, Flush, Trigger}
use Rattle.script_rebuild.specs.Names.{as_one}
use Rattle.stp_encoder.specs.Encoder as encoders
use Rattle.port_formatter.specs.Formatter as formatters
use Rattle.script_text.specs.Lines.{◌>>=◌}
use Rattle.script_rebuild.specs.declared.encoders.SourceEncoder.{SourceEncoder}
use Rattle.script_rebuild.specs.declared.writer.LineWriter.{LineWriter}
use Rattle.script_rebuild.specs.Script.{given_puts, tagged, ends_with}
use Rattle.script_rebuild.specs.Segments.{with_line, segments_of, segments_with_ends, sure_lines}
use Rattle.script_rebuild.specs.Versions.{fitting_item}
use Rattle.script_rebuild.specs.Routed.{is_placed, are_placed, placed, puttable}
use Rattle.script_rebuild.specs.ScriptLaws.{segments_more}
use Rattle.script_rebuild.specs.Encoding.{ids_in, IsRising, AllStand, IsOfSource, NextItem, AreReady, Answers, flushed}
use Rattle.script_rebuild.specs.Encoding.{line_for}
use Rattle.script_rebuild.specs.PutLine.{PutsAfter, Flushes}
use Rattle.script_rebuild.specs.Writer.{stp_of, turns_of, kept_by, Stands}
use Rattle.script_rebuild.proofs.AllSegments.{given_more, items_put}
use Rattle.script_rebuild.proofs.Placing.{nothing_placed, flush_placed, item_placed, placed_by, places_more}

-- the same for what each source was given, said in another way
all_given : (order : Order) (slots : List SourceEncoder) (given other : ℕ → List Put) →
    ((x : ℕ) → given x ≡ other x) → AllStand order slots given → AllStand order slots other
all_given order slots given other same all k d lt =
    let one = all k d lt in
    (one.0, subst (encoders.Stands (slice_index_or slots k d).encoder) (same (slice_index_or slots k d).id) one.1)

-- an item after lines
abbrev pub next_of : LineWriter → List Line2 → ℕ → Item → NextItem
next_of w lines id item = record { order = w.order; given = λ x. given_puts x lines; id = id; item = item }

pub are_ready : (w : LineWriter) (port : Port) (lines : List Line2) (id : ℕ) (item : Item) →
    IsOfSource (stp_of w) id item → Stands w port lines → AreReady (next_of w lines id item) w.encoders.items
are_ready w port lines id item h s = record { stand = s.items; rising = s.rising; source = h }

-- the segments so far, and with a line
abbrev pub so_far : LineWriter → List Line2 → Segments
so_far w lines = segments_of w.order (stp_of w) lines

abbrev pub now_with : LineWriter → List Line2 → Line2 → Segments
now_with w lines line = with_line w.order (stp_of w) lines (so_far w lines) line

-- what the answer for an item says of its line
pub item_told : (w : LineWriter) (lines : List Line2) (id : ℕ) (item : Item) (answer : Result Line2 LineFault) →
    line_for (turns_of w) (next_of w lines id item) ≡ answer → puttable (turns_of w) lines (One (Of id item)) ≡ answer
item_told w lines id item answer e =
    subst (λ (l : List StpItem). as_one (fitting_item (Of id item) l item) >>= placed (turns_of w) ≡ answer)
    (items_put id lines) e

module _ (w : LineWriter) (port : Port) (lines : List Line2) (s : Stands w port lines) where
  -- it stands for one more line where its encoders and its formatter do
  stands_line : (new : LineWriter) (line : Line2) → new.order ≡ w.order →
      ids_in new.encoders.items ≡ ids_in w.encoders.items → turns_of new ≡ turns_of w →
      is_placed (turns_of w) line ≡ true →
      AllStand w.order new.encoders.items (λ x. given_puts x (lines ++ line ∷ [])) →
      formatters.Stands new.formatter port (now_with w lines line) → Stands new port (lines ++ line ∷ [])
  stands_line new line order ids turns place items formatter =
      let segments : segments_of new.order (ids_in new.encoders.items) (lines ++ line ∷ []) ≡ now_with w lines line =
      ap (λ (o : Order). segments_of o (ids_in new.encoders.items) (lines ++ line ∷ [])) order
      ∙ ap (λ (l : List ℕ). segments_of w.order l (lines ++ line ∷ [])) ids
      ∙ segments_more w.order (stp_of w) lines line in
      record {
        items = subst (λ (o : Order). AllStand o new.encoders.items (λ x. given_puts x (lines ++ line ∷ []))) (sym order) items;
        rising = subst IsRising (sym ids) s.rising;
        places = subst (λ (f : Option Turns). are_placed f (lines ++ line ∷ []) ≡ true) (sym turns)
            (places_more (turns_of w) lines line s.places place);
        formatter = subst (λ (t : Segments). formatters.Stands new.formatter port t) (sym segments) formatter;
      }

  grown_line : (line : Line2) (more : List ℕ) →
      sure_of port (now_with w lines line) ≡ sure_of port (so_far w lines) ++ more →
      sure_lines port w.order (stp_of w) (lines ++ line ∷ []) ≡ sure_lines port w.order (stp_of w) lines ++ more
  grown_line line more h = ap (sure_of port) (segments_more w.order (stp_of w) lines line) ∙ h

  -- a line that says nothing
  pub nothing_told : puttable (turns_of w) lines (One Nothing) ≡ Ok (One Nothing)
  nothing_told = placed_by (turns_of w) (One Nothing) true (nothing_placed (turns_of w))

  nothing_put : PutsAfter w w port lines (One Nothing) (Ok tt)
  nothing_put =
      let t = so_far w lines in
      let same : t.begun ≡ t.begun ++ [] = sym (append-nil t.begun) in
      record {
        told = nothing_told;
        adds = record {
          stands = stands_line w (One Nothing) refl refl refl (nothing_placed (turns_of w))
              (all_given w.order w.encoders.items (λ x. given_puts x lines) (λ x. given_puts x (lines ++ One Nothing ∷ []))
              (λ x. sym (given_more x lines (One Nothing) ∙ append-nil (given_puts x lines))) s.items)
              (subst (λ (l : List Tagged). formatters.Stands w.formatter port (record { ended = t.ended; begun = l })) same s.formatter);
          more = [];
          kept = sym (append-nil (kept_by w));
          grown = grown_line (One Nothing) []
              (ap (λ (l : List Tagged). sure_of port (record { ended = t.ended; begun = l })) (append-nil t.begun)
              ∙ sym (append-nil (sure_of port t)));
        };
      }

  -- an item, whose bytes were put where it fits and has a place
  item_put : (new : LineWriter) (id : ℕ) (item : Item) (r : Result (Unit {0}) LineFault) → new.order ≡ w.order →
      ids_in new.encoders.items ≡ ids_in w.encoders.items → turns_of new ≡ turns_of w →
      Answers (turns_of w) (next_of w lines id item) r
      (record { encoders = new.encoders.items; old = w.formatter; new = new.formatter }) →
      PutsAfter w new port lines (One (Of id item)) r
  item_put new id item (Ok done) order ids turns answers =
      let t = so_far w lines in
      let put = answers.put.put in
      record {
        told = item_told w lines id item (Ok (One (Of id item))) answers.told;
        adds = record {
          stands = stands_line new (One (Of id item)) order ids turns (item_placed (turns_of w) id item ∙ answers.put.place)
              (all_given w.order new.encoders.items _ (λ x. given_puts x (lines ++ One (Of id item) ∷ []))
              (λ x. sym (given_more x lines (One (Of id item)))) answers.put.stand)
              (put.list port t s.formatter);
          more = put.more;
          kept = put.kept;
          grown = grown_line (One (Of id item)) put.more (put.grown port t s.formatter);
        };
      }
  item_put new id item (Err fault) order ids turns answers = record {
    told = item_told w lines id item (Err fault) answers.told;
    adds = tt;
  }

  -- the same of a line that says either
  pub nothing_line : (line : Line) → line ≡ Nothing → PutsAfter w w port lines (One line) (Ok tt)
  nothing_line line e = subst (λ (l : Line). PutsAfter w w port lines (One l) (Ok tt)) (sym e) nothing_put

  pub item_line : (new : LineWriter) (line : Line) (id : ℕ) (item : Item) (r : Result (Unit {0}) LineFault) →
      line ≡ Of id item → new.order ≡ w.order → ids_in new.encoders.items ≡ ids_in w.encoders.items →
      turns_of new ≡ turns_of w →
      Answers (turns_of w) (next_of w lines id item) r
      (record { encoders = new.encoders.items; old = w.formatter; new = new.formatter }) →
      PutsAfter w new port lines (One line) r
  item_line new line id item r e order ids turns answers =
      subst (λ (l : Line). PutsAfter w new port lines (One l) r) (sym e) (item_put new id item r order ids turns answers)

  -- a byte of the trigger source
  pub trigger_put : (new : LineWriter) (line : Line2) (byte : ℕ) → line ≡ Trigger byte → new.order ≡ w.order →
      new.encoders ≡ w.encoders →
      turns_of new ≡ turns_of w → is_placed (turns_of w) (Trigger byte) ≡ true →
      formatters.Puts w.formatter new.formatter (tagged 125 (byte ∷ [])) →
      PutsAfter w new port lines line (Ok tt)
  trigger_put new line byte e order same turns place put =
      let t = so_far w lines in
      subst (λ (l : Line2). PutsAfter w new port lines l (Ok tt)) (sym e) (record {
        told = placed_by (turns_of w) (Trigger byte) true place;
        adds = record {
          stands = stands_line new (Trigger byte) order (ap (λ e. ids_in e.items) same) turns place
              (subst (λ e. AllStand w.order e.items (λ x. given_puts x (lines ++ Trigger byte ∷ []))) (sym same)
              (all_given w.order w.encoders.items (λ x. given_puts x lines) (λ x. given_puts x (lines ++ Trigger byte ∷ []))
              (λ x. sym (given_more x lines (Trigger byte) ∙ append-nil (given_puts x lines))) s.items))
              (put.list port t s.formatter);
          more = put.more;
          kept = put.kept;
          grown = grown_line (Trigger byte) put.more (put.grown port t s.formatter);
        };
      })

  -- a flush: the kept nibbles are put, and then the segment is ended
  module _ (mid after : Formatter)
      (put : formatters.Puts w.formatter mid (ends_with w.order (λ x. given_puts x lines) (stp_of w)))
      (ends : formatters.Ends mid after) where
    abbrev t : Segments
    t = so_far w lines

    abbrev full : Segments
    full = with_bytes t (ends_with w.order (λ x. given_puts x lines) (stp_of w))

    both : (end : List ℕ) → end ≡ sure_of port full ++ ends.more → end ≡ sure_of port t ++ (put.more ++ ends.more)
    both end h =
        h ∙ ap (λ (l : List ℕ). l ++ ends.more) (put.grown port t s.formatter)
        ∙ append_assoc (sure_of port t) put.more ends.more

    pub flush_put : (new : LineWriter) → new.formatter ≡ after → new.order ≡ w.order →
        ids_in new.encoders.items ≡ ids_in w.encoders.items → turns_of new ≡ turns_of w →
        AllStand w.order new.encoders.items (flushed (λ x. given_puts x lines)) → Flushes w new port lines
    flush_put new same order ids turns stand = record {
      adds = record {
        stands = stands_line new Flush order ids turns (flush_placed (turns_of w))
            (all_given w.order new.encoders.items (flushed (λ x. given_puts x lines)) (λ x. given_puts x (lines ++ Flush ∷ []))
            (λ x. sym (given_more x lines Flush)) stand)
            (subst (λ (f : Formatter). formatters.Stands f port (now_with w lines Flush)) (sym same)
            (ends.list port full (put.list port t s.formatter)));
        more = put.more ++ ends.more;
        kept = ap formatters.kept_by same ∙ ends.kept ∙ ap (λ (l : List ℕ). l ++ ends.more) put.kept
            ∙ append_assoc (kept_by w) put.more ends.more;
        grown = grown_line Flush (put.more ++ ends.more)
            (both (sure_of port (now_with w lines Flush)) (ends.grown port full (put.list port t s.formatter)));
      };
      all = both (written port (segments_with_ends w.order (stp_of w) lines)) (ends.all port full (put.list port t s.formatter));
    }

-- the answer of a flush, which can always be put
pub flush_after : (old new : LineWriter) (port : Port) (lines : List Line2) → Flushes old new port lines →
    PutsAfter old new port lines Flush (Ok tt)
flush_after old new port lines f = record { told = placed_by (turns_of old) Flush true (flush_placed (turns_of old)); adds = f.adds }

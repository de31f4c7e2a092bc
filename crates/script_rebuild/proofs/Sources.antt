-- What a text says in each version, and the sources of a plan.
use Rattle.std.proofs.Common.{Option, Some, ◌≡◌, ℕ, List, [], ◌∷◌, ◌++◌, refl, sym, ◌∙◌, ap, subst, Bool, true}
use Rattle.std.proofs.Common.{false, Result, Ok, Err, None, ◌==◌, if◌then◌else◌}
use Rattle.std.specs.List.{list_any}
use Rattle.script_rebuild.specs.Names.{Order, StpItem, Plan, Line, Nothing, Of, LineFault, Line2, One}
use Rattle.script_rebuild.specs.Names.{IsSaid, line_of, as_one, Turns}
use Rattle.script_text.specs.Lines.{taken_by}
use Rattle.source_events.specs.declared.plan.SourceKind.TheVariants as kinds
use Rattle.script_text.specs.declared.items.Item.TheVariants as items
use Rattle.script_text.specs.Lines.{◌>>=◌}
use Rattle.script_text.proofs.NewLines.{same_line}
use Rattle.script_rebuild.specs.declared.version.Version.{Version}
use Rattle.script_rebuild.specs.declared.version.Version.TheVariants.{Unknown, First, Second}
use Rattle.script_rebuild.specs.declared.writer.LineWriter.{LineWriter}
use Rattle.script_rebuild.specs.Script.{in_order}
use Rattle.script_rebuild.specs.Segments.{sure_lines}
use Rattle.script_rebuild.specs.Versions.{says, says_one, fitting}
use Rattle.script_rebuild.specs.ReadingLaws.{not_header}
use Rattle.script_rebuild.specs.PutLine.{PutsText, PutsAfter, IsFor, AnswersTo, says_placed}
use Rattle.script_rebuild.specs.Rebuilt.{port_of}
use Rattle.script_rebuild.specs.Routed.{placed, puttable, line_if}
use Rattle.script_rebuild.specs.declared.plan.RebuildPlan.{RebuildPlan}
use Rattle.script_rebuild.specs.Writer.{CanBePut, stp_of, turns_of}
use Rattle.script_rebuild.proofs.InOrder.{in_order_among}

-- what a text says in each version where it is a line of version 1
pub says_same : (plan : Plan) (version : Version) (lines : List Line2) (text : List ℕ) (line : Line) →
    line_of plan text ≡ Ok line → says plan version lines text ≡ fitting lines (One line)
says_same plan Unknown lines text line e =
    ap (λ (v : Bool). if v then Ok (One Nothing) else says_one plan lines text)
    (not_header plan text (λ h. let no = sym e ∙ h in cc)) ∙ ap (λ r. as_one r >>= fitting lines) e
says_same plan First lines text line e = ap (λ r. as_one r >>= fitting lines) e
says_same plan Second lines text line e = ap (λ r. r >>= fitting lines) (same_line plan text (Ok line) e (λ h. cc))

-- the putting of a line that the text says
module _ (p : RebuildPlan) (version : Version) (text : List ℕ) (w new : LineWriter) (lines : List Line2) (line : Line2)
    (suits : IsFor p w) (same : says p.plan version lines text ≡ fitting lines line) where
  said_as : (answer : Result (Unit {0}) LineFault) → puttable (turns_of w) lines line ≡ line_if answer line →
      says_placed p version lines text ≡ line_if answer line
  said_as answer told =
      ap (λ (r : Result Line2 LineFault). r >>= placed p.funnel) same
      ∙ ap (λ (f : Option Turns). puttable f lines line) (sym suits.turns) ∙ told

  pub puts_said : (answer : Result (Unit {0}) LineFault) → PutsAfter w new (port_of p) lines line answer →
      PutsText p version text w new lines answer
  puts_said (Ok done) put =
      let now = lines ++ line ∷ [] in
      let sure : Order → List ℕ → List Line2 → List ℕ = λ order ids l. sure_lines (port_of p) order ids l in
      let more = put.adds.more in
      record {
        ok = record {
          line = line;
          said = said_as (Ok done) put.told;
          stands = put.adds.stands;
          more = more;
          kept = put.adds.kept;
          grown = subst (λ (ids : List ℕ). sure p.plan.order ids now ≡ sure p.plan.order ids lines ++ more) suits.stp
              (subst (λ (o : Order). sure o (stp_of w) now ≡ sure o (stp_of w) lines ++ more) suits.order put.adds.grown);
        };
        err = tt;
      }
  puts_said (Err fault) put = record { ok = tt; err = said_as (Err fault) put.told }

  pub fits_said : (answer : Result (Unit {0}) LineFault) → puttable (turns_of w) lines line ≡ line_if answer line →
      AnswersTo (says_placed p version lines text) answer
  fits_said (Ok done) told = ((line, said_as (Ok done) told), tt)
  fits_said (Err fault) told = (tt, said_as (Err fault) told)

-- what a line of the plan says can be put where its sources of system traces are in order
of_kind : (plan : Plan) (id : ℕ) (item : StpItem) (a b : Bool) → list_any (λ y. y == id) plan.stp ≡ b →
    taken_by (if a then Some kinds.Itm else if b then Some kinds.Stp else None) id (items.Stp item) ≡ Ok (Of id (items.Stp item)) →
    list_any (λ y. y == id) plan.stp ≡ true
of_kind plan id item true b e h = absurd cc
of_kind plan id item false true e h = e
of_kind plan id item false false e h = absurd cc

pub can_be_put : (plan : Plan) (line : Line) → IsSaid plan line → CanBePut (in_order plan.stp) line
can_be_put plan Nothing h = tt
can_be_put plan (Of id (items.Itm packet)) h = (h.0, h.1, h.2, tt)
can_be_put plan (Of id (items.Dwt item)) h = (h.0, h.1, h.2, tt)
can_be_put plan (Of id (items.Raw bytes)) h = (h.0, h.1, h.2, tt)
can_be_put plan (Of id (items.Stp item)) h = (
  h.0,
  h.1,
  h.2,
  in_order_among plan.stp id h.0 h.1
      ∙ of_kind plan id item (list_any (λ y. y == id) plan.itm) (list_any (λ y. y == id) plan.stp) refl h.3,
)

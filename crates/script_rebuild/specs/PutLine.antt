-- What the putting of a line does.
use Rattle.std.specs.Prelude.{◌≡◌, ℕ, List, [], ◌∷◌, ◌++◌, Result, Ok, Err}
use Rattle.std.specs.Result.{OnOk, IfErr}
use Rattle.script_rebuild.specs.Names.{Port, written, Line2, Flush, LineFault}
use Rattle.script_text.specs.Lines.{◌>>=◌}
use Rattle.script_rebuild.specs.declared.plan.RebuildPlan.{RebuildPlan}
use Rattle.script_rebuild.specs.declared.version.Version.{Version}
use Rattle.script_rebuild.specs.Rebuilt.{port_of}
use Rattle.script_rebuild.specs.Routed.{placed, puttable, line_if}
use Rattle.script_rebuild.specs.Script.{in_order}
use Rattle.script_rebuild.specs.Segments.{segments_with_ends, sure_lines}
use Rattle.script_rebuild.specs.Versions.{says, fitting}
use Rattle.script_rebuild.specs.Writer.{Stands, order_of, stp_of, turns_of, kept_by}
use Rattle.script_rebuild.specs.declared.writer.LineWriter.{LineWriter}

-- the writer stands for one more line, and what became sure with it is kept
pub record Adds (old new : LineWriter) (port : Port) (lines : List Line2) (line : Line2) : Type 0 where
  pub stands : Stands new port (lines ++ line ∷ [])
  pub more : List ℕ
  pub kept : kept_by new ≡ kept_by old ++ more
  pub grown : sure_lines port (order_of old) (stp_of old) (lines ++ line ∷ [])
      ≡ sure_lines port (order_of old) (stp_of old) lines ++ more

-- the answer is good exactly where the line can be put after these, and then it is added
pub record PutsAfter (old new : LineWriter) (port : Port) (lines : List Line2) (line : Line2)
    (answer : Result (Unit {0}) LineFault) : Type 0 where
  pub told : puttable (turns_of old) lines line ≡ line_if answer line
  pub adds : OnOk answer (Adds old new port lines line)

-- a flush is added, and with what became sure all is, if nothing comes after it
pub record Flushes (old new : LineWriter) (port : Port) (lines : List Line2) : Type 0 where
  pub adds : Adds old new port lines Flush
  pub all : written port (segments_with_ends (order_of old) (stp_of old) lines)
      ≡ sure_lines port (order_of old) (stp_of old) lines ++ adds.more

-- a writer for a plan
pub record IsFor (p : RebuildPlan) (w : LineWriter) : Type 0 where
  pub order : order_of w ≡ p.plan.order
  pub stp : stp_of w ≡ in_order p.plan.stp
  pub turns : turns_of w ≡ p.funnel

-- what was read of a text, where it fits after these lines
abbrev pub fits_after : List Line2 → Result Line2 LineFault → Result Line2 LineFault
fits_after lines read = read >>= fitting lines

-- what a text says after these lines, where that can be put
abbrev pub says_placed : RebuildPlan → Version → List Line2 → List ℕ → Result Line2 LineFault
says_placed p version lines text = says p.plan version lines text >>= placed p.funnel

-- the answer is good where some line is said, and else that is the fault
abbrev pub AnswersTo : Result Line2 LineFault → Result (Unit {0}) LineFault → Type 0
AnswersTo said answer = OnOk answer ((line : Line2) × (said ≡ Ok line)) × IfErr answer (λ fault. said ≡ Err fault)

-- the text says a line after these, the writer stands for it too, and what became sure with it is kept
pub record PutsLine (p : RebuildPlan) (version : Version) (text : List ℕ) (old new : LineWriter) (lines : List Line2)
    : Type 0 where
  pub line : Line2
  pub said : says_placed p version lines text ≡ Ok line
  pub stands : Stands new (port_of p) (lines ++ line ∷ [])
  pub more : List ℕ
  pub kept : kept_by new ≡ kept_by old ++ more
  pub grown : sure_lines (port_of p) p.plan.order (in_order p.plan.stp) (lines ++ line ∷ [])
      ≡ sure_lines (port_of p) p.plan.order (in_order p.plan.stp) lines ++ more

-- the text's line is put where the answer is good, and else that is its fault
pub record PutsText (p : RebuildPlan) (version : Version) (text : List ℕ) (old new : LineWriter) (lines : List Line2)
    (answer : Result (Unit {0}) LineFault) : Type 0 where
  pub ok : OnOk answer (PutsLine p version text old new lines)
  pub err : IfErr answer (λ fault. says_placed p version lines text ≡ Err fault)

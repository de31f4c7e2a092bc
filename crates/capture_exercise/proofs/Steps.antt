-- One piece of the capture.
use Rattle.std.proofs.Common.{◌≡◌, refl, ℕ, ◌+◌, ◌-◌, ◌<◌, List, [], ◌∷◌, ◌++◌, sym, ◌∙◌, ap, subst, append-nil, arith}
use Rattle.std.proofs.Common.{Bool, true, false, cond, Option, None, Result, Ok, Err, OnOk}
use Rattle.capture_exercise.specs.Names.{Msn, written, Line2, LineFault, in_order, fitting, segments_with_ends}
use Rattle.capture_exercise.specs.Names.{sure_lines}
use Rattle.stp_grammar.specs.declared.packet.Order.{Order}
use Rattle.script_text.specs.Lines.{◌>>=◌}
use Rattle.trace_funnel.specs.declared.turns.Turns.{Turns}
use Rattle.script_rebuild.specs.Routed.{placed, puttable, line_if}
use Rattle.script_rebuild.specs.Writer.{Stands}
use Rattle.script_rebuild.specs.declared.writer.LineWriter.{LineWriter}
use Rattle.capture_exercise.specs.Exercise.{line_at, exercise_port, exercise_lines, exercise_capture}
use Rattle.capture_exercise.specs.Making.{so_far, later}
use Rattle.capture_exercise.proofs.Making.{lines_more, later_more, later_last}

-- what holds where a line is put holds, since the line can be put
pub surely : (r : Result (Unit {0}) LineFault) (said : Result Line2 LineFault) (line : Line2) (P : Type 0) →
    said ≡ Ok line → said ≡ line_if r line → OnOk r P → P
surely (Ok done) said line P e told h = h
surely (Err fault) said line P e told h = cc

pub can_be_put : (funnel : Option Turns) (lines : List Line2) (line : Line2) → funnel ≡ None →
    fitting lines line ≡ Ok line → puttable funnel lines line ≡ Ok line
can_be_put funnel lines line none fits =
    ap (λ (f : Option Turns). puttable f lines line) none ∙ ap (λ (r : Result Line2 LineFault). r >>= placed None) fits

pub stands_more : (w : LineWriter) (n : ℕ) (line : Line2) → line ≡ line_at n →
    Stands w exercise_port (exercise_lines n ++ line ∷ []) → Stands w exercise_port (exercise_lines (n + 1))
stands_more w n line e s =
    subst (λ (l : List Line2). Stands w exercise_port l) (ap (λ (x : Line2). exercise_lines n ++ x ∷ []) e ∙ sym (lines_more n)) s

-- what becomes sure with a line
pub line_bytes : (items n : ℕ) (order : Order) (stp : List ℕ) (line : Line2) (out : List ℕ) → n < items → order ≡ Msn →
    stp ≡ in_order (2 ∷ []) → line ≡ line_at n →
    sure_lines exercise_port order stp (exercise_lines n ++ line ∷ []) ≡ sure_lines exercise_port order stp (exercise_lines n) ++ out →
    later items n ≡ out ++ later items (n + 1)
line_bytes items n order stp line out lt o s e grown =
    let lines = exercise_lines n in
    let first = subst (λ (x : Order). sure_lines exercise_port x stp (lines ++ line ∷ []) ≡ sure_lines exercise_port x stp lines ++ out) o grown in
    let by = subst (λ (x : List ℕ). sure_lines exercise_port Msn x (lines ++ line ∷ []) ≡ sure_lines exercise_port Msn x lines ++ out) s first in
    let now : exercise_lines (n + 1) ≡ lines ++ line ∷ [] = lines_more n ∙ ap (λ (x : Line2). lines ++ x ∷ []) (sym e) in
    later_more items n out (omega arith) (ap (sure_lines exercise_port Msn (in_order (2 ∷ []))) now ∙ by)

-- and the rest
pub rest_bytes : (items n : ℕ) (order : Order) (stp out : List ℕ) → n ≡ items → order ≡ Msn → stp ≡ in_order (2 ∷ []) →
    written exercise_port (segments_with_ends order stp (exercise_lines n)) ≡ sure_lines exercise_port order stp (exercise_lines n) ++ out →
    later items n ≡ out
unfolding exercise_capture
rest_bytes items n order stp out e o s whole =
    let lines = exercise_lines n in
    let first = subst (λ (x : Order). written exercise_port (segments_with_ends x stp lines) ≡ sure_lines exercise_port x stp lines ++ out) o whole in
    let second = subst (λ (x : List ℕ). written exercise_port (segments_with_ends Msn x lines) ≡ sure_lines exercise_port Msn x lines ++ out) s first in
    let third = subst (λ (m : ℕ). exercise_capture m ≡ so_far m ++ out) e second in
    ap (later items) e ∙ later_last items out third

-- the same where the capture was not whole before
pub last_made : (w : Bool) (k : ℕ) (all out : List ℕ) → 0 < cond w 0 k → all ≡ out → cond w [] all ≡ out ++ []
last_made true k all out h e = absurd (omega arith)
last_made false k all out h e = e ∙ sym (append-nil out)

pub line_made : (w : Bool) (k : ℕ) (all more out : List ℕ) → 0 < cond w 0 k → all ≡ out ++ more → cond w [] all ≡ out ++ cond w [] more
line_made true k all more out h e = absurd (omega arith)
line_made false k all more out h e = e

-- more pieces come where the capture isn't whole
pub unmade : (w : Bool) (k : ℕ) → 0 < cond w 0 k → w ≡ false
unmade true k h = absurd (omega arith)
unmade false k h = refl

-- Scripts at their end.
use Rattle.std.proofs.Common.{◌≡◌, ℕ, ◌+◌, ◌≤◌, List, [], ◌∷◌, ◌++◌, refl, sym, ◌∙◌, ap, Option, Some, None, Result, Ok}
use Rattle.std.proofs.Common.{Err, length, length-append, arith}
use Rattle.script_rebuild.specs.Names.{Plan, Line2, LineFault, LongLine}
use Rattle.script_rebuild.specs.declared.version.Version.{Version}
use Rattle.script_rebuild.specs.declared.version.Version.TheVariants.{Unknown}
use Rattle.script_rebuild.specs.Script.{in_order}
use Rattle.script_rebuild.specs.Versions.{read_in, read_texts, says, version_after, version_then, script_of}
use Rattle.script_rebuild.specs.ScriptLaws.{sure_whole}
use Rattle.script_rebuild.specs.declared.plan.RebuildPlan.{RebuildPlan}
use Rattle.script_rebuild.specs.Rebuilt.{read_so_far, port_of, routed_so_far, routed_script, text, ending, left_of}
use Rattle.script_rebuild.specs.Rebuilt.{capture_of, script_capture, IsFirstFault}
use Rattle.script_rebuild.specs.RoutedLaws.{lines_extend, all_placed}
use Rattle.script_rebuild.specs.ReadingLaws.{with_answer, read_first}
use Rattle.script_rebuild.specs.GrowthLaws.{end_extends}
use Rattle.script_rebuild.proofs.Taking.{behind_front}

-- the text is a front of the capture
text_begins : (p : RebuildPlan) (bytes : List ℕ) → p.halves ≤ 8 → (rest : List ℕ) × (script_capture p bytes ≡ text p bytes ++ rest)
text_begins p bytes few =
    let longer = lines_extend p.funnel (read_so_far p.plan bytes) (script_of p.plan bytes) (end_extends p.plan bytes) in
    let whole = sure_whole (port_of p) p.plan.order (in_order p.plan.stp) (routed_so_far p bytes).lines longer.more few in
    (whole.0, ap (λ (l : List Line2). capture_of p l) longer.all ∙ whole.1)

-- with what comes after it, it is the capture of all lines
pub text_and_ending : (p : RebuildPlan) (bytes : List ℕ) → p.halves ≤ 8 → (routed_script p bytes).fault ≡ None →
    text p bytes ++ ending p bytes ≡ capture_of p (script_of p.plan bytes).lines
text_and_ending p bytes few none =
    let begins = text_begins p bytes few in
    ap (λ (f : Option (ℕ × LineFault)). text p bytes ++ left_of (script_capture p bytes) (text p bytes) f) none
    ∙ ap (λ (l : List ℕ). text p bytes ++ l) (behind_front (text p bytes) begins.0 (script_capture p bytes) begins.1)
    ∙ sym begins.1
    ∙ ap (λ (l : List Line2). capture_of p l) (all_placed p.funnel (script_of p.plan bytes) none).same

-- the first fault after some lines
record FaultAfter (plan : Plan) (version : Version) (lines : List Line2) (texts : List (List ℕ)) (number : ℕ) (fault : LineFault) : Type 0 where
  before : List (List ℕ)
  line : List ℕ
  after : List (List ℕ)
  parts : texts ≡ before ++ line ∷ after
  place : number ≡ length lines + length before + 1
  sound : (read_in plan version lines before).fault ≡ None
  refused : says plan (version_then version before) (read_in plan version lines before).lines line ≡ Err fault

abbrev number_in : Option (ℕ × LineFault) → ℕ
number_in None = 0
number_in (Some p) = p.0

abbrev cause_in : Option (ℕ × LineFault) → LineFault
cause_in None = LongLine
cause_in (Some p) = p.1

fault_after : (plan : Plan) (version : Version) (lines : List Line2) (texts : List (List ℕ)) (number : ℕ) (fault : LineFault) →
    (read_in plan version lines texts).fault ≡ Some (number, fault) → FaultAfter plan version lines texts number fault
fault_after plan version lines [] number fault h = cc
fault_after plan version lines (text ∷ texts) number fault h =
    by (says plan version lines text) refl h (λ line k. fault_after plan next (lines ++ line ∷ []) texts number fault k)
  where
    next : Version
    next = version_after version text

    by : (answer : Result Line2 LineFault) → says plan version lines text ≡ answer → (with_answer plan next lines texts answer).fault ≡ Some (number, fault) →
        ((line : Line2) → (read_in plan next (lines ++ line ∷ []) texts).fault ≡ Some (number, fault) → FaultAfter plan next (lines ++ line ∷ []) texts number fault) →
        FaultAfter plan version lines (text ∷ texts) number fault
    by (Ok line) e h more =
        let k = more line h in
        let first = read_first plan version lines text k.before (Ok line) e in
        record {
          before = text ∷ k.before;
          line = k.line;
          after = k.after;
          parts = ap (λ l. text ∷ l) k.parts;
          place = omega (arith, k.place, length-append lines (line ∷ []));
          sound = ap (λ r. r.fault) first ∙ k.sound;
          refused = ap (λ r. says plan (version_then next k.before) r.lines k.line) first ∙ k.refused;
        }
    by (Err found) e h more =
        let same : found ≡ fault = ap cause_in h in
        let count : length lines + 1 ≡ number = ap number_in h in
        record {
          before = [];
          line = text;
          after = texts;
          parts = refl;
          place = omega arith;
          sound = refl;
          refused = e ∙ ap Err same;
        }

pub first_fault : (plan : Plan) (texts : List (List ℕ)) (number : ℕ) (fault : LineFault) → (read_texts plan texts).fault ≡ Some (number, fault) → IsFirstFault plan texts number fault
first_fault plan texts number fault h =
    let k = fault_after plan Unknown [] texts number fault h in
    record { before = k.before; line = k.line; after = k.after; parts = k.parts; place = omega (arith, k.place); sound = k.sound; refused = k.refused }

-- One more line of a script, where only lines with a place go to the port.
use Rattle.std.proofs.Common.{◌≡◌, ◌≢◌, ℕ, ◌+◌, ◌≤◌, List, [], ◌∷◌, ◌++◌, refl, sym, ◌∙◌, ap, Bool, true, false, cond}
use Rattle.std.proofs.Common.{Option, None, Some, Result, Ok, Err, append-nil, append_assoc, length, All, ◌==◌, ◌&&◌}
use Rattle.script_rebuild.specs.Names.{Turns, Line2, LineFault, LongLine, Unrouted}
use Rattle.script_text.specs.Lines.{◌>>=◌}
use Rattle.script_rebuild.specs.declared.plan.RebuildPlan.{RebuildPlan}
use Rattle.script_rebuild.specs.PutLine.{says_placed}
use Rattle.script_rebuild.specs.Rebuilt.{open_line, read_so_far, routed_so_far, routed_script}
use Rattle.script_rebuild.specs.Routed.{is_routed, are_routed, routed_on, routed_by, placed}
use Rattle.script_rebuild.specs.RoutedLaws.{all_placed, on_from, routed_append}
use Rattle.script_rebuild.specs.Versions.{Reading, says, script_of}
use Rattle.script_rebuild.proofs.Steps.{answered, version_now, front_read, fed_read, end_read, long_read}

-- lines that have a place
module _ (order : List ℕ) (fault : Option (ℕ × LineFault)) where
  abbrev unrouted : List Line2 → Reading
  unrouted before = record { lines = before; fault = Some (length before + 1, Unrouted) }

  abbrev sound : List Line2 → Reading
  sound lines = record { lines = lines; fault = fault }

  keeps_all : (before lines : List Line2) → are_routed order lines ≡ true →
      routed_on order fault before lines ≡ sound (before ++ lines)
  keeps_all before [] all = ap sound (sym (append-nil before))
  keeps_all before (line ∷ lines) all =
      by (is_routed order line) all (λ h. keeps_all (before ++ line ∷ []) lines h)
    where
      next : List Line2
      next = before ++ line ∷ []

      by : (v : Bool) → (v && are_routed order lines) ≡ true →
          (are_routed order lines ≡ true → routed_on order fault next lines ≡ sound (next ++ lines)) →
          cond v (routed_on order fault next lines) (unrouted before) ≡ sound (before ++ line ∷ lines)
      by true h more = more h ∙ ap sound (append_assoc before (line ∷ []) lines)
      by false h more = absurd (let no = h in cc)

-- what is read with one line after those that ended
answered_on : (turns : Turns) (r : Reading) (answer : Result Line2 LineFault) → (routed_by (Some turns) r).fault ≡ None →
    routed_by (Some turns) (answered r.lines answer) ≡ answered r.lines (answer >>= placed (Some turns))
answered_on turns r (Err fault) none =
    keeps_all turns.order (Some (length r.lines + 1, fault)) [] r.lines (all_placed (Some turns) r none).places
answered_on turns r (Ok line) none =
    routed_append turns.order None [] r.lines (line ∷ [])
    ∙ ap (λ (x : Reading). on_from turns.order None x (line ∷ []) x.fault)
    (keeps_all turns.order None [] r.lines (all_placed (Some turns) r none).places)
    ∙ by (is_routed turns.order line)
  where
    by : (v : Bool) → cond v (answered r.lines (Ok line)) (answered r.lines (Err Unrouted))
        ≡ answered r.lines (cond v (Ok line) (Err Unrouted))
    by true = refl
    by false = refl

answered_routed : (funnel : Option Turns) (r : Reading) (answer : Result Line2 LineFault) →
    (routed_by funnel r).fault ≡ None →
    routed_by funnel (answered r.lines answer) ≡ answered r.lines (answer >>= placed funnel)
answered_routed None r (Ok line) none = refl
answered_routed None r (Err fault) none = refl
answered_routed (Some turns) r answer none = answered_on turns r answer none

abbrev pub routed_with : RebuildPlan → List ℕ → Result Line2 LineFault → Reading
routed_with p seen answer = answered (routed_so_far p seen).lines answer

module _ (p : RebuildPlan) (seen : List ℕ) (none : (routed_so_far p seen).fault ≡ None) where
  -- nothing is left out of what is read so far
  pub read_sound : (read_so_far p.plan seen).fault ≡ None
  read_sound = (all_placed p.funnel (read_so_far p.plan seen) none).no_fault

  pub same_lines : (routed_so_far p seen).lines ≡ (read_so_far p.plan seen).lines
  same_lines = (all_placed p.funnel (read_so_far p.plan seen) none).same

  -- what is read with this answer
  with_answer : (r : Reading) (answer : Result Line2 LineFault) →
      r ≡ answered (read_so_far p.plan seen).lines answer →
      routed_by p.funnel r ≡ routed_with p seen (answer >>= placed p.funnel)
  with_answer r answer e =
      ap (routed_by p.funnel) e ∙ answered_routed p.funnel (read_so_far p.plan seen) answer none
      ∙ ap (λ (l : List Line2). answered l (answer >>= placed p.funnel)) (sym same_lines)

  abbrev said : List Line2 → Result Line2 LineFault
  said lines = says p.plan (version_now seen) lines (open_line seen)

  said_same : said (read_so_far p.plan seen).lines >>= placed p.funnel
      ≡ says_placed p (version_now seen) (routed_so_far p seen).lines (open_line seen)
  said_same = ap (λ (l : List Line2). said l >>= placed p.funnel) (sym same_lines)

  -- the open line at its end, with a line feed or at the end of the script
  pub fed_routed : (answer : Result Line2 LineFault) → length (open_line seen) ≤ 256 →
      says_placed p (version_now seen) (routed_so_far p seen).lines (open_line seen) ≡ answer →
      routed_so_far p (seen ++ 10 ∷ []) ≡ routed_with p seen answer
  fed_routed answer few e =
      with_answer (read_so_far p.plan (seen ++ 10 ∷ [])) (said (read_so_far p.plan seen).lines)
      (fed_read p.plan seen (said (read_so_far p.plan seen).lines) read_sound few refl)
      ∙ ap (routed_with p seen) (said_same ∙ e)

  pub end_routed : (answer : Result Line2 LineFault) → length (open_line seen) ≤ 256 →
      says_placed p (version_now seen) (routed_so_far p seen).lines (open_line seen) ≡ answer →
      routed_script p seen ≡ routed_with p seen answer
  end_routed answer few e =
      with_answer (script_of p.plan seen) (said (read_so_far p.plan seen).lines)
      (end_read p.plan seen (said (read_so_far p.plan seen).lines) read_sound few refl)
      ∙ ap (routed_with p seen) (said_same ∙ e)

  -- and where it is too long
  pub long_routed : (b : ℕ) → length (open_line seen) ≡ 256 → b ≢ 10 →
      routed_so_far p (seen ++ b ∷ []) ≡ routed_with p seen (Err LongLine)
  long_routed b full other =
      with_answer (read_so_far p.plan (seen ++ b ∷ [])) (Err LongLine) (long_read p.plan seen b read_sound full other)

-- a front without a line feed
pub front_routed : (p : RebuildPlan) (seen front : List ℕ) → All (λ b. (b == 10) ≡ false) front →
    length (open_line seen ++ front) ≤ 256 → routed_so_far p (seen ++ front) ≡ routed_so_far p seen
front_routed p seen front plain h = ap (routed_by p.funnel) (front_read p.plan seen front plain h)

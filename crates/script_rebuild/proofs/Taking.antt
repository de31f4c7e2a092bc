-- What the action takes.
use Rattle.std.proofs.Common.{◌≡◌, ℕ, ◌+◌, ◌≤◌, List, [], ◌∷◌, ◌++◌, refl, sym, ◌∙◌, ap, subst, Bool, true, false}
use Rattle.std.proofs.Common.{Option, Some, None, Result, Ok, Err, append-nil, append_assoc, length, length-append}
use Rattle.std.proofs.Common.{arith, All, drop, ◌==◌, is_some, option_map, ◌⊎◌, inl, inr, ◌-◌}
use Rattle.script_rebuild.specs.Names.{Order, Plan, Turns, Paid, owing, with_debt, HasTaken, GREATEST_CAPTURE, written}
use Rattle.script_rebuild.specs.Names.{Line2, LineFault}
use Rattle.trace_stream.proofs.Owing.{with_last}
use Rattle.trace_stream.specs.Owed.{last_of}
use Rattle.script_rebuild.specs.Routed.{routed_by}
use Rattle.trace_stream.specs.Taken.{FaultAfter}
use Rattle.script_rebuild.specs.declared.version.Version.{Version}
use Rattle.script_rebuild.specs.Script.{in_order}
use Rattle.script_rebuild.specs.Segments.{sure_lines, segments_with_ends}
use Rattle.script_rebuild.specs.Versions.{Reading, version_after}
use Rattle.script_rebuild.specs.Writer as writers
use Rattle.script_rebuild.specs.declared.writer.LineWriter.{LineWriter}
use Rattle.script_rebuild.specs.declared.plan.RebuildPlan.{RebuildPlan}
use Rattle.script_rebuild.specs.declared.plan.ScriptFault.{ScriptFault}
use Rattle.script_rebuild.specs.declared.rebuild.Rebuild.{Rebuild}
use Rattle.script_rebuild.specs.Rebuilt.{IsFaulty, open_line, port_of, read_so_far, routed_so_far, routed_script, text}
use Rattle.script_rebuild.specs.Rebuilt.{ending, left_of, capture_of, script_capture, rebuild_meaning}
use Rattle.script_rebuild.specs.PutLine.{PutsLine, Flushes, IsFor, says_placed}
use Rattle.script_rebuild.specs.Rebuilder.{told, debt_with, debt_of, Reads, HasEnded, Stands, TakesByte, Feeds}
use Rattle.script_rebuild.specs.RoutedLaws.{end_settled}
use Rattle.script_rebuild.specs.SplitLaws.{plain_open, fed_open}
use Rattle.script_rebuild.specs.RebuiltLaws.{nothing_left}
use Rattle.script_rebuild.proofs.Steps.{version_now, front_version, fed_version}
use Rattle.script_rebuild.proofs.RoutedSteps.{routed_with, front_routed, fed_routed, end_routed}

-- == What it owes

-- all that is kept
pub owed_all : (held kept : List ℕ) → with_debt held (owing kept (length kept)) ≡ held ++ kept
owed_all held [] = sym (append-nil held)
owed_all held (x ∷ kept) = refl

-- nothing is kept where nothing is owed
pub none_kept : (kept : List ℕ) → owing kept (length kept) ≡ Paid → kept ≡ []
none_kept [] h = refl
none_kept (x ∷ kept) h = absurd (let no = h in cc)

-- an action that reads, whose writer owes nothing, owes nothing
pub paid_still : (r : Rebuild) (w : LineWriter) (held : List ℕ) → r.owed ≡ None → r.writer ≡ w → writers.debt_of w ≡ Paid →
    with_debt held (debt_of r) ≡ held ++ []
paid_still r w held reading same paid =
    ap (λ (o : Option ℕ). with_debt held (debt_with o (writers.kept_by r.writer))) reading
    ∙ ap (λ (v : LineWriter). with_debt held (writers.debt_of v)) same
    ∙ ap (with_debt held) paid ∙ sym (append-nil held)

-- while it reads it owes what its writer owes
pub owes_kept : (owed : Option ℕ) (w : LineWriter) (held : List ℕ) → owed ≡ None →
    with_debt held (debt_with owed (writers.kept_by w)) ≡ with_debt held (writers.debt_of w)
owes_kept owed w held reading = ap (λ (o : Option ℕ). with_debt held (debt_with o (writers.kept_by w))) reading

-- == While it reads

-- no bytes have no line
first_by : (funnel : Option Turns) (plan : Plan) → routed_by funnel (read_so_far plan []) ≡ record { lines = []; fault = None }
first_by None plan = refl
first_by (Some turns) plan = refl

pub first_read : (p : RebuildPlan) → routed_so_far p [] ≡ record { lines = []; fault = None }
first_read p = first_by p.funnel p.plan

pub sound_of : (r : Rebuild) (seen : List ℕ) → Reads r seen → r.fault ≡ None → (routed_so_far r.plan seen).fault ≡ None
sound_of r seen s live = sym s.fault ∙ ap (option_map told) live

pub open_few : (r : Rebuild) (seen : List ℕ) (n : ℕ) → Reads r seen → r.fault ≡ None → length r.line.items ≤ n → length (open_line seen) ≤ n
open_few r seen n s live h = omega (arith, ap length (s.open_bytes live))

reads_as : (r : Rebuild) (seen : List ℕ) (reading : Reading) → routed_so_far r.plan seen ≡ reading → r.count ≡ length seen → option_map told r.fault ≡ reading.fault →
    (r.fault ≡ None → r.line.items ≡ open_line seen) → (r.fault ≡ None → r.lines ≡ length reading.lines) → (r.fault ≡ None → r.version ≡ version_now seen) → writers.Stands r.writer (port_of r.plan) reading.lines → Reads r seen
reads_as r seen reading e count fault open_bytes lines version writer = record {
  count = count;
  fault = fault ∙ ap (λ (x : Reading). x.fault) (sym e);
  open_bytes = open_bytes;
  lines = λ n. lines n ∙ ap (λ (x : Reading). length x.lines) (sym e);
  version = version;
  writer = subst (λ (x : Reading). writers.Stands r.writer (port_of r.plan) x.lines) (sym e) writer;
}

count_more : (old new n : ℕ) (seen more : List ℕ) → new ≡ old + n → n ≡ length more → old ≡ length seen → new ≡ length (seen ++ more)
count_more old new n seen more e len s = omega (arith, length-append seen more)

-- a front without a line feed
pub front_is : (r : Rebuild) (seen front : List ℕ) → Reads r seen → r.fault ≡ None → length (r.line.items ++ front) ≤ 256 → All (λ b. (b == 10) ≡ false) front →
    routed_so_far r.plan (seen ++ front) ≡ routed_so_far r.plan seen
front_is r seen front s live few plain =
    front_routed r.plan seen front plain (omega (arith, ap (λ l. length (l ++ front)) (s.open_bytes live)))

pub front_reads : (old new : Rebuild) (seen front : List ℕ) (n : ℕ) → new.plan ≡ old.plan → new.fault ≡ old.fault → new.lines ≡ old.lines → new.version ≡ old.version → new.writer ≡ old.writer →
    new.count ≡ old.count + n → n ≡ length front → new.line.items ≡ old.line.items ++ front → old.fault ≡ None → length (old.line.items ++ front) ≤ 256 →
    All (λ b. (b == 10) ≡ false) front → Reads old seen → Reads new (seen ++ front)
front_reads old new seen front n plan fault lines version writer count len items live few plain s =
    reads_as new (seen ++ front) (routed_so_far old.plan seen) (ap (λ (p : RebuildPlan). routed_so_far p (seen ++ front)) plan ∙ front_is old seen front s live few plain)
    (count_more old.count new.count n seen front count len s.count) (ap (option_map told) fault ∙ s.fault)
    (λ k. items ∙ ap (λ l. l ++ front) (s.open_bytes live) ∙ sym (plain_open seen front plain))
    (λ k. lines ∙ s.lines live)
    (λ k. version ∙ s.version live ∙ sym (front_version seen front plain))
    (subst (λ (w : LineWriter). writers.Stands w (port_of new.plan) (routed_so_far old.plan seen).lines) (sym writer)
    (subst (λ (p : RebuildPlan). writers.Stands old.writer (port_of p) (routed_so_far old.plan seen).lines) (sym plan) s.writer))

-- a line that is refused
pub refused : (old new : Rebuild) (seen : List ℕ) (b : ℕ) (fault : LineFault) (outlet : List ℕ) → new.plan ≡ old.plan → old.fault ≡ None → new.owed ≡ None →
    new.fault ≡ Some (record { line = old.lines + 1; fault = fault }) → new.count ≡ old.count + 1 → new.writer ≡ old.writer → writers.debt_of old.writer ≡ Paid →
    routed_so_far old.plan (seen ++ b ∷ []) ≡ routed_with old.plan seen (Err fault) → Reads old seen →
    TakesByte old new seen b outlet outlet
refused old new seen b fault outlet plan live reading found count writer paid read s =
    let lines = (routed_so_far old.plan seen).lines in
    record {
      reads = reads_as new (seen ++ b ∷ []) (routed_with old.plan seen (Err fault)) (ap (λ (p : RebuildPlan). routed_so_far p (seen ++ b ∷ [])) plan ∙ read)
          (count_more old.count new.count 1 seen (b ∷ []) count refl s.count)
          (ap (option_map told) found ∙ ap (λ (n : ℕ). Some (n + 1, fault)) (s.lines live))
          (λ k. let no = sym found ∙ k in cc)
          (λ k. let no = sym found ∙ k in cc)
          (λ k. let no = sym found ∙ k in cc)
          (subst (λ (w : LineWriter). writers.Stands w (port_of new.plan) lines) (sym writer)
          (subst (λ (p : RebuildPlan). writers.Stands old.writer (port_of p) lines) (sym plan) s.writer));
      more = [];
      gained = paid_still new old.writer outlet reading writer paid;
      grown = ap (λ (r : Reading). sure_lines (port_of old.plan) old.plan.plan.order (in_order old.plan.plan.stp) r.lines) read ∙ sym (append-nil (text old.plan seen));
    }

-- what the open line says
pub said_there : (r : Rebuild) (seen words : List ℕ) (answer : Result Line2 LineFault) → Reads r seen → r.fault ≡ None → words ≡ open_line seen →
    says_placed r.plan r.version (routed_so_far r.plan seen).lines words ≡ answer →
    says_placed r.plan (version_now seen) (routed_so_far r.plan seen).lines (open_line seen) ≡ answer
said_there r seen words answer s live same said =
    let lines = (routed_so_far r.plan seen).lines in
    ap (λ (v : Version). says_placed r.plan v lines (open_line seen)) (sym (s.version live))
    ∙ ap (says_placed r.plan r.version lines) (sym same) ∙ said

-- what a line puts, where nothing was kept, and then was given or is owed
pub gained_by : (p : RebuildPlan) (old mid : LineWriter) (version : Version) (words before given : List ℕ) (lines : List Line2) →
    writers.debt_of old ≡ Paid → (puts : PutsLine p version words old mid lines) → given ≡ with_debt before (writers.debt_of mid) →
    given ≡ before ++ puts.more
gained_by p old mid version words before given lines paid puts poured =
    poured ∙ owed_all before (writers.kept_by mid)
    ∙ ap (λ (l : List ℕ). before ++ l) (puts.kept ∙ ap (λ (l : List ℕ). l ++ puts.more) (none_kept (writers.kept_by old) paid))

-- a line that is put
pub line_ended : (old new : Rebuild) (mid : LineWriter) (seen words before after : List ℕ) → new.plan ≡ old.plan → old.fault ≡ None → new.fault ≡ None → new.count ≡ old.count + 1 →
    new.lines ≡ old.lines + 1 → new.version ≡ version_after old.version words → new.line.items ≡ [] → length old.line.items ≤ 256 → words ≡ old.line.items →
    (puts : PutsLine old.plan old.version words old.writer mid (routed_so_far old.plan seen).lines) →
    ((lines : List Line2) → writers.Stands mid (port_of old.plan) lines → writers.Stands new.writer (port_of old.plan) lines) →
    with_debt after (debt_of new) ≡ before ++ puts.more → Reads old seen →
    TakesByte old new seen 10 before after
line_ended old new mid seen words before after plan live sound count lines version empty few same puts moved gained s =
    let so_far = (routed_so_far old.plan seen).lines in
    let is = same ∙ s.open_bytes live in
    let says = said_there old seen words (Ok puts.line) s live is puts.said in
    let read = fed_routed old.plan seen (sound_of old seen s live) (Ok puts.line) (open_few old seen 256 s live few) says in
    record {
      reads = reads_as new (seen ++ 10 ∷ []) (routed_with old.plan seen (Ok puts.line)) (ap (λ (p : RebuildPlan). routed_so_far p (seen ++ 10 ∷ [])) plan ∙ read)
          (count_more old.count new.count 1 seen (10 ∷ []) count refl s.count)
          (ap (option_map told) sound)
          (λ k. empty ∙ sym (fed_open seen))
          (λ k. lines ∙ ap (λ (n : ℕ). n + 1) (s.lines live) ∙ sym (length-append so_far (puts.line ∷ [])))
          (λ k. version ∙ ap (λ (v : Version). version_after v words) (s.version live) ∙ ap (version_after (version_now seen)) is ∙ sym (fed_version seen))
          (subst (λ (p : RebuildPlan). writers.Stands new.writer (port_of p) (so_far ++ puts.line ∷ [])) (sym plan) (moved (so_far ++ puts.line ∷ []) puts.stands));
      more = puts.more;
      gained = gained;
      grown = ap (λ (r : Reading). sure_lines (port_of old.plan) old.plan.plan.order (in_order old.plan.plan.stp) r.lines) read ∙ puts.grown;
    }

some_of : (f : Option ScriptFault) (o : Option (ℕ × LineFault)) → option_map told f ≡ o → is_some o ≡ is_some f
some_of None o e = ap (λ (x : Option (ℕ × LineFault)). is_some x) (sym e)
some_of (Some f) o e = ap (λ (x : Option (ℕ × LineFault)). is_some x) (sym e)

pub is_faulty : (r : Rebuild) (seen : List ℕ) → Reads r seen → is_some (routed_so_far r.plan seen).fault ≡ is_some r.fault
is_faulty r seen s = some_of r.fault (routed_so_far r.plan seen).fault s.fault

pub none_if : {A : Type 0} (o : Option A) → is_some o ≡ false → o ≡ None
none_if None h = refl
none_if (Some x) h = cc

-- a reader of this plan tells by its fault whether these bytes have one
faulty_is : (r : Rebuild) (p : RebuildPlan) (seen : List ℕ) → r.plan ≡ p → Reads r seen → is_some (routed_so_far p seen).fault ≡ is_some r.fault
faulty_is r p seen plan s = subst (λ (q : RebuildPlan). is_some (routed_so_far q seen).fault ≡ is_some r.fault) plan (is_faulty r seen s)

none_is : (f : Option ScriptFault) → f ≡ None → is_some f ≡ false
none_is f e = ap (λ (x : Option ScriptFault). is_some x) e

sound_after : (r : Rebuild) (p : RebuildPlan) (seen : List ℕ) → r.plan ≡ p → Reads r seen → is_some r.fault ≡ false → IsFaulty p seen → ⊥
sound_after r p seen plan s none h = let no : false ≡ true = sym (faulty_is r p seen plan s ∙ none) ∙ h in cc

-- a front that is the whole piece
pub all_taken : (old new : Rebuild) (front outlet : List ℕ) → new.plan ≡ old.plan → new.fault ≡ None → new.owed ≡ None → new.writer ≡ old.writer → writers.debt_of old.writer ≡ Paid
    → ((seen : List ℕ) → Reads old seen → Reads new (seen ++ front))
    → ((seen : List ℕ) → Reads old seen → routed_so_far old.plan (seen ++ front) ≡ routed_so_far old.plan seen)
    → Feeds old new front outlet outlet false
all_taken old new front outlet plan live reading writer paid reads read = record {
  same = plan;
  reading = reading;
  live = λ e. live;
  fed = λ seen s. record {
    read = reads seen s;
    more = [];
    grown = ap (λ (r : Reading). sure_lines (port_of old.plan) old.plan.plan.order (in_order old.plan.plan.stp) r.lines) (read seen s) ∙ sym (append-nil (text old.plan seen));
    gained = paid_still new old.writer outlet reading writer paid;
    fault = sound_after new old.plan (seen ++ front) plan (reads seen s) (none_is new.fault live);
  };
}

module _ (mid new : Rebuild) (p : RebuildPlan) (seen front piece : List ℕ) (b : ℕ) (before after : List ℕ) (was : mid.plan ≡ p) (plan : new.plan ≡ mid.plan) (live : mid.fault ≡ None)
    (parts : piece ≡ front ++ b ∷ []) (reads : Reads mid (seen ++ front)) (read : routed_so_far p (seen ++ front) ≡ routed_so_far p seen)
    (takes : TakesByte mid new (seen ++ front) b before after) where
  join : seen ++ piece ≡ (seen ++ front) ++ b ∷ []
  join = ap (λ l. seen ++ l) parts ∙ sym (append_assoc seen front (b ∷ []))

  there : Reads new (seen ++ piece)
  there = subst (Reads new) (sym join) takes.reads

  fault_there : (is_faulty : Bool) → is_faulty ≡ is_some new.fault → FaultAfter (IsFaulty p) (seen ++ piece) is_faulty
  fault_there false e = sound_after new p (seen ++ piece) (plan ∙ was) there (sym e)
  fault_there true e = record {
    front = seen ++ front;
    last = b;
    all = join;
    sound = sound_after mid p (seen ++ front) was reads (none_is mid.fault live);
    broken = faulty_is new p (seen ++ piece) (plan ∙ was) there ∙ sym e;
  }

  -- it took the front and one more byte
  pub byte_taken : (is_faulty : Bool) → is_faulty ≡ is_some new.fault →
      HasTaken (Reads new) (rebuild_meaning p) (record { seen = seen; front = piece; before = before; after = with_debt after (debt_of new) }) is_faulty
  byte_taken is_faulty e = record {
    read = there;
    more = takes.more;
    grown = ap (text p) join
        ∙ subst (λ (q : RebuildPlan). text q ((seen ++ front) ++ b ∷ []) ≡ text q (seen ++ front) ++ takes.more) was takes.grown
        ∙ ap (λ (r : Reading). sure_lines (port_of p) p.plan.order (in_order p.plan.stp) r.lines ++ takes.more) read;
    gained = takes.gained;
    fault = fault_there is_faulty e;
  }

-- what was taken while it read is taken
pub taken_so : (r : Rebuild) (p : RebuildPlan) (seen front before after : List ℕ) (is_faulty : Bool) → r.owed ≡ None →
    HasTaken (Reads r) (rebuild_meaning p) (record { seen = seen; front = front; before = before; after = after }) is_faulty →
    HasTaken (Stands r) (rebuild_meaning p) (record { seen = seen; front = front; before = before; after = after }) is_faulty
taken_so r p seen front before after is_faulty reading t = record {
  read = record { reads = λ e. t.read; ended = λ h. absurd (let no = sym (ap (λ (o : Option ℕ). is_some o) reading) ∙ h in cc) };
  more = t.more;
  grown = t.grown;
  gained = t.gained;
  fault = t.fault;
}

-- what is left of a list after its front
pub behind_front : (front rest whole : List ℕ) → whole ≡ front ++ rest → drop (length front) whole ≡ rest
behind_front [] rest whole e = e
behind_front (x ∷ front) rest [] e = cc
behind_front (x ∷ front) rest (y ∷ whole) e = let tail : whole ≡ front ++ rest = cc in behind_front front rest whole tail

-- == At the end

-- the last line, where it says something
pub last_says : (r : Rebuild) (seen words : List ℕ) (answer : Result Line2 LineFault) → Reads r seen → r.fault ≡ None → length r.line.items ≤ 256 → words ≡ r.line.items →
    says_placed r.plan r.version (routed_so_far r.plan seen).lines words ≡ answer → routed_script r.plan seen ≡ routed_with r.plan seen answer
last_says r seen words answer s live few same said =
    end_routed r.plan seen (sound_of r seen s live) answer (open_few r seen 256 s live few)
    (said_there r seen words answer s live (same ∙ s.open_bytes live) said)

-- its line is put, and then the segment is ended
pub ended_whole : (old new : Rebuild) (mid : LineWriter) (seen words : List ℕ) → new.plan ≡ old.plan → new.fault ≡ None → writers.debt_of old.writer ≡ Paid →
    Reads old seen → old.fault ≡ None → length old.line.items ≤ 256 → words ≡ old.line.items →
    (puts : PutsLine old.plan old.version words old.writer mid (routed_so_far old.plan seen).lines) → IsFor old.plan mid →
    Flushes mid new.writer (port_of old.plan) ((routed_so_far old.plan seen).lines ++ puts.line ∷ []) → HasEnded new seen
ended_whole old new mid seen words plan sound paid s live few same puts suits flushes =
    let p = old.plan in
    let lines = (routed_so_far p seen).lines ++ puts.line ∷ [] in
    let rest = flushes.adds.more in
    let read = last_says old seen words (Ok puts.line) s live few same puts.said in
    let with_stp = subst (λ (ids : List ℕ). written (port_of p) (segments_with_ends (writers.order_of mid) ids lines) ≡ sure_lines (port_of p) (writers.order_of mid) ids lines ++ rest) suits.stp flushes.all in
    let all = subst (λ (o : Order). written (port_of p) (segments_with_ends o (in_order p.plan.stp) lines) ≡ sure_lines (port_of p) o (in_order p.plan.stp) lines ++ rest) suits.order with_stp in
    let whole : capture_of p lines ≡ text p seen ++ (puts.more ++ rest) = all ∙ ap (λ (l : List ℕ). l ++ rest) puts.grown ∙ append_assoc (text p seen) puts.more rest in
    let ends : ending p seen ≡ puts.more ++ rest =
    ap (λ (x : Reading). left_of (capture_of p x.lines) (text p seen) x.fault) read ∙ behind_front (text p seen) (puts.more ++ rest) (capture_of p lines) whole in
    let kept : writers.kept_by new.writer ≡ puts.more ++ rest =
    flushes.adds.kept ∙ ap (λ (l : List ℕ). l ++ rest) (puts.kept ∙ ap (λ (l : List ℕ). l ++ puts.more) (none_kept (writers.kept_by old.writer) paid)) in
    record {
      fault = ap (option_map told) sound ∙ ap (λ (x : Reading). x.fault) (sym read) ∙ ap (λ (q : RebuildPlan). (routed_script q seen).fault) (sym plan);
      kept = kept ∙ sym ends ∙ ap (λ (q : RebuildPlan). ending q seen) (sym plan);
    }

-- nothing comes after the text of a script with a fault
none_ends : (p : RebuildPlan) (seen : List ℕ) → is_some (routed_script p seen).fault ≡ true → ending p seen ≡ []
none_ends p seen h = nothing_left (script_capture p seen) (text p seen) (routed_script p seen).fault h

pub settled_fault : (r : Rebuild) (seen : List ℕ) → Reads r seen → is_some r.fault ≡ true → option_map told r.fault ≡ (routed_script r.plan seen).fault
settled_fault r seen s h = s.fault ∙ ap (λ (x : Reading). x.fault) (sym (end_settled r.plan.funnel r.plan.plan seen (is_faulty r seen s ∙ h)))

-- where a line had a fault
pub ended_before : (old new : Rebuild) (seen : List ℕ) → new.plan ≡ old.plan → new.fault ≡ old.fault → new.writer ≡ old.writer → writers.debt_of old.writer ≡ Paid →
    is_some old.fault ≡ true → Reads old seen → HasEnded new seen
ended_before old new seen plan fault writer paid h s =
    let settled = settled_fault old seen s h in
    let faulty : is_some (routed_script old.plan seen).fault ≡ true = some_of old.fault (routed_script old.plan seen).fault settled ∙ h in
    record {
      fault = ap (option_map told) fault ∙ settled ∙ ap (λ (q : RebuildPlan). (routed_script q seen).fault) (sym plan);
      kept = ap (λ (w : LineWriter). writers.kept_by w) writer ∙ none_kept (writers.kept_by old.writer) paid
          ∙ sym (none_ends old.plan seen faulty) ∙ ap (λ (q : RebuildPlan). ending q seen) (sym plan);
    }

-- or the last one has
pub last_fault_is : (r : Rebuild) (seen words : List ℕ) (fault : LineFault) → Reads r seen → r.fault ≡ None → length r.line.items ≤ 256 → words ≡ r.line.items →
    says_placed r.plan r.version (routed_so_far r.plan seen).lines words ≡ Err fault →
    Some (r.lines + 1, fault) ≡ (routed_script r.plan seen).fault
last_fault_is r seen words fault s live few same says =
    ap (λ (n : ℕ). Some (n + 1, fault)) (s.lines live)
    ∙ ap (λ (x : Reading). x.fault) (sym (last_says r seen words (Err fault) s live few same says))

pub ended_last : (old new : Rebuild) (seen words : List ℕ) (fault : LineFault) → new.plan ≡ old.plan → new.fault ≡ Some (record { line = old.lines + 1; fault = fault }) →
    new.writer ≡ old.writer → writers.debt_of old.writer ≡ Paid → Reads old seen → old.fault ≡ None → length old.line.items ≤ 256 → words ≡ old.line.items →
    says_placed old.plan old.version (routed_so_far old.plan seen).lines words ≡ Err fault → HasEnded new seen
ended_last old new seen words fault plan found writer paid s live few same says =
    let is = last_fault_is old seen words fault s live few same says in
    let faulty : is_some (routed_script old.plan seen).fault ≡ true = ap (λ (o : Option (ℕ × LineFault)). is_some o) (sym is) in
    record {
      fault = ap (option_map told) found ∙ is ∙ ap (λ (q : RebuildPlan). (routed_script q seen).fault) (sym plan);
      kept = ap (λ (w : LineWriter). writers.kept_by w) writer ∙ none_kept (writers.kept_by old.writer) paid
          ∙ sym (none_ends old.plan seen faulty) ∙ ap (λ (q : RebuildPlan). ending q seen) (sym plan);
    }

-- == A whole line

-- with a text as its open line
unfoldable pub opened : (r : Rebuild) (line : List ℕ) (n : ℕ) → r.count + n ≤ GREATEST_CAPTURE → Rebuild
opened r line n small = record {
  plan = r.plan;
  line = record { items = line };
  lines = r.lines;
  version = r.version;
  writer = r.writer;
  count = r.count + n;
  fault = r.fault;
  owed = r.owed;
  few = omega (arith, r.few);
  frames = λ reading. omega (arith, r.frames reading);
  small = small;
  suits = r.suits;
  owes = r.owes;
}

no_items : (l : List ℕ) → length l ≡ 0 → l ≡ []
no_items [] h = refl
no_items (x ∷ l) h = absurd (omega arith)

-- it took a whole line and its line feed: as one with that line open takes a line feed
pub record TakesLine (old new : Rebuild) (seen line before after : List ℕ) : Type 0 where
  pub mid : Rebuild
  pub same : mid.plan ≡ old.plan
  pub live : mid.fault ≡ None
  pub reads : Reads mid (seen ++ line)
  pub read : routed_so_far old.plan (seen ++ line) ≡ routed_so_far old.plan seen
  pub takes : TakesByte mid new (seen ++ line) 10 before after

-- a whole line
pub whole_line : (old new : Rebuild) (seen line before after : List ℕ) (small : old.count + length line ≤ GREATEST_CAPTURE) → old.fault ≡ None → length old.line.items ≡ 0 → length line ≤ 256 →
    All (λ b. (b == 10) ≡ false) line → Reads old seen →
    (Reads (opened old line (length line) small) (seen ++ line) → TakesByte (opened old line (length line) small) new (seen ++ line) 10 before after) →
    TakesLine old new seen line before after
unfolding opened
whole_line old new seen line before after small live closed few plain s takes =
    let none = no_items old.line.items closed in
    let items : line ≡ old.line.items ++ line = ap (λ (l : List ℕ). l ++ line) (sym none) in
    let all : length (old.line.items ++ line) ≤ 256 = subst (λ (l : List ℕ). length l ≤ 256) items few in
    let reads = front_reads old (opened old line (length line) small) seen line (length line) refl refl refl refl refl refl refl items live all plain s in
    record {
      mid = opened old line (length line) small;
      same = refl;
      live = live;
      reads = reads;
      read = front_is old seen line s live all plain;
      takes = takes reads;
    }

pub line_taken : (old new : Rebuild) (line before after : List ℕ) (is_faulty : Bool) → new.plan ≡ old.plan → new.owed ≡ None → is_faulty ≡ is_some new.fault
    → ((seen : List ℕ) → Reads old seen → TakesLine old new seen line before after) → Feeds old new (line ++ 10 ∷ []) before after is_faulty
line_taken old new line before after is_faulty same reading e takes = record {
  same = same;
  reading = reading;
  live = λ f. none_if new.fault (sym e ∙ f);
  fed = λ seen s.
      let t = takes seen s in
      byte_taken t.mid new old.plan seen line (line ++ 10 ∷ []) 10 before after t.same (same ∙ sym t.same) t.live refl t.reads t.read t.takes is_faulty e;
}

-- == Either way

pub stands_reading : (r : Rebuild) (seen : List ℕ) → r.owed ≡ None → Reads r seen → Stands r seen
stands_reading r seen reading s = record {
  reads = λ e. s;
  ended = λ h. absurd (let no = sym (ap (λ (o : Option ℕ). is_some o) reading) ∙ h in cc);
}

pub stands_ended : (r : Rebuild) (seen : List ℕ) (owed : ℕ) → r.owed ≡ Some owed → HasEnded r seen → Stands r seen
stands_ended r seen owed is s = record {
  reads = λ e. absurd (let no = sym is ∙ e in cc);
  ended = λ h. s;
}

-- the fault that is kept is the script's, if the script has ended or a line had a fault
pub kept_fault : (r : Rebuild) (seen : List ℕ) → (is_some r.owed ≡ true) ⊎ (is_some r.fault ≡ true) → Stands r seen →
    option_map told r.fault ≡ (routed_script r.plan seen).fault
kept_fault r seen (inl ended) s = (s.ended ended).fault
kept_fault r seen (inr faulty) s = by r.owed refl
  where
    by : (o : Option ℕ) → r.owed ≡ o → option_map told r.fault ≡ (routed_script r.plan seen).fault
    by None e = settled_fault r seen (s.reads e) faulty
    by (Some owed) e = (s.ended (ap (λ (o : Option ℕ). is_some o) e)).fault

none_over : (n : ℕ) → n - n ≡ 0
none_over n = omega arith

whole_last : (l : List ℕ) → last_of (length l) l ≡ l
whole_last l = ap (λ (n : ℕ). drop n l) (none_over (length l))

-- all that is kept is owed
pub all_owed : (kept : List ℕ) (owed : ℕ) → owed ≡ length kept → with_debt [] (debt_with (Some owed) kept) ≡ kept
all_owed kept owed e =
    ap (λ (n : ℕ). with_debt [] (debt_with (Some n) kept)) e ∙ with_last [] kept (length kept) ∙ whole_last kept

-- while it reads its writer owes nothing where it doesn't
pub paid_writer : (r : Rebuild) → r.owed ≡ None → debt_of r ≡ Paid → writers.debt_of r.writer ≡ Paid
paid_writer r reading paid = ap (λ (o : Option ℕ). debt_with o (writers.kept_by r.writer)) (sym reading) ∙ paid

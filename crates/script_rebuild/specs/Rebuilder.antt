-- What the action stands for.
use Rattle.std.specs.Prelude.{◌≡◌, ℕ, List, [], ◌∷◌, ◌++◌, length, Option, None, Some, is_some, option_map, Bool, true}
use Rattle.std.specs.Prelude.{false, ◌+◌, ◌≤◌}
use Rattle.script_rebuild.specs.Names.{all_but_last, LineFault, Debt, Paid, owing, with_debt, HasTaken}
use Rattle.script_rebuild.specs.Names.{GREATEST_CAPTURE, OUTLET_ROOM, ACTION_ROOM}
use Rattle.trace_stream.specs.Owed.{last_of}
use Rattle.script_rebuild.specs.Writer as writers
use Rattle.script_rebuild.specs.declared.plan.RebuildPlan.{RebuildPlan}
use Rattle.script_rebuild.specs.declared.plan.ScriptFault.{ScriptFault}
use Rattle.script_rebuild.specs.declared.rebuild.Rebuild.{Rebuild}
use Rattle.script_rebuild.specs.declared.version.Version.TheVariants.{Unknown}
use Rattle.script_rebuild.specs.Versions.{lines_in, version_then}
use Rattle.script_rebuild.specs.Rebuilt.{open_line, port_of, routed_so_far, routed_script, text, ending}
use Rattle.script_rebuild.specs.Rebuilt.{rebuild_meaning}

-- a fault as its line's number and its cause
abbrev pub told : ScriptFault → ℕ × LineFault
told f = (f.line, f.fault)

abbrev pub plan_of : Rebuild → RebuildPlan
plan_of r = r.plan

abbrev pub taken_by : Rebuild → ℕ
taken_by r = r.count

-- it may be fed while it has no fault and the script is not at its end
pub record IsLive (r : Rebuild) : Type 0 where
  pub sound : r.fault ≡ None
  pub reading : r.owed ≡ None

-- What it owes: while it reads, all that is kept, which is given away; after the end so many of the last bytes of what
-- is kept.
abbrev pub debt_with : Option ℕ → List ℕ → Debt
debt_with None kept = owing kept (length kept)
debt_with (Some owed) kept = owing (last_of owed kept) owed

abbrev pub debt_of : Rebuild → Debt
debt_of r = debt_with r.owed (writers.kept_by r.writer)

-- it has given away all that it kept, and may take so many bytes more and put what they say after what is pending
pub record MayTake (r : Rebuild) (bytes : ℕ) (pending : List ℕ) : Type 0 where
  pub live : IsLive r
  pub paid : writers.debt_of r.writer ≡ Paid
  pub count : r.count + bytes ≤ GREATEST_CAPTURE
  pub room : length pending + ACTION_ROOM ≤ OUTLET_ROOM

-- so many bytes more were taken, by the same plan
pub record HasMoved (old new : Rebuild) (bytes : ℕ) : Type 0 where
  pub same : plan_of new ≡ plan_of old
  pub count : taken_by new ≡ taken_by old + bytes

-- how many bytes of the open line it keeps
abbrev pub open_len : Rebuild → ℕ
open_len r = length r.line.items

-- While it reads, it keeps the first fault of these bytes, its writer stands for the lines before it, and while there
-- is none it keeps the open line, counts the lines before, and knows what they tell of the version.
pub record Reads (r : Rebuild) (seen : List ℕ) : Type 0 where
  pub count : r.count ≡ length seen
  pub fault : option_map told r.fault ≡ (routed_so_far r.plan seen).fault
  pub open_bytes : r.fault ≡ None → r.line.items ≡ open_line seen
  pub lines : r.fault ≡ None → r.lines ≡ length (routed_so_far r.plan seen).lines
  pub version : r.fault ≡ None → r.version ≡ version_then Unknown (all_but_last (lines_in seen))
  pub writer : writers.Stands r.writer (port_of r.plan) (routed_so_far r.plan seen).lines

-- After the end it keeps the fault of the script, and all that comes after its text.
pub record HasEnded (r : Rebuild) (seen : List ℕ) : Type 0 where
  pub fault : option_map told r.fault ≡ (routed_script r.plan seen).fault
  pub kept : writers.kept_by r.writer ≡ ending r.plan seen

-- it took these bytes, and reads on, or has ended
pub record Stands (r : Rebuild) (seen : List ℕ) : Type 0 where
  pub reads : r.owed ≡ None → Reads r seen
  pub ended : is_some r.owed ≡ true → HasEnded r seen

-- it took one more byte, and the outlet gained what became sure with it, or it is owed
pub record TakesByte (old new : Rebuild) (seen : List ℕ) (byte : ℕ) (before after : List ℕ) : Type 0 where
  pub reads : Reads new (seen ++ byte ∷ [])
  pub more : List ℕ
  pub gained : with_debt after (debt_of new) ≡ before ++ more
  pub grown : text old.plan (seen ++ byte ∷ []) ≡ text old.plan seen ++ more

-- the first is the second with this text as its open line
pub record IsOpen (mid r : Rebuild) (line : List ℕ) : Type 0 where
  pub plan : mid.plan ≡ r.plan
  pub fault : mid.fault ≡ r.fault
  pub lines : mid.lines ≡ r.lines
  pub version : mid.version ≡ r.version
  pub count : mid.count ≡ r.count
  pub writer : mid.writer ≡ r.writer
  pub line_is : mid.line.items ≡ line

-- it took a front of a piece, and may be fed more where that has no fault
pub record Feeds (old new : Rebuild) (front before after : List ℕ) (is_faulty : Bool) : Type 0 where
  pub same : plan_of new ≡ plan_of old
  pub reading : new.owed ≡ None
  pub live : is_faulty ≡ false → new.fault ≡ None
  pub fed : (seen : List ℕ) → Reads old seen → HasTaken (Reads new) (rebuild_meaning old.plan)
      (record { seen = seen; front = front; before = before; after = with_debt after (debt_of new) }) is_faulty

-- The capture of the exercise reads as its lines give it, and what is left of it has no fault.
use Rattle.std.proofs.Common.{◌≡◌, ℕ, zero, suc, ◌+◌, ◌/◌, ◌%◌, ◌^◌, ◌<◌, ◌≤◌, ◌==◌, List, [], ◌∷◌, take, drop, refl, sym}
use Rattle.std.proofs.Common.{◌∙◌, ap, subst, arith, Bool, true, false, cond, None, Some}
use Rattle.std.proofs.lemmas.List.{take-append-drop}
use Rattle.capture_actions.specs.Summary.{counts_text, summary, summary_by}
use Rattle.capture_exercise.specs.Exercise.{exercise_plan, exercise_lines, exercise_capture, exercise_rest}
use Rattle.capture_exercise.specs.Exercise.{line_of_made, line_at}
use Rattle.capture_exercise.specs.declared.maker.TheConstants.{MOST_ITEMS}
use Rattle.capture_exercise.proofs.Fitting.{line_fits}
use Rattle.capture_exercise.proofs.Making.{lines_more}
use Rattle.capture_exercise.proofs.Saying.{line_said}
use Rattle.itm_grammar.specs.Proper.{IsProper}
use Rattle.itm_grammar.specs.declared.packet.Size.TheVariants.{Four}
use Rattle.itm_grammar.specs.declared.packet.Lateness.TheVariants.{Exact}
use Rattle.itm_grammar.specs.declared.packet.ItmPacket.TheVariants.{Sync, Software, Local}
use Rattle.script_rebuild.specs.Script.{in_order}
use Rattle.script_rebuild.specs.Writer.{CanBePut2 as IsPuttable}
use Rattle.deformatter.specs.PortReading.{port_reading}
use Rattle.script_laws.specs.Puts.{CanAllBePut}
use Rattle.script_laws.specs.ReadBack.{aligned, ReadsAsGiven}
use Rattle.script_laws.proofs.Ported.{port_reads}
use Rattle.script_laws.proofs.Said.{put_more}
use Rattle.resync_laws.proofs.ReportRest.{report_follows}
use Rattle.script_text.specs.declared.version_two.Line2.{Line2}
use Rattle.script_text.specs.VersionTwo.{IsSaid2}
use Rattle.source_events.specs.Plan.{sources_by}
use Rattle.source_events.specs.Report.{stop_in}
use Rattle.source_merge.specs.Answering.{fault_of}
use Rattle.stp_grammar.specs.Proper.{IsProperItem}
use Rattle.stp_grammar.specs.declared.packet.Width.TheVariants.{Sixteen}
use Rattle.stp_grammar.specs.declared.item.Stamp.TheVariants.{Natural}
use Rattle.stp_grammar.specs.declared.item.StpItem.TheVariants.{Async, Version, Datum}
use Rattle.trace_values.specs.Placed.{placed}
use Rattle.trace_vectors.specs.declared.made.Made.{Made}
use Rattle.trace_vectors.specs.declared.made.Made.TheVariants.{Itm, Stp, Raw, Trigger}
use Rattle.trace_vectors.specs.Items.{itm_packet, stp_item, byte_item, item_of, place, IsProperMade}

-- each item has its numbers in their ranges
itm_proper : (s t : Bool) (m : ℕ) → m < 2 ^ 32 → IsProper (cond s Sync (cond t (Software (m % 32) Four m) (Local Exact (m % 1000 + 1))))
itm_proper true t m h = tt
itm_proper false true m h = (omega arith, h)
itm_proper false false m h = omega arith

some_below : (n : ℕ) → n < 2 ^ 16 → (x : ℕ) → Some n ≡ Some x → x < 2 ^ 16
some_below n h x e = let same : n ≡ x = cc in omega arith

stp_proper : (s t : Bool) (m : ℕ) → m < 2 ^ 32 → IsProperItem (cond s Async (cond t (Version 3) (Datum (place m) Sixteen (m % 65536) false (Natural m))))
stp_proper true t m h = tt
stp_proper false true m h = omega arith
stp_proper false false m h = ((some_below (m % 4) (omega arith), some_below (m % 8) (omega arith)), omega arith, omega arith)

byte_proper : (s : Bool) (b : ℕ) → b < 256 → IsProperMade (cond s (Trigger b) (Raw b))
byte_proper true b h = h
byte_proper false b h = h

kind_proper : (a b : Bool) (m : ℕ) → m < 2 ^ 32 → IsProperMade (cond a (Itm (itm_packet m)) (cond b (Stp (stp_item m)) (byte_item m)))
kind_proper true b m h = itm_proper (m % 16 == 0) (m % 2 == 1) m h
kind_proper false true m h = stp_proper (m % 16 == 0) (m % 16 == 1) m h
kind_proper false false m h = byte_proper (m % 16 == 15) (m % 256) (omega arith)

item_proper : (k : ℕ) → k < 2 ^ 32 → IsProperMade (item_of k)
unfolding item_of
item_proper k h = kind_proper (k % 3 == 0) (k % 3 == 1) (k / 3) (omega arith)

-- each line is of its source
made_said : (made : Made) → IsProperMade made → IsPuttable (in_order (2 ∷ [])) (line_of_made made) → IsSaid2 exercise_plan (line_of_made made)
made_said (Itm packet) p h = (h.0, h.1, h.2, refl)
made_said (Stp item) p h = (h.0, h.1, h.2, refl)
made_said (Raw byte) p h = (h.0, h.1, h.2, refl)
made_said (Trigger byte) p h = p

all_put : (items : ℕ) → items ≤ MOST_ITEMS → CanAllBePut exercise_plan [] (exercise_lines items)
all_put zero h = tt
all_put (suc n) h =
    let next : suc n ≡ n + 1 = omega arith in
    let few : n < 2 ^ 32 = omega arith in
    let proper = item_proper n few in
    subst (λ (l : List Line2). CanAllBePut exercise_plan [] l) (sym (ap exercise_lines next ∙ lines_more n))
    (put_more exercise_plan [] (exercise_lines n) (line_at n) (all_put n (omega arith))
    (record { said = made_said (item_of n) proper (line_said n proper); fits = line_fits n }))

pub reads_whole : (items : ℕ) → items ≤ MOST_ITEMS → ReadsAsGiven exercise_plan (exercise_lines items) (placed (exercise_capture items))
unfolding exercise_capture
reads_whole items h = port_reads 64 0 exercise_plan (exercise_lines items) refl (all_put items h) None tt refl

-- what is left of it, by the law on rests
pub rest_sound : (items lost : ℕ) → items ≤ MOST_ITEMS → fault_of exercise_plan (placed (exercise_rest items lost)) ≡ None
rest_sound items lost h =
    let plan = aligned exercise_plan in
    let whole = exercise_capture items in
    (report_follows plan (take lost whole) (drop lost whole)
    (ap (λ (bytes : List ℕ). stop_in (sources_by plan) (port_reading plan.frames (placed bytes))) (take-append-drop lost whole)
    ∙ (reads_whole items h).no_fault)).sound_from_0

pub rest_counted : (items lost : ℕ) → items ≤ MOST_ITEMS →
    summary exercise_plan (exercise_rest items lost) ≡ counts_text exercise_plan (placed (exercise_rest items lost))
rest_counted items lost h =
    let u = placed (exercise_rest items lost) in
    ap (summary_by exercise_plan u) (rest_sound items lost h)

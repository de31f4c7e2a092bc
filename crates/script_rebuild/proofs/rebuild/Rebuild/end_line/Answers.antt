use Rattle.std.proofs.Common.{◌≡◌, ◌≤◌, ◌∙◌, ◌+◌, ℕ, sym, ap, subst, length, arith, Some, Err}
use Rattle.script_rebuild.specs.Names.{paid_room, Paid}
use Rattle.script_rebuild.specs.declared.version.Version.{Version}
use Rattle.script_rebuild.specs.Versions.{version_after}
use Rattle.script_rebuild.specs.Writer as writers
use Rattle.script_rebuild.specs.declared.writer.LineWriter.{LineWriter}
use Rattle.script_rebuild.specs.declared.plan.RebuildPlan.{RebuildPlan}
use Rattle.script_rebuild.specs.PutLine.{PutsLine, says_placed}
use Rattle.script_rebuild.specs.Rebuilt.{port_of, routed_so_far}
use Rattle.script_rebuild.proofs.Rooms.{less_room}
use Rattle.script_rebuild.proofs.RoutedSteps.{fed_routed}
use Rattle.script_rebuild.proofs.Taking.{sound_of, open_few, said_there, refused, line_ended, gained_by, owes_kept}
use Rattle.script_rebuild.proofs.rebuild.Rebuild.end_line.Goals as goal

pub put_line-requires-clause-room : goal.put_line-requires-clause-room
put_line-requires-clause-room c =
    let r = c.args.self.now in
    let w = r.writer.formatter in record {
      count = omega (arith, r.frames c.requires.ready.live.reading, c.requires.ready.count);
      room = less_room w 226 200 (omega arith) (paid_room w c.requires.ready.paid);
    }

pub returns-in-Ok-clause-taken : goal.returns-in-Ok-clause-taken
returns-in-Ok-clause-taken c = λ mid seen is s.
    let text = c.args.text.now in
    let lines = (routed_so_far mid.plan seen).lines in
    let live = is.fault ∙ c.requires.ready.live.sound in
    let few : length mid.line.items ≤ 256 = omega (arith, ap length is.line_is, c.requires.few) in
    let at = subst (λ (w : LineWriter). writers.Stands w (port_of mid.plan) lines) is.writer s.writer in
    let plan = subst (λ (p : RebuildPlan). writers.Stands c.args.self.now.writer (port_of p) lines) is.plan at in
    let put = (c.in-Ok.ensures.puts lines plan).ok in
    let with_plan = subst (λ (p : RebuildPlan). PutsLine p c.args.self.now.version text c.args.self.now.writer c.put_line.new.writer lines) (sym is.plan) put in
    let with_version = subst (λ (v : Version). PutsLine mid.plan v text c.args.self.now.writer c.put_line.new.writer lines) (sym is.version) with_plan in
    let puts = subst (λ (w : LineWriter). PutsLine mid.plan mid.version text w c.put_line.new.writer lines) (sym is.writer) with_version in
    let paid = subst (λ (w : LineWriter). writers.debt_of w ≡ Paid) (sym is.writer) c.requires.ready.paid in
    line_ended mid _ c.put_line.new.writer seen text c.args.outlet.now c.give.new.outlet (sym is.plan) live c.requires.ready.live.sound (ap (λ (n : ℕ). n + 1) (sym is.count)) (ap (λ (n : ℕ). n + 1) (sym is.lines))
    (c.after-self.ensures ∙ ap (λ (v : Version). version_after v text) (sym is.version)) c.clear.ensures few (sym is.line_is) puts
    (λ l h. c.give.ensures.stands (port_of mid.plan) l h)
    (gained_by mid.plan mid.writer c.put_line.new.writer mid.version text c.args.outlet.now _ lines paid puts
    (owes_kept c.args.self.now.owed c.give.new.self c.give.new.outlet c.requires.ready.live.reading ∙ c.give.ensures.poured.put)) s

pub returns-in-Err-clause-taken : goal.returns-in-Err-clause-taken
returns-in-Err-clause-taken c = λ mid seen is s.
    let text = c.args.text.now in
    let fault = c.in-Err.fault in
    let lines = (routed_so_far mid.plan seen).lines in
    let live = is.fault ∙ c.requires.ready.live.sound in
    let few : length mid.line.items ≤ 256 = omega (arith, ap length is.line_is, c.requires.few) in
    let at = subst (λ (w : LineWriter). writers.Stands w (port_of mid.plan) lines) is.writer s.writer in
    let plan = subst (λ (p : RebuildPlan). writers.Stands c.args.self.now.writer (port_of p) lines) is.plan at in
    let said = subst (λ (v : Version). says_placed mid.plan v lines text ≡ Err fault) (sym is.version)
    (subst (λ (p : RebuildPlan). says_placed p c.args.self.now.version lines text ≡ Err fault) (sym is.plan) (c.in-Err.ensures.puts lines plan).err) in
    let paid = subst (λ (w : LineWriter). writers.debt_of w ≡ Paid) (sym is.writer) c.requires.ready.paid in
    refused mid _ seen 10 fault c.args.outlet.now (sym is.plan) live c.requires.ready.live.reading (ap (λ (n : ℕ). Some (record { line = n + 1; fault = fault })) (sym is.lines)) (ap (λ (n : ℕ). n + 1) (sym is.count))
    (c.in-Err.ensures.same ∙ sym is.writer) paid
    (fed_routed mid.plan seen (sound_of mid seen s live) (Err fault) (open_few mid seen 256 s live few)
    (said_there mid seen text (Err fault) s live (sym is.line_is ∙ s.open_bytes live) said)) s

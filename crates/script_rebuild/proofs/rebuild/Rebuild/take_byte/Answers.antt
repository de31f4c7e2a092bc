use Rattle.std.proofs.Common.{◌++◌, ◌∙◌, sym, ap, refl, subst, length}
use Rattle.script_rebuild.specs.Names.{LongLine}
use Rattle.script_rebuild.specs.Rebuilder.{TakesByte}
use Rattle.script_rebuild.proofs.RoutedSteps.{long_routed}
use Rattle.script_rebuild.proofs.Taking.{sound_of, refused}
use Rattle.script_rebuild.proofs.rebuild.Rebuild.take_byte.Goals as goal

pub returns-then-byte-eq10-clause-taken : goal.returns-then-byte-eq10-clause-taken
returns-then-byte-eq10-clause-taken c = λ seen s.
    let line = sym (c.as_slice-then-byte-eq10.ensures.value ∙ c.append.ensures ∙ ap (λ l. l ++ c.as_slice.result.now) c.new-text.ensures ∙ c.as_slice.ensures.value) in
    subst (λ b. TakesByte c.args.self.now c.end_line.new.self seen b c.args.outlet.now c.end_line.new.outlet) (sym c.if-byte-eq10.true)
    (c.end_line.ensures.taken c.args.self.now seen
    (record { plan = refl; fault = refl; lines = refl; version = refl; count = refl; writer = refl; line_is = line }) s)

pub returns-else-byte-eq10-clause-taken : goal.returns-else-byte-eq10-clause-taken
returns-else-byte-eq10-clause-taken c = λ seen s.
    let r = c.args.self.now in
    let live = c.requires.ready.live.sound in
    let other = c.if-byte-eq10.false in
    let long = sym (ap length (s.open_bytes live)) ∙ c.requires.last other in
    refused r _ seen c.args.byte LongLine c.args.outlet.now refl live c.requires.ready.live.reading refl refl refl c.requires.ready.paid
    (long_routed r.plan seen (sound_of r seen s live) c.args.byte long other) s

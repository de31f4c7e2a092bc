use Rattle.std.proofs.Common.{refl, sym, ap, subst, length}
use Rattle.script_rebuild.specs.Rebuilt.{port_of}
use Rattle.script_rebuild.specs.Versions.{Reading}
use Rattle.script_rebuild.specs.Writer as writers
use Rattle.script_rebuild.proofs.Taking.{first_read}
use Rattle.script_rebuild.proofs.rebuild.Rebuild.over.Goals as goal

pub returns-clause-stands : goal.returns-clause-stands
returns-clause-stands c = record {
  reads = λ e.
      let first = first_read c.args.plan in
      record {
        count = refl;
        fault = ap (λ (r : Reading). r.fault) (sym first);
        open_bytes = λ k. c.new.ensures;
        lines = λ k. ap (λ (r : Reading). length r.lines) (sym first);
        version = λ k. refl;
        writer = subst (λ (r : Reading). writers.Stands c.new-writer.result (port_of c.args.plan) r.lines) (sym first)
            (c.new-writer.ensures.fresh (port_of c.args.plan) c.requires.fresh);
      };
  ended = λ h. absurd (let no = h in cc);
}

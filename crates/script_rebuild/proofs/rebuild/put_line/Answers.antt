use Rattle.std.proofs.Common.{◌∙◌, refl, sym, ap, subst, Err, Result}
use Rattle.script_rebuild.specs.Names.{Line2, One, LineFault, answer}
use Rattle.script_text.specs.Lines.{◌>>=◌}
use Rattle.script_rebuild.specs.PutLine.{fits_after}
use Rattle.script_rebuild.specs.Rebuilt.{port_of}
use Rattle.script_rebuild.specs.Routed.{placed}
use Rattle.script_rebuild.specs.Writer.{CanBePut, stp_of}
use Rattle.script_rebuild.proofs.Rooms.{nothing_spent}
use Rattle.script_rebuild.specs.ReadingLaws.{says_fault}
use Rattle.script_rebuild.proofs.Sources.{says_same, puts_said, can_be_put}
use Rattle.script_rebuild.proofs.rebuild.put_line.Goals as goal

pub returns-in-Ok-clause-puts : goal.returns-in-Ok-clause-puts
returns-in-Ok-clause-puts c = λ lines s.
    let p = c.args.plan.now in
    let line = c.read_into.new.said in
    let read = c.read_into.ensures.value ∙ ap (λ (r : Result (Unit {0}) LineFault). answer r line) c.in-Ok.is in
    puts_said p c.args.version c.args.text.now c.args.writer.now _ lines (One line) c.requires.plan
    (says_same p.plan c.args.version lines c.args.text.now line read) c.put.result (c.put.ensures.puts (port_of p) lines s)

pub put-requires-clause-said : goal.put-requires-clause-said
put-requires-clause-said c =
    subst (λ ids. CanBePut ids c.read_into.new.said) (sym c.requires.plan.stp)
    (can_be_put c.args.plan.now.plan c.read_into.new.said c.in-Ok.ensures.said)

pub returns-in_default : goal.returns-in_default
returns-in_default c = record {
  plan = c.requires.plan;
  same = refl;
  puts = λ lines s.
      let p = c.args.plan.now in
      record {
        ok = tt;
        err =
            ap (λ (r : Result Line2 LineFault). r >>= placed p.funnel)
            (says_fault p.plan c.args.version lines c.args.text.now c.in-Err.fault
            (c.read_into.ensures.value ∙ ap (λ (r : Result (Unit {0}) LineFault). answer r c.read_into.new.said) c.in-Err.is)
            c.in_default.not-BadLine);
      };
  spent = nothing_spent c.args.writer.now.formatter 200;
}

pub put2-requires-clause-said : goal.put2-requires-clause-said
put2-requires-clause-said c = c.in_ok-later-in-BadLine.ensures.can (stp_of c.args.writer.now)

pub returns-in_ok-later-in-BadLine-clause-puts : goal.returns-in_ok-later-in-BadLine-clause-puts
returns-in_ok-later-in-BadLine-clause-puts c = λ lines s.
    let p = c.args.plan.now in
    let bad = c.read_into.ensures.value ∙ ap (λ (r : Result (Unit {0}) LineFault). answer r c.read_into.new.said) c.in-Err.is ∙ ap Err c.in-BadLine.is in
    let same = c.read_later.ensures.said p.plan lines bad ∙ ap (fits_after lines) c.in_ok-later-in-BadLine.was in
    puts_said p c.args.version c.args.text.now c.args.writer.now _ lines c.in_ok-later-in-BadLine.later c.requires.plan
    same c.put2.result (c.put2.ensures.puts (port_of p) lines s)

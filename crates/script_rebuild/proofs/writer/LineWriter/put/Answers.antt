use Rattle.std.proofs.Common.{refl, subst}
use Rattle.script_rebuild.specs.Script.{given_puts}
use Rattle.script_rebuild.specs.Writer.{CanBePut, stp_of}
use Rattle.script_rebuild.proofs.Standing.{are_ready, nothing_line, item_line}
use Rattle.script_rebuild.proofs.EachEncoder.{named_still}
use Rattle.script_rebuild.proofs.Rooms.{nothing_spent}
use Rattle.script_rebuild.proofs.writer.LineWriter.put.Goals as goal

pub returns-in-Nothing-clause-spent : goal.returns-in-Nothing-clause-spent
returns-in-Nothing-clause-spent c = nothing_spent c.args.self.now.formatter 200

pub returns-in-Nothing-clause-puts : goal.returns-in-Nothing-clause-puts
returns-in-Nothing-clause-puts c = λ port lines s. nothing_line c.args.self.now port lines s c.args.line.now c.in-Nothing.is

pub returns-in-Of-clause-puts : goal.returns-in-Of-clause-puts
returns-in-Of-clause-puts c = λ port lines s.
    let w = c.args.self.now in
    let id = c.in-Of.id in
    let item = c.in-Of.item in
    let source = (subst (CanBePut (stp_of w)) c.in-Of.is c.requires.said).3 in
    item_line w port lines s _ c.args.line.now id item c.put_item.result c.in-Of.is refl c.put_item.ensures.ids
    c.put_item.ensures.spent.turns
    (c.put_item.ensures.puts w.order (λ x. given_puts x lines) (are_ready w port lines id item source s))

pub invariant_of-self : goal.invariant_of-self
invariant_of-self c = record {
  named = named_still c.args.self.now.encoders.items c.put_item.new.encoders.items c.put_item.ensures.ids c.args.self.now.named;
}

use Rattle.std.proofs.Common.{sym, ap, arith, ◌∙◌}
use Rattle.std.proofs.Common.{◌≡◌, Some}
use Rattle.stp_codec.specs.Names.{Go, End, Fail, Partial, rule}
use Rattle.stp_codec.specs.declared.cut.Cut.TheVariants.{Inside}
use Rattle.stp_grammar.proofs.Counting.{counts}
use Rattle.stp_codec.specs.Wholes.{nibbles_in, state_of}
use Rattle.stp_codec.proofs.Between.{length-nibbles}
use Rattle.stp_codec.proofs.Cutting.{nibble_leads, all_leads}
use Rattle.stp_codec.proofs.Unread.{next_goes}
use Rattle.stp_codec.proofs.cut.cut_packet.Goals as goal

pub loop-index-preserved : goal.loop-index-preserved
loop-index-preserved c =
    let a = c.args in
    let l = length-nibbles a.bytes.now in
    let t = c.loop-index-test.true in
    let i = c.loop-index.invariant in
    record {
      sound = c.in-Go.ensures.sound;
      count = (let k = counts a.order c.loop-index.partial c.in-Go.more c.nibble_of.result (sym c.in-Go.ensures.next) in let m = i.count in omega (arith, k, m));
      leads = nibble_leads a.order a.unfinished (nibbles_in a.bytes.now) c.loop-index.partial c.loop-index.index c.nibble_of.result (Go c.in-Go.more) (omega (arith, t, l))
          c.nibble_of.ensures.value (sym c.in-Go.ensures.next) i.leads;
    }

pub returns-in-End-clause-cuts : goal.returns-in-End-clause-cuts
returns-in-End-clause-cuts c =
    let a = c.args in
    let l = length-nibbles a.bytes.now in
    let t = c.loop-index-test.true in (
      omega arith,
      omega (arith, t),
      nibble_leads a.order a.unfinished (nibbles_in a.bytes.now) c.loop-index.partial c.loop-index.index c.nibble_of.result (End c.in-End.packet) (omega (arith, t, l))
          c.nibble_of.ensures.value (sym c.in-End.ensures.next) c.loop-index.invariant.leads,
    )

pub returns-clause-cuts : goal.returns-clause-cuts
returns-clause-cuts c =
    let a = c.args in
    all_leads a.order a.unfinished a.bytes.now c.loop-index.index (Go c.loop-index.partial) (let t = c.loop-index-test.false in omega (arith, t)) c.loop-index.invariant.leads

-- a nibble that ends the packet or is a fault is not within it
pub returns-in-End-clause-fronts : goal.returns-in-End-clause-fronts
returns-in-End-clause-fronts c = λ f.
    let a = c.args in
    let l = length-nibbles a.bytes.now in
    let t = c.loop-index-test.true in
    let g = next_goes a.order a.unfinished c.loop-index.partial (nibbles_in a.bytes.now) c.loop-index.index (omega (arith, t, l)) f c.loop-index.invariant.leads in
    let e : End c.in-End.packet ≡ Go g.0 = c.in-End.ensures.next ∙ ap (rule a.order c.loop-index.partial) c.nibble_of.ensures.value ∙ g.1 in
    cc

pub returns-in-Fail-clause-fronts : goal.returns-in-Fail-clause-fronts
returns-in-Fail-clause-fronts c = λ f.
    let a = c.args in
    let l = length-nibbles a.bytes.now in
    let t = c.loop-index-test.true in
    let g = next_goes a.order a.unfinished c.loop-index.partial (nibbles_in a.bytes.now) c.loop-index.index (omega (arith, t, l)) f c.loop-index.invariant.leads in
    let e : Fail c.in-Fail.field-0 ≡ Go g.0 = c.in-Fail.ensures.next ∙ ap (rule a.order c.loop-index.partial) c.nibble_of.ensures.value ∙ g.1 in
    cc

pub returns-clause-fronts : goal.returns-clause-fronts
returns-clause-fronts c = λ f.
    let a = c.args in
    let e = all_leads a.order a.unfinished a.bytes.now c.loop-index.index (Go c.loop-index.partial) (let t = c.loop-index-test.false in omega (arith, t)) c.loop-index.invariant.leads in
    ap (λ (p : Partial). Some (Inside p)) (sym (ap (λ x. state_of x) e))

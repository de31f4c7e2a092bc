use Rattle.std.proofs.Common.{◌≡◌, ◌*◌, ℕ, length, ◌∙◌, sym, ap, subst, arith}
use Rattle.std.specs.List.{All}
use Rattle.port_formatter.specs.Names.{State, fresh, load, Turns}
use Rattle.trace_funnel.proofs.Loading.{empty_load}
use Rattle.trace_funnel.proofs.Naming.{IsNamed, empty_named}
use Rattle.port_formatter.proofs.funnelled.FunnelledFrames.new.Goals as goal

-- a funnel in which nothing is
module _ (f : State) (t : Turns) (is : f ≡ fresh t.order t.hold t.depth) where
  none : load f.places ≡ 0
  none = ap (λ (s : State). load s.places) is ∙ empty_load t.order

  space : (places : ℕ) → places ≡ length t.order → length f.order * f.depth ≡ places * t.depth
  space places e =
      ap (λ (s : State). length s.order * s.depth) is ∙ ap (λ n. n * t.depth) (sym e)

pub invariant_of-result : goal.invariant_of-result
invariant_of-result c =
    let t = c.args.turns.now in
    let f = c.in_ok-funnel.funnel in
    let is : f ≡ fresh t.order t.hold t.depth =
    c.in_ok-funnel.ensures ∙ ap (λ ids. fresh ids t.hold t.depth) c.as_array.ensures.value in
    let empty = none f t is in
    let places = space f t is (length c.as_slice.result.now) (ap length c.as_slice.ensures.value) in
    let hold = ap (λ (s : State). s.hold) is in
    record {
      some = (let some = c.requires.sound.2 in omega (arith, hold, some));
      sources = subst (λ (s : State). All IsNamed s.places) (sym is) (empty_named t.order c.requires.sound.1);
      few = omega (arith, empty);
      room = (let most = c.most_kept-capacity.ensures in let cap = c.in_ok-ring.ensures.capacity in
          omega (arith, most, cap, places));
    }

pub returns-clause-count : goal.returns-clause-count
returns-clause-count c =
    let t = c.args.turns.now in
    let f = c.in_ok-funnel.funnel in
    let is : f ≡ fresh t.order t.hold t.depth =
    c.in_ok-funnel.ensures ∙ ap (λ ids. fresh ids t.hold t.depth) c.as_array.ensures.value in
    let empty = none f t is in
    let frames = c.in_ok-ring.ensures.count in
    omega (arith, empty, frames)

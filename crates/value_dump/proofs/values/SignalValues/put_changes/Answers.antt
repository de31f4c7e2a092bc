use Rattle.std.proofs.Common.{◌≡◌, ◌∙◌, ◌+◌, ◌++◌, ap, List, ℕ, arith, length, length-append, sym, append-nil}
use Rattle.value_dump.specs.Dump.{changes, changes_of, known}
use Rattle.value_dump.specs.Lines.{are_some, timed}
use Rattle.value_dump.proofs.Changes.{quiet_between}
use Rattle.value_dump.proofs.Timed.{all_lines, held_more, put_more, room_more, short_timed}
use Rattle.value_dump.proofs.values.SignalValues.put_changes.Goals as goal

pub put_change-is_timed-requires-clause-room : goal.put_change-is_timed-requires-clause-room
put_change-is_timed-requires-clause-room c =
    let s = c.args.self.now in
    let l = c.loop-number in
    let h =
    room_more l.number c.args.time (known s.stamped) (known s.latest) c.args.outlet.now l.outlet l.is_timed
    l.invariant.0 l.invariant.1 c.ranges.time.fits c.loop-number-test.true in
    omega (arith, h, s.covered, c.requires.room)

pub loop-number-init : goal.loop-number-init
loop-number-init c =
    let s = c.args.self.now in
    let next = c.next_told-number in
    let none : changes_of next.result (known s.stamped) (known s.latest)
    ≡ changes_of 0 (known s.stamped) (known s.latest) =
    quiet_between 0 next.result (known s.stamped) (known s.latest) next.ensures.within.0 next.ensures.quiet in (
      sym (append-nil c.args.outlet.now)
          ∙ ap (λ (lines : List ℕ). c.args.outlet.now ++ timed c.args.time lines) (sym none),
      ap are_some (sym none),
      next.ensures.within.1,
    )

pub loop-number-preserved : goal.loop-number-preserved
loop-number-preserved c =
    let s = c.args.self.now in
    let l = c.loop-number in
    let put = c.put_change-is_timed.ensures in
    let next = c.next_told-after in
    let none : changes_of next.result (known s.stamped) (known s.latest)
    ≡ changes_of (l.number + 1) (known s.stamped) (known s.latest) =
    quiet_between (l.number + 1) next.result (known s.stamped) (known s.latest) next.ensures.within.0
    next.ensures.quiet in (
      put.text
          ∙ held_more l.number c.args.time (known s.stamped) (known s.latest) c.args.outlet.now l.outlet l.is_timed
          l.invariant.0 l.invariant.1
          ∙ ap (λ (lines : List ℕ). c.args.outlet.now ++ timed c.args.time lines) (sym none),
      put.timed
          ∙ put_more l.number c.args.time (known s.stamped) (known s.latest) c.args.outlet.now l.outlet l.is_timed
          l.invariant.0 l.invariant.1
          ∙ ap are_some (sym none),
      next.ensures.within.1,
    )

pub returns-clause-text : goal.returns-clause-text
returns-clause-text c =
    let s = c.args.self.now in
    let l = c.loop-number in
    l.invariant.0
    ∙ ap (λ (lines : List ℕ). c.args.outlet.now ++ timed c.args.time lines)
    (all_lines l.number (known s.stamped) (known s.latest)
    (let a = l.invariant.2 in let b = c.loop-number-test.false in omega (arith, a, b)))

pub returns-clause-bound : goal.returns-clause-bound
returns-clause-bound c =
    let s = c.args.self.now in
    let e = ap (λ (held : List ℕ). length held) (returns-clause-text c) in
    let lines = changes (known s.stamped) (known s.latest) in
    let f = length-append c.args.outlet.now (timed c.args.time lines) in
    let g = short_timed c.args.time c.ranges.time.fits lines in
    omega (arith, e, f, g, s.covered)

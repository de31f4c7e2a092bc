use Rattle.std.proofs.Common.{◌≡◌, ◌++◌, ◌∙◌, List, ℕ, drop, sym, ap}
use Rattle.std.proofs.lemmas.List.{take-append-drop}
use Rattle.capture_actions.proofs.Pushing.{nothing_pushed, more_pushed, all_pushed}
use Rattle.capture_actions.proofs.realign.push_all.Goals as goal

pub loop-word-init : goal.loop-word-init
loop-word-init c = nothing_pushed c.args.slip.now c.args.bytes.now c.args.outlet.now

pub loop-word-preserved : goal.loop-word-preserved
loop-word-preserved c =
    let v = c.loop-word in
    let word = c.in-Some.word.now in
    let later = c.in-Some.later.now in
    let e = c.in-Some.ensures.cases in
    let parts : v.rest.now ≡ word ++ later = sym (take-append-drop 8 v.rest.now) ∙ ap (λ (l : List ℕ). l ++ drop 8 v.rest.now) (sym e.0) ∙ ap (λ (l : List ℕ). word ++ l) (sym e.1) in
    more_pushed c.args.slip.now v.slip c.push_word.new.slip c.args.bytes.now v.rest.now word later c.args.outlet.now v.outlet c.push_word.new.outlet parts v.invariant c.push_word.ensures

pub returns : goal.returns
returns c =
    let v = c.loop-word in
    all_pushed c.args.slip.now v.slip c.push_bytes.new.slip c.args.bytes.now v.rest.now c.args.outlet.now v.outlet c.push_bytes.new.outlet v.invariant c.push_bytes.ensures

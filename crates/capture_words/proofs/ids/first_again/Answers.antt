use Rattle.std.proofs.Common.{◌≡◌, ◌+◌, ◌++◌, ◌∷◌, [], ℕ, List, true, false, sym, ap, ◌∙◌, take, drop}
use Rattle.std.proofs.lemmas.List.{take_more}
use Rattle.capture_words.specs.Jobs.{again_after}
use Rattle.capture_words.proofs.Again.{next_again}
use Rattle.capture_words.proofs.ids.first_again.Goals as goal

pub returns-then-contains : goal.returns-then-contains
returns-then-contains c =
    let place = c.loop-place.place in
    let among = sym c.if-contains.true ∙ c.contains.ensures.value in
    sym (c.loop-place.invariant
    ∙ next_again (take place c.args.ids.now) c.args.ids.now place c.index-ids-place.result c.loop-place-test.true
    c.index-ids-place.is true among)

pub loop-place-preserved : goal.loop-place-preserved
loop-place-preserved c =
    let ids = c.args.ids.now in
    let place = c.loop-place.place in
    let x = c.index-ids-place.result in
    let lt = c.loop-place-test.true in
    let among = sym c.if-contains.false ∙ c.contains.ensures.value in
    let more : take place ids ++ x ∷ [] ≡ take (place + 1) ids =
    ap (λ (y : ℕ). take place ids ++ y ∷ []) c.index-ids-place.is ∙ sym (take_more ids place x lt) in
    c.loop-place.invariant ∙ next_again (take place ids) ids place x lt c.index-ids-place.is false among
    ∙ ap (λ (before : List ℕ). again_after before (drop (place + 1) ids)) more

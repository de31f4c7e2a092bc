use Rattle.std.proofs.Common.{rules, ◌≡◌, ◌<◌, ◌+◌, ◌∷◌, [], length, Some, None, refl, sym, ◌∙◌, ap, subst, arith, lit<}
use Rattle.std.proofs.Common.{option_map}
use Rattle.std.proofs.lemmas.Iterator.Consumers.{YieldsList-turn, YieldsList-end}
use Rattle.std.proofs.lemmas.Iterator.Splits.{YieldsList-from_str_split}
use Rattle.std.proofs.lemmas.List.{length_push}
use Rattle.capture_words.proofs.CommaLists.{Reads, IsPart, from_first, reads_next, found_all, found_none, found_many}
use Rattle.capture_words.proofs.list.list_named.Goals as goal

pub returns-in_err-item_named : goal.returns-in_err-item_named
returns-in_err-item_named g c =
    let split = c.split-parts.ensures in
    let named = g.L.Listed.named in
    let all = YieldsList-from_str_split 44 c.args.text.now (lit< tt) split.text split.has_more split.pattern in
    let first = c.in_ok-next.field-0 in
    let at = YieldsList-turn all [] _ refl _ _ first c.in_ok-next.was c.next.ensures.steps in
    let none : named first.now ≡ None = search rules in
    ap (option_map g.L.Listed.items) c.from_residual-in_err-item_named.ensures
    ∙ sym (found_none named g.L.Listed.MOST c.args.text.now first.now 0 at none)

pub loop-part-init : goal.loop-part-init
loop-part-init g c =
    let split = c.split-parts.ensures in
    let named = g.L.Listed.named in
    let all = YieldsList-from_str_split 44 c.args.text.now (lit< tt) split.text split.has_more split.pattern in
    let first = c.in_ok-next.field-0 in
    let at = YieldsList-turn all [] _ refl _ _ first c.in_ok-next.was c.next.ensures.steps in
    let x = c.in_ok-item_named.field-0 in
    let is : named first.now ≡ Some x = search rules in
    let on = reads_next named c.args.text.now first.now 0 [] x refl at is in
    let one : length (g.L.Listed.items c.of-list.result) ≡ 1 = ap length c.of-list.ensures in
    let room = g.met.L.Listed.has_room in (
      subst (λ xs. Reads named c.args.text.now 1 xs) (sym c.of-list.ensures) on,
      omega (arith, one, room),
    )

pub returns-then-count-MOST : goal.returns-then-count-MOST
returns-then-count-MOST g c =
    let split = c.split-parts.ensures in
    let all = YieldsList-from_str_split 44 c.args.text.now (lit< tt) split.text split.has_more split.pattern in
    let first = c.in_ok-next.field-0 in
    let yielded = c.loop-part.yielded in
    let by =
    from_first all _ _ _ _ first yielded c.in_ok-next.was c.next.ensures.steps
    c.into_iter-part-iterator.ensures.into_iter_gives c.loop-part.yielded_by in
    let part = c.in-Some.part in
    let at = YieldsList-turn all (first ∷ yielded) _ by _ _ part c.in-Some.is c.next-in-loop-part.ensures.steps in
    let items = g.L.Listed.items c.loop-part.list in
    let full : length items ≡ g.L.Listed.MOST = search rules in
    sym
    (found_many g.L.Listed.named g.L.Listed.MOST c.args.text.now (length yielded + 1) items c.loop-part.invariant.0
    (omega (arith, at.0)) full)

pub returns-in_err-item_named-2 : goal.returns-in_err-item_named-2
returns-in_err-item_named-2 g c =
    let split = c.split-parts.ensures in
    let named = g.L.Listed.named in
    let all = YieldsList-from_str_split 44 c.args.text.now (lit< tt) split.text split.has_more split.pattern in
    let first = c.in_ok-next.field-0 in
    let part = c.in-Some.part in
    let yielded = c.loop-part.yielded in
    let by =
    from_first all _ _ _ _ first yielded c.in_ok-next.was c.next.ensures.steps
    c.into_iter-part-iterator.ensures.into_iter_gives c.loop-part.yielded_by in
    let at = YieldsList-turn all (first ∷ yielded) _ by _ _ part c.in-Some.is c.next-in-loop-part.ensures.steps in
    let none : named part.now ≡ None = search rules in
    ap (option_map g.L.Listed.items) c.from_residual-in_err-item_named-2.ensures
    ∙ sym (found_none named g.L.Listed.MOST c.args.text.now part.now (length (first ∷ yielded)) at none)

pub loop-part-preserved : goal.loop-part-preserved
loop-part-preserved g c =
    let split = c.split-parts.ensures in
    let text = c.args.text.now in
    let named = g.L.Listed.named in
    let all = YieldsList-from_str_split 44 text (lit< tt) split.text split.has_more split.pattern in
    let first = c.in_ok-next.field-0 in
    let part = c.in-Some.part in
    let yielded = c.loop-part.yielded in
    let by =
    from_first all _ _ _ _ first yielded c.in_ok-next.was c.next.ensures.steps
    c.into_iter-part-iterator.ensures.into_iter_gives c.loop-part.yielded_by in
    let turn = YieldsList-turn all (first ∷ yielded) _ by _ _ part c.in-Some.is c.next-in-loop-part.ensures.steps in
    let place : length (first ∷ yielded) ≡ length yielded + 1 = omega arith in
    let at = subst (λ i. IsPart text i part.now) place turn in
    let x = c.in_ok-item_named-2.field-0 in
    let is : named part.now ≡ Some x = search rules in
    let items = g.L.Listed.items c.loop-part.list in
    let on = reads_next named text part.now (length yielded + 1) items x c.loop-part.invariant.0 at is in
    let room : length items < g.L.Listed.MOST = search rules in
    let count = ap length c.add.ensures ∙ length_push items x in (
      subst (λ n. Reads named text (n + 1) (g.L.Listed.items c.add.new.self)) (sym (length_push yielded part))
          (subst (λ xs. Reads named text (length yielded + 1 + 1) xs) (sym c.add.ensures) on),
      omega (arith, room, count),
    )

pub returns : goal.returns
returns g c =
    let split = c.split-parts.ensures in
    let all = YieldsList-from_str_split 44 c.args.text.now (lit< tt) split.text split.has_more split.pattern in
    let first = c.in_ok-next.field-0 in
    let yielded = c.loop-part.yielded in
    let by =
    from_first all _ _ _ _ first yielded c.in_ok-next.was c.next.ensures.steps
    c.into_iter-part-iterator.ensures.into_iter_gives c.loop-part.yielded_by in
    let end = YieldsList-end all (first ∷ yielded) _ by _ _ c.in-None.is c.next-in-loop-part.ensures.steps in
    sym
    (found_all g.L.Listed.named g.L.Listed.MOST c.args.text.now (length yielded + 1)
    (g.L.Listed.items c.loop-part.list) c.loop-part.invariant.0 (omega (arith, end.1)) c.loop-part.invariant.1)

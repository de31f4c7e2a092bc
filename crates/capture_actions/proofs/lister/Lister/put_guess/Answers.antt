use Rattle.std.proofs.Common.{Bool, ◌++◌, [], ◌∙◌, ap, sym, cond, append-nil, refl}
use Rattle.trace_text.specs.LineText.{doubted}
use Rattle.capture_actions.specs.Names.{Plan, Remark, event_line}
use Rattle.capture_actions.specs.Faulty.{is_stp}
use Rattle.capture_actions.specs.Filter.{plan_by}
use Rattle.capture_actions.specs.Listing.{itm_packets, remark_of}
use Rattle.capture_actions.proofs.lister.Lister.put_guess.Goals as goal

pub returns-then-lists_guess-clause-line : goal.returns-then-lists_guess-clause-line
returns-then-lists_guess-clause-line c = λ clocked seen h f.
    let old = c.args.self.now in
    let e = c.args.event.now in
    let at = c.args.outlet.now in
    let p = plan_by old.plan old.filter in
    let remark = remark_of (itm_packets e.source clocked) e.what in
    let line = doubted (event_line (is_stp p.plan e.source) e remark) in
    c.print_guess.ensures.line
    ∙ ap (λ (s : Bool). at ++ doubted (event_line s e c.remark-remark.result))
    (c.sends_stp-stp.ensures ∙ ap (λ (q : Plan). is_stp q e.source) c.plan.ensures)
    ∙ ap (λ (r : Remark). at ++ doubted (event_line (is_stp p.plan e.source) e r)) (c.remark-remark.ensures.remark clocked h)
    ∙ ap (λ (b : Bool). at ++ cond b line []) (sym c.if-lists_guess.true ∙ c.lists_guess.ensures seen f)

pub returns-else-lists_guess-clause-line : goal.returns-else-lists_guess-clause-line
returns-else-lists_guess-clause-line c = λ clocked seen h f.
    let e = c.args.event.now in
    let at = c.args.outlet.now in
    let p = plan_by c.args.self.now.plan c.args.self.now.filter in
    let line = doubted (event_line (is_stp p.plan e.source) e (remark_of (itm_packets e.source clocked) e.what)) in
    sym (append-nil at) ∙ ap (λ (b : Bool). at ++ cond b line []) (sym c.if-lists_guess.false ∙ c.lists_guess.ensures seen f)

pub returns-then-lists_guess-clause-own : goal.returns-then-lists_guess-clause-own
returns-then-lists_guess-clause-own c = refl

pub returns-then-lists_guess-clause-clocks : goal.returns-then-lists_guess-clause-clocks
returns-then-lists_guess-clause-clocks c = λ es h. c.remark-remark.ensures.stand es h

pub returns-else-lists_guess-clause-own : goal.returns-else-lists_guess-clause-own
returns-else-lists_guess-clause-own c = refl

pub returns-else-lists_guess-clause-clocks : goal.returns-else-lists_guess-clause-clocks
returns-else-lists_guess-clause-clocks c = λ es h. c.remark-remark.ensures.stand es h

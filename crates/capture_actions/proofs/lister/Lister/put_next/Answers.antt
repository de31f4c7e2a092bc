use Rattle.std.proofs.Common.{◌≡◌, ℕ, List, ◌++◌, [], ◌∙◌, ap, sym, subst, refl, cond, append-nil}
use Rattle.capture_actions.specs.Names.{Plan, Remark, event_line}
use Rattle.capture_actions.specs.Faulty.{is_stp}
use Rattle.capture_actions.specs.Filter.{plan_by}
use Rattle.capture_actions.specs.Listing.{is_listed, line_by}
use Rattle.capture_actions.proofs.lister.Lister.put_next.Goals as goal

pub returns-clause-gets : goal.returns-clause-gets
returns-clause-gets c =
    let old = c.args.self.now in
    let e = c.args.event.now in
    let at = c.args.outlet.now in
    let p = plan_by old.plan old.filter in
    record {
      kept = refl;
      asked = subst (λ (q : Plan). plan_by q c.put_event.new.filter ≡ plan_by q old.filter) c.plan.ensures
          c.put_event.ensures.same;
      clocks = c.remark-remark.ensures.stand;
      seen = c.put_event.ensures.seen;
      text = λ clocked seen h f.
          subst (λ (q : Plan). c.put_event.new.outlet ≡ at ++ cond
          (is_listed old.filter.only (plan_by q old.filter).window seen e)
          (event_line (is_stp q e.source) e c.remark-remark.result) []) c.plan.ensures
          (c.put_event.ensures.text seen f)
          ∙ ap (λ (r : Remark). at ++ cond (is_listed p.only p.window seen e)
          (event_line (is_stp p.plan e.source) e r) []) (c.remark-remark.ensures.remark clocked h)
          ∙ ap (λ (l : List ℕ). at ++ l) (sym (append-nil (line_by p clocked seen e)));
    }

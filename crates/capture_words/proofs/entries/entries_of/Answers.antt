use Rattle.std.proofs.Common.{ap, map, ◌∙◌}
use Rattle.std.proofs.lemmas.Result.{IfOk-weaker}
use Rattle.clap.specs.Words.{is_simple, matches_of, fault_of, is_simple_and_free}
use Rattle.clap.proofs.FaultLemmas.{fails_as}
use Rattle.capture_words.proofs.Shapes.{trace_app_is_simple, trace_app_is_free}
use Rattle.capture_words.proofs.entries.entries_of.Goals as goal

pub returns-clause-kinds : goal.returns-clause-kinds
returns-clause-kinds c =
    let app = c.in_ok-command.ensures in
    fails_as _ _ _ (ap (λ a. fault_of a (map (λ s. s.now) c.args.words.now)) app)
    (c.try_get_matches_from.ensures.kinds (ap is_simple_and_free app ∙ trace_app_is_free))

pub returns-clause-rows : goal.returns-clause-rows
returns-clause-rows c =
    let app = c.in_ok-command.ensures in
    let simple = ap is_simple app ∙ trace_app_is_simple in
    IfOk-weaker c.try_get_matches_from.result _ _
    (λ m h. (h simple).0 ∙ ap (λ a. matches_of a (map (λ s. s.now) c.args.words.now)) app)
    c.try_get_matches_from.ensures.matches

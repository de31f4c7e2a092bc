-- The report of parts in order is the one list that is sorted by place and whose parts are what the port says and what
-- each source says.
use Rattle.std.proofs.Common.{◌≡◌, ℕ, List, [], refl, sym, Option, None, Some, Bool}
use Rattle.trace_values.specs.Placed.{Place}
use Rattle.source_events.specs.declared.event.Event.{Event}
use Rattle.source_events.specs.declared.event.What.{What}
use Rattle.source_events.specs.declared.packet.Packet.{Packet}
use Rattle.source_events.specs.declared.plan.Plan.{Plan}
use Rattle.source_events.specs.Merge.{InOrder, IsMerged}
use Rattle.source_events.proofs.Merges.{is_merged, merged_as, only_merged, with_first}
use Rattle.stretch_readings.specs.declared.heard.Heard.{Heard}
use Rattle.recovery_report.specs.Report.{Part, report_from, said_by, whose}
use Rattle.recovery_report.specs.Placing.{PartLies, part_end}
use Rattle.recovery_report.proofs.Nearing.{AllBelow, first_below}
use Rattle.recovery_report.proofs.Placing.{end_later}
use Rattle.recovery_laws.proofs.Adding.{adds, goes_on, none_first}

module _ (guesses : Bool) (plan : Plan) (ms : List Part) (n : ℕ) (r : InOrder PartLies part_end n ms) where
  abbrev said : Option ℕ → List (What (Heard Packet) × Place)
  said x = said_by guesses plan x ms

  -- the port says nothing before all parts
  same : (x : Option ℕ) → with_first [] said x ≡ said x
  same None = refl
  same (Some x) = refl

  pub ordered : IsMerged said (report_from guesses plan [] ms)
  ordered =
      merged_as (with_first [] said) said same (report_from guesses plan [] ms)
      (is_merged (AllBelow plan) PartLies part_end end_later whose (said_by guesses plan) (adds guesses plan)
      (goes_on plan) (none_first guesses plan) [] n tt ms (first_below plan n) r)

  pub only : (es : List (Event (Heard Packet))) → IsMerged said es → es ≡ report_from guesses plan [] ms
  only es i =
      only_merged (AllBelow plan) PartLies part_end end_later whose (said_by guesses plan) (adds guesses plan)
      (goes_on plan) (none_first guesses plan) [] n tt ms (first_below plan n) r es
      (merged_as said (with_first [] said) (λ x. sym (same x)) es i)

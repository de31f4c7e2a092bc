-- How what is written of a recovering report grows with the bytes.
use Rattle.std.proofs.Common.{◌≡◌, ℕ, List, [], ◌++◌, refl, sym, ap, ◌∙◌, append-nil}
use Rattle.trace_values.specs.Placed.{placed}
use Rattle.trace_stream.specs.Served.{IsLawful}
use Rattle.recovery_report.specs.Report.{report_with}
use Rattle.recovery_engine.proofs.Growing.{nothing_first, report_grows}
use Rattle.capture_actions.specs.declared.list_plan.ListPlan.{ListPlan}
use Rattle.recovery_listing.specs.Account.{GoesOn, Pages}
use Rattle.recovery_listing.specs.LineLaws.{near_append}
use Rattle.recovery_listing.specs.Near.{listing_meaning, near_lines_after}
use Rattle.recovery_listing.specs.declared.going_on.GoingOn.{GoingOn}
use Rattle.recovery_listing.specs.Summary.{at_end}

pub listing_lawful : (p : GoingOn ListPlan) → IsLawful (listing_meaning p)
listing_lawful p =
    let plan = p.plan in
    record {
      never_at_first = λ h. h;
      nothing_at_first = ap (near_lines_after plan []) (nothing_first p.guesses plan.plan);
      faulty_stays = λ xs ys h. h;
      text_stays = λ xs ys h. absurd h;
      ending_stays = λ xs ys h. absurd h;
      text_grows = λ xs ys.
          let more = report_grows p.guesses plan.plan xs ys in
          let said = report_with p.guesses plan.plan (placed xs) in (
            near_lines_after plan said more.0,
            ap (near_lines_after plan []) more.1 ∙ near_append plan [] said more.0,
          );
    }

-- what writes nothing before the end
pub end_lawful : (ending : List ℕ → List ℕ) → IsLawful (at_end ending)
end_lawful ending = record {
  never_at_first = λ h. h;
  nothing_at_first = refl;
  faulty_stays = λ xs ys h. h;
  text_stays = λ xs ys h. refl;
  ending_stays = λ xs ys h. absurd h;
  text_grows = λ xs ys. ([], refl);
}

pub end_goes_on : (stands : List ℕ → Type 0) (ending : List ℕ → List ℕ) (seen front : List ℕ) (old new : Pages) →
    new ≡ old → stands (seen ++ front) →
    GoesOn stands (at_end ending) (λ bytes. []) seen front old new
end_goes_on stands ending seen front old new same read = record {
  read = read;
  more = [];
  grown = refl;
  gained = ap (λ (pages : Pages). pages.text) same ∙ sym (append-nil old.text);
  told = [];
  noted = refl;
  noting = ap (λ (pages : Pages). pages.notes) same ∙ sym (append-nil old.notes);
}

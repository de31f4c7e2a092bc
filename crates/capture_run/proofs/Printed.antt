-- How the writing of a text ends that needs no input.
use Rattle.std.proofs.Common.{◌≡◌, ℕ, List, refl}
use Rattle.std.proofs.KnownBytes.{Appends-nil}
use Rattle.std.specs.Io.KnownBytes.{Appends}
use Rattle.std.specs.Prelude.{[], codes}
use Rattle.std.specs.declared.option.Option.{Option}
use Rattle.trace_io.specs.Bytes.{AppendsPrefix}
use Rattle.trace_stream.specs.Told.{Notes}
use Rattle.capture_run.specs.Pages.{page_text, help_lines}
use Rattle.capture_run.specs.Run.{HasMade, streams}
use Rattle.capture_run.specs.declared.pages.TheConstants.{HELP}
use Rattle.capture_run.specs.declared.status.Status.TheVariants.{Done, WriteFault}
use Rattle.capture_words.specs.declared.page.Page.TheVariants.{Help}
use Rattle.capture_run.proofs.Running.{keeps}

-- the screen in the code is the one that is defined
pub help_is : HELP.now ≡ page_text Help
unfolding help_lines
help_is = refl

module _ (text : List ℕ) (left held held_new noted : Option (List ℕ)) (faults : ℕ) where
  pub made_whole : Appends held held_new text →
      HasMade text (streams left held noted faults) (streams left held_new noted faults) Done
  made_whole gained = record {
    out = text;
    note = [];
    lost = keeps left;
    gained = gained;
    noted = λ sound. Appends-nil noted;
    makes = (refl, refl);
  }

  pub made_front : (noted_new : Option (List ℕ)) (faults_new : ℕ) → AppendsPrefix held held_new text →
      Notes noted noted_new faults faults_new (codes "write fault\n") →
      HasMade text (streams left held noted faults) (streams left held_new noted_new faults_new) WriteFault
  made_front noted_new faults_new front note = record {
    out = front.1.front;
    note = codes "write fault\n";
    lost = keeps left;
    gained = front.1.took;
    noted = note;
    makes = ((front.0, front.1.all), refl);
  }

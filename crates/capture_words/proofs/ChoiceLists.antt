-- A text names exactly the choices whose text it is.
use Rattle.std.proofs.Common.{◌≡◌, ◌↔◌, List, Some, ap, ◌∙◌}
use Rattle.std.proofs.lemmas.List.Elements.{All-from_recursion, recursion_from_All}
use Rattle.clap.specs.Words.{Text}
use Rattle.item_tap.specs.declared.choice.Choice.{Choice}
use Rattle.capture_words.specs.Choices.{choice_text, choices_text, IsChoice, AreChoices}
use Rattle.capture_words.specs.Values.{choice_named, choices_named}
use Rattle.capture_words.proofs.Chosen.{names}
use Rattle.capture_words.proofs.CommaLists.{list_is, list_so}
use Rattle.capture_words.proofs.Windows.{choice_lacks}

choices_so : (choices : List Choice) → AreChoices choices → choices_named (choices_text choices) ≡ Some choices
choices_so choices are =
    let each = recursion_from_All IsChoice choices are.0 in
    list_so choice_named choice_text IsChoice names choice_lacks 8 choices each are.1 are.2

choices_are : (choices : List Choice) (text : Text) → choices_named text ≡ Some choices →
    AreChoices choices × (text ≡ choices_text choices)
choices_are choices text e =
    let l = list_is choice_named choice_text IsChoice names choice_lacks 8 text choices e in
    ((All-from_recursion IsChoice choices l.0, l.1, l.2), l.3)

pub names_choices : (choices : List Choice) (text : Text) →
    (choices_named text ≡ Some choices) ↔ (AreChoices choices × (text ≡ choices_text choices))
names_choices choices text = (choices_are choices text, λ h. ap choices_named h.1 ∙ choices_so choices h.0)

-- A text names exactly the IDs whose text it is.
use Rattle.std.proofs.Common.{◌≡◌, ◌↔◌, ℕ, ◌≤◌, List, Some, ap, arith, ◌∙◌}
use Rattle.std.specs.Fmt.{decimal}
use Rattle.std.proofs.lemmas.List.Elements.{All-from_recursion, recursion_from_All}
use Rattle.clap.specs.Words.{Text}
use Rattle.clap.proofs.CutLemmas.{Lacks}
use Rattle.decimal_words.specs.Numbers.{number_named}
use Rattle.decimal_words.proofs.Numbers.{names_number, number_is}
use Rattle.capture_words.specs.Choices.{ids_text, AreIds}
use Rattle.capture_words.specs.Values.{ids_named}
use Rattle.capture_words.proofs.Again.{InRange}
use Rattle.capture_words.proofs.CommaLists.{list_is, list_so}
use Rattle.capture_words.proofs.Windows.{lacks_number}

names_id : (greatest : ℕ) → greatest ≤ 126 → (x : ℕ) (text : Text) →
    (number_named 1 greatest text ≡ Some x) ↔ (InRange greatest x × (text ≡ decimal x))
names_id greatest small x text = (
  λ e. let facts = number_is 1 greatest x text e in ((facts.0, facts.1), facts.2),
  λ h. names_number 1 greatest x text (omega (arith, small)) h.0.0 h.0.1 h.1,
)

id_lacks : (greatest : ℕ) → greatest ≤ 126 → (x : ℕ) → InRange greatest x → Lacks 44 (decimal x)
id_lacks greatest small x is = lacks_number x (omega (arith, is.1, small))

ids_so : (most greatest : ℕ) (ids : List ℕ) → greatest ≤ 126 → AreIds most greatest ids →
    ids_named most greatest (ids_text ids) ≡ Some ids
ids_so most greatest ids small is =
    let each = recursion_from_All (InRange greatest) ids is.0 in
    list_so (number_named 1 greatest) decimal (InRange greatest) (names_id greatest small) (id_lacks greatest small)
    most ids each is.1 is.2

pub ids_is : (most greatest : ℕ) (ids : List ℕ) (text : Text) → greatest ≤ 126 →
    ids_named most greatest text ≡ Some ids → AreIds most greatest ids × (text ≡ ids_text ids)
ids_is most greatest ids text small e =
    let l =
    list_is (number_named 1 greatest) decimal (InRange greatest) (names_id greatest small) (id_lacks greatest small)
    most text ids e in
    ((All-from_recursion (InRange greatest) ids l.0, l.1, l.2), l.3)

pub names_ids : (most greatest : ℕ) (ids : List ℕ) (text : Text) → greatest ≤ 126 →
    (ids_named most greatest text ≡ Some ids) ↔ (AreIds most greatest ids × (text ≡ ids_text ids))
names_ids most greatest ids text small =
    (ids_is most greatest ids text small, λ h. ap (ids_named most greatest) h.1 ∙ ids_so most greatest ids small h.0)

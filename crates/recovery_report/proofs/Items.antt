-- The items of what a port says, and those that tell of a lock.
use Rattle.std.proofs.Common.{◌≡◌, ℕ, List, [], ◌∷◌, ◌++◌, refl, sym, ◌∙◌, ap, Option, None, Some, Bool, true, false}
use Rattle.std.specs.Prelude.{is_none, if◌then◌else◌}
use Rattle.trace_values.specs.Placed.{Place, Placed}
use Rattle.trace_values.specs.Stream.{Said, Notice, Kept, kept}
use Rattle.trace_values.specs.Hunted.{Found, hunt, hunted_by}
use Rattle.trace_values.proofs.Falls as falls
use Rattle.frame_grammar.specs.Port.{PortItem, Full, State, start, rule}
use Rattle.port_sync.specs.Hunting.{pattern}
use Rattle.deformatter.specs.Names.{port_progress}
use Rattle.deformatter.specs.Reading.{PortStream, port_hunted, port_stream}
use Rattle.recovering_machines.specs.Port.{items_by}
use Rattle.recovering_machines.proofs.Feeding.{same}
use Rattle.recovery_report.specs.Report.{lock_of}

-- the items of what a port says
unfoldable pub items_from : List (Said PortItem × Place) → List (PortItem × Place)
items_from [] = []
items_from ((Notice n, p) ∷ given) = items_from given
items_from ((Kept v, p) ∷ given) = (v, p) ∷ items_from given

from_kept : (items : List (PortItem × Place)) → items_from (kept items) ≡ items
unfolding items_from
from_kept [] = refl
from_kept (x ∷ items) = ap (λ l. x ∷ l) (from_kept items)

from_found : (n : ℕ) (o : Option (Found State PortItem)) →
    items_from (hunted_by n o).given ≡ (port_hunted n o).items
unfolding items_from
from_found n None = refl
from_found n (Some f) = from_kept f.reading.items

pub from_given : (h : Bool) (u : List Placed) → items_from (items_by h u).given ≡ (port_stream h u).items
from_given false u = from_kept (port_progress u).items
from_given true u = from_found (hunt pattern Full rule start u).units (hunt pattern Full rule start u).found

-- with a fault's unit no item more, and no byte is skipped
pub record IsStill (old new : PortStream) : Type 0 where
  pub items : new.items ≡ old.items
  pub skipped : new.skipped ≡ old.skipped

pub still : (h : Bool) (u : List Placed) (b : Placed) → is_none (items_by h (u ++ b ∷ [])).fault ≡ false →
    IsStill (port_stream h u) (port_stream h (u ++ b ∷ []))
still h u b k =
    let held = falls.holds pattern Full rule start h u b k in
    record {
      items = sym (from_given h (u ++ b ∷ [])) ∙ ap items_from held.given ∙ from_given h u;
      skipped = sym (same h (u ++ b ∷ [])).2 ∙ held.skipped ∙ (same h u).2;
    }

-- the items that tell of a lock: those of a port that hunts
abbrev pub lock_by : Bool → List (PortItem × Place) → List (PortItem × Place)
lock_by true items = items
lock_by false items = []

pub if_lock : (h : Bool) (items : List (PortItem × Place)) (n : ℕ) →
    (if h then lock_of items n else []) ≡ lock_of (lock_by h items) n
if_lock true items n = refl
if_lock false items n = refl

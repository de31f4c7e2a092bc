-- What is taken and added, one after the other.
use Rattle.std.proofs.Common.{◌≡◌, List, ℕ, [], ◌++◌, refl, sym, ◌∙◌, ap, subst, append_assoc, append-nil}
use Rattle.capture_actions.specs.Names.{Slip}
use Rattle.port_slip.proofs.Taking.{takes_none, takes_more}
use Rattle.capture_actions.specs.Realigner.{Pushes}

pub pushes_none : (s : Slip) (out : List ℕ) → Pushes s s [] out out
pushes_none s out = record { more = []; added = sym (append-nil out); takes = takes_none s }

pub pushes_more : (s t u : Slip) (a b x y z : List ℕ) → Pushes s t a x y → Pushes t u b y z → Pushes s u (a ++ b) x z
pushes_more s t u a b x y z f g = record {
  more = f.more ++ g.more;
  added = g.added ∙ ap (λ (l : List ℕ). l ++ g.more) f.added ∙ append_assoc x f.more g.more;
  takes = takes_more s t u a b f.more g.more f.takes g.takes;
}

-- of these bytes all but the rest are taken
pub record HasPushed (old new : Slip) (bytes rest before after : List ℕ) : Type 0 where
  pub front : List ℕ
  pub parts : bytes ≡ front ++ rest
  pub pushed : Pushes old new front before after

pub nothing_pushed : (s : Slip) (bytes out : List ℕ) → HasPushed s s bytes bytes out out
nothing_pushed s bytes out = record { front = []; parts = refl; pushed = pushes_none s out }

pub more_pushed : (s t u : Slip) (bytes rest word later x y z : List ℕ) → rest ≡ word ++ later → HasPushed s t bytes rest x y → Pushes t u word y z → HasPushed s u bytes later x z
more_pushed s t u bytes rest word later x y z e f g = record {
  front = f.front ++ word;
  parts = f.parts ∙ ap (λ (l : List ℕ). f.front ++ l) e ∙ sym (append_assoc f.front word later);
  pushed = pushes_more s t u f.front word x y z f.pushed g;
}

pub all_pushed : (s t u : Slip) (bytes rest x y z : List ℕ) → HasPushed s t bytes rest x y → Pushes t u rest y z → Pushes s u bytes x z
all_pushed s t u bytes rest x y z f g = subst (λ (l : List ℕ). Pushes s u l x z) (sym f.parts) (pushes_more s t u f.front rest x y z f.pushed g)

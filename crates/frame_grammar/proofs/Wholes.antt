-- Whole frames: their sizes, and that 16 bytes with no FF at an even index are one.
use Rattle.std.proofs.Common.{◌≡◌, ◌≢◌, ℕ, zero, suc, ◌+◌, ◌*◌, List, [], ◌∷◌, length, refl, sym, ◌∙◌, ap, subst, arith, Bool, cond}
use Rattle.std.specs.Prelude.{◌==◌, ◌&&◌, slice_index}
use Rattle.std.proofs.lemmas.List.{length-map}
use Rattle.std.proofs.lemmas.Bool.{ne_eqb}
use Rattle.frame_grammar.specs.Names.{Placed, units_of, byte_at, placed_from}
use Rattle.trace_values.proofs.Placing.{length-placed_from}
use Rattle.frame_grammar.specs.Frame.{IsProperBelow, IsProperFrame}
use Rattle.frame_grammar.specs.Port.{Frame, IsWord, IsWords, Spells}
use Rattle.frame_grammar.specs.Whole.{without_halves, IsWhole}
use Rattle.frame_grammar.proofs.Items.{frame_bytes, frame_proper, frame_spelling}

pub units_from : (at : ℕ) (bytes : List ℕ) → units_of (placed_from at bytes) ≡ bytes
units_from at [] = refl
units_from at (b ∷ bytes) = ap (λ (l : List ℕ). b ∷ l) (units_from (at + 1) bytes)

pub proper_first : (n a b : ℕ) (bytes : List ℕ) → IsProperBelow (suc n) (a ∷ (b ∷ bytes)) → a ≢ 255
proper_first n a b bytes p = p 0 (omega arith)

pub proper_rest : (n a b : ℕ) (bytes : List ℕ) → IsProperBelow (suc n) (a ∷ (b ∷ bytes)) → IsProperBelow n bytes
proper_rest n a b bytes p k l = λ e. p (suc k) (omega arith) (
    (let d : 2 * suc k ≡ suc (suc (2 * k)) = omega arith in ap (slice_index (a ∷ (b ∷ bytes))) d) ∙ e)

pub word : (a b : Placed) (w : List Placed) → a.unit ≢ 255 → IsWord 0 a b (a ∷ (b ∷ w)) w
word a b w h = record { before = []; halves_are = refl; proper = h; parts = refl }

-- halfwords without half synchronisations
words : (n at : ℕ) (bytes : List ℕ) → length bytes ≡ 2 * n → IsProperBelow n bytes → IsWords n 0 (placed_from at bytes) (placed_from at bytes)
words zero at [] e p = (refl, refl, refl)
words zero at (a ∷ bytes) e p = absurd (omega arith)
words (suc n) at [] e p = absurd (omega arith)
words (suc n) at (a ∷ []) e p = absurd (omega arith)
words (suc n) at (a ∷ (b ∷ bytes)) e p = (
  0,
  0,
  byte_at at a,
  byte_at (at + 1) b,
  placed_from (at + 1 + 1) bytes,
  placed_from (at + 1 + 1) bytes,
  word (byte_at at a) (byte_at (at + 1) b) (placed_from (at + 1 + 1) bytes) (proper_first n a b bytes p),
  refl,
  refl,
  words n (at + 1 + 1) bytes (omega arith) (proper_rest n a b bytes p),
)

-- 16 bytes of which none at an even index is FF spell a frame
pub spells : (at : ℕ) (bytes : List ℕ) → length bytes ≡ 16 → IsProperFrame bytes → Spells (Frame (placed_from at bytes) 0) (placed_from at bytes)
spells at [] e p = absurd (omega arith)
spells at (a ∷ []) e p = absurd (omega arith)
spells at (a ∷ (b ∷ bytes)) e p = (
  byte_at at a,
  byte_at (at + 1) b,
  placed_from (at + 1 + 1) bytes,
  placed_from (at + 1 + 1) bytes,
  word (byte_at at a) (byte_at (at + 1) b) (placed_from (at + 1 + 1) bytes) (proper_first 7 a b bytes p),
  refl,
  words 7 (at + 1 + 1) bytes (omega arith) (proper_rest 7 a b bytes p),
)

-- a halfword that is no half synchronisation stays
pub word_stays : (a b : Placed) (w : List Placed) → a.unit ≢ 255 → without_halves (a ∷ (b ∷ w)) ≡ a ∷ (b ∷ without_halves w)
word_stays a b w h = ap (λ (t : Bool). cond (t && b.unit == 127) (without_halves w) (a ∷ (b ∷ without_halves w))) (ne_eqb a.unit 255 h)

pub nothing_goes : (n at : ℕ) (bytes : List ℕ) → length bytes ≡ 2 * n → IsProperBelow n bytes → without_halves (placed_from at bytes) ≡ placed_from at bytes
nothing_goes zero at [] e p = refl
nothing_goes zero at (a ∷ bytes) e p = absurd (omega arith)
nothing_goes (suc n) at [] e p = absurd (omega arith)
nothing_goes (suc n) at (a ∷ []) e p = absurd (omega arith)
nothing_goes (suc n) at (a ∷ (b ∷ bytes)) e p =
    word_stays (byte_at at a) (byte_at (at + 1) b) (placed_from (at + 1 + 1) bytes) (proper_first n a b bytes p)
    ∙ ap (λ (l : List Placed). byte_at at a ∷ (byte_at (at + 1) b ∷ l)) (nothing_goes n (at + 1 + 1) bytes (omega arith) (proper_rest n a b bytes p))

-- they are a whole frame with no half synchronisation
pub plain_is_whole : (bytes : List ℕ) → length bytes ≡ 16 → IsProperFrame bytes → IsWhole bytes bytes 0
plain_is_whole bytes e p = record {
  spelled = λ at. subst (λ (f : List Placed). Spells (Frame f 0) (placed_from at bytes)) (sym (nothing_goes 8 at bytes e p)) (spells at bytes e p);
  frame_is = λ at. ap units_of (nothing_goes 8 at bytes e p) ∙ units_from at bytes;
}

module _ (bytes frame : List ℕ) (halves : ℕ) (whole : IsWhole bytes frame halves) where
  -- how many bytes there are
  pub whole_size : length bytes ≡ 16 + 2 * halves
  whole_size = sym (length-placed_from 0 bytes) ∙ frame_spelling (without_halves (placed_from 0 bytes)) (placed_from 0 bytes) halves (whole.spelled 0)

  -- and the frame has
  pub whole_frame_size : length frame ≡ 16
  whole_frame_size =
      sym (ap length (whole.frame_is 0)) ∙ length-map (without_halves (placed_from 0 bytes)) (λ (p : Placed). p.unit)
      ∙ frame_bytes (without_halves (placed_from 0 bytes)) (placed_from 0 bytes) halves (whole.spelled 0)

  -- no byte of the frame at an even index is FF
  pub whole_proper : IsProperFrame frame
  whole_proper = subst IsProperFrame (whole.frame_is 0) (frame_proper (without_halves (placed_from 0 bytes)) (placed_from 0 bytes) halves (whole.spelled 0))

-- What memory holds that was lent to a run as a sink. What the sink tells of its bytes begins with the name of the
-- borrow: where the run keeps that, the sink is still over the memory that was lent.
use Rattle.std.proofs.Common.{◌≡◌, ◌⊎◌, ℕ, ◌<◌, ◌≤◌, List, [], ◌∷◌, ◌++◌, length, take, min, sym, ap, ◌∙◌}
use Rattle.std.proofs.Common.{Some, inl, inr, arith}
use Rattle.std.proofs.lemmas.Grind.{common_steps}
use Rattle.std.specs.declared.option.Option.{Option}
use Rattle.std.specs.Io.KnownBytes.{Appends, Keeps}
use Rattle.trace_io.specs.Causes.{Rose}

-- A room, and how many bytes of it are told to be taken, after it was lent to a run. The sink had this name and nothing
-- taken before the run, and has this name, so many bytes taken of these, and so many faults after it.
pub record Lent (room : List ℕ) (told : ℕ) : Type 0 where
  pub tag : ℕ
  pub before : List ℕ
  pub tag_after : ℕ
  pub filled : ℕ
  pub faults : ℕ
  pub now : List ℕ
  pub nothing : before ≡ []
  pub fits : filled ≤ length now
  pub full : 0 < faults → filled ≡ length now
  pub ends : tag ≡ tag_after → room ≡ now
  pub failed : 0 < faults → told ≡ length room
  pub kept : faults ≡ 0 → told ≡ min filled (length room)

none_or_some : (n : ℕ) → (n ≡ 0) ⊎ (0 < n)
none_or_some n = grind arith

pub rose_some : (a b : ℕ) → Rose a b → 0 < b
rose_some a b rose = omega (arith, rose)

head_of : (a b : ℕ) (xs ys : List ℕ) → a ∷ xs ≡ b ∷ ys → a ≡ b
head_of a b xs ys e = cc

tail_of : (a b : ℕ) (xs ys : List ℕ) → a ∷ xs ≡ b ∷ ys → xs ≡ ys
tail_of a b xs ys e = cc

no_bytes : (n : ℕ) (room : List ℕ) → n ≤ length room → take n room ≡ [] → n ≡ 0
no_bytes n room fits none = let e = ap length none in grind (arith, common_steps, e)

module _ (room : List ℕ) (told : ℕ) (lent : Lent room told) where
  abbrev pub held_before : Option (List ℕ)
  held_before = Some (lent.tag ∷ lent.before)

  abbrev pub held_after : Option (List ℕ)
  held_after = Some (lent.tag_after ∷ take lent.filled lent.now)

  pub told_fits : told ≤ length room
  told_fits = elim (none_or_some lent.faults) [
    | inl none ↦ let kept = lent.kept none in omega (arith, kept)
    | inr some ↦ let failed = lent.failed some in omega (arith, failed)
  ]

  -- a room that is not full refused nothing
  pub never_failed : told < length room → 0 < lent.faults → ⊥
  never_failed less some = let failed = lent.failed some in omega (arith, failed, less)

  told_filled : room ≡ lent.now → told ≡ lent.filled
  told_filled same = elim (none_or_some lent.faults) [
    | inl none ↦ let kept = lent.kept none in omega (arith, kept, ap length same, lent.fits)
    | inr some ↦
        let failed = lent.failed some in
        let full = lent.full some in omega (arith, failed, full, ap length same)
  ]

  told_bytes : lent.tag_after ≡ lent.tag → take told room ≡ take lent.filled lent.now
  told_bytes same =
      let here = lent.ends (sym same) in
      ap (λ (n : ℕ). take n room) (told_filled here) ∙ ap (λ (l : List ℕ). take lent.filled l) here

  -- what the sink gained is what the room has
  pub lent_appends : (out : List ℕ) → Appends held_before held_after out → Appends (Some []) (Some (take told room)) out
  lent_appends out gained =
      told_bytes (head_of lent.tag_after lent.tag (take lent.filled lent.now) (lent.before ++ out) gained)
      ∙ tail_of lent.tag_after lent.tag (take lent.filled lent.now) (lent.before ++ out) gained
      ∙ ap (λ (l : List ℕ). l ++ out) lent.nothing

  -- what the sink did not gain the room has not
  pub lent_keeps : Keeps held_before held_after → told ≡ 0
  lent_keeps kept =
      let same = head_of lent.tag_after lent.tag (take lent.filled lent.now) lent.before kept in
      let none = tail_of lent.tag_after lent.tag (take lent.filled lent.now) lent.before kept ∙ lent.nothing in
      let bytes = told_bytes same ∙ none in
      no_bytes told room told_fits bytes

-- A byte's answer by those to its two nibbles.
use Rattle.std.proofs.Common.{◌≡◌, ℕ, List, [], ◌∷◌, ◌++◌, sym, ◌∙◌, ap, append_assoc, append-nil, subst}
use Rattle.std.proofs.lemmas.Grind.{flat_map-append}
use Rattle.trace_values.specs.declared.fault.Fault.{Fault}
use Rattle.trace_values.specs.declared.step.Step.{Step}
use Rattle.trace_values.specs.declared.step.Step.TheVariants.{Quiet, Skipping, Item, Locked, Fault as Faulty}
use Rattle.trace_values.specs.Placed.{Placed, byte_at}
use Rattle.trace_values.specs.Stream.{Stream, Grows, HuntBy, Settled, given_by}
use Rattle.trace_values.specs.Nibbles.{low_of, high_of, nibbles_of}

-- the answer to a byte by those to its low and its high nibble
abbrev pub both : {V : Type 0} → Step V → Step V → Step V
both Quiet high = high
both Skipping high = high
both low high = low

-- the answers that a byte may have: where an item ends in the low nibble the high one is quiet, and after a fault there it is not read
abbrev pub IsPair : {V : Type 0} → Step V → Step V → Type 0
IsPair (Item half v) high = high ≡ Quiet
IsPair (Locked skipped half v) high = high ≡ Quiet
IsPair (Faulty f) high = ⊥
IsPair low high = Unit {0}

-- the nibbles of one more byte
pub nibbles_push : (u : List Placed) (at byte : ℕ) → nibbles_of (u ++ byte_at at byte ∷ []) ≡ (nibbles_of u ++ low_of at byte ∷ []) ++ high_of at byte ∷ []
nibbles_push u at byte =
    flat_map-append (λ x. low_of x.place.at x.unit ∷ high_of x.place.at x.unit ∷ []) u (byte_at at byte ∷ [])
    ∙ sym (append_assoc (nibbles_of u) (low_of at byte ∷ []) (high_of at byte ∷ []))

module _ {V : Type 0} (old mid new : Stream V) (at : ℕ) where
  after_quiet : (t : Step V) → HuntBy old mid at Quiet → HuntBy mid new at t → HuntBy old new at t
  after_quiet Quiet g k = (g.0, k.1, k.2 ∙ g.2)
  after_quiet Skipping g k = (let a = g.1 in let b = k.0 in cc)
  after_quiet (Item half v) g k = (g.0, k.1, k.2 ∙ g.2)
  after_quiet (Locked skipped half v) g k = (let a = g.1 in let b = k.0 in cc)
  after_quiet (Faulty f) g k = (k.0, g.0)

  after_skipping : (t : Step V) → HuntBy old mid at Skipping → HuntBy mid new at t → HuntBy old new at t
  after_skipping Quiet g k = (let a = g.1 in let b = k.0 in cc)
  after_skipping Skipping g k = (g.0, k.1)
  after_skipping (Item half v) g k = (let a = g.1 in let b = k.0 in cc)
  after_skipping (Locked skipped half v) g k = (g.0, k.1, k.2)
  after_skipping (Faulty f) g k = (let a = g.1 in let b = k.1 in cc)

  pub grows_both : (s t : Step V) → IsPair s t → Grows old mid at s → Grows mid new at t → Grows old new at (both s t)
  grows_both Quiet t i g h = record {
    given = h.given ∙ ap (λ l. l ++ given_by at t) (g.given ∙ append-nil old.given);
    fault = h.fault;
    hunt = after_quiet t g.hunt h.hunt;
  }
  grows_both Skipping t i g h = record {
    given = h.given ∙ ap (λ l. l ++ given_by at t) (g.given ∙ append-nil old.given);
    fault = h.fault;
    hunt = after_skipping t g.hunt h.hunt;
  }
  grows_both (Item half v) t i g h =
      let q : Grows mid new at Quiet = subst (λ (x : Step V). Grows mid new at x) i h in
      record { given = q.given ∙ append-nil mid.given ∙ g.given; fault = q.fault; hunt = (g.hunt.0, q.hunt.1, q.hunt.2 ∙ g.hunt.2) }
  grows_both (Locked skipped half v) t i g h =
      let q : Grows mid new at Quiet = subst (λ (x : Step V). Grows mid new at x) i h in
      record { given = q.given ∙ append-nil mid.given ∙ g.given; fault = q.fault; hunt = (g.hunt.0, q.hunt.1, q.hunt.2 ∙ g.hunt.2) }
  grows_both (Faulty f) t i g h = absurd i

-- where the low nibble is a fault, the high one is not read
pub grows_fault : {V : Type 0} (old mid new : Stream V) (at : ℕ) (f : Fault) → Settled mid new → Grows old mid at (Faulty f) → Grows old new at (Faulty f)
grows_fault old mid new at f s g = record { given = s.given ∙ g.given; fault = s.fault ∙ g.fault; hunt = g.hunt }

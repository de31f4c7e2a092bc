use Rattle.std.proofs.Common.{◌≡◌, ℕ, ◌+◌, ◌≤◌, List, [], ◌++◌, ap, ◌∙◌, sym, subst, append_assoc, length, length-append, take, drop, arith, take-append-drop, true, false}
use Rattle.std.proofs.lemmas.List.{take-take, take-append-le, take_all, length-take}
use Rattle.std.specs.Io.KnownBytes.{Consumes}
use Rattle.std.proofs.KnownBytes.{Consumes-trans}
use Rattle.trace_io.specs.Bytes.{AppendsPrefix}
use Rattle.trace_stream.proofs.Kept.{kept_more}
use Rattle.trace_stream.specs.BuffersState.{BuffersState}
use Rattle.trace_stream.specs.Fed.{Writing, StandsAfter}
use Rattle.trace_stream.specs.Pumped.{HasPumped}
use Rattle.trace_stream.specs.Served.{Meaning, Ends}
use Rattle.trace_stream.specs.declared.outcome.Outcome.TheVariants.{FaultFound, WriteFailed, OverLimit}
use Rattle.trace_stream.specs.Recent.{last_sixteen}

-- the way of the text between two moments
abbrev pub writing : Ends → Ends → BuffersState → Writing
writing old new buffers = record { start = old.held; held = new.held; pending = buffers.pending }

-- all bytes that were read so far, of this count, were fed, and the last are kept
pub record IsPumping (stands : List ℕ → Type 0) (m : Meaning) (old new : Ends) (buffers : BuffersState) (count : ℕ) : Type 0 where
  pub seen : List ℕ
  pub lost : Consumes old.left new.left seen
  pub after : StandsAfter stands m (writing old new buffers) false seen
  pub counted : count ≡ length seen
  pub kept : buffers.recent ≡ last_sixteen seen

-- a piece is the front of the bytes that were read next, as far as the limit goes; this many of its bytes are fed
module _ (was now : List ℕ → Type 0) (m : Meaning) (limit : ℕ) (old mid new : Ends) (kept after : BuffersState) (count : ℕ) (bytes piece beyond : List ℕ)
    (so_far : IsPumping was m old mid kept count) (read : Consumes mid.left new.left bytes) (parts : bytes ≡ piece ++ beyond)
    (within : count + length piece ≤ limit) (at_most : count + length bytes ≤ limit + 1) (n : ℕ) where
  abbrev pub fed : List ℕ
  fed = so_far.seen ++ take n piece

  abbrev extra : List ℕ
  extra = drop n piece ++ beyond

  counts_fed : length (take n piece) + length (drop n piece) ≡ length piece
  counts_fed = sym (length-append (take n piece) (drop n piece)) ∙ ap length (take-append-drop n piece)

  all_lost : Consumes old.left new.left (fed ++ extra)
  all_lost =
      let cut : bytes ≡ take n piece ++ extra = parts ∙ ap (λ l. l ++ beyond) (sym (take-append-drop n piece)) ∙ append_assoc (take n piece) (drop n piece) beyond in
      subst (Consumes old.left new.left) (ap (λ l. so_far.seen ++ l) cut ∙ sym (append_assoc so_far.seen (take n piece) extra))
      (Consumes-trans old.left mid.left new.left so_far.seen bytes so_far.lost read)

  fed_within : length fed ≤ limit
  fed_within = omega (arith, within, so_far.counted, length-append so_far.seen (take n piece), counts_fed)

  all_at_most : length fed + length extra ≤ limit + 1
  all_at_most = omega (arith, at_most, so_far.counted, length-append so_far.seen (take n piece), counts_fed, length-append (drop n piece) beyond, length-append piece beyond, ap length parts)

  pub pump_stopped : StandsAfter now m (writing old new after) true fed → after.recent ≡ last_sixteen (kept.recent ++ take n piece) → HasPumped now m limit old new after FaultFound
  pump_stopped stands keeps = record {
    seen = fed;
    extra = extra;
    lost = all_lost;
    within = fed_within;
    at_most = all_at_most;
    outcome = (stands, kept_more kept.recent after.recent so_far.seen (take n piece) so_far.kept keeps);
  }

  pub pump_write_failed : AppendsPrefix old.held new.held (m.text fed) → now fed → HasPumped now m limit old new after WriteFailed
  pump_write_failed put stands = record { seen = fed; extra = extra; lost = all_lost; within = fed_within; at_most = all_at_most; outcome = (put, stands) }

  pub pump_over : StandsAfter now m (writing old new after) false fed → n ≡ length piece → count + length piece ≡ limit → count + length bytes ≡ limit + 1 → after.pending ≡ []
      → HasPumped now m limit old new after OverLimit
  pump_over stands all full past none = record {
    seen = fed;
    extra = extra;
    lost = all_lost;
    within = fed_within;
    at_most = all_at_most;
    outcome = (
      stands,
      omega (arith, so_far.counted, length-append so_far.seen (take n piece), length-take n piece),
      omega (arith, length-append (drop n piece) beyond, length-append piece beyond, ap length parts),
      none,
    );
  }

-- all that was read is fed
pub pump_more : (was now : List ℕ → Type 0) (m : Meaning) (old mid new : Ends) (kept after : BuffersState) (count : ℕ) (piece : List ℕ)
    (so_far : IsPumping was m old mid kept count) → Consumes mid.left new.left piece → (n : ℕ) → n ≡ length piece
    → StandsAfter now m (writing old new after) false (so_far.seen ++ take n piece) → after.recent ≡ last_sixteen (kept.recent ++ take n piece)
    → IsPumping now m old new after (count + length piece)
pump_more was now m old mid new kept after count piece so_far read n all stands keeps =
    let whole : take n piece ≡ piece = take_all n piece (omega arith) in
    record {
      seen = so_far.seen ++ piece;
      lost = Consumes-trans old.left mid.left new.left so_far.seen piece so_far.lost read;
      after = subst (λ l. StandsAfter now m (writing old new after) false (so_far.seen ++ l)) whole stands;
      counted = omega (arith, so_far.counted, length-append so_far.seen piece);
      kept = subst (λ l. after.recent ≡ last_sixteen (so_far.seen ++ l)) whole (kept_more kept.recent after.recent so_far.seen (take n piece) so_far.kept keeps);
    }

-- ---- the part of the buffer that is fed

cut_read : (buf rest : List ℕ) (got taken : ℕ) → got ≤ length buf → taken ≤ got → take got buf ≡ take taken (buf ++ rest) ++ drop taken (take got buf)
cut_read buf rest got taken h k =
    let within : taken ≤ length buf = omega arith in
    let same : take taken (take got buf) ≡ take taken (buf ++ rest) = take-take taken got buf k ∙ sym (take-append-le taken buf rest within) in
    sym (take-append-drop taken (take got buf)) ∙ ap (λ l. l ++ drop taken (take got buf)) same

-- the front of the buffer that is kept is a front of the piece
pub cut_kept : (all old new : List ℕ) (count taken : ℕ) → count ≤ length (take taken all) → new ≡ last_sixteen (old ++ take count all) → new ≡ last_sixteen (old ++ take count (take taken all))
cut_kept all old new count taken h e = e ∙ ap (λ l. last_sixteen (old ++ l)) (sym (take-take count taken all (omega (arith, h, length-take taken all))))

-- Of a read that gave `got` bytes, at the front of a buffer that has `rest` after them, the first `taken` are the piece.
pub record IsCut (buf rest : List ℕ) (got taken : ℕ) : Type 0 where
  pub parts : take got buf ≡ take taken (buf ++ rest) ++ drop taken (take got buf)
  pub piece : length (take taken (buf ++ rest)) ≡ taken
  pub read : length (take got buf) ≡ got

pub cut_of : (buf rest : List ℕ) (got taken : ℕ) → got ≤ length buf → taken ≤ got → IsCut buf rest got taken
cut_of buf rest got taken h k = record {
  parts = cut_read buf rest got taken h k;
  piece = omega (arith, length-take taken (buf ++ rest), length-append buf rest);
  read = omega (arith, length-take got buf);
}

-- Bytes 00 of a synchronisation, and what ends them.
use Rattle.std.proofs.Common.{◌≡◌, ℕ, zero, suc, ◌+◌, ◌<◌, ◌≤◌, ◌⊎◌, inl, inr, List, [], ◌∷◌, ◌++◌, length, take, replicate, get_or, true, refl, sym, ◌∙◌, ap, arith, append_assoc, append-nil}
use Rattle.std.specs.Prelude.{nat_lt}
use Rattle.std.proofs.lemmas.Bool.Decides.{nat_tests}
use Rattle.std.proofs.lemmas.List.{replicate-append-replicate, take_more}
use Rattle.itm_codec.specs.Names.{Within, Whole, walk, Sync, Partial, Header, Zeros, rule, is_sound, bytes_of}
use Rattle.trace_values.proofs.Walks.{walk_more}
use Rattle.itm_grammar.proofs.Deciding.{decided, walk_zeros}
use Rattle.itm_codec.specs.declared.decoder.ItmDecoder.{ItmDecoder}
use Rattle.itm_codec.specs.Decoder.{partial_of}
use Rattle.itm_codec.proofs.Waiting.{settled, reaches}

-- so many bytes 00 leave that unfinished
zeros_of : (n : ℕ) → 0 < n → walk rule Header (replicate n 0) ≡ Within (Zeros n)
zeros_of zero h = absurd (omega arith)
zeros_of (suc n) h =
    ap (walk rule (Zeros 1)) (sym (append-nil (replicate n 0))) ∙ walk_zeros n 1 [] ∙ ap (λ (m : ℕ). Within (Zeros m)) (let e : 1 + n ≡ suc n = omega arith in e)

module _ (s : Partial) (taken more : ℕ) (bytes : List ℕ) (so_far : walk rule Header (replicate taken 0) ≡ Within s) (zeros : take more bytes ≡ replicate more 0) where
  -- more of them
  pub more_zeros : 0 < more → walk rule s (take more bytes) ≡ Within (Zeros (taken + more))
  more_zeros h =
      ap (walk rule s) zeros ∙ sym (walk_more rule Header s (replicate taken 0) (replicate more 0) so_far)
      ∙ ap (walk rule Header) (replicate-append-replicate taken more 0) ∙ zeros_of (taken + more) (omega arith)

  -- and 80
  pub sync_ends : more < length bytes → get_or bytes more 0 ≡ 128 → 5 ≤ taken + more → walk rule s (take (more + 1) bytes) ≡ Whole Sync
  sync_ends l e h =
      ap (walk rule s) (take_more bytes more 0 l ∙ ap (λ (r : List ℕ). r ++ (get_or bytes more 0 ∷ [])) zeros ∙ ap (λ (b : ℕ). replicate more 0 ++ (b ∷ [])) e)
      ∙ sym (walk_more rule Header s (replicate taken 0) (replicate more 0 ++ (128 ∷ [])) so_far)
      ∙ ap (walk rule Header) (sym (append_assoc (replicate taken 0) (replicate more 0) (128 ∷ [])) ∙ ap (λ (r : List ℕ). r ++ (128 ∷ [])) (replicate-append-replicate taken more 0))
      ∙ decided.complete Sync _ (taken + more, h, refl)

zero_bytes : (n : ℕ) → bytes_of n 0 ≡ replicate n 0
zero_bytes zero = refl
zero_bytes (suc n) = ap (λ (l : List ℕ). 0 ∷ l) (zero_bytes n)

-- where they wait
pub zeros_wait : (d : ItmDecoder) → d.partial ≡ Header → d.held ≡ 0 → walk rule Header (replicate d.waiting 0) ≡ Within (partial_of d)
zeros_wait d header held =
    ap (walk rule Header) (sym (zero_bytes d.waiting)) ∙ ap (λ (x : ℕ). walk rule Header (bytes_of d.waiting x)) (sym held)
    ∙ ap (λ (p : Partial). walk rule p (bytes_of d.waiting d.held)) (sym header) ∙ d.within

-- and where they are kept
pub zeros_kept : (d : ItmDecoder) (taken : ℕ) → d.partial ≡ Zeros taken → walk rule Header (replicate taken 0) ≡ Within (partial_of d)
zeros_kept d taken kept = by (reaches d.waiting 0) where
  some : 0 < taken
  some = (let e : nat_lt 0 taken ≡ true = sym (ap is_sound kept) ∙ d.sound in grind (arith, nat_tests))

  by : (d.waiting ≤ 0) ⊎ (0 < d.waiting) → walk rule Header (replicate taken 0) ≡ Within (partial_of d)
  by (inl h) = (let none : d.waiting ≡ 0 = omega arith in zeros_of taken some ∙ ap Within (sym (settled d none ∙ kept)))
  by (inr h) = (let e = sym kept ∙ d.begins (d.waits h) in cc)

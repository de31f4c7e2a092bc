-- Offsets of bytes, with more bytes after them.
use Rattle.std.proofs.Common.{◌≡◌, ℕ, ◌+◌, ◌<◌, ◌≤◌, List, [], ◌∷◌, ◌++◌, length, refl, sym, ◌∙◌, ap, subst}
use Rattle.std.proofs.Common.{append_assoc, arith}
use Rattle.std.proofs.lemmas.List.{map-append}
use Rattle.trace_values.specs.Placed.{Placed, byte_at, placed_from}
use Rattle.frame_grammar.specs.Reading.{offsets_of}
use Rattle.deformatter.specs.Rising.{Rise, BytesRise, end_at}
use Rattle.deformatter.proofs.RisingLaws.{rise_join, placed_rise}

-- offsets of bytes that follow
pub rise_to : (u : List Placed) (n at : ℕ) → BytesRise 0 n u → n ≤ at → BytesRise 0 at u
rise_to u n at r l = to (offsets_of u) 0 n r l where
  to : (xs : List ℕ) (lo hi : ℕ) → Rise lo hi xs → hi ≤ at → Rise lo at xs
  to [] lo hi r l = (let k : lo ≤ hi = r in let z : lo ≤ at = omega arith in z)
  to (x ∷ xs) lo hi r l = (r.0, to xs (x + 1) hi r.1 l)

pub rise_block : (u : List Placed) (at : ℕ) (bytes : List ℕ) → BytesRise 0 at u →
    BytesRise 0 (at + length bytes) (u ++ placed_from at bytes)
rise_block u at bytes r =
    subst (λ (l : List ℕ). Rise 0 (at + length bytes) l)
    (sym (map-append (λ (p : Placed). p.place.at) u (placed_from at bytes)))
    (rise_join (offsets_of u) (offsets_of (placed_from at bytes)) 0 at (at + length bytes) r (placed_rise bytes at))

end_from : (xs : List ℕ) (lo : ℕ) (y : ℕ) → end_at lo (xs ++ y ∷ []) ≡ y + 1
end_from [] lo y = refl
end_from (x ∷ xs) lo y = end_from xs (x + 1) y

pub end_push : (u : List Placed) (at byte : ℕ) → end_at 0 (offsets_of (u ++ byte_at at byte ∷ [])) ≡ at + 1
end_push u at byte =
    ap (λ (l : List ℕ). end_at 0 l) (map-append (λ (p : Placed). p.place.at) u (byte_at at byte ∷ []))
    ∙ end_from (offsets_of u) 0 at

pub end_block : (bytes : List ℕ) (u : List Placed) (at : ℕ) → 0 < length bytes →
    end_at 0 (offsets_of (u ++ placed_from at bytes)) ≡ at + length bytes
end_block [] u at some = absurd (omega arith)
end_block (byte ∷ []) u at some = end_push u at byte
end_block (byte ∷ (next ∷ bytes)) u at some =
    ap (λ (l : List Placed). end_at 0 (offsets_of l))
    (sym (append_assoc u (byte_at at byte ∷ []) (placed_from (at + 1) (next ∷ bytes))))
    ∙ end_block (next ∷ bytes) (u ++ byte_at at byte ∷ []) (at + 1) (omega arith)
    ∙ (let z : at + 1 + length (next ∷ bytes) ≡ at + length (byte ∷ (next ∷ bytes)) = omega arith in z)

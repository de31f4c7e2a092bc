-- A part that is put into the memory, and a piece that is pushed part by part.
use Rattle.std.proofs.Common.{◌≡◌, ◌+◌, List, ℕ, [], ◌++◌, length, sym, ◌∙◌, ap, subst, append_assoc, append-nil, length-append, arith, refl, ◌-◌, ◌<◌, ◌≤◌, ◌%◌, cond}
use Rattle.buffer_ring.specs.declared.buffer.TraceBuffer.{TraceBuffer}
use Rattle.buffer_ring.specs.Buffer.{Stands, Takes}
use Rattle.std.specs.Prelude.{◌==◌, vec_len}
use Rattle.std.specs.Vec.{with_items}
use Rattle.std.proofs.lemmas.List.{with_items_is}
use borrow.Rule.Slice.PartMut.{put_mid}
use Rattle.buffer_ring.proofs.Images.{length-part, next_after}

-- Where these bytes of the memory become others, as many as the part has, and they are the part.
module _ (w : TraceBuffer) (part seen put : List ℕ) (all : seen ≡ w.bytes.items) (is : put ≡ part)
    (len : length seen ≡ vec_len w.bytes) (fits : w.at + length part ≤ length w.bytes.items) where
  abbrev pub after : List ℕ
  after = put_mid w.at (w.at + length part - w.at) seen put

  same : after ≡ put_mid w.at (length part) w.bytes.items part
  same =
      let k : w.at + length part - w.at ≡ length part = omega arith in
      ap (λ n. put_mid w.at n seen put) k ∙ ap (λ (l : List ℕ). put_mid w.at (length part) l put) all
      ∙ ap (λ (l : List ℕ). put_mid w.at (length part) w.bytes.items l) is

  pub written : (with_items w.bytes after).items ≡ put_mid w.at (length part) w.bytes.items part
  written =
      with_items_is w.bytes after (ap length same ∙ length-part w.at w.bytes.items part fits ∙ sym (ap length all) ∙ len) ∙ same

  pub same_size : length (with_items w.bytes after).items ≡ length w.bytes.items
  same_size = ap length written ∙ length-part w.at w.bytes.items part fits

  some : 0 < length w.bytes.items
  some = let least = w.least in omega (arith, least)

  pub next_place : (place size : ℕ) → size ≡ vec_len w.bytes → place ≡ cond (w.at + length part == size) 0 (w.at + length part) →
      place ≡ (w.pushed + length part) % length w.bytes.items
  next_place place size s p =
      let at : w.at ≡ w.pushed % length w.bytes.items = w.next in
      p ∙ ap (λ m. cond (w.at + length part == m) 0 (w.at + length part)) (s ∙ sym len ∙ ap length all)
      ∙ ap (λ m. cond (m + length part == length w.bytes.items) 0 (m + length part)) at
      ∙ sym (next_after (length w.bytes.items) w.pushed (length part) some (omega (arith, at, fits)))

-- the front of the piece was pushed, up to the rest
pub record Took (old new : TraceBuffer) (piece rest : List ℕ) : Type 0 where
  pub front : List ℕ
  pub parts : piece ≡ front ++ rest
  pub taken : Takes old new front

pub took_none : (b : TraceBuffer) (piece : List ℕ) → Took b b piece piece
took_none b piece = record {
  front = [];
  parts = refl;
  taken = record { list = λ u s. subst (Stands b) (sym (append-nil u)) s; size = refl; count = omega arith };
}

pub took_part : (a b c : TraceBuffer) (piece rest part after : List ℕ) → Took a b piece rest → rest ≡ part ++ after →
    Takes b c part → Took a c piece after
took_part a b c piece rest part after t e p =
    let old = t.taken in
    record {
      front = t.front ++ part;
      parts = t.parts ∙ ap (λ (l : List ℕ). t.front ++ l) e ∙ sym (append_assoc t.front part after);
      taken = record {
        list = λ u s. subst (Stands c) (append_assoc u t.front part) (p.list (u ++ t.front) (old.list u s));
        size = p.size ∙ old.size;
        count = (let n = old.count in let m = p.count in let k = length-append t.front part in omega (arith, n, m, k));
      };
    }

-- What a look at the bytes that wait and those after them tells.
use Rattle.std.proofs.Common.{◌≡◌, ℕ, ◌+◌, ◌-◌, ◌^◌, ◌%◌, ◌<◌, ◌≤◌, ◌++◌, List, length, length-append, take, bit_and, true, refl, sym, ◌∙◌, ap, subst, arith}
use Rattle.std.specs.Int.{w64, to_le_bytes}
use Rattle.std.proofs.Math.Nat.{mod-lt}
use Rattle.std.proofs.Math.Seq.{take-append-add}
use Rattle.std.proofs.lemmas.List.{length-take-le, take_all}
use Rattle.itm_codec.specs.Names.{Within, Whole, walk, ItmPacket, Partial, Header, rule, bytes_of, Spells, Ends, Waits}
use Rattle.trace_values.proofs.Walks.{walk_more}
use Rattle.itm_grammar.proofs.Deciding.{decided}
use Rattle.itm_codec.specs.declared.decoder.ItmDecoder.{ItmDecoder}
use Rattle.itm_codec.specs.Reached.{reached}
use Rattle.itm_codec.specs.declared.decoder.ItmEnd.{ItmEnd}
use Rattle.itm_codec.specs.Decoder.{has_locked, partial_of, waiting_in}
use Rattle.itm_codec.specs.Parts.{Looked}
use Rattle.itm_codec.specs.Windows.{IsFrontOf, IsSeen}
use Rattle.itm_codec.proofs.Fronts.{low_bits}
use Rattle.itm_codec.proofs.Joining.{word_front}
use Rattle.itm_codec.proofs.Zeros.{positive}
use Rattle.itm_codec.proofs.Waiting.{count_is, seen, ends_value, take_take}

module _ (d : ItmDecoder) (window ahead : List ℕ) (header : d.partial ≡ Header) (e : window ≡ take 8 (waiting_in d ++ ahead)) (l : 8 ≤ length ahead) where
  -- where the packet ends among the bytes ahead
  ends : (n : ℕ) (p : ItmPacket) → n ≤ length window → Spells p (take n window) →
      (d.waiting < n) × (walk rule (partial_of d) (take (n - d.waiting) ahead) ≡ Whole p)
  ends n p h s =
      let long : 8 ≤ length (waiting_in d ++ ahead) = omega (arith, length-append (waiting_in d) ahead) in
      let eight : length window ≡ 8 = ap length e ∙ length-take-le 8 (waiting_in d ++ ahead) long in
      let known : take n window ≡ take n (waiting_in d ++ ahead) = ap (take n) e ∙ take_take n 8 (waiting_in d ++ ahead) (omega (arith, h, eight)) long in
      let found = ends_value rule d.partial (partial_of d) (waiting_in d) ahead n p d.within
      (ap (λ (x : Partial). walk rule x (take n (waiting_in d ++ ahead))) header ∙ ap (walk rule Header) (sym known) ∙ decided.complete p _ s) in
      subst (λ (i : ℕ). (i < n) × (walk rule (partial_of d) (take (n - i) ahead) ≡ Whole p)) (count_is d) found

  -- where all of them are within it
  within : (count : ℕ) → d.waiting + count < 8 → IsFrontOf window (d.waiting + count) →
      walk rule (partial_of d) (take count ahead) ≡ Within (reached Header (take (d.waiting + count) window))
  within count h f =
      let a = waiting_in d in
      let long : 8 ≤ length (a ++ ahead) = omega (arith, length-append a ahead) in
      let known : take (d.waiting + count) window ≡ take (d.waiting + count) (a ++ ahead) =
      ap (take (d.waiting + count)) e ∙ take_take (d.waiting + count) 8 (a ++ ahead) (omega arith) long in
      let parts : take (d.waiting + count) (a ++ ahead) ≡ a ++ take count ahead = ap (λ (i : ℕ). take (i + count) (a ++ ahead)) (sym (count_is d)) ∙ take-append-add a ahead count in
      sym (walk_more rule d.partial (partial_of d) a (take count ahead) d.within) ∙ ap (λ (x : Partial). walk rule x (a ++ take count ahead)) header
      ∙ ap (walk rule Header) (sym (known ∙ parts)) ∙ f

  -- what is found then
  module _ (locked : has_locked d ≡ true) (count : ℕ) where
    pub found_end : (end : ItmEnd) → IsSeen window (d.waiting + count) (Ends end) →
        (d.waiting < end.bytes) × Looked d d ahead count (Ends (record { bytes = end.bytes - d.waiting; packet = end.packet }))
    found_end end w =
        let k = ends end.bytes end.packet w.2 w.3 in
        let m = k.0 in
        let n = w.1 in (
          m,
          record {
            mode = refl;
            live = refl;
            part = (
              record { locked = locked; header = header; some = omega (arith, m); whole = k.1; proper = w.4 },
              omega (arith, n),
              refl,
            );
          },
        )

    pub found_front : (e : ItmDecoder) → 0 < count → IsSeen window (d.waiting + count) Waits → (e.mode ≡ d.mode) × (e.live ≡ d.live) →
        partial_of e ≡ reached Header (take (d.waiting + count) window) → Looked d e ahead count Waits
    found_front e some w same part = record {
      mode = same.0;
      live = same.1;
      part = (locked, some, within count w.0 w.1 ∙ ap Within (sym part));
    }

-- the bytes that the decoder sees
pub window_is : (d : ItmDecoder) (window next ahead : List ℕ) (word : ℕ) → window ≡ to_le_bytes w64 word → to_le_bytes w64 word ≡ take 8 (waiting_in d ++ next) → next ≡ take 8 ahead → 8 ≤ length ahead →
    window ≡ take 8 (waiting_in d ++ ahead)
window_is d window next ahead word b e same l = b ∙ e ∙ seen (waiting_in d) next ahead same l

-- they are those ahead, where none wait
pub fresh_is : (d : ItmDecoder) (list : List ℕ) → d.waiting ≡ 0 → take 8 list ≡ take 8 (waiting_in d ++ list)
fresh_is d list e = ap (λ (n : ℕ). take 8 (bytes_of n d.held ++ list)) (sym e)

pub fresh_word : (d : ItmDecoder) (next bytes : List ℕ) → d.waiting ≡ 0 → length next ≡ 8 → bytes ≡ take 8 (waiting_in d ++ next) → next ≡ bytes
fresh_word d next bytes e l w = sym (take_all 8 next (omega (arith, l))) ∙ fresh_is d next e ∙ sym w

-- the bytes of a word that wait then
pub held : (word bits n : ℕ) → n ≤ 7 → bits ≡ 256 ^ n - 1 → take n (to_le_bytes w64 word) ≡ bytes_of n (bit_and word bits)
held word bits n h b =
    let k : bit_and word bits ≡ word % 256 ^ n = ap (bit_and word) b ∙ low_bits word n h in
    word_front n word (omega arith) ∙ ap (bytes_of n) (sym k)

pub small : (word bits n : ℕ) → n ≤ 7 → bits ≡ 256 ^ n - 1 → bit_and word bits < 256 ^ n
small word bits n h b = subst (λ (x : ℕ). x < 256 ^ n) (sym (ap (bit_and word) b ∙ low_bits word n h)) (mod-lt word (positive n))

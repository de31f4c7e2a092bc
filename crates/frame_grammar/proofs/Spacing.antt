-- A frame with one half synchronisation in each gap between its halfwords.
use Rattle.std.proofs.Common.{◌≡◌, ◌≢◌, ℕ, zero, suc, ◌+◌, ◌-◌, ◌*◌, ◌<◌, ◌≤◌, List, [], ◌∷◌, length, take, drop, refl, ◌∙◌, ap, subst, arith, get_or, Some}
use Rattle.std.specs.Option.{option_map}
use Rattle.std.specs.Array.{IsFirstChunk}
use Rattle.std.proofs.lemmas.List.{take_rest, get_or-take, get_or-drop}
use Rattle.frame_grammar.specs.Names.{Placed, byte_at, placed_from}
use Rattle.frame_grammar.specs.Reading.{offsets_of}
use Rattle.frame_grammar.specs.Whole.{without_halves}
use Rattle.frame_grammar.specs.Placing.{places_of}
use Rattle.frame_grammar.proofs.Gathering.{gathered, joined, at_word, at_half, half_goes, pair_at}
use Rattle.frame_grammar.proofs.Wholes.{word_stays}

-- the bytes of n halfwords and one more from an index on, and how far behind the first one they are
abbrev pub spaced_bytes : ℕ → ℕ → List ℕ → List ℕ
spaced_bytes zero from p = get_or p from 0 ∷ (get_or p (from + 1) 0 ∷ [])
spaced_bytes (suc n) from p = get_or p from 0 ∷ (get_or p (from + 1) 0 ∷ spaced_bytes n (from + 4) p)

abbrev pub spaced_places : ℕ → ℕ → List ℕ
spaced_places zero from = from ∷ ((from + 1) ∷ [])
spaced_places (suc n) from = from ∷ ((from + 1) ∷ spaced_places n (from + 4))

-- n gaps from an index on, each with a half synchronisation, and no halfword that begins with FF
pub record Spaced (n from : ℕ) (p : List ℕ) : Type 0 where
  pub room : from + 4 * n + 2 ≤ length p
  pub words : (k : ℕ) → k < suc n → get_or p (from + 4 * k) 0 ≢ 255
  pub gaps : (k : ℕ) → k < n → (get_or p (from + 4 * k + 2) 0 ≡ 255) × (get_or p (from + 4 * k + 3) 0 ≡ 127)

-- the halfwords after the first
later : (n from : ℕ) (p : List ℕ) → Spaced (suc n) from p → Spaced n (from + 4) p
later n from p s = record {
  room = let r = s.room in omega arith;
  words = λ k l. subst (λ (i : ℕ). get_or p i 0 ≢ 255) (let e : from + 4 * suc k ≡ from + 4 + 4 * k = omega arith in e) (s.words (suc k) (omega arith));
  gaps = λ k l. let g = s.gaps (suc k) (omega arith) in (
    (ap (λ (i : ℕ). get_or p i 0) (let e : from + 4 + 4 * k + 2 ≡ from + 4 * suc k + 2 = omega arith in e) ∙ g.0),
    (ap (λ (i : ℕ). get_or p i 0) (let e : from + 4 + 4 * k + 3 ≡ from + 4 * suc k + 3 = omega arith in e) ∙ g.1),
  );
}

first_word : (n from : ℕ) (p : List ℕ) → Spaced n from p → get_or p from 0 ≢ 255
first_word n from p s = subst (λ (i : ℕ). get_or p i 0 ≢ 255) (let e : from + 4 * 0 ≡ from = omega arith in e) (s.words 0 (omega arith))

first_gap : (n from : ℕ) (p : List ℕ) → Spaced (suc n) from p → (get_or p (from + 2) 0 ≡ 255) × (get_or p (from + 3) 0 ≡ 127)
first_gap n from p s = let g = s.gaps 0 (omega arith) in (
  (ap (λ (i : ℕ). get_or p i 0) (let e : from + 2 ≡ from + 4 * 0 + 2 = omega arith in e) ∙ g.0),
  (ap (λ (i : ℕ). get_or p i 0) (let e : from + 3 ≡ from + 4 * 0 + 3 = omega arith in e) ∙ g.1),
)

last_parts : (from : ℕ) (p : List ℕ) → from + 2 ≤ length p → drop from p ≡ get_or p from 0 ∷ (get_or p (from + 1) 0 ∷ drop (from + 2) p)
last_parts from p l = pair_at p from (from + 1) (from + 2) refl refl l

parts : (from : ℕ) (p : List ℕ) → from + 4 ≤ length p →
    drop from p ≡ get_or p from 0 ∷ (get_or p (from + 1) 0 ∷ (get_or p (from + 2) 0 ∷ (get_or p (from + 3) 0 ∷ drop (from + 4) p)))
parts from p l =
    last_parts from p (omega arith)
    ∙ ap (λ (r : List ℕ). get_or p from 0 ∷ (get_or p (from + 1) 0 ∷ r)) (pair_at p (from + 2) (from + 3) (from + 4) (omega arith) (omega arith) l)

-- they are gathered
pub spaced_gathers : (n from : ℕ) (p : List ℕ) → Spaced n from p →
    gathered (suc n) (drop from p) ≡ Some (record { halves = n; frame = spaced_bytes n from p; rest = drop (from + 4 * n + 2) p })
spaced_gathers zero from p s =
    let room = s.room in
    ap (gathered 1) (last_parts from p (omega arith))
    ∙ at_word 0 (get_or p from 0) (get_or p (from + 1) 0) (drop (from + 2) p) (first_word 0 from p s)
    ∙ ap (λ (m : ℕ). Some (record { halves = 0; frame = spaced_bytes 0 from p; rest = drop m p })) (let e : from + 2 ≡ from + 4 * 0 + 2 = omega arith in e)
spaced_gathers (suc n) from p s =
    let room = s.room in
    let gap = first_gap n from p s in
    let rest = drop (from + 4) p in
    ap (gathered (suc (suc n))) (parts from p (omega arith))
    ∙ at_word (suc n) (get_or p from 0) (get_or p (from + 1) 0) (get_or p (from + 2) 0 ∷ (get_or p (from + 3) 0 ∷ rest)) (first_word (suc n) from p s)
    ∙ ap (option_map (joined 0 (get_or p from 0 ∷ (get_or p (from + 1) 0 ∷ []))))
    (at_half n (get_or p (from + 2) 0) (get_or p (from + 3) 0) rest gap.0 gap.1 ∙ ap (option_map (joined 1 [])) (spaced_gathers n (from + 4) p (later n from p s)))
    ∙ ap (λ (m : ℕ). Some (record { halves = m; frame = spaced_bytes (suc n) from p; rest = drop (from + 4 + 4 * n + 2) p })) (let e : 0 + (1 + n) ≡ suc n = omega arith in e)
    ∙ ap (λ (m : ℕ). Some (record { halves = suc n; frame = spaced_bytes (suc n) from p; rest = drop m p })) (let e : from + 4 + 4 * n + 2 ≡ from + 4 * suc n + 2 = omega arith in e)

-- and placed
pub spaced_placed : (n from at a : ℕ) (p : List ℕ) → Spaced n from p → a ≡ at + from →
    offsets_of (without_halves (placed_from a (take (4 * n + 2) (drop from p)))) ≡ places_of at (spaced_places n from)
spaced_placed zero from at a p s e =
    let room = s.room in
    ap (λ (l : List ℕ). offsets_of (without_halves (placed_from a (take 2 l)))) (last_parts from p (omega arith))
    ∙ ap offsets_of (word_stays (byte_at a (get_or p from 0)) (byte_at (a + 1) (get_or p (from + 1) 0)) [] (first_word 0 from p s))
    ∙ ap (λ (m : ℕ). m ∷ ((a + 1) ∷ [])) e ∙ ap (λ (m : ℕ). (at + from) ∷ (m ∷ [])) (let d : a + 1 ≡ at + (from + 1) = omega arith in d)
spaced_placed (suc n) from at a p s e =
    let room = s.room in
    let gap = first_gap n from p s in
    let rest = placed_from (a + 1 + 1 + 1 + 1) (take (4 * n + 2) (drop (from + 4) p)) in
    let half = byte_at (a + 1 + 1) (get_or p (from + 2) 0) ∷ (byte_at (a + 1 + 1 + 1) (get_or p (from + 3) 0) ∷ rest) in
    ap (λ (m : ℕ). offsets_of (without_halves (placed_from a (take m (drop from p))))) (let d : 4 * suc n + 2 ≡ suc (suc (suc (suc (4 * n + 2)))) = omega arith in d)
    ∙ ap (λ (l : List ℕ). offsets_of (without_halves (placed_from a (take (suc (suc (suc (suc (4 * n + 2))))) l)))) (parts from p (omega arith))
    ∙ ap offsets_of (word_stays (byte_at a (get_or p from 0)) (byte_at (a + 1) (get_or p (from + 1) 0)) half (first_word (suc n) from p s))
    ∙ ap (λ (l : List Placed). a ∷ ((a + 1) ∷ offsets_of l)) (half_goes (byte_at (a + 1 + 1) (get_or p (from + 2) 0)) (byte_at (a + 1 + 1 + 1) (get_or p (from + 3) 0)) rest gap.0 gap.1)
    ∙ ap (λ (l : List ℕ). a ∷ ((a + 1) ∷ l)) (spaced_placed n (from + 4) at (a + 1 + 1 + 1 + 1) p (later n from p s) (omega arith))
    ∙ ap (λ (m : ℕ). m ∷ ((a + 1) ∷ places_of at (spaced_places n (from + 4)))) e
    ∙ ap (λ (m : ℕ). (at + from) ∷ (m ∷ places_of at (spaced_places n (from + 4)))) (let d : a + 1 ≡ at + (from + 1) = omega arith in d)

-- all seven gaps of a frame at the front
pub spaced_from : (p : List ℕ) → 30 ≤ length p → ((k : ℕ) → k < 8 → get_or p (4 * k) 0 ≢ 255) →
    ((k : ℕ) → k < 7 → (get_or p (4 * k + 2) 0 ≡ 255) × (get_or p (4 * k + 3) 0 ≡ 127)) → Spaced 7 0 p
spaced_from p l words gaps = record {
  room = omega arith;
  words = λ k h. subst (λ (i : ℕ). get_or p i 0 ≢ 255) (let e : 4 * k ≡ 0 + 4 * k = omega arith in e) (words k h);
  gaps = λ k h. let g = gaps k h in (
    (ap (λ (i : ℕ). get_or p i 0) (let e : 0 + 4 * k + 2 ≡ 4 * k + 2 = omega arith in e) ∙ g.0),
    (ap (λ (i : ℕ). get_or p i 0) (let e : 0 + 4 * k + 3 ≡ 4 * k + 3 = omega arith in e) ∙ g.1),
  );
}

-- FF does not begin it
pub spaced_begins : (p : List ℕ) → Spaced 7 0 p → (x : ℕ) (l : List ℕ) → p ≡ x ∷ l → x ≢ 255
spaced_begins p s x l e = λ q. first_word 7 0 p s (ap (λ (r : List ℕ). get_or r 0 0) e ∙ q)

-- eight bytes from an index on
pub chunk_at : (p chunk : List ℕ) (from i : ℕ) → IsFirstChunk (take (length p - from) (drop from p)) chunk 8 → i < 8 → get_or chunk i 0 ≡ get_or p (from + i) 0
chunk_at p chunk from i f l =
    ap (λ (xs : List ℕ). get_or xs i 0) (f.same ∙ ap (take 8) (take_rest p from)) ∙ get_or-take 8 (drop from p) i 0 l ∙ get_or-drop from p i 0

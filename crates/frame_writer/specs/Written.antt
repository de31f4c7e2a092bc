-- The frames that a list of tagged bytes is written as: this project's profile, in frames as CoreSight Architecture
-- Specification, Arm IHI 0029E (version 3.0), chapter 'Trace Formatter', its section on frames has them.
use Rattle.std.specs.Prelude.{ℕ, zero, suc, ◌+◌, ◌*◌, ◌/◌, ◌%◌, List, [], ◌∷◌, ◌++◌, length, Bool, true, false, not}
use Rattle.std.specs.Prelude.{◌==◌, ◌&&◌, if◌then◌else◌, Option, None, Some}
use Rattle.std.specs.List.{concat}
use Rattle.frame_grammar.specs.Port.{half_spelling}
use Rattle.frame_writer.specs.declared.pair.Pair.{Pair}

-- a byte of a source
pub record Tagged : Type 0 where
  pub id : ℕ
  pub byte : ℕ

-- the next byte, and those after it: after the last one come null bytes, as many as are needed
abbrev pub first : List Tagged → Tagged
first [] = record { id = 0; byte = 0 }
first (x ∷ t) = x

abbrev pub after_first : List Tagged → List Tagged
after_first [] = []
after_first (x ∷ t) = t

-- the ID in force, if there is one, is this
abbrev pub is_id : Option ℕ → ℕ → Bool
is_id None i = false
is_id (Some c) i = c == i

abbrev pub is_odd : ℕ → Bool
is_odd b = b % 2 == 1

-- a pair, the ID in force after it, and the bytes that are left
pub record Paired : Type 0 where
  pub pair : Pair
  pub id : Option ℕ
  pub rest : List Tagged

-- x, whose ID isn't in force: it is named at once
abbrev pub naming : Tagged → List Tagged → Paired
naming x t = record { pair = record { even = 2 * x.id + 1; aux = false; odd = x.byte }; id = Some x.id; rest = t }

-- x, whose ID is in force, and then y, which begins t: another ID is named after x; or else both are data, and u is
-- left
abbrev pub following : Option ℕ → Tagged → Tagged → List Tagged → List Tagged → Paired
following c x y t u =
    if y.id == x.id then record {
      pair = record { even = 2 * (x.byte / 2); aux = is_odd x.byte; odd = y.byte };
      id = c;
      rest = u;
    }
    else record { pair = record { even = 2 * y.id + 1; aux = true; odd = x.byte }; id = Some y.id; rest = t }

-- the next pair, where c is in force
abbrev pub paired : Option ℕ → List Tagged → Paired
paired c t =
    if is_id c (first t).id then following c (first t) (first (after_first t)) (after_first t)
    (after_first (after_first t))
    else naming (first t) (after_first t)

-- byte 14 with its auxiliary bit, the ID in force after it, and the bytes that are left
pub record Closed : Type 0 where
  pub even : ℕ
  pub aux : Bool
  pub id : Option ℕ
  pub rest : List Tagged

-- it is the next byte where c is its ID, or else it names the ID, and the byte stays
abbrev pub closed : Option ℕ → List Tagged → Closed
closed c t =
    if is_id c (first t).id then record {
      even = 2 * ((first t).byte / 2);
      aux = is_odd (first t).byte;
      id = c;
      rest = after_first t;
    }
    else record { even = 2 * (first t).id + 1; aux = false; id = Some (first t).id; rest = t }

-- this many pairs, in order, and byte 14
pub record Filled : Type 0 where
  pub pairs : List Pair
  pub end : Closed

abbrev pub with_pair : Pair → Filled → Filled
with_pair p f = record { pairs = p ∷ f.pairs; end = f.end }

unfoldable pub filled : ℕ → Option ℕ → List Tagged → Filled
filled zero c t = record { pairs = []; end = closed c t }
filled (suc n) c t = with_pair (paired c t).pair (filled n (paired c t).id (paired c t).rest)

-- pairs, with this many half synchronisations after each
abbrev pub spread : ℕ → List Pair → List ℕ
spread halves [] = []
spread halves (p ∷ pairs) = p.even ∷ (p.odd ∷ (half_spelling halves ++ spread halves pairs))

-- byte 15: the auxiliary bits of the pairs and then that of byte 14, from bit 0 up
abbrev pub bit : Bool → ℕ
bit b = if b then 1 else 0

abbrev pub aux_byte : List Pair → Bool → ℕ
aux_byte [] last = bit last
aux_byte (p ∷ pairs) last = bit p.aux + 2 * aux_byte pairs last

-- a full synchronisation comes before frame n
abbrev pub is_due : ℕ → ℕ → Bool
is_due every n = not (every == 0) && n % every == 0

abbrev pub sync : ℕ → ℕ → List ℕ
sync every n = if is_due every n then (0xFF ∷ (0xFF ∷ (0xFF ∷ (0x7F ∷ [])))) else []

-- the ID that the writer knows at the start of frame n: none after a full synchronisation
abbrev pub known : ℕ → ℕ → Option ℕ → Option ℕ
known every n c = if is_due every n then None else c

-- the bytes of frame n, with its synchronisations, of these pairs and this byte 14
unfoldable pub frame_bytes : ℕ → ℕ → ℕ → List Pair → ℕ → Bool → List ℕ
frame_bytes every halves n pairs even last =
    sync every n ++ (spread halves pairs ++ (even ∷ (aux_byte pairs last ∷ [])))

-- the frames after others, by the number of the next one and the ID in force after those before it
abbrev pub Later : Type 0
Later = ℕ → Option ℕ → List (List ℕ)

abbrev pub none_later : Later
none_later n c = []

-- frames from number n on, where the writer knows c, until all bytes are placed: at most this many, and then the later
-- ones
unfoldable pub frames_by : ℕ → ℕ → Later → ℕ → ℕ → Option ℕ → List Tagged → List (List ℕ)
frames_by every halves later zero n c t = later n c
frames_by every halves later (suc most) n c [] = later n c
frames_by every halves later (suc most) n c (x ∷ t) =
    let f = filled 7 (known every n c) (x ∷ t) in
    frame_bytes every halves n f.pairs f.end.even f.end.aux
    ∷ frames_by every halves later most (n + 1) f.end.id f.end.rest

-- each frame takes a byte, so there are at most as many frames as bytes
abbrev pub frames_from : ℕ → ℕ → Later → ℕ → Option ℕ → List Tagged → List (List ℕ)
frames_from every halves later n c t = frames_by every halves later (length t) n c t

-- The frames of segments, and then the later ones: each segment is filled with null bytes of its own, and the next one
-- goes on with the numbers and with the ID in force. An empty segment has no frame.
abbrev pub segments_then : ℕ → ℕ → Later → List (List Tagged) → Later
segments_then every halves later [] n c = later n c
segments_then every halves later (t ∷ segments) n c =
    frames_from every halves (λ n c. segments_then every halves later segments n c) n c t

-- the bytes of all segments
abbrev pub joined : List (List Tagged) → List Tagged
joined [] = []
joined (t ∷ segments) = t ++ joined segments

-- the frames of a list of segments, each with its synchronisations
abbrev pub segment_frames : ℕ → ℕ → List (List Tagged) → List (List ℕ)
segment_frames every halves segments = segments_then every halves none_later segments 0 None

-- the written segments
abbrev pub written_segments : ℕ → ℕ → List (List Tagged) → List ℕ
written_segments every halves segments = concat (segment_frames every halves segments)

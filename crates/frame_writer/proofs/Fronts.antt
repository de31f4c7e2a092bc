-- All frames but the last stay, whatever comes after them.
use Rattle.std.proofs.Common.{◌≡◌, ℕ, zero, suc, ◌+◌, ◌*◌, ◌/◌, ◌<◌, ◌≤◌, List, [], ◌∷◌, ◌++◌, refl, sym, ◌∙◌, ap, arith, subst, Bool, true, false, cond, Option, None, Some, append_assoc, append-nil, length, length-append}
use Rattle.std.specs.Prelude.{◌==◌}
use Rattle.std.specs.List.{concat}
use Rattle.std.proofs.lemmas.List.Folds.{concat-append}
use Rattle.frame_writer.specs.Written.{Tagged, is_id, paired, closed, Paired, Closed, Filled, with_pair, filled, frame_bytes, frames_by, frames_from, Later, none_later, segments_then, segment_frames, written_segments, known, following, naming, is_odd}
use Rattle.frame_writer.specs.Fronts.{all_but_last, sure_after}
use Rattle.frame_writer.proofs.Frames.{filled_zero, filled_suc, filled_fewer, filled_less, by_some, by_nothing}
use Rattle.frame_writer.proofs.Segments.{LeavesOff, frames_leave, segments_leave, segments_append}
use Rattle.frame_writer.proofs.Law.{filled_length}
use Rattle.frame_writer.proofs.Room.{frame_size, no_frames}

-- where bytes are left of a front, it is the same with more after them
abbrev more_closed : Closed → List Tagged → Closed
more_closed f u = record { even = f.even; aux = f.aux; id = f.id; rest = f.rest ++ u }

abbrev more_filled : Filled → List Tagged → Filled
more_filled f u = record { pairs = f.pairs; end = more_closed f.end u }

abbrev more_paired : Paired → List Tagged → Paired
more_paired p u = record { pair = p.pair; id = p.id; rest = p.rest ++ u }

empty_closed : (v : Bool) (a b : Closed) → length a.rest ≡ 0 → length b.rest ≡ 0 → length (cond v a b).rest ≡ 0
empty_closed true a b p q = p
empty_closed false a b p q = q

empty_paired : (v : Bool) (a b : Paired) → length a.rest ≡ 0 → length b.rest ≡ 0 → length (cond v a b).rest ≡ 0
empty_paired true a b p q = p
empty_paired false a b p q = q

abbrev none : Tagged
none = record { id = 0; byte = 0 }

following_empty : (c : Option ℕ) (x y : Tagged) → length (following c x y [] []).rest ≡ 0
following_empty c x y =
    empty_paired (y.id == x.id) (record { pair = record { even = 2 * (x.byte / 2); aux = is_odd x.byte; odd = y.byte }; id = c; rest = [] })
    (record { pair = record { even = 2 * y.id + 1; aux = true; odd = x.byte }; id = Some y.id; rest = [] }) refl refl

paired_none : (c : Option ℕ) → length (paired c []).rest ≡ 0
paired_none c = empty_paired (is_id c 0) (following c none none [] []) (naming none []) (following_empty c none none) refl

paired_one : (c : Option ℕ) (x : Tagged) → length (paired c (x ∷ [])).rest ≡ 0
paired_one c x = empty_paired (is_id c x.id) (following c x none [] []) (naming x []) (following_empty c x none) refl

both_closed : (v : Bool) (a b a' b' : Closed) (u : List Tagged) → a' ≡ more_closed a u → b' ≡ more_closed b u → cond v a' b' ≡ more_closed (cond v a b) u
both_closed true a b a' b' u p q = p
both_closed false a b a' b' u p q = q

both_paired : (v : Bool) (a b a' b' : Paired) (u : List Tagged) → a' ≡ more_paired a u → b' ≡ more_paired b u → cond v a' b' ≡ more_paired (cond v a b) u
both_paired true a b a' b' u p q = p
both_paired false a b a' b' u p q = q

closed_more : (c : Option ℕ) (t u : List Tagged) → 0 < length (closed c t).rest → closed c (t ++ u) ≡ more_closed (closed c t) u
closed_more c [] u h = absurd (let k : length (closed c []).rest ≡ 0 = empty_closed (is_id c 0) _ _ refl refl in omega arith)
closed_more c (x ∷ t) u h = both_closed (is_id c x.id) _ _ _ _ u refl refl

paired_more : (c : Option ℕ) (t u : List Tagged) → 0 < length (paired c t).rest → paired c (t ++ u) ≡ more_paired (paired c t) u
paired_more c [] u h =
    absurd (let k = paired_none c in omega arith)
paired_more c (x ∷ []) u h =
    absurd (let k = paired_one c x in omega arith)
paired_more c (x ∷ (y ∷ t)) u h = both_paired (is_id c x.id) _ _ _ _ u (both_paired (y.id == x.id) _ _ _ _ u refl refl) refl

pub filled_more : (n : ℕ) (c : Option ℕ) (t u : List Tagged) → 0 < length (filled n c t).end.rest → filled n c (t ++ u) ≡ more_filled (filled n c t) u
filled_more zero c t u h =
    let e = filled_zero c t in
    let k : 0 < length (closed c t).rest = subst (λ (f : Filled). 0 < length f.end.rest) e h in
    filled_zero c (t ++ u) ∙ ap (λ (x : Closed). record { pairs = []; end = x }) (closed_more c t u k) ∙ ap (λ (f : Filled). more_filled f u) (sym e)
filled_more (suc n) c t u h =
    let e = filled_suc n c t in
    let p = paired c t in
    let k : 0 < length (filled n p.id p.rest).end.rest = subst (λ (f : Filled). 0 < length f.end.rest) e h in
    let few = filled_fewer n p.id p.rest in
    let one = paired_more c t u (omega arith) in
    filled_suc n c (t ++ u)
    ∙ ap (λ (q : Paired). with_pair q.pair (filled n q.id q.rest)) one
    ∙ ap (with_pair p.pair) (filled_more n p.id p.rest u k)
    ∙ ap (λ (f : Filled). more_filled f u) (sym e)

module _ (every halves : ℕ) where
  -- a frame before others is not the last
  not_last : (head : List ℕ) (k n : ℕ) (c : Option ℕ) (y : Tagged) (r : List Tagged) → 0 < k →
      head ∷ all_but_last (frames_by every halves none_later k n c (y ∷ r)) ≡ all_but_last (head ∷ frames_by every halves none_later k n c (y ∷ r))
  not_last head zero n c y r h = absurd (omega arith)
  not_last head (suc k) n c y r h =
      ap (λ (l : List (List ℕ)). head ∷ all_but_last l) (by_some every halves none_later k n c y r)
      ∙ ap (λ (l : List (List ℕ)). all_but_last (head ∷ l)) (sym (by_some every halves none_later k n c y r))

  -- of frames of a list that is not empty, all but the last begin those of each longer list, and another comes after them
  pub frames_go_on : (k j n : ℕ) (c : Option ℕ) (x : Tagged) (t u : List Tagged) → length (x ∷ t) ≤ k → length (x ∷ (t ++ u)) ≤ j →
      (y : List ℕ) × (rest : List (List ℕ)) × (frames_by every halves none_later j n c (x ∷ (t ++ u)) ≡ all_but_last (frames_by every halves none_later k n c (x ∷ t)) ++ (y ∷ rest))
  frames_go_on zero j n c x t u l m = absurd (omega arith)
  frames_go_on (suc k) zero n c x t u l m = absurd (omega arith)
  frames_go_on (suc k) (suc j) n c x t u l m = by (filled 7 (known every n c) (x ∷ t)).end.rest refl (λ y r a b. frames_go_on k j (n + 1) (filled 7 (known every n c) (x ∷ t)).end.id y r u a b)
    where
      F : Filled
      F = filled 7 (known every n c) (x ∷ t)

      by : (r : List Tagged) → F.end.rest ≡ r →
          ((y : Tagged) (r : List Tagged) → length (y ∷ r) ≤ k → length (y ∷ (r ++ u)) ≤ j →
          (z : List ℕ) × (rest : List (List ℕ)) × (frames_by every halves none_later j (n + 1) F.end.id (y ∷ (r ++ u)) ≡ all_but_last (frames_by every halves none_later k (n + 1) F.end.id (y ∷ r)) ++ (z ∷ rest))) →
          (z : List ℕ) × (rest : List (List ℕ)) × (frames_by every halves none_later (suc j) n c (x ∷ (t ++ u)) ≡ all_but_last (frames_by every halves none_later (suc k) n c (x ∷ t)) ++ (z ∷ rest))
      by [] e more =
          let G = filled 7 (known every n c) (x ∷ (t ++ u)) in
          let one = by_some every halves none_later k n c x t ∙ ap (λ (r : List Tagged). frame_bytes every halves n F.pairs F.end.even F.end.aux ∷ frames_by every halves none_later k (n + 1) F.end.id r) e
          ∙ ap (λ (l : List (List ℕ)). frame_bytes every halves n F.pairs F.end.even F.end.aux ∷ l) (by_nothing every halves none_later k (n + 1) F.end.id) in (
            frame_bytes every halves n G.pairs G.end.even G.end.aux,
            frames_by every halves none_later j (n + 1) G.end.id G.end.rest,
            by_some every halves none_later j n c x (t ++ u)
                ∙ ap (λ (l : List (List ℕ)). all_but_last l ++ (frame_bytes every halves n G.pairs G.end.even G.end.aux ∷ frames_by every halves none_later j (n + 1) G.end.id G.end.rest)) (sym one),
          )
      by (y ∷ r) e more =
          let some : 0 < length F.end.rest = subst (λ (q : List Tagged). 0 < length q) (sym e) (omega arith) in
          let longer = filled_more 7 (known every n c) (x ∷ t) u some in
          let less = filled_less 6 (known every n c) x t in
          let len : length (y ∷ r) ≡ length F.end.rest = ap length (sym e) in
          let app = length-append t u in
          let app2 = length-append r u in
          let next = more y r (omega arith) (omega arith) in
          let head = frame_bytes every halves n F.pairs F.end.even F.end.aux in (
            next.0,
            next.1,
            by_some every halves none_later j n c x (t ++ u)
                ∙ ap (λ (f : Filled). frame_bytes every halves n f.pairs f.end.even f.end.aux ∷ frames_by every halves none_later j (n + 1) f.end.id f.end.rest) longer
                ∙ ap (λ (q : List Tagged). head ∷ frames_by every halves none_later j (n + 1) F.end.id (q ++ u)) e
                ∙ ap (λ (l : List (List ℕ)). head ∷ l) next.2
                ∙ ap (λ (l : List (List ℕ)). l ++ (next.0 ∷ next.1)) (not_last head k (n + 1) F.end.id y r (omega arith))
                ∙ ap (λ (q : List Tagged). all_but_last (head ∷ frames_by every halves none_later k (n + 1) F.end.id q) ++ (next.0 ∷ next.1)) (sym e)
                ∙ ap (λ (l : List (List ℕ)). all_but_last l ++ (next.0 ∷ next.1)) (sym (by_some every halves none_later k n c x t)),
          )

pub last_off : (a : List (List ℕ)) (y : List ℕ) (b : List (List ℕ)) → all_but_last (a ++ (y ∷ b)) ≡ a ++ all_but_last (y ∷ b)
last_off [] y b = refl
last_off (x ∷ []) y b = refl
last_off (x ∷ (z ∷ a)) y b = ap (λ (l : List (List ℕ)). x ∷ l) (last_off (z ∷ a) y b)

-- frames are short
abbrev AreShort : List (List ℕ) → Type 0
AreShort [] = Unit {0}
AreShort (f ∷ fs) = (length f ≤ 132) × AreShort fs

frames_short : (every halves k n : ℕ) (c : Option ℕ) (t : List Tagged) → halves ≤ 8 → AreShort (frames_by every halves none_later k n c t)
frames_short every halves k n c [] few = subst AreShort (sym (by_nothing every halves none_later k n c)) tt
frames_short every halves zero n c (x ∷ t) few = subst AreShort (sym (no_frames every halves none_later n c (x ∷ t))) tt
frames_short every halves (suc k) n c (x ∷ t) few =
    let f = filled 7 (known every n c) (x ∷ t) in
    let pairs = filled_length 7 (known every n c) (x ∷ t) in
    subst AreShort (sym (by_some every halves none_later k n c x t))
    (frame_size every halves n f.pairs f.end.even f.end.aux few (omega arith), frames_short every halves k (n + 1) f.end.id f.end.rest few)

-- all but the last begin them, and at most one more comes
abbrev HasFront : List (List ℕ) → Type 0
HasFront l = (rest : List ℕ) × (concat l ≡ concat (all_but_last l) ++ rest) × (length rest ≤ 132)

front_of : (l : List (List ℕ)) → AreShort l → HasFront l
front_of [] s = ([], refl, omega arith)
front_of (x ∷ []) s = (x, append-nil x, s.0)
front_of (x ∷ (y ∷ l)) s = let k = front_of (y ∷ l) s.1 in (k.0, ap (λ (z : List ℕ). x ++ z) k.1 ∙ sym (append_assoc x (concat (all_but_last (y ∷ l))) k.0), k.2)

front_any : (l : List (List ℕ)) → (rest : List ℕ) × (concat l ≡ concat (all_but_last l) ++ rest)
front_any [] = ([], refl)
front_any (x ∷ []) = (x, append-nil x)
front_any (x ∷ (y ∷ l)) = let k = front_any (y ∷ l) in (k.0, ap (λ (z : List ℕ). x ++ z) k.1 ∙ sym (append_assoc x (concat (all_but_last (y ∷ l))) k.0))

module _ (every halves : ℕ) (closed : List (List Tagged)) where
  -- where the closed segments leave off, and the frames after them
  abbrev left : LeavesOff every halves (λ later. segments_then every halves later closed 0 None)
  left = segments_leave every halves closed 0 None

  abbrev last_frames : List Tagged → List (List ℕ)
  last_frames t = frames_from every halves none_later left.number left.id t

  pub frames_are : (t : List Tagged) → segment_frames every halves (closed ++ t ∷ []) ≡ left.frames ++ last_frames t
  frames_are t = segments_append every halves none_later closed (t ∷ []) 0 None ∙ left.then (λ n c. segments_then every halves none_later (t ∷ []) n c)

  pub sure_is : (t : List Tagged) → sure_after every halves closed t ≡ concat left.frames ++ concat (all_but_last (last_frames t))
  sure_is t = ap concat (left.then (λ n c. all_but_last (frames_from every halves none_later n c t))) ∙ concat-append left.frames (all_but_last (last_frames t))

  no_last : last_frames [] ≡ []
  no_last = by_nothing every halves none_later zero left.number left.id

  -- of closed segments all is sure
  pub all_sure : sure_after every halves closed [] ≡ written_segments every halves closed
  all_sure =
      sure_is [] ∙ ap (λ (l : List (List ℕ)). concat left.frames ++ concat (all_but_last l)) no_last ∙ append-nil (concat left.frames)
      ∙ ap concat (sym (append-nil left.frames) ∙ sym (left.then none_later))

  -- and an empty segment has nothing
  pub none_last : written_segments every halves (closed ++ [] ∷ []) ≡ written_segments every halves closed
  none_last = ap concat (frames_are [] ∙ ap (λ (l : List (List ℕ)). left.frames ++ l) no_last ∙ sym (left.then none_later))

  -- where there are bytes, all frames but the last are sure
  pub sure_all : (s : List Tagged) → 0 < length s → sure_after every halves closed s ≡ concat (all_but_last (segment_frames every halves (closed ++ s ∷ [])))
  sure_all [] h = absurd (omega arith)
  sure_all (x ∷ s) h =
      let e = by_some every halves none_later (length s) left.number left.id x s in
      let front = left.frames in
      sure_is (x ∷ s) ∙ ap (λ (l : List (List ℕ)). concat front ++ concat (all_but_last l)) e ∙ sym (concat-append front _) ∙ ap concat (sym (last_off front _ _))
      ∙ ap (λ (l : List (List ℕ)). concat (all_but_last (front ++ l))) (sym e) ∙ ap (λ (l : List (List ℕ)). concat (all_but_last l)) (sym (frames_are (x ∷ s)))

  -- what is sure stays
  pub sure_grows : (t u : List Tagged) → (rest : List ℕ) × (sure_after every halves closed (t ++ u) ≡ sure_after every halves closed t ++ rest)
  sure_grows [] u = (
    concat (all_but_last (last_frames u)),
    sure_is u ∙ ap (λ (l : List ℕ). l ++ concat (all_but_last (last_frames u)))
        (sym (sure_is [] ∙ ap (λ (l : List (List ℕ)). concat left.frames ++ concat (all_but_last l)) no_last ∙ append-nil (concat left.frames))),
  )
  sure_grows (x ∷ t) u =
      let n = frames_go_on every halves (length (x ∷ t)) (length (x ∷ (t ++ u))) left.number left.id x t u (omega arith) (omega arith) in
      let front = all_but_last (last_frames (x ∷ t)) in
      let rest = concat (all_but_last (n.0 ∷ n.1)) in (
        rest,
        sure_is (x ∷ (t ++ u)) ∙ ap (λ (l : List (List ℕ)). concat left.frames ++ concat (all_but_last l)) n.2
            ∙ ap (λ (l : List ℕ). concat left.frames ++ l) (ap concat (last_off front n.0 n.1) ∙ concat-append front (all_but_last (n.0 ∷ n.1)))
            ∙ sym (append_assoc (concat left.frames) (concat front) rest) ∙ ap (λ (l : List ℕ). l ++ rest) (sym (sure_is (x ∷ t))),
      )

  -- and stays where the segment is closed
  pub sure_closes : (t u : List Tagged) → (rest : List ℕ) × (sure_after every halves (closed ++ t ∷ []) u ≡ sure_after every halves closed t ++ rest)
  sure_closes t u =
      let one = frames_leave every halves (length t) left.number left.id t in
      let last : Later = λ n c. all_but_last (frames_from every halves none_later n c u) in
      let more = concat (last one.number one.id) in
      let front = front_any (last_frames t) in
      let alone : concat one.frames ≡ concat (last_frames t) = ap concat (sym (append-nil one.frames) ∙ sym (one.then none_later)) in (
        front.0 ++ more,
        ap concat (segments_append every halves last closed (t ∷ []) 0 None ∙ left.then (λ n c. segments_then every halves last (t ∷ []) n c)
            ∙ ap (λ (l : List (List ℕ)). left.frames ++ l) (one.then last))
            ∙ concat-append left.frames (one.frames ++ last one.number one.id)
            ∙ ap (λ (l : List ℕ). concat left.frames ++ l) (concat-append one.frames (last one.number one.id) ∙ ap (λ (l : List ℕ). l ++ more) (alone ∙ front.1)
            ∙ append_assoc (concat (all_but_last (last_frames t))) front.0 more)
            ∙ sym (append_assoc (concat left.frames) (concat (all_but_last (last_frames t))) (front.0 ++ more))
            ∙ ap (λ (l : List ℕ). l ++ (front.0 ++ more)) (sym (sure_is t)),
      )

  -- and what is sure begins the written segments, which are at most one frame longer
  pub sure_begins : (t : List Tagged) → halves ≤ 8 → (rest : List ℕ) × (written_segments every halves (closed ++ t ∷ []) ≡ sure_after every halves closed t ++ rest) × (length rest ≤ 132)
  sure_begins t few =
      let front = front_of (last_frames t) (frames_short every halves (length t) left.number left.id t few) in (
        front.0,
        ap concat (frames_are t) ∙ concat-append left.frames (last_frames t) ∙ ap (λ (l : List ℕ). concat left.frames ++ l) front.1
            ∙ sym (append_assoc (concat left.frames) (concat (all_but_last (last_frames t))) front.0) ∙ ap (λ (l : List ℕ). l ++ front.0) (sym (sure_is t)),
        front.2,
      )

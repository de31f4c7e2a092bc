-- How the frames of the next tagged bytes come one byte after the other.
use Rattle.std.proofs.Common.{◌≡◌, ℕ, zero, suc, ◌+◌, ◌-◌, ◌*◌, ◌/◌, ◌<◌, ◌≤◌, List, [], ◌∷◌, ◌++◌, refl, sym, ◌∙◌, ap, arith, subst, Bool, true, false, cond, Option, None, Some, append_assoc, append-nil, length}
use Rattle.std.specs.Prelude.{◌==◌, ◌&&◌, not, nat_lt}
use Rattle.std.proofs.lemmas.Bool.Decides.{nat_tests}
use Rattle.std.proofs.lemmas.List.{length_push}
use Rattle.std.proofs.lemmas.Bool.{eqb-true, and_parts}
use Rattle.frame_writer.specs.declared.pair.Pair.{Pair}
use Rattle.frame_writer.specs.Written.{Tagged, Later, segments_then, first, after_first, is_id, paired, closed, Paired, Closed, Filled, with_pair, filled, frame_bytes, frames_by, frames_from, known, is_due, following, naming, is_odd}
use Rattle.frame_writer.specs.Unfinished.{queued, middle, continued, is_empty, is_sound}

pub filled_zero : (c : Option ℕ) (t : List Tagged) → filled zero c t ≡ record { pairs = []; end = closed c t }
unfolding filled
filled_zero c t = refl

pub filled_suc : (n : ℕ) (c : Option ℕ) (t : List Tagged) → filled (suc n) c t ≡ with_pair (paired c t).pair (filled n (paired c t).id (paired c t).rest)
unfolding filled
filled_suc n c t = refl

-- what is left is no longer than what was there, and shorter where a pair was filled
fewer_cond : (b : Bool) (x y : Paired) (n : ℕ) → length x.rest ≤ n → length y.rest ≤ n → length (cond b x y).rest ≤ n
fewer_cond true x y n h k = h
fewer_cond false x y n h k = k

behind_fewer : (t : List Tagged) → length (after_first t) ≤ length t - 1
behind_fewer [] = omega arith
behind_fewer (x ∷ t) = omega arith

paired_fewer : (c : Option ℕ) (t : List Tagged) → length (paired c t).rest ≤ length t - 1
paired_fewer c t =
    let a = behind_fewer t in
    let b = behind_fewer (after_first t) in
    fewer_cond (is_id c (first t).id) _ _ (length t - 1)
    (fewer_cond ((first (after_first t)).id == (first t).id) _ _ (length t - 1) (omega arith) a) a

closed_cond : (b : Bool) (x y : Closed) (n : ℕ) → length x.rest ≤ n → length y.rest ≤ n → length (cond b x y).rest ≤ n
closed_cond true x y n h k = h
closed_cond false x y n h k = k

closed_fewer : (c : Option ℕ) (t : List Tagged) → length (closed c t).rest ≤ length t
closed_fewer c t = closed_cond (is_id c (first t).id) _ _ (length t) (let a = behind_fewer t in omega arith) (omega arith)

pub filled_fewer : (n : ℕ) (c : Option ℕ) (t : List Tagged) → length (filled n c t).end.rest ≤ length t
filled_fewer zero c t = subst (λ (f : Filled). length f.end.rest ≤ length t) (sym (filled_zero c t)) (closed_fewer c t)
filled_fewer (suc n) c t =
    subst (λ (f : Filled). length f.end.rest ≤ length t) (sym (filled_suc n c t))
    (let a = filled_fewer n (paired c t).id (paired c t).rest in let b = paired_fewer c t in omega arith)

pub filled_less : (n : ℕ) (c : Option ℕ) (x : Tagged) (t : List Tagged) → length (filled (suc n) c (x ∷ t)).end.rest ≤ length t
filled_less n c x t =
    subst (λ (f : Filled). length f.end.rest ≤ length t) (sym (filled_suc n c (x ∷ t)))
    (let a = filled_fewer n (paired c (x ∷ t)).id (paired c (x ∷ t)).rest in let b = paired_fewer c (x ∷ t) in omega arith)

all_true : (k i a : ℕ) (x : Bool) → x ≡ true → 0 < i → a < 7 → (k == i) ≡ true → ((nat_lt 0 k && nat_lt a 7) && x) ≡ true
all_true k i a true e p l d = grind (arith, nat_tests)
all_true k i a false e p l d = cc

-- a byte may be held where there is room for a pair
held_sound : (every n : ℕ) (pairs : List Pair) (c held : Option ℕ) (i h : ℕ) → is_sound every n pairs c held ≡ true → held ≡ None → 0 < i → length pairs < 7 → is_id c i ≡ true →
    is_sound every n pairs c (Some h) ≡ true
held_sound every n pairs None held i h s e p l d = cc
held_sound every n pairs (Some k) None i h s e p l d = all_true k i (length pairs) (not (is_empty pairs && is_due every n)) s p l d
held_sound every n pairs (Some k) (Some b) i h s e p l d = cc

module _ (every halves : ℕ) (later : Later) where
  pub by_nothing : (k n : ℕ) (c : Option ℕ) → frames_by every halves later k n c [] ≡ later n c
  unfolding frames_by
  by_nothing zero n c = refl
  by_nothing (suc k) n c = refl

  pub by_some : (k n : ℕ) (c : Option ℕ) (x : Tagged) (t : List Tagged) → frames_by every halves later (suc k) n c (x ∷ t) ≡
      frame_bytes every halves n (filled 7 (known every n c) (x ∷ t)).pairs (filled 7 (known every n c) (x ∷ t)).end.even (filled 7 (known every n c) (x ∷ t)).end.aux
      ∷ frames_by every halves later k (n + 1) (filled 7 (known every n c) (x ∷ t)).end.id (filled 7 (known every n c) (x ∷ t)).end.rest
  unfolding frames_by
  by_some k n c x t = refl

  -- more frames than bytes change nothing
  pub enough : (k j n : ℕ) (c : Option ℕ) (t : List Tagged) → length t ≤ k → length t ≤ j → frames_by every halves later k n c t ≡ frames_by every halves later j n c t
  enough k j n c [] h i = by_nothing k n c ∙ sym (by_nothing j n c)
  enough zero j n c (x ∷ t) h i = absurd (omega arith)
  enough (suc k) zero n c (x ∷ t) h i = absurd (omega arith)
  enough (suc k) (suc j) n c (x ∷ t) h i =
      let l = filled_less 6 (known every n c) x t in
      by_some k n c x t
      ∙ ap (λ r. frame_bytes every halves n (filled 7 (known every n c) (x ∷ t)).pairs (filled 7 (known every n c) (x ∷ t)).end.even (filled 7 (known every n c) (x ∷ t)).end.aux ∷ r)
      (enough k j (n + 1) (filled 7 (known every n c) (x ∷ t)).end.id (filled 7 (known every n c) (x ∷ t)).end.rest (omega arith) (omega arith))
      ∙ sym (by_some j n c x t)

  -- a frame is begun
  pub opens : (n : ℕ) (c : Option ℕ) (x : Tagged) (t : List Tagged) → frames_from every halves later n c (x ∷ t) ≡ middle every halves later n [] (known every n c) (x ∷ t)
  opens n c x t =
      let f = filled 7 (known every n c) (x ∷ t) in
      let l = filled_less 6 (known every n c) x t in
      by_some (length t) n c x t
      ∙ ap (λ r. frame_bytes every halves n f.pairs f.end.even f.end.aux ∷ r) (enough (length t) (length f.end.rest) (n + 1) f.end.id f.end.rest l (omega arith))

  pub nothing : (n : ℕ) (c : Option ℕ) → frames_from every halves later n c [] ≡ later n c
  nothing n c = by_nothing zero n c

  known_twice : (n : ℕ) (c : Option ℕ) → known every n (known every n c) ≡ known every n c
  known_twice n c = again (is_due every n) where
    again : (b : Bool) → cond b None (cond b None c) ≡ cond b None c
    again true = refl
    again false = refl

  -- what the writer knows at a frame's start is all that counts
  pub as_known : ((n : ℕ) (c : Option ℕ) → later n c ≡ later n (known every n c)) → (n : ℕ) (c : Option ℕ) (t : List Tagged) → frames_from every halves later n c t ≡ frames_from every halves later n (known every n c) t
  as_known e n c [] = nothing n c ∙ e n c ∙ sym (nothing n (known every n c))
  as_known e n c (x ∷ t) = opens n c x t ∙ ap (λ k. middle every halves later n [] k (x ∷ t)) (sym (known_twice n c)) ∙ sym (opens n (known every n c) x t)

  -- one more pair
  pub takes : (n : ℕ) (pairs : List Pair) (c : Option ℕ) (t : List Tagged) → length pairs < 7 →
      middle every halves later n pairs c t ≡ middle every halves later n (pairs ++ (paired c t).pair ∷ []) (paired c t).id (paired c t).rest
  takes n pairs c t h =
      let p = paired c t in
      let m : 7 - length pairs ≡ suc (7 - length (pairs ++ p.pair ∷ [])) = (let k = length_push pairs p.pair in omega arith) in
      let g = filled (7 - length (pairs ++ p.pair ∷ [])) p.id p.rest in
      let e : filled (7 - length pairs) c t ≡ with_pair p.pair g = ap (λ r. filled r c t) m ∙ filled_suc (7 - length (pairs ++ p.pair ∷ [])) c t in
      ap (λ (f : Filled). frame_bytes every halves n (pairs ++ f.pairs) f.end.even f.end.aux ∷ frames_from every halves later (n + 1) f.end.id f.end.rest) e
      ∙ ap (λ l. frame_bytes every halves n l g.end.even g.end.aux ∷ frames_from every halves later (n + 1) g.end.id g.end.rest) (sym (append_assoc pairs (p.pair ∷ []) g.pairs))

  -- byte 14
  pub closes : (n : ℕ) (pairs : List Pair) (c : Option ℕ) (t : List Tagged) → length pairs ≡ 7 →
      middle every halves later n pairs c t ≡ frame_bytes every halves n pairs (closed c t).even (closed c t).aux ∷ frames_from every halves later (n + 1) (closed c t).id (closed c t).rest
  closes n pairs c t h =
      let m : 7 - length pairs ≡ zero = omega arith in
      let e : filled (7 - length pairs) c t ≡ record { pairs = []; end = closed c t } = ap (λ r. filled r c t) m ∙ filled_zero c t in
      ap (λ (f : Filled). frame_bytes every halves n (pairs ++ f.pairs) f.end.even f.end.aux ∷ frames_from every halves later (n + 1) f.end.id f.end.rest) e
      ∙ ap (λ l. frame_bytes every halves n l (closed c t).even (closed c t).aux ∷ frames_from every halves later (n + 1) (closed c t).id (closed c t).rest) (append-nil pairs)

same_id : (i : ℕ) → (i == i) ≡ true
same_id i = grind (arith, nat_tests)

not_eq : (i j : ℕ) → (i == j) ≡ false → (j == i) ≡ false
not_eq i j e = grind (arith, nat_tests)

module _ (every halves : ℕ) (later : Later) where
  due_not : (b : Bool) (i : ℕ) → not (true && b) ≡ true → cond b None (Some i) ≡ Some i
  due_not true i e = cc
  due_not false i e = refl

  either : (b : Bool) (c : Option ℕ) → cond b c c ≡ c
  either true c = refl
  either false c = refl

  known_is : (n : ℕ) (c held : Option ℕ) → is_sound every n [] c held ≡ true → known every n c ≡ c
  known_is n None held e = either (is_due every n) None
  known_is n (Some i) None e = due_not (is_due every n) i e
  known_is n (Some i) (Some b) e = due_not (is_due every n) i (and_parts (nat_lt 0 i && true) (not (true && is_due every n)) e).1

  in_middle : (n : ℕ) (pairs : List Pair) (c held : Option ℕ) (t u : List Tagged) (x : Tagged) → is_sound every n pairs c held ≡ true → queued held c t ≡ x ∷ u →
      continued every halves later n pairs c held t ≡ middle every halves later n pairs c (x ∷ u)
  in_middle n [] c held t u x s e = ap (frames_from every halves later n c) e ∙ opens every halves later n c x u ∙ ap (λ k. middle every halves later n [] k (x ∷ u)) (known_is n c held s)
  in_middle n (p ∷ pairs) c held t u x s e = ap (middle every halves later n (p ∷ pairs) c) e

  out_of_middle : (n : ℕ) (pairs : List Pair) (p : Pair) (c : Option ℕ) (t : List Tagged) →
      middle every halves later n (pairs ++ p ∷ []) c t ≡ continued every halves later n (pairs ++ p ∷ []) c None t
  out_of_middle n [] p c t = refl
  out_of_middle n (q ∷ pairs) p c t = refl

  paired_named : (c : Option ℕ) (x : Tagged) (t : List Tagged) → is_id c x.id ≡ false → paired c (x ∷ t) ≡ naming x t
  paired_named c x t e = ap (λ b. cond b (following c x (first t) t (after_first t)) (naming x t)) e

  pub names : (n : ℕ) (pairs : List Pair) (c : Option ℕ) (i b : ℕ) (t : List Tagged) → is_sound every n pairs c None ≡ true → length pairs < 7 → is_id c i ≡ false →
      continued every halves later n pairs c None (record { id = i; byte = b } ∷ t)
      ≡ continued every halves later n (pairs ++ record { even = 2 * i + 1; aux = false; odd = b } ∷ []) (Some i) None t
  names n pairs c i b t s h e =
      in_middle n pairs c None _ t (record { id = i; byte = b }) s refl
      ∙ takes every halves later n pairs c (record { id = i; byte = b } ∷ t) h
      ∙ ap (λ (p : Paired). middle every halves later n (pairs ++ p.pair ∷ []) p.id p.rest) (paired_named c (record { id = i; byte = b }) t e)
      ∙ out_of_middle n pairs (record { even = 2 * i + 1; aux = false; odd = b }) (Some i) t

  pub holds : (n : ℕ) (pairs : List Pair) (c : Option ℕ) (i b : ℕ) (t : List Tagged) → is_id c i ≡ true →
      continued every halves later n pairs c None (record { id = i; byte = b } ∷ t) ≡ continued every halves later n pairs c (Some b) t
  holds n pairs None i b t e = cc
  holds n [] (Some k) i b t e = ap (λ j. frames_from every halves later n (Some k) (record { id = j; byte = b } ∷ t)) (sym (eqb-true k i e))
  holds n (p ∷ pairs) (Some k) i b t e = ap (λ j. middle every halves later n (p ∷ pairs) (Some k) (record { id = j; byte = b } ∷ t)) (sym (eqb-true k i e))

  pub follows : (n : ℕ) (pairs : List Pair) (c : Option ℕ) (i h b : ℕ) (t : List Tagged) → is_sound every n pairs c (Some h) ≡ true → length pairs < 7 → is_id c i ≡ true →
      continued every halves later n pairs c (Some h) (record { id = i; byte = b } ∷ t)
      ≡ continued every halves later n (pairs ++ record { even = 2 * (h / 2); aux = is_odd h; odd = b } ∷ []) c None t
  follows n pairs None i h b t s l e = cc
  follows n pairs (Some k) i h b t s l e =
      let x : Tagged = record { id = k; byte = h } in
      let y : Tagged = record { id = i; byte = b } in
      let is : (i == k) ≡ true = ap (λ j. i == j) (eqb-true k i e) ∙ same_id i in
      in_middle n pairs (Some k) (Some h) _ (y ∷ t) x s refl
      ∙ takes every halves later n pairs (Some k) (x ∷ (y ∷ t)) l
      ∙ ap (λ (p : Paired). middle every halves later n (pairs ++ p.pair ∷ []) p.id p.rest)
      (ap (λ q. cond q (following (Some k) x y (y ∷ t) t) (naming x (y ∷ t))) (same_id k)
      ∙ ap (λ q. cond q (record { pair = record { even = 2 * (h / 2); aux = is_odd h; odd = b }; id = Some k; rest = t }) (record { pair = record { even = 2 * i + 1; aux = true; odd = h }; id = Some i; rest = y ∷ t })) is)
      ∙ out_of_middle n pairs (record { even = 2 * (h / 2); aux = is_odd h; odd = b }) (Some k) t

  pub defers : (n : ℕ) (pairs : List Pair) (c : Option ℕ) (i h b : ℕ) (t : List Tagged) → is_sound every n pairs c (Some h) ≡ true → length pairs < 7 → is_id c i ≡ false →
      continued every halves later n pairs c (Some h) (record { id = i; byte = b } ∷ t)
      ≡ continued every halves later n (pairs ++ record { even = 2 * i + 1; aux = true; odd = h } ∷ []) (Some i) None (record { id = i; byte = b } ∷ t)
  defers n pairs None i h b t s l e = cc
  defers n pairs (Some k) i h b t s l e =
      let x : Tagged = record { id = k; byte = h } in
      let y : Tagged = record { id = i; byte = b } in
      in_middle n pairs (Some k) (Some h) _ (y ∷ t) x s refl
      ∙ takes every halves later n pairs (Some k) (x ∷ (y ∷ t)) l
      ∙ ap (λ (p : Paired). middle every halves later n (pairs ++ p.pair ∷ []) p.id p.rest)
      (ap (λ q. cond q (following (Some k) x y (y ∷ t) t) (naming x (y ∷ t))) (same_id k)
      ∙ ap (λ q. cond q (record { pair = record { even = 2 * (h / 2); aux = is_odd h; odd = b }; id = Some k; rest = t }) (record { pair = record { even = 2 * i + 1; aux = true; odd = h }; id = Some i; rest = y ∷ t })) (not_eq k i e))
      ∙ out_of_middle n pairs (record { even = 2 * i + 1; aux = true; odd = h }) (Some i) (y ∷ t)

  closed_end : (n : ℕ) (pairs : List Pair) (d e : Closed) → d ≡ e →
      frame_bytes every halves n pairs d.even d.aux ∷ frames_from every halves later (n + 1) d.id d.rest ≡ frame_bytes every halves n pairs e.even e.aux ∷ frames_from every halves later (n + 1) e.id e.rest
  closed_end n pairs d e k = ap (λ (f : Closed). frame_bytes every halves n pairs f.even f.aux ∷ frames_from every halves later (n + 1) f.id f.rest) k

  pub ends : (n : ℕ) (pairs : List Pair) (c : Option ℕ) (i b : ℕ) (t : List Tagged) → is_sound every n pairs c None ≡ true → length pairs ≡ 7 → is_id c i ≡ true →
      continued every halves later n pairs c None (record { id = i; byte = b } ∷ t) ≡ frame_bytes every halves n pairs (2 * (b / 2)) (is_odd b) ∷ frames_from every halves later (n + 1) c t
  ends n pairs c i b t s h e =
      let x : Tagged = record { id = i; byte = b } in
      in_middle n pairs c None _ t x s refl ∙ closes every halves later n pairs c (x ∷ t) h
      ∙ closed_end n pairs (closed c (x ∷ t)) (record { even = 2 * (b / 2); aux = is_odd b; id = c; rest = t })
      (ap (λ q. cond q (record { even = 2 * (b / 2); aux = is_odd b; id = c; rest = t }) (record { even = 2 * i + 1; aux = false; id = Some i; rest = x ∷ t })) e)

  pub ends_named : (n : ℕ) (pairs : List Pair) (c : Option ℕ) (i b : ℕ) (t : List Tagged) → is_sound every n pairs c None ≡ true → length pairs ≡ 7 → is_id c i ≡ false →
      continued every halves later n pairs c None (record { id = i; byte = b } ∷ t)
      ≡ frame_bytes every halves n pairs (2 * i + 1) false ∷ frames_from every halves later (n + 1) (Some i) (record { id = i; byte = b } ∷ t)
  ends_named n pairs c i b t s h e =
      let x : Tagged = record { id = i; byte = b } in
      in_middle n pairs c None _ t x s refl ∙ closes every halves later n pairs c (x ∷ t) h
      ∙ closed_end n pairs (closed c (x ∷ t)) (record { even = 2 * i + 1; aux = false; id = Some i; rest = x ∷ t })
      (ap (λ q. cond q (record { even = 2 * (b / 2); aux = is_odd b; id = c; rest = t }) (record { even = 2 * i + 1; aux = false; id = Some i; rest = x ∷ t })) e)

  -- the next frame begins
  pub begins : ((n : ℕ) (c : Option ℕ) → later n c ≡ later n (known every n c)) → (n : ℕ) (pairs : List Pair) (c held : Option ℕ) (t : List Tagged) → pairs ≡ [] → held ≡ None → is_due every n ≡ true →
      frames_from every halves later n c t ≡ continued every halves later n pairs None held t
  begins k n pairs c held t e h d =
      as_known every halves later k n c t ∙ ap (λ b. frames_from every halves later n (cond b None c) t) d
      ∙ ap (λ (k : Option ℕ). continued every halves later n [] None k t) (sym h) ∙ ap (λ (l : List Pair). continued every halves later n l None held t) (sym e)

  -- or none is begun
  pub waits : (n : ℕ) (pairs : List Pair) (c held : Option ℕ) (t : List Tagged) → pairs ≡ [] → held ≡ None → frames_from every halves later n c t ≡ continued every halves later n pairs c held t
  waits n pairs c held t e h =
      ap (λ (k : Option ℕ). continued every halves later n [] c k t) (sym h) ∙ ap (λ (l : List Pair). continued every halves later n l c held t) (sym e)

  -- the same between the parts of a writer before and after
  no_held : (n : ℕ) (pairs : List Pair) (c held : Option ℕ) → is_sound every n pairs c held ≡ true → held ≡ None → is_sound every n pairs c None ≡ true
  no_held n pairs c held s e = subst (λ (h : Option ℕ). is_sound every n pairs c h ≡ true) e s

  pub named : (n : ℕ) (pairs pairs' : List Pair) (c held : Option ℕ) (i b : ℕ) (t : List Tagged) → is_sound every n pairs c held ≡ true → held ≡ None → length pairs < 7 → is_id c i ≡ false →
      pairs' ≡ pairs ++ record { even = 2 * i + 1; aux = false; odd = b } ∷ [] →
      continued every halves later n pairs c held (record { id = i; byte = b } ∷ t) ≡ continued every halves later n pairs' (Some i) held t
  named n pairs pairs' c held i b t s e h d k =
      ap (λ (x : Option ℕ). continued every halves later n pairs c x (record { id = i; byte = b } ∷ t)) e
      ∙ names n pairs c i b t (no_held n pairs c held s e) h d
      ∙ ap (λ (l : List Pair). continued every halves later n l (Some i) None t) (sym k)
      ∙ ap (λ (x : Option ℕ). continued every halves later n pairs' (Some i) x t) (sym e)

  pub kept : (n : ℕ) (pairs : List Pair) (c held : Option ℕ) (i b : ℕ) (t : List Tagged) → held ≡ None → is_id c i ≡ true →
      continued every halves later n pairs c held (record { id = i; byte = b } ∷ t) ≡ continued every halves later n pairs c (Some b) t
  kept n pairs c held i b t e d = ap (λ (x : Option ℕ). continued every halves later n pairs c x (record { id = i; byte = b } ∷ t)) e ∙ holds n pairs c i b t d

  pub ended : (n : ℕ) (pairs : List Pair) (c held : Option ℕ) (i b : ℕ) (t : List Tagged) (out : List ℕ) (after : List (List ℕ)) → is_sound every n pairs c held ≡ true → held ≡ None → length pairs ≡ 7 → is_id c i ≡ true →
      out ≡ frame_bytes every halves n pairs (2 * (b / 2)) (is_odd b) → frames_from every halves later (n + 1) c t ≡ after →
      continued every halves later n pairs c held (record { id = i; byte = b } ∷ t) ≡ out ∷ after
  ended n pairs c held i b t out after s e h d k l =
      ap (λ (x : Option ℕ). continued every halves later n pairs c x (record { id = i; byte = b } ∷ t)) e
      ∙ ends n pairs c i b t (no_held n pairs c held s e) h d ∙ ap (λ x. frame_bytes every halves n pairs (2 * (b / 2)) (is_odd b) ∷ x) l ∙ ap (λ x. x ∷ after) (sym k)

  pub ended_named : (n : ℕ) (pairs : List Pair) (c held : Option ℕ) (i b : ℕ) (t : List Tagged) (out : List ℕ) (after : List (List ℕ)) → is_sound every n pairs c held ≡ true → held ≡ None → length pairs ≡ 7 → is_id c i ≡ false →
      out ≡ frame_bytes every halves n pairs (2 * i + 1) false → frames_from every halves later (n + 1) (Some i) (record { id = i; byte = b } ∷ t) ≡ after →
      continued every halves later n pairs c held (record { id = i; byte = b } ∷ t) ≡ out ∷ after
  ended_named n pairs c held i b t out after s e h d k l =
      ap (λ (x : Option ℕ). continued every halves later n pairs c x (record { id = i; byte = b } ∷ t)) e
      ∙ ends_named n pairs c i b t (no_held n pairs c held s e) h d ∙ ap (λ x. frame_bytes every halves n pairs (2 * i + 1) false ∷ x) l ∙ ap (λ x. x ∷ after) (sym k)

  pub followed : (n : ℕ) (pairs pairs' : List Pair) (c held : Option ℕ) (i h b even : ℕ) (t : List Tagged) → is_sound every n pairs c held ≡ true → held ≡ Some h → length pairs < 7 → is_id c i ≡ true →
      even ≡ 2 * (h / 2) → pairs' ≡ pairs ++ record { even = even; aux = is_odd h; odd = b } ∷ [] →
      continued every halves later n pairs c held (record { id = i; byte = b } ∷ t) ≡ continued every halves later n pairs' c None t
  followed n pairs pairs' c held i h b even t s e l d v k =
      ap (λ (x : Option ℕ). continued every halves later n pairs c x (record { id = i; byte = b } ∷ t)) e
      ∙ follows n pairs c i h b t (subst (λ (x : Option ℕ). is_sound every n pairs c x ≡ true) e s) l d
      ∙ ap (λ (x : ℕ). continued every halves later n (pairs ++ record { even = x; aux = is_odd h; odd = b } ∷ []) c None t) (sym v)
      ∙ ap (λ (x : List Pair). continued every halves later n x c None t) (sym k)

  -- two bytes of the ID in force are a pair
  pub joined : (n : ℕ) (pairs pairs' : List Pair) (c held : Option ℕ) (i h b even : ℕ) (t : List Tagged) → is_sound every n pairs c held ≡ true → held ≡ None → length pairs < 7 → 0 < i → is_id c i ≡ true →
      even ≡ 2 * (h / 2) → pairs' ≡ pairs ++ record { even = even; aux = is_odd h; odd = b } ∷ [] →
      continued every halves later n pairs c held (record { id = i; byte = h } ∷ (record { id = i; byte = b } ∷ t)) ≡ continued every halves later n pairs' c None t
  joined n pairs pairs' c held i h b even t s e l p d v k =
      kept n pairs c held i h (record { id = i; byte = b } ∷ t) e d
      ∙ followed n pairs pairs' c (Some h) i h b even t (held_sound every n pairs c held i h s e p l d) refl l d v k

  pub deferred : (n : ℕ) (pairs pairs' : List Pair) (c held : Option ℕ) (i h b : ℕ) (t : List Tagged) (after : List (List ℕ)) → is_sound every n pairs c held ≡ true → held ≡ Some h → length pairs < 7 → is_id c i ≡ false →
      pairs' ≡ pairs ++ record { even = 2 * i + 1; aux = true; odd = h } ∷ [] → continued every halves later n pairs' (Some i) None (record { id = i; byte = b } ∷ t) ≡ after →
      continued every halves later n pairs c held (record { id = i; byte = b } ∷ t) ≡ after
  deferred n pairs pairs' c held i h b t after s e l d k m =
      ap (λ (x : Option ℕ). continued every halves later n pairs c x (record { id = i; byte = b } ∷ t)) e
      ∙ defers n pairs c i h b t (subst (λ (x : Option ℕ). is_sound every n pairs c x ≡ true) e s) l d
      ∙ ap (λ (x : List Pair). continued every halves later n x (Some i) None (record { id = i; byte = b } ∷ t)) (sym k) ∙ m

small : (i a b : ℕ) (x : Bool) → ((nat_lt 0 i && nat_lt a b) && x) ≡ true → (0 < i) × (a < b)
small i a b true e = grind (arith, nat_tests)
small i a b false e = grind (arith, nat_tests)

pub held_room : (every n : ℕ) (pairs : List Pair) (c held : Option ℕ) (h : ℕ) → is_sound every n pairs c held ≡ true → held ≡ Some h → length pairs < 7
held_room every n pairs None None h s e = cc
held_room every n pairs None (Some b) h s e = cc
held_room every n pairs (Some i) None h s e = cc
held_room every n pairs (Some i) (Some b) h s e = (small i (length pairs) 7 (not (is_empty pairs && is_due every n)) s).1

null_not : (k : ℕ) → 0 < k → (0 == k) ≡ false
null_not k h = grind (arith, nat_tests)

module _ (every halves : ℕ) (later : Later) where
  -- null bytes after the last byte
  pub defers_null : (n : ℕ) (pairs pairs' : List Pair) (c held : Option ℕ) (h : ℕ) → is_sound every n pairs c held ≡ true → held ≡ Some h →
      pairs' ≡ pairs ++ record { even = 1; aux = true; odd = h } ∷ [] →
      continued every halves later n pairs c held [] ≡ continued every halves later n pairs' (Some 0) None []
  defers_null n pairs pairs' None None h s e k = cc
  defers_null n pairs pairs' None (Some b) h s e k = cc
  defers_null n pairs pairs' (Some i) None h s e k = cc
  defers_null n pairs pairs' (Some i) (Some b) h s e k =
      let m = small i (length pairs) 7 (not (is_empty pairs && is_due every n)) s in
      let x : Tagged = record { id = i; byte = b } in
      let z : Tagged = record { id = 0; byte = 0 } in
      let same : b ≡ h = cc in
      in_middle every halves later n pairs (Some i) (Some b) [] [] x s refl
      ∙ takes every halves later n pairs (Some i) (x ∷ []) m.1
      ∙ ap (λ (p : Paired). middle every halves later n (pairs ++ p.pair ∷ []) p.id p.rest)
      (ap (λ q. cond q (following (Some i) x z [] []) (naming x [])) (same_id i)
      ∙ ap (λ q. cond q (record { pair = record { even = 2 * (b / 2); aux = is_odd b; odd = 0 }; id = Some i; rest = [] }) (record { pair = record { even = 1; aux = true; odd = b }; id = Some 0; rest = [] })) (null_not i m.0))
      ∙ out_of_middle every halves later n pairs (record { even = 1; aux = true; odd = b }) (Some 0) []
      ∙ ap (λ (y : ℕ). continued every halves later n (pairs ++ record { even = 1; aux = true; odd = y } ∷ []) (Some 0) None []) same
      ∙ ap (λ (l : List Pair). continued every halves later n l (Some 0) None []) (sym k)

  to_middle : (n : ℕ) (pairs : List Pair) (c held : Option ℕ) → 0 < length pairs → held ≡ None → continued every halves later n pairs c held [] ≡ middle every halves later n pairs c []
  to_middle n [] c held h e = absurd (omega arith)
  to_middle n (p ∷ pairs) c held h e = ap (λ (x : Option ℕ). continued every halves later n (p ∷ pairs) c x []) e

  from_middle : (n : ℕ) (pairs pairs' : List Pair) (p : Pair) (c held : Option ℕ) → held ≡ None → pairs' ≡ pairs ++ p ∷ [] →
      middle every halves later n (pairs ++ p ∷ []) c [] ≡ continued every halves later n pairs' c held []
  from_middle n pairs pairs' p c held e k =
      out_of_middle every halves later n pairs p c [] ∙ ap (λ (l : List Pair). continued every halves later n l c None []) (sym k)
      ∙ ap (λ (x : Option ℕ). continued every halves later n pairs' c x []) (sym e)

  pub fills_null : (n : ℕ) (pairs pairs' : List Pair) (c held : Option ℕ) → 0 < length pairs → length pairs < 7 → held ≡ None → is_id c 0 ≡ true →
      pairs' ≡ pairs ++ record { even = 0; aux = false; odd = 0 } ∷ [] → continued every halves later n pairs c held [] ≡ continued every halves later n pairs' c held []
  fills_null n pairs pairs' c held h l e d k =
      let z : Tagged = record { id = 0; byte = 0 } in
      to_middle n pairs c held h e ∙ takes every halves later n pairs c [] l
      ∙ ap (λ (p : Paired). middle every halves later n (pairs ++ p.pair ∷ []) p.id p.rest) (ap (λ q. cond q (following c z z [] []) (naming z [])) d)
      ∙ from_middle n pairs pairs' (record { even = 0; aux = false; odd = 0 }) c held e k

  pub names_null : (n : ℕ) (pairs pairs' : List Pair) (c d held : Option ℕ) → 0 < length pairs → length pairs < 7 → held ≡ None → is_id c 0 ≡ false → d ≡ Some 0 →
      pairs' ≡ pairs ++ record { even = 1; aux = false; odd = 0 } ∷ [] → continued every halves later n pairs c held [] ≡ continued every halves later n pairs' d held []
  names_null n pairs pairs' c d held h l e f g k =
      let z : Tagged = record { id = 0; byte = 0 } in
      to_middle n pairs c held h e ∙ takes every halves later n pairs c [] l
      ∙ ap (λ (p : Paired). middle every halves later n (pairs ++ p.pair ∷ []) p.id p.rest) (ap (λ q. cond q (following c z z [] []) (naming z [])) f)
      ∙ from_middle n pairs pairs' (record { even = 1; aux = false; odd = 0 }) (Some 0) held e k
      ∙ ap (λ (x : Option ℕ). continued every halves later n pairs' x held []) (sym g)

  pub ends_null : (n : ℕ) (pairs : List Pair) (c held : Option ℕ) → length pairs ≡ 7 → held ≡ None →
      continued every halves later n pairs c held [] ≡ frame_bytes every halves n pairs (cond (is_id c 0) 0 1) false ∷ later (n + 1) (cond (is_id c 0) c (Some 0))
  ends_null n pairs c held h e =
      to_middle n pairs c held (omega arith) e ∙ closes every halves later n pairs c [] h ∙ split (is_id c 0) where
        split : (b : Bool) → (let d : Closed = cond b (record { even = 0; aux = false; id = c; rest = [] }) (record { even = 1; aux = false; id = Some 0; rest = [] }) in
            frame_bytes every halves n pairs d.even d.aux ∷ frames_from every halves later (n + 1) d.id d.rest ≡ frame_bytes every halves n pairs (cond b 0 1) false ∷ later (n + 1) (cond b c (Some 0)))
        split true = ap (λ l. frame_bytes every halves n pairs 0 false ∷ l) (nothing every halves later (n + 1) c)
        split false = ap (λ l. frame_bytes every halves n pairs 1 false ∷ l) (nothing every halves later (n + 1) (Some 0))

  pub idle : (n : ℕ) (pairs : List Pair) (c held : Option ℕ) → length pairs ≡ 0 → held ≡ None → continued every halves later n pairs c held [] ≡ later n c
  idle n [] c held h e = ap (λ (x : Option ℕ). frames_from every halves later n c (queued x c [])) e ∙ nothing every halves later n c
  idle n (p ∷ pairs) c held h e = absurd (omega arith)

  pub last_null : (n even : ℕ) (pairs : List Pair) (c d held : Option ℕ) (out : List ℕ) → length pairs ≡ 7 → held ≡ None → even ≡ cond (is_id c 0) 0 1 → d ≡ cond (is_id c 0) c (Some 0) →
      out ≡ frame_bytes every halves n pairs even false → out ∷ later (n + 1) d ≡ continued every halves later n pairs c held []
  last_null n even pairs c d held out h e g l k =
      ap (λ (l : List ℕ). l ∷ later (n + 1) d) (k ∙ ap (λ (x : ℕ). frame_bytes every halves n pairs x false) g)
      ∙ ap (λ (x : Option ℕ). frame_bytes every halves n pairs (cond (is_id c 0) 0 1) false ∷ later (n + 1) x) l ∙ sym (ends_null n pairs c held h e)

-- what the writer knows at the start of a segment is all that counts
pub segments_known : (every halves : ℕ) (later : Later) → ((n : ℕ) (c : Option ℕ) → later n c ≡ later n (known every n c)) → (segments : List (List Tagged)) (n : ℕ) (c : Option ℕ) →
    segments_then every halves later segments n c ≡ segments_then every halves later segments n (known every n c)
segments_known every halves later e [] n c = e n c
segments_known every halves later e (t ∷ segments) n c =
    as_known every halves (λ n c. segments_then every halves later segments n c) (λ n c. segments_known every halves later e segments n c) n c t

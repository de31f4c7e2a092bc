-- The merged events of a rest are the whole's from each source's point on.
use Rattle.std.proofs.Common.{◌≡◌, ◌≢◌, ℕ, List, [], ◌∷◌, ◌++◌, map, refl, sym, ◌∙◌, ap, subst, inl, inr, append_assoc, append-nil, Bool, true, false, cond, Option, None, Some}
use Rattle.std.proofs.lemmas.List.{append_cancel_left}
use Rattle.std.proofs.lemmas.List.Elements.{filter-append}
use Rattle.resync_laws.specs.Names.{Place, is_from, Event, What, told, grown, merged_from, of_sources, place_of, part}
use Rattle.resync_laws.specs.Names.{is_item, AllFrom}
use Rattle.source_events.proofs.Merges.{grown_by, merged_append, part_append, part_told_other, same_or_not}
use Rattle.resync_laws.proofs.EventTerms.{OnlyGrow, items, told_from, EachFollows}
use Rattle.resync_laws.specs.FromPoints.{point_at, items_among, from_points}

from_left : {W : Type 0} (o : Option Place) (xs ys : List (W × Place)) → AllFrom o (xs ++ ys) → AllFrom o xs
from_left o [] ys h = tt
from_left o (x ∷ xs) ys h = (h.0, from_left o xs ys h.1)

from_right : {W : Type 0} (o : Option Place) (xs ys : List (W × Place)) → AllFrom o (xs ++ ys) → AllFrom o ys
from_right o [] ys h = h
from_right o (x ∷ xs) ys h = from_right o xs ys h.1

from_keeps : {V : Type 0} (o : Option Place) (xs : List (What V × Place)) → AllFrom o xs → told_from o xs ≡ xs
from_keeps o [] h = refl
from_keeps {V} o (x ∷ xs) h = ap (λ (b : Bool). cond b (x ∷ told_from o xs) (told_from o xs)) h.0 ∙ ap (λ (l : List (What V × Place)). x ∷ l) (from_keeps o xs h.1)

module _ {V : Type 0} (points : ℕ → Option Place) where
  -- of one source's events, told
  told_items : (x : ℕ) (es : List (What V × Place)) → items_among (told (Some x) es) ≡ told (Some x) (items es)
  told_items x [] = refl
  told_items x (e ∷ es) = by (is_item e.0) (told_items x es) where
    by : (b : Bool) → items_among (told (Some x) es) ≡ told (Some x) (items es) → cond b (record { at = e.1.at; half = e.1.half; source = Some x; what = e.0 } ∷ items_among (told (Some x) es)) (items_among (told (Some x) es)) ≡ told (Some x) (cond b (e ∷ items es) (items es))
    by true k = ap (λ (l : List (Event V)). record { at = e.1.at; half = e.1.half; source = Some x; what = e.0 } ∷ l) k
    by false k = k

  told_after : (x : ℕ) (es : List (What V × Place)) → from_points points (told (Some x) es) ≡ told (Some x) (told_from (points x) es)
  told_after x [] = refl
  told_after x (e ∷ es) = by (is_from (points x) e.1) (told_after x es) where
    by : (b : Bool) → from_points points (told (Some x) es) ≡ told (Some x) (told_from (points x) es) → cond b (record { at = e.1.at; half = e.1.half; source = Some x; what = e.0 } ∷ from_points points (told (Some x) es)) (from_points points (told (Some x) es)) ≡ told (Some x) (cond b (e ∷ told_from (points x) es) (told_from (points x) es))
    by true k = ap (λ (l : List (Event V)). record { at = e.1.at; half = e.1.half; source = Some x; what = e.0 } ∷ l) k
    by false k = k

  items_append : (xs ys : List (What V × Place)) → items (xs ++ ys) ≡ items xs ++ items ys
  items_append xs ys = filter-append (λ (e : What V × Place). is_item e.0) xs ys

  from_append_events : (point : Option Place) (xs ys : List (What V × Place)) → told_from point (xs ++ ys) ≡ told_from point xs ++ told_from point ys
  from_append_events point xs ys = filter-append (λ (e : What V × Place). is_from point e.1) xs ys

  all_append : (xs ys : List (Event V)) → items_among (xs ++ ys) ≡ items_among xs ++ items_among ys
  all_append xs ys = filter-append (λ (e : Event V). is_item e.what) xs ys

  both_append : (xs ys : List (Event V)) → from_points points (items_among (xs ++ ys)) ≡ from_points points (items_among xs) ++ from_points points (items_among ys)
  both_append xs ys = ap (from_points points) (all_append xs ys) ∙ filter-append (λ (e : Event V). is_from (point_at points e.source) (place_of e)) (items_among xs) (items_among ys)

  module _ {M : Type 0} (source : M → Option ℕ) (events : ℕ → List M → List (What V × Place)) (grow : OnlyGrow events) where
    abbrev said : Option ℕ → List M → List (What V × Place)
    said = of_sources events

    added : (x : ℕ) (before : List M) (m : M) → grown said before m (Some x) ≡ told (Some x) (grow x before m).0
    added x before m = grown_by said before m (Some x) (grow x before m).0 (grow x before m).1

    -- what one source gives from its point on
    abbrev given : ℕ → List M → List (What V × Place)
    given x cells = told_from (points x) (items (events x cells))

    given_more : (x : ℕ) (before : List M) (m : M) → given x (before ++ m ∷ []) ≡ given x before ++ told_from (points x) (items (grow x before m).0)
    given_more x before m =
        ap (λ (l : List (What V × Place)). told_from (points x) (items l)) (grow x before m).1
        ∙ ap (told_from (points x)) (items_append (events x before) (grow x before m).0)
        ∙ from_append_events (points x) (items (events x before)) (items (grow x before m).0)

    grown_is : (x : ℕ) (before : List M) (m : M) → from_points points (items_among (grown said before m (Some x))) ≡ told (Some x) (told_from (points x) (items (grow x before m).0))
    grown_is x before m =
        ap (λ (l : List (Event V)). from_points points (items_among l)) (added x before m) ∙ ap (from_points points) (told_items x (grow x before m).0)
        ∙ told_after x (items (grow x before m).0)

    -- cells in which no source has come to its point
    nothing_left : (xs ys : List (What V × Place)) (point : Option Place) → told_from point (xs ++ ys) ≡ [] → (told_from point xs ≡ []) × (told_from point ys ≡ [])
    nothing_left xs ys point e = both (told_from point xs) (told_from point ys) (sym (from_append_events point xs ys) ∙ e) where
      both : (a b : List (What V × Place)) → a ++ b ≡ [] → (a ≡ []) × (b ≡ [])
      both [] b k = (refl, k)
      both (c ∷ a) b k = cc

    grow_all : (x : ℕ) (more before : List M) → (ys : List (What V × Place)) × (events x (before ++ more) ≡ events x before ++ ys)
    grow_all x [] before = ([], ap (events x) (append-nil before) ∙ sym (append-nil (events x before)))
    grow_all x (m ∷ more) before =
        let g = grow x before m in
        let k = grow_all x more (before ++ m ∷ []) in
        (g.0 ++ k.0, ap (events x) (sym (append_assoc before (m ∷ []) more)) ∙ k.1 ∙ ap (λ (l : List (What V × Place)). l ++ k.0) g.1 ∙ append_assoc (events x before) g.0 k.0)

    none_grown : (before : List M) (m : M) (o : Option ℕ) → ((x : ℕ) → told_from (points x) (items (events x (before ++ m ∷ []))) ≡ []) →
        from_points points (items_among (grown said before m o)) ≡ []
    none_grown before m None h = refl
    none_grown before m (Some x) h =
        let g = grow x before m in
        let k = nothing_left (items (events x before)) (items g.0) (points x)
        (ap (told_from (points x)) (sym (items_append (events x before) g.0) ∙ ap (items) (sym g.1)) ∙ h x) in
        ap (λ (l : List (Event V)). from_points points (items_among l)) (added x before m) ∙ ap (from_points points) (told_items x g.0) ∙ told_after x (items g.0) ∙ ap (told (Some x)) k.1

    none_before : (cells before : List M) → ((x : ℕ) → told_from (points x) (items (events x (before ++ cells))) ≡ []) →
        from_points points (items_among (merged_from source said before cells)) ≡ []
    none_before [] before h = refl
    none_before (m ∷ cells) before h =
        both_append (grown said before m (source m)) (merged_from source said (before ++ m ∷ []) cells)
        ∙ ap (λ (l : List (Event V)). l ++ from_points points (items_among (merged_from source said (before ++ m ∷ []) cells)))
        (none_grown before m (source m) (λ x.
        (let g = grow_all x cells (before ++ m ∷ []) in
        (nothing_left (items (events x (before ++ m ∷ []))) (items g.0) (points x)
        (ap (told_from (points x)) (sym (items_append (events x (before ++ m ∷ [])) g.0) ∙ ap (items) (sym g.1 ∙ ap (events x) (append_assoc before (m ∷ []) cells))) ∙ h x)).0)))
        ∙ none_before cells (before ++ m ∷ []) (λ x. ap (λ (l : List M). told_from (points x) (items (events x l))) (append_assoc before (m ∷ []) cells) ∙ h x)

    -- cells of no source add nothing
    hidden_adds : (hidden before : List M) → map source hidden ≡ map (λ m. None) hidden → merged_from source said before hidden ≡ []
    hidden_adds [] before e = refl
    hidden_adds (m ∷ hidden) before e =
        let here : source m ≡ None = cc in
        let there : map source hidden ≡ map (λ m. None) hidden = cc in
        ap (λ (o : Option ℕ). grown said before m o ++ merged_from source said (before ++ m ∷ []) hidden) here ∙ hidden_adds hidden (before ++ m ∷ []) there

    -- where all items of each source are from its point on, all that are merged are
    pub all_from_points : (cells before : List M) → ((x : ℕ) → AllFrom (points x) (items (events x (before ++ cells)))) →
        from_points points (items_among (merged_from source said before cells)) ≡ items_among (merged_from source said before cells)
    all_from_points [] before h = refl
    all_from_points (m ∷ cells) before h =
        both_append (grown said before m (source m)) (merged_from source said (before ++ m ∷ []) cells)
        ∙ ap (λ (l : List (Event V)). l ++ from_points points (items_among (merged_from source said (before ++ m ∷ []) cells))) (one (source m))
        ∙ ap (λ (l : List (Event V)). items_among (grown said before m (source m)) ++ l) (all_from_points cells (before ++ m ∷ []) (λ x. subst (λ (l : List M). AllFrom (points x) (items (events x l))) (sym (append_assoc before (m ∷ []) cells)) (h x)))
        ∙ sym (all_append (grown said before m (source m)) (merged_from source said (before ++ m ∷ []) cells)) where
          own : (x : ℕ) → AllFrom (points x) (items (grow x before m).0)
          own x =
              let g = grow_all x cells (before ++ m ∷ []) in
              let all : AllFrom (points x) (items (events x (before ++ m ∷ [])) ++ items g.0) =
              subst (λ (l : List (What V × Place)). AllFrom (points x) l) (ap items (ap (events x) (sym (append_assoc before (m ∷ []) cells)) ∙ g.1) ∙ items_append (events x (before ++ m ∷ [])) g.0) (h x) in
              let more : AllFrom (points x) (items (events x before) ++ items (grow x before m).0) =
              subst (λ (l : List (What V × Place)). AllFrom (points x) l) (ap items (grow x before m).1 ∙ items_append (events x before) (grow x before m).0) (from_left (points x) (items (events x (before ++ m ∷ []))) (items g.0) all) in
              from_right (points x) (items (events x before)) (items (grow x before m).0) more

          one : (o : Option ℕ) → from_points points (items_among (grown said before m o)) ≡ items_among (grown said before m o)
          one None = refl
          one (Some x) =
              grown_is x before m ∙ ap (told (Some x)) (from_keeps (points x) (items (grow x before m).0) (own x)) ∙ sym (told_items x (grow x before m).0) ∙ ap items_among (sym (added x before m))

    -- and where those of one source do, its part does
    pub part_from_points : (x : ℕ) (cells before : List M) → AllFrom (points x) (items (events x (before ++ cells))) →
        part (Some x) (from_points points (items_among (merged_from source said before cells))) ≡ part (Some x) (items_among (merged_from source said before cells))
    part_from_points x [] before h = refl
    part_from_points x (m ∷ cells) before h =
        ap (part (Some x)) (both_append (grown said before m (source m)) (merged_from source said (before ++ m ∷ []) cells))
        ∙ part_append (Some x) (from_points points (items_among (grown said before m (source m)))) (from_points points (items_among (merged_from source said (before ++ m ∷ []) cells)))
        ∙ ap (λ (l : List (Event V)). l ++ part (Some x) (from_points points (items_among (merged_from source said (before ++ m ∷ []) cells)))) (one (source m))
        ∙ ap (λ (l : List (Event V)). part (Some x) (items_among (grown said before m (source m))) ++ l) (part_from_points x cells (before ++ m ∷ []) (subst (λ (l : List M). AllFrom (points x) (items (events x l))) (sym (append_assoc before (m ∷ []) cells)) h))
        ∙ sym (ap (part (Some x)) (all_append (grown said before m (source m)) (merged_from source said (before ++ m ∷ []) cells))
        ∙ part_append (Some x) (items_among (grown said before m (source m))) (items_among (merged_from source said (before ++ m ∷ []) cells))) where
          more : AllFrom (points x) (items (grow x before m).0)
          more =
              let g = grow_all x cells (before ++ m ∷ []) in
              let all : AllFrom (points x) (items (events x (before ++ m ∷ [])) ++ items g.0) =
              subst (λ (l : List (What V × Place)). AllFrom (points x) l) (ap items (ap (events x) (sym (append_assoc before (m ∷ []) cells)) ∙ g.1) ∙ items_append (events x (before ++ m ∷ [])) g.0) h in
              let now : AllFrom (points x) (items (events x before) ++ items (grow x before m).0) =
              subst (λ (l : List (What V × Place)). AllFrom (points x) l) (ap items (grow x before m).1 ∙ items_append (events x before) (grow x before m).0) (from_left (points x) (items (events x (before ++ m ∷ []))) (items g.0) all) in
              from_right (points x) (items (events x before)) (items (grow x before m).0) now

          own : from_points points (items_among (grown said before m (Some x))) ≡ items_among (grown said before m (Some x))
          own = grown_is x before m ∙ ap (told (Some x)) (from_keeps (points x) (items (grow x before m).0) more) ∙ sym (told_items x (grow x before m).0) ∙ ap items_among (sym (added x before m))

          one : (o : Option ℕ) → part (Some x) (from_points points (items_among (grown said before m o))) ≡ part (Some x) (items_among (grown said before m o))
          one None = refl
          one (Some y) = elim (same_or_not y x) [
            | inl e ↦ subst (λ (z : ℕ). part (Some x) (from_points points (items_among (grown said before m (Some z)))) ≡ part (Some x) (items_among (grown said before m (Some z)))) (sym e) (ap (part (Some x)) own)
            | inr n ↦
                let other : Some y ≢ Some x = λ e. n (let k = e in cc) in
                ap (part (Some x)) (grown_is y before m) ∙ part_told_other (Some x) (Some y) (told_from (points y) (items (grow y before m).0)) other
                ∙ sym (ap (λ (l : List (Event V)). part (Some x) (items_among l)) (added y before m) ∙ ap (part (Some x)) (told_items y (grow y before m).0) ∙ part_told_other (Some x) (Some y) (items (grow y before m).0) other)
          ]

  module _ {M : Type 0} (source : M → Option ℕ) (whole_events rest_events : ℕ → List M → List (What V × Place)) (whole_grow : OnlyGrow whole_events) (rest_grow : OnlyGrow rest_events) where
    abbrev whole_said : Option ℕ → List M → List (What V × Place)
    whole_said = of_sources whole_events

    abbrev rest_said : Option ℕ → List M → List (What V × Place)
    rest_said = of_sources rest_events

    abbrev whole_given : ℕ → List M → List (What V × Place)
    whole_given x cells = told_from (points x) (items (whole_events x cells))

    abbrev rest_given : ℕ → List M → List (What V × Place)
    rest_given x cells = told_from (points x) (items (rest_events x cells))

    -- one cell
    grown_alike : (whole rest : List M) (m : M) (o : Option ℕ) → ((x : ℕ) → rest_given x rest ≡ whole_given x whole) → ((x : ℕ) → rest_given x (rest ++ m ∷ []) ≡ whole_given x (whole ++ m ∷ [])) →
        from_points points (items_among (grown rest_said rest m o)) ≡ from_points points (items_among (grown whole_said whole m o))
    grown_alike whole rest m None old new = refl
    grown_alike whole rest m (Some x) old new =
        let r = told_from (points x) (items (rest_grow x rest m).0) in
        let w = told_from (points x) (items (whole_grow x whole m).0) in
        let all : rest_given x rest ++ r ≡ rest_given x rest ++ w =
        sym (given_more source rest_events rest_grow x rest m) ∙ new x ∙ given_more source whole_events whole_grow x whole m ∙ ap (λ (l : List (What V × Place)). l ++ w) (sym (old x)) in
        grown_is source rest_events rest_grow x rest m ∙ ap (told (Some x)) (append_cancel_left (rest_given x rest) r w all) ∙ sym (grown_is source whole_events whole_grow x whole m)

    -- all later cells
    pub later_alike : (later whole rest : List M) → EachFollows whole_events rest_events points whole rest later →
        from_points points (items_among (merged_from source rest_said rest later)) ≡ from_points points (items_among (merged_from source whole_said whole later))
    later_alike [] whole rest f = refl
    later_alike (m ∷ later) whole rest f =
        both_append (grown rest_said rest m (source m)) (merged_from source rest_said (rest ++ m ∷ []) later)
        ∙ ap (λ (l : List (Event V)). l ++ from_points points (items_among (merged_from source rest_said (rest ++ m ∷ []) later)))
        (grown_alike whole rest m (source m)
        (λ x. ap (rest_given x) (sym (append-nil rest)) ∙ f x [] (m ∷ later) refl ∙ ap (whole_given x) (append-nil whole))
        (λ x. f x (m ∷ []) later refl))
        ∙ ap (λ (l : List (Event V)). from_points points (items_among (grown whole_said whole m (source m))) ++ l)
        (later_alike later (whole ++ m ∷ []) (rest ++ m ∷ []) (λ x front after e.
        ap (rest_given x) (append_assoc rest (m ∷ []) front) ∙ f x (m ∷ front) after (ap (λ (l : List M). m ∷ l) e) ∙ ap (whole_given x) (sym (append_assoc whole (m ∷ []) front))))
        ∙ sym (both_append (grown whole_said whole m (source m)) (merged_from source whole_said (whole ++ m ∷ []) later))

    -- From each source's point on the rest has the whole's events: its hidden cells add nothing.
    pub merged_follows : (whole_before hidden later : List M) → map source hidden ≡ map (λ m. None) hidden → ((x : ℕ) → rest_events x hidden ≡ []) →
        EachFollows whole_events rest_events points whole_before hidden later →
        from_points points (items_among (merged_from source rest_said [] (hidden ++ later))) ≡ from_points points (items_among (merged_from source whole_said [] (whole_before ++ later)))
    merged_follows whole_before hidden later none empty f =
        ap (λ (l : List (Event V)). from_points points (items_among l))
        (merged_append source rest_said hidden later [] ∙ ap (λ (l : List (Event V)). l ++ merged_from source rest_said hidden later) (hidden_adds source rest_events rest_grow hidden [] none))
        ∙ later_alike later whole_before hidden f
        ∙ sym (ap (λ (l : List (Event V)). from_points points (items_among l)) (merged_append source whole_said whole_before later [])
        ∙ both_append (merged_from source whole_said [] whole_before) (merged_from source whole_said whole_before later)
        ∙ ap (λ (l : List (Event V)). l ++ from_points points (items_among (merged_from source whole_said whole_before later)))
        (none_before source whole_events whole_grow whole_before [] (λ x.
        ap (whole_given x) (sym (append-nil whole_before)) ∙ sym (f x [] later refl) ∙ ap (rest_given x) (append-nil hidden)
        ∙ ap (λ (l : List (What V × Place)). told_from (points x) (items l)) (empty x))))

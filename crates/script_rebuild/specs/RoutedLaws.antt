-- What a longer script reads as, where only lines with a place go to the port.
use Rattle.std.proofs.Common.{◌≡◌, ℕ, List, [], ◌∷◌, ◌++◌, refl, sym, ◌∙◌, ap, subst, Bool, true, false, cond}
use Rattle.std.proofs.Common.{append-nil, append_assoc, length, Option, None, Some, is_some, ◌+◌, ◌&&◌}
use Rattle.script_rebuild.specs.Names.{Plan, LineFault, Unrouted, Line2, Turns}
use Rattle.script_rebuild.specs.GrowthLaws.{settled, so_far_extends, whole_extends}
use Rattle.script_rebuild.specs.ReadingLaws.{Extends}
use Rattle.script_rebuild.specs.Rebuilt.{read_so_far}
use Rattle.script_rebuild.specs.Versions.{Reading, script_of}
use Rattle.script_rebuild.specs.Routed.{is_routed, are_routed, are_placed, routed_on, routed, routed_by}

module _ (order : List ℕ) where
  -- a line without a place is the last
  abbrev unrouted : List Line2 → Reading
  unrouted before = record { lines = before; fault = Some (length before + 1, Unrouted) }

  -- the lines that are read go on from those before
  pub routed_extends : (fault : Option (ℕ × LineFault)) (before lines : List Line2) →
      Extends before (routed_on order fault before lines).lines
  routed_extends fault before [] = record { more = []; all = sym (append-nil before) }
  routed_extends fault before (line ∷ lines) =
      by (is_routed order line) (routed_extends fault (before ++ line ∷ []) lines)
    where
      by : (v : Bool) → Extends (before ++ line ∷ []) (routed_on order fault (before ++ line ∷ []) lines).lines →
          Extends before (cond v (routed_on order fault (before ++ line ∷ []) lines) (unrouted before)).lines
      by true e = record { more = line ∷ e.more; all = e.all ∙ append_assoc before (line ∷ []) e.more }
      by false e = record { more = []; all = sym (append-nil before) }

  pub routed_more : (fault later : Option (ℕ × LineFault)) (before lines more : List Line2) →
      Extends (routed_on order fault before lines).lines (routed_on order later before (lines ++ more)).lines
  routed_more fault later before [] more = routed_extends later before more
  routed_more fault later before (line ∷ lines) more =
      by (is_routed order line) (routed_more fault later (before ++ line ∷ []) lines more)
    where
      next : List Line2
      next = before ++ line ∷ []

      by : (v : Bool) →
          Extends (routed_on order fault next lines).lines (routed_on order later next (lines ++ more)).lines →
          Extends (cond v (routed_on order fault next lines) (unrouted before)).lines
          (cond v (routed_on order later next (lines ++ more)) (unrouted before)).lines
      by true e = e
      by false e = record { more = []; all = sym (append-nil before) }

  -- lines after those that were read, up to the first without a place
  abbrev pub on_from : Option (ℕ × LineFault) → Reading → List Line2 → Option (ℕ × LineFault) → Reading
  on_from later r more None = routed_on order later r.lines more
  on_from later r more (Some fault) = r

  pub routed_append : (later : Option (ℕ × LineFault)) (before lines more : List Line2) →
      routed_on order later before (lines ++ more)
      ≡ on_from later (routed_on order None before lines) more (routed_on order None before lines).fault
  routed_append later before [] more = refl
  routed_append later before (line ∷ lines) more =
      by (is_routed order line) (routed_append later (before ++ line ∷ []) lines more)
    where
      first : Reading
      first = routed_on order None (before ++ line ∷ []) lines

      by : (v : Bool) →
          routed_on order later (before ++ line ∷ []) (lines ++ more) ≡ on_from later first more first.fault →
          cond v (routed_on order later (before ++ line ∷ []) (lines ++ more)) (unrouted before)
          ≡ on_from later (cond v first (unrouted before)) more (cond v first (unrouted before)).fault
      by true same = same
      by false same = refl

  -- once a line has no place, further ones change nothing
  routed_stuck : (later : Option (ℕ × LineFault)) (r : Reading) (more : List Line2) (fault : Option (ℕ × LineFault)) →
      is_some fault ≡ true → on_from later r more fault ≡ r
  routed_stuck later r more None e = cc
  routed_stuck later r more (Some fault) e = refl

-- where the script so far has a fault, it and the whole script have just that, whatever follows
pub record IsSettledBy (funnel : Option Turns) (plan : Plan) (xs ys : List ℕ) : Type 0 where
  pub so_far : routed_by funnel (read_so_far plan (xs ++ ys)) ≡ routed_by funnel (read_so_far plan xs)
  pub whole : routed_by funnel (script_of plan (xs ++ ys)) ≡ routed_by funnel (read_so_far plan xs)

module _ (order : List ℕ) (old : Reading) where
  -- a longer reading, where that of the old lines is stuck
  stuck_at : (r : Reading) → Extends old.lines r.lines → old.fault ≡ None →
      is_some (routed order old).fault ≡ true → routed order r ≡ routed order old
  stuck_at r longer none faulty =
      let alone = routed_on order None [] old.lines in
      ap (λ (l : List Line2). routed_on order r.fault [] l) longer.all
      ∙ routed_append order r.fault [] old.lines longer.more
      ∙ routed_stuck order r.fault alone longer.more alone.fault
      (ap (λ (f : Option (ℕ × LineFault)). is_some (routed_on order f [] old.lines).fault) (sym none) ∙ faulty)
      ∙ ap (λ (f : Option (ℕ × LineFault)). routed_on order f [] old.lines) (sym none)

  longer_lines : (r : Reading) → Extends old.lines r.lines → Extends (routed order old).lines (routed order r).lines
  longer_lines r longer =
      subst (λ (l : List Line2). Extends (routed order old).lines (routed_on order r.fault [] l).lines) (sym longer.all)
      (routed_more order old.fault r.fault [] old.lines longer.more)

-- lines are only added
pub lines_extend : (funnel : Option Turns) (old r : Reading) → Extends old.lines r.lines →
    Extends (routed_by funnel old).lines (routed_by funnel r).lines
lines_extend None old r longer = longer
lines_extend (Some turns) old r longer = longer_lines turns.order old r longer

pub settled_by : (funnel : Option Turns) (plan : Plan) (xs ys : List ℕ) →
    is_some (routed_by funnel (read_so_far plan xs)).fault ≡ true → IsSettledBy funnel plan xs ys
settled_by None plan xs ys faulty =
    let s = settled plan xs ys faulty in record { so_far = s.so_far; whole = s.whole }
settled_by (Some turns) plan xs ys faulty = by (read_so_far plan xs).fault refl
  where
    old : Reading
    old = read_so_far plan xs

    by : (o : Option (ℕ × LineFault)) → old.fault ≡ o → IsSettledBy (Some turns) plan xs ys
    by None e = record {
      so_far = stuck_at turns.order old (read_so_far plan (xs ++ ys)) (so_far_extends plan xs ys) e faulty;
      whole = stuck_at turns.order old (script_of plan (xs ++ ys)) (whole_extends plan xs ys) e faulty;
    }
    by (Some f) e =
        let s = settled plan xs ys (ap (λ (o : Option (ℕ × LineFault)). is_some o) e) in
        record { so_far = ap (routed turns.order) s.so_far; whole = ap (routed turns.order) s.whole }

-- the same at the end of a script
pub end_settled : (funnel : Option Turns) (plan : Plan) (xs : List ℕ) →
    is_some (routed_by funnel (read_so_far plan xs)).fault ≡ true →
    routed_by funnel (script_of plan xs) ≡ routed_by funnel (read_so_far plan xs)
end_settled funnel plan xs faulty =
    subst (λ (l : List ℕ). routed_by funnel (script_of plan l) ≡ routed_by funnel (read_so_far plan xs)) (append-nil xs)
    (settled_by funnel plan xs [] faulty).whole

-- what is read begins what there is, and each line of it has a place
pub record IsPlacedFront (funnel : Option Turns) (r : Reading) : Type 0 where
  pub rest : List Line2
  pub parts : r.lines ≡ (routed_by funnel r).lines ++ rest
  pub places : are_placed funnel (routed_by funnel r).lines ≡ true

record IsRoutedFront (order : List ℕ) (fault : Option (ℕ × LineFault)) (before lines : List Line2) : Type 0 where
  front : List Line2
  rest : List Line2
  all : (routed_on order fault before lines).lines ≡ before ++ front
  parts : lines ≡ front ++ rest
  places : are_routed order front ≡ true
  whole : (routed_on order fault before lines).fault ≡ None → (fault ≡ None) × (rest ≡ [])

routed_front : (order : List ℕ) (fault : Option (ℕ × LineFault)) (before lines : List Line2) →
    IsRoutedFront order fault before lines
routed_front order fault before [] =
    record { front = []; rest = []; all = sym (append-nil before); parts = refl; places = refl; whole = λ e. (e, refl) }
routed_front order fault before (line ∷ lines) =
    by (is_routed order line) refl (routed_front order fault (before ++ line ∷ []) lines)
  where
    next : List Line2
    next = before ++ line ∷ []

    unplaced : Reading
    unplaced = record { lines = before; fault = Some (length before + 1, Unrouted) }

    fault_if : Bool → Option (ℕ × LineFault)
    fault_if v = (cond v (routed_on order fault next lines) unplaced).fault

    by : (v : Bool) → is_routed order line ≡ v → IsRoutedFront order fault next lines →
        IsRoutedFront order fault before (line ∷ lines)
    by true h more = record {
      front = line ∷ more.front;
      rest = more.rest;
      all = ap (λ (v : Bool). (cond v (routed_on order fault next lines) unplaced).lines) h ∙ more.all
          ∙ append_assoc before (line ∷ []) more.front;
      parts = ap (λ (l : List Line2). line ∷ l) more.parts;
      places = ap (λ (v : Bool). v && are_routed order more.front) h ∙ more.places;
      whole = λ e. more.whole (ap fault_if (sym h) ∙ e);
    }
    by false h more = record {
      front = [];
      rest = line ∷ lines;
      all = ap (λ (v : Bool). (cond v (routed_on order fault next lines) unplaced).lines) h ∙ sym (append-nil before);
      parts = refl;
      places = refl;
      whole = λ e. (let no = ap fault_if (sym h) ∙ e in absurd cc);
    }

pub placed_front : (funnel : Option Turns) (r : Reading) → IsPlacedFront funnel r
placed_front None r = record { rest = []; parts = sym (append-nil r.lines); places = refl }
placed_front (Some turns) r =
    let f = routed_front turns.order r.fault [] r.lines in
    record {
      rest = f.rest;
      parts = f.parts ∙ ap (λ (l : List Line2). l ++ f.rest) (sym f.all);
      places = subst (λ (l : List Line2). are_routed turns.order l ≡ true) (sym f.all) f.places;
    }

-- a reading without a fault has all lines, and each has a place
pub record AreAllPlaced (funnel : Option Turns) (r : Reading) : Type 0 where
  pub no_fault : r.fault ≡ None
  pub same : (routed_by funnel r).lines ≡ r.lines
  pub places : are_placed funnel r.lines ≡ true

pub all_placed : (funnel : Option Turns) (r : Reading) → (routed_by funnel r).fault ≡ None → AreAllPlaced funnel r
all_placed None r e = record { no_fault = e; same = refl; places = refl }
all_placed (Some turns) r e =
    let f = routed_front turns.order r.fault [] r.lines in
    let whole = f.whole e in
    let same : f.front ≡ r.lines =
    sym (f.parts ∙ ap (λ (l : List Line2). f.front ++ l) whole.1 ∙ append-nil f.front) in
    record {
      no_fault = whole.0;
      same = f.all ∙ same;
      places = subst (λ (l : List Line2). are_routed turns.order l ≡ true) same f.places;
    }

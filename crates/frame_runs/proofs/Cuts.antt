-- The runs of a frame that are still to come, by their ends.
use Rattle.std.proofs.Common.{◌≡◌, ℕ, ◌+◌, ◌-◌, ◌*◌, ◌/◌, ◌%◌, ◌<◌, ◌≤◌, List, [], ◌∷◌, ◌++◌, length, refl, sym, ◌∙◌, ap, subst, arith, Bool, true, false, cond, Option, append_assoc, append-nil, ◌||◌, ⊎_elim}
use Rattle.std.specs.Prelude.{slice_index, nat_lt, if◌then◌else◌, ◌==◌}
use Rattle.std.proofs.lemmas.Bool.Decides.{nat_tests}
use Rattle.std.proofs.lemmas.Bool.{cases_lt, true≢false}
use Rattle.frame_grammar.specs.Frame.{aux_bit, cells, names}
use Rattle.frame_runs.specs.Gathered.{frame_places}
use Rattle.frame_runs.specs.Pairs.{ends_from, ends_left}
use Rattle.source_events.specs.Runs.{run_length}
use Rattle.trace_values.specs.Cells.{source_id}
use Rattle.trace_values.specs.declared.cell.Cell.{Cell}
use Rattle.frame_runs.specs.Pairs.{end_at, is_end}
use Rattle.frame_runs.specs.Split.{AreInPlace, IsFirstRun, IsLeft, IsSplit, RunStart, begun_after, begun_cells, cells_to, data_places, left_cells, run_begun, split_cells}
use Rattle.frame_runs.specs.declared.split.RunsLeft.{RunsLeft}
use Rattle.frame_runs.specs.declared.split.SplitFrame.{SplitFrame}
use Rattle.frame_runs.proofs.Parts.{part_run}
use Rattle.frame_runs.proofs.Ends.{next_end, no_end}
use Rattle.frame_runs.proofs.Splitting.{Part, AreParts, IsCut, all_cells, all_parts, cells_of_parts, divided, ended, none_yet, part_to, passed_to, places_long, starts_cut}

-- the part that has begun, if it has a byte before an index, and others
abbrev pub ended_before : RunStart → ℕ → List Part → List Part
ended_before begun end rest = if nat_lt begun.from end then part_to begun end ∷ rest else rest

-- the parts that end at these pairs
abbrev pub parts_from : List ℕ → RunStart → List ℕ → List Part
parts_from frame begun [] = []
parts_from frame begun (k ∷ ends) = ended_before begun (end_at frame k) (parts_from frame (begun_after frame begun k) ends)

pub some_before : (begun : RunStart) (end : ℕ) (rest : List Part) → begun.from < end → ended_before begun end rest ≡ part_to begun end ∷ rest
some_before begun end rest h =
    ap (λ (t : Bool). cond t (part_to begun end ∷ rest) rest) (let e : nat_lt begun.from end ≡ true = grind (arith, nat_tests) in e)

pub none_before : (begun : RunStart) (end : ℕ) (rest : List Part) → end ≤ begun.from → ended_before begun end rest ≡ rest
none_before begun end rest h =
    ap (λ (t : Bool). cond t (part_to begun end ∷ rest) rest) (let e : nat_lt begun.from end ≡ false = grind (arith, nat_tests) in e)

joined : (parts rest : List Part) (begun : RunStart) (end : ℕ) → parts ++ ended_before begun end rest ≡ ended parts begun end ++ rest
joined parts rest begun end = by (nat_lt begun.from end) where
  by : (t : Bool) → parts ++ cond t (part_to begun end ∷ rest) rest ≡ cond t (parts ++ part_to begun end ∷ []) parts ++ rest
  by true = sym (append_assoc parts (part_to begun end ∷ []) rest)
  by false = refl

-- which pairs are ends
not_named : (frame : List ℕ) (k : ℕ) → is_end frame k ≡ false → names frame k ≡ false
not_named frame k e = by (names frame k) e where
  by : (t : Bool) → (t || k == 7) ≡ false → t ≡ false
  by true h = absurd (true≢false h)
  by false h = refl

named_end : (frame : List ℕ) (k : ℕ) → k < 7 → is_end frame k ≡ true → names frame k ≡ true
named_end frame k l e = by (names frame k) (sym (ap (λ (t : Bool). names frame k || t) (let no : (k == 7) ≡ false = grind (arith, nat_tests) in no)) ∙ e) where
  by : (t : Bool) → (t || false) ≡ true → t ≡ true
  by true h = refl
  by false h = h

last_end : (frame : List ℕ) → is_end frame 7 ≡ true
last_end frame = by (names frame 7) where
  by : (t : Bool) → (t || true) ≡ true
  by true = refl
  by false = refl

none_after : (frame : List ℕ) → ends_from frame 8 ≡ []
unfolding ends_from
none_after frame = refl

end_below : (frame : List ℕ) (k : ℕ) → k < 7 → end_at frame k ≡ 2 * k + aux_bit frame k
end_below frame k l =
    ap (λ (t : Bool). cond t (2 * k + aux_bit frame k) (15 - slice_index frame 14 % 2)) (let e : nat_lt k 7 ≡ true = grind (arith, nat_tests) in e)

-- a run ends within two bytes, and before byte 15
pub end_near : (frame : List ℕ) (k : ℕ) → k < 8 → (end_at frame k ≤ 2 * k + 1) × (end_at frame k ≤ 15)
end_near frame k l =
    ⊎_elim (λ low. let e = end_below frame k low in (omega (arith, e, low), omega (arith, e, low)))
    (λ high. let is : k ≡ 7 = omega (arith, l, high) in
    let e : end_at frame k ≡ 15 - slice_index frame 14 % 2 = ap (end_at frame) is in (omega (arith, e, is), omega (arith, e, is))) (cases_lt k 7)

module _ (frame at : List ℕ) (id : Option ℕ) (os bs : List ℕ) (long : length os ≡ 16) (wide : length bs ≡ 40)
    (placed : AreInPlace frame at bs os) where
  -- these are all parts of the frame
  pub record AreAll (parts : List Part) : Type 0 where
    pub cells : cells_of_parts os bs parts ≡ cells frame at id
    pub are : AreParts 0 8 15 parts

  last_all : (parts : List Part) (begun : RunStart) (ends : List ℕ) → ends ≡ [] → begun.from ≤ 14 → begun.run ≤ 7 → IsCut frame at id os bs 7 parts begun →
      AreAll (parts ++ ended_before begun (end_at frame 7) (parts_from frame (begun_after frame begun 7) ends))
  last_all parts begun ends none from run cut =
      subst (λ (l : List Part). AreAll l)
      (sym (append-nil (ended parts begun (end_at frame 7))) ∙ sym (joined parts [] begun (end_at frame 7))
      ∙ ap (λ (l : List ℕ). parts ++ ended_before begun (end_at frame 7) (parts_from frame (begun_after frame begun 7) l)) (sym none))
      (record {
        cells = all_cells frame at id os bs long wide placed parts begun from cut;
        are = all_parts frame at id os bs long wide placed parts begun from cut run;
      })

  named_at : (ends : List ℕ) (k : ℕ) (parts : List Part) (begun : RunStart) → k < 7 → is_end frame k ≡ true →
      begun.from ≤ 2 * k → begun.run ≤ k → IsCut frame at id os bs k parts begun →
      (IsCut frame at id os bs (k + 1) (ended parts begun (end_at frame k)) (begun_after frame begun k) →
      AreAll (ended parts begun (end_at frame k) ++ parts_from frame (begun_after frame begun k) ends)) →
      AreAll (parts ++ parts_from frame begun (k ∷ ends))
  named_at ends k parts begun less is from run cut more =
      subst (λ (l : List Part). AreAll l) (sym (joined parts (parts_from frame (begun_after frame begun k) ends) begun (end_at frame k)))
      (more (divided frame at id os bs long wide placed k parts begun less from cut (named_end frame k less is) (end_at frame k)
      (source_id (slice_index frame (2 * k) / 2)) refl (end_below frame k less)))

  last_at : (ends : List ℕ) (k : ℕ) (parts : List Part) (begun : RunStart) → k ≡ 7 → ends ≡ ends_from frame (k + 1) →
      begun.from ≤ 2 * k → begun.run ≤ k → IsCut frame at id os bs k parts begun → AreAll (parts ++ parts_from frame begun (k ∷ ends))
  last_at ends k parts begun is left from run cut =
      subst (λ (n : ℕ). AreAll (parts ++ ended_before begun (end_at frame n) (parts_from frame (begun_after frame begun n) ends))) (sym is)
      (last_all parts begun ends (left ∙ ap (λ (n : ℕ). ends_from frame (n + 1)) is ∙ none_after frame) (omega (arith, from, is)) (omega (arith, run, is))
      (subst (λ (n : ℕ). IsCut frame at id os bs n parts begun) is cut))

  all_from : (ends : List ℕ) (p : ℕ) (parts : List Part) (begun : RunStart) → p ≤ 7 → ends ≡ ends_from frame p → begun.from ≤ 2 * p → begun.run ≤ p →
      IsCut frame at id os bs p parts begun → AreAll (parts ++ parts_from frame begun ends)
  all_from [] p parts begun low e from run cut =
      absurd (true≢false (sym (last_end frame) ∙ no_end frame p (omega (arith, low)) (sym e) 7 low (omega arith)))
  all_from (k ∷ ends) p parts begun low e from run cut =
      let n = next_end frame p k ends (omega (arith, low)) (sym e) in
      let first = n.0 in
      let under = n.1 in
      ⊎_elim (λ less. named_at ends k parts begun less n.2 (omega (arith, from, first)) (omega (arith, run, first))
      (passed_to frame at id os bs long wide placed parts begun p k first (omega (arith, under)) from (λ j l m. not_named frame j (n.3 j l m)) cut)
      (λ more. all_from ends (k + 1) (ended parts begun (end_at frame k)) (begun_after frame begun k) (omega (arith, less)) n.4
      (let near = (end_near frame k under).0 in omega (arith, near)) (omega (arith, run, first)) more))
      (λ most. last_at ends k parts begun (omega (arith, most, under)) n.4 (omega (arith, from, first)) (omega (arith, run, first))
      (passed_to frame at id os bs long wide placed parts begun p k first (omega (arith, under)) from (λ j l m. not_named frame j (n.3 j l m)) cut)) (cases_lt k 7)

  -- from the first pair on
  pub all_of : (begun : RunStart) (ends : List ℕ) → begun.source ≡ id → begun.run ≡ 0 → begun.from ≡ 0 → ends ≡ ends_from frame 0 →
      AreAll (parts_from frame begun ends)
  all_of begun ends source run from e =
      all_from ends 0 [] begun (omega arith) e (omega (arith, from)) (omega (arith, run)) (starts_cut frame at id os bs long wide placed begun source run)

module _ (split : SplitFrame) where
  abbrev named : List ℕ
  named = split.frame.now.bytes

  abbrev places : List ℕ
  places = data_places split.placed.now

  -- what is left is parts of the frame, one after the other
  pub record AreLeft (begun : RunStart) (ends : List ℕ) : Type 0 where
    pub cells : cells_to split begun ends ≡ cells_of_parts places split.placed.now.bytes (parts_from named begun ends)
    pub are : AreParts begun.run 8 15 (parts_from named begun ends)

  -- the runs of parts rise from a lower number, too
  from_lower : (run more : ℕ) (parts : List Part) → run ≤ more → AreParts more 8 15 parts → AreParts run 8 15 parts
  from_lower run more [] h a = (let e = a in omega arith)
  from_lower run more (p ∷ parts) h a = ((let e = a.0 in omega arith), a.1, a.2, a.3)

  one_left : (k : ℕ) (begun : RunStart) (ends : List ℕ) → k < 8 → AreLeft (begun_after named begun k) ends → AreLeft begun (k ∷ ends)
  one_left k begun ends below more =
      let end = end_at named k in
      let next = begun_after named begun k in
      let rest = parts_from named next ends in
      let near = end_near named k below in
      let most = near.1 in
      let long = places_long split.placed.now in
      ⊎_elim
      (λ less. record {
        cells = ap (λ (l : List Cell). begun_cells places split.placed.now.bytes begun end ++ l) more.cells
            ∙ ap (cells_of_parts places split.placed.now.bytes) (sym (some_before begun end rest less));
        are = subst (λ (l : List Part). AreParts begun.run 8 15 l) (sym (some_before begun end rest less))
            ((let e : begun.run ≤ begun.run = omega arith in e), less, most, more.are);
      })
      (λ none. record {
        cells = ap (λ (l : List Cell). l ++ cells_to split next ends)
            (none_yet places split.placed.now.bytes begun end none (omega (arith, most, long)))
            ∙ more.cells ∙ ap (cells_of_parts places split.placed.now.bytes) (sym (none_before begun end rest none));
        are = subst (λ (l : List Part). AreParts begun.run 8 15 l) (sym (none_before begun end rest none))
            (from_lower begun.run (begun.run + 1) rest (omega arith) more.are);
      })
      (cases_lt begun.from end)

  pub left_are : (ends : List ℕ) (p : ℕ) (begun : RunStart) → p ≤ 8 → ends ≡ ends_from named p → begun.run ≤ p → AreLeft begun ends
  left_are [] p begun low e run = record { cells = refl; are = (let h : begun.run ≤ 8 = omega (arith, low, run) in h) }
  left_are (k ∷ ends) p begun low e run =
      let n = next_end named p k ends low (sym e) in
      let first = n.0 in
      let below = n.1 in
      one_left k begun ends below
      (left_are ends (k + 1) (begun_after named begun k) (omega (arith, below)) n.4 (omega (arith, first, run)))

  -- from the first of them on it is all of the frame
  pub all_left : (s : IsSplit split) (begun : RunStart) → begun.source ≡ split.id → begun.run ≡ 0 → begun.from ≡ 0 →
      cells_to split begun (ends_left split.ends) ≡ split_cells split
  all_left s begun source run from =
      (left_are (ends_left split.ends) 0 begun (omega arith) s.ends (omega (arith, run))).cells
      ∙ (all_of named (frame_places split.frame.now) split.id places split.placed.now.bytes (places_long split.placed.now) split.placed.now.sized s.placed
      begun (ends_left split.ends) source run from s.ends).cells

  -- the next end of a run
  module _ (left : RunsLeft) (k : ℕ) (ends : List ℕ) (i : IsLeft split left) (some : ends_left left.ends ≡ k ∷ ends) where
    pub pair_below : k < 8
    pair_below = (next_end named i.pair k ends i.last (sym i.ends ∙ some)).1

    pub runs_below : left.begun.run ≤ k
    runs_below = let first = (next_end named i.pair k ends i.last (sym i.ends ∙ some)).0 in let run = i.run in omega (arith, first, run)

  module _ (left next : RunsLeft) (k : ℕ) (i : IsLeft split left) (some : ends_left left.ends ≡ k ∷ ends_left next.ends)
      (n : run_begun next.begun ≡ begun_after named (run_begun left.begun) k) where
    pub next_left : IsLeft split next
    next_left =
        let run = ap (λ (x : RunStart). x.run) n in
        let from = ap (λ (x : RunStart). x.from) n in
        let below = pair_below left k (ends_left next.ends) i some in
        let runs = runs_below left k (ends_left next.ends) i some in
        let near = (end_near named k below).0 in
        record {
          pair = k + 1;
          last = omega (arith, below);
          ends = (next_end named i.pair k (ends_left next.ends) i.last (sym i.ends ∙ some)).4;
          run = omega (arith, run, runs);
          from = omega (arith, from, near);
        }

    left_is : left_cells split left ≡ begun_cells places split.placed.now.bytes (run_begun left.begun) (end_at named k) ++ left_cells split next
    left_is =
        ap (cells_to split (run_begun left.begun)) some
        ∙ ap (λ (b : RunStart). begun_cells places split.placed.now.bytes (run_begun left.begun) (end_at named k) ++ cells_to split b (ends_left next.ends))
        (sym n)

    -- the run that ends there had no byte
    pub none_here : end_at named k ≤ left.begun.from → left_cells split left ≡ left_cells split next
    none_here h =
        let below = pair_below left k (ends_left next.ends) i some in
        let most = (end_near named k below).1 in
        let long = places_long split.placed.now in
        left_is ∙ ap (λ (l : List Cell). l ++ left_cells split next)
        (none_yet places split.placed.now.bytes (run_begun left.begun) (end_at named k) h (omega (arith, most, long)))

    -- or it is the first one
    pub first_here : left.begun.from < end_at named k →
        IsFirstRun (left_cells split left) (begun_cells places split.placed.now.bytes (run_begun left.begun) (end_at named k)) (left_cells split next)
    first_here h =
        let j = next_left in
        let more = left_are (ends_left next.ends) j.pair (run_begun next.begun) j.last j.ends j.run in
        let below = pair_below left k (ends_left next.ends) i some in
        let most = (end_near named k below).1 in
        let part = part_to (run_begun left.begun) (end_at named k) in
        let parts = parts_from named (run_begun next.begun) (ends_left next.ends) in
        let own = begun_cells places split.placed.now.bytes (run_begun left.begun) (end_at named k) in
        record {
          parts = left_is;
          size =
              part_run places split.placed.now.bytes (places_long split.placed.now) split.placed.now.sized left.begun.run 8 15 part parts (omega arith) (
                (let e : left.begun.run ≤ left.begun.run = omega arith in e),
                h,
                most,
                subst (λ (b : RunStart). AreParts b.run 8 15 parts) n more.are,
              )
              ∙ ap (λ (l : List Cell). run_length (own ++ l)) (sym more.cells) ∙ ap run_length (sym left_is);
        }

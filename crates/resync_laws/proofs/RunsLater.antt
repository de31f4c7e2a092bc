-- No run is cut where IDs become known.
use Rattle.std.proofs.Common.{◌≡◌, ◌≢◌, ℕ, suc, ◌<◌, length, List, [], ◌∷◌, ◌++◌, map, refl, sym, ◌∙◌, ap, subst, inl}
use Rattle.std.proofs.Common.{inr, arith, append_assoc, append-nil, Bool, true, false, cond, Option, None}
use Rattle.std.specs.Prelude.{◌==◌, is_none}
use Rattle.std.specs.List.{Contains}
use Rattle.std.proofs.lemmas.List.{map-append}
use Rattle.std.proofs.lemmas.List.Elements.{Contains-append_right}
use Rattle.std.proofs.lemmas.Bool.{ne_eqb}
use Rattle.resync_laws.specs.Names.{Cell, units_of, cells, id_after, PortItem, Full, Half, Frame, offsets_of}
use Rattle.resync_laws.specs.Names.{frames_of_items, unnamed, BeginsNamed, AreNamedLater, joined, runs_of, all_runs}
use Rattle.frame_grammar.proofs.CellLaws.{one_id}
use Rattle.resync_laws.proofs.RunTerms.{unnamed_run, RunsLater}
use Rattle.resync_grammars.proofs.Naming.{frame_names, begin_named}

hidden_joined : (c : Cell) (runs : List (List Cell)) → joined (unnamed c) (map unnamed_run runs) ≡ map unnamed_run (joined c runs)
hidden_joined c [] = refl
hidden_joined c ([] ∷ runs) = refl
hidden_joined c ((d ∷ run) ∷ runs) = by (d.run == c.run) where
  by : (b : Bool) → cond b ((unnamed c ∷ (unnamed d ∷ map unnamed run)) ∷ map unnamed_run runs) ((unnamed c ∷ []) ∷ ((unnamed d ∷ map unnamed run) ∷ map unnamed_run runs))
      ≡ map unnamed_run (cond b ((c ∷ (d ∷ run)) ∷ runs) ((c ∷ []) ∷ ((d ∷ run) ∷ runs)))
  by true = refl
  by false = refl

hidden_runs : (cs : List Cell) → runs_of (map unnamed cs) ≡ map unnamed_run (runs_of cs)
hidden_runs [] = refl
hidden_runs (c ∷ cs) = ap (joined (unnamed c)) (hidden_runs cs) ∙ hidden_joined c (runs_of cs)

-- the runs of cells begin with the first
pub begins : (c : Cell) (runs : List (List Cell)) → (run : List Cell) × (more : List (List Cell)) × (joined c runs ≡ (c ∷ run) ∷ more)
begins c [] = ([], [], refl)
begins c ([] ∷ runs) = ([], runs, refl)
begins c ((d ∷ run) ∷ runs) = by (d.run == c.run) where
  by : (b : Bool) → (r : List Cell) × (more : List (List Cell)) × (cond b ((c ∷ (d ∷ run)) ∷ runs) ((c ∷ []) ∷ ((d ∷ run) ∷ runs)) ≡ (c ∷ r) ∷ more)
  by true = (d ∷ run, runs, refl)
  by false = ([], (d ∷ run) ∷ runs, refl)

-- after a cell of another run, runs begin anew
abbrev Apart : Cell → List Cell → Cell → Type 0
Apart c [] y = y.run ≢ c.run
Apart c (d ∷ xs) y = Apart d xs y

joined_more : (c d : Cell) (run : List Cell) (runs more : List (List Cell)) → joined c (((d ∷ run) ∷ runs) ++ more) ≡ joined c ((d ∷ run) ∷ runs) ++ more
joined_more c d run runs more = by (d.run == c.run) where
  by : (b : Bool) → cond b ((c ∷ (d ∷ run)) ∷ (runs ++ more)) ((c ∷ []) ∷ ((d ∷ run) ∷ (runs ++ more))) ≡ cond b ((c ∷ (d ∷ run)) ∷ runs) ((c ∷ []) ∷ ((d ∷ run) ∷ runs)) ++ more
  by true = refl
  by false = refl

runs_append : (c : Cell) (xs : List Cell) (y : Cell) (ys : List Cell) → Apart c xs y → runs_of ((c ∷ xs) ++ (y ∷ ys)) ≡ runs_of (c ∷ xs) ++ runs_of (y ∷ ys)
runs_append c [] y ys h =
    let b = begins y (runs_of ys) in
    ap (joined c) b.2 ∙ ap (λ (t : Bool). cond t ((c ∷ (y ∷ b.0)) ∷ b.1) ((c ∷ []) ∷ ((y ∷ b.0) ∷ b.1))) (ne_eqb y.run c.run h) ∙ ap (λ (r : List (List Cell)). (c ∷ []) ∷ r) (sym b.2)
runs_append c (d ∷ xs) y ys h =
    let b = begins d (runs_of xs) in
    ap (joined c) (runs_append d xs y ys h) ∙ ap (λ (r : List (List Cell)). joined c (r ++ runs_of (y ∷ ys))) b.2
    ∙ joined_more c d b.0 b.1 (runs_of (y ∷ ys)) ∙ ap (λ (r : List (List Cell)). joined c r ++ runs_of (y ∷ ys)) (sym b.2)

pub runs_parts : (frames more : List (List Cell)) → all_runs (frames ++ more) ≡ all_runs frames ++ all_runs more
runs_parts [] more = refl
runs_parts (f ∷ frames) more = ap (λ (r : List (List Cell)). runs_of f ++ r) (runs_parts frames more) ∙ sym (append_assoc (runs_of f) (all_runs frames) (all_runs more))

contains_mid : (xs ys : List Cell) (c : Cell) → Contains (xs ++ (c ∷ ys)) c
contains_mid xs ys c = Contains-append_right xs (c ∷ ys) c (0, (let q : 0 < suc (length ys) = omega arith in q), refl)

-- the last hidden cell and the first named one are of two runs
frame_runs : (frame offsets : List ℕ) (id : Option ℕ) → AreNamedLater (cells frame offsets id) (cells frame offsets None) →
    RunsLater (runs_of (cells frame offsets id)) (runs_of (cells frame offsets None))
frame_runs frame offsets id l = by l.hidden l.named l.whole_is l.rest_is l.begins where
  apart : (front : List Cell) (c : Cell) (xs : List Cell) (y : Cell) (ys : List Cell) → cells frame offsets None ≡ front ++ (map unnamed (c ∷ xs) ++ (y ∷ ys)) → is_none y.id ≡ false → Apart c xs y
  apart front c [] y ys e b = λ r.
      (let x = one_id frame offsets None (unnamed c) y (subst (λ (cs : List Cell). Contains cs (unnamed c)) (sym e) (contains_mid front (y ∷ ys) (unnamed c)))
      (subst (λ (cs : List Cell). Contains cs y) (sym (e ∙ sym (append_assoc front (unnamed c ∷ []) (y ∷ ys)))) (contains_mid (front ++ unnamed c ∷ []) ys y)) (sym r) in
      let q : true ≡ false = ap (λ (o : Option ℕ). is_none o) x ∙ b in cc)
  apart front c (d ∷ xs) y ys e b = apart (front ++ unnamed c ∷ []) d xs y ys (e ∙ sym (append_assoc front (unnamed c ∷ []) (map unnamed (d ∷ xs) ++ (y ∷ ys)))) b

  by : (hidden named : List Cell) → cells frame offsets id ≡ hidden ++ named → cells frame offsets None ≡ map unnamed hidden ++ named → BeginsNamed named →
      RunsLater (runs_of (cells frame offsets id)) (runs_of (cells frame offsets None))
  by [] named e f b = record { hidden = []; named = runs_of named; whole_is = ap runs_of e; rest_is = ap runs_of f }
  by (c ∷ xs) [] e f b = record {
    hidden = runs_of (c ∷ xs);
    named = [];
    whole_is = ap runs_of (e ∙ append-nil (c ∷ xs)) ∙ sym (append-nil (runs_of (c ∷ xs)));
    rest_is = ap runs_of (f ∙ append-nil (map unnamed (c ∷ xs))) ∙ hidden_runs (c ∷ xs) ∙ sym (append-nil (map unnamed_run (runs_of (c ∷ xs))));
  }
  by (c ∷ xs) (y ∷ ys) e f b = record {
    hidden = runs_of (c ∷ xs);
    named = runs_of (y ∷ ys);
    whole_is = ap runs_of e ∙ runs_append c xs y ys (apart [] c xs y ys f b);
    rest_is = ap runs_of f ∙ runs_append (unnamed c) (map unnamed xs) y ys (hidden_apart c xs (apart [] c xs y ys f b)) ∙ ap (λ (r : List (List Cell)). r ++ runs_of (y ∷ ys)) (hidden_runs (c ∷ xs));
  } where
    hidden_apart : (c : Cell) (xs : List Cell) → Apart c xs y → Apart (unnamed c) (map unnamed xs) y
    hidden_apart c [] h = h
    hidden_apart c (d ∷ xs) h = hidden_apart d xs h

pub items_runs : (id : Option ℕ) (port_items : List PortItem) → RunsLater (all_runs (frames_of_items id port_items)) (all_runs (frames_of_items None port_items))
items_runs id [] = record { hidden = []; named = []; whole_is = refl; rest_is = refl }
items_runs id (Full ∷ port_items) = items_runs id port_items
items_runs id (Half ∷ port_items) = items_runs id port_items
items_runs id (Frame f halves ∷ port_items) = elim (frame_names (units_of f) (offsets_of f) id) [
  | inl m ↦ same_after m.1 (frame_runs (units_of f) (offsets_of f) id (begin_named _ _ m.0.hidden m.0.named m.0.whole_is m.0.rest_is))
  | inr m ↦ hidden_before m.0 m.1 m.2 (items_runs id port_items)
] where
  same_after : id_after (units_of f) None ≡ id_after (units_of f) id → RunsLater (runs_of (cells (units_of f) (offsets_of f) id)) (runs_of (cells (units_of f) (offsets_of f) None)) →
      RunsLater (all_runs (frames_of_items id (Frame f halves ∷ port_items))) (all_runs (frames_of_items None (Frame f halves ∷ port_items)))
  same_after e l = record {
    hidden = l.hidden;
    named = l.named ++ all_runs (frames_of_items (id_after (units_of f) id) port_items);
    whole_is = ap (λ (r : List (List Cell)). r ++ all_runs (frames_of_items (id_after (units_of f) id) port_items)) l.whole_is ∙ append_assoc l.hidden l.named (all_runs (frames_of_items (id_after (units_of f) id) port_items));
    rest_is =
        ap (λ (o : Option ℕ). runs_of (cells (units_of f) (offsets_of f) None) ++ all_runs (frames_of_items o port_items)) e
        ∙ ap (λ (r : List (List Cell)). r ++ all_runs (frames_of_items (id_after (units_of f) id) port_items)) l.rest_is
        ∙ append_assoc (map unnamed_run l.hidden) l.named (all_runs (frames_of_items (id_after (units_of f) id) port_items));
  }

  hidden_before : cells (units_of f) (offsets_of f) None ≡ map unnamed (cells (units_of f) (offsets_of f) id) → id_after (units_of f) None ≡ None → id_after (units_of f) id ≡ id →
      RunsLater (all_runs (frames_of_items id port_items)) (all_runs (frames_of_items None port_items)) →
      RunsLater (all_runs (frames_of_items id (Frame f halves ∷ port_items))) (all_runs (frames_of_items None (Frame f halves ∷ port_items)))
  hidden_before e n o l = record {
    hidden = runs_of (cells (units_of f) (offsets_of f) id) ++ l.hidden;
    named = l.named;
    whole_is =
        ap (λ (x : Option ℕ). runs_of (cells (units_of f) (offsets_of f) id) ++ all_runs (frames_of_items x port_items)) o
        ∙ ap (λ (r : List (List Cell)). runs_of (cells (units_of f) (offsets_of f) id) ++ r) l.whole_is ∙ sym (append_assoc (runs_of (cells (units_of f) (offsets_of f) id)) l.hidden l.named);
    rest_is =
        ap (λ (x : Option ℕ). runs_of (cells (units_of f) (offsets_of f) None) ++ all_runs (frames_of_items x port_items)) n
        ∙ ap (λ (cs : List Cell). runs_of cs ++ all_runs (frames_of_items None port_items)) e
        ∙ ap (λ (r : List (List Cell)). r ++ all_runs (frames_of_items None port_items)) (hidden_runs (cells (units_of f) (offsets_of f) id))
        ∙ ap (λ (r : List (List Cell)). map unnamed_run (runs_of (cells (units_of f) (offsets_of f) id)) ++ r) l.rest_is
        ∙ sym (append_assoc (map unnamed_run (runs_of (cells (units_of f) (offsets_of f) id))) (map unnamed_run l.hidden) l.named)
        ∙ ap (λ (r : List (List Cell)). r ++ l.named) (sym (map-append unnamed_run (runs_of (cells (units_of f) (offsets_of f) id)) l.hidden));
  }

-- The first run that has an ID begins with the first cell that has one.
use Rattle.std.proofs.Common.{◌≡◌, ℕ, suc, ◌<◌, List, [], ◌∷◌, ◌++◌, length, refl, sym, ◌∙◌, ap, arith, Bool, true}
use Rattle.std.proofs.Common.{false, cond, Option, None, Some}
use Rattle.std.specs.Prelude.{◌==◌, is_none}
use Rattle.std.specs.List.{flat_map, Contains}
use Rattle.std.proofs.lemmas.Bool.{eqb-true}
use Rattle.resync_laws.specs.Names.{Cell, Place, port_reading, joined, runs_of, all_runs}
use Rattle.deformatter.specs.Runs.{HaveRuns}
use Rattle.deformatter.proofs.PortReadingLaws.{frames_have_runs}
use Rattle.resync_laws.specs.Resumed.{first_named, PortPointLaw}
use Rattle.resync_laws.specs.FromPoints.{first_in}
use Rattle.resync_laws.proofs.RunsLater.{begins}

-- neighbours of one run have one ID
abbrev Alike : List Cell → Type 0
Alike [] = Unit {0}
Alike (c ∷ []) = Unit {0}
Alike (c ∷ (d ∷ cells)) = (d.run ≡ c.run → d.id ≡ c.id) × Alike (d ∷ cells)

abbrev place : Cell → Place
place c = record { at = c.at; half = 0 }

first_runs : (cells : List Cell) → Alike cells → first_named (runs_of cells) ≡ first_in cells
first_runs [] h = refl
first_runs (c ∷ []) h = refl
first_runs (c ∷ (d ∷ cells)) h =
    let b = begins d (runs_of cells) in
    ap (λ (l : List (List Cell)). first_named (joined c l)) b.2
    ∙ by b.0 b.1 (d.run == c.run) refl (ap first_named (sym b.2) ∙ first_runs (d ∷ cells) h.1) where
      none : (run : List Cell) (more : List (List Cell)) → d.id ≡ c.id → first_named ((d ∷ run) ∷ more) ≡ first_in (d ∷ cells) → (t : Bool) → is_none c.id ≡ t →
          cond t (first_named more) (Some (place c)) ≡ cond t (first_in (d ∷ cells)) (Some (place c))
      none run more i k true e = ap (λ (b : Bool). cond b (first_named more) (Some (place d))) (sym (ap (λ (o : Option ℕ). is_none o) i ∙ e)) ∙ k
      none run more i k false e = refl

      by : (run : List Cell) (more : List (List Cell)) (t : Bool) → (d.run == c.run) ≡ t → first_named ((d ∷ run) ∷ more) ≡ first_in (d ∷ cells) →
          first_named (cond t ((c ∷ (d ∷ run)) ∷ more) ((c ∷ []) ∷ ((d ∷ run) ∷ more))) ≡ first_in (c ∷ (d ∷ cells))
      by run more true e k = none run more (h.0 (eqb-true d.run c.run e)) k (is_none c.id) refl
      by run more false e k = ap (λ (o : Option Place). cond (is_none c.id) o (Some (place c))) k

abbrev or_else : Option Place → Option Place → Option Place
or_else None o = o
or_else (Some p) o = Some p

runs_or : (a b : List (List Cell)) → first_named (a ++ b) ≡ or_else (first_named a) (first_named b)
runs_or [] b = refl
runs_or ([] ∷ a) b = runs_or a b
runs_or ((c ∷ run) ∷ a) b = by (is_none c.id) (runs_or a b) where
  by : (t : Bool) → first_named (a ++ b) ≡ or_else (first_named a) (first_named b) → cond t (first_named (a ++ b)) (Some (place c)) ≡ or_else (cond t (first_named a) (Some (place c))) (first_named b)
  by true k = k
  by false k = refl

cells_or : (a b : List Cell) → first_in (a ++ b) ≡ or_else (first_in a) (first_in b)
cells_or [] b = refl
cells_or (c ∷ a) b = by (is_none c.id) (cells_or a b) where
  by : (t : Bool) → first_in (a ++ b) ≡ or_else (first_in a) (first_in b) → cond t (first_in (a ++ b)) (Some (place c)) ≡ or_else (cond t (first_in a) (Some (place c))) (first_in b)
  by true k = k
  by false k = refl

alike_of : (cells : List Cell) → ((c d : Cell) → Contains cells c → Contains cells d → c.run ≡ d.run → c.id ≡ d.id) → Alike cells
alike_of [] h = tt
alike_of (c ∷ []) h = tt
alike_of (c ∷ (d ∷ cells)) h = (
  (λ e. h d c (1, (let q : 1 < suc (suc (length cells)) = omega arith in q), refl) (0, (let q : 0 < suc (suc (length cells)) = omega arith in q), refl) e),
  alike_of (d ∷ cells) (λ x y p q e. h x y (suc p.0, (let k = p.1 in omega arith), p.2) (suc q.0, (let k = q.1 in omega arith), q.2) e),
)

frames_point : (frames : List (List Cell)) → HaveRuns frames → first_named (all_runs frames) ≡ first_in (flat_map (λ (frame : List Cell). frame) frames)
frames_point [] h = refl
frames_point (f ∷ frames) h =
    runs_or (runs_of f) (all_runs frames) ∙ ap (λ (o : Option Place). or_else o (first_named (all_runs frames))) (first_runs f (alike_of f h.0.one_id))
    ∙ ap (or_else (first_in f)) (frames_point frames h.1) ∙ sym (cells_or f (flat_map (λ (frame : List Cell). frame) frames))

pub port_point : PortPointLaw
port_point mode u = frames_point (port_reading mode u).frames (frames_have_runs mode u)

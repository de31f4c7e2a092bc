use Rattle.std.proofs.Common.{rules, ◌≡◌, ◌≤◌, ℕ, ◌+◌, ◌-◌, List, [], ◌∷◌, ◌++◌, refl, sym, ◌∙◌, ap, subst, arith, true, false, Option}
use Rattle.std.specs.Prelude.{◌==◌, ◌&&◌}
use Rattle.deformatter.specs.Names.{Cell, Mode, Hunting, Placed, byte_at, StandsIn, hunts, skipped_of, is_counted}
use Rattle.deformatter.specs.Names.{state_after, Full, start, rule, pattern, run_of}
use Rattle.trace_values.proofs.Modes as laws
use Rattle.deformatter.specs.Phase.{mode_in}
use Rattle.deformatter.specs.Reading.{port_stream, cells_in, id_in}
use Rattle.deformatter.specs.Block.{TakesByte}
use Rattle.deformatter.specs.Growth.{PortGrows, goes_on}
use Rattle.deformatter.specs.Rule.{count_of, cells_by, id_by}
use Rattle.deformatter.specs.Deformatter.{Stands, mode_of, state_of, id_of, is_live, is_hunter, tail_of, skipped_by}
use Rattle.deformatter.specs.declared.step.PortStep.{PortStep}
use Rattle.deformatter.specs.declared.step.PortStep.TheVariants.{Quiet, Locked}
use Rattle.deformatter.specs.declared.deformatter.Deformatter.{Deformatter}
use Rattle.deformatter.specs.declared.deformatter.Phase.{Phase}
use Rattle.deformatter.specs.declared.deformatter.Phase.TheVariants.{Hunting as PhaseHunting}
use Rattle.deformatter.proofs.Blocks.{silent_cells}
use Rattle.deformatter.proofs.Feeding.{Fed, fed, long_enough, Sought, skips, locks, reads_on, stays_live, few_more}
use Rattle.deformatter.proofs.deformatter.Deformatter.feed.Goals as goal

-- the mode of a deformatter that hunts
hunts_in : (d : Deformatter) → d.phase ≡ PhaseHunting → mode_of d ≡ Hunting (run_of d.hunter) d.skipped
hunts_in d e = ap (λ (p : Phase). mode_in p d.hunter d.skipped) e

-- this is the answer to a byte of the hunt
abbrev Seeking : Deformatter → ℕ → ℕ → PortStep → Type 0
Seeking d at byte step = (u : List Placed) → Stands d u → Sought (is_hunter d) u at byte step

-- so it takes the byte, which gives nothing
hunted : {old new : Deformatter} {at byte : ℕ} {step : PortStep} {given : List Cell} → Seeking old at byte step → given ≡ [] → is_hunter new ≡ is_hunter old → is_live new ≡ goes_on step →
    tail_of new + skipped_by new ≤ tail_of old + skipped_by old + 1 → (tail_of new ≤ tail_of old + 1) × (skipped_by new ≤ skipped_by old + 1) →
    ((u : List Placed) → Stands old u → Stands new (u ++ byte_at at byte ∷ [])) → TakesByte old new at byte step given
hunted {given = given} sought e same live few each list = record {
  same = same;
  list = list;
  step = λ u s. (sought u s).grows;
  cells = λ u s. (sought u s).cells given e;
  live = live;
  few = few;
  each = each;
  quiet = λ _. e;
}

pub returns-then-push : goal.returns-then-push
returns-then-push c =
    let d = c.args.self.now in
    let b = byte_at c.args.at c.args.byte in
    let e = hunts_in d c.in-Hunting.is in
    let f : (c.args.byte == 127 && run_of d.hunter == 3) ≡ true = sym c.push.ensures.ends ∙ c.if-push.true in
    let long = long_enough (run_of d.hunter) d.skipped c.args.byte (sym (ap (λ (p : Phase). is_counted pattern (mode_in p d.hunter d.skipped)) c.in-Hunting.is) ∙ d.counted) f in
    let sought : Seeking d c.args.at c.args.byte (Locked (d.skipped - 3)) = λ u s. locks (mode_of d) (run_of d.hunter) d.skipped u c.args.at c.args.byte (is_live d) (state_of d) e s.reads f long in
    hunted sought c.requires.out (search rules) (search rules) (search rules) (search rules) (λ u s. record {
      reads = laws.locks-list pattern Full rule start (mode_of d) (run_of d.hunter) d.skipped b (is_live d) (state_of d) u e f s.reads;
      id = λ l. s.id l ∙ (sought u s).id ∙ ap (λ (x : Mode). id_in (port_stream (hunts x) (u ++ b ∷ []))) e;
    })

pub returns-else-push : goal.returns-else-push
returns-else-push c =
    let d = c.args.self.now in
    let b = byte_at c.args.at c.args.byte in
    let e = hunts_in d c.in-Hunting.is in
    let f : (c.args.byte == 127 && run_of d.hunter == 3) ≡ false = sym c.push.ensures.ends ∙ c.if-push.false in
    let now : mode_in d.phase c.push.new.self (d.skipped + 1) ≡ Hunting (run_of c.push.new.self) (d.skipped + 1) = ap (λ (p : Phase). mode_in p c.push.new.self (d.skipped + 1)) c.in-Hunting.is in
    let sought : Seeking d c.args.at c.args.byte Quiet = λ u s. skips (mode_of d) (run_of d.hunter) d.skipped u c.args.at c.args.byte (is_live d) (state_of d) e s.reads f in
    hunted sought c.requires.out (search rules) (search rules) (search rules) (search rules) (λ u s. record {
      reads = subst (λ (x : Mode). StandsIn pattern Full rule start x (is_live d) (state_of d) (u ++ b ∷ [])) (sym now)
          (subst (λ (n : ℕ). StandsIn pattern Full rule start (Hunting n (d.skipped + 1)) (is_live d) (state_of d) (u ++ b ∷ [])) (sym c.push.ensures.run)
          (laws.skips-list pattern Full rule start (mode_of d) (run_of d.hunter) d.skipped b (is_live d) (state_of d) u e f s.reads));
      id = λ l. s.id l ∙ (sought u s).id ∙ ap (λ (x : Mode). id_in (port_stream (hunts x) (u ++ b ∷ []))) e
          ∙ sym (ap (λ (x : Mode). id_in (port_stream (hunts x) (u ++ b ∷ []))) now);
    })

-- a byte of the reading
reading : (c : goal.After-read) (u : List Placed) → Stands c.args.self.now u →
    Fed (is_hunter c.args.self.now) u c.args.at c.args.byte (state_of c.args.self.now) (rule (state_of c.args.self.now) (byte_at c.args.at c.args.byte))
reading c u s =
    let d = c.args.self.now in
    fed (mode_of d) (is_live d) (state_of d) u c.args.at c.args.byte c.requires.live (reads_on d.phase d.hunter d.skipped c.in_default.not-Hunting) s.reads

pub returns-in_default : goal.returns-in_default
returns-in_default c =
    let d = c.args.self.now in
    let m = c.read.ensures.mode in
    record {
      same = ap hunts m;
      list = λ u s. record {
        reads = subst (λ (x : Mode). StandsIn pattern Full rule start x (is_live c.read.new.self) (state_of c.read.new.self) (u ++ byte_at c.args.at c.args.byte ∷ [])) (sym m)
            (laws.reads-list pattern Full rule start (mode_of d) (is_live d) (state_of d) u (byte_at c.args.at c.args.byte) (is_live c.read.new.self) (state_of c.read.new.self) (rule (state_of d) (byte_at c.args.at c.args.byte))
            c.requires.live (reads_on d.phase d.hunter d.skipped c.in_default.not-Hunting) refl c.read.ensures.live c.read.ensures.state s.reads);
        id = λ _. c.read.ensures.id ∙ ap (λ (x : Option ℕ). id_by x (rule (state_of d) (byte_at c.args.at c.args.byte))) (s.id c.requires.live) ∙ sym (reading c u s).id
            ∙ sym (ap (λ (x : Mode). id_in (port_stream (hunts x) (u ++ byte_at c.args.at c.args.byte ∷ []))) m);
      };
      step = λ u s. subst (λ (x : PortStep). PortGrows (port_stream (is_hunter d) u) (port_stream (is_hunter d) (u ++ byte_at c.args.at c.args.byte ∷ [])) c.args.at x) (sym c.read.ensures.step) (reading c u s).grows;
      cells = λ u s. (reading c u s).cells
          ∙ ap (λ (x : Option ℕ). cells_in (port_stream (is_hunter d) u) ++ cells_by x (rule (state_of d) (byte_at c.args.at c.args.byte))) (sym (s.id c.requires.live))
          ∙ ap (λ (l : List Cell). cells_in (port_stream (is_hunter d) u) ++ l) (sym c.read.ensures.cells);
      live = c.read.ensures.live ∙ stays_live c.args.at (state_of d) (rule (state_of d) (byte_at c.args.at c.args.byte)) ∙ ap goes_on (sym c.read.ensures.step);
      few = joined (tail_of c.read.new.self) (skipped_by c.read.new.self) (tail_of d) (skipped_by d) _ (ap skipped_of m) (ap count_of c.read.ensures.state) (one_more c);
      each = (
        let a : tail_of c.read.new.self ≡ count_of (state_after start (rule (state_of d) (byte_at c.args.at c.args.byte)) (state_of d)) = ap count_of c.read.ensures.state in
            let e = one_more c in
            no_more (tail_of c.read.new.self) _ (tail_of d) a e,
        (let a : skipped_by c.read.new.self ≡ skipped_by d = ap skipped_of m in omega (arith, a)),
      );
      quiet = λ q. c.read.ensures.cells
          ∙ silent_cells c.args.at (state_of d) (id_of d) (rule (state_of d) (byte_at c.args.at c.args.byte)) (sym c.read.ensures.step ∙ q);
    } where
      joined : (x y z w v : ℕ) → y ≡ w → x ≡ v → v ≤ z + 1 → x + y ≤ z + w + 1
      joined x y z w v a b e = omega arith

      no_more : (x v z : ℕ) → x ≡ v → v ≤ z + 1 → x ≤ z + 1
      no_more x v z a e = omega arith

      one_more : (c : goal.After-read) → count_of (state_after start (rule (state_of c.args.self.now) (byte_at c.args.at c.args.byte)) (state_of c.args.self.now)) ≤ tail_of c.args.self.now + 1
      one_more c =
          let d = c.args.self.now in
          few_more d.aligner.left _ _ d.aligner.part d.first_at d.frame.len (byte_at c.args.at c.args.byte) d.whole d.between d.aligner.fit

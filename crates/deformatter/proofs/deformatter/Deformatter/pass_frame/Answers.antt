use Rattle.std.proofs.Common.{◌≡◌, ℕ, List, ◌++◌, sym, ◌∙◌, ap, subst, Bool, true, Option}
use Rattle.deformatter.specs.Names.{Placed, units_of, placed_from, StandsIn, id_after, Full, Frame, State, Spells}
use Rattle.deformatter.specs.Names.{start, rule, pattern}
use Rattle.frame_grammar.proofs.Deciding.{port_decided}
use Rattle.deformatter.specs.Reading.{port_stream}
use Rattle.deformatter.specs.Frames.{IsBetween, GrowsByFrame}
use Rattle.deformatter.specs.Deformatter.{Stands, mode_of, state_of, is_live, is_hunter}
use Rattle.deformatter.specs.declared.deformatter.Deformatter.{Deformatter}
use Rattle.deformatter.proofs.Blocks.{frame_fed}
use Rattle.deformatter.proofs.Frames as frames
use Rattle.deformatter.proofs.Frames.{Passed, passed}
use Rattle.deformatter.proofs.deformatter.Deformatter.pass_frame.Goals as goal

-- it stands for these bytes with nothing of an item there
between : (d : Deformatter) (u : List Placed) → is_live d ≡ true → IsBetween d → Stands d u → StandsIn pattern Full rule start (mode_of d) true start u
between d u l b s =
    subst (λ (x : Bool). StandsIn pattern Full rule start (mode_of d) x start u) l
    (subst (λ (x : State). StandsIn pattern Full rule start (mode_of d) (is_live d) x u) b.1 s.reads)

passing : (d : Deformatter) (u w f : List Placed) (halves : ℕ) → is_live d ≡ true → IsBetween d → Stands d u → Spells (Frame f halves) w → Passed (mode_of d) u w f halves
passing d u w f halves l b s q =
    passed (mode_of d) u w f halves q b.0 (between d u l b s)

pub returns-clause-list : goal.returns-clause-list
returns-clause-list c = λ u w f halves s q after.
    let d = c.args.self.now in
    let t = passing d u w f halves c.requires.live c.requires.between s q in
    record {
      reads = subst (λ (x : Bool). StandsIn pattern Full rule start (mode_of d) x (state_of d) (u ++ w)) (sym c.requires.live)
          (subst (λ (x : State). StandsIn pattern Full rule start (mode_of d) true x (u ++ w)) (sym c.requires.between.1) t.stands);
      id = λ _. after ∙ ap (id_after (units_of f)) (s.id c.requires.live) ∙ sym (frames.id (mode_of d) u w f halves t);
    }

pub returns-clause-grows : goal.returns-clause-grows
returns-clause-grows c = λ u w f halves s q.
    let d = c.args.self.now in
    subst (λ (i : Option ℕ). GrowsByFrame (port_stream (is_hunter d) u) (port_stream (is_hunter d) (u ++ w)) w f halves i) (sym (s.id c.requires.live))
    (frames.grows (mode_of d) u w f halves (passing d u w f halves c.requires.live c.requires.between s q))

pub returns-clause-fed : goal.returns-clause-fed
returns-clause-fed c = λ u f halves at bytes s q.
    let d = c.args.self.now in
    frame_fed (mode_of d) c.requires.between.0 f halves start u at bytes (port_decided.complete (Frame f halves) (placed_from at bytes) q)
    (between d u c.requires.live c.requires.between s)

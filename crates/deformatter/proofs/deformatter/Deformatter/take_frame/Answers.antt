use Rattle.std.proofs.Common.{◌≡◌, ◌++◌, ℕ, List, length, sym, ◌∙◌, ap, subst, arith, Bool, Option}
use Rattle.std.specs.List.{range_with_len}
use Rattle.deformatter.specs.Names.{Cell, placed_from, StandsIn, id_after, cells, Full, State, start, rule, offsets_of}
use Rattle.deformatter.specs.Names.{pattern}
use Rattle.deformatter.specs.Reading.{port_stream, cells_in}
use Rattle.deformatter.specs.Deformatter.{mode_of, id_of, is_live, is_hunter}
use Rattle.deformatter.proofs.Blocks.{offsets_are, words_fed}
use Rattle.frame_grammar.proofs.Wholes.{spells, units_from}
use Rattle.deformatter.proofs.deformatter.Deformatter.take_frame.Goals as goal

pub returns-clause-takes : goal.returns-clause-takes
returns-clause-takes c = λ u s.
    let d = c.args.self.now in
    let frame = c.args.frame.now in
    let at = c.args.at in
    let w = placed_from at frame in
    let size : length frame ≡ 16 = (let h = c.told-frame in omega arith) in
    let grows = c.pass_frame.ensures.grows u w w 0 s (spells at frame size c.requires.proper) in
    record {
      list = c.pass_frame.ensures.list u w w 0 s (spells at frame size c.requires.proper)
          (c.cells_of-after.ensures.id ∙ ap (id_after frame) c.id.ensures ∙ ap (λ (l : List ℕ). id_after l (id_of d)) (sym (units_from at frame)));
      fed = words_fed (mode_of d) c.requires.between.0 7 _ u at frame size c.requires.proper
          (subst (λ (x : Bool). StandsIn pattern Full rule start (mode_of d) x start u) c.requires.live
          (subst (λ (x : State). StandsIn pattern Full rule start (mode_of d) (is_live d) x u) c.requires.between.1 s.reads));
      cells = grows.cells
          ∙ ap (λ (l : List Cell). cells_in (port_stream (is_hunter d) u) ++ l)
          (ap (λ (f : List ℕ). cells f (offsets_of w) (id_of d)) (units_from at frame)
          ∙ ap (λ (o : List ℕ). cells frame o (id_of d)) (offsets_are at frame ∙ ap (range_with_len at) size ∙ sym c.offsets_from.ensures)
          ∙ ap (λ (i : Option ℕ). cells frame c.offsets_from.result i) (sym c.id.ensures)
          ∙ sym c.cells_of-after.ensures.cells);
    }

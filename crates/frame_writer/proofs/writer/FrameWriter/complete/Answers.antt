use Rattle.std.proofs.Common.{◌≡◌, ℕ, ◌+◌, List, [], ◌∷◌, ◌++◌, Bool, Some, refl, length, ap, ◌∙◌, sym, arith, cond, false}
use Rattle.std.proofs.lemmas.Bool.Decides.{nat_tests}
use Rattle.frame_writer.specs.declared.pair.Pair.{Pair}
use Rattle.frame_writer.specs.Writer.{later_of}
use Rattle.frame_writer.proofs.Frames.{idle, last_null}
use Rattle.frame_writer.proofs.Standing.{frame_as}
use Rattle.frame_writer.proofs.writer.FrameWriter.complete.Goals as goal

no_pair : (pairs : List Pair) → length pairs ≡ 0 → pairs ≡ []
no_pair [] e = refl
no_pair (p ∷ pairs) e = absurd (omega arith)

pub returns-then-is_empty-clause-none : goal.returns-then-is_empty-clause-none
returns-then-is_empty-clause-none c = λ e later.
    let w = c.release.new.self in
    let l : length w.pairs.items ≡ 0 = (let e = c.is_empty.ensures in let f = c.if-is_empty.ensures in let g = c.if-is_empty.true in grind (arith, nat_tests)) in (
      c.release.ensures.to_come later ∙ idle w.every w.halves (later_of w later) w.frames w.pairs.items w.id w.held l c.release.ensures.held,
      c.requires.empty,
      no_pair w.pairs.items l,
    )

pub returns-then-is_null_in_force-clause-frame : goal.returns-then-is_null_in_force-clause-frame
returns-then-is_null_in_force-clause-frame c = λ e.
    let w = c.fill_pairs.new.self in frame_as w.every w.halves w.frames w.pairs.items _ false _ c.append_frame.ensures.items

pub returns-then-is_null_in_force-clause-to_come : goal.returns-then-is_null_in_force-clause-to_come
returns-then-is_null_in_force-clause-to_come c = λ e later.
    let w = c.fill_pairs.new.self in
    let out = c.append_frame.new.out.items in
    c.release.ensures.to_come later ∙ c.fill_pairs.ensures.to_come later
    ∙ sym (last_null w.every w.halves (later_of w later) w.frames 0 w.pairs.items w.id w.id w.held out c.fill_pairs.ensures.pairs c.fill_pairs.ensures.held
    (ap (λ (b : Bool). cond b 0 1) c.if-is_null_in_force.ensures) (ap (λ (b : Bool). cond b w.id (Some 0)) c.if-is_null_in_force.ensures) c.append_frame.ensures.items)
    ∙ ap (λ (l : List (List ℕ)). l ++ later_of w later (w.frames + 1) w.id) (sym (returns-then-is_null_in_force-clause-frame c refl))

pub returns-else-is_null_in_force-clause-frame : goal.returns-else-is_null_in_force-clause-frame
returns-else-is_null_in_force-clause-frame c = λ e.
    let w = c.fill_pairs.new.self in frame_as w.every w.halves w.frames w.pairs.items _ false _ c.append_frame-else-is_null_in_force.ensures.items

pub returns-else-is_null_in_force-clause-to_come : goal.returns-else-is_null_in_force-clause-to_come
returns-else-is_null_in_force-clause-to_come c = λ e later.
    let w = c.fill_pairs.new.self in
    let d = c.new-self.result in
    let out = c.append_frame-else-is_null_in_force.new.out.items in
    c.release.ensures.to_come later ∙ c.fill_pairs.ensures.to_come later
    ∙ sym (last_null w.every w.halves (later_of w later) w.frames 1 w.pairs.items w.id d w.held out c.fill_pairs.ensures.pairs c.fill_pairs.ensures.held
    (ap (λ (b : Bool). cond b 0 1) c.if-is_null_in_force.ensures) (c.new-self.ensures ∙ ap (λ (b : Bool). cond b w.id (Some 0)) c.if-is_null_in_force.ensures) c.append_frame-else-is_null_in_force.ensures.items)
    ∙ ap (λ (l : List (List ℕ)). l ++ later_of w later (w.frames + 1) d) (sym (returns-else-is_null_in_force-clause-frame c refl))

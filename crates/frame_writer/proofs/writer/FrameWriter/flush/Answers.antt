use Rattle.std.proofs.Common.{◌≡◌, ℕ, ◌+◌, List, [], ◌∷◌, ◌++◌, length, ap, ◌∙◌, sym, arith, None}
use Rattle.frame_writer.specs.Writer.{as_frame, later_of, to_come}
use Rattle.frame_writer.specs.declared.writer.FrameWriter.{FrameWriter}
use Rattle.frame_writer.proofs.Frames.{nothing, waits}
use Rattle.frame_writer.proofs.Standing.{nothing_before, none_more, stands_flush}
use Rattle.frame_writer.proofs.writer.FrameWriter.flush.Goals as goal

-- nothing is to come where no pair is there and no byte is held
nothing_left : (w : FrameWriter) → w.pairs.items ≡ [] → w.held ≡ None → to_come w [] [] ≡ []
nothing_left w p h =
    sym (waits w.every w.halves (later_of w []) w.frames w.pairs.items w.id w.held [] p h) ∙ nothing w.every w.halves (later_of w []) w.frames w.id

pub returns-then-complete-clause-to_come : goal.returns-then-complete-clause-to_come
returns-then-complete-clause-to_come c = λ t later.
    c.complete.ensures.to_come c.if-complete.true (t ∷ later) ∙ ap (λ (l : List (List ℕ)). as_frame c.complete.new.out.items ++ l) (c.begin_frame.ensures.to_come t later)

pub returns-then-complete-clause-count : goal.returns-then-complete-clause-count
returns-then-complete-clause-count c =
    c.begin_frame.ensures.begun.0 ∙ ap (λ (n : ℕ). n + 1) c.complete.ensures.same
    ∙ ap (λ (l : List (List ℕ)). c.args.self.now.frames + length l) (sym (c.complete.ensures.frame c.if-complete.true))

pub returns-then-complete-clause-list : goal.returns-then-complete-clause-list
returns-then-complete-clause-list c = λ every halves closed t so_far s.
    stands_flush c.args.self.now c.begin_frame.new.self every halves closed c.complete.new.out.items so_far t (returns-then-complete-clause-to_come c) (returns-then-complete-clause-count c) s

pub returns-then-complete-clause-none : goal.returns-then-complete-clause-none
returns-then-complete-clause-none c = nothing_left c.begin_frame.new.self c.begin_frame.ensures.begun.1 c.begin_frame.ensures.begun.2

pub returns-else-complete-clause-to_come : goal.returns-else-complete-clause-to_come
returns-else-complete-clause-to_come c = λ t later.
    let w = c.complete.new.self in
    let none = c.complete.ensures.none c.if-complete.false (t ∷ later) in
    nothing_before c.complete.new.out.items _ _ none.1
    (none.0 ∙ waits w.every w.halves (later_of w later) w.frames w.pairs.items w.id w.held t none.2 c.complete.ensures.held)

pub returns-else-complete-clause-count : goal.returns-else-complete-clause-count
returns-else-complete-clause-count c =
    c.complete.ensures.same ∙ none_more c.complete.new.out.items c.args.self.now.frames (c.complete.ensures.none c.if-complete.false []).1

pub returns-else-complete-clause-list : goal.returns-else-complete-clause-list
returns-else-complete-clause-list c = λ every halves closed t so_far s.
    stands_flush c.args.self.now c.complete.new.self every halves closed c.complete.new.out.items so_far t (returns-else-complete-clause-to_come c) (returns-else-complete-clause-count c) s

pub returns-else-complete-clause-none : goal.returns-else-complete-clause-none
returns-else-complete-clause-none c = nothing_left c.complete.new.self (c.complete.ensures.none c.if-complete.false []).2 c.complete.ensures.held

pub returns-else-complete-clause-load : goal.returns-else-complete-clause-load
returns-else-complete-clause-load c = let e = ap length (c.complete.ensures.none c.if-complete.false []).2 in omega arith

pub returns-else-complete-clause-len : goal.returns-else-complete-clause-len
returns-else-complete-clause-len c = let e = ap length (c.complete.ensures.none c.if-complete.false []).1 in let f = c.complete.ensures.same in omega arith

use Rattle.std.proofs.Common.{◌≡◌, ℕ, ◌+◌, ◌≤◌, List, [], ◌∷◌, ◌++◌, length, ap, ◌∙◌, sym, append-nil}
use Rattle.frame_writer.specs.declared.writer.FrameWriter.{FrameWriter}
use Rattle.frame_writer.specs.Written.{Tagged, segment_frames, written_segments}
use Rattle.frame_writer.specs.Writer.{to_come, appended, as_frame, Stands}
use Rattle.frame_writer.proofs.Standing.{nothing_as, none_more, finished, finished_count}
use Rattle.frame_writer.proofs.writer.FrameWriter.finish.Goals as goal

-- the capture and its frames, by what was still to come and by the count
ended : (w : FrameWriter) (out : List ℕ) (n : ℕ) → as_frame out ≡ to_come w [] [] → n ≡ appended w + length (as_frame out) → length out ≤ 132 → record {
  capture : (every halves : ℕ) (closed : List (List Tagged)) (t : List Tagged) (so_far : List ℕ) → Stands w every halves closed t so_far → so_far ++ out ≡ written_segments every halves (closed ++ t ∷ []);
  frames : (every halves : ℕ) (closed : List (List Tagged)) (t : List Tagged) (so_far : List ℕ) → Stands w every halves closed t so_far → n ≡ length (segment_frames every halves (closed ++ t ∷ []));
  to_come : as_frame out ≡ to_come w [] [];
  count : n ≡ appended w + length (as_frame out);
  few : length out ≤ 132;
}
ended w out n e f few = record {
  capture = λ every halves closed t so_far s. finished w every halves closed t so_far out e s;
  frames = λ every halves closed t so_far s. finished_count w every halves closed t so_far out n e f s;
  to_come = e;
  count = f;
  few = few;
}

pub returns-then-complete : goal.returns-then-complete
returns-then-complete c =
    ended c.args.self c.complete.new.out.items _ (sym (append-nil (as_frame c.complete.new.out.items)) ∙ sym (c.complete.ensures.to_come c.if-complete.true []))
    (ap (λ (n : ℕ). n + 1) c.complete.ensures.same ∙ ap (λ (l : List (List ℕ)). c.args.self.frames + length l) (sym (c.complete.ensures.frame c.if-complete.true)))
    c.complete.ensures.few

pub returns-else-complete : goal.returns-else-complete
returns-else-complete c =
    let none = c.complete.ensures.none c.if-complete.false [] in
    ended c.args.self c.complete.new.out.items _ (nothing_as c.complete.new.out.items none.1 ∙ sym none.0)
    (c.complete.ensures.same ∙ none_more c.complete.new.out.items c.args.self.frames none.1) c.complete.ensures.few

use Rattle.std.proofs.Common.{◌≡◌, ◌+◌, ◌-◌, ◌<◌, ◌++◌, [], List, ℕ, ◌∙◌, sym, ap, subst, arith, true, false, cond, Ok}
use mathlib.Core.Logic.{∥∥₁_elim, ∥∥₁_map}
use Rattle.std.proofs.Props.{props}
use Rattle.capture_exercise.specs.Names.{Line2, fitting}
use Rattle.script_rebuild.specs.Writer.{order_of, stp_of, kept_by}
use Rattle.capture_exercise.specs.Exercise.{exercise_port, exercise_lines}
use Rattle.capture_exercise.specs.Making.{later}
use Rattle.capture_exercise.proofs.Fitting.{line_fits}
use Rattle.capture_exercise.proofs.Steps.{surely, can_be_put, unmade, stands_more, line_bytes, rest_bytes, last_made}
use Rattle.capture_exercise.proofs.Steps.{line_made}
use Rattle.capture_exercise.proofs.maker.CaptureMaker.make.Goals as goal

pub invariant_of-self-else-self-clause-stands : goal.invariant_of-self-else-self-clause-stands
invariant_of-self-else-self-clause-stands c = λ _.
    let self = c.args.self.now in
    let lines = exercise_lines self.next in
    let line = c.line_at-line.result in
    let unfinished = unmade self.is_whole (self.items - self.next + 1) c.requires.more in
    let fits = subst (λ (x : Line2). fitting lines x ≡ Ok x) (sym c.line_at-line.ensures.value) (line_fits self.next) in
    let can = can_be_put _ lines line (c.forget.ensures.turns ∙ self.turns) fits in
    ∥∥₁_map (self.stands unfinished) (λ s.
    let put = c.put2.ensures.puts exercise_port lines (c.forget.ensures.stands exercise_port lines s) in
    stands_more c.put2.new.self self.next line c.line_at-line.ensures.value
    (surely c.put2.result _ line _ can put.told put.adds).stands)

pub returns-then-self-clause-bytes : goal.returns-then-self-clause-bytes
returns-then-self-clause-bytes c =
    let self = c.args.self.now in
    let lines = exercise_lines self.next in
    let unfinished = unmade self.is_whole (self.items - self.next + 1) c.requires.more in
    let cleared = c.forget in
    ∥∥₁_elim (self.stands unfinished) (hlevel props) (λ s.
    let f = c.flush.ensures.puts exercise_port lines (cleared.ensures.stands exercise_port lines s) in
    let made : kept_by c.flush.new.self ≡ f.adds.more = f.adds.kept ∙ ap (λ (l : List ℕ). l ++ f.adds.more) cleared.ensures.kept in
    subst (λ (out : List ℕ). cond self.is_whole [] (later self.items self.next) ≡ out ++ []) (sym made)
    (last_made self.is_whole (self.items - self.next + 1) (later self.items self.next) f.adds.more c.requires.more
    (rest_bytes self.items self.next (order_of cleared.new.self) (stp_of cleared.new.self) f.adds.more c.if-self.true
    (cleared.ensures.sources.order ∙ self.order) (cleared.ensures.sources.stp ∙ self.stp) f.all)))

pub returns-else-self-clause-bytes : goal.returns-else-self-clause-bytes
returns-else-self-clause-bytes c =
    let self = c.args.self.now in
    let lines = exercise_lines self.next in
    let line = c.line_at-line.result in
    let below : self.next < self.items = omega (arith, self.within, c.if-self.false) in
    let unfinished = unmade self.is_whole (self.items - self.next + 1) c.requires.more in
    let cleared = c.forget in
    let fits = subst (λ (x : Line2). fitting lines x ≡ Ok x) (sym c.line_at-line.ensures.value) (line_fits self.next) in
    let can = can_be_put _ lines line (cleared.ensures.turns ∙ self.turns) fits in
    ∥∥₁_elim (self.stands unfinished) (hlevel props) (λ s.
    let put = c.put2.ensures.puts exercise_port lines (cleared.ensures.stands exercise_port lines s) in
    let adds = surely c.put2.result _ line _ can put.told put.adds in
    let made : kept_by c.put2.new.self ≡ adds.more = adds.kept ∙ ap (λ (l : List ℕ). l ++ adds.more) cleared.ensures.kept in
    subst (λ (out : List ℕ). cond self.is_whole [] (later self.items self.next) ≡ out ++ cond self.is_whole [] (later self.items (self.next + 1))) (sym made)
    (line_made self.is_whole (self.items - self.next + 1) (later self.items self.next) (later self.items (self.next + 1)) adds.more
    c.requires.more
    (line_bytes self.items self.next (order_of cleared.new.self) (stp_of cleared.new.self) line adds.more below
    (cleared.ensures.sources.order ∙ self.order) (cleared.ensures.sources.stp ∙ self.stp) c.line_at-line.ensures.value adds.grown)))

use Rattle.std.proofs.Common.{◌≡◌, ℕ, zero, suc, ◌+◌, ◌-◌, ◌*◌, List, [], ◌∷◌, ◌++◌, take, refl, sub-one, sym, ◌∙◌, ap, subst}
use Rattle.std.proofs.Common.{arith, Bool, true, false, Option}
use Rattle.std.specs.Prelude.{◌==◌, if◌then◌else◌}
use Rattle.std.proofs.lemmas.Bool.{false≢true}
use Rattle.std.proofs.lemmas.Bool.Decides.{nat_tests}
use Rattle.deformatter.specs.Names.{Next, Go, End, Fail, Placed, PortItem, Frame, Full, Half, State, byte_at, Cell, Mode}
use Rattle.deformatter.specs.Names.{live_after, state_after, start, rule, state}
use Rattle.frame_grammar.specs.Port as port
use Rattle.frame_grammar.specs.Port.{word_ended}
use Rattle.port_sync.specs.Aligned.{Begun, said, outcome, longer}
use Rattle.port_sync.specs.declared.aligner.Half as answer
use Rattle.port_sync.specs.declared.aligner.Half.TheVariants.{Pair, HalfSync, FullSync, Waiting, Bad}
use Rattle.port_sync.specs.declared.aligner.Part.{Part}
use Rattle.port_sync.specs.declared.aligner.Part.TheVariants.{Between}
use Rattle.port_sync.proofs.Aligning.{rule_by}
use Rattle.deformatter.specs.Rule.{step_by, cells_by, id_by}
use Rattle.deformatter.specs.Deformatter.{state_of, id_of, mode_of}
use Rattle.deformatter.specs.Unfinished.{zipped, placed_of, len_of, halves_of}
use Rattle.deformatter.specs.declared.unfinished.Unfinished.{Unfinished}
use Rattle.deformatter.specs.declared.deformatter.Deformatter.{Deformatter}
use Rattle.deformatter.specs.declared.step.PortStep.{PortStep}
use Rattle.deformatter.specs.declared.step.PortStep.TheVariants.{Quiet, Half as HalfEnds}
use Rattle.deformatter.proofs.deformatter.Deformatter.read.Goals as goal

-- what is there of an item
abbrev begun : Deformatter → Begun
begun d = record {
  left = d.aligner.left;
  bytes = placed_of d.frame;
  halves = halves_of d.frame;
  part = d.aligner.part;
  at = d.first_at;
}

-- what a byte leaves and gives, by what the rule says of it
abbrev Follows : Deformatter → ℕ → Mode → Bool → State → Option ℕ → List Cell → PortStep → Next State PortItem → Type 0
Follows d at mode live now id cells step n = record {
  mode : mode ≡ mode_of d;
  live : live ≡ live_after n;
  state : now ≡ state_after start n (state_of d);
  id : id ≡ id_by (id_of d) n;
  cells : cells ≡ cells_by (id_of d) n;
  step : step ≡ step_by at (state_of d) n;
}

-- for a byte that ends this, of which the rule says that
by_answer : {mode : Mode} {live : Bool} {now : State} {id : Option ℕ} {cells : List Cell} {step : PortStep}
    (d : Deformatter) (at byte : ℕ) (h : answer.Half) → h ≡ said d.aligner.left d.aligner.part byte →
    (n : Next State PortItem) → outcome (begun d) at byte h ≡ n → Follows d at mode live now id cells step n →
    Follows d at mode live now id cells step (rule (state_of d) (byte_at at byte))
by_answer {mode = mode} {live = live} {now = now} {id = id} {cells = cells} {step = step} d at byte h e n r =
    subst (Follows d at mode live now id cells step)
    (sym (rule_by d.aligner.left (placed_of d.frame) (halves_of d.frame) d.aligner.part d.first_at at byte
    ∙ sym (ap (λ (x : answer.Half). outcome (begun d) at byte x) e) ∙ r))

same_state : (l m : ℕ) (b f : List Placed) (h k : ℕ) (p q : Part) (at : ℕ) → l ≡ m → b ≡ f → h ≡ k → p ≡ q →
    state l b h p at ≡ state m f k q at
same_state l m b f h k p q at a e i j =
    ap (λ (x : ℕ). state x b h p at) a ∙ ap (λ (x : List Placed). state m x h p at) e
    ∙ ap (λ (x : ℕ). state m f x p at) i ∙ ap (λ (x : Part). state m f k x at) j

no_left : (len new left : ℕ) → len + 2 * left ≡ 14 → new ≡ len + 2 → (new == 16) ≡ true → left ≡ 0
no_left len new left w e t = grind (arith, nat_tests)

some_left : (len new left : ℕ) → len + 2 * left ≡ 14 → new ≡ len + 2 → (new == 16) ≡ false → (left == 0) ≡ false
some_left len new left w e t = grind (arith, nat_tests)

within : (len left : ℕ) → len + 2 * left ≡ 14 → (len == 0) ≡ false → (left == 7) ≡ false
within len left w t = grind (arith, nat_tests)

at_start : (len : ℕ) → (len == 0) ≡ true → len ≡ 0
at_start len t = grind (arith, nat_tests)

seven : (len left : ℕ) → len + 2 * left ≡ 14 → len ≡ 0 → left ≡ 7
seven len left w e = omega arith

none : (len left : ℕ) → len + 2 * left ≡ 14 → left ≡ 7 → len ≡ 0
none len left w e = omega arith

same : (n : ℕ) → (n == n) ≡ true
same n = grind (arith, nat_tests)

one_more : (n : ℕ) → (n + 1 == n) ≡ false
one_more n = grind (arith, nat_tests)

no_bytes : (frame : Unfinished) → len_of frame ≡ 0 → placed_of frame ≡ []
no_bytes frame e = ap (λ (k : ℕ). zipped (take k frame.offsets) (take k frame.bytes)) e

word_goes_on : (left : ℕ) (f : List Placed) (halves : ℕ) → (left == 0) ≡ false →
    word_ended left f halves ≡ Go (record { left = left - 1; bytes = f; halves = halves; part = port.Between })
word_goes_on zero f halves e = absurd (false≢true (sym e))
word_goes_on (suc left) f halves e =
    ap (λ (l : ℕ). Go (record { left = l; bytes = f; halves = halves; part = port.Between })) (sym (sub-one (suc left)))

quiet : (b : Bool) → b ≡ true → Quiet ≡ (if b then Quiet else HalfEnds)
quiet b e = sym (ap (λ (x : Bool). if x then Quiet else HalfEnds) e)

half_ends : (b : Bool) → b ≡ false → HalfEnds ≡ (if b then Quiet else HalfEnds)
half_ends b e = sym (ap (λ (x : Bool). if x then Quiet else HalfEnds) e)

pub returns-then-is_whole : goal.returns-then-is_whole
returns-then-is_whole c =
    let d = c.args.self.now in
    let f = placed_of d.frame ++ (byte_at d.first_at c.in-Pair.first ∷ (byte_at c.args.at c.in-Pair.second ∷ [])) in
    let left_is : d.aligner.left ≡ 0 = no_left (len_of d.frame) _ d.aligner.left d.whole c.add.ensures.len
    (sym c.is_whole.ensures ∙ c.if-is_whole.true) in
    by_answer d c.args.at c.args.byte (Pair c.in-Pair.first c.in-Pair.second) c.in-Pair.ensures.said
    (End (Frame f (halves_of d.frame))) (ap (λ (l : ℕ). word_ended l f (halves_of d.frame)) left_is)
    (record {
      mode = refl;
      live = c.in-Pair.ensures.live;
      state = same_state _ 7 _ [] _ 0 _ Between d.first_at
          (c.in-Pair.ensures.left ∙ ap (λ (l : ℕ). if l == 0 then 7 else l - 1) left_is)
          c.finish-self.ensures.placed c.finish-self.ensures.halves c.in-Pair.ensures.part;
      id = c.finish-self.ensures.id ∙ ap (λ (l : List Placed). id_by d.id (End (Frame l 0))) c.add.ensures.placed;
      cells = c.finish-self.ensures.cells
          ∙ ap (λ (l : List Placed). cells_by d.id (End (Frame l 0))) c.add.ensures.placed;
      step = refl;
    })

pub returns-else-is_whole : goal.returns-else-is_whole
returns-else-is_whole c =
    let d = c.args.self.now in
    let f = placed_of d.frame ++ (byte_at d.first_at c.in-Pair.first ∷ (byte_at c.args.at c.in-Pair.second ∷ [])) in
    let left_is : (d.aligner.left == 0) ≡ false = some_left (len_of d.frame) _ d.aligner.left d.whole
    c.add.ensures.len (sym c.is_whole.ensures ∙ c.if-is_whole.false) in
    by_answer d c.args.at c.args.byte (Pair c.in-Pair.first c.in-Pair.second) c.in-Pair.ensures.said
    (Go (record { left = d.aligner.left - 1; bytes = f; halves = halves_of d.frame; part = port.Between }))
    (word_goes_on d.aligner.left f (halves_of d.frame) left_is)
    (record {
      mode = refl;
      live = c.in-Pair.ensures.live;
      state = same_state _ (d.aligner.left - 1) _ f _ (halves_of d.frame) _ Between d.first_at
          (c.in-Pair.ensures.left ∙ ap (λ (b : Bool). if b then 7 else d.aligner.left - 1) left_is)
          c.add.ensures.placed c.add.ensures.halves c.in-Pair.ensures.part;
      id = refl;
      cells = c.requires.out;
      step = quiet (halves_of d.frame == halves_of d.frame) (same (halves_of d.frame));
    })

-- what goes on after a half synchronisation in a frame
abbrev with_half : Deformatter → State
with_half d = record {
  left = d.aligner.left;
  bytes = placed_of d.frame;
  halves = halves_of d.frame + 1;
  part = port.Between;
}

pub returns-then-not-is_empty : goal.returns-then-not-is_empty
returns-then-not-is_empty c =
    let d = c.args.self.now in
    let left_is : (d.aligner.left == 7) ≡ false = within (len_of d.frame) d.aligner.left d.whole
    (sym c.is_empty.ensures ∙ c.if-not-is_empty.true) in
    by_answer d c.args.at c.args.byte HalfSync c.in-HalfSync.ensures.said (Go (with_half d))
    (ap (λ (b : Bool). if b then End port.Half else Go (with_half d)) left_is)
    (record {
      mode = refl;
      live = c.in-HalfSync.ensures.live;
      state = same_state _ d.aligner.left _ (placed_of d.frame) _ (halves_of d.frame + 1) _ Between d.first_at
          c.in-HalfSync.ensures.left c.add_half.ensures.placed c.add_half.ensures.halves c.in-HalfSync.ensures.part;
      id = refl;
      cells = c.requires.out;
      step = half_ends (halves_of d.frame + 1 == halves_of d.frame) (one_more (halves_of d.frame));
    })

-- a synchronisation between frames leaves nothing
start_is : (d : Deformatter) (left : ℕ) (part : Part) → left ≡ d.aligner.left → part ≡ Between → len_of d.frame ≡ 0 →
    state left (placed_of d.frame) (halves_of d.frame) part d.first_at ≡ start
start_is d left part l p e =
    same_state _ 7 _ [] _ 0 _ Between d.first_at (l ∙ seven (len_of d.frame) d.aligner.left d.whole e)
    (no_bytes d.frame e) (d.between e) p

pub returns-else-not-is_empty : goal.returns-else-not-is_empty
returns-else-not-is_empty c =
    let d = c.args.self.now in
    let x = c.in-HalfSync.ensures in
    let len_is : len_of d.frame ≡ 0 = at_start (len_of d.frame) (sym c.is_empty.ensures ∙ c.if-not-is_empty.false) in
    let left_is : d.aligner.left ≡ 7 = seven (len_of d.frame) d.aligner.left d.whole len_is in
    by_answer d c.args.at c.args.byte HalfSync x.said (End port.Half)
    (ap (λ (l : ℕ). if l == 7 then End port.Half else Go (with_half d)) left_is)
    (record { mode = refl; live = x.live; state = start_is d _ _ x.left x.part len_is; id = refl; cells = c.requires.out; step = refl })

pub returns-in-FullSync : goal.returns-in-FullSync
returns-in-FullSync c =
    let d = c.args.self.now in
    let x = c.in-FullSync.ensures in
    let len_is : len_of d.frame ≡ 0 = none (len_of d.frame) d.aligner.left d.whole x.sound in
    by_answer d c.args.at c.args.byte FullSync x.said (End port.Full) refl
    (record { mode = refl; live = x.live; state = start_is d _ _ x.left x.part len_is; id = refl; cells = c.requires.out; step = refl })

pub returns-in-Waiting : goal.returns-in-Waiting
returns-in-Waiting c =
    let d = c.args.self.now in
    let part = longer d.aligner.part c.args.byte in
    by_answer d c.args.at c.args.byte Waiting c.in-Waiting.ensures.said
    (Go (state d.aligner.left (placed_of d.frame) (halves_of d.frame) part c.args.at)) refl
    (record {
      mode = refl;
      live = c.in-Waiting.ensures.live;
      state = same_state _ d.aligner.left _ (placed_of d.frame) _ (halves_of d.frame) _ part c.args.at
          c.in-Waiting.ensures.left refl refl c.in-Waiting.ensures.part;
      id = refl;
      cells = c.requires.out;
      step = quiet (halves_of d.frame == halves_of d.frame) (same (halves_of d.frame));
    })

pub returns-in-Bad : goal.returns-in-Bad
returns-in-Bad c =
    let d = c.args.self.now in
    by_answer d c.args.at c.args.byte (Bad c.in-Bad.reason) c.in-Bad.ensures.said (Fail c.in-Bad.reason) refl
    (record {
      mode = refl;
      live = c.in-Bad.ensures.live;
      state = same_state _ d.aligner.left _ (placed_of d.frame) _ (halves_of d.frame) _ d.aligner.part d.first_at
          c.in-Bad.ensures.left refl refl c.in-Bad.ensures.part;
      id = refl;
      cells = c.requires.out;
      step = refl;
    })

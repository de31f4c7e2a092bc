-- A run of a mapped source, cell by cell.
use Rattle.std.proofs.Common.{◌≡◌, ℕ, ◌+◌, ◌≤◌, List, [], ◌∷◌, ◌++◌, length-append, map, refl, sym, ◌∙◌, ap}
use Rattle.std.proofs.Common.{arith, subst, append_assoc, append-nil, cond, drop, inl, inr, Some, Bool, true, false, ◌<◌}
use Rattle.std.specs.Prelude.{flat_map, ◌&&◌}
use Rattle.std.proofs.lemmas.List.{append_cancel_left, map-append}
use Rattle.trace_values.specs.declared.cell.Cell.{Cell}
use Rattle.trace_values.specs.Placed.{Place, Placed}
use Rattle.trace_values.specs.Stream.{Said, Stream}
use Rattle.deformatter.specs.Rising.{CellsRise, Rise, end_at, offsets_in}
use Rattle.deformatter.proofs.RisingLaws.{rise_le, rise_split}
use Rattle.source_events.specs.declared.event.Event.{Event}
use Rattle.source_events.specs.declared.packet.Packet.{Packet}
use Rattle.source_events.specs.declared.plan.SourceKind.{SourceKind}
use Rattle.source_events.specs.declared.plan.SourceKind.TheVariants.{Itm, Stp}
use Rattle.source_events.specs.Merge.{told}
use Rattle.source_events.specs.Report.{lifted}
use Rattle.source_machine.specs.Units.{units_at}
use Rattle.source_machine.specs.declared.machine.SourceMachine.{SourceMachine}
use Rattle.stretch_readings.specs.declared.heard.Heard.{Heard}
use Rattle.stretch_readings.specs.Guessing.{AllBefore, AllWithin, before_first, guess_of, guessed_in, said_of}
use Rattle.stretch_readings.specs.Stretches.{One, Stretches, fed_from, from_fault, parted, told as told_in}
use Rattle.stretch_readings.proofs.Feeding.{longer}
use Rattle.stretch_readings.proofs.Guesses.{before_later, guesses_now, hunted_before, near_told, within_before}
use Rattle.recovering_machines.specs.Guess.{Follows, HasSaid, IsOver, StateOf, comes_after_fault, near_by, said_in}
use Rattle.recovering_machines.specs.Mapped.{FollowsIf, Guesses, IsCut, Stands, TakesMapped, guesses_of, kind_of}
use Rattle.recovering_machines.specs.Mapped.{reads_of, said_by, total_of, with_run}
use Rattle.recovering_machines.specs.Run as runs
use Rattle.recovering_machines.specs.Run.{GoesOn, TakesRun, units_in}
use Rattle.recovering_machines.specs.Source as source
use Rattle.recovering_machines.specs.Source.{with_byte}
use Rattle.recovering_machines.specs.declared.guess.Answer.{Answer}
use Rattle.recovering_machines.specs.declared.guess.Guess.{Guess}
use Rattle.recovering_machines.specs.declared.mapped.MappedSource.{MappedSource}
use Rattle.recovering_machines.specs.declared.source.RecoveringSource.{RecoveringSource}
use Rattle.recovering_machines.proofs.Guessing.{all_before, same_source}
use Rattle.recovering_machines.proofs.Runs.{run_more, told_append}

-- what a guess follows before an offset it follows before a later one
has_later : {W : Type 0} (lo hi : ℕ) (said : List (W × Place)) → lo ≤ hi → HasSaid lo said → HasSaid hi said
has_later lo hi [] l h = absurd h
has_later lo hi (first ∷ said) l h = (let k : first.1.at < lo = h in let z : first.1.at < hi = omega arith in z)

state_later : (reads : Bool → List Placed → Stream Packet) (r : Stretches) (lo hi : ℕ) (b : Bool) (m : SourceMachine) →
    lo ≤ hi → StateOf reads r b m lo → StateOf reads r b m hi
state_later reads r lo hi true m l o = o
state_later reads r lo hi false m l (inl e) = inl e
state_later reads r lo hi false m l (inr h) = inr (has_later lo hi (reads r.now.hunts r.now.units).given l h)

pub follows_later : (g : Guess) (s : RecoveringSource) (lo hi : ℕ) (r : Stretches) → lo ≤ hi → Follows g s lo r →
    Follows g s hi r
follows_later g s lo hi r l f = record {
  kind_is = f.kind_is;
  reads_is = f.reads_is;
  before = before_later lo hi r.now.units l f.before;
  state = state_later (source.reads_of s) r lo hi g.is_reading g.machine l f.state;
}

if_later : (b : Bool) (g : Guess) (s : RecoveringSource) (lo hi : ℕ) (r : Stretches) → lo ≤ hi →
    FollowsIf b g s lo r → FollowsIf b g s hi r
if_later true g s lo hi r l f = follows_later g s lo hi r l f
if_later false g s lo hi r l f = tt

pub guesses_later : (s : MappedSource) (lo hi : ℕ) (r : Stretches) → lo ≤ hi → Guesses s lo r → Guesses s hi r
guesses_later s lo hi r l f = if_later s.guesses s.guess s.sure lo hi r l f

-- a source with guesses, and one without
pub with_guess : (s : MappedSource) (at : ℕ) (r : Stretches) → guesses_of s ≡ true → Follows s.guess s.sure at r →
    Guesses s at r
with_guess s at r e f = subst (λ (b : Bool). FollowsIf b s.guess s.sure at r) (sym e) f

pub its_guess : (s : MappedSource) (at : ℕ) (r : Stretches) → guesses_of s ≡ true → Guesses s at r →
    Follows s.guess s.sure at r
its_guess s at r e f = subst (λ (b : Bool). FollowsIf b s.guess s.sure at r) e f

pub no_guess : (s : MappedSource) (at : ℕ) (r : Stretches) → guesses_of s ≡ false → Guesses s at r
no_guess s at r e = subst (λ (b : Bool). FollowsIf b s.guess s.sure at r) (sym e) tt

pub says_near : (s : MappedSource) (r : Stretches) → guesses_of s ≡ true → said_by s r ≡ near_by s.sure r
says_near s r e = ap (λ (b : Bool). said_of (reads_of s) from_fault b r) e

pub says_heard : (s : MappedSource) (r : Stretches) → guesses_of s ≡ false →
    said_by s r ≡ (source.heard_by s.sure r).given
says_heard s r e = ap (λ (b : Bool). said_of (reads_of s) from_fault b r) e

-- of a source that reads alike the same is said
pub same_said : (s t : MappedSource) (r : Stretches) → reads_of t ≡ reads_of s → guesses_of t ≡ guesses_of s →
    said_by t r ≡ said_by s r
same_said s t r e f =
    ap (λ (reads : Bool → List Placed → Stream Packet). said_of reads from_fault t.guesses r) e
    ∙ ap (λ (b : Bool). said_of (reads_of s) from_fault b r) f

-- cells at rising offsets, and then more
rise_parts : (xs ys : List Cell) (lo hi : ℕ) → CellsRise lo hi (xs ++ ys) →
    CellsRise lo (end_at lo (offsets_in xs)) xs × CellsRise (end_at lo (offsets_in xs)) hi ys
rise_parts xs ys lo hi rise =
    rise_split (offsets_in xs) (offsets_in ys) lo hi
    (subst (λ (l : List ℕ). Rise lo hi l) (map-append (λ (c : Cell). c.at) xs ys) rise)

-- cells at rising offsets: their units are before an offset, and none is hunted over after a lock
within_all : (kind : SourceKind) (at byte : ℕ) → AllWithin at (units_at kind at byte)
within_all Itm at byte = (refl, tt)
within_all Stp at byte = (refl, (refl, tt))

before_cells : (kind : SourceKind) (cells : List Cell) (u : List Placed) (lo hi : ℕ) → CellsRise lo hi cells →
    AllBefore lo u → AllBefore hi (u ++ units_in kind cells)
before_cells kind [] u lo hi r b = subst (AllBefore hi) (sym (append-nil u)) (before_later lo hi u r b)
before_cells kind (c ∷ cells) u lo hi r b =
    let here = units_at kind c.at c.byte in
    let l = r.0 in
    subst (AllBefore hi) (append_assoc u here (units_in kind cells))
    (before_cells kind cells (u ++ here) (c.at + 1) hi r.1
    (all_before (c.at + 1) u here (before_later lo (c.at + 1) u (omega (arith, l)) b)
    (within_before c.at (c.at + 1) here (omega arith) (within_all kind c.at c.byte))))

hunted_cells : {W : Type 0} (x : W × Place) (said : List (W × Place)) (kind : SourceKind) (cells : List Cell)
    (u : List Placed) (lo hi : ℕ) → x.1.at < lo → CellsRise lo hi cells →
    before_first (x ∷ said) (u ++ units_in kind cells) ≡ before_first (x ∷ said) u
hunted_cells x said kind [] u lo hi l r = ap (λ (w : List Placed). before_first (x ∷ said) w) (append-nil u)
hunted_cells x said kind (c ∷ cells) u lo hi l r =
    let here = units_at kind c.at c.byte in
    let k = r.0 in
    ap (λ (w : List Placed). before_first (x ∷ said) w) (sym (append_assoc u here (units_in kind cells)))
    ∙ hunted_cells x said kind cells (u ++ here) (c.at + 1) hi (omega (arith, k, l)) r.1
    ∙ hunted_before x said u here c.at (omega (arith, k, l)) (within_all kind c.at c.byte)

hunted_said : {W : Type 0} (old more : List (W × Place)) (kind : SourceKind) (cells : List Cell) (u : List Placed)
    (lo hi : ℕ) → HasSaid lo old → CellsRise lo hi cells →
    before_first (old ++ more) (u ++ units_in kind cells) ≡ before_first old u
hunted_said [] more kind cells u lo hi h r = absurd h
hunted_said (x ∷ old) more kind cells u lo hi h r = hunted_cells x (old ++ more) kind cells u lo hi h r

said_later : {W : Type 0} (lo hi : ℕ) (old more : List (W × Place)) → lo ≤ hi → HasSaid lo old →
    HasSaid hi (old ++ more)
said_later lo hi [] more l h = absurd h
said_later lo hi (x ∷ old) more l h = (let k : x.1.at < lo = h in let z : x.1.at < hi = omega arith in z)

-- Where nothing is read on, packets that are found are said, and nothing is guessed.
module _ (s : RecoveringSource) (g : Guess) (r : Stretches) (cells : List Cell) (lo hi : ℕ)
    (rise : CellsRise lo hi cells) (o : GoesOn s r cells) (idle : g.is_reading ≡ false) (f : Follows g s lo r) where
  abbrev reads : Bool → List Placed → Stream Packet
  reads = source.reads_of s

  abbrev w : List Placed
  w = units_in (source.kind_of s) cells

  abbrev next : Stretches
  next = longer reads r w

  over : IsOver reads r lo
  over = subst (λ (b : Bool). StateOf reads r b g.machine lo) idle f.state

  still_over : IsOver reads r lo → IsOver reads next hi
  still_over (inl e) = inl e
  still_over (inr h) =
      inr (subst (λ l. HasSaid hi l) (sym o.given)
      (said_later lo hi (reads r.now.hunts r.now.units).given o.more (rise_le (offsets_in cells) lo hi rise) h))

  pub follows_on : Follows g s hi (runs.with_run s r cells)
  follows_on = subst (λ (x : Stretches). Follows g s hi x) (sym o.list) (record {
    kind_is = f.kind_is;
    reads_is = f.reads_is;
    before = before_cells (source.kind_of s) cells r.now.units lo hi rise f.before;
    state = subst (λ (b : Bool). StateOf reads next b g.machine hi) (sym idle) (still_over over);
  })

  same_guesses : IsOver reads r lo →
      guessed_in reads from_fault (comes_after_fault reads r) next.now ≡ guesses_now reads from_fault r
  same_guesses (inl e) =
      ap (λ c. guessed_in reads from_fault c next.now) e ∙ sym (ap (λ c. guessed_in reads from_fault c r.now) e)
  same_guesses (inr h) =
      ap (λ u. cond (comes_after_fault reads r) (guess_of reads from_fault (drop 1 u)) [])
      (ap (λ l. before_first l (r.now.units ++ w)) o.given
      ∙ hunted_said (reads r.now.hunts r.now.units).given o.more (source.kind_of s) cells r.now.units lo hi h rise)

  pub near_on : (said : List (Said (Heard Packet) × Place)) →
      (source.heard_by s (runs.with_run s r cells)).given ≡ (source.heard_by s r).given ++ said →
      near_by s (runs.with_run s r cells) ≡ near_by s r ++ said
  near_on said e =
      let past = flat_map (told_in reads from_fault) r.past in
      ap (near_by s) o.list
      ∙ near_told reads from_fault r next.now said (same_guesses over)
      (append_cancel_left past (told_in reads from_fault next.now) (told_in reads from_fault r.now ++ said)
      (ap (λ (x : Stretches). (source.heard_by s x).given) (sym o.list) ∙ e
      ∙ append_assoc past (told_in reads from_fault r.now) said))

-- a cut
module _ (s : MappedSource) (sure : RecoveringSource) (guess : Guess) (kind : source.kind_of sure ≡ kind_of s)
    (reads : source.reads_of sure ≡ reads_of s)
    (list : (r : Stretches) → Stands s r → source.Stands sure (parted (reads_of s) from_fault r))
    (given : (r : Stretches) → Stands s r →
    (source.heard_by s.sure (parted (reads_of s) from_fault r)).given ≡ (source.heard_by s.sure r).given)
    (ends : (t : RecoveringSource) (r : Stretches) (at : ℕ) → source.Stands t r → Follows s.guess t at r →
    Follows guess t at (parted (source.reads_of t) from_fault r)
    × (near_by t (parted (source.reads_of t) from_fault r) ≡ near_by t r)) where
  abbrev cut_to : Stretches → Stretches
  cut_to r = parted (reads_of s) from_fault r

  guess_by : (b : Bool) (at : ℕ) (r : Stretches) → Stands s r → FollowsIf b s.guess s.sure at r →
      FollowsIf b guess sure at (cut_to r)
  guess_by true at r k f = same_source guess s.sure sure at (cut_to r) kind reads (ends s.sure r at k f).0
  guess_by false at r k f = tt

  said_of_cut : (b : Bool) (at : ℕ) (r : Stretches) → Stands s r → FollowsIf b s.guess s.sure at r →
      said_of (reads_of s) from_fault b (cut_to r) ≡ said_of (reads_of s) from_fault b r
  said_of_cut true at r k f = (ends s.sure r at k f).1
  said_of_cut false at r k f = given r k

  pub cut_mapped : IsCut s (record { sure = sure; guess = guess; guesses = s.guesses })
  cut_mapped = record {
    kind = kind;
    reads = reads;
    guesses = refl;
    list = list;
    guess = λ at r k f. guess_by s.guesses at r k f;
    given = λ at r k f. said_of_cut s.guesses at r k f;
  }

module _ {S : Type 0} (gets : S → List (Event (Heard Packet)) → S → Type 0) (room : S → ℕ)
    (gets_none : (s : S) → gets s [] s)
    (gets_more : (a b c : S) (es fs : List (Event (Heard Packet))) → gets a es b → gets b fs c →
    gets a (es ++ fs) c) (id : ℕ) where
  pub mapped_none : (s : MappedSource) (out : S) → TakesMapped gets room id [] s s out out
  mapped_none s out = record {
    kind = refl;
    reads = refl;
    guesses = refl;
    list = λ r k. k;
    guess = λ lo hi r rise k g. guesses_later s lo hi r rise g;
    said = [];
    received = gets_none out;
    given = λ lo hi r rise k g. sym (append-nil (said_by s r));
    space = omega arith;
    few = omega arith;
  }

  -- cells, and then more
  module _ (old mid new : MappedSource) (a b c : S) (xs ys : List Cell) (t : TakesMapped gets room id xs old mid a b)
      (v : TakesMapped gets room id ys mid new b c) where
    same : (r : Stretches) → with_run mid (with_run old r xs) ys ≡ with_run old r (xs ++ ys)
    same r =
        ap (λ (f : Bool → List Placed → Stream Packet). fed_from f from_fault (with_run old r xs)
        (map One (units_in (kind_of mid) ys))) t.reads
        ∙ ap (λ (k : SourceKind). fed_from (reads_of old) from_fault (with_run old r xs) (map One (units_in k ys)))
        t.kind
        ∙ sym (run_more old.sure r xs ys)

    pub mapped_then : TakesMapped gets room id (xs ++ ys) old new a c
    mapped_then = record {
      kind = v.kind ∙ t.kind;
      reads = v.reads ∙ t.reads;
      guesses = v.guesses ∙ t.guesses;
      list = λ r k. subst (Stands new) (same r) (v.list (with_run old r xs) (t.list r k));
      guess = λ lo hi r rise k g.
          let z = rise_parts xs ys lo hi rise in
          let m = end_at lo (offsets_in xs) in
          subst (Guesses new hi) (same r)
          (v.guess m hi (with_run old r xs) z.1 (t.list r k) (t.guess lo m r z.0 k g));
      said = t.said ++ v.said;
      received = subst (λ es. gets a es c) (sym (told_append id t.said v.said))
          (gets_more a b c (told (Some id) (lifted t.said)) (told (Some id) (lifted v.said)) t.received v.received);
      given = λ lo hi r rise k g.
          let z = rise_parts xs ys lo hi rise in
          let m = end_at lo (offsets_in xs) in
          let next = with_run old r xs in
          ap (said_by old) (sym (same r))
          ∙ sym (same_said old mid (with_run mid next ys) t.reads t.guesses)
          ∙ v.given m hi next z.1 (t.list r k) (t.guess lo m r z.0 k g)
          ∙ ap (λ l. l ++ v.said) (same_said old mid next t.reads t.guesses ∙ t.given lo m r z.0 k g)
          ∙ append_assoc (said_by old r) t.said v.said;
      space = (let l = length-append xs ys in let s = t.space in let z = v.space in omega (arith, l, s, z));
      few = (let l = length-append xs ys in let f = t.few in let z = v.few in omega (arith, l, f, z));
    }

  -- one cell, with its guess
  module _ (old new : MappedSource) (a b : S) (cell : Cell) (answer : Answer) (near : guesses_of old ≡ true)
      (same : guesses_of new ≡ guesses_of old) where
    abbrev fed : Stretches → Stretches
    fed r = with_byte old.sure r cell.at cell.byte

    one : (r : Stretches) → fed r ≡ with_run old r (cell ∷ [])
    one r = ap (λ w. fed_from (reads_of old) from_fault r (map One w))
        (sym (append-nil (units_at (kind_of old) cell.at cell.byte)))

    pub mapped_one : kind_of new ≡ kind_of old → reads_of new ≡ reads_of old →
        ((r : Stretches) → Stands old r → Stands new (fed r)) →
        ((r : Stretches) (start : ℕ) → start ≤ cell.at → Stands old r → Follows old.guess old.sure start r →
        Follows new.guess new.sure (cell.at + 1) (fed r)) →
        ((r : Stretches) (start : ℕ) → start ≤ cell.at → Stands old r → Follows old.guess old.sure start r →
        near_by old.sure (fed r) ≡ near_by old.sure r ++ said_in cell.at answer) →
        total_of new ≤ total_of old + 6 → gets a (told (Some id) (lifted (said_in cell.at answer))) b →
        room a ≤ room b + 2 → TakesMapped gets room id (cell ∷ []) old new a b
    mapped_one kind reads list follows said few received space = record {
      kind = kind;
      reads = reads;
      guesses = same;
      list = λ r k. subst (Stands new) (one r) (list r k);
      guess = λ lo hi r rise k g.
          subst (Guesses new hi) (one r)
          (with_guess new hi (fed r) (same ∙ near)
          (follows_later new.guess new.sure (cell.at + 1) hi (fed r) rise.1
          (follows r lo rise.0 k (its_guess old lo r near g))));
      said = said_in cell.at answer;
      received = received;
      given = λ lo hi r rise k g.
          ap (said_by old) (sym (one r)) ∙ says_near old (fed r) near
          ∙ said r lo rise.0 k (its_guess old lo r near g)
          ∙ ap (λ l. l ++ said_in cell.at answer) (sym (says_near old r near));
      space = space;
      few = few;
    }

  -- a run that is taken without guesses
  pub mapped_sure : (old new : MappedSource) (a b : S) (cells : List Cell) → guesses_of old ≡ false →
      guesses_of new ≡ guesses_of old → new.guess ≡ old.guess → TakesRun gets room id cells old.sure new.sure a b →
      TakesMapped gets room id cells old new a b
  mapped_sure old new a b cells none same guess t = record {
    kind = t.kind;
    reads = t.reads;
    guesses = same;
    list = t.list;
    guess = λ lo hi r rise k g. no_guess new hi (with_run old r cells) (same ∙ none);
    said = t.said;
    received = t.received;
    given = λ lo hi r rise k g.
        says_heard old (with_run old r cells) none ∙ t.given r k
        ∙ ap (λ l. l ++ t.said) (sym (says_heard old r none));
    space = t.space;
    few = (let f = t.few in
        let g = ap (λ (x : Guess). total_of (record { sure = new.sure; guess = x; guesses = new.guesses })) guess in
        omega (arith, f, g));
  }

  -- packets of a run that are found where nothing is read on
  pub mapped_found : (old new : MappedSource) (a b : S) (cells : List Cell) → guesses_of old ≡ true →
      guesses_of new ≡ guesses_of old → new.guess ≡ old.guess → old.guess.is_reading ≡ false →
      TakesRun gets room id cells old.sure new.sure a b →
      ((r : Stretches) → Stands old r → GoesOn old.sure r cells) → TakesMapped gets room id cells old new a b
  mapped_found old new a b cells near same guess idle t goes = record {
    kind = t.kind;
    reads = t.reads;
    guesses = same;
    list = t.list;
    guess = λ lo hi r rise k g.
        let f = its_guess old lo r near g in
        let next = with_run old r cells in
        with_guess new hi next (same ∙ near)
        (subst (λ (x : Guess). Follows x new.sure hi next) (sym guess)
        (same_source old.guess old.sure new.sure hi next t.kind t.reads
        (follows_on old.sure old.guess r cells lo hi rise (goes r k) idle f)));
    said = t.said;
    received = t.received;
    given = λ lo hi r rise k g.
        says_near old (with_run old r cells) near
        ∙ near_on old.sure old.guess r cells lo hi rise (goes r k) idle (its_guess old lo r near g) t.said (t.given r k)
        ∙ ap (λ l. l ++ t.said) (sym (says_near old r near));
    space = t.space;
    few = (let f = t.few in
        let g = ap (λ (x : Guess). total_of (record { sure = new.sure; guess = x; guesses = new.guesses })) guess in
        omega (arith, f, g));
  }

  -- and where nothing is guessed, too
  pub mapped_packets : (old new : MappedSource) (a b : S) (cells : List Cell) → guesses_of new ≡ guesses_of old →
      new.guess ≡ old.guess → (guesses_of old && old.guess.is_reading) ≡ false →
      TakesRun gets room id cells old.sure new.sure a b →
      ((r : Stretches) → Stands old r → GoesOn old.sure r cells) → TakesMapped gets room id cells old new a b
  mapped_packets old new a b cells same guess idle t goes = by (guesses_of old) refl where
    by : (g : Bool) → guesses_of old ≡ g → TakesMapped gets room id cells old new a b
    by true e = mapped_found old new a b cells e same guess
        (sym (ap (λ (x : Bool). x && old.guess.is_reading) e) ∙ idle) t goes
    by false e = mapped_sure old new a b cells e same guess t

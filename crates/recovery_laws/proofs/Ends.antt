-- Where there is no fault, the ends and the counts are those of the strict report.
use Rattle.std.proofs.Common.{◌≡◌, ℕ, ◌+◌, List, [], ◌∷◌, ◌++◌, map, refl, sym, ◌∙◌, ap, subst, arith, append-nil}
use Rattle.std.proofs.Common.{length, Option, None, Some, Bool, true, false}
use Rattle.std.specs.Prelude.{flat_map}
use Rattle.std.specs.List.{range_with_len, sum_by}
use Rattle.std.proofs.lemmas.List.{map-append}
use Rattle.std.proofs.lemmas.List.Sums.{sum_by_push}
use Rattle.trace_values.specs.declared.limits.TheConstants.{ID_COUNT}
use Rattle.trace_values.specs.Placed.{Place, Placed, byte_at}
use Rattle.trace_values.specs.Stream.{Stream}
use Rattle.trace_values.specs.declared.reading_modes.FramesMode.{FramesMode}
use Rattle.trace_values.specs.declared.reading_modes.FramesMode.TheVariants.{Hunt, Aligned, Bare}
use Rattle.trace_values.specs.declared.reading_modes.PacketsMode.{PacketsMode}
use Rattle.trace_values.specs.declared.reading_modes.PacketsMode.TheVariants.{Hunt as PacketsHunt}
use Rattle.trace_values.specs.declared.reading_modes.PacketsMode.TheVariants.{Aligned as PacketsAligned}
use Rattle.trace_values.specs.ReadingModes.{packets_hunt}
use Rattle.frame_grammar.specs.Port.{PortItem}
use Rattle.deformatter.specs.Reading.{port_stream}
use Rattle.deformatter.specs.PortReading.{PortReading, framed, port_reading}
use Rattle.deformatter.specs.Rising.{BytesRise}
use Rattle.source_counts.specs.Counts.{bytes_of, unattributed_of}
use Rattle.source_counts.specs.declared.counts.Counts.{Counts}
use Rattle.source_events.specs.declared.packet.Packet.{Packet}
use Rattle.source_events.specs.declared.plan.Plan.{Plan}
use Rattle.source_events.specs.declared.plan.SourceKind.{SourceKind}
use Rattle.source_events.specs.declared.port_mode.PortMode.{PortMode}
use Rattle.source_events.specs.declared.tails.PortCounts.{PortCounts}
use Rattle.source_events.specs.declared.tails.SourceTail.{SourceTail}
use Rattle.source_events.specs.declared.tails.Tails.{Tails}
use Rattle.source_events.specs.Plan.{is_sound, kind_of, sources_by}
use Rattle.source_events.specs.Plan as strict
use Rattle.source_events.specs.Report.{least_fault, of_source, runs_in, stop_in}
use Rattle.source_events.specs.Runs.{list_of}
use Rattle.source_events.specs.Tails as strict_ends
use Rattle.source_events.specs.Tails.{source_tails as strict_tails}
use Rattle.source_events.proofs.Growth.{no_stop}
use Rattle.source_events.proofs.Least.{AreSound}
use Rattle.source_events.proofs.Settling.{all_sound, lesser_none}
use Rattle.recovery_laws.proofs.Distinct.{sound_back}
use Rattle.stretch_readings.specs.Stretches.{One, Stretch, Stretches, before as first_of, fed, fed_from, heard_of}
use Rattle.stretch_readings.specs.Stretches.{from_fault, stretches}
use Rattle.stretch_readings.proofs.StretchLaws as laws
use Rattle.recovering_machines.specs.Port.{items_by, from_halfword}
use Rattle.recovering_machines.proofs.Feeding.{same}
use Rattle.recovery_report.specs.Port.{PortStretch, PortStretches, bare_stretch, frames_of, fulls_of, halves_of}
use Rattle.recovery_report.specs.Port.{of_stretches, recovered, skipped_of, stretch_of}
use Rattle.recovery_report.specs.Report.{Part, Run, list_of as list_in, lock_of, mode_by, parts_in, port_mode, report}
use Rattle.recovery_report.specs.Report.{source_tails, tail_by, tail_of}
use Rattle.recovery_report.proofs.CountLaws.{broken}
use Rattle.recovery_report.proofs.Sounds.{port_sound, port_begins, port_settles}
use Rattle.recovery_laws.specs.Strict.{EndsAsStrict, HasAsStrict}
use Rattle.recovery_laws.proofs.Captures.{before, from_start}
use Rattle.recovery_laws.proofs.Guessed.{no_guess}
use Rattle.recovery_laws.proofs.Lists.{hunts, one_stretch, reads, reads_are, units}
use Rattle.recovery_laws.proofs.Ports.{IsParted, EndsBy, parted}
use Rattle.recovery_laws.proofs.Sources.{there}
use Rattle.recovery_laws.proofs.Uptos.{items_as}

-- What a port has in one stretch is what its bytes strictly read as.
record IsOnePort (mode : FramesMode) (r : PortStretches) (p : PortReading) : Type 0 where
  frames : frames_of r ≡ p.frames
  fulls : fulls_of r ≡ p.fulls
  halves : halves_of r ≡ p.halves
  mode_is : port_mode mode r ≡ strict_ends.port_mode mode p.locked
  skipped : skipped_of r ≡ p.skipped
  tail : r.now.reading.tail ≡ p.tail

abbrev alone : PortStretch → PortStretches
alone s = record { past = []; now = s }

sum_alone : (f : PortStretch → ℕ) (s : PortStretch) → sum_by f ([] ++ s ∷ []) ≡ f s
sum_alone f s = sum_by_push f [] s ∙ (let z : 0 + f s ≡ f s = omega arith in z)

abbrev stretch : Bool → List Placed → Stretch
stretch h u = record { hunts = h; count = 0; units = u }

skipped_alone : (h : Bool) (u : List Placed) → skipped_of (alone (stretch_of (stretch h u))) ≡ (port_stream h u).skipped
skipped_alone h u = (let k = (same h u).2 in let z : 0 + (0 + (items_by h u).skipped) ≡ (port_stream h u).skipped =
    omega (arith, k) in z)

hunted_mode : (l : Bool) → mode_by true l ≡ strict_ends.port_mode Hunt l
hunted_mode true = refl
hunted_mode false = refl

one_by : (h : Bool) (u : List Placed) → (port_stream h u).fault ≡ None →
    of_stretches (stretches items_by from_halfword h (map One u)) ≡ alone (stretch_of (stretch h u))
one_by h u e =
    ap of_stretches (laws.strict items_by from_halfword port_sound port_begins port_settles h u ((same h u).0 ∙ e))

one_port : (mode : FramesMode) (u : List Placed) → (port_reading mode u).fault ≡ None →
    IsOnePort mode (recovered mode u) (port_reading mode u)
one_port Aligned u e =
    subst (λ r. IsOnePort Aligned r (framed (port_stream false u))) (sym (one_by false u e)) (record {
      frames = append-nil (framed (port_stream false u)).frames;
      fulls = sum_alone (λ s. s.reading.fulls) (stretch_of (stretch false u));
      halves = sum_alone (λ s. s.reading.halves) (stretch_of (stretch false u));
      mode_is = refl;
      skipped = skipped_alone false u;
      tail = refl;
    })
one_port Hunt u e =
    subst (λ r. IsOnePort Hunt r (framed (port_stream true u))) (sym (one_by true u e)) (record {
      frames = append-nil (framed (port_stream true u)).frames;
      fulls = sum_alone (λ s. s.reading.fulls) (stretch_of (stretch true u));
      halves = sum_alone (λ s. s.reading.halves) (stretch_of (stretch true u));
      mode_is = hunted_mode (port_stream true u).locked;
      skipped = skipped_alone true u;
      tail = refl;
    })
one_port Bare u e = record {
  frames = append-nil (port_reading Bare u).frames;
  fulls = sum_alone (λ s. s.reading.fulls) (bare_stretch u);
  halves = sum_alone (λ s. s.reading.halves) (bare_stretch u);
  mode_is = refl;
  skipped = refl;
  tail = refl;
}

-- a mapped source
packets_same : (m : PacketsMode) (l : Bool) → mode_by (packets_hunt m) l ≡ strict_ends.packets_mode m l
packets_same PacketsAligned l = refl
packets_same PacketsHunt true = refl
packets_same PacketsHunt false = refl

same_tail : (x : ℕ) (kind : SourceKind) (m n : PortMode) (s k t v : ℕ) → m ≡ n → s ≡ k → t ≡ v →
    (let a : SourceTail = record { id = x; kind = kind; mode = m; skipped = s; tail = t } in
    let b : SourceTail = record { id = x; kind = kind; mode = n; skipped = k; tail = v } in a ≡ b)
same_tail x kind m n s k t v e f g = cc

list_locks : (kind : SourceKind) (x : ℕ) (items : List (PortItem × Place)) (n : ℕ) (parts : List Part) →
    list_in kind x (lock_of items n ++ parts) ≡ list_in kind x parts
list_locks kind x [] n parts = refl
list_locks kind x (i ∷ items) n parts = refl

module _ (plan : Plan) (x : ℕ) (kind : SourceKind) (r : PortReading) (parts : List Part)
    (list : list_in kind x parts ≡ list_in kind x (map Run (runs_in r)))
    (none : (strict.stream_of plan kind (list_of x (runs_in r))).fault ≡ None) where
  abbrev strictly : Stream Packet
  strictly = strict.stream_of plan kind (list_of x (runs_in r))

  abbrev own : List Placed
  own = units kind (list_of x (runs_in r))

  read_is : reads plan kind (hunts plan kind) own ≡ strictly
  read_is = reads_are plan kind (list_of x (runs_in r))

  abbrev ended : Stretches → SourceTail
  ended t = let s = heard_of (reads plan kind) from_fault t in record {
    id = x;
    kind = kind;
    mode = mode_by t.now.hunts s.locked;
    skipped = s.skipped;
    tail = s.held;
  }

  tail_is : tail_of plan parts x kind ≡ strict_ends.tail_of plan r x kind
  tail_is =
      ap (λ l. ended (stretches (reads plan kind) from_fault (hunts plan kind) l)) list
      ∙ ap ended (one_stretch plan kind x (runs_in r) (ap (λ (z : Stream Packet). z.fault) read_is ∙ none))
      ∙ same_tail x kind _ _ _ _ _ _
      (packets_same plan.packets (reads plan kind (hunts plan kind) own).locked
      ∙ ap (λ (z : Stream Packet). strict_ends.packets_mode plan.packets z.locked) read_is)
      ((let z : 0 + (0 + (reads plan kind (hunts plan kind) own).skipped)
      ≡ (reads plan kind (hunts plan kind) own).skipped =
      omega arith in z) ∙ ap (λ (z : Stream Packet). z.skipped) read_is)
      (ap (λ (z : Stream Packet). z.held) read_is)

flat_map_same : {X : Type 0} (f g : ℕ → List X) (xs : List ℕ) → ((x : ℕ) → f x ≡ g x) → flat_map f xs ≡ flat_map g xs
flat_map_same f g [] e = refl
flat_map_same f g (x ∷ xs) e = ap (λ l. l ++ flat_map f xs) (e x) ∙ ap (λ l. g x ++ l) (flat_map_same f g xs e)

same_tails : (b s z t v u w : ℕ) (m n : PortMode) (x y : List SourceTail) → m ≡ n → s ≡ z → t ≡ v → u ≡ w → x ≡ y →
    (let a : Tails = record { bytes = b; mode = m; skipped = s; tail = t; unattributed = u; sources = x } in
    let d : Tails = record { bytes = b; mode = n; skipped = z; tail = v; unattributed = w; sources = y } in a ≡ d)
same_tails b s z t v u w m n x y f g h i j = cc

same_counts : (f g h i j k : ℕ) → f ≡ g → h ≡ i → j ≡ k →
    (let a : PortCounts = record { fulls = f; halves = h; frames = j } in
    let b : PortCounts = record { fulls = g; halves = i; frames = k } in a ≡ b)
same_counts f g h i j k d e l = cc

same_source : (b c i j : ℕ) → b ≡ c → i ≡ j → (let a : Counts = record { bytes = b; items = i } in
    let d : Counts = record { bytes = c; items = j } in a ≡ d)
same_source b c i j e f = cc

module _ (plan : Plan) (sound : is_sound plan ≡ true) (lo hi : ℕ) (u : List Placed) (rise : BytesRise lo hi u)
    (stop : stop_in (sources_by plan) (port_reading plan.frames u) ≡ None) where
  abbrev p : PortReading
  p = port_reading plan.frames u

  abbrev r : PortStretches
  r = recovered plan.frames u

  port_none : p.fault ≡ None
  port_none = no_stop (sources_by plan) p stop

  least : least_fault (sources_by plan) (runs_in p) ≡ None
  least = (lesser_none (of_source None p.fault) (least_fault (sources_by plan) (runs_in p)) stop).1

  q : IsParted plan.frames u
  q = parted plan.frames lo hi u rise

  parts_are : parts_in r ≡ lock_of q.items q.count ++ map Run (runs_in p)
  parts_are =
      q.parts ∙ ap (λ l. lock_of q.items q.count ++ (map Run (runs_in p) ++ l))
      (subst (λ o. EndsBy o q.end q.rest) port_none q.ends)
      ∙ ap (λ l. lock_of q.items q.count ++ l) (append-nil (map Run (runs_in p)))

  all : AreSound (sources_by plan) (runs_in p)
  all = all_sound (runs_in p) [] q.end (from_start (runs_in p) _ q.end q.between) tt (sources_by plan) least

  one_tail : (x : ℕ) → tail_by plan (parts_in r) x (kind_of plan x) ≡ strict_ends.tail_by plan p x (kind_of plan x)
  one_tail x = by (kind_of plan x) refl where
    by : (o : Option SourceKind) → kind_of plan x ≡ o → tail_by plan (parts_in r) x o ≡ strict_ends.tail_by plan p x o
    by None e = refl
    by (Some kind) e =
        let a = there plan x kind e in
        let k = subst (λ l. AreSound l (runs_in p)) a.parts all in
        ap (λ t. t ∷ []) (tail_is plan x kind p (parts_in r)
        (ap (list_in kind x) parts_are ∙ list_locks kind x q.items q.count (map Run (runs_in p)))
        (sound_back a.front _ a.back (runs_in p) k).0)

  port : IsOnePort plan.frames r p
  port = one_port plan.frames u port_none

  sources : source_tails plan (parts_in r) ID_COUNT ≡ strict_tails plan p ID_COUNT
  unfolding source_tails strict_tails
  sources = flat_map_same (λ x. tail_by plan (parts_in r) x (kind_of plan x))
      (λ x. strict_ends.tail_by plan p x (kind_of plan x)) (range_with_len 0 ID_COUNT) one_tail

  pub ends : EndsAsStrict plan u
  ends =
      let b = before plan sound lo hi u rise in
      record {
        tails = same_tails (length u) _ _ _ _ _ _ _ _ _ _ port.mode_is port.skipped port.tail
            (ap unattributed_of port.frames) sources;
        port_counts = same_counts _ _ _ _ _ _ port.fulls port.halves (ap length port.frames);
        source_counts = λ x.
            same_source _ _ _ _ (ap (bytes_of x) port.frames)
            (items_as x (report plan u) (sym b.fault ∙ stop) (no_guess plan lo hi u rise)
            ∙ ap (strict_ends.items_in x) (sym b.events));
      }

-- what a port has, also where its bytes end in a fault
pub has_sound : (mode : FramesMode) (u : List Placed) → (port_reading mode u).fault ≡ None → HasAsStrict mode u
has_sound mode u e =
    let p = one_port mode u e in record { frames = p.frames; fulls = p.fulls; halves = p.halves }

push : (h : Bool) (u : List Placed) (b : Placed) → stretches items_by from_halfword h (map One (u ++ b ∷ []))
    ≡ fed items_by from_halfword (stretches items_by from_halfword h (map One u)) (One b)
push h u b =
    ap (λ l. fed_from items_by from_halfword (first_of items_by from_halfword h) l) (map-append One u (b ∷ []))
    ∙ laws.from_append items_by from_halfword (map One u) (One b ∷ []) (first_of items_by from_halfword h)

has_by : (h : Bool) (u : List Placed) (at byte : ℕ) → (port_stream h u).fault ≡ None →
    (let r = of_stretches (stretches items_by from_halfword h (map One (u ++ byte_at at byte ∷ []))) in
    let q = framed (port_stream h (u ++ byte_at at byte ∷ [])) in
    (frames_of r ≡ q.frames) × (fulls_of r ≡ q.fulls) × (halves_of r ≡ q.halves))
has_by h u at byte none =
    let one = laws.strict items_by from_halfword port_sound port_begins port_settles h u ((same h u).0 ∙ none) in
    let first : Stretches = record { past = []; now = stretch h u } in
    let v : List Placed = u ++ byte_at at byte ∷ [] in
    let all : stretches items_by from_halfword h (map One v) ≡ fed items_by from_halfword first (One (byte_at at byte)) =
    push h u (byte_at at byte) ∙ ap (λ (r : Stretches). fed items_by from_halfword r (One (byte_at at byte))) one in
    let k = broken first at byte none in
    let it = stretch_of (stretch h v) in (
      ap (λ r. frames_of (of_stretches r)) all ∙ k.frames ∙ append-nil (frames_of (alone it))
          ∙ append-nil (framed (port_stream h v)).frames,
      ap (λ r. fulls_of (of_stretches r)) all
          ∙ (let a = k.fulls in let b = sum_alone (λ s. s.reading.fulls) it in omega (arith, a, b)),
      ap (λ r. halves_of (of_stretches r)) all
          ∙ (let a = k.halves in let b = sum_alone (λ s. s.reading.halves) it in omega (arith, a, b)),
    )

pub has_after : (mode : FramesMode) (u : List Placed) (at byte : ℕ) → (port_reading mode u).fault ≡ None →
    HasAsStrict mode (u ++ byte_at at byte ∷ [])
has_after Aligned u at byte e =
    let k = has_by false u at byte e in record { frames = k.0; fulls = k.1; halves = k.2 }
has_after Hunt u at byte e =
    let k = has_by true u at byte e in record { frames = k.0; fulls = k.1; halves = k.2 }
has_after Bare u at byte e = has_sound Bare (u ++ byte_at at byte ∷ []) refl

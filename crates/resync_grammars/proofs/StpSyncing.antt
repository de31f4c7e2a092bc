-- 21 nibbles F and a nibble 0 end an ASYNC or are a fault, after the front of any spelling.
use Rattle.std.proofs.Common.{◌≡◌, ℕ, suc, ◌+◌, ◌<◌, ◌≤◌, List, ◌++◌, replicate, refl, sym, ◌∙◌, ap, subst, arith, Bool, true, false, cond, None}
use Rattle.std.specs.Prelude.{nat_le, ◌==◌}
use Rattle.std.proofs.lemmas.Bool.{leb-true, eqb-true, eqb-false}
use Rattle.trace_clock.proofs.LastWords.{few_nibbles}
use Rattle.resync_grammars.specs.Names.{BadAsync, Next, Go, End, Fail, Placed, units_of, InUnits, Walked, Within, walk}
use Rattle.resync_grammars.specs.Names.{by_unit, Reading, Progress, progress_from, unread, progress, EndsWith}
use Rattle.resync_grammars.specs.Names.{pattern_of, nibble_count, Order, Row, StpPacket, Async, Plain, Stamped, line_of}
use Rattle.resync_grammars.specs.Names.{said_last, EndsOrFails, Syncs}
use Rattle.trace_values.proofs.Placing.{on_units, walk_units}
use Rattle.trace_values.proofs.Readings as readings
use Rattle.trace_values.proofs.Standings.{from_append}
use Rattle.stp_grammar.specs.declared.partial.Partial.{Partial}
use Rattle.stp_grammar.specs.declared.partial.Partial.TheVariants.{Start, Second, Third, Run, Payload, Size, Word}
use Rattle.stp_grammar.specs.Spelling.{Spells, why}
use Rattle.stp_grammar.specs.Rule.{rule, after_payload, number_with}
use Rattle.stp_grammar.proofs.Deciding.{decided}
use Rattle.stp_grammar.proofs.EachRow.{each_test}
use Rattle.stp_grammar.proofs.Reached.{belongs}
use Rattle.stp_codec.specs.Reading.{pattern}
use Rattle.resync_rules.proofs.Continuing as continuing
use Rattle.resync_rules.proofs.Running as running
use Rattle.resync_rules.proofs.Syncing.{parts_of}
use Rattle.resync_grammars.specs.Stp.{IsRun, OnlyInAsync}

few : (row : Row) → (line_of row).payload ≤ 16
few row = leb-true (line_of row).payload 16 (each_test (λ row. nat_le (line_of row).payload 16) refl row)

-- after k nibbles F there is a run of them, or a fault
abbrev Leads : ℕ → Partial → Type 0
Leads k Start = 2 ≤ k
Leads k Second = 1 ≤ k
Leads k Third = 1 ≤ k
Leads k (Run count) = Unit {0}
Leads k (Payload row count value) = (count < (line_of row).payload) × ((line_of row).payload + 2 ≤ count + k)
Leads k (Size row payload) = 1 ≤ k
Leads k (Word row payload size count word) = (count < nibble_count size) × (nibble_count size + 2 ≤ count + k)

module _ (order : Order) where
  abbrev Says : ℕ → Next Partial StpPacket → Type 0
  Says = running.Says (rule order) Start pattern Async Leads

  after_says : (k : ℕ) (row : Row) (value : ℕ) (b : Bool) → 2 ≤ k → Says k (cond b (Go (Size row value)) (End (Plain row value)))
  after_says k row value true h = (let q : 1 ≤ k = omega (arith, h) in q)
  after_says k row value false h = h

  less : (k : ℕ) (s : Partial) → Leads (suc k) s → Says k (rule order s 15)
  less k Start h = (let q : 1 ≤ k = omega (arith, h) in q)
  less k (Payload row count value) h = by (count + 1 == (line_of row).payload) refl where
    by : (b : Bool) → (count + 1 == (line_of row).payload) ≡ b →
        Says k (cond b (after_payload row (number_with order count value 15)) (Go (Payload row (count + 1) (number_with order count value 15))))
    by true e =
        after_says k row (number_with order count value 15) (line_of row).stamped
        (let l = eqb-true (count + 1) (line_of row).payload e in let g = h.1 in omega (arith, l, g))
    by false e =
        let l = eqb-false (count + 1) (line_of row).payload e in let f = h.0 in let g = h.1 in (
          (let q : count + 1 < (line_of row).payload = grind (arith, l, f) in q),
          (let q : (line_of row).payload + 2 ≤ count + 1 + k = omega (arith, g) in q),
        )
  less k (Word row payload size count word) h = by (count + 1 == nibble_count size) refl where
    by : (b : Bool) → (count + 1 == nibble_count size) ≡ b →
        Says k (cond b (End (Stamped row payload size (number_with order count word 15))) (Go (Word row payload size (count + 1) (number_with order count word 15))))
    by true e = (let l = eqb-true (count + 1) (nibble_count size) e in let g = h.1 in let q : 2 ≤ k = omega (arith, l, g) in q)
    by false e =
        let l = eqb-false (count + 1) (nibble_count size) e in let f = h.0 in let g = h.1 in (
          (let q : count + 1 < nibble_count size = grind (arith, l, f) in q),
          (let q : nibble_count size + 2 ≤ count + 1 + k = omega (arith, g) in q),
        )
  less k s h = tt

  -- after all of them it is a run
  is_run : (s : Partial) → Leads 0 s → (count : ℕ) × (s ≡ Run count)
  is_run Start h = absurd (omega (arith, h))
  is_run Second h = absurd (omega (arith, h))
  is_run Third h = absurd (omega (arith, h))
  is_run (Run count) h = (count, refl)
  is_run (Payload row count value) h = absurd (let f = h.0 in let g = h.1 in omega (arith, f, g))
  is_run (Size row payload) h = absurd (omega (arith, h))
  is_run (Word row payload size count word) h = absurd (let f = h.0 in let g = h.1 in omega (arith, f, g))

  stays : (s : Partial) → Leads 0 s → Says 0 (rule order s 15)
  stays s h = let r = is_run s h in subst (λ (t : Partial). Says 0 (rule order t 15)) (sym r.1) tt

  ends : (s : Partial) → Leads 0 s → EndsOrFails Async (rule order s 0)
  ends s h = let r = is_run s h in subst (λ (t : Partial). EndsOrFails Async (rule order t 0)) (sym r.1) (by (nat_le 21 r.0)) where
    by : (b : Bool) → EndsOrFails {S = Partial} Async (cond b (End Async) (Fail BadAsync))
    by true = refl
    by false = tt

  -- each state that is reached
  reached : (s : Partial) (r : List ℕ) → walk (rule order) Start r ≡ Within s → Leads 18 s
  reached Start r e = omega arith
  reached Second r e = omega arith
  reached Third r e = omega arith
  reached (Run count) r e = tt
  reached (Payload row count value) r e = (let b = belongs order (Payload row count value) r e in let f = few row in (b.0, (let q : (line_of row).payload + 2 ≤ count + 18 = omega (arith, f) in q)))
  reached (Size row payload) r e = omega arith
  reached (Word row payload size count word) r e =
      let b = belongs order (Word row payload size count word) r e in let f = few_nibbles size b.1 in
      (b.2, (let q : nibble_count size + 2 ≤ count + 18 = omega (arith, f) in q))

  closes : (r : List ℕ) → Spells order Async r → EndsWith (pattern_of pattern) r
  closes r (count, h, e) = subst (λ (l : List ℕ). EndsWith (pattern_of pattern) l) (sym e) (running.run_closes pattern count h)

  pub stp_syncs : Syncs (InUnits (Spells order)) (λ r. why (units_of r)) (by_unit (rule order)) Start pattern Async
  stp_syncs =
      running.syncs_run (rule order) Start pattern Async Leads less stays ends (Spells order) why (decided order) (λ e. omega (arith, e)) (21, omega arith, refl) closes 18 (omega arith) reached

  abbrev prog : List Placed → Progress Partial StpPacket
  prog u = progress (by_unit (rule order)) Start u

  -- after 18 nibbles F the state is a run of them
  alive_run : (n : Next Partial StpPacket) (q : Progress Partial StpPacket) → Says 0 n → continuing.Alive (by_unit (rule order)) Start n q → q.fault ≡ None → (count : ℕ) × (q.state ≡ Run count)
  alive_run (Go s) q h a f = let r = is_run s h in (r.0, a.1 ∙ r.1)
  alive_run (End v) q h a f = absurd (omega (arith, h))
  alive_run (Fail e) q h a f = absurd (a f)

  pub few_in_a_row : OnlyInAsync order 18
  few_in_a_row u r i f front rest parts (c, e) =
      let d = on_units (rule order) (Spells order) why Start (decided order) in
      let same = readings.only_reading (InUnits (Spells order)) (λ r. why (units_of r)) (by_unit (rule order)) Start d u r i in
      let all : (prog u).fault ≡ None = sym (ap (λ (x : Reading StpPacket). x.fault) same) ∙ f in
      let on : prog u ≡ progress_from (by_unit (rule order)) Start (prog front) rest = ap prog parts ∙ from_append (by_unit (rule order)) Start front rest (unread Start) in
      let sound : (prog front).fault ≡ None = continuing.no_fault (by_unit (rule order)) Start rest (prog front) (ap (λ (q : Progress Partial StpPacket). q.fault) (sym on) ∙ all) in
      let more = continuing.items_from (by_unit (rule order)) Start rest (prog front) in
      let k = rest_runs front c e sound in
      record {
        early = (prog front).items;
        later = more.0;
        parts = ap (λ (x : Reading StpPacket). x.items) same ∙ ap (λ (q : Progress Partial StpPacket). q.items) on ∙ more.1;
        run = (prog front).rest;
        spelled = (readings.reading_is (InUnits (Spells order)) (λ r. why (units_of r)) (by_unit (rule order)) Start d front).splits;
        alone = k;
      }
    where
      rest_runs : (u : List Placed) (c : List ℕ) → units_of u ≡ c ++ replicate 18 15 → (prog u).fault ≡ None → IsRun (prog u).rest
      rest_runs u c e sound =
          let d = on_units (rule order) (Spells order) why Start (decided order) in
          let p = parts_of u c (replicate 18 15) e in
          let split : prog u ≡ progress_from (by_unit (rule order)) Start (prog p.0) p.1 = ap prog p.2 ∙ from_append (by_unit (rule order)) Start p.0 p.1 (unread Start) in
          let before : (prog p.0).fault ≡ None = continuing.no_fault (by_unit (rule order)) Start p.1 (prog p.0) (ap (λ (q : Progress Partial StpPacket). q.fault) (sym split) ∙ sound) in
          let w = readings.rest_walks (InUnits (Spells order)) (λ r. why (units_of r)) (by_unit (rule order)) Start d p.0 before in
          let s = (prog p.0).state in
          let says : Says 0 (said_last (by_unit (rule order)) Start (Go s) p.1) =
          subst (λ (n : Next Partial StpPacket). Says 0 n) (sym (running.said_units (rule order) Start (Go s) p.1 ∙ ap (λ (l : List ℕ). said_last (rule order) Start (Go s) l) p.4))
          (running.run_says (rule order) Start pattern Async Leads less stays 18 18 (Go s) (reached s (units_of (prog p.0).rest) (sym (walk_units (rule order) Start (prog p.0).rest) ∙ w)) (omega arith)) in
          let alive = continuing.alive_from (by_unit (rule order)) Start p.1 (Go s) (prog p.0) (before, refl) in
          let k = alive_run (said_last (by_unit (rule order)) Start (Go s) p.1) (progress_from (by_unit (rule order)) Start (prog p.0) p.1) says alive (ap (λ (q : Progress Partial StpPacket). q.fault) (sym split) ∙ sound) in
          let state : (prog u).state ≡ Run k.0 = ap (λ (q : Progress Partial StpPacket). q.state) split ∙ k.1 in
          let here = readings.rest_walks (InUnits (Spells order)) (λ r. why (units_of r)) (by_unit (rule order)) Start d u sound in
          let b = belongs order (Run k.0) (units_of (prog u).rest)
          (sym (walk_units (rule order) Start (prog u).rest) ∙ here ∙ ap (λ (s : Partial). let w : Walked Partial StpPacket = Within s in w) state) in
          (k.0, b.0, b.1)

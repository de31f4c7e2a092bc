-- The table of halfwords and synchronisations is the grammar's rule.
use Rattle.std.proofs.Common.{◌≡◌, ℕ, ◌+◌, List, refl, Bool, true, false, cond}
use Rattle.std.specs.Prelude.{◌==◌}
use Rattle.trace_values.specs.declared.fault.Reason.TheVariants.{BadSync, SyncInFrame}
use Rattle.trace_values.specs.declared.next.Next.{Next}
use Rattle.trace_values.specs.declared.next.Next.TheVariants.{Go, End, Fail}
use Rattle.trace_values.specs.Placed.{Placed, byte_at}
use Rattle.frame_grammar.specs.Port as port
use Rattle.frame_grammar.specs.Port.{PortItem, State, rule}
use Rattle.port_sync.specs.Aligned.{Begun, said, state, outcome}
use Rattle.port_sync.specs.declared.aligner.Half.TheVariants.{HalfSync, FullSync, Waiting, Bad}
use Rattle.port_sync.specs.declared.aligner.Part.{Part}
use Rattle.port_sync.specs.declared.aligner.Part.TheVariants.{Between, First, One, Two, Three}

abbrev pick : Bool → Next State PortItem → Next State PortItem → Next State PortItem
pick t x y = cond t x y

abbrev begun : ℕ → List Placed → ℕ → Part → ℕ → Begun
begun left bytes halves part at = record { left = left; bytes = bytes; halves = halves; part = part; at = at }

pub rule_by : (left : ℕ) (bytes : List Placed) (halves : ℕ) (part : Part) (at here byte : ℕ) →
    rule (state left bytes halves part at) (byte_at here byte) ≡ outcome (begun left bytes halves part at) here byte (said left part byte)
rule_by left bytes halves Between at here byte = split (byte == 255) where
  split : (t : Bool) → pick t (Go (state left bytes halves One here)) (Go (record { left = left; bytes = bytes; halves = halves; part = port.First (byte_at here byte) }))
      ≡ Go (state left bytes halves (cond t One (First byte)) here)
  split true = refl
  split false = refl
rule_by left bytes halves (First a) at here byte = refl
rule_by left bytes halves One at here byte = split (byte == 127) (byte == 255) (left == 7) refl where
  split : (t u w : Bool) → (left == 7) ≡ w →
      pick t (pick (left == 7) (End port.Half) (Go (record { left = left; bytes = bytes; halves = halves + 1; part = port.Between })))
      (pick u (pick w (Go (state left bytes halves Two here)) (Fail SyncInFrame)) (Fail BadSync))
      ≡ outcome (begun left bytes halves One at) here byte (cond t HalfSync (cond u (cond w Waiting (Bad SyncInFrame)) (Bad BadSync)))
  split true u w e = refl
  split false true true e = refl
  split false true false e = refl
  split false false w e = refl
rule_by left bytes halves Two at here byte = split (byte == 255) where
  split : (t : Bool) → pick t (Go (state left bytes halves Three here)) (Fail BadSync) ≡ outcome (begun left bytes halves Two at) here byte (cond t Waiting (Bad BadSync))
  split true = refl
  split false = refl
rule_by left bytes halves Three at here byte = split (byte == 127) where
  split : (t : Bool) → pick t (End port.Full) (Fail BadSync) ≡ outcome (begun left bytes halves Three at) here byte (cond t FullSync (Bad BadSync))
  split true = refl
  split false = refl

use Rattle.std.proofs.Common.{arith, ℕ, ◌+◌, ◌++◌, [], ◌∷◌, refl, ◌≡◌, sym, ◌∙◌, ap, subst, List, Bool, true, false}
use Rattle.itm_codec.specs.Names.{Go, End, Fail, Placed, byte_at, by_unit, Seeks, StandsIn, Sync, Header, rule}
use Rattle.itm_codec.specs.Names.{count_of, Partial, ItmPacket, Hunting, Next, Grows}
use Rattle.trace_values.specs.Standing.{live_after, state_after}
use Rattle.trace_values.proofs.Modes as laws
use Rattle.trace_values.proofs.OneUnit.{step_on}
use Rattle.itm_codec.specs.declared.decoder.ItmDecoder.{ItmDecoder}
use Rattle.itm_codec.specs.Answers.{AnswersBy}
use Rattle.itm_codec.specs.Decoder.{Stands, is_hunter, partial_of}
use Rattle.itm_grammar.proofs.Counting.{counts}
use Rattle.itm_codec.specs.Reading.{packets_in, pattern, rest_in}
use Rattle.itm_codec.proofs.Answering.{answers}
use Rattle.itm_codec.proofs.decoder.ItmDecoderMachine.feed.Goals as goal

-- what the rule says of the unfinished packet
goes : (d : ItmDecoder) (s : Partial) (byte : ℕ) (n : Next Partial ItmPacket) → s ≡ partial_of d → n ≡ rule s byte → n ≡ rule (partial_of d) byte
goes d s byte n e h = h ∙ ap (λ (t : Partial). rule t byte) e

-- and what a decoder in its reading makes of it
reads : (d : ItmDecoder) (at byte : ℕ) (n : Next Partial ItmPacket) (live : Bool) (partial : Partial) → d.live ≡ true →
    ((run skipped : ℕ) → d.mode ≡ Hunting run skipped → ⊥) → n ≡ rule (partial_of d) byte →
    live ≡ live_after n → partial ≡ state_after Header n (partial_of d) → (u : List Placed) → Stands d u →
    StandsIn pattern Sync (by_unit rule) Header d.mode live partial (u ++ byte_at at byte ∷ [])
    × Grows (packets_in (is_hunter d) u) (packets_in (is_hunter d) (u ++ byte_at at byte ∷ [])) at (step_on (byte_at at byte).place n)
    × AnswersBy (step_on (byte_at at byte).place n) at (rest_in (is_hunter d) u ++ byte_at at byte ∷ [])
reads d at byte n live partial l hunts is lives left u s =
    let b = byte_at at byte in
    let locked = laws.reads_on d.mode hunts in (
      laws.reads-list pattern Sync (by_unit rule) Header d.mode d.live (partial_of d) u b live partial n l locked is lives left s,
      laws.reads-step pattern Sync (by_unit rule) Header d.mode d.live (partial_of d) u b n l locked is s,
      answers d.mode d.live (partial_of d) u at byte n l locked is s,
    )

pub returns-then-ends-clause-list : goal.returns-then-ends-clause-list
returns-then-ends-clause-list c = λ u s. laws.locks-list pattern Sync (by_unit rule) Header _ c.in-Hunting.run' c.in-Hunting.skipped (byte_at c.args.at c.args.byte) c.args.self.now.live (partial_of c.args.self.now) u
    c.in-Hunting.is (sym c.ends.ensures.value ∙ c.if-ends.true) s

pub returns-then-ends-clause-step : goal.returns-then-ends-clause-step
returns-then-ends-clause-step c = λ u s. laws.locks-step pattern Sync (by_unit rule) Header _ c.in-Hunting.run' c.in-Hunting.skipped (byte_at c.args.at c.args.byte) c.args.self.now.live (partial_of c.args.self.now) u
    c.in-Hunting.is (sym c.ends.ensures.value ∙ c.if-ends.true) s

pub returns-else-ends-clause-list : goal.returns-else-ends-clause-list
returns-else-ends-clause-list c = λ u s.
    let k = laws.skips-list pattern Sync (by_unit rule) Header _ c.in-Hunting.run' c.in-Hunting.skipped (byte_at c.args.at c.args.byte) c.args.self.now.live (partial_of c.args.self.now) u
    c.in-Hunting.is (sym c.ends.ensures.value ∙ c.if-ends.false) s in
    (subst (λ (n : ℕ). Seeks pattern Sync (by_unit rule) Header n (c.in-Hunting.skipped + 1) (u ++ byte_at c.args.at c.args.byte ∷ [])) (sym c.run_after.ensures.value) k.0, k.1, k.2)

pub returns-else-ends-clause-step : goal.returns-else-ends-clause-step
returns-else-ends-clause-step c = λ u s. laws.skips-step pattern Sync (by_unit rule) Header _ c.in-Hunting.run' c.in-Hunting.skipped (byte_at c.args.at c.args.byte) c.args.self.now.live (partial_of c.args.self.now) u
    c.in-Hunting.is (sym c.ends.ensures.value ∙ c.if-ends.false) s

pub returns-in-Go : goal.returns-in-Go
returns-in-Go c =
    let d = c.args.self.now in
    let is = goes d c.unfinished-unfinished.result c.args.byte (Go c.in-Go.partial) c.unfinished-unfinished.ensures.part c.in-Go.ensures.next in
    let read = reads d c.args.at c.args.byte (Go c.in-Go.partial) d.live c.in-Go.partial c.requires.live c.in_default.not-Hunting is c.requires.live refl in
    record {
      same = refl;
      list = λ u s. (read u s).0;
      step = λ u s. (read u s).1;
      tells = (c.requires.live, tt, tt);
      few = (let k = counts (partial_of d) c.in-Go.partial c.args.byte (sym is) in omega arith);
      grammar = λ u s locked. (read u s).2;
    }

pub returns-in-End : goal.returns-in-End
returns-in-End c =
    let d = c.args.self.now in
    let is = goes d c.unfinished-unfinished.result c.args.byte (End c.in-End.packet) c.unfinished-unfinished.ensures.part c.in-End.ensures.next in
    let read = reads d c.args.at c.args.byte (End c.in-End.packet) d.live Header c.requires.live c.in_default.not-Hunting is c.requires.live refl in
    record {
      same = refl;
      list = λ u s. (read u s).0;
      step = λ u s. (read u s).1;
      tells = (c.requires.live, tt, c.in-End.ensures.proper);
      few = omega arith;
      grammar = λ u s locked. (read u s).2;
    }

pub returns-in-Fail : goal.returns-in-Fail
returns-in-Fail c =
    let d = c.args.self.now in
    let was = c.unfinished-unfinished.ensures.part in
    let read = reads d c.args.at c.args.byte (Fail c.in-Fail.reason) false c.unfinished-unfinished.result c.requires.live c.in_default.not-Hunting
    (goes d c.unfinished-unfinished.result c.args.byte (Fail c.in-Fail.reason) was c.in-Fail.ensures.next) refl was in
    record {
      same = refl;
      list = λ u s. (read u s).0;
      step = λ u s. (read u s).1;
      tells = (refl, tt, tt);
      few = (let k = ap count_of was in omega arith);
      grammar = λ u s locked. (read u s).2;
    }

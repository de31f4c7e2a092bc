use Rattle.std.proofs.Common.{◌≡◌, ℕ, List, [], ◌++◌, ap, ◌∙◌, sym, subst, refl, append_assoc, append-nil, take, drop, take-append-drop, ◌+◌, ◌-◌, length, length-append, arith, Bool, true, false, Result, Ok, Err, IsErr}
use Rattle.std.proofs.Math.Seq.{take-append-add, take-append_seam}
use Rattle.std.specs.declared.option.Option.{Option}
use Rattle.std.specs.Io.KnownBytes.{Appends}
use Rattle.trace_io.specs.Bytes.{AppendsPrefix, TakesFront}
use Rattle.trace_io.specs.declared.source.Failed.{Failed}
use Rattle.trace_stream.proofs.Prefixes.{prefix_join, front_join, front_written}
use Rattle.trace_stream.specs.Fed.{Writing, StandsAfter, HasFed}
use Rattle.trace_stream.specs.Served.{Meaning}
use Rattle.trace_stream.specs.Taken.{HasTaken, Turn}
use Rattle.trace_stream.specs.declared.action.Progress.{Progress}

-- the output and what is pending before it at a later moment of the same run
abbrev pub later : Writing → Option (List ℕ) → List ℕ → Writing
later w held pending = record { start = w.start; held = held; pending = pending }

-- a front of the piece was fed, without a fault, and this is the rest
pub record IsFeeding (stands : List ℕ → Type 0) (m : Meaning) (w : Writing) (seen piece rest : List ℕ) : Type 0 where
  pub fed : List ℕ
  pub parts : piece ≡ fed ++ rest
  pub after : StandsAfter stands m w false (seen ++ fed)

pub feeding_none : (stands : List ℕ → Type 0) (m : Meaning) (w : Writing) (seen piece : List ℕ)
    → StandsAfter stands m w false seen → IsFeeding stands m w seen piece piece
feeding_none stands m w seen piece after = record {
  fed = [];
  parts = refl;
  after = subst (StandsAfter stands m w false) (sym (append-nil seen)) after;
}

-- before it, some of what is pending may have been written
pub feeding_first : (stands : List ℕ → Type 0) (m : Meaning) (w : Writing) (held : Option (List ℕ)) (pending seen piece : List ℕ) → TakesFront w.held held w.pending pending
    → StandsAfter stands m w false seen → IsFeeding stands m (later w held pending) seen piece piece
feeding_first stands m w held pending seen piece put after =
    feeding_none stands m (later w held pending) seen piece
    (record { read = after.read; fault = after.fault; written = front_join w.start w.held held (m.text seen) w.pending pending after.written put })

-- what was fed, and this many bytes of the rest
front_is : (piece fed rest : List ℕ) (n : ℕ) → piece ≡ fed ++ rest → take (length piece - length rest + n) piece ≡ fed ++ take n rest
front_is piece fed rest n e =
    let count : length piece - length rest + n ≡ length fed + n = omega (arith, ap length e, length-append fed rest) in
    ap (λ k. take k piece) count ∙ ap (take (length fed + n)) e ∙ take-append-add fed rest n

-- what is pending is to be written, and a write may fail
module _ (was : List ℕ → Type 0) (m : Meaning) (w : Writing) (held : Option (List ℕ)) (pending seen piece rest : List ℕ)
    (so_far : IsFeeding was m w seen piece rest) where
  fed_front : so_far.fed ≡ take (length so_far.fed) piece
  fed_front = sym (ap (take (length so_far.fed)) so_far.parts ∙ take-append_seam so_far.fed rest)

  pub feeding_write_failed : (result : Result Progress Failed) → IsErr result → AppendsPrefix w.held held w.pending → HasFed was m (later w held pending) seen piece result
  feeding_write_failed (Ok fed) err put = cc
  feeding_write_failed (Err failed) err put = (
    length so_far.fed,
    subst (λ l. AppendsPrefix w.start held (m.text (seen ++ l))) fed_front
        (prefix_join w.start w.held held (m.text (seen ++ so_far.fed)) w.pending so_far.after.written put),
    subst (λ l. was (seen ++ l)) fed_front so_far.after.read,
  )

  pub feeding_all : rest ≡ [] → Appends w.held held w.pending → pending ≡ []
      → HasFed was m (later w held pending) seen piece (Ok (record { bytes = length piece; is_faulty = false }))
  feeding_all none put empty =
      let all : so_far.fed ≡ piece = sym (so_far.parts ∙ ap (λ l. so_far.fed ++ l) none ∙ append-nil so_far.fed) in
      let whole : take (length piece) piece ≡ piece = ap (take (length piece)) (sym (append-nil piece)) ∙ take-append_seam piece [] in
      let text = m.text (seen ++ so_far.fed) in
      subst (λ l. StandsAfter was m (later w held pending) false (seen ++ l)) (all ∙ sym whole) (record {
        read = so_far.after.read;
        fault = so_far.after.fault;
        written = record {
          front = text;
          took = front_written w.start w.held held text w.pending so_far.after.written put;
          all = sym (ap (λ l. text ++ l) empty ∙ append-nil text);
        };
      })

-- the new text comes after what is pending
written_more : (start held : Option (List ℕ)) (text text' more pending pending' : List ℕ) → TakesFront start held text pending
    → text' ≡ text ++ more → pending' ≡ pending ++ more → TakesFront start held text' pending'
written_more start held text text' more pending pending' p grown gained =
    record { front = p.front; took = p.took; all = grown ∙ ap (λ l. l ++ more) p.all ∙ append_assoc p.front pending more ∙ ap (λ l. p.front ++ l) (sym gained) }

-- The action takes the front of the rest of the piece: what is pending and owed then is to be put, and stands as before.
module _ (was fed now : List ℕ → Type 0) (m : Meaning) (w : Writing) (held : Option (List ℕ)) (owed pending seen piece rest : List ℕ) (n : ℕ)
    (so_far : IsFeeding was m w seen piece rest) (keeps : (bytes : List ℕ) → fed bytes → now bytes) where
  -- what it is called with, and what it leaves
  abbrev pub turn : Turn
  turn = record { seen = seen ++ so_far.fed; front = take n rest; before = w.pending; after = owed }

  abbrev text : List ℕ
  text = m.text ((seen ++ so_far.fed) ++ take n rest)

  text_more : (is_faulty : Bool) → HasTaken fed m turn is_faulty → TakesFront w.start w.held text owed
  text_more is_faulty taken =
      written_more w.start w.held (m.text (seen ++ so_far.fed)) text taken.more w.pending owed so_far.after.written taken.grown taken.gained

  stands_more : (is_faulty : Bool) → HasTaken fed m turn is_faulty → TakesFront w.held held owed pending → StandsAfter now m (later w held pending) is_faulty (seen ++ (so_far.fed ++ take n rest))
  stands_more is_faulty taken put =
      let before = seen ++ so_far.fed in
      subst (StandsAfter now m (later w held pending) is_faulty) (append_assoc seen so_far.fed (take n rest)) (record {
        read = keeps (before ++ take n rest) taken.read;
        fault = taken.fault;
        written = front_join w.start w.held held text owed pending (text_more is_faulty taken) put;
      })

  pub feeding_more : HasTaken fed m turn false → TakesFront w.held held owed pending → IsFeeding now m (later w held pending) seen piece (drop n rest)
  feeding_more taken put = record {
    fed = so_far.fed ++ take n rest;
    parts = so_far.parts ∙ ap (λ l. so_far.fed ++ l) (sym (take-append-drop n rest)) ∙ sym (append_assoc so_far.fed (take n rest) (drop n rest));
    after = stands_more false taken put;
  }

  pub feeding_stopped : HasTaken fed m turn true → TakesFront w.held held owed pending
      → HasFed now m (later w held pending) seen piece (Ok (record { bytes = length piece - length rest + n; is_faulty = true }))
  feeding_stopped taken put =
      subst (λ l. StandsAfter now m (later w held pending) true (seen ++ l)) (sym (front_is piece so_far.fed rest n so_far.parts)) (stands_more true taken put)

  -- the putting may fail
  all_fed : (seen ++ so_far.fed) ++ take n rest ≡ seen ++ take (length piece - length rest + n) piece
  all_fed = append_assoc seen so_far.fed (take n rest) ∙ ap (λ l. seen ++ l) (sym (front_is piece so_far.fed rest n so_far.parts))

  pub feeding_put_failed : (is_faulty : Bool) (result : Result Progress Failed) → IsErr result → HasTaken fed m turn is_faulty → AppendsPrefix w.held held owed
      → HasFed now m (later w held pending) seen piece result
  feeding_put_failed is_faulty (Ok fed) err taken put = cc
  feeding_put_failed is_faulty (Err failed) err taken put = (
    length piece - length rest + n,
    subst (λ l. AppendsPrefix w.start held (m.text l)) all_fed
        (prefix_join w.start w.held held text owed (text_more is_faulty taken) put),
    subst now all_fed (keeps ((seen ++ so_far.fed) ++ take n rest) taken.read),
  )

-- what an action took, at a plan and an answer that are known
pub taken_at : {Plan : Type 0} (now : List ℕ → Type 0) (meaning : Plan → Meaning) (plan p : Plan) (turn : Turn) (is_faulty known : Bool)
    → plan ≡ p → is_faulty ≡ known → HasTaken now (meaning plan) turn is_faulty → HasTaken now (meaning p) turn known
taken_at now meaning plan p turn is_faulty known e f taken =
    subst (λ q. HasTaken now (meaning q) turn known) e (subst (HasTaken now (meaning plan) turn) f taken)

-- how things stand after a piece, at an answer that is known
pub fed_at : (stands : List ℕ → Type 0) (m : Meaning) (w : Writing) (seen : List ℕ) (is_faulty known : Bool)
    → is_faulty ≡ known → StandsAfter stands m w is_faulty seen → StandsAfter stands m w known seen
fed_at stands m w seen is_faulty known e after = subst (λ b. StandsAfter stands m w b seen) e after

-- What is sure of a capture stays so.
use Rattle.std.proofs.Common.{◌≡◌, ◌≤◌, ℕ, List, [], ◌++◌, ◌∙◌, ap, append_assoc, Option, None, Some}
use Rattle.frame_writer.proofs.Fronts as fronts
use Rattle.port_formatter.specs.Names.{sure_after, Tagged, written_segments, empty, Turns}
use Rattle.port_formatter.specs.Passed.{passed, bytes_acts}
use Rattle.port_formatter.specs.PassedLaws.{more_passed, passed_bytes, passed_whole}
use Rattle.port_formatter.specs.Port.{Port, sent, all_sent, sure_of, written}
use Rattle.port_formatter.specs.Segments.{Segments, with_bytes, now_ended, after_flush}

-- of segments as they come to the port
module _ (every halves : ℕ) where
  abbrev sure : Segments → List ℕ
  sure s = sure_after every halves s.ended s.begun

  grown : (s : Segments) (bytes : List Tagged) → (more : List ℕ) × (sure (with_bytes s bytes) ≡ sure s ++ more)
  grown s bytes = fronts.sure_grows every halves s.ended s.begun bytes

  flushed : (s : Segments) (bytes : List Tagged) →
      (more : List ℕ) × (sure (after_flush (with_bytes s bytes)) ≡ sure s ++ more)
  flushed s bytes =
      let first = grown s bytes in
      let closed = fronts.sure_closes every halves s.ended (s.begun ++ bytes) [] in (
        first.0 ++ closed.0,
        closed.1 ∙ ap (λ (l : List ℕ). l ++ closed.0) first.1 ∙ append_assoc (sure s) first.0 closed.0,
      )

  begins : (s : Segments) (bytes : List Tagged) → halves ≤ 8 →
      (more : List ℕ) × (written_segments every halves (now_ended (with_bytes s bytes)) ≡ sure s ++ more)
  begins s bytes few =
      let first = grown s bytes in
      let rest = fronts.sure_begins every halves s.ended (s.begun ++ bytes) few in (
        first.0 ++ rest.0,
        rest.1 ∙ ap (λ (l : List ℕ). l ++ rest.0) first.1 ∙ append_assoc (sure s) first.0 rest.0,
      )

  sent_grows : (o : Option Turns) (s : Segments) (bytes : List Tagged) →
      (more : List ℕ) × (sure (sent o (with_bytes s bytes)) ≡ sure (sent o s) ++ more)
  sent_grows None s bytes = grown s bytes
  sent_grows (Some t) s bytes =
      let more = grown (passed t s) (more_passed t (empty t.order) s.ended s.begun (bytes_acts bytes)) in
      (more.0, ap sure (passed_bytes t (empty t.order) s.ended s.begun bytes) ∙ more.1)

  sent_flushed : (o : Option Turns) (s : Segments) (bytes : List Tagged) →
      (more : List ℕ) × (sure (sent o (after_flush (with_bytes s bytes))) ≡ sure (sent o s) ++ more)
  sent_flushed None s bytes = flushed s bytes
  sent_flushed (Some t) s bytes =
      let put = passed_whole t (empty t.order) s.ended s.begun bytes in
      let more = flushed (passed t s) put.0 in
      (more.0, ap sure put.1 ∙ more.1)

  sent_begins : (o : Option Turns) (s : Segments) (bytes : List Tagged) → halves ≤ 8 →
      (more : List ℕ)
      × (written_segments every halves (all_sent o (now_ended (with_bytes s bytes))) ≡ sure (sent o s) ++ more)
  sent_begins None s bytes few = begins s bytes few
  sent_begins (Some t) s bytes few =
      let put = passed_whole t (empty t.order) s.ended s.begun bytes in
      let more = begins (passed t s) put.0 few in
      (more.0, ap (λ (r : Segments). written_segments every halves r.ended) put.1 ∙ more.1)

-- more bytes, and the end of a segment after them, only add to what is sure; and that begins the whole capture
pub sure_grows : (p : Port) (s : Segments) (bytes : List Tagged) →
    (more : List ℕ) × (sure_of p (with_bytes s bytes) ≡ sure_of p s ++ more)
sure_grows p s bytes = sent_grows p.every p.halves p.funnel s bytes

pub sure_flushed : (p : Port) (s : Segments) (bytes : List Tagged) →
    (more : List ℕ) × (sure_of p (after_flush (with_bytes s bytes)) ≡ sure_of p s ++ more)
sure_flushed p s bytes = sent_flushed p.every p.halves p.funnel s bytes

pub sure_begins : (p : Port) (s : Segments) (bytes : List Tagged) → p.halves ≤ 8 →
    (more : List ℕ) × (written p (now_ended (with_bytes s bytes)) ≡ sure_of p s ++ more)
sure_begins p s bytes few = sent_begins p.every p.halves p.funnel s bytes few

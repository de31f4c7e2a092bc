-- What the receiver of a value dump is given adds up: proofs that its `impl` cites.
use Rattle.std.proofs.Common.{◌≡◌, ◌∙◌, ℕ, ◌++◌, [], List, Option, sym, ap, subst, append_assoc, append-nil, refl}
use Rattle.value_dump.specs.Names.{Event, ItmPacket, Packet, itm_packets}
use Rattle.value_dump.specs.Dump.{lines_after}
use Rattle.value_dump.specs.DumpLaws.{lines_append, packets_append}
use Rattle.value_dump.specs.Dumping.{Stands, hz_of}
use Rattle.value_dump.specs.SourceDump.{gets}
use Rattle.value_dump.specs.declared.source_dump.SourceDump.{SourceDump}
use Rattle.recovering_machines.specs.Hearing.{AddsUp}

gets_none : (s : SourceDump × List ℕ) → gets s [] s
gets_none s = record {
  source = refl;
  hz = refl;
  stands = λ before h. subst (λ (l : List ItmPacket). Stands s.0.dump l) (sym (append-nil before)) h;
  text = λ before h. sym (append-nil s.1);
}

gets_more : (a b c : SourceDump × List ℕ) (es fs : List (Event Packet)) → gets a es b → gets b fs c →
    gets a (es ++ fs) c
gets_more a b c es fs g h =
    let one = itm_packets a.0.source es in
    let two = itm_packets a.0.source fs in
    let hz = hz_of a.0.dump in
    let same : itm_packets b.0.source fs ≡ two = ap (λ (s : Option ℕ). itm_packets s fs) g.source in
    let both : (before : List ItmPacket) →
    (before ++ one) ++ itm_packets b.0.source fs ≡ before ++ itm_packets a.0.source (es ++ fs) =
    (λ before. append_assoc before one (itm_packets b.0.source fs)
    ∙ ap (λ (l : List ItmPacket). before ++ (one ++ l)) same
    ∙ ap (λ (l : List ItmPacket). before ++ l) (sym (packets_append a.0.source es fs))) in
    record {
      source = h.source ∙ g.source;
      hz = h.hz ∙ g.hz;
      stands = λ before k.
          subst (λ (l : List ItmPacket). Stands c.0.dump l) (both before)
          (h.stands (before ++ one) (g.stands before k));
      text = λ before k.
          h.text (before ++ one) (g.stands before k)
          ∙ ap (λ (z : Option ℕ). b.1 ++ lines_after z (before ++ one) (itm_packets b.0.source fs)) g.hz
          ∙ ap (λ (l : List ItmPacket). b.1 ++ lines_after hz (before ++ one) l) same
          ∙ ap (λ (l : List ℕ). l ++ lines_after hz (before ++ one) two) (g.text before k)
          ∙ append_assoc a.1 (lines_after hz before one) (lines_after hz (before ++ one) two)
          ∙ ap (λ (l : List ℕ). a.1 ++ l) (sym (lines_append hz before one two))
          ∙ ap (λ (l : List ItmPacket). a.1 ++ lines_after hz before l) (sym (packets_append a.0.source es fs));
    }

pub adds_up : AddsUp gets
adds_up = record { none = gets_none; more = gets_more }

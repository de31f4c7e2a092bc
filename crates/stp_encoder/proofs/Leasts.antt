-- A packed time is the least timestamp that tells it.
use Rattle.std.proofs.Common.{◌≡◌, ℕ, ◌<◌, ◌^◌, List, refl, sym, ap, ◌∙◌, subst, true, false, cond, Option, Some}
use Rattle.stp_encoder.specs.Names.{gray_of, SizedWord, last_word, IsLeast, StpPacket, Natural, Gray, version_of}
use Rattle.stp_encoder.specs.Names.{last_word_of, keeps_word}
use Rattle.trace_clock.proofs.GrayCodes.{gray_lt}
use Rattle.trace_clock.proofs.LastWords as words
use Rattle.stp_encoder.specs.Packets.{stamps_since, shortest_stamp, packed_stamp}
use Rattle.stp_encoder.proofs.Least.{shortest_least}

-- the last word under a version that keeps one
word_is : (packets : List StpPacket) (version : ℕ) → version_of packets ≡ Some version → keeps_word (Some version) ≡ true → last_word_of packets ≡ last_word (stamps_since packets)
unfolding last_word_of
word_is packets version e k =
    ap (λ (o : Option ℕ). cond (keeps_word o) (last_word (stamps_since packets)) 0) e ∙ ap (λ t. cond t (last_word (stamps_since packets)) 0) k

least_of : (packets : List StpPacket) (version word : ℕ) (stamp : SizedWord) → version_of packets ≡ Some version → keeps_word (Some version) ≡ true → word < 2 ^ 64 →
    shortest_stamp (last_word_of packets) word ≡ stamp → IsLeast false (stamps_since packets) word stamp.size stamp.word
least_of packets version word stamp e k h q =
    subst (λ (s : SizedWord). IsLeast false (stamps_since packets) word s.size s.word)
    (ap (λ (z : ℕ). shortest_stamp z word) (sym (word_is packets version e k)) ∙ q) (shortest_least (stamps_since packets) word h)

pub natural_least : (packets : List StpPacket) (time : ℕ) (stamp : SizedWord) → version_of packets ≡ Some 3 → time < 2 ^ 64 → packed_stamp packets (Natural time) ≡ Some stamp →
    IsLeast false (stamps_since packets) time stamp.size stamp.word
natural_least packets time stamp e h q = least_of packets 3 time stamp e refl h cc

pub gray_least : (packets : List StpPacket) (time : ℕ) (stamp : SizedWord) → version_of packets ≡ Some 4 → time < 2 ^ 64 → packed_stamp packets (Gray time) ≡ Some stamp →
    IsLeast true (stamps_since packets) time stamp.size stamp.word
gray_least packets time stamp e h q =
    words.gray_least (stamps_since packets) time stamp.size stamp.word h (least_of packets 4 (gray_of time) stamp e refl (gray_lt time) cc)

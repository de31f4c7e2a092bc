-- The text of an item reads back as that item.
use Rattle.std.proofs.Common.{◌≡◌, ℕ, ◌<◌, ◌≤◌, ◌^◌, List, [], ◌∷◌, ◌++◌, length, length-append, refl, sym, ◌∙◌, ap}
use Rattle.std.proofs.Common.{arith, true, false, Option, Some, subst, decimal, codes, ◌==◌, nat_lt, ok_or}
use Rattle.std.specs.Char.{digit_value}
use Rattle.std.specs.Str.Parse.{AllDigits}
use Rattle.std.proofs.lemmas.Bool.Decides.{nat_tests}
use Rattle.std.proofs.lemmas.Fmt.{length-decimal-le}
use Rattle.hex.specs.Hex.{encode_lower, lower_digits}
use Rattle.hex.proofs.HexLemmas.{length-encode_with}
use Rattle.script_laws.specs.Names.{DwtItem, IsProperItem as IsProperStp, StpItem, Plan, kind_of, Event, Packet}
use Rattle.script_laws.specs.Names.{hardware_text, stp_text, Item, Itm, Dwt, Stp, Raw, taken_by, line_of, text_of}
use Rattle.script_laws.specs.Names.{IsSayable, Shape, BadId, BadLine, BadNumber, number_named, is_nothing}
use Rattle.script_laws.specs.Names.{are_printable, are_words, words_in, shape_named, item_of, line_of_words}
use Rattle.itm_grammar.specs.declared.packet.ItmPacket.TheVariants as itm
use Rattle.dwt_packets.specs.Packet.{IsProperItem}
use Rattle.source_events.specs.declared.event.What.TheVariants.{Packet as Said}
use Rattle.source_events.specs.declared.packet.Packet.TheVariants as packets
use Rattle.trace_text.specs.declared.remark.Remark.TheVariants.{None as NoRemark}
use Rattle.trace_text.proofs.LongestLines.{item as item_short, event as event_short}
use Rattle.decimal_words.proofs.Numbers.{decimal_digits, decimal_has, names_number}
use Rattle.script_text.specs.Lines.{◌>>=◌}
use Rattle.script_text.proofs.Hexadecimals.{both}
use Rattle.script_laws.proofs.Joining.{are_all, joined, decimal_word, words_joined, printable_joined, enough_room}
use Rattle.script_laws.proofs.Items.{words_of, shape_of, text_joined}
use Rattle.script_laws.proofs.AllItems.{words_all, few_words, named, item_reads}

joined_more : (word : List ℕ) (words : List (List ℕ)) → 0 < length words → joined (word ∷ words) ≡ word ++ (32 ∷ joined words)
joined_more word [] h = absurd (omega arith)
joined_more word (next ∷ words) h = refl

-- how long texts are at most
hardware_short : (item : DwtItem) → IsProperItem item → length (hardware_text item) ≤ 27
hardware_short item (d, s, v, p, e) = subst (λ (i : DwtItem). length (hardware_text i) ≤ 27) e (item_short (itm.Hardware d s v) p)

abbrev event_of : StpItem → Event Packet
event_of item = record { at = 0; half = 0; source = Some 1; what = Said (packets.Stp item) }

stp_short : (item : StpItem) → IsProperStp item → length (stp_text item) ≤ 92
stp_short item h =
    let line = event_short true (event_of item) NoRemark (record { proper = h; suits = tt; source = refl })
    (record { at = length-decimal-le 20 0 (omega arith) (omega arith) (omega arith); half = length-decimal-le 3 0 (omega arith) (omega arith) (omega arith); source = length-decimal-le 3 1 (omega arith) (omega arith) (omega arith); what = tt }) tt in
    let parts = simp length-append at line in
    omega arith

raw_short : (bytes : List ℕ) → length bytes ≤ 100 → length (text_of (Raw bytes)) ≤ 204
raw_short bytes h = let len = length-encode_with lower_digits bytes in let app = length-append (codes "raw ") (encode_lower bytes) in omega arith

text_short : (item : Item) → IsSayable item → length (text_of item) ≤ 204
text_short (Itm packet) h = let k = item_short packet h.0 in omega arith
text_short (Dwt item) h = let k = hardware_short item h in omega arith
text_short (Stp item) h = let k = stp_short item h.0 in omega arith
text_short (Raw bytes) h = raw_short bytes h.1

pub line_short : (id : ℕ) (item : Item) → id ≤ 126 → IsSayable item → length (decimal id ++ (32 ∷ text_of item)) ≤ 208
line_short id item h say =
    let few = length-decimal-le 3 id (omega arith) (omega arith) (omega arith) in
    let short = text_short item say in
    let app = length-append (decimal id) (32 ∷ text_of item) in
    omega arith

-- the text after an ID is words, joined by spaces
pub whole_text : (id : ℕ) (item : Item) → IsSayable item → decimal id ++ (32 ∷ text_of item) ≡ joined (decimal id ∷ words_of item)
whole_text id item say =
    ap (λ (l : List ℕ). decimal id ++ (32 ∷ l)) (text_joined item say) ∙ sym (joined_more (decimal id) (words_of item) (few_words item).0)

-- a line that begins with a decimal is no remark
other_than_remark : (c : ℕ) → digit_value c < 10 → (c == 35) ≡ false
other_than_remark c h = grind (arith, nat_tests)

no_remark : (word rest : List ℕ) → AllDigits 10 word → 0 < length word → is_nothing (word ++ rest) ≡ false
no_remark [] rest h l = absurd (omega arith)
no_remark (c ∷ word) rest h l = other_than_remark c h.0

-- what words after an ID say, by their shape and item
words_say : (plan : Plan) (id : List ℕ) (words : List (List ℕ)) (shape : Shape) (item : Item) →
    shape_named words ≡ Some shape → item_of shape words ≡ Some item →
    line_of_words plan (id ∷ words) ≡ (ok_or (number_named 1 126 id) BadId >>= λ n. taken_by (kind_of plan n) n item)
unfolding line_of_words
words_say plan id words shape item e f =
    ap (λ (o : Option Shape). ok_or o BadLine >>= λ shape. ok_or (number_named 1 126 id) BadId >>= λ n.
    ok_or (item_of shape words) BadNumber >>= λ item. taken_by (kind_of plan n) n item) e
    ∙ ap (λ (o : Option Item). ok_or (number_named 1 126 id) BadId >>= λ n. ok_or o BadNumber >>= λ item.
    taken_by (kind_of plan n) n item) f

-- a line of words says what these say
line_says : (plan : Plan) (line : List ℕ) → length line ≤ 256 → is_nothing line ≡ false → are_printable line ≡ true →
    are_words 0 (words_in line) ≡ true → line_of plan line ≡ line_of_words plan (words_in line)
unfolding line_of
line_says plan line few some printable words =
    let short : nat_lt 256 (length line) ≡ false = grind (arith, nat_tests) in rw (short, some, printable, words) refl

-- the line of an item, under a source's number, is that item, where the source is one for it
pub text_reads : (plan : Plan) (id : ℕ) (item : Item) → 1 ≤ id → id ≤ 126 → IsSayable item →
    line_of plan (decimal id ++ (32 ∷ text_of item)) ≡ taken_by (kind_of plan id) id item
text_reads plan id item low high say =
    let line = decimal id ++ (32 ∷ text_of item) in
    let words = decimal id ∷ words_of item in
    let small : id < 2 ^ 64 = omega arith in
    let short = line_short id item high say in
    let few = few_words item in
    let some = no_remark (decimal id) (32 ∷ text_of item) (decimal_digits id small) (decimal_has id (decimal id) small refl).0 in
    let all : are_all words ≡ true = both _ _ (decimal_word id small) (words_all item say) in
    let is = whole_text id item say in
    let said = ap words_in is ∙ words_joined (decimal id) (words_of item) all in
    line_says plan line (omega arith) some (ap are_printable is ∙ printable_joined (decimal id) (words_of item) all)
    (ap (are_words 0) said ∙ enough_room 0 words all (omega arith))
    ∙ ap (line_of_words plan) said
    ∙ words_say plan (decimal id) (words_of item) (shape_of item) item (named item) (item_reads item say)
    ∙ ap (λ (o : Option ℕ). ok_or o BadId >>= λ n. taken_by (kind_of plan n) n item)
    (names_number 1 126 id (decimal id) (omega arith) low high refl)

-- The counts of all words, and the texts that they begin.
use Rattle.std.proofs.Common.{◌≡◌, ℕ, ◌+◌, List, [], ◌∷◌, ◌++◌, sym, ◌∙◌, ap, refl, arith, Option, None, Some, Bool, true, false}
use Rattle.std.specs.Prelude.{◌==◌, ◌&&◌}
use Rattle.std.specs.Option.{is_some}
use Rattle.std.specs.List.{sum_by}
use Rattle.std.proofs.lemmas.List.Sums.{sum_by-cons}
use Rattle.dwt_packets.specs.Table.{name}
use Rattle.dwt_packets.specs.declared.item.DwtItem.{DwtItem}
use Rattle.dwt_packets.specs.declared.item.DwtItem.TheVariants.{Counters, Exception, Sample, Asleep}
use Rattle.dwt_packets.specs.declared.item.DwtItem.TheVariants.{Other}
use Rattle.itm_grammar.specs.declared.packet.ItmPacket.TheVariants.{Sync, Overflow, Software, Hardware, Local}
use Rattle.itm_grammar.specs.declared.packet.ItmPacket.TheVariants.{GlobalFirst, GlobalSecond, Extension}
use Rattle.stp_grammar.specs.declared.item.StpItem.TheVariants.{Async, Version, MasterError, GlobalError, Datum, Flag}
use Rattle.stp_grammar.specs.declared.item.StpItem.TheVariants.{Trigger as Trig, Frequency, NullStamp}
use Rattle.source_events.specs.Report.{is_item}
use Rattle.source_events.specs.Tails.{items_in}
use Rattle.source_events.specs.declared.event.What.TheVariants.{Locked, Packet as Said, Raw, Trigger}
use Rattle.source_events.specs.declared.packet.Packet.TheVariants.{Stp}
use Rattle.trace_text.specs.HardwareText.{hardware_text}
use Rattle.trace_text.specs.ItemText.{item_text}
use Rattle.trace_text.specs.LineText.{what_text}
use Rattle.trace_text.specs.StpText.{stp_text}
use Rattle.capture_actions.specs.Names.{Event, What, Packet, ItmPacket, StpItem, Itm, is_of}
use Rattle.capture_actions.specs.KindCounts.{count_at, is_at, kind_count}
use Rattle.capture_actions.specs.Words.{Begins, all_words, dwt_word, itm_word, number_of, stp_word, text_of, word_of}
use Rattle.capture_actions.specs.declared.item_word.ItemWord.{ItemWord}
use Rattle.capture_actions.specs.declared.item_word.ItemWord.TheVariants as words
use Rattle.capture_actions.proofs.Tallies.{bit, one}

-- one event more
count_cons : (x k : ℕ) (e : Event Packet) (es : List (Event Packet)) →
    count_at x k (e ∷ es) ≡ one x k e.source (word_of e.what) + count_at x k es
unfolding count_at
count_cons x k e es = sum_by-cons (λ (v : Event Packet). one x k v.source (word_of v.what)) e es

-- sums of sums
sums : (f g h : ItemWord → ℕ) → ((word : ItemWord) → f word ≡ g word + h word) → (ws : List ItemWord) →
    sum_by f ws ≡ sum_by g ws + sum_by h ws
sums f g h same [] = refl
sums f g h same (w ∷ ws) =
    let a = sum_by-cons f w ws in
    let b = sum_by-cons g w ws in
    let c = sum_by-cons h w ws in
    let d = same w in
    let e = sums f g h same ws in
    omega (arith, a, b, c, d, e)

zeros : (ws : List ItemWord) → sum_by (λ (w : ItemWord). 0) ws ≡ 0
zeros [] = refl
zeros (w ∷ ws) = sum_by-cons (λ (v : ItemWord). 0) w ws ∙ ap (λ (n : ℕ). 0 + n) (zeros ws)

has_place : (word : ItemWord) → sum_by (λ (w : ItemWord). bit (number_of word == number_of w)) all_words ≡ 1
has_place words.Sync = refl
has_place word = refl

-- an item has one of the words
once : (mine : Bool) (word : Option ItemWord) →
    sum_by (λ (w : ItemWord). bit (mine && is_at (number_of w) word)) all_words ≡ bit (mine && is_some word)
once false word = refl
once true None = refl
once true (Some word) = has_place word

none_at_all : (x : ℕ) (ws : List ItemWord) → sum_by (λ (w : ItemWord). kind_count x w []) ws ≡ 0
unfolding count_at
none_at_all x ws = zeros ws

is_word : (what : What Packet) → is_some (word_of what) ≡ is_item what
is_word (Locked skipped) = refl
is_word x = refl

pub sum_of_kinds : (x : ℕ) (es : List (Event Packet)) → sum_by (λ (w : ItemWord). kind_count x w es) all_words ≡ items_in x es
sum_of_kinds x [] = none_at_all x all_words
sum_of_kinds x (e ∷ es) =
    sums (λ w. kind_count x w (e ∷ es)) (λ w. one x (number_of w) e.source (word_of e.what)) (λ w. kind_count x w es)
    (λ w. count_cons x (number_of w) e es) all_words
    ∙ ap (λ (n : ℕ). n + sum_by (λ (w : ItemWord). kind_count x w es) all_words)
    (once (is_of (Some x) e.source) (word_of e.what)
    ∙ ap (λ (b : Bool). bit (is_of (Some x) e.source && b)) (is_word e.what))
    ∙ ap (λ (n : ℕ). bit (is_of (Some x) e.source && is_item e.what) + n) (sum_of_kinds x es)
    ∙ sym (sum_by-cons (λ (v : Event Packet). bit (is_of (Some x) v.source && is_item v.what)) e es)

-- each text begins with its word, which is all of it or has a blank after it
alone : (word : ItemWord) → Begins (text_of word ++ []) word
alone word = record { more = []; parts = refl; rest = tt {0} }

blank : (word : ItemWord) (rest : List ℕ) → Begins (text_of word ++ 32 ∷ rest) word
blank word rest = record { more = 32 ∷ rest; parts = refl; rest = refl }

begins_hardware : (item : DwtItem) → Begins (hardware_text item) (dwt_word item)
begins_hardware Asleep = alone words.Asleep
begins_hardware (Counters counters) = blank words.Counters _
begins_hardware (Exception number change) = blank words.Exception _
begins_hardware (Sample pc) = blank words.Pc _
begins_hardware (Other disc size value) = blank words.Hw _
begins_hardware item = blank words.Cmp _

begins_itm : (packet : ItmPacket) → Begins (item_text packet) (itm_word packet)
begins_itm Sync = alone words.Sync
begins_itm Overflow = alone words.Overflow
begins_itm (Software port size value) = blank words.Port _
begins_itm (Hardware disc size value) = begins_hardware (name disc size value)
begins_itm (Local lateness delta) = blank words.Local _
begins_itm (GlobalFirst len value change wrap) = blank words.Global1 _
begins_itm (GlobalSecond wide value) = blank words.Global2 _
begins_itm (Extension dwt value) = blank words.Ext _

begins_stp : (item : StpItem) → Begins (stp_text item) (stp_word item)
begins_stp Async = alone words.Async
begins_stp (Version version) = blank words.Version _
begins_stp (MasterError place code) = blank words.Merr _
begins_stp (GlobalError code) = blank words.Gerr _
begins_stp (Datum place width value marked stamp) = blank words.Data _
begins_stp (Flag place stamp) = blank words.Flag _
begins_stp (Trig code stamp) = blank words.Trig _
begins_stp (Frequency hertz stamp) = blank words.Freq _
begins_stp (NullStamp stamp) = blank words.Nullts _

-- by the word that an event has
along : (text : List ℕ) (word other : ItemWord) → Some other ≡ Some word → Begins text other → Begins text word
along text word other h b =
    let same : other ≡ word = cc in
    record { more = b.more; parts = b.parts ∙ ap (λ (w : ItemWord). text_of w ++ b.more) same; rest = b.rest }

pub begins : (what : What Packet) (word : ItemWord) → word_of what ≡ Some word → Begins (what_text what) word
begins (Locked skipped) word h = cc
begins (Said (Itm packet)) word h = along (item_text packet) word (itm_word packet) h (begins_itm packet)
begins (Said (Stp item)) word h = along (stp_text item) word (stp_word item) h (begins_stp item)
begins (Raw bytes) word h = along (what_text (Raw bytes)) word words.Raw h (blank words.Raw _)
begins (Trigger byte) word h = along (what_text (Trigger byte)) word words.Trigger h (blank words.Trigger _)

pub no_word_no_item : (what : What Packet) → word_of what ≡ None → is_item what ≡ false
no_word_no_item what h = sym (is_word what) ∙ ap (λ (o : Option ItemWord). is_some o) h

pub word_of_item : (what : What Packet) (word : ItemWord) → word_of what ≡ Some word → is_item what ≡ true
word_of_item what word h = sym (is_word what) ∙ ap (λ (o : Option ItemWord). is_some o) h

-- What packets say has its numbers in their ranges where theirs are.
use Rattle.std.proofs.Common.{◌≡◌, ℕ, suc, ◌+◌, ◌-◌, ◌*◌, ◌/◌, ◌%◌, ◌^◌, ◌<◌, List, [], ◌∷◌, length, All, Bool, true, false, not, cond, ◌==◌, refl, subst, arith}
use Rattle.std.specs.Prelude.{◌||◌, Option, None, Some, unwrap_or}
use Rattle.std.specs.Option.{ForSome, is_some, option_or}
use Rattle.std.specs.List.{filter_map, last_or, cons_option, after_last, list_any, suffix_len}
use Rattle.std.proofs.lemmas.List.Elements.{All-drop}
use Rattle.stp_grammar.specs.Names.{SizedWord, WordFits, last_word, natural_of}
use Rattle.trace_clock.proofs.LastWords.{word_lt}
use Rattle.trace_clock.proofs.GrayCodes.{natural_lt}
use Rattle.stp_grammar.specs.declared.packet.Width.{Width}
use Rattle.stp_grammar.specs.declared.packet.Width.TheVariants.{Four, Eight, Sixteen, ThirtyTwo, SixtyFour}
use Rattle.stp_grammar.specs.declared.packet.Row.{Row}
use Rattle.stp_grammar.specs.declared.packet.Row.TheVariants.{Null, Master8, MasterError, Channel8, Datum, Flag, Master16, GlobalError, Channel16, Version, NullStamp, Trigger, Frequency}
use Rattle.stp_grammar.specs.declared.packet.StpPacket.{StpPacket}
use Rattle.stp_grammar.specs.declared.packet.StpPacket.TheVariants.{Async, Plain, Stamped}
use Rattle.stp_grammar.specs.declared.item.Place.{Place}
use Rattle.stp_grammar.specs.declared.item.Stamp.{Stamp}
use Rattle.stp_grammar.specs.declared.item.Stamp.TheVariants.{None as NoStamp, Natural, Gray, Raw}
use Rattle.stp_grammar.specs.declared.item.StpItem.{StpItem}
use Rattle.stp_grammar.specs.declared.item.StpItem.TheVariants.{Async as AsyncItem, Version as VersionItem, MasterError as MasterErrorItem, GlobalError as GlobalErrorItem, Datum as DatumItem, Flag as FlagItem, Trigger as TriggerItem, Frequency as FrequencyItem, NullStamp as NullStampItem}
use Rattle.stp_grammar.specs.Opcodes.{line_of}
use Rattle.stp_grammar.specs.Proper.{IsProper, IsProperPlace, IsProperStamp, IsProperItem, bits_of}
use Rattle.stp_grammar.specs.Attribution.{master8_in, master16_in, channel8_in, channel16_in, stamp_in, last_given, begins_master, begins_channel, number_of, version_of, master_of, channel_of, keeps_word, last_word_of, place_of, stamp_by, item_with, item_of}
use Rattle.stp_grammar.proofs.Told.{number_by, stamp_of}

-- what a packet of this kind tells has 16 bits
abbrev Under : Option ℕ → Type 0
Under o = ForSome o (λ v. v < 2 ^ 16)

abbrev Tells : (StpPacket → Option ℕ) → Type 0
Tells h = (p : StpPacket) → IsProper p → Under (h p)

some_under : (v : ℕ) → v < 2 ^ 16 → Under (Some v)
some_under v h w e = subst (λ z. z < 2 ^ 16) (let k : v ≡ w = cc in k) h

none_under : Under None
none_under w e = cc

first_is : (p : StpPacket) (ps : List StpPacket) → All IsProper (p ∷ ps) → IsProper p
first_is p ps a = a 0 p (omega arith)

others_are : (p : StpPacket) (ps : List StpPacket) → All IsProper (p ∷ ps) → All IsProper ps
others_are p ps a = λ k d l. a (suc k) d (omega arith)

-- and so the last of them
either_under : (x o : Option ℕ) (more : List ℕ) → Under x → ((y : Option ℕ) → Under y → Under (last_or y more)) → Under o → Under (last_or o (cons_option x more))
either_under None o more f g h = g o h
either_under (Some v) o more f g h = g (Some v) f

last_under : (h : StpPacket → Option ℕ) → Tells h → (o : Option ℕ) (ps : List StpPacket) → All IsProper ps → Under o → Under (last_or o (filter_map h ps))
last_under h t o [] a f = f
last_under h t o (p ∷ ps) a f = either_under (h p) o (filter_map h ps) (t p (first_is p ps a)) (λ y g. last_under h t y ps (others_are p ps a) g) f

given_under : (h : StpPacket → Option ℕ) → Tells h → (ps : List StpPacket) → All IsProper ps → Under (last_given h ps)
given_under h t ps a = last_under h t None ps a none_under

-- a number by its halves
by_under : (known : Bool) (whole low : Option ℕ) → Under whole → Under (number_by known whole low)
by_under known whole low h = by (known || is_some whole) (unwrap_or whole 0) (unwrap_or low 0) (unwrapped whole h) where
  unwrapped : (o : Option ℕ) → Under o → unwrap_or o 0 < 2 ^ 16
  unwrapped None h = omega arith
  unwrapped (Some v) h = h v refl

  by : (t : Bool) (w l : ℕ) → w < 2 ^ 16 → Under (cond t (Some (w / 256 * 256 + l % 256)) None)
  by true w l h = some_under (w / 256 * 256 + l % 256) (omega (arith, h))
  by false w l h = none_under

number_under : (begins : StpPacket → Bool) (whole low : StpPacket → Option ℕ) → Tells whole → (ps : List StpPacket) → All IsProper ps → Under (number_of begins whole low ps)
number_under begins whole low t ps a =
    by_under (list_any begins ps) (last_given whole (after_last begins ps)) (last_given (λ p. option_or (whole p) (low p)) (after_last begins ps))
    (given_under whole t (after_last begins ps) (All-drop IsProper (length ps - suffix_len (λ x. not (begins x)) ps) ps a))

master_tells : Tells master16_in
master_tells Async h = none_under
master_tells (Plain Master16 v) h = some_under v (omega (arith, h))
master_tells (Plain row v) h = none_under
master_tells (Stamped row v size word) h = none_under

channel_tells : Tells channel16_in
channel_tells Async h = none_under
channel_tells (Plain Channel16 v) h = some_under v (omega (arith, h))
channel_tells (Plain row v) h = none_under
channel_tells (Stamped row v size word) h = none_under

place_proper : (ps : List StpPacket) → All IsProper ps → IsProperPlace (place_of ps)
unfolding master_of channel_of
place_proper ps a = (number_under begins_master master16_in master8_in master_tells ps a, number_under begins_channel channel16_in channel8_in channel_tells ps a)

-- a timestamp
pub last_lt : (ps : List StpPacket) → last_word_of ps < 2 ^ 64
unfolding last_word_of
last_lt ps = by (keeps_word (version_of ps)) (filter_map stamp_in (after_last begins_master ps)) where
  by : (t : Bool) (stamps : List SizedWord) → cond t (last_word stamps) 0 < 2 ^ 64
  by true stamps = word_lt stamps
  by false stamps = omega arith

stamp_proper : (version : Option ℕ) (last size word : ℕ) → last < 2 ^ 64 → WordFits size word → IsProperStamp (stamp_by version last size word)
stamp_proper None last size word h f = f
stamp_proper (Some v) last size word h f = by (v == 3) (v == 4) where
  by : (three four : Bool) → IsProperStamp (cond three (Natural last) (cond four (Gray (natural_of last)) (Raw size word)))
  by true four = h
  by false true = natural_lt last
  by false false = f

-- an item, by its row
abbrev Fits : Option StpItem → Type 0
Fits o = ForSome o (λ item. IsProperItem item)

some_fits : (item : StpItem) → IsProperItem item → Fits (Some item)
some_fits item h other e = subst IsProperItem (let k : item ≡ other = cc in k) h

none_fits : Fits None
none_fits other e = cc

datum_fits : (place : Place) (stamp : Stamp) (width : Width) (marked stamped : Bool) (v : ℕ) → IsProperPlace place → IsProperStamp stamp → v < 16 ^ (line_of (Datum width marked stamped)).payload →
    Fits (item_with place stamp (Datum width marked stamped) v)
datum_fits place stamp width marked stamped v p s h = some_fits (DatumItem place width v marked stamp) (p, value width marked stamped h, s) where
  value : (width : Width) (marked stamped : Bool) → v < 16 ^ (line_of (Datum width marked stamped)).payload → v < 2 ^ bits_of width
  value Four true true h = h
  value Four true false h = h
  value Four false true h = h
  value Four false false h = h
  value Eight true true h = h
  value Eight true false h = h
  value Eight false true h = h
  value Eight false false h = h
  value Sixteen true true h = h
  value Sixteen true false h = h
  value Sixteen false true h = h
  value Sixteen false false h = h
  value ThirtyTwo true true h = h
  value ThirtyTwo true false h = h
  value ThirtyTwo false true h = h
  value ThirtyTwo false false h = h
  value SixtyFour true true h = h
  value SixtyFour true false h = h
  value SixtyFour false true h = h
  value SixtyFour false false h = h

pub row_fits : (place : Place) (stamp : Stamp) (row : Row) (v : ℕ) → IsProperPlace place → IsProperStamp stamp → v < 16 ^ (line_of row).payload → Fits (item_with place stamp row v)
row_fits place stamp Null v p s h = none_fits
row_fits place stamp Master8 v p s h = none_fits
row_fits place stamp MasterError v p s h = some_fits (MasterErrorItem place v) (p, h)
row_fits place stamp Channel8 v p s h = none_fits
row_fits place stamp (Datum width marked stamped) v p s h = datum_fits place stamp width marked stamped v p s h
row_fits place stamp (Flag stamped) v p s h = some_fits (FlagItem place stamp) (p, s)
row_fits place stamp Master16 v p s h = none_fits
row_fits place stamp GlobalError v p s h = some_fits (GlobalErrorItem v) h
row_fits place stamp Channel16 v p s h = none_fits
row_fits place stamp Version v p s h = some_fits (VersionItem v) h
row_fits place stamp NullStamp v p s h = some_fits (NullStampItem stamp) s
row_fits place stamp (Trigger true) v p s h = some_fits (TriggerItem v stamp) (h, s)
row_fits place stamp (Trigger false) v p s h = some_fits (TriggerItem v stamp) (h, s)
row_fits place stamp (Frequency true) v p s h = some_fits (FrequencyItem v stamp) (h, s)
row_fits place stamp (Frequency false) v p s h = some_fits (FrequencyItem v stamp) (h, s)

pub item_fits : (ps : List StpPacket) (p : StpPacket) → All IsProper ps → IsProper p → Fits (item_of ps p)
item_fits ps Async a h = some_fits AsyncItem tt
item_fits ps (Plain row v) a h = row_fits (place_of ps) NoStamp row v (place_proper ps a) tt h
item_fits ps (Stamped row v size word) a h = row_fits (place_of ps) (stamp_of ps size word) row v (place_proper ps a) (stamp_proper (version_of ps) (last_word_of ps) size word (last_lt ps) h.1) h.0

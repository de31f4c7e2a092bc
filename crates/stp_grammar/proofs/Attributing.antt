-- One more packet since the others.
use Rattle.std.proofs.Common.{◌≡◌, ℕ, ◌+◌, ◌*◌, ◌/◌, ◌%◌, ◌<◌, List, [], ◌∷◌, ◌++◌, refl, sym, ◌∙◌, ap, arith, subst, Bool, true, false, cond}
use Rattle.std.specs.Prelude.{◌||◌, Option, None, Some, unwrap_or, option_map}
use Rattle.std.specs.Option.{is_some, option_or}
use Rattle.std.specs.List.{list_any, after_last, filter_map, cons_option}
use Rattle.std.proofs.lemmas.List.{append-nil}
use Rattle.std.proofs.lemmas.List.Folds.{list_any-append}
use Rattle.std.proofs.lemmas.List.Elements.{filter_map-append}
use Rattle.stp_grammar.specs.Names.{SizedWord, WordFits, last_word}
use Rattle.trace_clock.proofs.LastStamps.{given, not_given, after_itself, after_same}
use Rattle.trace_clock.proofs.LastWords.{word_more, word_none}
use Rattle.stp_grammar.specs.declared.packet.Row.TheVariants.{Master8, Channel8}
use Rattle.stp_grammar.specs.declared.packet.StpPacket.{StpPacket}
use Rattle.stp_grammar.specs.declared.packet.StpPacket.TheVariants.{Async, Plain, Stamped}
use Rattle.stp_grammar.specs.declared.attribution.Attribution.{Attribution}
use Rattle.stp_grammar.specs.Attributed.{Stands, kept_place}
use Rattle.stp_grammar.specs.Proper.{IsProper}
use Rattle.stp_grammar.specs.Attribution.{version_in, master8_in, master16_in, channel8_in, channel16_in, last_given, begins_master, begins_channel, number_of, version_of, master_of, channel_of, stamp_in, keeps_word, last_word_of, place_of, stamp_by}
use Rattle.stp_grammar.proofs.Told.{number_by, stamp_of}
use Rattle.stp_grammar.specs.NextState.{next_number, next_version, next_master, next_channel, word_with_stamp, next_last, Keeps}

any_found : (test : StpPacket → Bool) (ps : List StpPacket) (p : StpPacket) → test p ≡ true → list_any test (ps ++ p ∷ []) ≡ true
any_found test ps p e = list_any-append test ps (p ∷ []) ∙ ap (λ t. list_any test ps || (t || false)) e ∙ by (list_any test ps) where
  by : (t : Bool) → (t || true) ≡ true
  by true = refl
  by false = refl

any_kept : (test : StpPacket → Bool) (ps : List StpPacket) (p : StpPacket) → test p ≡ false → list_any test (ps ++ p ∷ []) ≡ list_any test ps
any_kept test ps p e = list_any-append test ps (p ∷ []) ∙ ap (λ t. list_any test ps || (t || false)) e ∙ by (list_any test ps) where
  by : (t : Bool) → (t || false) ≡ t
  by true = refl
  by false = refl

-- a value below 256 is the low part
abbrev pub IsLow : Option ℕ → Type 0
IsLow None = Unit {0}
IsLow (Some v) = v < 256

whole_by : (known : Bool) (v : ℕ) → number_by known (Some v) (Some v) ≡ Some v
whole_by true v = ap Some (omega arith)
whole_by false v = ap Some (omega arith)

low_by : (known : Bool) (high low : Option ℕ) (v : ℕ) → v < 256 → number_by known high (Some v) ≡ option_map (λ n. n / 256 * 256 + v) (number_by known high low)
low_by known high low v h = by (known || is_some high) where
  by : (t : Bool) → cond t (Some (unwrap_or high 0 / 256 * 256 + v % 256)) None ≡ option_map (λ n. n / 256 * 256 + v) (cond t (Some (unwrap_or high 0 / 256 * 256 + unwrap_or low 0 % 256)) None)
  by true = ap Some (omega arith)
  by false = refl

module _ (anew : StpPacket → Bool) (whole low : StpPacket → Option ℕ) (ps : List StpPacket) (p : StpPacket) where
  abbrev either : StpPacket → Option ℕ
  either q = option_or (whole q) (low q)

  abbrev since : List StpPacket
  since = after_last anew ps

  number_anew : anew p ≡ true → number_of anew whole low (ps ++ p ∷ []) ≡ Some 0
  number_anew e =
      ap (λ t. number_by t (last_given whole (after_last anew (ps ++ p ∷ []))) (last_given either (after_last anew (ps ++ p ∷ [])))) (any_found anew ps p e)
      ∙ ap (λ l. number_by true (last_given whole l) (last_given either l)) (after_itself anew ps p e)

  number_same : anew p ≡ false → number_of anew whole low (ps ++ p ∷ []) ≡ number_by (list_any anew ps) (last_given whole (since ++ p ∷ [])) (last_given either (since ++ p ∷ []))
  number_same e =
      ap (λ t. number_by t (last_given whole (after_last anew (ps ++ p ∷ []))) (last_given either (after_last anew (ps ++ p ∷ [])))) (any_kept anew ps p e)
      ∙ ap (λ l. number_by (list_any anew ps) (last_given whole l) (last_given either l)) (after_same anew ps p e)

  by_parts : (w l : Option ℕ) → whole p ≡ w → low p ≡ l → IsLow l →
      number_by (list_any anew ps) (last_given whole (since ++ p ∷ [])) (last_given either (since ++ p ∷ [])) ≡ next_number (number_of anew whole low ps) w l
  by_parts (Some v) l e f h =
      ap (λ o. number_by (list_any anew ps) o (last_given either (since ++ p ∷ []))) (given whole since p v e)
      ∙ ap (λ o. number_by (list_any anew ps) (Some v) o) (given either since p v (ap (λ o. option_or o (low p)) e))
      ∙ whole_by (list_any anew ps) v
  by_parts None (Some v) e f h =
      ap (λ o. number_by (list_any anew ps) o (last_given either (since ++ p ∷ []))) (not_given whole since p e)
      ∙ ap (λ o. number_by (list_any anew ps) (last_given whole since) o) (given either since p v (ap (λ o. option_or o (low p)) e ∙ f))
      ∙ low_by (list_any anew ps) (last_given whole since) (last_given either since) v h
  by_parts None None e f h =
      ap (λ o. number_by (list_any anew ps) o (last_given either (since ++ p ∷ []))) (not_given whole since p e)
      ∙ ap (λ o. number_by (list_any anew ps) (last_given whole since) o) (not_given either since p (ap (λ o. option_or o (low p)) e ∙ f))

  pub number_more : IsLow (low p) → number_of anew whole low (ps ++ p ∷ []) ≡ cond (anew p) (Some 0) (next_number (number_of anew whole low ps) (whole p) (low p))
  number_more h = by (anew p) refl where
    by : (t : Bool) → anew p ≡ t → number_of anew whole low (ps ++ p ∷ []) ≡ cond t (Some 0) (next_number (number_of anew whole low ps) (whole p) (low p))
    by true e = number_anew e
    by false e = number_same e ∙ by_parts (whole p) (low p) refl refl h

pub version_more : (ps : List StpPacket) (p : StpPacket) → version_of (ps ++ p ∷ []) ≡ next_version (version_of ps) p
unfolding version_of
version_more ps p = by (version_in p) refl where
  by : (o : Option ℕ) → version_in p ≡ o → last_given version_in (ps ++ p ∷ []) ≡ option_or o (last_given version_in ps)
  by (Some v) e = given version_in ps p v e
  by None e = not_given version_in ps p e

-- what packets spell fits
low_master : (p : StpPacket) → IsProper p → IsLow (master8_in p)
low_master Async h = tt
low_master (Plain Master8 v) h = omega arith
low_master (Plain row v) h = tt
low_master (Stamped row v size word) h = tt

low_channel : (p : StpPacket) → IsProper p → IsLow (channel8_in p)
low_channel Async h = tt
low_channel (Plain Channel8 v) h = omega arith
low_channel (Plain row v) h = tt
low_channel (Stamped row v size word) h = tt

abbrev pub IsFit : Option SizedWord → Type 0
IsFit None = Unit {0}
IsFit (Some s) = WordFits s.size s.word

fits : (p : StpPacket) → IsProper p → IsFit (stamp_in p)
fits Async h = tt
fits (Plain row v) h = tt
fits (Stamped row v size word) h = h.1

pub master_more : (ps : List StpPacket) (p : StpPacket) → IsProper p → master_of (ps ++ p ∷ []) ≡ next_master (master_of ps) p
unfolding master_of
master_more ps p h = number_more begins_master master16_in master8_in ps p (low_master p h)

pub channel_more : (ps : List StpPacket) (p : StpPacket) → IsProper p → channel_of (ps ++ p ∷ []) ≡ next_channel (channel_of ps) p
unfolding channel_of
channel_more ps p h = number_more begins_channel channel16_in channel8_in ps p (low_channel p h)

-- the last word
pub last_more : (ps : List StpPacket) (p : StpPacket) → IsProper p → last_word_of (ps ++ p ∷ []) ≡ next_last (version_of ps) (last_word_of ps) p
unfolding last_word_of
last_more ps p h = by (version_in p) refl where
  none_kept : (t : Bool) → cond t (last_word []) 0 ≡ 0
  none_kept true = word_none
  none_kept false = refl

  stamps_of : (o : Option SizedWord) → stamp_in p ≡ o → IsFit o → (t : Bool) →
      cond t (last_word (filter_map stamp_in (after_last begins_master ps ++ p ∷ []))) 0 ≡ word_with_stamp t (cond t (last_word (filter_map stamp_in (after_last begins_master ps))) 0) o
  stamps_of o e f false = by_none o where
    by_none : (o : Option SizedWord) → 0 ≡ word_with_stamp false 0 o
    by_none None = refl
    by_none (Some s) = refl
  stamps_of None e f true =
      ap last_word (filter_map-append stamp_in (after_last begins_master ps) (p ∷ [])
      ∙ ap (λ o. filter_map stamp_in (after_last begins_master ps) ++ cons_option o []) e ∙ append-nil (filter_map stamp_in (after_last begins_master ps)))
  stamps_of (Some s) e f true =
      ap last_word (filter_map-append stamp_in (after_last begins_master ps) (p ∷ []) ∙ ap (λ o. filter_map stamp_in (after_last begins_master ps) ++ cons_option o []) e)
      ∙ word_more (filter_map stamp_in (after_last begins_master ps)) s f

  by : (o : Option ℕ) → version_in p ≡ o → cond (keeps_word (version_of (ps ++ p ∷ []))) (last_word (filter_map stamp_in (after_last begins_master (ps ++ p ∷ [])))) 0
      ≡ cond (is_some o) 0 (word_with_stamp (keeps_word (version_of ps)) (cond (keeps_word (version_of ps)) (last_word (filter_map stamp_in (after_last begins_master ps))) 0) (stamp_in p))
  by (Some v) e =
      ap (λ l. cond (keeps_word (version_of (ps ++ p ∷ []))) (last_word (filter_map stamp_in l)) 0) (after_itself begins_master ps p (ap is_some e))
      ∙ none_kept (keeps_word (version_of (ps ++ p ∷ [])))
  by None e =
      ap (λ o. cond (keeps_word o) (last_word (filter_map stamp_in (after_last begins_master (ps ++ p ∷ [])))) 0) (version_more ps p ∙ ap (λ o. option_or o (version_of ps)) e)
      ∙ ap (λ l. cond (keeps_word (version_of ps)) (last_word (filter_map stamp_in l)) 0) (after_same begins_master ps p (ap is_some e))
      ∙ stamps_of (stamp_in p) refl (fits p h) (keeps_word (version_of ps))

-- before the first packet
pub none_known : (version_of [] ≡ None) × (master_of [] ≡ None) × (channel_of [] ≡ None)
unfolding version_of master_of channel_of
none_known = (refl, refl, refl)

pub no_word : last_word_of [] ≡ 0
unfolding version_of last_word_of
no_word = refl

pub stands_none : (kept : Attribution) → kept.version ≡ None → kept.master ≡ None → kept.channel ≡ None → kept.last ≡ 0 → Stands kept []
stands_none kept e f g h = record { version = e ∙ sym none_known.0; master = f ∙ sym none_known.1; channel = g ∙ sym none_known.2; last = h ∙ sym no_word }

-- after a packet, what is kept is what it makes of it
pub stands_with : (old new : Attribution) (ps : List StpPacket) (p : StpPacket) → IsProper p → Stands old ps → Keeps old new p → Stands new (ps ++ p ∷ [])
stands_with old new ps p h s k = record {
  version = k.version ∙ ap (λ o. next_version o p) s.version ∙ sym (version_more ps p);
  master = k.master ∙ ap (λ o. next_master o p) s.master ∙ sym (master_more ps p h);
  channel = k.channel ∙ ap (λ o. next_channel o p) s.channel ∙ sym (channel_more ps p h);
  last = k.last ∙ ap (λ o. next_last o old.last p) s.version ∙ ap (λ n. next_last (version_of ps) n p) s.last ∙ sym (last_more ps p h);
}

-- and after one that is this one
pub stands_as : (old new : Attribution) (ps : List StpPacket) (q p : StpPacket) → q ≡ p → IsProper q → Stands old ps → Keeps old new p → Stands new (ps ++ q ∷ [])
stands_as old new ps q p e h s k = subst (λ z. Stands new (ps ++ z ∷ [])) (sym e) (stands_with old new ps p (subst IsProper e h) s k)

-- the place and the timestamp that it tells
pub place_is : (kept : Attribution) (ps : List StpPacket) → Stands kept ps → kept_place kept ≡ place_of ps
place_is kept ps s =
    ap (λ z. record { master = z; channel = kept.channel }) s.master ∙ ap (λ z. record { master = master_of ps; channel = z }) s.channel

pub stamp_is : (kept : Attribution) (ps : List StpPacket) (size word : ℕ) → Stands kept ps → stamp_by kept.version kept.last size word ≡ stamp_of ps size word
stamp_is kept ps size word s = ap (λ z. stamp_by z kept.last size word) s.version ∙ ap (λ z. stamp_by (version_of ps) z size word) s.last

-- From a VERSION on the items of packets are the same, whatever came before it.
use Rattle.std.proofs.Common.{◌≡◌, ℕ, List, [], ◌∷◌, ◌++◌, refl, sym, ◌∙◌, ap, subst, ◌⊎◌, inl, inr, Bool, true, false, cond}
use Rattle.std.specs.Prelude.{◌||◌, Option, None}
use Rattle.std.specs.Option.{option_or}
use Rattle.std.specs.List.{list_any, after_last, filter_map}
use Rattle.std.proofs.lemmas.List.{map-append}
use Rattle.std.proofs.lemmas.List.Folds.{list_any-append}
use Rattle.resync_grammars.specs.Names.{Place, Kept, kept, kept_if, decorate, carried, last_word, Version, StpPacket}
use Rattle.resync_grammars.specs.Names.{Async, Plain, Stamped, None as NoStamp}
use Rattle.trace_values.proofs.Decorating.{decorate_append}
use Rattle.trace_clock.proofs.LastStamps.{after_itself, after_same}
use Rattle.stp_grammar.specs.NextState.{next_version}
use Rattle.stp_grammar.specs.Attribution.{version_in, master8_in, master16_in, channel8_in, channel16_in, stamp_in, last_given, begins_master, begins_channel, number_of, version_of, master_of, channel_of, keeps_word, last_word_of, place_of, stamp_by, item_with, item_of, attribute}
use Rattle.stp_grammar.proofs.Told.{number_by, stamp_of}
use Rattle.stp_grammar.proofs.Attributing.{version_more}
use Rattle.resync_grammars.specs.Stp.{items_after, BeginsWithVersion, SplitAtVersion}

-- what items see of the packets up to them
pub record Alike (ps qs : List StpPacket) : Type 0 where
  pub version : version_of ps ≡ version_of qs
  pub masters : list_any begins_master ps ≡ list_any begins_master qs
  pub since_master : after_last begins_master ps ≡ after_last begins_master qs
  pub channels : list_any begins_channel ps ≡ list_any begins_channel qs
  pub since_channel : after_last begins_channel ps ≡ after_last begins_channel qs

-- the same of one more packet
module _ (test : StpPacket → Bool) (ps qs : List StpPacket) (p : StpPacket) where
  any_push : list_any test ps ≡ list_any test qs → list_any test (ps ++ p ∷ []) ≡ list_any test (qs ++ p ∷ [])
  any_push e = list_any-append test ps (p ∷ []) ∙ ap (λ (t : Bool). t || list_any test (p ∷ [])) e ∙ sym (list_any-append test qs (p ∷ []))

  any_told : test p ≡ true → list_any test (ps ++ p ∷ []) ≡ list_any test (qs ++ p ∷ [])
  any_told e = told ps ∙ sym (told qs) where
    or : (t : Bool) → (t || true) ≡ true
    or true = refl
    or false = refl

    told : (l : List StpPacket) → list_any test (l ++ p ∷ []) ≡ true
    told l = list_any-append test l (p ∷ []) ∙ ap (λ (t : Bool). list_any test l || (t || false)) e ∙ or (list_any test l)

  after_told : test p ≡ true → after_last test (ps ++ p ∷ []) ≡ after_last test (qs ++ p ∷ [])
  after_told e = after_itself test ps p e ∙ sym (after_itself test qs p e)

  after_push : after_last test ps ≡ after_last test qs → after_last test (ps ++ p ∷ []) ≡ after_last test (qs ++ p ∷ [])
  after_push e = by (test p) refl where
    by : (t : Bool) → test p ≡ t → after_last test (ps ++ p ∷ []) ≡ after_last test (qs ++ p ∷ [])
    by true k = after_told k
    by false k = after_same test ps p k ∙ ap (λ (l : List StpPacket). l ++ p ∷ []) e ∙ sym (after_same test qs p k)

pub alike_push : (ps qs : List StpPacket) (p : StpPacket) → Alike ps qs → Alike (ps ++ p ∷ []) (qs ++ p ∷ [])
alike_push ps qs p a = record {
  version = version_more ps p ∙ ap (λ o. next_version o p) a.version ∙ sym (version_more qs p);
  masters = any_push begins_master ps qs p a.masters;
  since_master = after_push begins_master ps qs p a.since_master;
  channels = any_push begins_channel ps qs p a.channels;
  since_channel = after_push begins_channel ps qs p a.since_channel;
}

-- a VERSION begins all of it anew
pub alike_anew : (ps qs : List StpPacket) (v : ℕ) → Alike (ps ++ Plain Version v ∷ []) (qs ++ Plain Version v ∷ [])
alike_anew ps qs v = record {
  version = version_more ps (Plain Version v) ∙ sym (version_more qs (Plain Version v));
  masters = any_told begins_master ps qs (Plain Version v) refl;
  since_master = after_told begins_master ps qs (Plain Version v) refl;
  channels = any_told begins_channel ps qs (Plain Version v) refl;
  since_channel = after_told begins_channel ps qs (Plain Version v) refl;
}

-- so are the place, the last word and the item
number_alike : (begins : StpPacket → Bool) (whole low : StpPacket → Option ℕ) (ps qs : List StpPacket) → list_any begins ps ≡ list_any begins qs → after_last begins ps ≡ after_last begins qs →
    number_of begins whole low ps ≡ number_of begins whole low qs
number_alike begins whole low ps qs e f =
    ap (λ t. number_by t (last_given whole (after_last begins ps)) (last_given (λ p. option_or (whole p) (low p)) (after_last begins ps))) e
    ∙ ap (λ l. number_by (list_any begins qs) (last_given whole l) (last_given (λ p. option_or (whole p) (low p)) l)) f

master_alike : (ps qs : List StpPacket) → Alike ps qs → master_of ps ≡ master_of qs
unfolding master_of
master_alike ps qs a = number_alike begins_master master16_in master8_in ps qs a.masters a.since_master

channel_alike : (ps qs : List StpPacket) → Alike ps qs → channel_of ps ≡ channel_of qs
unfolding channel_of
channel_alike ps qs a = number_alike begins_channel channel16_in channel8_in ps qs a.channels a.since_channel

word_alike : (ps qs : List StpPacket) → Alike ps qs → last_word_of ps ≡ last_word_of qs
unfolding last_word_of
word_alike ps qs a =
    ap (λ o. cond (keeps_word o) (last_word (filter_map stamp_in (after_last begins_master ps))) 0) a.version
    ∙ ap (λ l. cond (keeps_word (version_of qs)) (last_word (filter_map stamp_in l)) 0) a.since_master

place_alike : (ps qs : List StpPacket) → Alike ps qs → place_of ps ≡ place_of qs
place_alike ps qs a =
    ap (λ m. record { master = m; channel = channel_of ps }) (master_alike ps qs a) ∙ ap (λ c. record { master = master_of qs; channel = c }) (channel_alike ps qs a)

pub item_alike : (ps qs : List StpPacket) (p : StpPacket) → Alike ps qs → item_of ps p ≡ item_of qs p
item_alike ps qs Async a = refl
item_alike ps qs (Plain row v) a = ap (λ o. item_with o NoStamp row v) (place_alike ps qs a)
item_alike ps qs (Stamped row v size word) a =
    ap (λ o. item_with o (stamp_of ps size word) row v) (place_alike ps qs a)
    ∙ ap (λ o. item_with (place_of qs) (stamp_by o (last_word_of ps) size word) row v) a.version
    ∙ ap (λ n. item_with (place_of qs) (stamp_by (version_of qs) n size word) row v) (word_alike ps qs a)

-- and all items after it
same_after : (packets : List (StpPacket × Place)) (ps qs : List StpPacket) → Alike ps qs → items_after ps packets ≡ items_after qs packets
same_after [] ps qs a = refl
same_after ((p, place) ∷ packets) ps qs a =
    let b = alike_push ps qs p a in
    ap (λ o. kept_if o place (items_after (ps ++ p ∷ []) packets)) (item_alike (ps ++ p ∷ []) (qs ++ p ∷ []) p b)
    ∙ ap (λ l. kept_if (item_of (qs ++ p ∷ []) p) place l) (same_after packets (ps ++ p ∷ []) (qs ++ p ∷ []) b)

pub same_from : (packets : List (StpPacket × Place)) (ps qs : List StpPacket) → BeginsWithVersion packets → items_after ps packets ≡ items_after qs packets
same_from [] ps qs h = refl
same_from ((p, place) ∷ packets) ps qs (v, e) = subst (λ (x : StpPacket). items_after ps ((x, place) ∷ packets) ≡ items_after qs ((x, place) ∷ packets)) (sym e) here where
  here : items_after ps ((Plain Version v, place) ∷ packets) ≡ items_after qs ((Plain Version v, place) ∷ packets)
  here =
      let b = alike_anew ps qs v in
      ap (λ l. kept_if (item_of (ps ++ Plain Version v ∷ []) (Plain Version v)) place l) (same_after packets (ps ++ Plain Version v ∷ []) (qs ++ Plain Version v ∷ []) b)

pub version_cases : (p : StpPacket) → (version_in p ≡ None) ⊎ ((v : ℕ) × (p ≡ Plain Version v))
version_cases (Plain Version v) = inr (v, refl)
version_cases Async = inl refl
version_cases (Plain row v) = inl refl
version_cases (Stamped row v size word) = inl refl

pub split : (packets : List (StpPacket × Place)) → SplitAtVersion packets
split [] = record { until = []; from = []; parts = refl; no_version = tt; version = tt }
split ((p, place) ∷ packets) = elim (version_cases p) [
  | inl m ↦
      let s = split packets in
      record {
        until = (p, place) ∷ s.until;
        from = s.from;
        parts = ap (λ l. (p, place) ∷ l) s.parts;
        no_version = (m, s.no_version);
        version = s.version;
      }
  | inr m ↦ record { until = []; from = (p, place) ∷ packets; parts = refl; no_version = tt; version = m }
]

-- the items of packets that follow one another
pub kept_append : {V : Type 0} (xs ys : List (V × Place)) → kept (xs ++ ys) ≡ kept xs ++ kept ys
kept_append {V} xs ys = map-append (λ (x : V × Place). (Kept x.0, x.1)) xs ys

-- packets up to a VERSION and then from it on
pub parted : (before : List StpPacket) (place : Place) (until from : List (StpPacket × Place)) → BeginsWithVersion from →
    items_after before ((Async, place) ∷ (until ++ from)) ≡ items_after before ((Async, place) ∷ until) ++ items_after [] from
parted before place until from v =
    ap (decorate attribute before) (kept_append ((Async, place) ∷ until) from)
    ∙ decorate_append attribute (kept ((Async, place) ∷ until)) (kept from) before
    ∙ ap (λ l. items_after before ((Async, place) ∷ until) ++ l) (same_from from (carried attribute before (kept ((Async, place) ∷ until))) [] v)

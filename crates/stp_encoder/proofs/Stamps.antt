-- An item's own packet gives the item back, with its place and its timestamp.
use Rattle.std.proofs.Common.{◌≡◌, ℕ, ◌^◌, ◌<◌, ◌==◌, List, [], ◌∷◌, ◌++◌, refl, sym, ◌∙◌, ap, subst, Bool, true, false, cond, not, ◌||◌, Option, None, Some}
use Rattle.std.proofs.lemmas.Bool.{eqb-true}
use Rattle.stp_grammar.proofs.Items.{last_lt}
use Rattle.stp_encoder.specs.Names.{natural_of, gray_of, SizedWord, WordFits, sized, next_word, Row}
use Rattle.stp_encoder.specs.Names.{StpPacket, Plain, Stamped, Place, Stamp, None as NoStamp, Natural, Gray, Raw}
use Rattle.stp_encoder.specs.Names.{StpItem, line_of, IsProper, IsProperStamp, next_master, next_channel, version_of}
use Rattle.stp_grammar.proofs.Told.{stamp_of}
use Rattle.stp_encoder.specs.Names.{last_word_of, place_of, stamp_by, keeps_word, item_with, item_of}
use Rattle.trace_clock.proofs.GrayCodes.{to_and_fro, gray_lt}
use Rattle.stp_grammar.proofs.Attributing.{version_more, last_more}
use Rattle.stp_encoder.specs.Fitting.{is_version, is_of_version}
use Rattle.stp_encoder.specs.Packets.{shortest_stamp, packed_stamp, with_stamp}
use Rattle.stp_encoder.proofs.Least.{shortest_makes}
use Rattle.stp_encoder.proofs.Places.{place_kept}

version_is : (n : ℕ) (o : Option ℕ) → is_version n o ≡ true → o ≡ Some n
version_is n None e = cc
version_is n (Some v) e = ap Some (eqb-true v n e)

-- the size and the word that a stamp is packed in fit, and tell the stamp
pub packed_fits : (before : List StpPacket) (stamp : Stamp) (s : SizedWord) → IsProperStamp stamp → packed_stamp before stamp ≡ Some s → WordFits s.size s.word
packed_fits before NoStamp s h e = cc
packed_fits before (Natural time) s h e = let q : shortest_stamp (last_word_of before) time ≡ s = cc in subst (λ (z : SizedWord). WordFits z.size z.word) q (shortest_makes (last_word_of before) time (last_lt before) h).0
packed_fits before (Gray time) s h e = let q : shortest_stamp (last_word_of before) (gray_of time) ≡ s = cc in subst (λ (z : SizedWord). WordFits z.size z.word) q (shortest_makes (last_word_of before) (gray_of time) (last_lt before) (gray_lt time)).0
packed_fits before (Raw size word) s h e = let q : sized size word ≡ s = cc in subst (λ (z : SizedWord). WordFits z.size z.word) q h

raw_stays : (o : Option ℕ) (last size word : ℕ) → not (keeps_word o) ≡ true → stamp_by o last size word ≡ Raw size word
raw_stays None last size word e = refl
raw_stays (Some v) last size word e = by (v == 3) (v == 4) e where
  by : (s t : Bool) → not (s || t) ≡ true → cond s (Natural last) (cond t (Gray (natural_of last)) (Raw size word)) ≡ Raw size word
  by true t f = cc
  by false true f = cc
  by false false f = refl

module _ (before : List StpPacket) (row : Row) (payload : ℕ) where
  abbrev packet : SizedWord → StpPacket
  packet s = Stamped row payload s.size s.word

  -- where the version keeps a word, the timestamp makes it
  timed : (version word : ℕ) (s : SizedWord) → IsProper (packet s) → version_of before ≡ Some version → keeps_word (Some version) ≡ true → next_word (last_word_of before) s ≡ word →
      stamp_of (before ++ packet s ∷ []) s.size s.word ≡ stamp_by (Some version) word s.size s.word
  timed version word s h e k m =
      let v : version_of (before ++ packet s ∷ []) ≡ Some version = version_more before (packet s) ∙ e in
      let w : last_word_of (before ++ packet s ∷ []) ≡ word =
      last_more before (packet s) h ∙ ap (λ (o : Option ℕ). cond (keeps_word o) (next_word (last_word_of before) s) (last_word_of before)) e
      ∙ ap (λ (t : Bool). cond t (next_word (last_word_of before) s) (last_word_of before)) k ∙ m in
      ap (λ (o : Option ℕ). stamp_by o (last_word_of (before ++ packet s ∷ [])) s.size s.word) v
      ∙ ap (λ (z : ℕ). stamp_by (Some version) z s.size s.word) w

  stamp_back : (stamp : Stamp) (s : SizedWord) → payload < 16 ^ (line_of row).payload → IsProperStamp stamp → is_of_version (version_of before) stamp ≡ true → packed_stamp before stamp ≡ Some s →
      stamp_of (before ++ packet s ∷ []) s.size s.word ≡ stamp
  stamp_back NoStamp s p h e k = cc
  stamp_back (Natural time) s p h e k =
      let q : shortest_stamp (last_word_of before) time ≡ s = cc in
      let m = shortest_makes (last_word_of before) time (last_lt before) h in
      timed 3 time s (p, packed_fits before (Natural time) s h k) (version_is 3 (version_of before) e) refl (ap (next_word (last_word_of before)) (sym q) ∙ m.1)
  stamp_back (Gray time) s p h e k =
      let q : shortest_stamp (last_word_of before) (gray_of time) ≡ s = cc in
      let m = shortest_makes (last_word_of before) (gray_of time) (last_lt before) (gray_lt time) in
      timed 4 (gray_of time) s (p, packed_fits before (Gray time) s h k) (version_is 4 (version_of before) e) refl (ap (next_word (last_word_of before)) (sym q) ∙ m.1)
      ∙ ap Gray (to_and_fro time h)
  stamp_back (Raw size word) s p h e k =
      let q : sized size word ≡ s = cc in
      ap (λ (z : SizedWord). stamp_of (before ++ packet z ∷ []) z.size z.word) (sym q)
      ∙ raw_stays (version_of (before ++ packet (sized size word) ∷ [])) (last_word_of (before ++ packet (sized size word) ∷ [])) size word
      (ap (λ (o : Option ℕ). not (keeps_word o)) (version_more before (packet (sized size word))) ∙ e)

-- a row that is of an item with a timestamp or none, made of a place and that timestamp
pub record MakesItem (row : Row) (payload : ℕ) (make : Place → Stamp → StpItem) : Type 0 where
  pub makes : (place : Place) (stamp : Stamp) → item_with place stamp row payload ≡ Some (make place stamp)
  pub fits : payload < 16 ^ (line_of row).payload
  pub quiet : (o : Option ℕ) → (next_master o (Plain row payload) ≡ o) × (next_channel o (Plain row payload) ≡ o)

-- the packet of such a row
pub made_back : (before : List StpPacket) (plain stamped : Row) (payload : ℕ) (make : Place → Stamp → StpItem) (stamp : Stamp) → MakesItem plain payload make → MakesItem stamped payload make →
    IsProperStamp stamp → is_of_version (version_of before) stamp ≡ true →
    (let p = with_stamp plain stamped payload (packed_stamp before stamp) in item_of (before ++ p ∷ []) p ≡ Some (make (place_of before) stamp))
made_back before plain stamped payload make stamp a b h e = by (packed_stamp before stamp) refl where
  none : (stamp : Stamp) → packed_stamp before stamp ≡ None → stamp ≡ NoStamp
  none NoStamp f = refl
  none x f = cc

  by : (o : Option SizedWord) → packed_stamp before stamp ≡ o → (let p = with_stamp plain stamped payload o in item_of (before ++ p ∷ []) p ≡ Some (make (place_of before) stamp))
  by None f =
      let p = Plain plain payload in
      a.makes (place_of (before ++ p ∷ [])) NoStamp
      ∙ ap (λ (z : Place). Some (make z NoStamp)) (place_kept before p a.fits a.quiet)
      ∙ ap (λ (z : Stamp). Some (make (place_of before) z)) (sym (none stamp f))
  by (Some s) f =
      let p = Stamped stamped payload s.size s.word in
      b.makes (place_of (before ++ p ∷ [])) (stamp_of (before ++ p ∷ []) s.size s.word)
      ∙ ap (λ (z : Place). Some (make z (stamp_of (before ++ p ∷ []) s.size s.word))) (place_kept before p (b.fits, packed_fits before stamp s h f) (λ o. (refl, refl)))
      ∙ ap (λ (z : Stamp). Some (make (place_of before) z)) (stamp_back before stamped payload stamp s b.fits h e f)

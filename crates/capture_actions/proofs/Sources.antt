-- The clocks of all sources after one more packet of one of them.
use Rattle.std.proofs.Common.{◌≡◌, ◌≢◌, ℕ, ◌<◌, inl, inr, List, [], ◌∷◌, ◌++◌, length, get_or, set, sym, ◌∙◌, ap, subst, append-nil, refl, arith, Option, None, Some, Bool, true, false, cond}
use Rattle.std.specs.Prelude.{not}
use Rattle.std.proofs.lemmas.Bool.{cases_eq}
use Rattle.std.proofs.lemmas.Bool.Decides.{nat_tests}
use Rattle.std.proofs.lemmas.List.{get_or-set_same, get_or-set_other}
use Rattle.capture_actions.specs.Names.{ItmPacket, Event, Packet, is_of}
use Rattle.capture_actions.specs.declared.clocks.Clocks.{Clocks}
use Rattle.capture_actions.specs.Clocks.{Stands}
use Rattle.capture_actions.specs.Listing.{itm_packet, itm_packets}
use Rattle.capture_actions.specs.LineLaws.{packets_push}
use Rattle.capture_actions.specs.Names.{is_stamp}
use Rattle.capture_actions.specs.SourceClocks.{without}
use Rattle.capture_actions.proofs.Tallies.{same, other}
use Rattle.capture_actions.proofs.Timing.{after_other, no_times}

module _ (es : List (Event Packet)) (e : Event Packet) (packet : ItmPacket) (id : ℕ) (source : e.source ≡ Some id)
    (what : itm_packet e.what ≡ packet ∷ []) where
  own : (x : ℕ) → x ≡ id → itm_packets (Some x) (es ++ e ∷ []) ≡ itm_packets (Some x) es ++ packet ∷ []
  own x h =
      packets_push (Some x) es e
      ∙ ap (λ (o : Option ℕ). itm_packets (Some x) es ++ cond (is_of (Some x) o) (itm_packet e.what) []) source
      ∙ ap (λ (b : Bool). itm_packets (Some x) es ++ cond b (itm_packet e.what) []) (same id x h)
      ∙ ap (λ (l : List ItmPacket). itm_packets (Some x) es ++ l) what

  another : (x : ℕ) → x ≢ id → itm_packets (Some x) (es ++ e ∷ []) ≡ itm_packets (Some x) es
  another x h =
      packets_push (Some x) es e
      ∙ ap (λ (o : Option ℕ). itm_packets (Some x) es ++ cond (is_of (Some x) o) (itm_packet e.what) []) source
      ∙ ap (λ (b : Bool). itm_packets (Some x) es ++ cond b (itm_packet e.what) []) (other id x h)
      ∙ append-nil (itm_packets (Some x) es)

  -- those of its source took it, and all others stay
  pub stand_after : (old : List Clocks) (new : Clocks) → id < length old →
      ((packets : List ItmPacket) → Stands (get_or old id new) packets → Stands new (packets ++ packet ∷ [])) →
      (x : ℕ) (d : Clocks) → ((f : Clocks) → Stands (get_or old x f) (itm_packets (Some x) es)) →
      Stands (get_or (set old id new) x d) (itm_packets (Some x) (es ++ e ∷ []))
  stand_after old new within after x d stands = elim (cases_eq x id) [
    | inl h ↦ (
        let there : get_or (set old id new) x d ≡ new = ap (λ (n : ℕ). get_or (set old id new) n d) h ∙ get_or-set_same old id new d within in
        let before : Stands (get_or old id new) (itm_packets (Some x) es) =
        subst (λ (n : ℕ). Stands (get_or old n new) (itm_packets (Some x) es)) h (stands new) in
        subst (λ (k : Clocks). Stands k (itm_packets (Some x) (es ++ e ∷ []))) (sym there)
        (subst (Stands new) (sym (own x h)) (after (itm_packets (Some x) es) before))
        )
    | inr h ↦ (
        subst (λ (k : Clocks). Stands k (itm_packets (Some x) (es ++ e ∷ []))) (sym (get_or-set_other old id x new d h))
        (subst (Stands (get_or old x d)) (sym (another x h)) (stands d))
        )
  ]

  -- a packet that is no timestamp leaves those of any source as they are
  pub stand_same : is_stamp packet ≡ false → (x : ℕ) (k : Clocks) → Stands k (itm_packets (Some x) es) →
      Stands k (itm_packets (Some x) (es ++ e ∷ []))
  stand_same other x k stands = elim (cases_eq x id) [
    | inl h ↦ subst (Stands k) (sym (own x h))
        (after_other k (itm_packets (Some x) es) packet (no_times packet other).0 (no_times packet other).1 stands)
    | inr h ↦ subst (Stands k) (sym (another x h)) stands
  ]

-- what is no ITM packet is none of the clocks
pub other_stays : (source : Option ℕ) (es : List (Event Packet)) (e : Event Packet) → itm_packet e.what ≡ [] →
    itm_packets source (es ++ e ∷ []) ≡ itm_packets source es
other_stays source es e other =
    packets_push source es e
    ∙ ap (λ (l : List ItmPacket). itm_packets source es ++ cond (is_of source e.source) l []) other
    ∙ ap (λ (l : List ItmPacket). itm_packets source es ++ l) (none (is_of source e.source)) ∙ append-nil (itm_packets source es) where
      none : (b : Bool) → ◌≡◌ {A = List ItmPacket} (cond b [] []) []
      none true = refl
      none false = refl

-- without the events of a source it has no packets, and each other source those that it had
none_left : (id : ℕ) (es : List (Event Packet)) → itm_packets (Some id) (without (Some id) es) ≡ []
none_left id [] = refl
none_left id (e ∷ es) = by (is_of (Some id) e.source) refl (none_left id es) where
  by : (t : Bool) → is_of (Some id) e.source ≡ t → itm_packets (Some id) (without (Some id) es) ≡ [] →
      itm_packets (Some id) (cond (not t) (e ∷ without (Some id) es) (without (Some id) es)) ≡ []
  by true q h = h
  by false q h =
      ap (λ (b : Bool). cond b (itm_packet e.what) [] ++ itm_packets (Some id) (without (Some id) es)) q ∙ h

not_both : (id x : ℕ) → x ≢ id → (s : Option ℕ) → is_of (Some id) s ≡ true → is_of (Some x) s ≡ false
not_both id x h None q = refl
not_both id x h (Some y) q = grind (arith, nat_tests)

others_left : (id x : ℕ) → x ≢ id → (es : List (Event Packet)) →
    itm_packets (Some x) (without (Some id) es) ≡ itm_packets (Some x) es
others_left id x h [] = refl
others_left id x h (e ∷ es) = by (is_of (Some id) e.source) refl (others_left id x h es) where
  by : (t : Bool) → is_of (Some id) e.source ≡ t →
      itm_packets (Some x) (without (Some id) es) ≡ itm_packets (Some x) es →
      itm_packets (Some x) (cond (not t) (e ∷ without (Some id) es) (without (Some id) es))
      ≡ itm_packets (Some x) (e ∷ es)
  by true q r =
      r ∙ ap (λ (b : Bool). cond b (itm_packet e.what) [] ++ itm_packets (Some x) es) (sym (not_both id x h e.source q))
  by false q r = ap (λ (l : List ItmPacket). cond (is_of (Some x) e.source) (itm_packet e.what) [] ++ l) r

-- clocks of a source that begin anew
pub stand_anew : (es : List (Event Packet)) (old : List Clocks) (new : Clocks) (id : ℕ) → id < length old →
    Stands new [] → (x : ℕ) (d : Clocks) → Stands (get_or old x d) (itm_packets (Some x) es) →
    Stands (get_or (set old id new) x d) (itm_packets (Some x) (without (Some id) es))
stand_anew es old new id within fresh x d stands = elim (cases_eq x id) [
  | inl h ↦ (
      let there : get_or (set old id new) x d ≡ new =
      ap (λ (n : ℕ). get_or (set old id new) n d) h ∙ get_or-set_same old id new d within in
      let none : itm_packets (Some x) (without (Some id) es) ≡ [] =
      ap (λ (n : ℕ). itm_packets (Some n) (without (Some id) es)) h ∙ none_left id es in
      subst (λ (k : Clocks). Stands k (itm_packets (Some x) (without (Some id) es))) (sym there)
      (subst (Stands new) (sym none) fresh)
      )
  | inr h ↦ (
      subst (λ (k : Clocks). Stands k (itm_packets (Some x) (without (Some id) es)))
      (sym (get_or-set_other old id x new d h))
      (subst (Stands (get_or old x d)) (sym (others_left id x h es)) stands)
      )
]

-- The packets before an item make its place the one in force, and are no items.
use Rattle.std.proofs.Common.{◌≡◌, ℕ, ◌+◌, ◌*◌, ◌/◌, ◌%◌, ◌^◌, ◌<◌, ◌==◌, List, [], ◌∷◌, ◌++◌, refl, sym, ◌∙◌, ap, subst, append_assoc, append-nil, arith, Bool, true, false, cond, Option, None, Some}
use Rattle.std.specs.Option.{ForSome}
use Rattle.std.proofs.lemmas.Bool.{eqb-true}
use Rattle.stp_encoder.specs.Names.{Row, Master8, Channel8, Master16, Channel16, StpPacket, Plain, Place, IsProper}
use Rattle.stp_encoder.specs.Names.{master_of, channel_of, place_of, next_number, next_master, next_channel}
use Rattle.stp_grammar.proofs.Attributing.{master_more, channel_more}
use Rattle.stp_encoder.specs.Packets.{telling, telling_place}

-- other low 8 bits under the same high ones
low_told : (k n : ℕ) → k / 256 ≡ n / 256 → k / 256 * 256 + n % 256 ≡ n
low_told k n e = omega (arith, e)

-- a number is in force after the packet that tells it, where either row's packet makes it so
module _ (of : List StpPacket → Option ℕ) (low whole : Row) (before : List StpPacket) (n : ℕ) (all : of (before ++ Plain whole n ∷ []) ≡ Some n)
    (part : of (before ++ Plain low (n % 256) ∷ []) ≡ next_number (of before) None (Some (n % 256))) where
  by_known : (o : Option ℕ) → of before ≡ o → of (before ++ telling low whole o (Some n)) ≡ Some n
  by_known None e = all
  by_known (Some k) e = choose (k == n) (k / 256 == n / 256) refl refl where
    choose : (s t : Bool) → (k == n) ≡ s → (k / 256 == n / 256) ≡ t → of (before ++ cond s [] (cond t (Plain low (n % 256) ∷ []) (Plain whole n ∷ []))) ≡ Some n
    choose true t f g = ap of (append-nil before) ∙ e ∙ ap Some (eqb-true k n f)
    choose false true f g =
        part ∙ ap (λ (o : Option ℕ). next_number o None (Some (n % 256))) e
        ∙ ap Some (low_told k n (eqb-true (k / 256) (n / 256) g))
    choose false false f g = all

master_told : (before : List StpPacket) (n : ℕ) → n < 2 ^ 16 → master_of (before ++ telling Master8 Master16 (master_of before) (Some n)) ≡ Some n
master_told before n h =
    by_known (λ l. master_of l) Master8 Master16 before n (master_more before (Plain Master16 n) (omega (arith, h)))
    (master_more before (Plain Master8 (n % 256)) (omega arith)) (master_of before) refl

channel_told : (before : List StpPacket) (n : ℕ) → n < 2 ^ 16 → channel_of (before ++ telling Channel8 Channel16 (channel_of before) (Some n)) ≡ Some n
channel_told before n h =
    by_known (λ l. channel_of l) Channel8 Channel16 before n (channel_more before (Plain Channel16 n) (omega (arith, h)))
    (channel_more before (Plain Channel8 (n % 256)) (omega arith)) (channel_of before) refl

-- what holds of no packet, and of one of either row whose payload fits it, holds of the packet that tells a number
pub telling_within : (P : List StpPacket → Type 0) (low whole : Row) (known number : Option ℕ) → ForSome number (λ n. n < 2 ^ 16) →
    P [] → ((v : ℕ) → v < 2 ^ 8 → P (Plain low v ∷ [])) → ((v : ℕ) → v < 2 ^ 16 → P (Plain whole v ∷ [])) → P (telling low whole known number)
telling_within P low whole known None h none l w = none
telling_within P low whole None (Some n) h none l w = w n (h n refl)
telling_within P low whole (Some k) (Some n) h none l w = by (k == n) (k / 256 == n / 256) where
  by : (s t : Bool) → P (cond s [] (cond t (Plain low (n % 256) ∷ []) (Plain whole n ∷ [])))
  by true t = none
  by false true = l (n % 256) (omega arith)
  by false false = w n (h n refl)

-- a channel's packet leaves the master
master_kept : (before : List StpPacket) (known : Option ℕ) (n : ℕ) → n < 2 ^ 16 → master_of (before ++ telling Channel8 Channel16 known (Some n)) ≡ master_of before
master_kept before known n h =
    telling_within (λ l. master_of (before ++ l) ≡ master_of before) Channel8 Channel16 known (Some n) (λ x e. let q : n ≡ x = cc in subst (λ (z : ℕ). z < 2 ^ 16) q h) (ap (λ (l : List StpPacket). master_of l) (append-nil before))
    (λ v f. master_more before (Plain Channel8 v) (omega (arith, f))) (λ v f. master_more before (Plain Channel16 v) (omega (arith, f)))

abbrev at : Option ℕ → Option ℕ → Place
at m c = record { master = m; channel = c }

same_place : (p q : Place) → p.master ≡ q.master → p.channel ≡ q.channel → p ≡ q
same_place p q e f = ap (λ (m : Option ℕ). at m p.channel) e ∙ ap (λ (c : Option ℕ). at q.master c) f

-- the place is in force after its packets
pub place_told : (before : List StpPacket) (place : Place) (m n : ℕ) → place.master ≡ Some m → place.channel ≡ Some n → m < 2 ^ 16 → n < 2 ^ 16 →
    place_of (before ++ telling_place before (Some place)) ≡ place
place_told before place m n e f h k =
    let masters = telling Master8 Master16 (master_of before) place.master in
    let channels = telling Channel8 Channel16 (channel_of (before ++ masters)) place.channel in
    let all : before ++ (masters ++ channels) ≡ (before ++ masters) ++ channels = sym (append_assoc before masters channels) in
    let kept : master_of ((before ++ masters) ++ channels) ≡ master_of (before ++ masters) =
    subst (λ (o : Option ℕ). master_of ((before ++ masters) ++ telling Channel8 Channel16 (channel_of (before ++ masters)) o) ≡ master_of (before ++ masters)) (sym f)
    (master_kept (before ++ masters) (channel_of (before ++ masters)) n k) in
    let master : master_of (before ++ masters) ≡ place.master =
    subst (λ (o : Option ℕ). master_of (before ++ telling Master8 Master16 (master_of before) o) ≡ o) (sym e) (master_told before m h) in
    let channel : channel_of ((before ++ masters) ++ channels) ≡ place.channel =
    subst (λ (o : Option ℕ). channel_of ((before ++ masters) ++ telling Channel8 Channel16 (channel_of (before ++ masters)) o) ≡ o) (sym f) (channel_told (before ++ masters) n k) in
    ap (λ (l : List StpPacket). place_of l) all ∙ same_place (place_of ((before ++ masters) ++ channels)) place (kept ∙ master) channel

-- a packet that tells neither a master nor a channel nor a version leaves the place
pub place_kept : (before : List StpPacket) (p : StpPacket) → IsProper p → ((o : Option ℕ) → (next_master o p ≡ o) × (next_channel o p ≡ o)) → place_of (before ++ p ∷ []) ≡ place_of before
place_kept before p h t =
    same_place (place_of (before ++ p ∷ [])) (place_of before)
    (master_more before p h ∙ (t (master_of before)).0) (channel_more before p h ∙ (t (channel_of before)).1)

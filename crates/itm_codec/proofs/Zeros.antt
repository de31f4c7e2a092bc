-- Words whose first bytes are 00.
use Rattle.std.proofs.Common.{◌≡◌, ℕ, zero, suc, ◌+◌, ◌*◌, ◌/◌, ◌%◌, ◌^◌, ◌<◌, ◌≤◌, List, [], ◌∷◌, ◌++◌, length, take, replicate, get_or, refl, sym, ◌∙◌, ap, subst, arith}
use Rattle.std.specs.Int.{w64, from_le_bytes}
use Rattle.std.proofs.Math.Arith.{mod-mul}
use Rattle.itm_codec.specs.Names.{Sync, Spells, number}
use Rattle.itm_codec.specs.declared.whole.InWindow.{InWindow}
use Rattle.itm_codec.specs.declared.whole.InWindow.TheVariants.{Packet}
use Rattle.itm_codec.specs.Windows.{IsFound}

-- a word is the number of its bytes
pub word_is : (window : List ℕ) (word : ℕ) → length window ≡ 8 → word ≡ from_le_bytes w64 window → word ≡ number window
word_is (b0 ∷ (b1 ∷ (b2 ∷ (b3 ∷ (b4 ∷ (b5 ∷ (b6 ∷ (b7 ∷ [])))))))) word l e = omega (arith, e)
word_is window word l e = absurd (omega arith)

pub positive : (n : ℕ) → 0 < 256 ^ n
positive zero = omega arith
positive (suc n) = (let h = positive n in omega (arith, h))

-- the low byte of a word, and the others
pub low_first : (b w n : ℕ) → b < 256 → (b + 256 * w) % 256 ^ suc n ≡ w % 256 ^ n * 256 + b
low_first b w n l =
    let k : 256 ^ suc n ≡ 256 ^ n * 256 = omega arith in
    let high : (b + 256 * w) / 256 ≡ w = omega arith in
    let low : (b + 256 * w) % 256 ≡ b = omega arith in
    ap (λ (m : ℕ). (b + 256 * w) % m) k ∙ mod-mul (b + 256 * w) (positive n) (omega arith)
    ∙ ap (λ (x : ℕ). x % 256 ^ n * 256 + (b + 256 * w) % 256) high ∙ ap (λ (x : ℕ). w % 256 ^ n * 256 + x) low

-- the first bytes are 00
pub zeros_in : (n : ℕ) (l : List ℕ) → ((i : ℕ) → get_or l i 0 < 256) → n ≤ length l → number l % 256 ^ n ≡ 0 → take n l ≡ replicate n 0
zeros_in zero l small h e = refl
zeros_in (suc n) [] small h e = absurd (omega arith)
zeros_in (suc n) (b ∷ l) small h e =
    let s : b < 256 = small 0 in
    let m : number l % 256 ^ n * 256 + b ≡ 0 = sym (low_first b (number l) n s) ∙ e in
    let none : b ≡ 0 = omega (arith, m) in
    ap (λ (x : ℕ). x ∷ take n l) none ∙ ap (λ (r : List ℕ). 0 ∷ r) (zeros_in n l (λ i. small (suc i)) (omega arith) (omega (arith, m)))

-- and the byte after them is 80
ended : (n : ℕ) (l : List ℕ) → ((i : ℕ) → get_or l i 0 < 256) → n < length l → number l % 256 ^ suc n ≡ 128 * 256 ^ n → take (suc n) l ≡ replicate n 0 ++ (128 ∷ [])
ended n [] small h e = absurd (omega arith)
ended zero (b ∷ l) small h e =
    let s : b < 256 = small 0 in
    let m : number l % 256 ^ 0 * 256 + b ≡ 128 * 256 ^ 0 = sym (low_first b (number l) 0 s) ∙ e in
    let last : b ≡ 128 = omega (arith, e, s) in
    ap (λ (x : ℕ). x ∷ []) last
ended (suc n) (b ∷ l) small h e =
    let s : b < 256 = small 0 in
    let m : number l % 256 ^ suc n * 256 + b ≡ 128 * 256 ^ suc n = sym (low_first b (number l) (suc n) s) ∙ e in
    let k : 256 ^ suc n ≡ 256 ^ n * 256 = omega arith in
    let none : b ≡ 0 = omega (arith, m, s, k) in
    let rest : number l % 256 ^ suc n ≡ 128 * 256 ^ n = omega (arith, m, s, k) in
    ap (λ (x : ℕ). x ∷ take (suc n) l) none ∙ ap (λ (r : List ℕ). 0 ∷ r) (ended n l (λ i. small (suc i)) (omega arith) rest)

-- a synchronisation with so many bytes 00
sync_is : (zeros word : ℕ) (window : List ℕ) → length window ≡ 8 → ((i : ℕ) → get_or window i 0 < 256) → word ≡ from_le_bytes w64 window → 5 ≤ zeros → zeros < 8 →
    word % 256 ^ suc zeros ≡ 128 * 256 ^ zeros → Spells Sync (take (suc zeros) window)
sync_is zeros word window l small e h k m =
    (zeros, h, ended zeros window small (omega arith) (ap (λ (x : ℕ). x % 256 ^ suc zeros) (sym (word_is window word l e)) ∙ m))

pub sync_found : (zeros word : ℕ) (window : List ℕ) (found : InWindow) → length window ≡ 8 → ((i : ℕ) → get_or window i 0 < 256) → word ≡ from_le_bytes w64 window → 5 ≤ zeros → zeros < 8 →
    word % 256 ^ suc zeros ≡ 128 * 256 ^ zeros → found ≡ Packet (suc zeros) Sync → IsFound window found
sync_found zeros word window found l small e h k m f =
    subst (IsFound window) (sym f) (omega arith, omega arith, sync_is zeros word window l small e h k m, tt)

-- Bytes of a hunt that are skipped at once.
use Rattle.std.proofs.Common.{◌≡◌, ℕ, ◌+◌, List, [], ◌∷◌, ◌++◌, length, refl, sym, ◌∙◌, ap, subst, arith, append_assoc}
use Rattle.std.proofs.Common.{append-nil, false, true, None, Option}
use Rattle.std.specs.Prelude.{◌==◌, ◌&&◌}
use Rattle.itm_codec.specs.Names.{Placed, units_of, by_unit, Pattern, Hunting, Sync, ItmPacket, Partial, Header, rule}
use Rattle.itm_codec.specs.Names.{Seeks}
use Rattle.trace_values.specs.Hunted.{Found, hunt, hunted_by, run_after}
use Rattle.trace_values.proofs.Modes as laws
use Rattle.itm_codec.specs.Hunting.{Skips}
use Rattle.itm_codec.specs.Reading.{pattern, packets_in}

-- one more unit
pub skips_more : (p : Pattern) (units : List ℕ) (run mid b after : ℕ) → Skips p run units mid →
    (b == p.last && mid == p.most) ≡ false → run_after p mid b ≡ after → Skips p run (units ++ b ∷ []) after
skips_more p [] run mid b after s f e =
    (ap (λ (n : ℕ). b == p.last && n == p.most) s ∙ f, ap (λ (n : ℕ). run_after p n b) s ∙ e)
skips_more p (x ∷ units) run mid b after s f e = (s.0, skips_more p units (run_after p run x) mid b after s.1 f e)

-- what is kept of a hunt
abbrev pub Hunts : ℕ → ℕ → List Placed → Type 0
Hunts run skipped u = Seeks pattern Sync (by_unit rule) Header run skipped u

-- all of these units are skipped
pub seeks_on : (w : List Placed) (run skipped after : ℕ) (u : List Placed) → Skips pattern run (units_of w) after →
    Hunts run skipped u → Hunts after (skipped + length w) (u ++ w)
seeks_on [] run skipped after u s k =
    subst (λ (l : List Placed). Hunts after (skipped + 0) l) (sym (append-nil u))
    (subst (λ (n : ℕ). Hunts after n u) (let e : skipped ≡ skipped + 0 = omega arith in e)
    (subst (λ (n : ℕ). Hunts n skipped u) s k))
seeks_on (b ∷ w) run skipped after u s k =
    let one = laws.skips-list pattern Sync (by_unit rule) Header (Hunting run skipped) run skipped b true Header u refl
    s.0 (k, refl, refl) in
    subst (λ (l : List Placed). Hunts after (skipped + length (b ∷ w)) l) (append_assoc u (b ∷ []) w)
    (subst (λ (n : ℕ). Hunts after n ((u ++ b ∷ []) ++ w))
    (let e : skipped + 1 + length w ≡ skipped + length (b ∷ w) = omega arith in e)
    (seeks_on w (run_after pattern run b.unit) (skipped + 1) after (u ++ b ∷ []) s.1 one.0))

-- a hunt has given nothing, and is no fault
pub none_given : (run skipped : ℕ) (u : List Placed) → Hunts run skipped u →
    ((packets_in true u).given ≡ []) × ((packets_in true u).fault ≡ None)
none_given run skipped u k =
    let units = (hunt pattern Sync (by_unit rule) Header u).units in (
      ap (λ (o : Option (Found Partial ItmPacket)). (hunted_by units o).given) k.none,
      ap (λ (o : Option (Found Partial ItmPacket)). (hunted_by units o).fault) k.none,
    )

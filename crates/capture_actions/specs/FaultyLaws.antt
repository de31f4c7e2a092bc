-- A fault of a report stays.
use Rattle.std.specs.Prelude.{◌≡◌, ℕ, List, [], ◌∷◌, ◌++◌, Option, Some, None, is_none, false, Bool}
use Rattle.std.proofs.Common.{ap, ◌∙◌, sym, refl, cond, append-nil, append_assoc}
use Rattle.capture_actions.specs.Names.{Reason, Place, Placed, placed, Plan, sources_by, report_of, fault_of}
use Rattle.source_events.proofs.Captures as captures
use Rattle.source_events.proofs.Lawful.{plan_lawful}
use Rattle.capture_actions.specs.Faulty.{IsFaulty, front_from, read_of}

pub none_at_first : (plan : Plan) → IsFaulty plan [] → ⊥
none_at_first plan h =
    (let k = ap (λ (o : Option (Place × (Reason × Option ℕ))). is_none o)
    (captures.no_fault_first (sources_by plan) (plan_lawful plan) plan.frames) in let g = h in cc)

pub same_fault : (plan : Plan) (xs ys : List ℕ) → IsFaulty plan xs →
    fault_of plan (placed (xs ++ ys)) ≡ fault_of plan (placed xs)
same_fault plan xs ys h = (captures.stays_same (sources_by plan) (plan_lawful plan) plan.frames xs ys h).0

pub same_report : (plan : Plan) (xs ys : List ℕ) → IsFaulty plan xs →
    report_of plan (placed (xs ++ ys)) ≡ report_of plan (placed xs)
same_report plan xs ys h = (captures.stays_same (sources_by plan) (plan_lawful plan) plan.frames xs ys h).1

pub faulty_stays : (plan : Plan) (xs ys : List ℕ) → IsFaulty plan xs → IsFaulty plan (xs ++ ys)
faulty_stays plan xs ys h = ap (λ (o : Option (Place × (Reason × Option ℕ))). is_none o) (same_fault plan xs ys h) ∙ h

-- what is read stays
front_stays : (is_sound : List ℕ → Bool) (front xs ys : List ℕ) → is_sound (front ++ xs) ≡ false →
    front_from is_sound front (xs ++ ys) ≡ front_from is_sound front xs
front_stays is_sound front [] [] h = refl
front_stays is_sound front [] (y ∷ ys) h =
    ap (λ (t : Bool). cond t (front_from is_sound (front ++ y ∷ []) ys) front)
    (ap is_sound (sym (append-nil front)) ∙ h)
front_stays is_sound front (x ∷ xs) ys h =
    ap (λ (l : List ℕ). cond (is_sound front) l front)
    (front_stays is_sound (front ++ x ∷ []) xs ys (ap is_sound (append_assoc front (x ∷ []) xs) ∙ h))

pub read_stays : (plan : Plan) (xs ys : List ℕ) → IsFaulty plan xs → read_of plan (xs ++ ys) ≡ read_of plan xs
read_stays plan xs ys h = front_stays (λ front. is_none (fault_of plan (placed front))) [] xs ys h

-- at a fault its line is written, whatever was read
line_stays : (text : List Placed → Option (Place × (Reason × Option ℕ)) → List ℕ) →
    ((u w : List Placed) (fault : Place × (Reason × Option ℕ)) → text u (Some fault) ≡ text w (Some fault)) →
    (u w : List Placed) (f g : Option (Place × (Reason × Option ℕ))) → is_none f ≡ false → g ≡ f → text u g ≡ text w f
line_stays text same u w None g h e = cc
line_stays text same u w (Some f) g h e = ap (text u) e ∙ same u w f

-- what comes after the text of a report, by its fault, stays at a fault where it is that fault's line
pub ending_stays : (plan : Plan) (text : List Placed → Option (Place × (Reason × Option ℕ)) → List ℕ) →
    ((u w : List Placed) (fault : Place × (Reason × Option ℕ)) → text u (Some fault) ≡ text w (Some fault)) →
    (xs ys : List ℕ) → IsFaulty plan xs →
    text (placed (xs ++ ys)) (fault_of plan (placed (xs ++ ys))) ≡ text (placed xs) (fault_of plan (placed xs))
ending_stays plan text same xs ys h =
    line_stays text same (placed (xs ++ ys)) (placed xs) (fault_of plan (placed xs)) (fault_of plan (placed (xs ++ ys)))
    h (same_fault plan xs ys h)

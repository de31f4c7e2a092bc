-- From its point on a mapped source of the rest gives what it gives in the whole, run by run.
use Rattle.std.proofs.Common.{◌≡◌, ℕ, List, [], ◌∷◌, ◌++◌, map, refl, sym, ◌∙◌, ap, subst, Option, None}
use Rattle.resync_laws.specs.Names.{Cell, Place, Placed, Stream, list_of, IsRising, items_of, from_point, FollowsFrom}
use Rattle.source_events.proofs.Least.{list_append}
use Rattle.resync_laws.proofs.RunTerms.{unnamed_run}

-- runs without an ID are of no source
pub none_hidden : (x : ℕ) (runs : List (List Cell)) → list_of x (map unnamed_run runs) ≡ []
none_hidden x [] = refl
none_hidden x ([] ∷ runs) = none_hidden x runs
none_hidden x ((c ∷ run) ∷ runs) = none_hidden x runs

pub rest_list : (x : ℕ) (hidden runs : List (List Cell)) → list_of x (map unnamed_run hidden ++ runs) ≡ list_of x runs
rest_list x hidden runs = list_append x (map unnamed_run hidden) runs ∙ ap (λ (l : List Placed). l ++ list_of x runs) (none_hidden x hidden)

pub one_follows : {V : Type 0} (point : Stream V → Option Place) (units : List Placed → List Placed) → ((u w : List Placed) → units (u ++ w) ≡ units u ++ units w) → (whole rest : List Placed → Stream V) → FollowsFrom point whole rest →
    (x : ℕ) (before hidden named : List (List Cell)) → IsRising (units (list_of x (before ++ named))) → (whole (units (list_of x (before ++ named)))).fault ≡ None → (front after : List (List Cell)) → named ≡ front ++ after →
    from_point (point (rest (units (list_of x (map unnamed_run hidden ++ named))))) (items_of (rest (units (list_of x (map unnamed_run hidden ++ front)))).given)
    ≡ from_point (point (rest (units (list_of x (map unnamed_run hidden ++ named))))) (items_of (whole (units (list_of x (before ++ front)))).given)
one_follows point units append whole rest follows x before hidden named rising sound front after e =
    let parts : list_of x named ≡ list_of x front ++ list_of x after = ap (list_of x) e ∙ list_append x front after in
    let both : units (list_of x named) ≡ units (list_of x front) ++ units (list_of x after) = ap units parts ∙ append (list_of x front) (list_of x after) in
    let all : units (list_of x (before ++ named)) ≡ units (list_of x before) ++ (units (list_of x front) ++ units (list_of x after)) =
    ap units (list_append x before named) ∙ append (list_of x before) (list_of x named) ∙ ap (λ (l : List Placed). units (list_of x before) ++ l) both in
    let last : units (list_of x (map unnamed_run hidden ++ named)) ≡ units (list_of x front) ++ units (list_of x after) = ap units (rest_list x hidden named) ∙ both in
    let same : point (rest (units (list_of x (map unnamed_run hidden ++ named)))) ≡ point (rest (units (list_of x front) ++ units (list_of x after))) = ap (λ (l : List Placed). point (rest l)) last in
    let f = follows (units (list_of x before)) (units (list_of x front)) (units (list_of x after)) (subst (λ (l : List Placed). IsRising l) all rising) (ap (λ (l : List Placed). (whole l).fault) (sym all) ∙ sound) in
    let p = point (rest (units (list_of x front) ++ units (list_of x after))) in
    ap (λ (o : Option Place). from_point o (items_of (rest (units (list_of x (map unnamed_run hidden ++ front)))).given)) same
    ∙ ap (λ (l : List Placed). from_point p (items_of (rest (units l)).given)) (rest_list x hidden front)
    ∙ f
    ∙ ap (λ (l : List Placed). from_point p (items_of (whole l).given)) (sym (ap units (list_append x before front) ∙ append (list_of x before) (list_of x front)))
    ∙ ap (λ (o : Option Place). from_point o (items_of (whole (units (list_of x (before ++ front)))).given)) (sym same)

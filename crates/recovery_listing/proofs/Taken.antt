-- What an action over an account made of the front of a piece.
use Rattle.std.proofs.Common.{◌≡◌, ◌∙◌, ℕ, ◌+◌, [], ◌∷◌, List, ◌++◌, length, sym, ap, refl, subst, append_assoc}
use Rattle.std.proofs.Common.{append-nil, arith, Bool, take, drop, ◌-◌, ◌<◌, ◌≤◌}
use Rattle.std.proofs.Math.Seq.{take-add}
use Rattle.std.proofs.lemmas.List.{length-drop, length-take-le, take_rest}
use Rattle.trace_values.specs.Placed.{Placed, placed, placed_from}
use Rattle.trace_values.proofs.Placing.{length-placed_from, placed_append}
use Rattle.source_events.specs.declared.event.Event.{Event}
use Rattle.source_events.specs.declared.packet.Packet.{Packet}
use Rattle.source_events.specs.declared.plan.Plan.{Plan}
use Rattle.stretch_readings.specs.declared.heard.Heard.{Heard}
use Rattle.recovery_report.specs.Report.{report_with}
use Rattle.recovery_engine.specs.Engine as reading
use Rattle.recovery_engine.specs.Front.{TakesFront}
use Rattle.recovery_engine.specs.declared.engine.Recovery.{Recovery}
use Rattle.recovery_engine.proofs.Rising.{end_block}
use Rattle.trace_stream.specs.Served.{Meaning}
use Rattle.recovery_listing.specs.Account.{GoesOn, HasRead, Pages, TakesOn, events_of}
use Rattle.recovery_listing.specs.Recovering.{Stands, how_of}
use Rattle.recovery_listing.specs.declared.recovering.Recovering.{Recovering}
use Rattle.recovery_listing.specs.declared.going_on.GoingOn.{GoingOn}

-- the next byte of a capture is at the offset that is how many it has read
next_is : (engine : Recovery) (seen : List ℕ) → HasRead engine seen → reading.next_of engine ≡ length (placed seen)
next_is engine [] h = h.next
next_is engine (byte ∷ bytes) h =
    let e = h.next ∙ end_block (byte ∷ bytes) [] 0 (omega arith) in
    let l = length-placed_from 0 (byte ∷ bytes) in
    let z : reading.next_of engine ≡ length (placed (byte ∷ bytes)) = omega (arith, e, l) in z

-- more bytes of a capture
pub placed_more : (seen : List ℕ) (at : ℕ) (bytes : List ℕ) → at ≡ length (placed seen) →
    placed (seen ++ bytes) ≡ placed seen ++ placed_from at bytes
placed_more seen at bytes e =
    placed_append seen bytes
    ∙ ap (λ (n : ℕ). placed seen ++ placed_from n bytes)
    (let l = length-placed_from 0 seen in let k : length seen ≡ at = omega (arith, l, e) in k)

-- What an engine took from its next byte on, and gave what hears its events, an account was given.
module _ {S T : Type 0} (hears : S → List (Event (Heard Packet)) → S → Type 0) (left : S → ℕ)
    (gets : T → List (Event (Heard Packet)) → T → Type 0) (at : ℕ) (piece : List ℕ) (taken : ℕ) (old new : Recovery)
    (a b : S) (s t : T) (is : at ≡ reading.next_of old)
    (took : TakesFront hears left at piece taken (old, a) (new, b))
    (own : (es : List (Event (Heard Packet))) → hears a es b → gets s es t) where
  abbrev front : List ℕ
  front = take taken piece

  here : (seen : List ℕ) → HasRead old seen →
      placed (seen ++ front) ≡ placed seen ++ placed_from at front
  here seen h = placed_more seen at front (is ∙ next_is old seen h)

  abbrev reported : List Placed → List (Event (Heard Packet))
  reported u = report_with (reading.guesses_of old) (reading.plan_of old) u

  abbrev by_plan : Bool → Plan → GoingOn Plan
  by_plan guesses plan = record { plan = plan; guesses = guesses }

  pub takes_on : TakesOn gets front (old, s) (new, t)
  takes_on = record {
    same = ap (by_plan (reading.guesses_of new)) took.plan
        ∙ ap (λ (guesses : Bool). by_plan guesses (reading.plan_of old)) took.guesses;
    count = took.next ∙ ap (λ (n : ℕ). n + taken) is
        ∙ ap (λ (n : ℕ). reading.next_of old + n) (sym (length-take-le taken piece took.bytes.1));
    read = λ seen h. subst (λ (u : List Placed). reading.Stands new u) (sym (here seen h)) (took.list (placed seen) h);
    given = (
      took.given.0,
      own took.given.0 took.given.1,
      λ seen h. ap reported (here seen h) ∙ took.given.2 (placed seen) h,
    );
  }

-- An action took these bytes, whatever it had taken before.
pub record Took {S P : Type 0} (plan : S → P) (stands : S → List ℕ → Type 0) (meaning : P → Meaning)
    (noted : P → List ℕ → List ℕ) (old new : S) (front : List ℕ) (before after : Pages) : Type 0 where
  pub same : plan new ≡ plan old
  pub fed : (seen : List ℕ) → stands old seen →
      GoesOn (stands new) (meaning (plan old)) (noted (plan old)) seen front before after

module _ {S P : Type 0} (plan : S → P) (stands : S → List ℕ → Type 0) (meaning : P → Meaning)
    (noted : P → List ℕ → List ℕ) where
  -- no byte
  pub took_none : (s : S) (before : Pages) → Took plan stands meaning noted s s [] before before
  took_none s before = record {
    same = refl;
    fed = λ seen h. record {
      read = subst (stands s) (sym (append-nil seen)) h;
      more = [];
      grown = ap (meaning (plan s)).text (append-nil seen) ∙ sym (append-nil ((meaning (plan s)).text seen));
      gained = sym (append-nil before.text);
      told = [];
      noted = ap (noted (plan s)) (append-nil seen) ∙ sym (append-nil (noted (plan s) seen));
      noting = sym (append-nil before.notes);
    };
  }

  -- two fronts, one after the other
  pub took_both : (old mid new : S) (front next : List ℕ) (a b c : Pages) →
      Took plan stands meaning noted old mid front a b → Took plan stands meaning noted mid new next b c →
      Took plan stands meaning noted old new (front ++ next) a c
  took_both old mid new front next a b c first second = record {
    same = second.same ∙ first.same;
    fed = λ seen h.
        let one = first.fed seen h in
        let two = subst (λ (p : P). GoesOn (stands new) (meaning p) (noted p) (seen ++ front) next b c) first.same
        (second.fed (seen ++ front) one.read) in
        let here : (seen ++ front) ++ next ≡ seen ++ (front ++ next) = append_assoc seen front next in
        let text : List ℕ → List ℕ = (meaning (plan old)).text in
        let notes : List ℕ → List ℕ = noted (plan old) in
        record {
          read = subst (stands new) here two.read;
          more = one.more ++ two.more;
          grown = ap text (sym here) ∙ two.grown ∙ ap (λ (l : List ℕ). l ++ two.more) one.grown
              ∙ append_assoc (text seen) one.more two.more;
          gained = two.gained ∙ ap (λ (l : List ℕ). l ++ two.more) one.gained
              ∙ append_assoc a.text one.more two.more;
          told = one.told ++ two.told;
          noted = ap notes (sym here) ∙ two.noted ∙ ap (λ (l : List ℕ). l ++ two.told) one.noted
              ∙ append_assoc (notes seen) one.told two.told;
          noting = two.noting ∙ ap (λ (l : List ℕ). l ++ two.told) one.noting
              ∙ append_assoc a.notes one.told two.told;
        };
  }

-- What an engine took for an account, the action over it took.
module _ {A P : Type 0} (asked : A → GoingOn Plan → P) (account : A → GoingOn Plan → List ℕ → Type 0)
    (meaning : P → Meaning) (noted : P → List ℕ → List ℕ)
    (gets : (A × Pages) → List (Event (Heard Packet)) → (A × Pages) → Type 0)
    (same : (old new : A × Pages) (given : List (Event (Heard Packet))) (how : GoingOn Plan) →
    gets old given new → asked new.0 how ≡ asked old.0 how)
    (goes_on : (old new : A × Pages) (given : List (Event (Heard Packet))) (how : GoingOn Plan)
    (seen front : List ℕ) → gets old given new → 0 < length front →
    events_of how (seen ++ front) ≡ events_of how seen ++ given → account old.0 how seen →
    GoesOn (account new.0 how) (meaning (asked old.0 how)) (noted (asked old.0 how)) seen front old.1 new.1)
    (old new : Recovering A) (front : List ℕ) (a b : Pages) (some : 0 < length front)
    (on : TakesOn gets front (old.engine, (old.account, a)) (new.engine, (new.account, b))) where
  abbrev plan : Recovering A → P
  plan s = asked s.account (how_of s)

  pub took_on : Took plan (Stands account) meaning noted old new front a b
  took_on = record {
    same = ap (asked new.account) on.same
        ∙ same (old.account, a) (new.account, b) on.given.0 (how_of old) on.given.1;
    fed = λ seen s.
        let on_told = goes_on (old.account, a) (new.account, b) on.given.0 (how_of old) seen front on.given.1 some
        (on.given.2 seen s.read) s.told in
        record {
          read = record {
            read = on.read seen s.read;
            told = subst (λ (how : GoingOn Plan). account new.account how (seen ++ front)) (sym on.same) on_told.read;
          };
          more = on_told.more;
          grown = on_told.grown;
          gained = on_told.gained;
          told = on_told.told;
          noted = on_told.noted;
          noting = on_told.noting;
        };
  }

-- the front of a piece, and what is taken of the rest
pub front_next : (done n : ℕ) (piece : List ℕ) →
    take done piece ++ take n (take (length piece - done) (drop done piece)) ≡ take (done + n) piece
front_next done n piece = ap (λ (l : List ℕ). take done piece ++ take n l) (take_rest piece done)
    ∙ sym (take-add done n piece)

-- how many bytes the rest has
pub rest_size : (done : ℕ) (piece : List ℕ) → done ≤ length piece →
    length (take (length piece - done) (drop done piece)) ≡ length piece - done
rest_size done piece l = ap length (take_rest piece done) ∙ length-drop done piece

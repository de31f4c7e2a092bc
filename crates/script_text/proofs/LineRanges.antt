-- What lines say can be said.
use Rattle.std.proofs.Common.{◌≡◌, ℕ, List, [], ◌∷◌, refl, sym, ◌∙◌, ap, subst, Bool, true, false, Some, None, Option}
use Rattle.std.proofs.Common.{Ok, Err, Result, ◌==◌, ok_or, IfOk, OnOk, if◌then◌else◌}
use Rattle.script_text.specs.Names.{number_named, Plan, SourceKind, kind_of}
use Rattle.decimal_words.proofs.Numbers.{number_is}
use Rattle.source_events.specs.declared.plan.SourceKind.TheVariants as kinds
use Rattle.script_text.specs.declared.shapes.Shape.{Shape}
use Rattle.script_text.specs.declared.shapes.Shape.TheVariants.{Itm, Dwt, Stp, Raw}
use Rattle.script_text.specs.declared.items.Item.{Item}
use Rattle.script_text.specs.declared.items.Item.TheVariants as items
use Rattle.script_text.specs.declared.lines.Line.{Line}
use Rattle.script_text.specs.declared.lines.Line.TheVariants.{Of}
use Rattle.script_text.specs.declared.line_fault.LineFault.{LineFault}
use Rattle.script_text.specs.declared.line_fault.LineFault.TheVariants.{BadLine, BadId, BadNumber, Mixed}
use Rattle.script_text.specs.Shapes.{shape_named}
use Rattle.script_text.specs.Items.{itm_of, dwt_of, stp_of, raw_of, item_of}
use Rattle.script_text.specs.Lines.{by_itm, by_stp, by_raw, taken_by, line_of_words, answer, ◌>>=◌ as ◌>>ₗ◌}
use Rattle.script_text.specs.Said.{IsSayable, IsSaid}
use Rattle.script_text.proofs.Options.{map_some}
use Rattle.script_text.proofs.Ranges.{itm_said, dwt_said, stp_said, raw_said}

-- items
pub item_said : (shape : Shape) (words : List (List ℕ)) (item : Item) → item_of shape words ≡ Some item → IsSayable item
item_said (Itm shape) words item e = let m = map_some items.Itm (itm_of shape words) item e in
    subst IsSayable m.2 (itm_said shape words m.0 m.1)
item_said (Dwt shape) words item e = let m = map_some items.Dwt (dwt_of shape words) item e in
    subst IsSayable m.2 (dwt_said shape words m.0 m.1)
item_said (Stp shape) words item e = let m = map_some items.Stp (stp_of shape words) item e in
    subst IsSayable m.2 (stp_said shape words m.0 m.1)
item_said Raw words item e = let m = map_some items.Raw (raw_of words) item e in
    subst IsSayable m.2 (raw_said words m.0 m.1)

-- a line that is taken is its item's
pub ok_of : {A : Type 0} (x y : A) → (let r : Result A LineFault = Ok x in r ≡ Ok y) → x ≡ y
ok_of x y e = cc

by_itm_is : (kind : Option SourceKind) (given line : Line) → by_itm kind given ≡ Ok line → given ≡ line
by_itm_is (Some kinds.Itm) given line e = ok_of given line e
by_itm_is kind given line e = cc

by_stp_is : (kind : Option SourceKind) (given line : Line) → by_stp kind given ≡ Ok line → given ≡ line
by_stp_is (Some kinds.Stp) given line e = ok_of given line e
by_stp_is kind given line e = cc

by_raw_is : (kind : Option SourceKind) (id : ℕ) (given line : Line) → by_raw kind id given ≡ Ok line → given ≡ line
by_raw_is (Some kind) id given line e = cc
by_raw_is None id given line e = by (id == 125) e
  where
    by : (v : Bool) → (if v then Err Mixed else Ok given) ≡ Ok line → given ≡ line
    by true e = cc
    by false e = ok_of given line e

pub taken_is : (kind : Option SourceKind) (id : ℕ) (item : Item) (line : Line) → taken_by kind id item ≡ Ok line →
    Of id item ≡ line
taken_is kind id (items.Stp s) line e = by_stp_is kind (Of id (items.Stp s)) line e
taken_is kind id (items.Raw bytes) line e = by_raw_is kind id (Of id (items.Raw bytes)) line e
taken_is kind id item line e = by_itm_is kind (Of id item) line e

bind_ok : {A B : Type 0} (o : Option A) (f : LineFault) (g : A → Result B LineFault) (y : B) →
    (ok_or o f >>ₗ g) ≡ Ok y → (x : A) × (o ≡ Some x) × (g x ≡ Ok y)
bind_ok None f g y e = cc
bind_ok (Some x) f g y e = (x, refl, e)

-- what is known of words that are a line: their shape, ID and item, and that the source is one for it
pub record HasWords (plan : Plan) (id : List ℕ) (words : List (List ℕ)) (line : Line) : Type 0 where
  pub shape : Shape
  pub number : ℕ
  pub item : Item
  pub shaped : shape_named words ≡ Some shape
  pub numbered : number_named 1 126 id ≡ Some number
  pub said : item_of shape words ≡ Some item
  pub is : Of number item ≡ line
  pub taken : taken_by (kind_of plan number) number item ≡ Ok line

pub words_are : (plan : Plan) (id : List ℕ) (words : List (List ℕ)) (line : Line) →
    line_of_words plan (id ∷ words) ≡ Ok line → HasWords plan id words line
unfolding line_of_words
words_are plan id words line e =
    let a = bind_ok (shape_named words) BadLine
    (λ shape. ok_or (number_named 1 126 id) BadId >>ₗ λ number. ok_or (item_of shape words) BadNumber >>ₗ λ item.
    taken_by (kind_of plan number) number item) line e in
    let b = bind_ok (number_named 1 126 id) BadId
    (λ number. ok_or (item_of a.0 words) BadNumber >>ₗ λ item.
    taken_by (kind_of plan number) number item) line a.2 in
    let c = bind_ok (item_of a.0 words) BadNumber (λ item. taken_by (kind_of plan b.0) b.0 item) line b.2 in
    record {
      shape = a.0;
      number = b.0;
      item = c.0;
      shaped = a.1;
      numbered = b.1;
      said = c.1;
      is =
          taken_is (kind_of plan b.0) b.0 c.0 line c.2;
      taken = c.2;
    }

words_said : (plan : Plan) (words : List (List ℕ)) (line : Line) → line_of_words plan words ≡ Ok line → IsSaid plan line
unfolding line_of_words
words_said plan [] line e = cc
words_said plan (id ∷ words) line e =
    let w = words_are plan id words line e in
    let n = number_is 1 126 w.number id w.numbered in
    subst (IsSaid plan) w.is (n.0, n.1, item_said w.shape words w.item w.said, w.taken ∙ ap Ok (sym w.is))

pub words_said_if : (plan : Plan) (words : List (List ℕ)) (r : Result Line LineFault) → r ≡ line_of_words plan words →
    IfOk r (IsSaid plan)
words_said_if plan words (Ok line) e = words_said plan words line (sym e)
words_said_if plan words (Err f) e = tt

-- the same of what is put in a place
pub words_said_on : (plan : Plan) (words : List (List ℕ)) (r : Result (Unit {0}) LineFault) (line : Line) →
    line_of_words plan words ≡ answer r line → OnOk r (IsSaid plan line)
words_said_on plan words (Ok done) line e = words_said plan words line e
words_said_on plan words (Err f) line e = tt

-- The bytes of the nibbles that are kept, put one after the other, and the end of the segment behind them.
use Rattle.std.proofs.Common.{◌≡◌, refl, ℕ, ◌+◌, ◌*◌, ◌≤◌, ◌<◌, List, [], ◌∷◌, ◌++◌, sym, ap, ◌∙◌, subst, length}
use Rattle.std.proofs.Common.{get_or, take, append_assoc, append-nil, arith}
use Rattle.std.proofs.lemmas.List.{take_all, take_more, map-append}
use Rattle.std.proofs.lemmas.List.Concat.{flat_map-append}
use Rattle.std.proofs.lemmas.List.Elements.{All-nil}
use Rattle.script_rebuild.specs.Names.{Order, Put, end_bytes, Tagged, Puts, sure_of, Segments, with_bytes, Formatter}
use Rattle.port_formatter.specs.Formatter.{Stands, HasRoom, count_of, kept_by, turns_of}
use Rattle.script_rebuild.specs.declared.encoders.SourceEncoder.{SourceEncoder}
use Rattle.script_rebuild.specs.Script.{tagged, ends_with}
use Rattle.script_rebuild.specs.Encoding.{ids_in, StandsFor, AllStand, KeepsPlaced, flushed}
use Rattle.script_rebuild.proofs.Rooms.{less_room}

-- bytes in the unfinished segment
abbrev begun_with : Segments → List Tagged → Segments
begun_with s bytes = record { ended = s.ended; begun = bytes }

puts_both : (a b c : Formatter) (first second : List Tagged) → Puts a b first → Puts b c second → Puts a c (first ++ second)
puts_both a b c first second p q = record {
  more = p.more ++ q.more;
  kept = q.kept ∙ ap (λ (l : List ℕ). l ++ q.more) p.kept ∙ append_assoc (kept_by a) p.more q.more;
  list = λ port s st. subst (λ (l : List Tagged). Stands c port (begun_with s l)) (append_assoc s.begun first second)
      (q.list port (with_bytes s first) (p.list port s st));
  grown = λ port s st.
      ap (λ (l : List Tagged). sure_of port (begun_with s l)) (sym (append_assoc s.begun first second))
      ∙ q.grown port (with_bytes s first) (p.list port s st)
      ∙ ap (λ (l : List ℕ). l ++ q.more) (p.grown port s st)
      ∙ append_assoc (sure_of port s) p.more q.more;
}

pub nothing_put : (a : Formatter) → Puts a a []
nothing_put a = record {
  more = [];
  kept = sym (append-nil (kept_by a));
  list = λ port s st. subst (λ (l : List Tagged). Stands a port (begun_with s l)) (sym (append-nil s.begun)) st;
  grown = λ port s st.
      ap (λ (l : List Tagged). sure_of port (begun_with s l)) (append-nil s.begun) ∙ sym (append-nil (sure_of port s));
}

-- with one more source
pub ids_more : (slots : List SourceEncoder) (i : ℕ) (d : SourceEncoder) → i < length slots →
    ids_in (take (i + 1) slots) ≡ ids_in (take i slots) ++ (get_or slots i d).id ∷ []
ids_more slots i d lt =
    ap ids_in (take_more slots i d lt)
    ∙ map-append (λ (e : SourceEncoder). e.id) (take i slots) (get_or slots i d ∷ [])

ends_more : (order : Order) (given : ℕ → List Put) (slots : List SourceEncoder) (i : ℕ) (d : SourceEncoder) →
    i < length slots →
    ends_with order given (ids_in (take (i + 1) slots))
    ≡ ends_with order given (ids_in (take i slots))
    ++ tagged (get_or slots i d).id (end_bytes order (given (get_or slots i d).id))
ends_more order given slots i d lt =
    let one = get_or slots i d in
    let ids = ids_in (take i slots) in
    ap (ends_with order given) (ids_more slots i d lt)
    ∙ flat_map-append (λ (x : ℕ). tagged x (end_bytes order (given x))) ids (one.id ∷ [])
    ∙ ap (λ (l : List Tagged). ends_with order given ids ++ l) (append-nil (tagged one.id (end_bytes order (given one.id))))

-- with the bytes of one more
pub one_put : (order : Order) (given : ℕ → List Put) (slots : List SourceEncoder) (i : ℕ) (d : SourceEncoder)
    (a b c : Formatter) → i < length slots → d ≡ get_or slots i d →
    Puts b c (tagged d.id (end_bytes order (given d.id))) → Puts a b (ends_with order given (ids_in (take i slots))) →
    Puts a c (ends_with order given (ids_in (take (i + 1) slots)))
one_put order given slots i d a b c lt is put before =
    let moved = subst (λ (s : SourceEncoder). Puts b c (tagged s.id (end_bytes order (given s.id)))) is put in
    subst (λ (l : List Tagged). Puts a c l) (sym (ends_more order given slots i d lt)) (puts_both a b c _ _ before moved)

-- what holds while they are flushed one after the other
pub record AreEnding (slots later : List SourceEncoder) (i : ℕ) (a b : Formatter) : Type 0 where
  pub turns : turns_of b ≡ turns_of a
  pub count : count_of b ≤ count_of a + i
  pub room : (more : ℕ) → HasRoom a (2 * i + more) → HasRoom b more
  pub ids : ids_in later ≡ ids_in (take i slots)
  pub stand : (order : Order) (given : ℕ → List Put) → AllStand order slots given → AllStand order later (flushed given)
  pub put : (order : Order) (given : ℕ → List Put) → AllStand order slots given →
      ((x : ℕ) → KeepsPlaced (turns_of a) order given x) → Puts a b (ends_with order given (ids_in (take i slots)))

pub none_ending : (slots : List SourceEncoder) (a : Formatter) → AreEnding slots [] 0 a a
none_ending slots a = record {
  turns = refl;
  count = omega arith;
  room = λ more h. less_room a (2 * 0 + more) more (omega arith) h;
  ids = refl;
  stand = λ order given stand. All-nil (StandsFor order (flushed given));
  put = λ order given stand keeps. nothing_put a;
}

pub all_flushed : (order : Order) (given : ℕ → List Put) (slots : List SourceEncoder) (i : ℕ) (a b : Formatter) →
    i ≡ length slots → Puts a b (ends_with order given (ids_in (take i slots))) →
    Puts a b (ends_with order given (ids_in slots))
all_flushed order given slots i a b e put =
    subst (λ (l : List SourceEncoder). Puts a b (ends_with order given (ids_in l)))
    (take_all i slots (omega (arith, e))) put

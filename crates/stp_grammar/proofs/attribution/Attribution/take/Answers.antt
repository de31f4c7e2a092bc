use Rattle.std.proofs.Common.{◌≡◌, List, [], ◌∷◌, ◌++◌, Option, refl, sym, ◌∙◌, ap}
use Rattle.stp_grammar.specs.declared.packet.StpPacket.{StpPacket}
use Rattle.stp_grammar.specs.declared.packet.StpPacket.TheVariants.{Async, Plain, Stamped}
use Rattle.stp_grammar.specs.declared.item.StpItem.{StpItem}
use Rattle.stp_grammar.specs.declared.item.Stamp.TheVariants.{None as NoStamp}
use Rattle.stp_grammar.specs.Attribution.{item_with, item_of, place_of}
use Rattle.stp_grammar.proofs.Attributing.{stands_as, place_is, stamp_is}
use Rattle.stp_grammar.proofs.attribution.Attribution.take.Goals as goal

pub returns-in-Async-clause-list : goal.returns-in-Async-clause-list
returns-in-Async-clause-list c = λ ps s.
    let d = c.args.self.now in
    stands_as d d ps c.args.packet Async c.in-Async.is c.requires.proper s (record { version = refl; master = refl; channel = refl; last = refl })

pub returns-in-Plain-clause-list : goal.returns-in-Plain-clause-list
returns-in-Plain-clause-list c = λ ps s.
    let k = c.in-Plain in
    stands_as c.args.self.now c.note.new.self ps c.args.packet (Plain k.row k.payload) k.is c.requires.proper s c.note.ensures

pub returns-in-Stamped-clause-list : goal.returns-in-Stamped-clause-list
returns-in-Stamped-clause-list c = λ ps s.
    let k = c.in-Stamped in
    stands_as c.args.self.now c.stamp-stamp.new.self ps c.args.packet (Stamped k.row k.payload k.size k.word) k.is c.requires.proper s c.stamp-stamp.ensures.kept

-- the item of a packet that is this one
item_is : (o : Option StpItem) (ps : List StpPacket) (q p : StpPacket) → q ≡ p → o ≡ item_of (ps ++ q ∷ []) p → o ≡ item_of (ps ++ q ∷ []) q
item_is o ps q p e f = f ∙ ap (item_of (ps ++ q ∷ [])) (sym e)

pub returns-in-Plain-clause-item : goal.returns-in-Plain-clause-item
returns-in-Plain-clause-item c = λ ps s.
    let k = c.in-Plain in
    let t = returns-in-Plain-clause-list c ps s in
    item_is _ ps c.args.packet (Plain k.row k.payload) k.is
    (c.item_with.ensures.item ∙ ap (λ z. item_with z NoStamp k.row k.payload) (c.place.ensures.kept ∙ place_is c.note.new.self _ t))

pub returns-in-Stamped-clause-item : goal.returns-in-Stamped-clause-item
returns-in-Stamped-clause-item c = λ ps s.
    let k = c.in-Stamped in
    let t = returns-in-Stamped-clause-list c ps s in
    let all = ps ++ c.args.packet ∷ [] in
    item_is _ ps c.args.packet (Stamped k.row k.payload k.size k.word) k.is
    (c.item_with-in-Stamped.ensures.item
    ∙ ap (λ z. item_with z c.stamp-stamp.result k.row k.payload) (c.place-in-Stamped.ensures.kept ∙ place_is c.stamp-stamp.new.self all t)
    ∙ ap (λ z. item_with (place_of all) z k.row k.payload) (c.stamp-stamp.ensures.stamp ∙ stamp_is c.stamp-stamp.new.self all k.size k.word t))

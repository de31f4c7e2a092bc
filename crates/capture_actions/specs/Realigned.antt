-- What `realign` writes: the realigned bytes. What is sure of them is written as it comes, and the last ones at the
-- end, and where a read failed or the limit was passed, too.
use Rattle.std.specs.Prelude.{ℕ, ◌-◌, List, length, drop, true}
use Rattle.capture_actions.specs.Names.{Meaning, realigned, sure}

abbrev pub realign_text : List ℕ → List ℕ
realign_text bytes = sure bytes

-- the bytes that are not sure
abbrev pub realign_ending : List ℕ → List ℕ
realign_ending bytes = drop (length (realigned bytes).bytes - 4) (realigned bytes).bytes

-- no bytes have a fault
abbrev pub realign_meaning : Meaning
realign_meaning = record { faulty = λ bytes. ⊥; text = realign_text; ending = realign_ending; due = true }

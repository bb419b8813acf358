-- What is answered to the making of a written tree.
use Rattle.std.specs.Prelude.{◌≡◌, ℕ, List, Ok, Err, vec_items, Result}
use Rattle.refusals.specs.declared.Refusal.{Refusal}
use Rattle.words.specs.Faults.{Refused}
use Rattle.words.specs.Grammar.{Reads}
use Rattle.written.specs.Reading.{tree_of}
use Rattle.written.specs.declared.written.Written.{Written}

-- its words are the ones given, and they read as the tree that it stands for; or the words are refused
abbrev pub WrittenOf : List ℕ → Result Written Refusal → Type 0
WrittenOf ws (Ok m) = (vec_items m.words ≡ ws) × Reads ws (tree_of ws)
WrittenOf ws (Err e) = Refused ws e

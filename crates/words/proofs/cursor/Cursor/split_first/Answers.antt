-- A word is taken apart into its kind and its value, where its kind has a number.
use Rattle.std.proofs.Common.{refl}
use Rattle.words.specs.Steps.{NoWord}
use Rattle.words.proofs.Parts.{begins_with}
use Rattle.words.proofs.cursor.Cursor.split_first.Goals as goal

pub returns-in_default-of : goal.returns-in_default-of
returns-in_default-of c = NoWord.kind _ _ _ (begins_with _ _ _ _ _ c.in-Some.ensures.cases.0 refl refl) c.in_default-of.ensures refl

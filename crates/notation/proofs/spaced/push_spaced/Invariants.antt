-- The words so far are written.
use Rattle.std.proofs.Common.{◌≡◌, ℕ, List, ◌^◌, ◌<◌, ◌∷◌, ◌++◌, Some, get_or, take, string_bytes}
use Rattle.notation.specs.Spaced.{spaced_by}
use Rattle.notation.proofs.spaced.push_spaced.Given as goal

abbrev pub invariant-loop-word : goal.invariant-loop-word
invariant-loop-word g l =
    (w : ℕ → List ℕ) → ((x : ℕ) (y : g.row.T.Denot) → x < 2 ^ 32 → goal.F-post g l.shown x y → g.T.Display.output y ≡ Some (w x))
    → string_bytes l.text ≡ string_bytes l.fn.text ++ spaced_by w (get_or l.words 0 0 ∷ take l.word-index l.others)

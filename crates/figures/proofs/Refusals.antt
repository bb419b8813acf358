-- What is answered to a table that is not lawful. Assumes nothing.
use Rattle.std.proofs.Common.{ℕ, List, Ok, Err, Result, ap}
use Rattle.correlation.specs.Answers.{HasAbove, Replaced}
use Rattle.correlation.specs.Tables.{LawfulAbove}
use Rattle.correlation.specs.declared.table.Table.{Table}
use Rattle.refusals.specs.Numbers.{number_of}
use Rattle.refusals.specs.declared.Refusal.{Refusal}
use Rattle.figures.specs.Figures.{RefusedBy}

pub refused_24 : (n : ℕ) (above : List ℕ) → (LawfulAbove n above → ⊥) → (before after : Table) (r : Result (Unit {0}) Refusal) → Replaced (LawfulAbove n above) (HasAbove n above) before after r → RefusedBy 24 r
refused_24 n above unlawful before after (Ok u) h = unlawful h.0
refused_24 n above unlawful before after (Err e) h = ap number_of h.1

-- What is left to show of `Written::new`.
use Rattle.std.proofs.Common.{ℕ, List, sym, refl, subst}
use Rattle.modules.specs.Trees.{Tree}
use Rattle.std.proofs.lemmas.Result.{err_from_is_err_and}
use Rattle.words.specs.Faults.{Refused}
use Rattle.words.specs.Grammar.{Reads}
use Rattle.written.specs.Reading.{tree_of, Readable}
use Rattle.written.specs.Known.{tree_is}
use Rattle.written.proofs.written.Written.new.Goals as goal

pub returns-in_err-read : goal.returns-in_err-read
returns-in_err-read c =
    let p = err_from_is_err_and c.from_residual.result c.from_residual.ensures.1 in
    rw (p.1, p.2) (subst (λ l. Refused l c.in_err-read.field-0.0) c.as_slice.ensures.value c.in_err-read.ensures.answer)

-- the words read as a tree, and so as the one that they stand for
own : (ws : List ℕ) (t : Tree) → Reads ws t → Reads ws (tree_of ws)
own ws t reads = subst (Reads ws) (sym (tree_is ws t reads)) reads

pub invariant_of-result : goal.invariant_of-result
invariant_of-result c =
    let read = c.in_ok-read.ensures.answer in
    record { reads = subst Readable c.as_slice.ensures.value ∣ own _ read.0 read.1 ∣₁ }

pub returns : goal.returns
returns c =
    let read = c.in_ok-read.ensures.answer in
    (refl, subst (λ l. Reads l (tree_of l)) c.as_slice.ensures.value (own _ read.0 read.1))

-- An answer of one step from that of another. Assumes nothing.
use Rattle.std.proofs.Common.{◌≡◌, Ok, Err, Result, IsErr, IsErrAnd, sym, subst}
use Rattle.notation.specs.Steps.{Lacks, Answer}
use Rattle.notation.specs.declared.stop.Stop.{Stop}
use Rattle.notation.specs.declared.stop.Stop.TheVariants.{NoNotation, Memory}

pub lacks_from : {M N : Type 0} (e : Stop) → (M → N) → Lacks M e → Lacks N e
lacks_from NoNotation g h = g h
lacks_from (Memory e) g h = tt

pub lacking : {N : Type 0} (e : Stop) → N → Lacks N e
lacking NoNotation h = h
lacking (Memory e) h = tt

pub answer_from : {A : Type 0} (r : Result A Stop) {P Q : A → Type 0} {M N : Type 0} → ((x : A) → P x → Q x) → (M → N) → Answer r P M → Answer r Q N
answer_from (Ok x) f g h = f x h
answer_from (Err e) f g h = lacks_from e g h

-- a step that stops where an earlier one did
pub stops : {A : Type 0} (r : Result A Stop) (e : Stop) (P : A → Type 0) (N : Type 0) → IsErr r × IsErrAnd r (λ s. s ≡ e) → Lacks N e → Answer r P N
stops (Ok x) e P N is h = absurd is.1
stops (Err s) e P N is h = subst (Lacks N) (sym is.1) h

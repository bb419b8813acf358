-- A run with one statement more. Assumes nothing.
use Rattle.std.proofs.Common.{◌≡◌, ℕ, ◌+◌, ◌<◌, List, [], ◌∷◌, ◌++◌, map, length, get_or, take, sym, refl, subst, subst₂}
use Rattle.std.proofs.lemmas.List.{map_more}
use Rattle.script.specs.Meaning.{Said, said}
use Rattle.script.specs.declared.Statement.{Statement}
use Rattle.session.specs.Runs.{Answered, Ran}
use Rattle.session.specs.declared.answer.Answer.{Answer}
use Rattle.session.specs.declared.state.State.{State}

ran_push : (ss : List Said) (answers : List Answer) (first next last : State) (s : Said) (a : Answer) → Ran ss first answers next → Answered s next last a → Ran (ss ++ s ∷ []) first (answers ++ a ∷ []) last
ran_push [] [] first next last s a ran answered = (last, subst (λ t. Answered s t last a) ran answered, refl)
ran_push [] (b ∷ answers) first next last s a ran answered = absurd ran
ran_push (t ∷ ss) [] first next last s a ran answered = absurd ran
ran_push (t ∷ ss) (b ∷ answers) first next last s a ran answered =
    (ran.0, ran.1, ran_push ss answers ran.0 next last s a ran.2 answered)

-- the step of a loop over statements
pub ran_more : (statements : List Statement) (i : ℕ) (s : Statement) (answers more : List Answer) (first next last : State) (a : Answer) → i < length statements → s ≡ get_or statements i s → more ≡ answers ++ a ∷ [] → Ran (map said (take i statements)) first answers next → Answered (said s) next last a → Ran (map said (take (i + 1) statements)) first more last
ran_more statements i s answers more first next last a within is pushed ran answered =
    subst₂ (λ ss as'. Ran ss first as' last) (sym (map_more said statements i s within)) (sym pushed)
    (ran_push (map said (take i statements)) answers first next last (said (get_or statements i s)) a ran (subst (λ x. Answered (said x) next last a) is answered))

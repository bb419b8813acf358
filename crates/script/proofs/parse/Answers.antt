-- Each turn reads the words of one line.
use Rattle.std.proofs.Common.{◌≡◌, ℕ, ◌+◌, ◌<◌, List, [], ◌∷◌, ◌++◌, refl, true-eqb, map, length, get_or, drop, vec_items, Some, None, Ok, Err, Option, sym, ap, ◌∙◌, subst, rules, tests, arith, ◌==◌}
use Rattle.std.proofs.lemmas.Iterator.Consumers.{YieldsList-from_enumerate, YieldsList-at, YieldsList-turn, YieldsList-end}
use Rattle.std.proofs.lemmas.Iterator.Splits.{YieldsList-from_slice_split}
use Rattle.std.proofs.lemmas.List.{length_push, nil_from_length}
use Rattle.std.proofs.lemmas.List.FromFn.{get_or-enumerate_from, length-enumerate_from}
use Rattle.std.proofs.lemmas.Iterator.{YieldsList}
use Rattle.std.specs.Iterator.{Yields}
use Rattle.std.specs.List.{enumerate_from}
use Rattle.script.specs.Meaning.{Told, said, lines_from, fault_on}
use Rattle.script.specs.Pieces.{before_comment, words_of, lines_of}
use Rattle.script.proofs.Back.{read_back}
use Rattle.script.proofs.Turns.{then, passed, stated, unread_line, all_read}
use Rattle.script.proofs.parse.Goals as goal
use Rattle.script.proofs.parse.Goals.{After-is_empty}

-- the line at a turn, and its number
record Turn (ls : List (List ℕ)) (i above : ℕ) (line : List ℕ) : Type 0 where
  within : i < length ls
  number : above ≡ i
  is : line ≡ get_or ls i line

turned : (ls : List (List ℕ)) (i above : ℕ) (line : List ℕ) → (i < length (enumerate_from 0 ls)) × ((above, line) ≡ get_or (enumerate_from 0 ls) i (above, line)) → Turn ls i above line
turned ls i above line t =
    let h : i < length ls = omega (arith, t.0, length-enumerate_from 0 ls) in
    let e : (above, line) ≡ (0 + i, get_or ls i line) = t.1 ∙ get_or-enumerate_from 0 ls i (above, line) h in
    record { within = h; number = omega (arith, ap (λ p. p.0) e); is = ap (λ p. p.1) e }

-- the library's lemmas on a turn and on the end, with the chain last, so that the closure in it is known
turn_at : {S A B : Type 0} {steps : S → Option A → S → Type 0} {v : A → B} {s : S} {all : List B} (xs : List A) (t : S) → Yields steps s xs t → (r : Option A) (u : S) (x : A) → r ≡ Some x → steps t r u → YieldsList steps v s all → (length xs < length all) × (v x ≡ get_or all (length xs) (v x))
turn_at xs t y r u x is step chain = YieldsList-turn chain xs t y r u x is step

end_at : {S A B : Type 0} {steps : S → Option A → S → Type 0} {v : A → B} {s : S} {all : List B} (xs : List A) (t : S) → Yields steps s xs t → (r : Option A) (u : S) → r ≡ None → steps t r u → YieldsList steps v s all → (map v xs ≡ all) × (length xs ≡ length all)
end_at xs t y r u is step chain = YieldsList-end chain xs t y r u is step

-- one item more
more : {A : Type 0} (xs : List A) (x : A) (ss : List _) (ls : List (List ℕ)) (all : Told) → then ss (lines_from (length xs + 1 + 1) (drop (length xs + 1) ls)) ≡ all → then ss (lines_from (length (xs ++ x ∷ []) + 1) (drop (length (xs ++ x ∷ [])) ls)) ≡ all
more xs x ss ls all inv = subst (λ n. then ss (lines_from (n + 1) (drop n ls)) ≡ all) (sym (length_push xs x)) inv

-- the line of a turn
module _ (c : After-is_empty) where
  at : Turn (lines_of c.args.text.now) (length c.loop-above.yielded) c.in-Some.above c.in-Some.line.now
  at =
      turned (lines_of c.args.text.now) _ _ _
      (turn_at c.loop-above.yielded _ c.loop-above.yielded_by _ _ (c.in-Some.above, c.in-Some.line) c.in-Some.is c.next.ensures.steps
      (YieldsList-from_enumerate (YieldsList-at (cc) (YieldsList-from_slice_split {s = c.split.result} _ (λ b. b == 10) c.args.text.now c.split.ensures.rest c.split.ensures.done c.split.ensures.closure (λ x r q k. search (rules, tests)))) (cc)))

  -- what its words are
  words_at : (content left : List ℕ) → left ≡ content → content ≡ before_comment c.in-Some.line.now → words_of left ≡ words_of (before_comment (get_or (lines_of c.args.text.now) (length c.loop-above.yielded) c.in-Some.line.now))
  words_at content left of cut = ap words_of (of ∙ cut ∙ ap before_comment at.is)

-- an empty line has none
no_words : (line : List ℕ) → length line ≡ 0 → [] ≡ words_of (before_comment line)
no_words line empty = ap (λ l. words_of (before_comment l)) (sym (nil_from_length line empty))

pub loop-above-preserved-then-is_empty : goal.loop-above-preserved-then-is_empty
loop-above-preserved-then-is_empty c =
    let here = at (goal.at.loop-above-preserved-then-is_empty c).After-is_empty in
    let is = no_words c.in-Some.line.now (true-eqb _ 0 c.if-is_empty.ensures) ∙ ap (λ l. words_of (before_comment l)) here.is in
    more c.loop-above.yielded _ (map said (vec_items c.loop-above.statements)) (lines_of c.args.text.now) _
    (passed _ _ _ here.within _ is _ _ refl c.loop-above.invariant)

pub loop-above-preserved-in_default : goal.loop-above-preserved-in_default
loop-above-preserved-in_default c =
    let here = (goal.at.loop-above-preserved-in_default c).After-is_empty in
    more c.loop-above.yielded _ (map said (vec_items c.loop-above.statements)) (lines_of c.args.text.now) _
    (passed _ _ _ (at here).within _ (words_at here _ _ c.of-words.ensures c.content.ensures) _ _ c.in_default.ensures.steps.0 c.loop-above.invariant)

pub loop-above-preserved : goal.loop-above-preserved
loop-above-preserved c =
    let here = (goal.at.loop-above-preserved c).After-is_empty in
    more c.loop-above.yielded _ (map said (vec_items c.push.new.self)) (lines_of c.args.text.now) _
    (stated _ _ _ (at here).within _ (words_at here _ _ c.of-words.ensures c.content.ensures) _ _ c.in-Some-next.ensures.steps (vec_items c.loop-above.statements) (vec_items c.push.new.self) _ _ c.in-Ok.ensures c.in_ok-push-in-Ok.ensures.items c.loop-above.invariant)

pub returns-in-Err : goal.returns-in-Err
returns-in-Err c =
    let here = (goal.at.returns-in-Err c).After-is_empty in
    let fault = c.on_line.ensures ∙ ap (λ n. fault_on (n + 1) c.in-Err.unread) (at here).number in
    let means = unread_line _ _ _ (at here).within _ (words_at here _ _ c.of-words.ensures c.content.ensures) _ _ c.in-Some-next.ensures.steps (map said (vec_items c.loop-above.statements)) _ _ _ c.in-Err.ensures fault c.loop-above.invariant in
    record { meaning = means; back = read_back c.args.text.now (Err c.on_line.result) means }

pub returns : goal.returns
returns c =
    let all = end_at c.loop-above.yielded _ c.loop-above.yielded_by _ _ c.in-None.is c.next.ensures.steps
    (YieldsList-from_enumerate (YieldsList-at (cc) (YieldsList-from_slice_split {s = c.split.result} _ (λ b. b == 10) c.args.text.now c.split.ensures.rest c.split.ensures.done c.split.ensures.closure (λ x r q k. search (rules, tests)))) (cc)) in
    let means = all_read (lines_of c.args.text.now) (length c.loop-above.yielded) (map said (vec_items c.loop-above.statements)) _ (omega (arith, all.1, length-enumerate_from 0 (lines_of c.args.text.now))) c.loop-above.invariant in
    record { meaning = means; back = read_back c.args.text.now (Ok c.loop-above.statements) means }

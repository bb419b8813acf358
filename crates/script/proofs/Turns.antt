-- Statements that were read, before what the lines still to come say.
use Rattle.std.proofs.Common.{◌≡◌, ℕ, ◌+◌, ◌<◌, ◌≤◌, List, [], ◌∷◌, ◌++◌, map, length, get_or, drop, Ok, Err, subst, sym, refl, ap, ◌∙◌, append_assoc, append-nil}
use Rattle.std.proofs.lemmas.List.{at_drop_more, at_drop_all, map_push}
use Rattle.script.specs.declared.Fault.{Fault}
use Rattle.script.specs.declared.Misread.{Misread}
use Rattle.script.specs.declared.Unread.{Unread}
use Rattle.script.specs.declared.Unread.TheVariants as unread
use Rattle.script.specs.declared.Statement.{Statement}
use Rattle.script.specs.Meaning.{Said, Told, statement_of, above, line_above, lines_from, said, Reads, fault_on, Tells}
use Rattle.script.specs.Pieces.{before_comment, words_of}

-- ss, and behind them what is told of the lines to come
abbrev pub then : List Said → Told → Told
then ss (Ok rest) = Ok (ss ++ rest)
then ss (Err e) = Err e

then_more : (ss : List Said) (n : ℕ) (s : Said) (rest : Told) → then ss (above n (Ok s) rest) ≡ then (ss ++ s ∷ []) rest
then_more ss n s (Ok rest) = ap Ok (sym (append_assoc ss (s ∷ []) rest))
then_more ss n s (Err e) = refl

-- the line at i, with its words
module _ (ls : List (List ℕ)) (i : ℕ) (d : List ℕ) (h : i < length ls) (ws : List (List ℕ)) (is : ws ≡ words_of (before_comment (get_or ls i d))) where
  line_first : lines_from (i + 1) (drop i ls) ≡ line_above (i + 1) ws (lines_from (i + 1 + 1) (drop (i + 1) ls))
  line_first = at_drop_more (lines_from (i + 1)) ls i d h ∙ ap (λ ws. line_above (i + 1) ws (lines_from (i + 1 + 1) (drop (i + 1) ls))) (sym is)

  pub passed : (ss : List Said) (all : Told) → ws ≡ [] → then ss (lines_from (i + 1) (drop i ls)) ≡ all → then ss (lines_from (i + 1 + 1) (drop (i + 1) ls)) ≡ all
  passed ss all none inv =
      ap (λ ws. then ss (line_above (i + 1) ws (lines_from (i + 1 + 1) (drop (i + 1) ls)))) (sym none) ∙ ap (then ss) (sym line_first) ∙ inv

  module _ (v : List ℕ) (vs : List (List ℕ)) (some : ws ≡ v ∷ vs) where
    pub stated : (us ts : List Statement) (s : Statement) (all : Told) → statement_of v vs ≡ Ok (said s) → ts ≡ us ++ s ∷ [] → then (map said us) (lines_from (i + 1) (drop i ls)) ≡ all → then (map said ts) (lines_from (i + 1 + 1) (drop (i + 1) ls)) ≡ all
    stated us ts s all read pushed inv =
        let rest = lines_from (i + 1 + 1) (drop (i + 1) ls) in
        ap (λ l. then l rest) (ap (map said) pushed ∙ map_push said us s)
        ∙ sym (then_more (map said us) (i + 1) (said s) rest)
        ∙ ap (λ r. then (map said us) (above (i + 1) r rest)) (sym read)
        ∙ ap (λ ws. then (map said us) (line_above (i + 1) ws rest)) (sym some)
        ∙ ap (then (map said us)) (sym line_first) ∙ inv

    misread : (ss : List Said) (m : Misread) (all : Told) → statement_of v vs ≡ Err m → then ss (lines_from (i + 1) (drop i ls)) ≡ all → all ≡ Err (i + 1, m)
    misread ss m all read inv =
        let rest = lines_from (i + 1 + 1) (drop (i + 1) ls) in
        sym inv ∙ ap (then ss) line_first ∙ ap (λ ws. then ss (line_above (i + 1) ws rest)) some ∙ ap (λ r. then ss (above (i + 1) r rest)) read

    pub unread_line : (ss : List Said) (u : Unread) (f : Fault) (all : Told) → Reads said (statement_of v vs) (Err u) → f ≡ fault_on (i + 1) u → then ss (lines_from (i + 1) (drop i ls)) ≡ all → Tells all (Err f)
    unread_line ss unread.Memory f all read is inv = subst (λ f. Tells all (Err f)) (sym is) tt
    unread_line ss (unread.Misread m) f all read is inv = subst (λ f. Tells all (Err f)) (sym is) (misread ss m all read inv)

pub all_read : (ls : List (List ℕ)) (i : ℕ) (ss : List Said) (all : Told) → length ls ≤ i → then ss (lines_from (i + 1) (drop i ls)) ≡ all → all ≡ Ok ss
all_read ls i ss all h inv = sym inv ∙ ap (then ss) (at_drop_all (lines_from (i + 1)) ls i h) ∙ ap Ok (append-nil ss)

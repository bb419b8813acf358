-- What the reading of each part of a notation answers.
use Rattle.std.specs.Prelude.{◌≡◌, ℕ, ◌≤◌, List, [], ◌∷◌, ◌++◌, map, Some, None, Option, Result, MatchResult, ◌≢◌}
use Rattle.words.specs.Words.{word, entry_words, kind_number, line_kind, sum_kind, greater_kind, root_kind}
use Rattle.words.specs.declared.kind.Kind.{Kind}
use Rattle.notation.specs.Sketches.{Over, sum, greater, root, Sketch, Sketches, over_tokens, over_words, tokens_of, tokens_of_all, behind, words_of, words_of_all, count, depth, deepest}
use Rattle.notation.specs.Tokens.{clipped}
use Rattle.notation.specs.declared.reading.Reader.{Reader}
use Rattle.notation.specs.declared.stop.Stop.{Stop}
use Rattle.notation.specs.declared.stop.Stop.TheVariants.{NoNotation, Memory}
use Rattle.notation.specs.declared.token.Token.{Token}
use Rattle.notation.specs.declared.token.Token.TheVariants.{Line, Number, Open, Close, EntriesClose}

-- the kind of the word of what stands over a list
abbrev pub over_kind : Over → ℕ
over_kind sum = sum_kind
over_kind greater = greater_kind
over_kind (root es) = root_kind

-- the tokens begin with a head and go on with the rest, and the words have its words more: a line, or what stands over a list, its count still 0
abbrev pub Begins : Option Kind → List Token → List ℕ → List ℕ → List Token → Type 0
Begins None ts before after rest = (n : ℕ) × (ts ≡ Line ∷ Number n ∷ rest) × (after ≡ before ++ word line_kind (clipped n) ∷ [])
Begins (Some k) ts before after rest = (o : Over) × (kind_number k ≡ over_kind o) × (ts ≡ over_tokens o ++ rest) × (after ≡ before ++ over_words o 0)

-- no head is written there
pub record NoHead (ts : List Token) : Type 0 where
  pub no_line : (n : ℕ) (rest : List Token) → ts ≢ Line ∷ Number n ∷ rest
  pub no_over : (o : Over) (rest : List Token) → ts ≢ over_tokens o ++ rest

-- no `)` stands there
abbrev pub NoClose : List Token → Type 0
NoClose ts = (rest : List Token) → ts ≢ Close ∷ rest

-- entries up to `](`
pub record Entries (ts : List Token) (before after : List ℕ) (rest : List Token) (es : List ℕ) : Type 0 where
  pub tokens : ts ≡ map Number es ++ EntriesClose ∷ Open ∷ rest
  pub words : after ≡ before ++ entry_words (map clipped es)

abbrev pub NoEntries : List Token → Type 0
NoEntries ts = (es : List ℕ) (rest : List Token) → ts ≢ map Number es ++ EntriesClose ∷ Open ∷ rest

-- a sketch of so many levels at most
pub record Read (levels : ℕ) (ts : List Token) (before after : List ℕ) (rest : List Token) (s : Sketch) : Type 0 where
  pub tokens : ts ≡ tokens_of s ++ rest
  pub words : after ≡ before ++ words_of s
  pub shallow : depth s ≤ levels

abbrev pub NoSketch : ℕ → List Token → Type 0
NoSketch levels ts = (s : Sketch) (rest : List Token) → depth s ≤ levels → ts ≢ tokens_of s ++ rest

-- a list of sketches up to its `)`, and how many they are, clipped
pub record ReadAll (levels : ℕ) (ts : List Token) (before after : List ℕ) (n : ℕ) (rest : List Token) (f : Sketches) : Type 0 where
  pub tokens : ts ≡ tokens_of_all f ++ rest
  pub words : after ≡ before ++ words_of_all f
  pub counted : n ≡ clipped (count f)
  pub shallow : deepest f ≤ levels

abbrev pub NoSketches : ℕ → List Token → Type 0
NoSketches levels ts = (f : Sketches) (rest : List Token) → deepest f ≤ levels → ts ≢ tokens_of_all f ++ rest

-- one or more branches, up to the `)`
abbrev pub NoBranches : ℕ → List Token → Type 0
NoBranches levels ts =
    (s : Sketch) (f : Sketches) (rest : List Token) → depth s ≤ levels → deepest f ≤ levels → ts ≢ tokens_of s ++ (behind f ++ rest)

-- why a reading stops: no notation is written there; of a want of memory nothing is said
abbrev pub Lacks : Type 0 → Stop → Type 0
Lacks none NoNotation = none
Lacks none (Memory e) = Unit {0}

-- what was read, or that it is not written there
abbrev pub Answer : {A : Type 0} → Result A Stop → (A → Type 0) → Type 0 → Type 0
Answer r read none = MatchResult r read (Lacks none)

-- the answers of reading entries, a head, a branch and a list, by the reader before and after
abbrev pub EntriesRead : Reader → Reader → Result (Unit {0}) Stop → Type 0
EntriesRead old new r =
    Answer r (λ _. (es : List ℕ) × Entries old.left.now old.words.items new.words.items new.left.now es) (NoEntries old.left.now)

abbrev pub HeadRead : List Token → Reader → Reader → Result (Option Kind) Stop → Type 0
HeadRead ts old new r = Answer r (λ b. Begins b ts old.words.items new.words.items new.left.now) (NoHead ts)

abbrev pub BranchRead : ℕ → Reader → Reader → Result (Unit {0}) Stop → Type 0
BranchRead levels old new r =
    Answer r (λ _. (s : Sketch) × Read levels old.left.now old.words.items new.words.items new.left.now s) (NoSketch levels old.left.now)

abbrev pub ListRead : ℕ → Reader → Reader → Result ℕ Stop → Type 0
ListRead levels old new r =
    Answer r (λ n. (f : Sketches) × ReadAll levels old.left.now old.words.items new.words.items n new.left.now f) (NoSketches levels old.left.now)

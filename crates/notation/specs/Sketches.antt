-- What the notation writes: a sketch of a tree, of any numbers and any counts, and the words that it stands for.
use Rattle.std.specs.Prelude.{◌≡◌, ℕ, ◌+◌, ◌≤◌, max, List, [], ◌∷◌, ◌++◌, map, Some}
use Rattle.words.specs.Words.{word, entry_words, line_kind, sum_kind, greater_kind, root_kind, most_words}
use Rattle.notation.specs.Tokens.{clipped, tokens}
use Rattle.notation.specs.declared.token.Token.{Token}
use Rattle.notation.specs.declared.token.Token.TheVariants.{Line, Sum, Greater, Root, Number, Open, Close, Comma, EntriesOpen, EntriesClose}

-- what stands over a list of branches: a sum, a greater, a root with its entries
pub data Over : Type 0 where
  sum : Over
  greater : Over
  root : List ℕ → Over

mutual
  pub data Sketch : Type 0 where
    line : ℕ → Sketch
    over : Over → Sketches → Sketch

  -- in order
  pub data Sketches : Type 0 where
    none : Sketches
    more : Sketch → Sketches → Sketches

-- how a sketch is written: `line N`, `sum(..)`, `greater(..)`, `root[E E ..](..)`
abbrev pub over_tokens : Over → List Token
over_tokens sum = Sum ∷ Open ∷ []
over_tokens greater = Greater ∷ Open ∷ []
over_tokens (root es) = Root ∷ EntriesOpen ∷ map Number es ++ EntriesClose ∷ Open ∷ []

abbrev mutual
  pub tokens_of : Sketch → List Token
  tokens_of (line n) = Line ∷ Number n ∷ []
  tokens_of (over o f) = over_tokens o ++ tokens_of_all f

  -- a comma stands between two branches, and `)` behind the last
  pub tokens_of_all : Sketches → List Token
  tokens_of_all none = Close ∷ []
  tokens_of_all (more s f) = tokens_of s ++ behind f

  pub behind : Sketches → List Token
  behind none = Close ∷ []
  behind (more s f) = Comma ∷ tokens_of s ++ behind f

abbrev pub count : Sketches → ℕ
count none = 0
count (more s f) = 1 + count f

-- The words that it stands for. A word's value is the number or the count that stands there, clipped to the largest.
abbrev pub over_words : Over → ℕ → List ℕ
over_words sum n = word sum_kind n ∷ []
over_words greater n = word greater_kind n ∷ []
over_words (root es) n = word root_kind n ∷ entry_words (map clipped es)

abbrev mutual
  pub words_of : Sketch → List ℕ
  words_of (line n) = word line_kind (clipped n) ∷ []
  words_of (over o f) = over_words o (clipped (count f)) ++ words_of_all f

  pub words_of_all : Sketches → List ℕ
  words_of_all none = []
  words_of_all (more s f) = words_of s ++ words_of_all f

-- how deep it is
abbrev mutual
  pub depth : Sketch → ℕ
  depth (line n) = 1
  depth (over o f) = 1 + deepest f

  pub deepest : Sketches → ℕ
  deepest none = 0
  deepest (more s f) = max (depth s) (deepest f)

-- A sketch is at most as deep as there may be words; a deeper one would have more words than are ever read.
abbrev pub most_deep : ℕ
most_deep = most_words

-- the text is the notation of this sketch
pub record Notation (text : List ℕ) (s : Sketch) : Type 0 where
  pub written : tokens text ≡ Some (tokens_of s)
  pub shallow : depth s ≤ most_deep

-- the text is the notation of one sketch and of no other, and stands for its words
abbrev pub Noted : List ℕ → List ℕ → Type 0
Noted text ws = (s : Sketch) × Notation text s × (ws ≡ words_of s) × ((u : Sketch) → Notation text u → u ≡ s)

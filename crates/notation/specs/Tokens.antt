-- The tokens of the notation: names, numbers and marks.
use Rattle.std.specs.Prelude.{ℕ, ◌-◌, min, cond, List, [], ◌∷◌, Some, None, codes, Option, ◌==◌}
use Rattle.std.specs.Str.{bytes_eq}
use Rattle.std.specs.Option.{option_map}
use Rattle.digits.specs.Numbers.{number_up_to}
use Rattle.words.specs.Words.{value_room}
use Rattle.notation.specs.Pieces.{pieces}
use Rattle.notation.specs.declared.token.Token.{Token}
use Rattle.notation.specs.declared.token.Token.TheVariants.{Line, Sum, Greater, Root, Number, Open, Close, Comma, EntriesOpen, EntriesClose}

-- the largest value of a word, which stands for every number above it
abbrev pub largest : ℕ
largest = value_room - 1

abbrev pub clipped : ℕ → ℕ
clipped n = min n largest

-- one or more digits are a number, clipped
abbrev pub number_of : List ℕ → Option Token
number_of p = option_map Number (number_up_to largest p)

-- the name or the number that a piece is, where it is one
abbrev pub name_of : List ℕ → Option Token
name_of p =
    cond (bytes_eq p (codes "line")) (Some Line) (
    cond (bytes_eq p (codes "sum")) (Some Sum) (
    cond (bytes_eq p (codes "greater")) (Some Greater) (
    cond (bytes_eq p (codes "root")) (Some Root) (number_of p)
    )
    )
    )

-- the mark that a byte is, where it is one: ( ) , [ ]
abbrev pub mark_of : ℕ → Option Token
mark_of b =
    cond (b == 40) (Some Open) (
    cond (b == 41) (Some Close) (
    cond (b == 44) (Some Comma) (
    cond (b == 91) (Some EntriesOpen) (
    cond (b == 93) (Some EntriesClose) None
    )
    )
    )
    )

-- the first where it is there, else the second
abbrev pub or_else : Option Token → Option Token → Option Token
or_else (Some t) o = Some t
or_else None o = o

-- the token that a piece is, where it is one
abbrev pub token_of_piece : List ℕ → Option Token
token_of_piece [] = None
token_of_piece (b ∷ bs) = or_else (mark_of b) (name_of (b ∷ bs))

-- a token and those behind it, where all are there
abbrev pub before : Option Token → Option (List Token) → Option (List Token)
before None ts = None
before (Some t) None = None
before (Some t) (Some ts) = Some (t ∷ ts)

-- the tokens that pieces are, where each is one
abbrev pub tokens_in : List (List ℕ) → Option (List Token)
tokens_in [] = Some []
tokens_in (p ∷ ps) = before (token_of_piece p) (tokens_in ps)

-- the tokens of a text
abbrev pub tokens : List ℕ → Option (List Token)
tokens text = tokens_in (pieces text)

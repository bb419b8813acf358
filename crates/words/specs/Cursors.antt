-- A cursor: words that are still to be read, and the place of the first.
use Rattle.std.specs.Prelude.{◌≡◌, ℕ, ◌+◌, length}
use Rattle.words.specs.declared.cursor.Cursor.{Cursor}

-- the place behind the last word
abbrev pub end_of : Cursor → ℕ
end_of c = c.place + length c.words.now

-- what is left behind some of a cursor's words ends where these end
abbrev pub IsBehind : Cursor → Cursor → Type 0
IsBehind from rest = end_of rest ≡ end_of from

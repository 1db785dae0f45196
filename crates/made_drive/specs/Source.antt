-- A source of lines that are made.
use Rattle.std.specs.Prelude.{ℕ, List, ◌++◌}

-- the rest of the line that was begun, and the text of the lines to come
pub record MadeText : Type 0 where
  pub begun : List ℕ
  pub to_come : List ℕ

-- the text that is still to be read
abbrev pub text_left : MadeText → List ℕ
text_left made = made.begun ++ made.to_come

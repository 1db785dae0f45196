-- What a text says behind its first word.
use Rattle.std.specs.Prelude.{ℕ, List, [], Option, Some, None}
use denote.Ref.{Bor}
use Rattle.trace_text.specs.Drives.{words_of}

-- the words behind the space after the first word, where there is one
abbrev pub words_behind : Option (Bor (List ℕ)) → List (List ℕ)
words_behind None = []
words_behind (Some rest) = words_of rest.now

-- What a line of a call list is.
use Rattle.std.specs.Prelude.{◌≡◌, ◌==◌, ℕ, List, false}
use Rattle.std.specs.List.{All}

-- No byte of it is a newline.
abbrev pub NoNewline : List ℕ → Type 0
NoNewline bs = All (λ b. (b == 10) ≡ false) bs

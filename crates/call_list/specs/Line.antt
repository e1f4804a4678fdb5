-- How a line is cut into words.
use Rattle.std.specs.Prelude.{◌≡◌, ℕ, ◌<◌, Bool, true, false, cond, not, ◌||◌, List, [], ◌∷◌, ◌++◌, map, length, ◌==◌}
use Rattle.std.specs.Borrow.{Bor}
use Rattle.std.specs.List.{list_all}

-- each byte passes the test
abbrev pub every : (ℕ → Bool) → List ℕ → Bool
every test bs = list_all test bs

-- a space, a tab or a carriage return
abbrev pub blank : ℕ → Bool
blank b = b == 32 || (b == 9 || b == 13)

-- a word that has ended; no bytes at all between two blanks are no word
abbrev pub ended : List ℕ → List (List ℕ)
ended [] = []
ended (b ∷ bs) = (b ∷ bs) ∷ []

-- the words of what is left of a line, whose first word begins with what was read of it before
abbrev pub split : List ℕ → List ℕ → List (List ℕ)
split before [] = ended before
split before (b ∷ bs) = cond (blank b) (ended before ++ split [] bs) (split (before ++ (b ∷ [])) bs)

abbrev pub words_of : List ℕ → List (List ℕ)
words_of bytes = split [] bytes

-- nothing is left, or a blank stands first
abbrev pub at_gap : List ℕ → Bool
at_gap [] = true
at_gap (b ∷ bs) = blank b

-- bs is blanks, the word w, and then rest, where a gap begins or nothing is left
pub record First (bs w rest : List ℕ) : Type 0 where
  pub gap : List ℕ
  pub cut : bs ≡ gap ++ (w ++ rest)
  pub blanks : every blank gap ≡ true
  pub some : 0 < length w
  pub solid : every (λ b. not (blank b)) w ≡ true
  pub ends : at_gap rest ≡ true

-- ws are the words of bs, said without a way to find them
abbrev pub Words : List ℕ → List (List ℕ) → Type 0
Words bs [] = every blank bs ≡ true
Words bs (w ∷ ws) = (rest : List ℕ) × First bs w rest × Words rest ws

-- the line begins with '#', so it is for a human reader only
abbrev pub comment : List ℕ → Bool
comment [] = false
comment (b ∷ bs) = b == 35

-- what slices of a line hold
abbrev pub contents : List (Bor (List ℕ)) → List (List ℕ)
contents slices = map (λ s. s.now) slices

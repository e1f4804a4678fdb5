-- What is printed of a mistake.
use Rattle.std.specs.Prelude.{ℕ, List, ◌++◌, codes, decimal}
use Rattle.call_list.specs.declared.mistakes.Mistake.{Mistake}
use Rattle.call_list.specs.declared.mistakes.Mistake.TheVariants.{UnknownCall, MissingWord, SpareWord, NotANumber, NumberTooLarge, NotHexadecimal, OddDigits, NotAPair, OutOfMemory}

abbrev pub of_word : ℕ → List ℕ → List ℕ
of_word k what = codes "word " ++ (decimal k ++ what)

abbrev pub phrase : Mistake → List ℕ
phrase UnknownCall = codes "unknown call"
phrase (MissingWord k) = of_word k (codes " is missing")
phrase (SpareWord k) = of_word k (codes " is one too many")
phrase (NotANumber k) = of_word k (codes " is not a number")
phrase (NumberTooLarge k) = of_word k (codes " does not fit in 64 bits")
phrase (NotHexadecimal k) = of_word k (codes " is not lowercase hexadecimal")
phrase (OddDigits k) = of_word k (codes " has an odd number of digits")
phrase (NotAPair k) = of_word k (codes " is not START,LENGTH")
phrase OutOfMemory = codes "out of memory"

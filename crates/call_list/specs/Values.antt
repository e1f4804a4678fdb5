-- What one word stands for. Each rule takes the word's number, which a mistake carries.
use Rattle.std.specs.Prelude.{◌≡◌, ℕ, ◌+◌, ◌-◌, ◌*◌, ◌%◌, ◌^◌, Bool, cond, not, ◌&&◌, ◌||◌, ◌⊎◌, List, [], ◌∷◌, length, take, drop, is_some, Some, None, Ok, Err, codes, Option, Result, ◌==◌, nat_le, nat_lt}
use Rattle.std.specs.Option.{unwrap_or}
use Rattle.std.specs.List.{prefix_len}
use Rattle.std.specs.Str.{bytes_eq}
use Rattle.call_list.specs.Line.{every}
use Rattle.call_list.specs.declared.calls.Span.{Span}
use Rattle.call_list.specs.declared.mistakes.Mistake.{Mistake}
use Rattle.call_list.specs.declared.mistakes.Mistake.TheVariants.{NotANumber, NumberTooLarge, NotHexadecimal, OddDigits, NotAPair, OutOfMemory}

-- the first mistake counts: `next` is asked only where what comes before it is right
infixr 20 ◌then◌
abbrev pub ◌then◌ : {X Y : Type 0} → Result X Mistake → (X → Result Y Mistake) → Result Y Mistake
Ok x then next = next x
Err e then next = Err e

-- a result, seen through `view`
abbrev pub told : {X Y : Type 0} → (X → Y) → Result X Mistake → Result Y Mistake
told view (Ok x) = Ok (view x)
told view (Err e) = Err e

-- a result tells, seen through `view`, what is meant; or there was no memory for it
abbrev pub Reads : {X Y : Type 0} → (X → Y) → Result X Mistake → Result Y Mistake → Type 0
Reads view (Ok x) meant = Ok (view x) ≡ meant
Reads view (Err e) meant = (e ≡ OutOfMemory) ⊎ (Err e ≡ meant)

-- '0' to '9'
abbrev pub is_digit : ℕ → Bool
is_digit b = nat_le 48 b && nat_le b 57

-- the value of decimal digits, where those before them have the value n
abbrev pub value_after : ℕ → List ℕ → ℕ
value_after n [] = n
value_after n (b ∷ bs) = value_after (10 * n + (b - 48)) bs

abbrev pub value_of : List ℕ → ℕ
value_of word = value_after 0 word

abbrev pub number_of : ℕ → List ℕ → Result ℕ Mistake
number_of k word =
    cond (length word == 0 || not (every is_digit word)) (Err (NotANumber k))
    (cond (nat_lt (value_of word) (2 ^ 64)) (Ok (value_of word)) (Err (NumberTooLarge k)))

-- '0' to '9' and 'a' to 'f'; no other byte is a hexadecimal digit
abbrev pub hex_digit : ℕ → Option ℕ
hex_digit b = cond (is_digit b) (Some (b - 48)) (cond (nat_le 97 b && nat_le b 102) (Some (b - 97 + 10)) None)

abbrev pub is_hex : ℕ → Bool
is_hex b = is_some (hex_digit b)

-- a byte from its two digits, the high one first
abbrev pub byte_of : ℕ → ℕ → ℕ
byte_of high low = 16 * unwrap_or (hex_digit high) 0 + unwrap_or (hex_digit low) 0

-- the bytes of an even number of digits
abbrev pub bytes_of : List ℕ → List ℕ
bytes_of [] = []
bytes_of (lone ∷ []) = []
bytes_of (high ∷ low ∷ digits) = byte_of high low ∷ bytes_of digits

abbrev pub hex_of : ℕ → List ℕ → Result (List ℕ) Mistake
hex_of k word =
    cond (bytes_eq word (codes "-")) (Ok [])
    (cond (not (every is_hex word)) (Err (NotHexadecimal k))
    (cond (length word % 2 == 0) (Ok (bytes_of word)) (Err (OddDigits k))))

-- any byte but a comma
abbrev pub no_comma : ℕ → Bool
no_comma b = not (b == 44)

-- a pair is cut at its first comma, which stands at the place i
abbrev pub pair_cut : ℕ → List ℕ → ℕ → Result Span Mistake
pair_cut k word i =
    cond (nat_lt i (length word))
    (number_of k (take i word) then λ from. number_of k (drop (i + 1) word) then λ long. Ok (record { start = from; len = long }))
    (Err (NotAPair k))

abbrev pub pair_of : ℕ → List ℕ → Result Span Mistake
pair_of k word = pair_cut k word (prefix_len no_comma word)

-- Which call a line is, or which mistake it has.
use Rattle.std.specs.Prelude.{ℕ, ◌+◌, cond, ◌||◌, List, [], ◌∷◌, map, length, take, drop, Some, None, Ok, Err, vec_items, codes, Option, Result, ◌==◌, nat_lt, slice_index_or}
use Rattle.std.specs.Option.{option_map}
use Rattle.std.specs.List.{flat_map}
use Rattle.std.specs.Str.{bytes_eq}
use Rattle.call_list.specs.declared.calls.Call.{Call}
use Rattle.call_list.specs.declared.calls.Call.TheVariants.{Flat, Writer, WriteAt, TryWriteAt, Resize, Sync, ReadAt, Size, NeedsSync, Blob, Boxes}
use Rattle.call_list.specs.declared.calls.Span.{Span}
use Rattle.call_list.specs.declared.mistakes.Mistake.{Mistake}
use Rattle.call_list.specs.declared.mistakes.Mistake.TheVariants.{UnknownCall, MissingWord, SpareWord}
use Rattle.call_list.specs.Line.{words_of, comment}
use Rattle.call_list.specs.Values.{◌then◌, number_of, hex_of, pair_of}

-- a call with lists for its bytes and pieces
pub data PlainCall : Type 0 where
  flat : ℕ → List ℕ → Option (List ℕ) → PlainCall
  writer : ℕ → PlainCall
  write : ℕ → List ℕ → List Span → PlainCall
  try_write : ℕ → List ℕ → PlainCall
  resize : ℕ → PlainCall
  sync : PlainCall
  read : ℕ → ℕ → PlainCall
  size : PlainCall
  needs_sync : PlainCall
  blob : PlainCall
  boxes : PlainCall

abbrev pub plain : Call → PlainCall
plain (Flat limit content durable) = flat limit (vec_items content) (option_map vec_items durable)
plain (Writer capacity) = writer capacity
plain (WriteAt place area pieces) = write place (vec_items area) (vec_items pieces)
plain (TryWriteAt place bytes) = try_write place (vec_items bytes)
plain (Resize len) = resize len
plain Sync = sync
plain (ReadAt place len) = read place len
plain Size = size
plain NeedsSync = needs_sync
plain Blob = blob
plain Boxes = boxes

-- word k, read by a rule
abbrev pub word_as : {X : Type 0} → (ℕ → List ℕ → Result X Mistake) → List (List ℕ) → ℕ → Result X Mistake
word_as rule words k = cond (nat_lt k (length words)) (rule k (slice_index_or words k [])) (Err (MissingWord k))

-- the same of a word that may be left out
abbrev pub optional_as : {X : Type 0} → (ℕ → List ℕ → Result X Mistake) → List (List ℕ) → ℕ → Result (Option X) Mistake
optional_as rule words k = cond (nat_lt k (length words)) (word_as rule words k then λ x. Ok (Some x)) (Ok None)

-- every word of a list, the first of which is word k of the line
abbrev pub all_as : {X : Type 0} → (ℕ → List ℕ → Result X Mistake) → ℕ → List (List ℕ) → Result (List X) Mistake
all_as rule k [] = Ok []
all_as rule k (w ∷ words) = rule k w then λ x. all_as rule (k + 1) words then λ xs. Ok (x ∷ xs)

-- the line ends before word k
abbrev pub no_more : List (List ℕ) → ℕ → Result (Unit {0}) Mistake
no_more words k = cond (nat_lt k (length words)) (Err (SpareWord k)) (Ok tt)

-- pieces that lie one behind another, the first at `at`
abbrev pub end_to_end : ℕ → List (List ℕ) → List Span
end_to_end at [] = []
end_to_end at (p ∷ pieces) = record { start = at; len = length p } ∷ end_to_end (at + length p) pieces

-- words from word k on that are the bytes of a piece each: the area that they make, and where each lies in it
abbrev pub pieces_of : ℕ → List (List ℕ) → Result (List ℕ × List Span) Mistake
pieces_of k words = all_as hex_of k words then λ pieces. Ok (flat_map (λ p. p) pieces, end_to_end 0 pieces)

-- what the pieces of an area hold
abbrev pub parts : List ℕ → List Span → List (List ℕ)
parts area pieces = map (λ s. take s.len (drop s.start area)) pieces

-- each call's words, from left to right
module _ (words : List (List ℕ)) where
  abbrev pub bare : PlainCall → Result PlainCall Mistake
  bare call = no_more words 1 then λ _. Ok call

  abbrev pub flat_of : Result PlainCall Mistake
  flat_of =
      word_as number_of words 1 then λ limit. word_as hex_of words 2 then λ content. optional_as hex_of words 3 then λ durable.
      no_more words 4 then λ _. Ok (flat limit content durable)

  -- one number and no more
  abbrev pub one_number : Result ℕ Mistake
  one_number = word_as number_of words 1 then λ n. no_more words 2 then λ _. Ok n

  abbrev pub writer_of : Result PlainCall Mistake
  writer_of = one_number then λ capacity. Ok (writer capacity)

  abbrev pub resize_of : Result PlainCall Mistake
  resize_of = one_number then λ len. Ok (resize len)

  abbrev pub write_of : Result PlainCall Mistake
  write_of = word_as number_of words 1 then λ place. pieces_of 2 (drop 2 words) then λ made. Ok (write place made.0 made.1)

  abbrev pub write_pieces_of : Result PlainCall Mistake
  write_pieces_of =
      word_as number_of words 1 then λ place. word_as hex_of words 2 then λ area. all_as pair_of 3 (drop 3 words) then λ pieces. Ok (write place area pieces)

  abbrev pub try_write_of : Result PlainCall Mistake
  try_write_of = word_as number_of words 1 then λ place. word_as hex_of words 2 then λ bytes. no_more words 3 then λ _. Ok (try_write place bytes)

  abbrev pub read_of : Result PlainCall Mistake
  read_of = word_as number_of words 1 then λ place. word_as number_of words 2 then λ len. no_more words 3 then λ _. Ok (read place len)

-- what stands beside a name
abbrev pub named : {X : Type 0} → List ℕ → List (List ℕ × Result X Mistake) → Result X Mistake
named name [] = Err UnknownCall
named name (entry ∷ table) = cond (bytes_eq name entry.0) entry.1 (named name table)

abbrev pub table_of : List (List ℕ) → List (List ℕ × Result PlainCall Mistake)
table_of words =
    (codes "flat", flat_of words)
    ∷ (codes "writer", writer_of words)
    ∷ (codes "write_at", write_of words)
    ∷ (codes "write_pieces", write_pieces_of words)
    ∷ (codes "try_write_at", try_write_of words)
    ∷ (codes "resize", resize_of words)
    ∷ (codes "sync", bare words sync)
    ∷ (codes "read_at", read_of words)
    ∷ (codes "size", bare words size)
    ∷ (codes "needs_sync", bare words needs_sync)
    ∷ (codes "blob", bare words blob)
    ∷ (codes "boxes", bare words boxes)
    ∷ []

abbrev pub call_of : List (List ℕ) → Result PlainCall Mistake
call_of words = named (slice_index_or words 0 []) (table_of words)

-- `Ok None` is a line that is skipped
abbrev pub meaning : List ℕ → Result (Option PlainCall) Mistake
meaning bytes =
    cond (comment bytes || length (words_of bytes) == 0) (Ok None) (call_of (words_of bytes) then λ call. Ok (Some call))

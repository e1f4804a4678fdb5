-- That a name is none of the table of calls. Assumes nothing.
use Rattle.std.proofs.Common.{◌≡◌, ℕ, zero, suc, Bool, true, false, ◌&&◌, ltb, List, [], ◌∷◌, Err, IsUtf8, IsAscii, Result, sym, refl, subst, ⊎_elim, arith}
use Rattle.std.specs.Str.{bytes_eq}
use Rattle.std.proofs.lemmas.Slice.Eq.{bytes_eq-Decides}
use Rattle.std.proofs.lemmas.Bool.{cases_Bool, ltb-true, and_parts}
use Rattle.std.proofs.lemmas.Str.{IsUtf8-from_ascii}
use Rattle.call_list.specs.declared.mistakes.Mistake.{Mistake}
use Rattle.call_list.specs.declared.mistakes.Mistake.TheVariants.{UnknownCall}
use Rattle.call_list.specs.Calls.{PlainCall, named, table_of}
use Rattle.call_list.specs.Line.{every}

-- the name is none of the table's
abbrev pub Others : List ℕ → List (List ℕ × Result PlainCall Mistake) → Type 0
Others name [] = Unit {0}
Others name (entry ∷ table) = (name ≡ entry.0 → ⊥) × Others name table

not_same : (name other : List ℕ) → (name ≡ other → ⊥) → bytes_eq name other ≡ false
not_same name other h = ⊎_elim (λ t. absurd (h ((bytes_eq-Decides name other).0 t))) (λ f. f) (cases_Bool (bytes_eq name other))

pub unknown : (name : List ℕ) (table : List (List ℕ × Result PlainCall Mistake)) → Others name table → Err UnknownCall ≡ named name table
unknown name [] h = refl
unknown name (entry ∷ table) h = rw (not_same name entry.0 h.0) (unknown name table h.1)

abbrev ascii : List ℕ → Bool
ascii bs = every (λ b. ltb b 128) bs

ascii_from : (bs : List ℕ) → ascii bs ≡ true → IsAscii bs
ascii_from [] e i = omega arith
ascii_from (b ∷ bs) e zero = ltb-true b 128 (and_parts (ltb b 128) (ascii bs) e).0
ascii_from (b ∷ bs) e (suc i) = ascii_from bs (and_parts (ltb b 128) (ascii bs) e).1 i

-- each name of the table is ASCII
abbrev pub all_ascii : List (List ℕ × Result PlainCall Mistake) → Bool
all_ascii [] = true
all_ascii (entry ∷ table) = ascii entry.0 && all_ascii table

-- bytes that are no text are no name of a table whose names are
pub no_text : (name : List ℕ) (table : List (List ℕ × Result PlainCall Mistake)) → all_ascii table ≡ true → (IsUtf8 name → ⊥) → Others name table
no_text name [] e u = tt
no_text name (entry ∷ table) e u =
    let parts = and_parts (ascii entry.0) (all_ascii table) e in
    (λ same. u (subst IsUtf8 (sym same) (IsUtf8-from_ascii entry.0 (ascii_from entry.0 parts.0))), no_text name table parts.1 u)

-- bytes that are no text name no call
pub no_call : (name : List ℕ) (words : List (List ℕ)) → (IsUtf8 name → ⊥) → Err UnknownCall ≡ named name (table_of words)
no_call name words u = unknown name (table_of words) (no_text name (table_of words) refl u)

-- That the words of a line are what the relation `Words` says. Assumes nothing.
use Rattle.std.proofs.Common.{◌≡◌, ℕ, true, not, List, [], ◌∷◌, ◌++◌, sym, refl, ap, ◌∙◌, ⊎_elim, append_assoc, append-nil, arith}
use Rattle.std.proofs.lemmas.Bool.{cases_Bool, and_from}
use Rattle.call_list.specs.Line.{every, blank, split, words_of, at_gap, Words}

-- a blank before a line changes none of its words
wider : (b : ℕ) (bs : List ℕ) (ws : List (List ℕ)) → blank b ≡ true → Words bs ws → Words (b ∷ bs) ws
wider b bs [] t h = and_from (blank b) (every blank bs) t h
wider b bs (w ∷ ws) t h =
    let f = h.1 in (
      h.0,
      record {
        gap = b ∷ f.gap;
        cut = ap (λ l. b ∷ l) f.cut;
        blanks = and_from (blank b) (every blank f.gap) t f.blanks;
        some = f.some;
        solid = f.solid;
        ends = f.ends;
      },
      h.2,
    )

-- a word whose front was read before: bs begins with its end
record Rest (before bs : List ℕ) : Type 0 where
  end : List ℕ
  rest : List ℕ
  more : List (List ℕ)
  is : split before bs ≡ (before ++ end) ∷ more
  cut : bs ≡ end ++ rest
  solid : every (λ b. not (blank b)) end ≡ true
  ends : at_gap rest ≡ true
  words : Words rest more

-- with nothing read of a word before, and with something
both_ways : (bs : List ℕ) → Words bs (split [] bs) × ((x : ℕ) (xs : List ℕ) → Rest (x ∷ xs) bs)
both_ways [] = (
  refl,
  λ x xs. record { end = []; rest = []; more = []; is = ap (λ l. (x ∷ l) ∷ []) (sym (append-nil xs)); cut = refl; solid = refl; ends = refl; words = refl },
)
both_ways (b ∷ bs) =
    let below = both_ways bs in
    ⊎_elim
    (λ t.
    let wide = wider b bs (split [] bs) t below.0 in (
      rw t wide,
      λ x xs. record {
        end = [];
        rest = b ∷ bs;
        more = split [] bs;
        is = rw t (ap (λ l. (x ∷ l) ∷ split [] bs) (sym (append-nil xs)));
        cut = refl;
        solid = refl;
        ends = t;
        words = wide;
      },
    ))
    (λ f.
    let new = below.1 b [] in (
      rw f (rw new.is (new.rest, record { gap = []; cut = ap (λ l. b ∷ l) new.cut; blanks = refl; some = omega arith; solid = and_from (not (blank b)) _ (ap not f) new.solid; ends = new.ends }, new.words)),
      λ x xs.
          let on = below.1 x (xs ++ (b ∷ [])) in
          record {
            end = b ∷ on.end;
            rest = on.rest;
            more = on.more;
            is = rw f (on.is ∙ ap (λ l. (x ∷ l) ∷ on.more) (append_assoc xs (b ∷ []) on.end));
            cut = ap (λ l. b ∷ l) on.cut;
            solid = and_from (not (blank b)) _ (ap not f) on.solid;
            ends = on.ends;
            words = on.words;
          },
    ))
    (cases_Bool (blank b))

pub are_words : (bs : List ℕ) → Words bs (words_of bs)
are_words bs = (both_ways bs).0

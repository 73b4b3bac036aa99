-- The literals of a clause and what was struck out, written one after another.
use Rattle.std.proofs.Common.{◌≡◌, ℕ, ◌+◌, Bool, true, not, ◌&&◌, add-one, ◌<◌, ◌==◌, if◌then◌else◌, List, [], ◌∷◌, ◌++◌, codes, length, get_or, take, sym, ap, ◌∙◌, arith}
use Rattle.std.proofs.lemmas.Bool.{cond-true}
use Rattle.std.proofs.lemmas.Bool.Decides.{nat_tests}
use Rattle.std.specs.Borrow.{Bor}
use Rattle.std.proofs.lemmas.List.{take_more, length-take-le, append-nil}
use mathlib.Core.List.{append_assoc}
use Rattle.clauses.specs.declared.literal.Literal.{Literal}
use Rattle.model.specs.Boxes.{Box}
use Rattle.stories.specs.Words.{name_of, yes_or_no, literals_text, is_struck, struck_line, struck_text, struck_at, struck_below, is_open, none_open, open_text, open_below}

module _ (names : List (Bor (List ℕ))) where
  abbrev words : Literal ℕ → List ℕ
  words l = name_of names l.flag ++ (codes " is " ++ yes_or_no l.positive)

  later : (next : List ℕ) (ls : List (Literal ℕ)) (l : Literal ℕ) → literals_text names next next (ls ++ l ∷ []) ≡ literals_text names next next ls ++ (next ++ words l)
  later next [] l = simp (append_assoc, append-nil)
  later next (m ∷ ms) l = simp (later next ms l, append_assoc)

  last : (first next : List ℕ) (i : ℕ) (ls : List (Literal ℕ)) (l : Literal ℕ) → length ls ≡ i → literals_text names first next (ls ++ l ∷ []) ≡ literals_text names first next ls ++ ((if i == 0 then first else next) ++ words l)
  last first next i [] l e = rw (← e) (simp (append_assoc, append-nil))
  last first next i (m ∷ ms) l e = let other : (if i == 0 then first else next) ≡ next = grind (arith, nat_tests) in rw other (simp (later next ms l, append_assoc))

  pub literals_more : (first next : List ℕ) (ls : List (Literal ℕ)) (i : ℕ) (d : Literal ℕ) (separator name value : List ℕ) → i < length ls → separator ≡ (if i == 0 then first else next) → name ≡ name_of names (get_or ls i d).flag → value ≡ yes_or_no (get_or ls i d).positive → literals_text names first next (take i ls) ++ (separator ++ (name ++ (codes " is " ++ value))) ≡ literals_text names first next (take (i + 1) ls)
  literals_more first next ls i d separator name value l s n v =
      rw (s, n, v) (sym (ap (literals_text names first next) (take_more ls i d l) ∙ last first next i (take i ls) (get_or ls i d) (length-take-le i ls (omega arith))))

module _ (names : List (Bor (List ℕ))) (before after : Box) (flag : ℕ) where
  pub struck_said : (value : Bool) → true ≡ is_struck before after flag value → struck_line names flag value ++ 10 ∷ [] ≡ struck_text names before after flag value
  struck_said value e = sym (cond-true (is_struck before after flag value) (struck_line names flag value ++ 10 ∷ []) [] (sym e))

  pub struck_more : struck_below names before after flag ++ struck_at names before after flag ≡ struck_below names before after (flag + 1)
  unfolding struck_below
  struck_more = rw add-one

module _ (names : List (Bor (List ℕ))) (b : Box) (flag : ℕ) where
  pub open_said : (none : Bool) → true ≡ is_open names b flag → (if none then codes " " else codes ", ") ++ name_of names flag ≡ open_text names b none flag
  open_said none e = sym (cond-true (is_open names b flag) ((if none then codes " " else codes ", ") ++ name_of names flag) [] (sym e))

  pub none_more : (none here : Bool) → none ≡ none_open names b flag → here ≡ is_open names b flag → (none && not here) ≡ none_open names b (flag + 1)
  unfolding none_open
  none_more none here n h = rw (n, h, add-one)

  pub open_more : (none : Bool) → none ≡ none_open names b flag → open_below names b flag ++ open_text names b none flag ≡ open_below names b (flag + 1)
  unfolding open_below
  open_more none n = rw (n, add-one)

-- The searches for a flag among literals, as tests of some literal.
use Rattle.std.proofs.Common.{◌≡◌, ℕ, ◌+◌, ◌-◌, Bool, ◌||◌, eqb, ltb, List, [], ◌∷◌, map, length, take, drop, sym, refl, ap, ◌∙◌}
use Rattle.std.proofs.lemmas.List.{drop-drop, take_rest}
use Rattle.std.specs.List.{list_any, enumerate_from}
use Rattle.model.specs.Refusals.{some_large, some_twice}
use Rattle.model.specs.Rows.{elem}
use Rattle.clauses.specs.Literals.{flags_of}
use Rattle.clauses.specs.declared.literal.Literal.{Literal}

pub any_is : {L : Type 0} (number : L → ℕ) (f : ℕ) (ls : List L) → list_any (λ l. eqb f (number l)) ls ≡ elem f (map number ls)
any_is number f [] = refl
any_is number f (l ∷ ls) = ap (λ x. eqb f (number l) || x) (any_is number f ls)

pub any_large : (ls : List (Literal ℕ)) → list_any (λ l. ltb 255 l.flag) ls ≡ some_large (flags_of ls)
any_large [] = refl
any_large (l ∷ ls) = ap (λ x. ltb 255 l.flag || x) (any_large ls)

-- whether a flag stands there again, after its place
abbrev pub again : List (Literal ℕ) → ℕ × Literal ℕ → Bool
again all p = elem p.1.flag (flags_of (take (length all - (p.0 + 1)) (drop (p.0 + 1) all)))

any_again : (all ls : List (Literal ℕ)) (n : ℕ) → drop n all ≡ ls → list_any (again all) (enumerate_from n ls) ≡ some_twice (flags_of ls)
any_again all [] n e = refl
any_again all (l ∷ ls) n e =
    let rest : drop (n + 1) all ≡ ls = sym (drop-drop 1 n all) ∙ ap (drop 1) e in
    ap (λ ms. elem l.flag (flags_of ms) || list_any (again all) (enumerate_from (n + 1) ls)) (take_rest all (n + 1) ∙ rest)
    ∙ ap (λ x. elem l.flag (flags_of ls) || x) (any_again all ls (n + 1) rest)

pub any_twice : (ls : List (Literal ℕ)) → list_any (again ls) (enumerate_from 0 ls) ≡ some_twice (flags_of ls)
any_twice ls = any_again ls ls 0 refl

-- The walks over the literals of a clause, one literal more.
use Rattle.std.proofs.Common.{◌≡◌, ℕ, zero, suc, ◌+◌, ◌<◌, Bool, true, false, cond, ◌||◌, eqb, List, [], ◌∷◌, ◌++◌, length, get_or, take, Some, None, sym, refl, ap, ◌∙◌, subst, ⊎_elim, le_of_suc-le-suc, not-suc-le-zero}
use mathlib.Core.Path.{fun_ext}
use Rattle.std.proofs.lemmas.List.Elements.{filter_more}
use Rattle.std.proofs.lemmas.List.{append-nil, map_more, take_more}
use Rattle.std.proofs.lemmas.Bool.{cases_Bool, cond-true, cond-false, or_from, or_left, or_parts, or_right}
use Rattle.model.specs.Boxes.{Box, with_set}
use Rattle.model.specs.Domains.{has, is_empty}
use Rattle.model.specs.Rows.{elem}
use Rattle.model.specs.declared.domain.Domain.{Domain}
use Rattle.model.specs.declared.domain.Domain.TheVariants.{Empty}
use Rattle.clauses.specs.Literals.{flag_of, flags_of}
use Rattle.clauses.specs.Outlooks.{can, possible, some_empty, by_number, outlook_of, one_more, looked, emptied}
use Rattle.clauses.specs.declared.clause.Outlook.{Outlook}
use Rattle.clauses.specs.declared.clause.Outlook.TheVariants.{Dead}
use Rattle.clauses.specs.declared.literal.Literal.{Literal}

-- what stands for a literal where there is none
abbrev pub blank : Literal ℕ
blank = record { flag = 0; positive = false }

-- emptying the flags
elem_push : (f g : ℕ) (fs : List ℕ) → elem f (fs ++ g ∷ []) ≡ (eqb f g || elem f fs)
elem_push f g [] = refl
elem_push f g (h ∷ fs) = ap (λ x. eqb f h || x) (elem_push f g fs) ∙ swap (eqb f h) (eqb f g) (elem f fs)
  where
    swap : (x y z : Bool) → (x || (y || z)) ≡ (y || (x || z))
    swap true true z = refl
    swap true false z = refl
    swap false y z = refl

emptied_push : (fs : List ℕ) (g : ℕ) (b : Box) → with_set (emptied fs b) g Empty ≡ emptied (fs ++ g ∷ []) b
emptied_push fs g b = fun_ext (λ f. both (eqb f g) (elem f fs) (b f) ∙ sym (ap (λ x. cond x Empty (b f)) (elem_push f g fs)))
  where
    both : (x y : Bool) (d : Domain) → cond x Empty (cond y Empty d) ≡ cond (x || y) Empty d
    both true y d = refl
    both false y d = refl

pub emptied_more : (ls : List (Literal ℕ)) (i : ℕ) (b mid after : Box) → i < length ls → mid ≡ emptied (flags_of (take i ls)) b → after ≡ with_set mid (get_or ls i blank).flag Empty → after ≡ emptied (flags_of (take (i + 1) ls)) b
emptied_more ls i b mid after h m e =
    e ∙ ap (λ x. with_set x (get_or ls i blank).flag Empty) m ∙ emptied_push (flags_of (take i ls)) (get_or ls i blank).flag b
    ∙ ap (λ fs. emptied fs b) (sym (map_more flag_of ls i blank h))

-- the survey
by_number_push : (ps : List (Literal ℕ)) (l : Literal ℕ) → by_number (ps ++ l ∷ []) ≡ one_more (by_number ps) l
by_number_push [] l = refl
by_number_push (p ∷ []) l = refl
by_number_push (p ∷ (q ∷ ps)) l = refl

some_empty_push : (b : Box) (ls : List (Literal ℕ)) (l : Literal ℕ) → some_empty b ls ≡ false → is_empty (b l.flag) ≡ false → some_empty b (ls ++ l ∷ []) ≡ false
some_empty_push b [] l h e = or_from (is_empty (b l.flag)) false e refl
some_empty_push b (m ∷ ms) l h e =
    let p = or_parts (is_empty (b m.flag)) (some_empty b ms) h in
    or_from (is_empty (b m.flag)) (some_empty b (ms ++ l ∷ [])) p.0 (some_empty_push b ms l p.1 e)

some_empty_at : (b : Box) (ls : List (Literal ℕ)) (i : ℕ) → i < length ls → is_empty (b (get_or ls i blank).flag) ≡ true → some_empty b ls ≡ true
some_empty_at b [] i h e = absurd (not-suc-le-zero h)
some_empty_at b (l ∷ ls) zero h e = or_left (is_empty (b l.flag)) (some_empty b ls) e
some_empty_at b (l ∷ ls) (suc i) h e = or_right (is_empty (b l.flag)) (some_empty b ls) (some_empty_at b ls i (le_of_suc-le-suc h) e)

-- what a look found
looked_none : (d : Domain) (seen : Outlook) (l : Literal ℕ) → None ≡ looked d seen l → is_empty d ≡ true
looked_none d seen l h = ⊎_elim
    (λ e. e)
    (λ e. let x = cond-false (is_empty d) None (Some (cond (has d l.positive) (one_more seen l) seen)) e in cc)
    (cases_Bool (is_empty d))

looked_some : (d : Domain) (seen more : Outlook) (l : Literal ℕ) → Some more ≡ looked d seen l → (is_empty d ≡ false) × (more ≡ cond (has d l.positive) (one_more seen l) seen)
looked_some d seen more l h = ⊎_elim
    (λ e. absurd (let x = cond-true (is_empty d) None (Some (cond (has d l.positive) (one_more seen l) seen)) e in cc))
    (λ e. (e, let x = cond-false (is_empty d) None (Some (cond (has d l.positive) (one_more seen l) seen)) e in cc))
    (cases_Bool (is_empty d))

module _ (b : Box) (ls : List (Literal ℕ)) (i : ℕ) (seen : Outlook) where
  possible_more : i < length ls → by_number (possible b (take (i + 1) ls)) ≡ cond (can b (get_or ls i blank)) (one_more (by_number (possible b (take i ls))) (get_or ls i blank)) (by_number (possible b (take i ls)))
  possible_more h = ap by_number (filter_more (can b) ls i blank h) ∙ go (can b (get_or ls i blank))
    where
      go : (x : Bool) → by_number (possible b (take i ls) ++ cond x (get_or ls i blank ∷ []) []) ≡ cond x (one_more (by_number (possible b (take i ls))) (get_or ls i blank)) (by_number (possible b (take i ls)))
      go true = by_number_push (possible b (take i ls)) (get_or ls i blank)
      go false = ap by_number (append-nil (possible b (take i ls)))

  pub look_more : (more : Outlook) → i < length ls → (some_empty b (take i ls) ≡ false) × (seen ≡ by_number (possible b (take i ls))) → Some more ≡ looked (b (get_or ls i blank).flag) seen (get_or ls i blank) → (some_empty b (take (i + 1) ls) ≡ false) × (more ≡ by_number (possible b (take (i + 1) ls)))
  look_more more h inv s =
      let l = get_or ls i blank in
      let got = looked_some (b l.flag) seen more l s in (
        subst (λ ms. some_empty b ms ≡ false) (sym (take_more ls i blank h)) (some_empty_push b (take i ls) l inv.0 got.0),
        got.1 ∙ ap (λ x. cond (can b l) (one_more x l) x) inv.1 ∙ sym (possible_more h),
      )

  pub look_none : i < length ls → None ≡ looked (b (get_or ls i blank).flag) seen (get_or ls i blank) → Dead ≡ outlook_of b ls
  look_none h n = sym (cond-true (some_empty b ls) Dead (by_number (possible b ls)) (some_empty_at b ls i h (looked_none (b (get_or ls i blank).flag) seen (get_or ls i blank) n)))

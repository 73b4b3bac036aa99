-- The flags of a list: which are there, and lists for which there is no reason to refuse them.
use Rattle.std.proofs.Common.{◌≡◌, ℕ, ◌<◌, ◌≤◌, true, false, eqb, ltb, List, [], ◌∷◌, refl, subst, ⊎_elim, arith}
use Rattle.std.proofs.lemmas.Bool.{both_ways, or_cases, or_parts, or_left, or_right, eqb-true, eq-eqb, ltb-false, false≢true}
use Rattle.model.specs.Refusals.{some_large, some_twice}
use Rattle.model.specs.Rows.{elem, Distinct}

pub in_here : (f : ℕ) (fs : List ℕ) → elem f (f ∷ fs) ≡ true
in_here f fs = or_left (eqb f f) (elem f fs) (eq-eqb f f refl)

pub in_more : (g f : ℕ) (fs : List ℕ) → elem g fs ≡ true → elem g (f ∷ fs) ≡ true
in_more g f fs i = or_right (eqb g f) (elem g fs) i

-- flags that differ from those after them
pub apart : (g f : ℕ) (fs : List ℕ) → elem f fs ≡ false → elem g fs ≡ true → g ≡ f → ⊥
apart g f fs n i e = both_ways (elem f fs) n (subst (λ x. elem x fs ≡ true) e i)

-- where no flag stands twice they are different
pub distinct : (fs : List ℕ) → some_twice fs ≡ false → Distinct fs
distinct [] d = tt
distinct (f ∷ fs) d = let n = or_parts (elem f fs) (some_twice fs) d in (n.0, distinct fs n.1)

-- where none is above 255 each is below 256
pub below : (fs : List ℕ) → some_large fs ≡ false → (f : ℕ) → elem f fs ≡ true → f < 256
below [] s f i = absurd (false≢true i)
below (g ∷ gs) s f i =
    let n = or_parts (ltb 255 g) (some_large gs) s in
    ⊎_elim
    (λ e. let h : g ≤ 255 = ltb-false 255 g n.0 in let q : f ≡ g = eqb-true f g e in omega arith)
    (λ j. below gs n.1 f j)
    (or_cases (eqb f g) (elem f gs) i)

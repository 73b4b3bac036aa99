-- Boxes at the flags of a list: alike or not, and with other sets written there.
use Rattle.std.proofs.Common.{◌≡◌, ℕ, true, false, eqb, ◌⊎◌, List, [], ◌∷◌, map, length, refl, ◌∙◌, ap₂, inl, inr, ⊎_elim, arith}
use Rattle.std.proofs.lemmas.Bool.{or_parts, eqb-false, false≢true}
use Rattle.model.specs.Rows.{elem}
use Rattle.model.specs.Boxes.{Box, with_set}
use Rattle.model.specs.declared.domain.Domain.{Domain}
use Rattle.model.proofs.Cutting.{with_here, with_other}
use Rattle.model.proofs.Sets.{set_decides}
use Rattle.table.specs.Narrowing.{with_sets}
use Rattle.model.specs.Refusals.{some_twice}
use Rattle.model.proofs.Members.{in_here, in_more}

-- boxes that are alike at some flags
pub map_same : (a b : Box) (fs : List ℕ) → ((f : ℕ) → elem f fs ≡ true → a f ≡ b f) → map a fs ≡ map b fs
map_same a b [] h = refl
map_same a b (f ∷ fs) h = ap₂ (λ x xs. x ∷ xs) (h f (in_here f fs)) (map_same a b fs (λ g i. h g (in_more g f fs i)))

pub alike : (a b : Box) (fs : List ℕ) → map a fs ≡ map b fs → (f : ℕ) → elem f fs ≡ true → a f ≡ b f
alike a b [] e f i = absurd (false≢true i)
alike a b (g ∷ gs) e f i =
    let here : a g ≡ b g = cc in
    let rest : map a gs ≡ map b gs = cc in
    grind (arith, alike a b gs rest f)

-- alike at some flags, or different at one of them
pub differ_on : (a b : Box) (fs : List ℕ) → (map a fs ≡ map b fs) ⊎ ((f : ℕ) × (elem f fs ≡ true) × (a f ≡ b f → ⊥))
differ_on a b [] = inl refl
differ_on a b (f ∷ fs) = ⊎_elim
    (λ e. ⊎_elim (λ es. inl (ap₂ (λ x xs. x ∷ xs) e es)) (λ d. inr (d.0, in_more d.0 f fs d.1, d.2)) (differ_on a b fs))
    (λ n. inr (f, in_here f fs, n))
    (set_decides (a f) (b f))

-- writing sets: other flags are as before, and each flag has its set
pub with_sets_other : (fs : List ℕ) (ss : List Domain) (b : Box) (f : ℕ) → elem f fs ≡ false → with_sets fs ss b f ≡ b f
with_sets_other [] ss b f n = refl
with_sets_other (g ∷ gs) [] b f n = refl
with_sets_other (g ∷ gs) (s ∷ ss) b f n =
    let p = or_parts (eqb f g) (elem f gs) n in
    with_sets_other gs ss (with_set b g s) f p.1 ∙ with_other b g s f (eqb-false f g p.0)

pub with_sets_here : (fs : List ℕ) (ss : List Domain) (b : Box) → some_twice fs ≡ false → length ss ≡ length fs → map (with_sets fs ss b) fs ≡ ss
with_sets_here [] [] b d e = refl
with_sets_here [] (s ∷ ss) b d e = cc
with_sets_here (f ∷ fs) [] b d e = cc
with_sets_here (f ∷ fs) (s ∷ ss) b d e =
    let n = or_parts (elem f fs) (some_twice fs) d in
    ap₂ (λ x xs. x ∷ xs) (with_sets_other fs ss (with_set b f s) f n.0 ∙ with_here b f s) (with_sets_here fs ss (with_set b f s) n.1 (omega arith))

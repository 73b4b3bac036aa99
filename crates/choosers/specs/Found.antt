-- Why the flags that the choosers' definitions find are the first in their orders, among the flags below a number.
use Rattle.std.specs.Prelude.{◌≡◌, ℕ, zero, suc, ◌<◌, true, false, cond, ◌⊎◌, List, Some, None, Option, ◌≢◌, nat_lt, refl}
use Rattle.std.proofs.Math.Path.{sym, ap}
use Rattle.std.proofs.Common.{subst, ◌∙◌, inl, inr, arith}
use Rattle.std.proofs.lemmas.Bool.{cases_eq, cases_lt, cond_both, ltb-true, ltb-false, false≢true, true≢false}
use Rattle.model.specs.Boxes.{Box}
use Rattle.model.specs.declared.domain.Domain.{Domain}
use Rattle.model.specs.declared.domain.Domain.TheVariants.{Empty, Zero, One, Open}
use Rattle.choosers.specs.Choices.{is_open, lowest, rank, better, highest}

pub open_is : (d : Domain) → is_open d ≡ true → d ≡ Open
open_is Empty e = absurd (false≢true e)
open_is Zero e = absurd (false≢true e)
open_is One e = absurd (false≢true e)
open_is Open e = refl

pub is_not : (d : Domain) → is_open d ≡ false → d ≢ Open
is_not d e o = true≢false (sym (ap is_open o) ∙ e)

module _ (b : Box) where
  -- no flag below n is open
  abbrev pub NoneBelow : ℕ → Type 0
  NoneBelow n = (g : ℕ) → g < n → b g ≢ Open

  none_more : (n : ℕ) → NoneBelow n → (b n ≢ Open) → NoneBelow (suc n)
  none_more n h d g l o = elim (cases_eq g n) [ inl e ↦ d (sym (ap b e) ∙ o) | inr e ↦ h g (omega arith) o ]

  -- the answer is the lowest open flag below n, or there is none
  abbrev pub Low : ℕ → Option ℕ → Type 0
  Low n None = NoneBelow n
  Low n (Some f) = (f < n) × (b f ≡ Open) × NoneBelow f

  low_more : (n : ℕ) (r : Option ℕ) → Low n r → Low (suc n) (elim r [ Some f ↦ Some f | None ↦ cond (is_open (b n)) (Some n) None ])
  low_more n (Some f) h = (omega (arith, h.0), h.1, h.2)
  low_more n None h =
      cond_both (is_open (b n)) (Some n) None (Low (suc n)) (λ e. (omega arith, open_is (b n) e, h)) (λ e. none_more n h (is_not (b n) e))

  pub low : (n : ℕ) → Low n (lowest b n)
  unfolding lowest
  low zero = λ g l. absurd (omega arith)
  low (suc n) = low_more n (lowest b n) (low n)

  module _ (ranks : List ℕ) where
    -- g has a lower rank than f, or the same rank and a higher number
    abbrev pub After : ℕ → ℕ → Type 0
    After f g = (rank ranks g < rank ranks f) ⊎ ((rank ranks g ≡ rank ranks f) × (f < g))

    -- the answer is an open flag below n after which every other one comes, or there is none
    abbrev pub High : ℕ → Option ℕ → Type 0
    High n None = NoneBelow n
    High n (Some f) = (f < n) × (b f ≡ Open) × ((g : ℕ) → g < n → b g ≡ Open → (g ≢ f) → After f g)

    -- one flag more, which is not open
    high_past : (n : ℕ) (r : Option ℕ) → High n r → (b n ≢ Open) → High (suc n) r
    high_past n None h d = none_more n h d
    high_past n (Some f) (k, q, s) d =
        (omega arith, q, λ g l o e. elim (cases_eq g n) [ inl i ↦ absurd (d (sym (ap b i) ∙ o)) | inr i ↦ s g (omega arith) o e ])

    -- one flag more, which is open
    high_with : (n : ℕ) (r : Option ℕ) → High n r → b n ≡ Open → High (suc n) (Some (better ranks r n))
    high_with n None h o = (omega arith, o, λ g l p e. absurd (h g (omega arith) p))
    high_with n (Some f) (k, q, s) o =
        cond_both (nat_lt (rank ranks f) (rank ranks n)) n f (λ x. High (suc n) (Some x))
        (λ t. let m = ltb-true (rank ranks f) (rank ranks n) t in (
          omega arith,
          o,
          λ g l p e. elim (cases_eq g f) [
            | inl i ↦ inl (subst (λ (x : ℕ). rank ranks x < rank ranks n) (sym i) m)
            | inr i ↦ elim (s g (omega arith) p i) [ inl z ↦ inl (omega arith) | inr z ↦ inl (omega arith) ]
          ],
        ))
        (λ t. let m = ltb-false (rank ranks f) (rank ranks n) t in (
          omega arith,
          q,
          λ g l p e. elim (cases_eq g n) [
            | inr i ↦ s g (omega arith) p e
            | inl i ↦ (let j : rank ranks g ≡ rank ranks n = ap (rank ranks) i in
                elim (cases_lt (rank ranks g) (rank ranks f)) [ inl z ↦ inl z | inr z ↦ inr (omega arith, omega arith) ])
          ],
        ))

    pub high : (n : ℕ) → High n (highest ranks b n)
    unfolding highest
    high zero = λ g l. absurd (omega arith)
    high (suc n) =
        cond_both (is_open (b n)) (Some (better ranks (highest ranks b n) n)) (highest ranks b n) (High (suc n))
        (λ e. high_with n (highest ranks b n) (high n) (open_is (b n) e)) (λ e. high_past n (highest ranks b n) (high n) (is_not (b n) e))

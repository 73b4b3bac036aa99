-- Marks of waiting numbers, as rows are woken one after another.
use Rattle.std.proofs.Common.{◌≡◌, ℕ, ◌+◌, ◌<◌, Bool, true, ◌&&◌, ◌||◌, eqb, ltb, ◌⊎◌, ◌↔◌, sym, ◌∙◌, subst, inl, inr, ⊎_elim, arith}
use Rattle.std.proofs.lemmas.Bool.Decides.{nat_tests}
use Rattle.std.proofs.lemmas.Bool.{cases_eq, or_cases, or_left, or_right, and_parts, and_from}
use Rattle.model.specs.Rows.{Row, on, On}

-- the number n, where it has the property, is one more
pub mark_more : (o : ℕ → Bool) (k n : ℕ) (w : Bool) → ((o n && eqb k n) || ((ltb k n && o k) || w)) ≡ ((ltb k (n + 1) && o k) || w)
mark_more o k n w = grind (arith, nat_tests)

-- the flags below n that two rows share
abbrev pub Below : Row → Row → ℕ → Type 0
Below r q n = (f : ℕ) × (f < n) × On r f × On q f

-- one flag more: where the first row has it, the second is woken if it has it too
pub near_more : (r q : Row) (n : ℕ) (before now after : Bool) → (now ≡ true) ↔ (Below r q n ⊎ (before ≡ true)) → after ≡ ((on r n && on q n) || now) → (after ≡ true) ↔ (Below r q (n + 1) ⊎ (before ≡ true))
near_more r q n before now after so_far e = (
  (λ h. ⊎_elim (λ p. let b = and_parts (on r n) (on q n) p in inl (n, omega arith, b.0, b.1)) (λ p. further (so_far.0 p)) (or_cases (on r n && on q n) now (sym e ∙ h))),
  (λ h. e ∙ ⊎_elim
      (λ s. ⊎_elim
      (λ x. or_left (on r n && on q n) now (and_from (on r n) (on q n) (subst (λ f. On r f) x s.2) (subst (λ f. On q f) x s.3)))
      (λ d. or_right (on r n && on q n) now (so_far.1 (inl (s.0, omega (arith, s.1), s.2, s.3))))
      (cases_eq s.0 n))
      (λ b. or_right (on r n && on q n) now (so_far.1 (inr b)))
      h),
)
  where
    further : Below r q n ⊎ (before ≡ true) → Below r q (n + 1) ⊎ (before ≡ true)
    further (inl s) = inl (s.0, omega (arith, s.1), s.2, s.3)
    further (inr b) = inr b

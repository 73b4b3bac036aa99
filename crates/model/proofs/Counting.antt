-- How many numbers wait.
use Rattle.std.proofs.Common.{◌≡◌, ℕ, ◌<◌, ◌≤◌, Bool, true, false, cond, not, ◌&&◌, eqb, sym, refl, subst, arith}
use Rattle.std.proofs.lemmas.Bool.{eq-eqb, false≢true}
use Rattle.model.specs.Waiting.{Bounded}
use Rattle.model.proofs.Sizes.{total, total-<}

abbrev pub one_if : Bool → ℕ
one_if w = cond w 1 0

pub waiting : (ℕ → Bool) → ℕ
waiting w = total (λ k. one_if (w k)) 1024

-- once a number was taken, one fewer waits
pub waiting-< : (w w' : ℕ → Bool) → Bounded w → (row : ℕ) → w row ≡ true → ((k : ℕ) → w' k ≡ (not (eqb k row) && w k)) → waiting w' < waiting w
unfolding waiting
waiting-< w w' b row h took =
    total-< (λ k. one_if (w' k)) (λ k. one_if (w k)) (λ k. subst (λ x. one_if x ≤ one_if (w k)) (sym (took k)) (less (eqb k row) (w k))) row (subst (λ x. one_if x < one_if (w row)) (sym (took row)) (gone (eqb row row) (w row) (eq-eqb row row refl) h)) 1024 (b row h)
  where
    less : (x y : Bool) → one_if (not x && y) ≤ one_if y
    less true true = omega arith
    less true false = omega arith
    less false true = omega arith
    less false false = omega arith

    gone : (x y : Bool) → x ≡ true → y ≡ true → one_if (not x && y) < one_if y
    gone true true _ _ = omega arith
    gone true false _ e = absurd (false≢true e)
    gone false y e _ = absurd (false≢true e)

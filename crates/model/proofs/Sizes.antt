-- How many values a box holds.
use Rattle.std.proofs.Common.{◌≡◌, ℕ, zero, suc, ◌+◌, ◌<◌, ◌≤◌, Bool, true, false, refl, subst, ⊎_elim, arith}
use Rattle.std.proofs.lemmas.Bool.{cases_eq, false≢true}
use Rattle.model.specs.Domains.{Has}
use Rattle.model.specs.Boxes.{Box, ◌⊆◌}
use Rattle.model.specs.declared.domain.Domain.{Domain}
use Rattle.model.specs.declared.domain.Domain.TheVariants.{Empty, Zero, One, Open}

-- the sum of a function over the numbers below n
pub total : (ℕ → ℕ) → ℕ → ℕ
total f zero = 0
total f (suc n) = f n + total f n

pub total-≤ : (f g : ℕ → ℕ) → ((k : ℕ) → f k ≤ g k) → (n : ℕ) → total f n ≤ total g n
unfolding total
total-≤ f g h zero = omega arith
total-≤ f g h (suc n) = omega (arith, h n, total-≤ f g h n)

pub total-< : (f g : ℕ → ℕ) → ((k : ℕ) → f k ≤ g k) → (j : ℕ) → f j < g j → (n : ℕ) → j < n → total f n < total g n
unfolding total
total-< f g h j l zero b = absurd (omega arith)
total-< f g h j l (suc n) b = ⊎_elim
    (λ e. let s : f n < g n = subst (λ x. f x < g x) e l in omega (arith, total-≤ f g h n))
    (λ e. let c : j < n = omega arith in omega (arith, h n, total-< f g h j l n c))
    (cases_eq j n)

abbrev pub card : Domain → ℕ
card Empty = 0
card Zero = 1
card One = 1
card Open = 2

-- the number of values in the sets of the 256 flags
pub size : Box → ℕ
size b = total (λ f. card (b f)) 256

card-≤ : (d e : Domain) → ((v : Bool) → Has d v → Has e v) → card d ≤ card e
card-≤ Empty e p = omega arith
card-≤ Zero Empty p = absurd (false≢true (p false refl))
card-≤ Zero Zero p = omega arith
card-≤ Zero One p = omega arith
card-≤ Zero Open p = omega arith
card-≤ One Empty p = absurd (false≢true (p true refl))
card-≤ One Zero p = omega arith
card-≤ One One p = omega arith
card-≤ One Open p = omega arith
card-≤ Open Empty p = absurd (false≢true (p true refl))
card-≤ Open Zero p = absurd (false≢true (p true refl))
card-≤ Open One p = absurd (false≢true (p false refl))
card-≤ Open Open p = omega arith

card-< : (d e : Domain) → ((v : Bool) → Has d v → Has e v) → (d ≡ e → ⊥) → card d < card e
card-< Empty Empty p n = absurd (n refl)
card-< Empty Zero p n = omega arith
card-< Empty One p n = omega arith
card-< Empty Open p n = omega arith
card-< Zero Empty p n = absurd (false≢true (p false refl))
card-< Zero Zero p n = absurd (n refl)
card-< Zero One p n = absurd (false≢true (p false refl))
card-< Zero Open p n = omega arith
card-< One Empty p n = absurd (false≢true (p true refl))
card-< One Zero p n = absurd (false≢true (p true refl))
card-< One One p n = absurd (n refl)
card-< One Open p n = omega arith
card-< Open Empty p n = absurd (false≢true (p true refl))
card-< Open Zero p n = absurd (false≢true (p true refl))
card-< Open One p n = absurd (false≢true (p false refl))
card-< Open Open p n = absurd (n refl)

-- a smaller box holds fewer values
pub size-< : (a b : Box) → a ⊆ b → (f : ℕ) → f < 256 → (a f ≡ b f → ⊥) → size a < size b
unfolding size
size-< a b p f l n = total-< (λ g. card (a g)) (λ g. card (b g)) (λ g. card-≤ (a g) (b g) (p g)) f (card-< (a f) (b f) (p f) n) 256 l

pub size_same : (a b : Box) → ((f : ℕ) → a f ≡ b f) → size a ≤ size b
unfolding size
size_same a b e = total-≤ (λ g. card (a g)) (λ g. card (b g)) (λ g. subst (λ d. card (a g) ≤ card d) (e g) (omega arith)) 256

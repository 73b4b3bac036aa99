-- What a chooser may pick.
use Rattle.std.specs.Prelude.{◌≡◌, ℕ, ◌<◌, Bool, Some, None, Option}
use Rattle.model.specs.Boxes.{Box}
use Rattle.model.specs.declared.domain.Domain.TheVariants.{Open}

-- a flag below n and below 256 that is open
pub record Choosable (b : Box) (n f : ℕ) : Type 0 where
  pub below : f < n
  pub held : f < 256
  pub is_open : b f ≡ Open

-- such a flag with the value to try first, or none exactly when there is no such flag
abbrev pub Lawful : Box → ℕ → Option (ℕ × Bool) → Type 0
Lawful b n None = (f : ℕ) → Choosable b n f → ⊥
Lawful b n (Some p) = Choosable b n p.0

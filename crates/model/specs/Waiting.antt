-- What the calls of a scheduler mean, over its set of waiting numbers.
use Rattle.std.specs.Prelude.{◌≡◌, ℕ, ◌<◌, ◌≤◌, Bool, true, false, not, ◌&&◌, ◌||◌, Some, None, Option, ◌==◌}

abbrev pub Bounded : (ℕ → Bool) → Type 0
Bounded w = (k : ℕ) → w k ≡ true → k < 1024

abbrev pub NoneWaits : (ℕ → Bool) → Type 0
NoneWaits w = (k : ℕ) → w k ≡ false

-- below 1,024 the number is added, and the answer is yes; else the answer is no, and nothing changes
pub record Wakes (row : ℕ) {S : Type 0} (before after : S) (waits waits' : ℕ → Bool) (answer : Bool) : Type 0 where
  pub added : row < 1024 → (answer ≡ true) × ((k : ℕ) → waits' k ≡ (k == row || waits k))
  pub refused : 1024 ≤ row → (answer ≡ false) × (after ≡ before)

-- a waiting number is answered and removed; none is answered exactly when none waits
abbrev pub Takes : (ℕ → Bool) → (ℕ → Bool) → Option ℕ → Type 0
Takes waits waits' None = NoneWaits waits × ((k : ℕ) → waits' k ≡ waits k)
Takes waits waits' (Some row) = (waits row ≡ true) × ((k : ℕ) → waits' k ≡ (not (k == row) && waits k))

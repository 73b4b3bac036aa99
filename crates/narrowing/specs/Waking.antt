-- Which numbers wait after rows were woken.
use Rattle.std.specs.Prelude.{◌≡◌, ℕ, ◌<◌, Bool, true, ◌&&◌, ◌||◌, ◌⊎◌, ◌↔◌, List, length, ◌==◌, nat_lt}
use Rattle.model.specs.Rows.{Row, nth_row, row_at, on, On}
use Rattle.model.specs.Rows.{workable}

-- those that waited, and the number of every row that can wait
abbrev pub WokenAll : List Row → (ℕ → Bool) → (ℕ → Bool) → Type 0
WokenAll rows before after = (k : ℕ) → after k ≡ (nat_lt k (length (workable rows)) || before k)

-- those that waited, and the given number if its row has the flag
abbrev pub WokenOne : List Row → ℕ → ℕ → (ℕ → Bool) → (ℕ → Bool) → Type 0
WokenOne rows row f before after = row < 1024 → (k : ℕ) → after k ≡ ((on (row_at rows row) f && k == row) || before k)

-- those that waited, and the number of each such row that has the flag
abbrev pub WokenAt : List Row → ℕ → (ℕ → Bool) → (ℕ → Bool) → Type 0
WokenAt rows f before after = (k : ℕ) → after k ≡ (on (nth_row (workable rows) k) f || before k)

-- the same if the row of the given number has the flag
abbrev pub WokenFor : List Row → ℕ → ℕ → (ℕ → Bool) → (ℕ → Bool) → Type 0
WokenFor rows row f before after = (k : ℕ) → after k ≡ ((on (row_at rows row) f && on (nth_row (workable rows) k) f) || before k)

-- two rows share a flag
abbrev pub Share : Row → Row → Type 0
Share r q = (f : ℕ) × On r f × On q f

-- those that waited, and the number of each such row that shares a flag with the row of the given number
abbrev pub WokenNear : List Row → ℕ → (ℕ → Bool) → (ℕ → Bool) → Type 0
WokenNear rows row before after = (k : ℕ) → (after k ≡ true) ↔ (Share (row_at rows row) (nth_row (workable rows) k) ⊎ (before k ≡ true))

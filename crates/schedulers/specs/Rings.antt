-- The order of a ring: the first waiting number from a place on, going round at 1,024.
use Rattle.std.specs.Prelude.{◌≡◌, ℕ, zero, suc, ◌+◌, ◌%◌, ◌<◌, ◌≤◌, Bool, true, false, cond, ◌⊎◌, List, length, Some, None, Option}
use Rattle.model.specs.Waiting.{Bounded, NoneWaits}
use Rattle.schedulers.specs.Marks.{below_1024, marked}

-- a ring: a mark for each number that waits, and where the round goes on
pub record Round : Type 0 where
  pub waiting : List Bool
  pub next : ℕ

-- the numbers that wait
abbrev pub in_round : Round → ℕ → Bool
in_round round = below_1024 (marked round.waiting)

-- a round has 1,024 numbers, and goes on at one of them
pub record IsRound (round : Round) : Type 0 where
  pub size : length round.waiting ≡ 1024
  pub inside : round.next < 1024

-- what holds of a ring as it stands in memory: none waits from the bound on
pub record Sound (round : Round) (bound : ℕ) : Type 0 where
  pub is_round : IsRound round
  pub limit : bound ≤ 1024
  pub quiet : (k : ℕ) → bound ≤ k → marked round.waiting k ≡ false

-- the number after k, going round
abbrev pub after : ℕ → ℕ
after k = (k + 1) % 1024

-- the first waiting number among the `count` numbers from `start` on
unfoldable pub seek : (ℕ → Bool) → ℕ → ℕ → Option ℕ
seek waits start zero = None
seek waits start (suc count) = cond (waits start) (Some start) (seek waits (after start) count)

-- the round goes on after a number that was taken, and else stays where it was
abbrev pub MovesOn : ℕ → ℕ → Option ℕ → Type 0
MovesOn before next None = next ≡ before
MovesOn before next (Some k) = next ≡ after k

-- k is the first waiting number from `from` on and below `to`
pub record Leads (waits : ℕ → Bool) (from to k : ℕ) : Type 0 where
  pub on : from ≤ k
  pub below : k < to
  pub waiting : waits k ≡ true
  pub first : (j : ℕ) → from ≤ j → j < k → waits j ≡ false

-- the next number of a round that goes on at `start`
abbrev pub Due : (ℕ → Bool) → ℕ → Option ℕ → Type 0
Due waits start None = (None ≡ seek waits start 1024) × NoneWaits waits
Due waits start (Some k) = (Some k ≡ seek waits start 1024) × (waits k ≡ true) × (k < 1024)

-- going round from `start`, no waiting number comes before k
abbrev pub ComesFirst : (ℕ → Bool) → ℕ → ℕ → Type 0
ComesFirst waits start k =
    ((start ≤ k) × ((j : ℕ) → start ≤ j → j < k → waits j ≡ false))
    ⊎ ((k < start) × ((j : ℕ) → start ≤ j → waits j ≡ false) × ((j : ℕ) → j < k → waits j ≡ false))

-- what is sought is the waiting number that comes first, and is none exactly when none waits
pub record InOrder (waits : ℕ → Bool) (start : ℕ) : Type 0 where
  pub found : (k : ℕ) → seek waits start 1024 ≡ Some k → (waits k ≡ true) × ComesFirst waits start k
  pub first : (k : ℕ) → waits k ≡ true → ComesFirst waits start k → seek waits start 1024 ≡ Some k
  pub none : seek waits start 1024 ≡ None → NoneWaits waits
  pub empty : NoneWaits waits → seek waits start 1024 ≡ None

abbrev pub RingOrder : Type 0
RingOrder = (waits : ℕ → Bool) (start : ℕ) → Bounded waits → start < 1024 → InOrder waits start

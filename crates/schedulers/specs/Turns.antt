-- Whose turn it is in a queue, over the calls that were made of it, the latest first.
use Rattle.std.specs.Prelude.{◌≡◌, ℕ, ◌<◌, Bool, true, false, cond, not, ◌&&◌, ◌||◌, List, [], ◌∷◌, length, Some, None, Option, ◌==◌, ◌≢◌, nat_lt}
use Rattle.model.specs.Rows.{elem}
use Rattle.model.specs.Waiting.{NoneWaits}
use Rattle.schedulers.specs.Queues.{joins, serves}

-- a call of a queue
pub data Call : Type 0 where
  wake : ℕ → Call
  take : Call
  clear : Call

-- the line that the calls leave, from an empty one
abbrev pub line_after : List Call → List ℕ
line_after [] = []
line_after (wake k ∷ past) = joins (line_after past) k
line_after (take ∷ past) = (serves (line_after past)).1
line_after (clear ∷ past) = []

-- what a take answers then
abbrev pub turn : List Call → Option ℕ
turn past = (serves (line_after past)).0

-- whether a number was answered
abbrev pub is : ℕ → Option ℕ → Bool
is k None = false
is k (Some j) = k == j

-- whether a number was woken since it was last taken or cleared
abbrev pub woken_since : List Call → ℕ → Bool
woken_since [] k = false
woken_since (wake j ∷ past) k = (k == j && nat_lt k 1024) || woken_since past k
woken_since (take ∷ past) k = not (is k (turn past)) && woken_since past k
woken_since (clear ∷ past) k = false

-- when a number began to wait: the number of calls before the one that woke it, while it did not wait
abbrev pub began : List Call → ℕ → ℕ
began [] k = 0
began (wake j ∷ past) k = cond (k == j && not (woken_since past k)) (length past) (began past k)
began (take ∷ past) k = began past k
began (clear ∷ past) k = began past k

-- the number whose turn it is waits, and every other that waits began later
pub record QueueOrder : Type 0 where
  pub waiting : (past : List Call) (k : ℕ) → elem k (line_after past) ≡ woken_since past k
  pub served : (past : List Call) (k : ℕ) → turn past ≡ Some k → woken_since past k ≡ true
  pub longest : (past : List Call) (k j : ℕ) → turn past ≡ Some k → woken_since past j ≡ true → (j ≢ k) → began past k < began past j
  pub none : (past : List Call) → turn past ≡ None → NoneWaits (woken_since past)

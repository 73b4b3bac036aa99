-- Why the numbers that a scheduler holds are below 1,024.
use Rattle.std.specs.Prelude.{◌≡◌, ℕ, ◌<◌, Bool, true, false, cond, List, length, nat_lt}
use Rattle.std.proofs.Common.{sym, ◌∙◌, inl, inr, arith}
use Rattle.std.proofs.lemmas.Bool.{both_ways, cases_Bool, cases_lt, ltb-true, lt-ltb, and_parts, and_from, and_right}
use Rattle.std.proofs.lemmas.List.{get_or_past}
use Rattle.model.specs.Waiting.{Bounded}
use Rattle.schedulers.specs.Marks.{below_1024, marked}

-- a marked number stands within the list
pub marked_within : (marks : List Bool) (n k : ℕ) → length marks ≡ n → marked marks k ≡ true → k < n
marked_within marks n k e w =
    elim (cases_lt k n) [ inl h ↦ h | inr h ↦ absurd (both_ways (marked marks k) (get_or_past marks k false (omega arith)) w) ]

pub bounded_below : (some : ℕ → Bool) → Bounded (below_1024 some)
bounded_below some k w = ltb-true k 1024 (and_parts (nat_lt k 1024) (some k) w).0

-- where all are below 1,024, those below it are all
pub below_all : (some : ℕ → Bool) → Bounded some → (k : ℕ) → some k ≡ below_1024 some k
below_all some b k =
    elim (cases_Bool (some k)) [
      | inl w ↦ w ∙ sym (and_from (nat_lt k 1024) (some k) (lt-ltb k 1024 (b k w)) w)
      | inr n ↦ n ∙ sym (and_right (nat_lt k 1024) (some k) n)
    ]

-- of two bounded sets of numbers, whichever a test picks
pub bounded_either : (first second : ℕ → Bool) → Bounded first → Bounded second → (test : ℕ → Bool) → Bounded (λ k. cond (test k) (first k) (second k))
bounded_either first second p q test k = go (test k)
  where
    go : (t : Bool) → cond t (first k) (second k) ≡ true → k < 1024
    go true w = p k w
    go false w = q k w

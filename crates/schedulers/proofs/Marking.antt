-- Lists of marks.
use Rattle.std.specs.Prelude.{◌≡◌, ℕ, zero, suc, ◌+◌, ◌<◌, Bool, true, false, cond, not, ◌&&◌, ◌||◌, List, length, replicate, ◌==◌, slice_set, refl}
use Rattle.std.proofs.Common.{arith}
use Rattle.std.proofs.lemmas.List.Sums.{count_by-le-length, sum_by-set}
use Rattle.std.proofs.lemmas.List.{length-set, get_or-set_other}
use Rattle.std.proofs.lemmas.Grind.{common_steps}
use Rattle.std.proofs.lemmas.Bool.Decides.{nat_tests}
use Rattle.schedulers.specs.Marks.{marked, tally}

-- where no mark was set, none is
pub none_marked : (n k : ℕ) → marked (replicate n false) k ≡ false
none_marked zero k = refl
none_marked (suc n) zero = refl
none_marked (suc n) (suc k) = none_marked n k

-- one mark more
pub tally_more : (marks : List Bool) (k : ℕ) → k < length marks → marked marks k ≡ false → tally (slice_set marks k true) ≡ tally marks + 1
tally_more marks k l e =
    let step = rw e at (sum_by-set (λ set. cond set 1 0) marks k true false l) in
    omega arith

-- one mark fewer
pub tally_fewer : (marks : List Bool) (k : ℕ) → k < length marks → marked marks k ≡ true → tally (slice_set marks k false) + 1 ≡ tally marks
tally_fewer marks k l e =
    let step = rw e at (sum_by-set (λ set. cond set 1 0) marks k false false l) in
    omega arith

-- where a mark is not set, not all are
pub tally_room : (marks : List Bool) (k : ℕ) → k < length marks → marked marks k ≡ false → tally marks < length marks
tally_room marks k l e = omega (arith, tally_more marks k l e, count_by-le-length (λ set. set) (slice_set marks k true), length-set marks k true)

pub marked_set : (marks : List Bool) (k : ℕ) → k < length marks → (j : ℕ) → marked (slice_set marks k true) j ≡ (j == k || marked marks j)
marked_set marks k l j = grind (arith, common_steps, nat_tests, get_or-set_other marks k j true false)

pub marked_unset : (marks : List Bool) (k : ℕ) → k < length marks → (j : ℕ) → marked (slice_set marks k false) j ≡ (not (j == k) && marked marks j)
marked_unset marks k l j = grind (arith, common_steps, nat_tests, get_or-set_other marks k j false false)

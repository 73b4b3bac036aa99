-- The round of a ring as it stands in memory, and what holds of every ring.
use Rattle.std.specs.Prelude.{◌≡◌, ℕ, zero, suc, cond, Some, refl}
use Rattle.std.proofs.Common.{ap, ◌∙◌}
use Rattle.schedulers.specs.Bounds.{marked_within, below_all}
use Rattle.schedulers.specs.Marks.{marked}
use Rattle.schedulers.specs.Rings.{Round, after, in_round, seek, IsRound, Sound}
use Rattle.schedulers.specs.declared.ring.Ring.{Ring}

abbrev pub round : Ring → Round
round r = record { waiting = r.waiting; next = r.next }

pub is_round : (r : Ring) → IsRound (round r)
is_round r = record { size = r.size; inside = r.inside }

pub sound : (r : Ring) → Sound (round r) r.bound
sound r = record { is_round = is_round r; limit = r.limit; quiet = r.quiet }

-- the numbers that wait are those in the round
pub waits_in_round : (r : Ring) (k : ℕ) → marked r.waiting k ≡ in_round (round r) k
waits_in_round r k = below_all (marked r.waiting) (λ j. marked_within r.waiting 1024 j r.size) k

-- so the same number is sought among them
pub seek_in_round : (r : Ring) (start count : ℕ) → seek (marked r.waiting) start count ≡ seek (in_round (round r)) start count
unfolding seek
seek_in_round r start zero = refl
seek_in_round r start (suc count) =
    ap (λ t. cond t (Some start) (seek (marked r.waiting) (after start) count)) (waits_in_round r start)
    ∙ ap (λ t. cond (in_round (round r) start) (Some start) t) (seek_in_round r (after start) count)

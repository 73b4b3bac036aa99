-- The line of a queue as it stands in memory, and what holds of every queue.
use Rattle.std.specs.Prelude.{◌≡◌, ℕ, Bool, List}
use Rattle.std.proofs.Common.{◌∙◌}
use Rattle.model.specs.Rows.{elem}
use Rattle.schedulers.specs.Bounds.{marked_within, below_all}
use Rattle.schedulers.specs.Marks.{marked}
use Rattle.schedulers.specs.Queues.{line_of, in_line, IsLine, Sound}
use Rattle.schedulers.specs.declared.queue.Queue.{Queue}

abbrev pub line : Queue → List ℕ
line q = line_of q.order q.start q.len

pub sound : (q : Queue) → Sound q.order q.start q.len q.waiting
sound q = record { places = q.places; marks = q.marks; inside = q.inside; short = q.short; members = q.members; once = q.once; count = q.count }

-- no number stands in the line twice, and none of 1,024 or more
pub sound_line : (order : List ℕ) (start len : ℕ) (waiting : List Bool) → Sound order start len waiting → IsLine (line_of order start len)
sound_line order start len waiting q = record { once = q.once; low = λ k e. marked_within waiting 1024 k q.marks (q.members k ∙ e) }

pub is_line : (q : Queue) → IsLine (line q)
is_line q = sound_line _ _ _ _ (sound q)

-- the numbers that wait are those in the line
pub waits_in_line : (q : Queue) (k : ℕ) → marked q.waiting k ≡ in_line (line q) k
waits_in_line q k = q.members k ∙ below_all (λ j. elem j (line q)) (is_line q).low k

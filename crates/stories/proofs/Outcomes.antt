-- From the outcome of narrowing to that of starting and of telling a fact.
use Rattle.std.proofs.Common.{◌≡◌, ℕ, Bool, List, sym, refl, subst}
use Rattle.model.specs.Rows.{Row}
use Rattle.model.specs.Boxes as boxes
use Rattle.model.specs.Boxes.{Box, open_box, Largest}
use Rattle.model.specs.Facts.{Facts, no_facts, told, LargestUnder, cut}
use Rattle.model.specs.View.{at}
use Rattle.model.specs.declared.boxes.FlagBox.{FlagBox}
use Rattle.model.proofs.Cutting.{largest_from, telling}
use Rattle.narrowing.specs.Narrowing.{Narrowed}
use Rattle.narrowing.specs.declared.Verdict.{Verdict}
use Rattle.narrowing.specs.declared.Verdict.TheVariants.{Alive, Dead}
use Rattle.stories.specs.Telling.{Tells, kept}

-- narrowing the open box finds the largest one under no facts
module _ (rows : List Row) (before after : Box) (e : before ≡ open_box) where
  unfacted : (verdict : Verdict) (n : Narrowed rows before after verdict) → LargestUnder rows no_facts n.largest
  unfacted verdict n = (largest_from rows no_facts n.largest).1 (subst (λ b. Largest rows b n.largest) e n.is_largest)

  pub starts_alive : Narrowed rows before after Alive → LargestUnder rows no_facts after × boxes.Alive after
  starts_alive n = (subst (LargestUnder rows no_facts) (sym n.outcome.1) (unfacted Alive n), subst boxes.Alive (sym n.outcome.1) n.outcome.0)

  pub starts_dead : Narrowed rows before after Dead → (d : Box) × LargestUnder rows no_facts d × boxes.Dead d
  starts_dead n = (n.largest, unfacted Dead n, n.outcome.0)

-- narrowing the box cut to a fact finds the largest one under the facts and this one
module _ (rows : List Row) (held : Facts) (f : ℕ) (v : Bool) (before after : FlagBox) (l : LargestUnder rows held (at before)) where
  under : (verdict : Verdict) (n : Narrowed rows (cut (at before) f v) (at after) verdict) → LargestUnder rows (told held f v) n.largest
  under verdict n = (telling rows held f v (at before) n.largest l).1 n.is_largest

  tells : (verdict : Verdict) → Narrowed rows (cut (at before) f v) (at after) verdict → Tells verdict rows (told held f v) (at before) (at (kept verdict before after))
  tells Alive n = (subst (LargestUnder rows (told held f v)) (sym n.outcome.1) (under Alive n), subst boxes.Alive (sym n.outcome.1) n.outcome.0)
  tells Dead n = ((n.largest, under Dead n, n.outcome.0), refl)

  pub tells_kept : (verdict : Verdict) (end : FlagBox) → Narrowed rows (cut (at before) f v) (at after) verdict → end ≡ kept verdict before after → Tells verdict rows (told held f v) (at before) (at end)
  tells_kept verdict end n e = subst (λ b. Tells verdict rows (told held f v) (at before) (at b)) (sym e) (tells verdict n)

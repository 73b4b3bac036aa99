-- What narrowing by the index means, over what narrowing means.
use Rattle.std.specs.Prelude.{◌≡◌, ℕ, Bool, List}
use Rattle.model.specs.Rows.{Row, workable}
use Rattle.model.specs.Boxes as boxes
use Rattle.model.specs.Boxes.{Box, RowConsistent, Consistent, ◌⊆◌, Largest}
use Rattle.model.specs.Waiting.{NoneWaits}
use Rattle.index.specs.Indexes.{Indexes}
use Rattle.index.specs.declared.Index.{Index}
use Rattle.narrowing.specs.Narrowing.{Narrowed, Pending}
use Rattle.narrowing.specs.declared.Verdict.{Verdict}
use Rattle.narrowing.specs.declared.Verdict.TheVariants.{Alive}

-- two narrowings of one box come to the same verdict, and where that is alive, to the same box
abbrev pub OrdersAgree : Type 0
OrdersAgree = (rows : List Row) (before one other : Box) (x y : Verdict) → Narrowed rows before one x → Narrowed rows before other y → (x ≡ y) × (x ≡ Alive → one ≡ other)

-- what a call that narrows promises: it adds no value, none waits afterwards, and given what it needs, the box is narrowed
pub record Narrows (Needed : Type 0) (rows : List Row) (waits : ℕ → Bool) (before after : Box) (verdict : Verdict) : Type 0 where
  pub down : after ⊆ before
  pub quiet : NoneWaits waits
  pub narrowed : Needed → Narrowed (workable rows) before after verdict

-- narrowing from one more value: the index is the book's, and the box was alive and consistent before
pub record Settled (rows : List Row) (index : Index) (b : Box) : Type 0 where
  pub indexed : Indexes rows index
  pub consistent : Consistent (workable rows) b
  pub alive : boxes.Alive b

-- a box at rest: it is alive, and each row that can wait supports its values
pub record AtRest (rows : List Row) (b : Box) : Type 0 where
  pub alive : boxes.Alive b
  pub consistent : Consistent (workable rows) b

-- striking the rows that wait: the index is the book's, the box is alive, and each row waits or supports its values
pub record Started (rows : List Row) (index : Index) (waits : ℕ → Bool) (b : Box) : Type 0 where
  pub indexed : Indexes rows index
  pub alive : boxes.Alive b
  pub pending : Pending (workable rows) waits b

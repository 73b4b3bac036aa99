-- Narrowing from one more value.
use Rattle.std.proofs.Common.{◌≡◌, ℕ, Bool, ltb, List, None, refl, sym, ap, ◌∙◌, subst, inl, inr, ⊎_elim, arith}
use mathlib.Core.Path.{fun_ext}
use Rattle.std.proofs.lemmas.Bool.{cases_eq, or_left, and_from, lt-ltb}
use Rattle.model.specs.Domains.{cut_set}
use Rattle.model.specs.Rows.{Row, elem, On, AllProper, nth_row, workable}
use Rattle.model.specs.Boxes.{Box}
use Rattle.model.specs.Facts.{cut}
use Rattle.model.specs.Waiting.{NoneWaits}
use Rattle.model.specs.declared.domain.Domain.TheVariants.{Empty}
use Rattle.model.proofs.Cutting.{with_here, with_other}
use Rattle.model.proofs.Striking.{consistent_same}
use Rattle.model.proofs.Workable.{few, row_work, work_proper}
use Rattle.index.specs.Indexes.{rows_with}
use Rattle.index.specs.declared.Index.{Index}
use Rattle.index.proofs.Gathered.{index_finds}
use Rattle.narrowing.specs.Narrowing.{Narrowed}
use Rattle.indexed.specs.Narrowing.{Narrows, Settled, Started}
use Rattle.indexed.specs.Waking.{WokenEach, woken}
use Rattle.narrowing.specs.declared.Verdict.{Verdict}
use Rattle.narrowing.specs.declared.Verdict.TheVariants.{Alive, Dead}
use Rattle.narrowing.proofs.Steps.{dead_already, on_or_off}

module _ (rows : List Row) (fit : AllProper rows) (index : Index) (b : Box) (f : ℕ) (v : Bool) (waits : ℕ → Bool) where
  -- the value was not there any more
  pub cut_dead : cut_set (b f) v ≡ Empty → NoneWaits waits → Narrows (Settled rows index b) rows waits (cut b f v) (cut b f v) Dead
  cut_dead e none = record {
    down = λ g w h. h;
    quiet = none;
    narrowed = λ _. dead_already (workable rows) (work_proper rows fit) (cut b f v) (f, with_here b f (cut_set (b f) v) ∙ e);
  }

  -- the flag had no other value
  pub cut_idle : cut_set (b f) v ≡ b f → NoneWaits waits → Narrows (Settled rows index b) rows waits (cut b f v) (cut b f v) Alive
  cut_idle e none =
      let same : cut b f v ≡ b = fun_ext (λ g. ⊎_elim (λ q. ap (cut b f v) q ∙ with_here b f (cut_set (b f) v) ∙ e ∙ ap b (sym q)) (λ n. with_other b f (cut_set (b f) v) g n) (cases_eq g f)) in
      record {
        down = λ g w h. h;
        quiet = none;
        narrowed = λ s. subst (λ a. Narrowed (workable rows) a a Alive) (sym same)
            (record { largest = b; is_largest = record { consistent = s.consistent; within = λ g w h. h; greatest = λ c k p. p }; outcome = (s.alive, refl) });
      }

  -- only the rows that have the flag can have lost support, and they wait
  module _ (before : ℕ → Bool) (woke : WokenEach None (rows_with index f) before waits) (n : cut_set (b f) v ≡ Empty → ⊥) where
    pub cut_started : Settled rows index b → Started rows index waits (cut b f v)
    cut_started s = record {
      indexed = s.indexed;
      alive = λ g e. ⊎_elim
          (λ q. n (sym (with_here b f (cut_set (b f) v)) ∙ ap (cut b f v) (sym q) ∙ e))
          (λ d. s.alive g (sym (with_other b f (cut_set (b f) v) g d) ∙ e))
          (cases_eq g f);
      pending = λ k l. ⊎_elim
          (λ o. inl (woke k ∙ or_left (woken None (rows_with index f) k) (before k)
          (and_from (ltb k 1024) (elem k (rows_with index f)) (lt-ltb k 1024 (omega (arith, few rows)))
          ((index_finds rows index fit s.indexed).rows_found k f l (subst (λ r. On r f) (sym (row_work rows k (omega (arith, few rows)))) o)))))
          (λ o. inr (consistent_same (nth_row (workable rows) k) b (cut b f v)
          (λ g p. with_other b f (cut_set (b f) v) g (λ q. o (subst (On (nth_row (workable rows) k)) q p)))
          (s.consistent k l)))
          (on_or_off (nth_row (workable rows) k) f);
    }

    pub cut_settled : (waits' : ℕ → Bool) (end : Box) (verdict : Verdict) → Narrows (Started rows index waits (cut b f v)) rows waits' (cut b f v) end verdict → Narrows (Settled rows index b) rows waits' (cut b f v) end verdict
    cut_settled waits' end verdict s = record { down = s.down; quiet = s.quiet; narrowed = λ h. s.narrowed (cut_started h) }

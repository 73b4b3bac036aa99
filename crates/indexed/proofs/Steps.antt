-- One step of settling, over the waiting numbers and the box.
use Rattle.std.proofs.Common.{◌≡◌, ℕ, ◌<◌, Bool, true, not, ◌&&◌, eqb, ltb, ◌⊎◌, List, length, Some, sym, refl, ap, ◌∙◌, subst, inl, inr, ⊎_elim, arith}
use mathlib.Core.Path.{fun_ext}
use Rattle.std.proofs.lemmas.Bool.{cases_Bool, both_ways, or_left, or_right, and_from, ne_eqb, lt-ltb, cond-true, cond-false}
use Rattle.std.specs.List.{list_any}
use Rattle.model.specs.Rows.{Row, elem, on, On, AllProper, nth_row, row_at, workable}
use Rattle.model.specs.Boxes.{Box}
use Rattle.model.specs.Strikes.{Strikes}
use Rattle.model.specs.declared.strike.Strike.TheVariants.{Changed}
use Rattle.model.proofs.Sets.{set_decides}
use Rattle.model.proofs.Striking.{consistent_same, largest_unique}
use Rattle.model.proofs.Workable.{few, row_work, row_there}
use Rattle.index.specs.Indexes.{rows_with, flags_in, Indexes}
use Rattle.index.specs.declared.Index.{Index}
use Rattle.index.proofs.Gathered.{index_finds}
use Rattle.narrowing.specs.Narrowing.{Pending}
use Rattle.narrowing.proofs.Steps.{on_or_off, some_flag, struck}
use Rattle.indexed.specs.Narrowing.{OrdersAgree}
use Rattle.indexed.specs.Waking.{differ, woken, woken_at, WokenFor, CaughtUp}
use Rattle.narrowing.specs.declared.Verdict.TheVariants.{Alive, Dead}
use Rattle.indexed.proofs.Wakes.{some_found, differ_true}

-- two rows share a flag at which two boxes differ, or none
abbrev Lost : Row → Row → Box → Box → Type 0
Lost r q a b = (f : ℕ) × On r f × ((a f ≡ b f → ⊥) × On q f)

lost : (r q : Row) (a b : Box) → Lost r q a b ⊎ (Lost r q a b → ⊥)
lost r q a b = some_flag r (λ f. (a f ≡ b f → ⊥) × On q f) (λ f. ⊎_elim
    (λ e. inr (λ p. p.0 e))
    (λ n. ⊎_elim (λ o. inl (n, o)) (λ o. inr (λ p. o p.1)) (on_or_off q f))
    (set_decides (a f) (b f)))

module _ (rows : List Row) (w w' : ℕ → Bool) (row : ℕ) (low : row < 1024) (before after : Box) (took : (k : ℕ) → w' k ≡ (not (eqb k row) && w k)) where
  module _ (fit : AllProper rows) (index : Index) (i : Indexes rows index) (seen : Box) (seen-is : (f : ℕ) → seen f ≡ before f) (flags : List ℕ) (flags-are : flags ≡ flags_in index row) where
    -- a row that has a flag is there
    there : (f : ℕ) → On (row_at rows row) f → row < length (workable rows)
    there f o = row_there (workable rows) row f (subst (λ r. On r f) (row_work rows row low) o)

    listed_flag : (f : ℕ) → On (row_at rows row) f → elem f flags ≡ true
    listed_flag f o = ap (elem f) flags-are ∙ (index_finds rows index fit i).flags_found row f (there f o) o

    -- another row with a flag that lost a value is woken
    lost_woken : (k : ℕ) → k < length (workable rows) → (k ≡ row → ⊥) → Lost (row_at rows row) (nth_row (workable rows) k) before after → list_any (woken_at index seen after row k) flags ≡ true
    lost_woken k l n (f, o, (d, q)) =
        let p : On (row_at rows k) f = subst (λ r. On r f) (sym (row_work rows k (omega (arith, few rows)))) q in
        some_found (woken_at index seen after row k) flags f (listed_flag f o)
        (and_from (differ (seen f) (after f)) (woken (Some row) (rows_with index f) k) (differ_true (seen f) (after f) (λ e. d (sym (seen-is f) ∙ e)))
        (and_from (ltb k 1024) (not (eqb k row) && elem k (rows_with index f)) (lt-ltb k 1024 (omega (arith, few rows)))
        (and_from (not (eqb k row)) (elem k (rows_with index f)) (ap not (ne_eqb k row n)) ((index_finds rows index fit i).rows_found k f l p))))

    -- a row that shares no such flag supports its values as before
    unlost : (s : Strikes (row_at rows row) before after Changed) (q : Row) → (Lost (row_at rows row) q before after → ⊥) → (f : ℕ) → On q f → after f ≡ before f
    unlost s q n f o = ⊎_elim
        (λ p. ⊎_elim sym (λ d. absurd (n (f, p, (d, o)))) (set_decides (before f) (after f)))
        (λ p. s.left.rest f (both_ways (on (row_at rows row) f) p))
        (cases_Bool (on (row_at rows row) f))

    pub pending_changed : (w'' : ℕ → Bool) → Strikes (row_at rows row) before after Changed → WokenFor index seen after row flags w' w'' → Pending (workable rows) w before → Pending (workable rows) w'' after
    pending_changed w'' s woke p k l = ⊎_elim
        (λ h. inl (woke k ∙ or_right (list_any (woken_at index seen after row k) flags) (w' k) h))
        (λ c. ⊎_elim
        inr
        (λ x. ⊎_elim
        (λ t. inl (woke k ∙ or_left (list_any (woken_at index seen after row k) flags) (w' k) (lost_woken k l x.0 t)))
        (λ n. inr (consistent_same (nth_row (workable rows) k) before after (unlost s (nth_row (workable rows) k) n) x.1))
        (lost (row_at rows row) (nth_row (workable rows) k) before after))
        c)
        (struck rows w w' row low before after took Changed s p k l)

    -- the box seen has caught up
    pub seen_again : (seen' : Box) → Strikes (row_at rows row) before after Changed → CaughtUp flags after seen seen' → (f : ℕ) → seen' f ≡ after f
    seen_again seen' s c f = c f ∙ ⊎_elim
        (λ e. cond-true (elem f flags) (after f) (seen f) e)
        (λ e. cond-false (elem f flags) (after f) (seen f) e ∙ seen-is f ∙ sym (s.left.rest f (λ o. both_ways (elem f flags) e (listed_flag f o))))
        (cases_Bool (elem f flags))

-- the largest box is one, and it is alive or dead
pub orders_agree : OrdersAgree
orders_agree rows before one other Alive Alive n m = (refl, λ _. n.outcome.1 ∙ fun_ext (largest_unique rows before n.largest m.largest n.is_largest m.is_largest) ∙ sym m.outcome.1)
orders_agree rows before one other Dead Dead n m = (refl, λ e. let z : ◌≡◌ {A = ℕ} 0 1 = cc in absurd (omega arith))
orders_agree rows before one other Alive Dead n m =
    absurd (n.outcome.0 m.outcome.0.0 (largest_unique rows before n.largest m.largest n.is_largest m.is_largest m.outcome.0.0 ∙ m.outcome.0.1))
orders_agree rows before one other Dead Alive n m =
    absurd (m.outcome.0 n.outcome.0.0 (largest_unique rows before m.largest n.largest m.is_largest n.is_largest n.outcome.0.0 ∙ n.outcome.0.1))

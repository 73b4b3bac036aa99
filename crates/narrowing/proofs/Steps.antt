-- One step of settling, over the waiting numbers and the box.
use Rattle.std.proofs.Common.{◌≡◌, ℕ, ◌<◌, Bool, true, not, ◌&&◌, eqb, ◌⊎◌, List, [], ◌∷◌, length, sym, refl, ap, ◌∙◌, subst, inl, inr, ⊎_elim}
use Rattle.std.proofs.lemmas.Bool.{cases_Bool, cases_eq, both_ways, or_cases, eqb-true, ne_eqb, false≢true}
use Rattle.model.specs.Domains.{Has}
use Rattle.model.specs.Rows.{Row, elem, on, On, AllProper, nth_row, row_at, workable}
use Rattle.model.specs.Boxes as boxes
use Rattle.model.specs.Boxes.{Box, RowConsistent, Consistent, ◌⊆◌}
use Rattle.model.specs.Strikes.{Strikes, Emptied}
use Rattle.model.specs.Waiting.{NoneWaits}
use Rattle.model.specs.declared.strike.Strike.{Strike}
use Rattle.model.specs.declared.strike.Strike.TheVariants.{Unchanged, Changed, Dead as Died}
use Rattle.model.proofs.Members.{in_here, in_more}
use Rattle.model.proofs.Sets.{inside_empty}
use Rattle.model.proofs.Sizes.{size, size-<}
use Rattle.model.proofs.Striking.{consistent_same, strike_shrinks, strike_keeps, strike_settles, strike_leaves, strike_alive}
use Rattle.model.proofs.Revise.{largest_exists}
use Rattle.narrowing.specs.Narrowing.{Pending, Narrowed}
use Rattle.narrowing.specs.Waking.{WokenNear}
use Rattle.narrowing.specs.declared.Verdict.TheVariants.{Alive, Dead}
use Rattle.model.proofs.Workable.{row_work, row_there, work_proper, flag_below}

-- whether a row has a flag can be told
pub on_or_off : (r : Row) (f : ℕ) → On r f ⊎ (On r f → ⊥)
on_or_off r f = ⊎_elim inl (λ o. inr (both_ways (on r f) o)) (cases_Bool (on r f))

-- a row has a flag of which a fact holds, or none, where it can be told of each flag
pub some_flag : (r : Row) (P : ℕ → Type 0) → ((f : ℕ) → P f ⊎ (P f → ⊥)) → ((f : ℕ) × On r f × P f) ⊎ ((f : ℕ) × On r f × P f → ⊥)
some_flag r P told = go r.flags
  where
    go : (fs : List ℕ) → ((f : ℕ) × (elem f fs ≡ true) × P f) ⊎ ((f : ℕ) × (elem f fs ≡ true) × P f → ⊥)
    go [] = inr (λ s. false≢true s.1)
    go (x ∷ xs) = ⊎_elim
        (λ p. inl (x, in_here x xs, p))
        (λ n. ⊎_elim
        (λ s. inl (s.0, in_more s.0 x xs s.1, s.2))
        (λ m. inr (λ s. ⊎_elim (λ e. n (subst P (eqb-true s.0 x e) s.2)) (λ e. m (s.0, e, s.2)) (or_cases (eqb s.0 x) (elem s.0 xs) s.1)))
        (go xs))
        (told x)

module _ (rows : List Row) (w w' : ℕ → Bool) (row : ℕ) (low : row < 1024) (before after : Box) (took : (k : ℕ) → w' k ≡ (not (eqb k row) && w k)) where
  -- after a strike on the row that was taken, each row waits, or supports its values, or is another one that supported them before
  pub struck : (answer : Strike) → Strikes (row_at rows row) before after answer → Pending (workable rows) w before → (k : ℕ) → k < length (workable rows)
      → (w' k ≡ true) ⊎ (RowConsistent (nth_row (workable rows) k) after ⊎ ((k ≡ row → ⊥) × RowConsistent (nth_row (workable rows) k) before))
  struck answer s p k l = ⊎_elim
      (λ e. inr (inl (subst (λ r. RowConsistent r after) (row_work rows row low ∙ ap (λ j. nth_row (workable rows) j) (sym e)) (strike_settles (row_at rows row) before after s.left))))
      (λ n. ⊎_elim
      (λ h. inl (took k ∙ ap (λ b. not b && w k) (ne_eqb k row n) ∙ h))
      (λ c. inr (inr (n, c)))
      (p k l))
      (cases_eq k row)

  pub pending_unchanged : Strikes (row_at rows row) before after Unchanged → Pending (workable rows) w before → Pending (workable rows) w' after
  pending_unchanged s p k l = ⊎_elim
      inl
      (λ c. inr (⊎_elim (λ x. x) (λ x. consistent_same (nth_row (workable rows) k) before after (λ f _. s.says.1 f) x.1) c))
      (struck Unchanged s p k l)

  pub pending_changed : (w'' : ℕ → Bool) → Strikes (row_at rows row) before after Changed → WokenNear rows row w' w'' → Pending (workable rows) w before → Pending (workable rows) w'' after
  pending_changed w'' s woken p k l = ⊎_elim
      (λ h. inl ((woken k).1 (inr h)))
      (λ c. ⊎_elim
      inr
      (λ x. ⊎_elim
      (λ t. inl ((woken k).1 (inl t)))
      (λ n. inr (strike_leaves (row_at rows row) before after s.left (nth_row (workable rows) k) (λ f o q. n (f, o, q)) x.1))
      (some_flag (row_at rows row) (On (nth_row (workable rows) k)) (on_or_off (nth_row (workable rows) k))))
      c)
      (struck Changed s p k l)

pub size_changed : (rows : List Row) → AllProper rows → (row : ℕ) (before after : Box) → Strikes (row_at rows row) before after Changed → size after < size before
size_changed rows fit row before after s =
    let x = s.says.1 in
    size-< after before (strike_shrinks (row_at rows row) before after s.left) x.0 (flag_below rows fit row x.0 x.1) x.2

-- how far settling has come from a box
pub record Progress (rows : List Row) (top b : Box) : Type 0 where
  pub down : b ⊆ top
  pub up : (c : Box) → Consistent rows c → c ⊆ top → c ⊆ b
  pub alive : boxes.Alive top → boxes.Alive b

pub progress_none : (rows : List Row) (top : Box) → Progress rows top top
progress_none rows top = record { down = λ f v h. h; up = λ c k p. p; alive = λ a. a }

pub progress_same : (rows : List Row) (top a b : Box) → ((f : ℕ) → b f ≡ a f) → Progress rows top a → Progress rows top b
progress_same rows top a b e p =
    record {
      down = λ f v h. p.down f v (subst (λ d. Has d v) (e f) h);
      up = λ c k q f v h. subst (λ d. Has d v) (sym (e f)) (p.up c k q f v h);
      alive = λ t f h. p.alive t f (sym (e f) ∙ h);
    }

-- every row that can wait, also one that is not there, supports the values of a consistent box
any_row : (rows : List Row) (row : ℕ) → row < 1024 → (c : Box) → Consistent (workable rows) c → RowConsistent (row_at rows row) c
any_row rows row low c k =
    subst (λ r. RowConsistent r c) (sym (row_work rows row low)) (λ f o. k row (row_there (workable rows) row f o) f o)

-- a strike takes settling further
module _ (rows : List Row) (row : ℕ) (low : row < 1024) (top before after : Box) where
  pub progress_more : (answer : Strike) → Strikes (row_at rows row) before after answer → (Emptied (row_at rows row) after → ⊥) → Progress (workable rows) top before → Progress (workable rows) top after
  progress_more answer s n p =
      record {
        down = λ f v h. p.down f v (strike_shrinks (row_at rows row) before after s.left f v h);
        up = λ c k q. strike_keeps (row_at rows row) before after s.left c (any_row rows row low c k) (p.up c k q);
        alive = λ t. strike_alive (row_at rows row) before after s.left n (p.alive t);
      }

  pub dead_down : Strikes (row_at rows row) before after Died → Progress (workable rows) top before → after ⊆ top
  dead_down s p f v h = p.down f v (strike_shrinks (row_at rows row) before after s.left f v h)

  -- where a row died, the largest box is dead
  pub narrowed_dead : AllProper rows → Strikes (row_at rows row) before after Died → Progress (workable rows) top before → Narrowed (workable rows) top after Dead
  narrowed_dead fit s p =
      let x = s.says in
      let e = largest_exists (workable rows) (work_proper rows fit) top in
      let l = e.1 in
      let inside : e.0 ⊆ after = strike_keeps (row_at rows row) before after s.left e.0 (any_row rows row low e.0 l.consistent) (p.up e.0 l.consistent l.within) in
      record { largest = e.0; is_largest = l; outcome = ((x.0, inside_empty (e.0 x.0) (after x.0) (inside x.0) x.2), inside, dead_down s p) }

-- where none waits, the box is the largest
pub narrowed_alive : (rows : List Row) (top b : Box) (w : ℕ → Bool) → NoneWaits w → Pending rows w b → boxes.Alive top → Progress rows top b → Narrowed rows top b Alive
narrowed_alive rows top b w none q a p =
    record {
      largest = b;
      is_largest = record { consistent = λ k l. ⊎_elim (λ h. absurd (both_ways (w k) (none k) h)) (λ x. x) (q k l); within = p.down; greatest = p.up };
      outcome = (p.alive a, refl);
    }

-- a box that is dead has a dead largest box
pub dead_already : (rows : List Row) → AllProper rows → (b : Box) → boxes.Dead b → Narrowed rows b b Dead
dead_already rows fit b d =
    let e = largest_exists rows fit b in
    record { largest = e.0; is_largest = e.1; outcome = ((d.0, inside_empty (e.0 d.0) (b d.0) (e.1.within d.0) d.1), e.1.within, λ f v h. h) }

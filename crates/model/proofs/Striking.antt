-- What a strike does to boxes, and what is largest.
use Rattle.std.proofs.Common.{◌≡◌, ℕ, Bool, false, List, sym, refl, ◌∙◌, subst, ⊎_elim}
use Rattle.std.proofs.lemmas.Bool.{cases_Bool, both_ways, false≢true}
use Rattle.model.specs.Domains.{Has}
use Rattle.model.specs.Rows.{Row, on, On, no_row}
use Rattle.model.specs.Boxes.{Box, Supported, RowConsistent, ◌⊆◌, Largest, Alive}
use Rattle.model.specs.Strikes.{Struck, Emptied, Strikes}
use Rattle.model.specs.declared.strike.Strike.TheVariants.{Unchanged}
use Rattle.model.proofs.Sets.{⊆_both}

-- support in a box is support in a larger one
pub supported_more : (r : Row) (a b : Box) → ((f : ℕ) → On r f → (v : Bool) → Has (a f) v → Has (b f) v) → (f : ℕ) (v : Bool) → Supported r a f v → Supported r b f v
supported_more r a b p f v s =
    record { values = s.values; here = s.here; meets = s.meets; inside = λ g o. p g o (s.values g) (s.inside g o) }

-- only a row's own flags count
pub consistent_same : (r : Row) (a b : Box) → ((f : ℕ) → On r f → b f ≡ a f) → RowConsistent r a → RowConsistent r b
consistent_same r a b e c f o v h =
    supported_more r a b (λ g p w k. subst (λ d. Has d w) (sym (e g p)) k) f v (c f o v (subst (λ d. Has d v) (e f o) h))

module _ (r : Row) (before after : Box) (s : Struck r before after) where
  -- a strike removes values and adds none
  pub strike_shrinks : after ⊆ before
  strike_shrinks f v h = ⊎_elim
      (λ o. let t : Supported r before f v = (s.kept f o v).0 h in subst (λ w. Has (before f) w) t.here (t.inside f o))
      (λ o. subst (λ d. Has d v) (s.rest f (both_ways (on r f) o)) h)
      (cases_Bool (on r f))

  -- a strike removes no value of a consistent box
  pub strike_keeps : (c : Box) → RowConsistent r c → c ⊆ before → c ⊆ after
  strike_keeps c k p f v h = ⊎_elim
      (λ o. (s.kept f o v).1 (supported_more r c before (λ g _ w x. p g w x) f v (k f o v h)))
      (λ o. subst (λ d. Has d v) (sym (s.rest f (both_ways (on r f) o))) (p f v h))
      (cases_Bool (on r f))

  -- the row that was struck now supports what is left
  pub strike_settles : RowConsistent r after
  strike_settles f o v h =
      let t : Supported r before f v = (s.kept f o v).0 h in
      record { values = t.values; here = t.here; meets = t.meets; inside = λ g p. (s.kept g p (t.values g)).1 (record { values = t.values; here = refl; meets = t.meets; inside = t.inside }) }

  -- a row that shares no flag with it supports what it supported
  pub strike_leaves : (q : Row) → ((f : ℕ) → On r f → On q f → ⊥) → RowConsistent q before → RowConsistent q after
  strike_leaves q apart c = consistent_same q before after (λ f o. s.rest f (λ p. apart f p o)) c

  -- no set was emptied where the row emptied none
  pub strike_alive : (Emptied r after → ⊥) → Alive before → Alive after
  strike_alive n a f e = ⊎_elim
      (λ o. n (f, o, e))
      (λ o. a f (sym (s.rest f (both_ways (on r f) o)) ∙ e))
      (cases_Bool (on r f))

-- the largest box is the same however it was found
pub largest_unique : (rows : List Row) (top a b : Box) → Largest rows top a → Largest rows top b → (f : ℕ) → a f ≡ b f
largest_unique rows top a b p q = ⊆_both a b (q.greatest a p.consistent p.within) (p.greatest b q.consistent q.within)

pub off : (r : Row) (f : ℕ) → (On r f → ⊥) → on r f ≡ false
off r f n = ⊎_elim (λ o. absurd (n o)) (λ o. o) (cases_Bool (on r f))

-- striking where there is no row
pub strikes_none : (b : Box) → Strikes no_row b b Unchanged
strikes_none b = record {
  left = record { kept = λ f o. absurd (false≢true o); rest = λ f n. refl };
  says = ((λ x. false≢true x.1), λ f. refl);
}
